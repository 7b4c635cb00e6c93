-- Condition 3 is about the code: a run of calls, each by its own contract.
--   called_after, called_number    a call leaves `after_call`, and answers `call_number`, of the sheet that it found
--   ran_after, ran_layout, ran_fresh    so a run of the code leaves `after_run`: the layout of what stands, number for number a fresh sheet into which
--                                  that is put once each
--   ran_lists, ran_undamaged       the lists have their lengths, and the sheet is undamaged: no call of the run answers 11 or 12
--   ran_parcel                     what is read from a slot of the lists is what stands there
--   ran_put, ran_remove, ran_clear, ran_load    on such a sheet a put answers 0 exactly when there is such a slot and the outline keeps rules 1 to 7, a
--                                  removal exactly when a parcel stands in the slot, a clearing always, a loading exactly when the card is good
use mathlib.Core.Path.{◌≡◌, refl, sym, ◌∙◌, ap}
use mathlib.Core.Logic.{◌↔◌}
use mathlib.Core.List.{List}
use Prim.Native.Nat.{ℕ, ◌<◌}
use native.Mathlib.Omega.{arith}
use borrow.Author.Tests.{eq-eqb}
use Rattle.region.specs.Region.{Region}
use Rattle.layout.specs.Sheet.{Sheet, slots, RightLists}
use Rattle.layout.specs.Standing.{StandTogether}
use Rattle.layout.specs.Layout.{layout, blank}
use Rattle.layout.specs.Slots.{parcel_at}
use Rattle.layout.specs.Damage.{Undamaged}
use Rattle.layout.specs.Changes.{Changeable}
use Rattle.layout.proofs.Standing.{stand_fewer, layout_lists, layout_undamaged, layout_parcel}
use Rattle.calls.specs.Changes as Changes
use Rattle.calls.specs.Says.{put_done, RemoveSays, remove_done, remove_refused, remove_empty, clear_done}
use Rattle.calls.proofs.Numbers.{put_ready, put_keeps}
use Rattle.calls.proofs.Says.{unchangeable_not, put_says, remove_says, clear_says}
use Rattle.card.specs.Good.{GoodCard}
use Rattle.loading.proofs.Loads.{loads_exactly}
use Rattle.runs.specs.Runs.{Call, put, remove, clear, load, after_call, call_number, after_run, AcceptedPut, Stands, standing, fresh}
use Rattle.runs.specs.Code.{Called, put_called, remove_called, clear_called, load_called, Ran, all_zero, cleared, and_then}
use Rattle.runs.proofs.Runs.{standing_together, run_layout, run_fresh, standing_means, stands_slot}

-- ---- one call
pub called_after : {c : Call} {s t : Sheet} {n : ℕ} → Called c s n t → t ≡ after_call c s
called_after (put_called κs a r e post) = post.1
called_after (remove_called κs a r e post) = post.1
called_after (clear_called κs a r e post) = post.1
called_after (load_called κs a r e post) = post.1

pub called_number : {c : Call} {s t : Sheet} {n : ℕ} → Called c s n t → n ≡ call_number c s
called_number (put_called κs a r e post) = post.0
called_number (remove_called κs a r e post) = post.0
called_number (clear_called κs a r e post) = post.0
called_number (load_called κs a r e post) = post.0

-- a clearing that answered 0 leaves the empty sheet
emptied : {c : Call} {s t : Sheet} {n : ℕ} → Called c s n t → c ≡ clear → n ≡ 0 → t ≡ blank
unfolding Changes.clear
emptied {c} {s} {t} {n} h is z = called_after h ∙ ap (λ (d : Call). after_call d s) is ∙ simp (eq-eqb (Changes.clear_number s) 0 (sym (called_number h ∙ ap (λ (d : Call). call_number d s) is) ∙ z))

-- ---- a run
pub ran_after : {cs : List Call} {s : Sheet} → Ran cs s → s ≡ after_run cs
ran_after all_zero = refl
ran_after (cleared h) = emptied h refl refl
ran_after (and_then {cs} {c} {s} {t} {n} r h) = called_after h ∙ ap (after_call c) (ran_after r)

module _ {cs : List Call} {s : Sheet} (ran : Ran cs s) where
  pub ran_layout : s ≡ layout (standing cs)
  ran_layout = ran_after ran ∙ run_layout cs

  pub ran_fresh : s ≡ fresh (standing cs)
  ran_fresh = ran_after ran ∙ run_fresh cs

  four : StandTogether 4 (standing cs)
  four = stand_fewer (omega arith) (standing_together cs)

  pub ran_lists : RightLists s
  ran_lists = rw ran_layout (layout_lists (standing cs) four)

  pub ran_undamaged : Undamaged s
  ran_undamaged = rw ran_layout (layout_undamaged (standing cs) four)

  pub ran_parcel : (i : ℕ) → i < slots → parcel_at s i ≡ standing cs i
  ran_parcel i l = ap (λ (t : Sheet). parcel_at t i) ran_layout ∙ layout_parcel (standing cs) four i l

  -- ---- what the next call answers
  may_change : (i : ℕ) → i < slots → Changeable s i
  may_change i l = record { lists = ran_lists; slot_in = l; undamaged = ran_undamaged }

  pub ran_put : {i : ℕ} {R : Region} {n : ℕ} {t : Sheet} → Called (put i R) s n t → (n ≡ 0) ↔ AcceptedPut i R
  ran_put {i} {R} {n} {t} h =
      rw (called_number h) (λ z. ((put_ready s i R z).change.slot_in, put_keeps s i R z), λ a. (put_says s i R 0).1 (put_done (may_change i a.0) a.1))

  pub ran_remove : {i : ℕ} {n : ℕ} {t : Sheet} → Called (remove i) s n t → (n ≡ 0) ↔ ((R : Region) × Stands cs i R)
  ran_remove {i} {n} {t} h =
      rw (called_number h) (
        λ z. there ((remove_says s i 0).0 z) refl,
        λ x. let l = stands_slot x.1 in (remove_says s i 0).1 (remove_done (may_change i l) x.0 (ran_parcel i l ∙ (standing_means cs i x.0).1 x.1)),
      )
    where
      there : {m : ℕ} → RemoveSays s i m → m ≡ 0 → (R : Region) × Stands cs i R
      there (remove_done ok R e) z = (R, (standing_means cs i R).0 (sym (ran_parcel i ok.slot_in) ∙ e))
      there (remove_refused u) z = absurd (unchangeable_not s i u z)
      there (remove_empty ok e) z = absurd (omega arith)

  pub ran_clear : {n : ℕ} {t : Sheet} → Called clear s n t → n ≡ 0
  ran_clear h = called_number h ∙ (clear_says s 0).1 (clear_done ran_lists)

  pub ran_load : {card : List ℕ} {n : ℕ} {t : Sheet} → Called (load card) s n t → (n ≡ 0) ↔ GoodCard card
  ran_load {card} {n} {t} h = rw (called_number h) (λ z. ((loads_exactly s card).0 z).1, λ good. (loads_exactly s card).1 (ran_lists, good))
