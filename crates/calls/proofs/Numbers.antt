-- The numbers that a put, a removal and a clearing answer, and the sheet that each leaves.
--   put_first, put_next, remove_first, remove_next    the number in two steps: 11, 8 and 12, then the call's own
--   put_keeps, put_ready, put_writes, remove_ready    what is known where the call is not refused
--   put_refused, remove_refused, clear_refused    a refused call leaves the sheet
--   put_is, put_done, remove_done, clear_done     and what one that is not refused leaves
use mathlib.Core.Path.{◌≡◌, sym, ap, ◌∙◌, subst}
use mathlib.Core.Logic.{◌≢◌}
use mathlib.Core.Bool.{Bool, false}
use Prim.Native.Nat.{ℕ}
use native.Mathlib.Omega.{arith}
use borrow.Author.Tests.{eq-eqb, ne_eqb}
use Rattle.region.specs.Region.{Region, nothing, outline}
use Rattle.region.specs.Rules.{Keeps, KeepsRules}
use Rattle.region.specs.declared.refusals.Refusal.TheVariants.{SlotEmpty, SheetLists}
use Rattle.region.specs.Refusals.{number_if}
use Rattle.region.specs.Check.{check_of, number_of}
use Rattle.region.proofs.Keeps.{keeps_fewer}
use Rattle.region.proofs.OrElse.{or_else_first, or_else_next, or_else_none}
use Rattle.region.proofs.Check.{accepted_number}
use Rattle.layout.specs.Sheet.{Sheet, wrong_lists}
use Rattle.layout.specs.Layout.{blank}
use Rattle.layout.specs.Slots.{empty_in}
use Rattle.layout.specs.Changes.{with_parcel, change_number}
use Rattle.layout.specs.Steps.{Ready, parcel_of}
use Rattle.layout.proofs.Refusing.{change_means}
use Rattle.layout.proofs.Steps.{outline_parcel}
use Rattle.calls.specs.Changes.{put_number, put, remove_number, remove, clear_number, clear}

-- ---- a put
module _ (s : Sheet) (i : ℕ) (R : Region) where
  module _ (z : put_number s i R ≡ 0) where
    pub put_keeps : KeepsRules R
    unfolding put_number
    put_keeps = (accepted_number R).0 ((or_else_none (change_number s i) (number_of (check_of R))).0 z).1

    four : Keeps 4 R
    four = keeps_fewer (omega arith) put_keeps

    pub put_ready : Ready s i (outline R)
    unfolding put_number
    put_ready = record { change = (change_means s i).0 ((or_else_none (change_number s i) (number_of (check_of R))).0 z).0; keeps = four }

    pub put_writes : Ready s i (parcel_of R)
    put_writes = subst (Ready s i) (sym (outline_parcel R four)) put_ready

    pub put_is : put s i R ≡ with_parcel s i (outline R)
    unfolding put
    put_is = simp (eq-eqb (put_number s i R) 0 z)

    pub put_done : {t : Sheet} → t ≡ with_parcel s i (parcel_of R) → t ≡ put s i R
    put_done e = e ∙ ap (with_parcel s i) (outline_parcel R four) ∙ sym put_is

  pub put_first : change_number s i ≢ 0 → change_number s i ≡ put_number s i R
  unfolding put_number
  put_first z = sym (or_else_first (change_number s i) (number_of (check_of R)) z)

  pub put_next : change_number s i ≡ 0 → number_of (check_of R) ≡ put_number s i R
  unfolding put_number
  put_next z = sym (or_else_next (change_number s i) (number_of (check_of R)) z)

  pub put_refused : put_number s i R ≢ 0 → s ≡ put s i R
  unfolding put
  put_refused z = simp (ne_eqb (put_number s i R) 0 z)

-- ---- a removal
module _ (s : Sheet) (i : ℕ) where
  pub remove_ready : remove_number s i ≡ 0 → Ready s i nothing
  unfolding remove_number
  remove_ready z = record { change = (change_means s i).0 ((or_else_none (change_number s i) (number_if (empty_in s.records i) SlotEmpty)).0 z).0; keeps = tt }

  pub remove_first : change_number s i ≢ 0 → change_number s i ≡ remove_number s i
  unfolding remove_number
  remove_first z = sym (or_else_first (change_number s i) (number_if (empty_in s.records i) SlotEmpty) z)

  pub remove_next : change_number s i ≡ 0 → (t : Bool) → empty_in s.records i ≡ t → number_if t SlotEmpty ≡ remove_number s i
  unfolding remove_number
  remove_next z t e = ap (λ (b : Bool). number_if b SlotEmpty) (sym e) ∙ sym (or_else_next (change_number s i) (number_if (empty_in s.records i) SlotEmpty) z)

  pub remove_refused : remove_number s i ≢ 0 → s ≡ remove s i
  unfolding remove
  remove_refused z = simp (ne_eqb (remove_number s i) 0 z)

  pub remove_done : {t : Sheet} → remove_number s i ≡ 0 → t ≡ with_parcel s i nothing → t ≡ remove s i
  unfolding remove
  remove_done z e = simp (eq-eqb (remove_number s i) 0 z) e

-- ---- a clearing
module _ (s : Sheet) where
  pub clear_refused : {n : ℕ} → n ≢ 0 → n ≡ number_if (wrong_lists s) SheetLists → (n ≡ clear_number s) × (s ≡ clear s)
  unfolding clear clear_number
  clear_refused some e = (e, simp (ne_eqb (number_if (wrong_lists s) SheetLists) 0 (λ q. some (e ∙ q))))

  pub clear_done : {t : Sheet} → wrong_lists s ≡ false → t ≡ blank → (0 ≡ clear_number s) × (t ≡ clear s)
  unfolding clear clear_number
  clear_done w e = (simp w, simp w e)
