-- Condition 3: any run of calls on an empty sheet.
--   standing_together   what stands may stand together, and each parcel keeps rules 1 to 7
--   run_layout        the sheet is the layout of what stands
--   run_fresh         and equals a fresh one into which what stands is put once each in rising slot order
--   standing_means    what stands is what was last accepted in its slot and not taken out since;  stands_slot  there is such a slot
use mathlib.Core.Path.{◌≡◌, refl, sym, ◌∙◌, ap}
use mathlib.Core.Logic.{◌↔◌}
use mathlib.Core.Bool.{Bool, true, false}
use mathlib.Core.List.{List, [], ◌∷◌}
use Prim.Native.Nat.{ℕ, zero, suc, ◌≤◌, ◌<◌}
use native.Mathlib.Omega.{arith}
use native.Mathlib.Decide.{ℕ_discrete, dec_lt}
use lib.Dec.{ltb, eqb}
use borrow.Author.Tests.{eq-eqb, ne_eqb, eqb-true, eqb-false, lt-ltb, le-ltb, ltb-true}
use Rattle.plane.specs.Choice.{pick}
use Rattle.plane.specs.Folds.{turns}
use Rattle.plane.proofs.Logic.{never, clash, is_false, and_means}
use Rattle.plane.proofs.Folds.{first_passes}
use Rattle.region.specs.Region.{Region, Parcel, nothing, outline}
use Rattle.region.specs.Check.{check_of, number_of}
use Rattle.region.proofs.Check.{accepted_number}
use Rattle.layout.specs.Sheet.{Sheet, slots}
use Rattle.layout.specs.Standing.{occupied, instead, ParcelKeeps, StandTogether}
use Rattle.layout.specs.Layout.{layout, blank}
use Rattle.layout.proofs.RightLists.{lists_mean}
use Rattle.layout.proofs.Standing.{stand_fewer, stand_instead, stand_same, layout_lists, layout_same}
use Rattle.layout.proofs.Blank.{blank_layout}
use Rattle.calls.specs.Changes as Changes
use Rattle.calls.proofs.Layouts as Layouts
use Rattle.card.specs.Reading.{parcel_count, slot_at, region_at, entry_of, parcel_in}
use Rattle.card.specs.CardNumber.{card_number}
use Rattle.card.specs.Good.{GoodCard}
use Rattle.card.proofs.Good.{good_means}
use Rattle.loading.specs.Load as Load
use Rattle.loading.specs.Load.{load_number}
use Rattle.loading.proofs.Loading.{good_stands}
use Rattle.runs.specs.Runs.{Call, put, remove, clear, load, after_run, AcceptedPut, Spares, put_elsewhere, put_refused, removed_elsewhere, load_refused, Stands, just_put, just_loaded, still, accepts, standing, put_parcel, fresh}

accepts_means : (i : ℕ) (R : Region) → (accepts i R ≡ true) ↔ AcceptedPut i R
accepts_means i R =
    let m = and_means (ltb i slots) (eqb (number_of (check_of R)) 0) in (
      λ t. (ltb-true i slots (m.0 t).0, (accepted_number R).0 (eqb-true _ 0 (m.0 t).1)),
      λ a. m.1 (lt-ltb i slots a.0, eq-eqb _ 0 ((accepted_number R).1 a.1)),
    )

nothing_stands : StandTogether 7 (λ k. nothing)
nothing_stands = record { each = λ k l. tt }

-- ---- one call on a layout
module _ (st : ℕ → Parcel) (stand : StandTogether 7 st) where
  four : StandTogether 4 st
  four = stand_fewer (omega arith) stand

  put_stands : (i : ℕ) (R : Region) (t : Bool) → accepts i R ≡ t → StandTogether 7 (pick t (instead st i (outline R)) st)
  put_stands i R true e = stand_instead i (outline R) ((accepts_means i R).0 e).1 stand
  put_stands i R false e = stand

  put_layout : (i : ℕ) (R : Region) (t : Bool) → accepts i R ≡ t → Changes.put (layout st) i R ≡ layout (pick t (instead st i (outline R)) st)
  put_layout i R true e = Layouts.put_layout st four i R ((accepts_means i R).0 e).0 (put_stands i R true e)
  put_layout i R false e = Layouts.put_layout_refused st four i R (λ a. clash (accepts i R) ((accepts_means i R).1 a) e)

  load_stands : (card : List ℕ) (t : Bool) → eqb (card_number card) 0 ≡ t → StandTogether 7 (pick t (parcel_in card) st)
  load_stands card true e = good_stands card ((good_means card).0 (eqb-true (card_number card) 0 e))
  load_stands card false e = stand

  load_layout : (card : List ℕ) → Load.load (layout st) card ≡ layout (pick (eqb (card_number card) 0) (parcel_in card) st)
  unfolding Load.load load_number
  load_layout card = rw ((lists_mean (layout st)).1 (layout_lists st four)) (go (eqb (card_number card) 0))
    where
      go : (t : Bool) → pick t (layout (parcel_in card)) (layout st) ≡ layout (pick t (parcel_in card) st)
      go true = refl
      go false = refl

-- ---- a run
pub standing_together : (cs : List Call) → StandTogether 7 (standing cs)
standing_together [] = nothing_stands
standing_together (put i R ∷ cs) = put_stands (standing cs) (standing_together cs) i R (accepts i R) refl
standing_together (remove i ∷ cs) = stand_instead i nothing tt (standing_together cs)
standing_together (clear ∷ cs) = nothing_stands
standing_together (load card ∷ cs) = load_stands (standing cs) (standing_together cs) card (eqb (card_number card) 0) refl

pub run_layout : (cs : List Call) → after_run cs ≡ layout (standing cs)
run_layout [] = blank_layout
run_layout (put i R ∷ cs) = ap (λ (s : Sheet). Changes.put s i R) (run_layout cs) ∙ put_layout (standing cs) (standing_together cs) i R (accepts i R) refl
run_layout (remove i ∷ cs) = ap (λ (s : Sheet). Changes.remove s i) (run_layout cs) ∙ Layouts.remove_layout (standing cs) (four (standing cs) (standing_together cs)) i
run_layout (clear ∷ cs) = ap Changes.clear (run_layout cs) ∙ Layouts.clear_layout (standing cs) (four (standing cs) (standing_together cs))
run_layout (load card ∷ cs) = ap (λ (s : Sheet). Load.load s card) (run_layout cs) ∙ load_layout (standing cs) (standing_together cs) card

-- ---- a fresh sheet
-- what stands in the slots below n
below : (ℕ → Parcel) → ℕ → ℕ → Parcel
below st n k = pick (ltb k n) (st k) nothing

module _ (st : ℕ → Parcel) (stand : StandTogether 7 st) where
  below_stand : (n : ℕ) → StandTogether 7 (below st n)
  unfolding below
  below_stand n = record { each = λ k l. go k l (ltb k n) }
    where
      go : (k : ℕ) → k < slots → (t : Bool) → ParcelKeeps 7 (pick t (st k) nothing)
      go k l true = stand.each k l
      go k l false = tt

  one_more : (n k : ℕ) → instead (below st n) n (st n) k ≡ below st (suc n) k
  unfolding below
  one_more n k =
      elim (ℕ_discrete k n) [
        | yes e ↦ simp (eq-eqb k n e, lt-ltb k (suc n) (omega arith)) (ap st (sym e))
        | no e ↦ elim (dec_lt k n) [ yes l ↦ simp (ne_eqb k n e, lt-ltb k n l, lt-ltb k (suc n) (omega arith)) | no l ↦ simp (ne_eqb k n e, le-ltb k n (omega arith), le-ltb k (suc n) (omega arith)) ]
      ]

  -- where nothing stands in slot n, nothing more comes with it
  none_more : (n : ℕ) → st n ≡ nothing → (k : ℕ) → below st n k ≡ below st (suc n) k
  unfolding below
  none_more n e k =
      elim (ℕ_discrete k n) [
        | yes q ↦ simp (le-ltb k n (omega arith), lt-ltb k (suc n) (omega arith)) (sym (ap st q ∙ e))
        | no q ↦ sym (simp (ne_eqb k n q)) ∙ one_more n k
      ]

  put_one : (n : ℕ) → n < slots → put_parcel (layout (below st n)) n (st n) ≡ layout (below st (suc n))
  put_one n l = go (st n) refl
    where
      go : (p : Parcel) → st n ≡ p → put_parcel (layout (below st n)) n p ≡ layout (below st (suc n))
      go nothing e = layout_same (below st n) (below st (suc n)) (λ k h. none_more n e k)
      go (outline R) e =
          let same : (k : ℕ) → k < slots → instead (below st n) n (outline R) k ≡ below st (suc n) k = λ k h. ap (λ (p : Parcel). instead (below st n) n p k) (sym e) ∙ one_more n k in
          Layouts.put_layout (below st n) (stand_fewer (omega arith) (below_stand n)) n R l (stand_same (below st (suc n)) (instead (below st n) n (outline R)) (λ k h. sym (same k h)) (below_stand (suc n)))
          ∙ layout_same (instead (below st n) n (outline R)) (below st (suc n)) same

  fresh_to_lem : (n : ℕ) → n ≤ slots → turns (λ i s. put_parcel s i (st i)) n blank ≡ layout (below st n)
  unfolding turns below
  fresh_to_lem zero h = blank_layout ∙ layout_same (λ k. nothing) (below st 0) (λ k l. sym (simp (le-ltb k 0 (omega arith))))
  fresh_to_lem (suc n) h = ap (λ (s : Sheet). put_parcel s n (st n)) (fresh_to_lem n (omega arith)) ∙ put_one n h

  fresh_layout : fresh st ≡ layout st
  unfolding below
  fresh_layout = fresh_to_lem slots (omega arith) ∙ layout_same (below st slots) st (λ k h. rw (lt-ltb k slots h) refl)

pub run_fresh : (cs : List Call) → after_run cs ≡ fresh (standing cs)
run_fresh cs = run_layout cs ∙ sym (fresh_layout (standing cs) (standing_together cs))

-- ---- what stands
-- a call that spares a slot leaves what stands there
spared : (cs : List Call) {c : Call} (i : ℕ) → Spares i c → standing (c ∷ cs) i ≡ standing cs i
spared cs i (put_elsewhere j R ne) = go (accepts j R)
  where
    go : (t : Bool) → (pick t (instead (standing cs) j (outline R)) (standing cs)) i ≡ standing cs i
    go true = simp (ne_eqb i j (λ e. ne (sym e)))
    go false = refl
spared cs i (put_refused j R refused) = simp (is_false (accepts j R) (λ t. refused ((accepts_means j R).0 t)))
spared cs i (removed_elsewhere j ne) = simp (ne_eqb i j (λ e. ne (sym e)))
spared cs i (load_refused card ne) = simp (ne_eqb (card_number card) 0 (λ e. ne ((good_means card).0 e)))

stands_back : {cs : List Call} {i : ℕ} {R : Region} → Stands cs i R → standing cs i ≡ outline R
stands_back (just_put cs i R a) = simp ((accepts_means i R).1 a, eq-eqb i i refl)
stands_back (just_loaded cs card i R g e) = simp (eq-eqb (card_number card) 0 ((good_means card).1 g)) e
stands_back (still cs c i R s h) = spared cs i s ∙ stands_back h

-- the region of an outline
abbrev region_or : Region → Parcel → Region
region_or Q nothing = Q
region_or Q (outline R) = R

stands_there : (cs : List Call) (i : ℕ) (R : Region) → standing cs i ≡ outline R → Stands cs i R
stands_there [] i R e = never (ap occupied e)
stands_there (put j Q ∷ cs) i R e = go (accepts j Q) refl (ℕ_discrete i j) (stands_there cs i R) e
  where
    go : (t : Bool) → accepts j Q ≡ t → Dec (i ≡ j) → (standing cs i ≡ outline R → Stands cs i R)
        → (pick t (instead (standing cs) j (outline Q)) (standing cs)) i ≡ outline R → Stands (put j Q ∷ cs) i R
    go true q (yes same) rec h =
        let f : outline Q ≡ outline R = simp (eq-eqb i j same) at h in
        rw (same, ← ap (region_or Q) f) (just_put cs j Q ((accepts_means j Q).0 q))
    go true q (no other) rec h = still cs (put j Q) i R (put_elsewhere j Q (λ z. other (sym z))) (rec (simp (ne_eqb i j other) at h))
    go false q d rec h = still cs (put j Q) i R (put_refused j Q (λ a. clash (accepts j Q) ((accepts_means j Q).1 a) q)) (rec h)
stands_there (remove j ∷ cs) i R e = go (ℕ_discrete i j) (stands_there cs i R) e
  where
    go : Dec (i ≡ j) → (standing cs i ≡ outline R → Stands cs i R) → instead (standing cs) j nothing i ≡ outline R → Stands (remove j ∷ cs) i R
    go (yes same) rec h = never (ap occupied (simp (eq-eqb i j same) at h))
    go (no other) rec h = still cs (remove j) i R (removed_elsewhere j (λ z. other (sym z))) (rec (simp (ne_eqb i j other) at h))
stands_there (clear ∷ cs) i R e = never (ap occupied e)
stands_there (load card ∷ cs) i R e = go (eqb (card_number card) 0) refl (stands_there cs i R) e
  where
    go : (t : Bool) → eqb (card_number card) 0 ≡ t → (standing cs i ≡ outline R → Stands cs i R)
        → (pick t (parcel_in card) (standing cs)) i ≡ outline R → Stands (load card ∷ cs) i R
    go true q rec h = just_loaded cs card i R ((good_means card).0 (eqb-true (card_number card) 0 q)) h
    go false q rec h = still cs (load card) i R (load_refused card (λ g. eqb-false (card_number card) 0 q ((good_means card).1 g))) (rec h)

pub standing_means : (cs : List Call) (i : ℕ) (R : Region) → (standing cs i ≡ outline R) ↔ Stands cs i R
standing_means cs i R = (stands_there cs i R, stands_back)

-- ---- a parcel stands in a slot of the sheet
loaded_slot : (b : List ℕ) → GoodCard b → (i : ℕ) (R : Region) → parcel_in b i ≡ outline R → i < slots
unfolding parcel_in entry_of
loaded_slot b good i R e = go (ltb (entry_of b i) (parcel_count b)) refl e
  where
    go : (t : Bool) → ltb (entry_of b i) (parcel_count b) ≡ t → pick t (outline (region_at b (entry_of b i))) nothing ≡ outline R → i < slots
    go true q h =
        let l : entry_of b i < parcel_count b = ltb-true (entry_of b i) (parcel_count b) q in
        let same : slot_at b (entry_of b i) ≡ i = eqb-true (slot_at b (entry_of b i)) i (first_passes (λ j. eqb (slot_at b j) i) (parcel_count b) l) in
        omega (arith, good.slots_low (entry_of b i) l)
    go false q h = never (ap occupied h)

pub stands_slot : {cs : List Call} {i : ℕ} {R : Region} → Stands cs i R → i < slots
stands_slot (just_put cs i R a) = a.0
stands_slot (just_loaded cs card i R good e) = loaded_slot card good i R e
stands_slot (still cs c i R s h) = stands_slot h
