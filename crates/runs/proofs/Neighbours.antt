-- How many cells of a row are not 0.
--   others_and_itself     the other parcels, and the one itself, are all that stand
--   neighbours_counted    after any run the row of a standing parcel has as many cells that are not 0 as there are other parcels
use mathlib.Core.Path.{◌≡◌, refl, sym, ap, ap₂, ◌∙◌}
use mathlib.Core.Logic.{◌≢◌}
use mathlib.Core.Bool.{Bool, true, false, not, ◌&&◌}
use mathlib.Core.List.{List}
use Prim.Native.Nat.{ℕ, zero, suc, ◌+◌, ◌<◌}
use native.Mathlib.Omega.{arith}
use native.Mathlib.Decide.{ℕ_discrete}
use native.Mathlib.Nat.{lt_irrefl}
use lib.Dec.{eqb}
use lib.ListN.{get_or}
use borrow.Author.Tests.{eq-eqb, ne_eqb}
use Rattle.plane.specs.Folds.{sum_to}
use Rattle.plane.specs.TileSet.{one_if}
use Rattle.plane.proofs.Folds.{sum_same}
use Rattle.region.specs.Region.{Region, Parcel, nothing, outline}
use Rattle.layout.specs.Sheet.{Sheet, slots}
use Rattle.layout.specs.Standing.{occupied, parcels_below}
use Rattle.reading.proofs.row.Reads as row_reads
use Rattle.runs.specs.Runs.{Call, Stands, standing}
use Rattle.runs.specs.Code.{Ran}
use Rattle.runs.specs.Neighbours.{filled_cells, others}
use Rattle.runs.proofs.Runs.{standing_means}
use Rattle.runs.proofs.Cells.{standing_some}
use Rattle.runs.proofs.Readings as readings

-- ---- the others
module _ (st : ℕ → Parcel) (i : ℕ) where
  abbrev other : ℕ → ℕ
  other k = one_if (occupied (st k) && not (eqb k i))

  abbrev any : ℕ → ℕ
  any k = one_if (occupied (st k))

  elsewhere : (k : ℕ) → k ≢ i → other k ≡ any k
  elsewhere k h = ap (λ (t : Bool). one_if (occupied (st k) && not t)) (ne_eqb k i h) ∙ go (occupied (st k))
    where
      go : (t : Bool) → one_if (t && true) ≡ one_if t
      go true = refl
      go false = refl

  module _ (there : occupied (st i) ≡ true) where
    itself : (k : ℕ) → k ≡ i → (other k ≡ 0) × (any k ≡ 1)
    itself k e = (
      ap₂ (λ (t u : Bool). one_if (t && not u)) (ap (λ (j : ℕ). occupied (st j)) e ∙ there) (eq-eqb k i e),
      ap one_if (ap (λ (j : ℕ). occupied (st j)) e ∙ there),
    )

    summed : (n : ℕ) → i < n → sum_to other n + 1 ≡ sum_to any n
    unfolding sum_to
    summed zero l = absurd (omega arith)
    summed (suc n) l =
        elim (ℕ_discrete n i) [
          | yes e ↦
              let before : sum_to other n ≡ sum_to any n = sum_same other any n (λ k b. elsewhere k (λ z. lt_irrefl k (omega (arith, z, b, e)))) in
              let p = itself n e in
              let o : other n ≡ 0 = p.0 in
              let a : any n ≡ 1 = p.1 in
              omega (arith, before, o, a)
          | no e ↦
              let before : sum_to other n + 1 ≡ sum_to any n = summed n (omega arith) in
              let same : other n ≡ any n = elsewhere n e in
              omega (arith, before, same)
        ]

    pub others_and_itself : i < slots → others st i + 1 ≡ parcels_below st slots
    unfolding others parcels_below
    others_and_itself l = summed slots l

-- ---- a row
module _ {cs : List Call} {s : Sheet} (ran : Ran cs s) (κs : _) (a : _) (r : _) (e : _) (post : row_reads.Post κs a r e) (lent : (a.0.now ≡ s.records) × (a.1.0.now ≡ s.relations)) where
  abbrev slot : ℕ
  slot = a.1.1.0

  module _ (R : Region) (first : Stands cs slot R) where
    abbrev cell : ℕ → ℕ
    cell k = get_or r.now k 0

    abbrev filled : ℕ → ℕ
    filled k = one_if (not (eqb (cell k) 0))

    blank_is : (k : ℕ) → cell k ≡ 0 → filled k ≡ 0
    blank_is k z = ap (λ (t : Bool). one_if (not t)) (eq-eqb (cell k) 0 z)

    each : (k : ℕ) → k < slots → filled k ≡ other (standing cs) slot k
    each k l = go (standing cs k) refl
      where
        go : (p : Parcel) → standing cs k ≡ p → filled k ≡ other (standing cs) slot k
        go nothing h =
            blank_is k (readings.row_empty ran κs a r e post lent R first k l h) ∙ sym (ap (λ (p : Parcel). one_if (occupied p && not (eqb k slot))) h)
        go (outline Q) h =
            elim (ℕ_discrete k slot) [
              | yes x ↦
                  blank_is k (ap (λ (j : ℕ). cell j) x ∙ readings.row_self ran κs a r e post lent R first)
                  ∙ sym (itself (standing cs) slot (ap occupied ((standing_means cs slot R).1 first)) k x).0
              | no x ↦
                  ap (λ (t : Bool). one_if (not t))
                  (ne_eqb (cell k) 0 (λ z. standing_some cs slot k R first Q ((standing_means cs k Q).0 h) (λ y. x (sym y)) (sym (readings.row_cell ran κs a r e post lent R first k l) ∙ z)))
                  ∙ sym (elsewhere (standing cs) slot k x ∙ ap (λ (p : Parcel). one_if (occupied p)) h)
            ]

    pub neighbours_counted : filled_cells r.now ≡ others (standing cs) slot
    unfolding filled_cells others
    neighbours_counted =
        ap (sum_to filled) (readings.row_length ran κs a r e post lent R first)
        ∙ sum_same filled (other (standing cs) slot) slots each
