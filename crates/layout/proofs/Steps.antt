-- The steps that write a parcel, and what they come to.
--   outline_parcel   the two lists of a region that keeps rules 1 to 4 are an outline
--   ends_few, vertices_few    the ring ends and the coordinates that are written are few
--   whole_written    once the room and the record are written, the slots may be read
--   boxed_written    and where the boxes of what stood were at hand, those of what then stands are
--   written          once the row and the column are written too, it is the sheet with that parcel in its slot
use mathlib.Core.Path.{◌≡◌, refl, sym, ap₂, ◌∙◌, subst, subst₂}
use mathlib.Core.Bool.{Bool, true, false, ◌&&◌, ◌||◌}
use mathlib.Core.List.{List, []}
use Prim.Native.Nat.{ℕ, ◌+◌, ◌*◌, ◌/◌, ◌%◌, ◌<◌, ◌≤◌}
use native.Mathlib.Omega.{arith}
use native.Mathlib.Decide.{ℕ_discrete}
use lib.Dec.{eqb}
use lib.IntN.{ℤ, pos}
use lib.ListN.{length, get_or}
use lib.Seq.{ext_get_or}
use borrow.Author.Tests.{eqb-true, ne_eqb}
use Rattle.plane.specs.Choice.{pick}
use Rattle.plane.specs.Folds.{turns}
use Rattle.plane.specs.Lists.{stores}
use Rattle.plane.specs.declared.Box.{Box}
use Rattle.plane.proofs.Logic.{and_means}
use Rattle.plane.proofs.Lists.{tab_same}
use Rattle.region.specs.Region.{Region, Parcel, nothing, outline, most_rings}
use Rattle.region.specs.Rules.{Keeps}
use Rattle.relation.specs.Relation.{region_box}
use Rattle.layout.specs.Sheet.{Sheet, sheet_of, slots, room, record_length, relations_length}
use Rattle.layout.specs.Standing.{end_list, coordinate_list, instead}
use Rattle.layout.specs.Layout.{record_number, cell_of}
use Rattle.layout.specs.Slots.{in_slot, parcel_at}
use Rattle.layout.specs.Changes.{with_parcel}
use Rattle.layout.specs.Steps.{Whole, Ready, parcel_of, cell_for, crossed}
use Rattle.layout.specs.BoxList.{box_at, box_found, Boxed}
use Rattle.layout.proofs.Blocks.{stores_block}
use Rattle.layout.proofs.Cross.{cross_tab}
use Rattle.layout.proofs.BoxList.{found_length, found_own, found_other}
use Rattle.layout.proofs.Slots.{keeps_sized, few_rings, few_coordinates}
use Rattle.layout.proofs.Undamaged.{undamaged_whole}
use Rattle.layout.proofs.Written.{with_lists, with_undamaged, parcel_standing}

-- ---- two lent lists as a parcel
empty_list : {A : Type 0} (a : A) (l : List A) → length l ≡ 0 → [] ≡ l
empty_list a l e = ext_get_or a [] l (sym e) (λ k h. absurd (omega arith))

module _ (R : Region) where
  abbrev none : Bool
  none = eqb (length R.ends) 0 && eqb (length R.coordinates) 0

  ends_of : end_list (parcel_of R) ≡ R.ends
  ends_of = go none refl
    where
      go : (b : Bool) → none ≡ b → end_list (pick b nothing (outline R)) ≡ R.ends
      go true e = empty_list 0 R.ends (eqb-true _ _ ((and_means (eqb (length R.ends) 0) _).0 e).0)
      go false e = refl

  coordinates_of : coordinate_list (parcel_of R) ≡ R.coordinates
  coordinates_of = go none refl
    where
      go : (b : Bool) → none ≡ b → coordinate_list (pick b nothing (outline R)) ≡ R.coordinates
      go true e = empty_list (pos 0) R.coordinates (eqb-true _ _ ((and_means (eqb (length R.ends) 0) _).0 e).1)
      go false e = refl

  pub outline_parcel : Keeps 4 R → parcel_of R ≡ outline R
  outline_parcel kept =
      let size = keeps_sized R kept in
      let e : eqb (length R.ends) 0 ≡ false = ne_eqb (length R.ends) 0 (λ q. absurd (omega (arith, size.some, q))) in
      simp e

module _ (s : Sheet) (i : ℕ) (R : Region) (ready : Ready s i (parcel_of R)) where
  pub ends_few : length R.ends ≤ most_rings
  ends_few = rw (ends_of R) at (few_rings (parcel_of R) ready.keeps)

  pub vertices_few : length R.coordinates ≤ room
  vertices_few = rw (coordinates_of R) at (few_coordinates (parcel_of R) ready.keeps)

  after : Sheet
  after = with_parcel s i (parcel_of R)

  module _ {xs : List ℤ} (room-stored : xs ≡ stores (λ k. room * i + k) (λ k. get_or R.coordinates k (pos 0)) room s.coordinates)
      {records : List ℕ} (record-stored : records ≡ stores (λ k. record_length * i + k) (record_number R.ends) record_length s.records) where
    numbers_written : xs ≡ after.coordinates
    unfolding with_parcel after
    numbers_written =
        rw (coordinates_of R)
        (room-stored ∙ stores_block room (omega arith) (pos 0) slots i (λ k. get_or R.coordinates k (pos 0)) s.coordinates ready.change.lists.coordinate_count ready.change.slot_in)

    entries_written : records ≡ after.records
    unfolding with_parcel after
    entries_written =
        rw (ends_of R)
        (record-stored ∙ stores_block record_length (omega arith) 0 slots i (record_number R.ends) s.records ready.change.lists.record_count ready.change.slot_in)

    pub whole_written : Whole xs records
    unfolding after
    whole_written =
        subst₂ Whole (sym numbers_written) (sym entries_written)
        (undamaged_whole (with_parcel s i (parcel_of R)) (with_lists s i (parcel_of R) ready) (with_undamaged s i (parcel_of R) ready))

    -- what the row and the column are written from
    parcel_there : (k : ℕ) → k < slots → in_slot xs records k ≡ instead (parcel_at s) i (parcel_of R) k
    unfolding after
    parcel_there k l = ap₂ (λ (a : List ℤ) (b : List ℕ). in_slot a b k) numbers_written entries_written ∙ parcel_standing s i (parcel_of R) ready k l

    pub boxed_written : {old new : List Box} → Boxed old s.coordinates s.records → new ≡ box_found xs records i old → Boxed new xs records
    boxed_written {old} boxed e =
        subst (λ (l : List Box). Boxed l xs records) (sym e) (record { listed = found_length xs records i old ∙ boxed.listed; each = λ k l Q q. go k l Q q (ℕ_discrete k i) })
      where
        go : (k : ℕ) → k < slots → (Q : Region) → in_slot xs records k ≡ outline Q → Dec (k ≡ i) → box_at (box_found xs records i old) k ≡ region_box Q
        go k l Q q (yes p) = rw p (found_own xs records i old boxed.listed ready.change.slot_in Q (rw p at q))
        go k l Q q (no p) = found_other xs records i old k p ∙ boxed.each k l Q (sym (parcel_there k l ∙ simp (ne_eqb k i p)) ∙ q)

    cells_written : {relations : List ℕ} → relations ≡ turns (crossed (cell_for xs records) i) slots s.relations → relations ≡ after.relations
    unfolding with_parcel after
    cells_written e =
        e ∙ cross_tab (cell_for xs records) i ready.change.slot_in s.relations ready.change.lists.relation_count
        ∙ tab_same _ _ relations_length
        (λ k l. ap₂ (λ (x y : Parcel). pick (eqb (k / slots) i || eqb (k % slots) i) (cell_of x y (eqb (k / slots) (k % slots))) (get_or s.relations k 0))
        (parcel_there (k / slots) (omega arith)) (parcel_there (k % slots) (omega arith)))

    pub written : {relations : List ℕ} → relations ≡ turns (crossed (cell_for xs records) i) slots s.relations
        → sheet_of xs records relations ≡ with_parcel s i (parcel_of R)
    unfolding after
    written e = λ j. sheet_of (numbers_written j) (entries_written j) (cells_written e j)
