-- The list of boxes.
--   box_own, box_other    a box written for a slot is read there, and every other slot keeps its own
--   found_none, found_some    the two answers of the search for the box of what stands in a slot
--   found_length, found_own, found_other    such a box is read in its slot, and every other slot keeps its own
--   boxed_none, boxed_more, boxed_all    slot by slot
--   boxed_empty           where nothing stands any list will do
use mathlib.Core.Path.{◌≡◌, refl, sym, ap, ◌∙◌}
use mathlib.Core.Logic.{◌≢◌}
use mathlib.Core.Bool.{Bool, true, false}
use mathlib.Core.List.{List}
use Prim.Native.Nat.{ℕ, ◌+◌, ◌≤◌, ◌<◌}
use native.Mathlib.Omega.{arith}
use native.Mathlib.Decide.{ℕ_discrete}
use lib.IntN.{ℤ}
use lib.ListN.{length, length-set}
use lib.Seq.{get_or-set_same, get_or-set_other}
use Rattle.plane.specs.Choice.{pick}
use Rattle.plane.specs.declared.Box.{Box}
use Rattle.plane.proofs.Logic.{clash}
use Rattle.region.specs.Region.{Region, nothing, outline, region_of}
use Rattle.relation.specs.Relation.{region_box}
use Rattle.layout.specs.Sheet.{slots}
use Rattle.layout.specs.Standing.{occupied, end_list, coordinate_list}
use Rattle.layout.specs.Slots.{empty_in, region_in, in_slot}
use Rattle.layout.specs.BoxList.{box_at, with_box, box_found, BoxedTo, Boxed}

-- ---- one box
module _ (l : List Box) (i : ℕ) (b : Box) where
  pub box_own : length l ≡ slots → i < slots → box_at (with_box l i b) i ≡ b
  box_own e h = get_or-set_same l i b _ (omega arith)

  pub box_other : (j : ℕ) → j ≢ i → box_at (with_box l i b) j ≡ box_at l j
  box_other j ne = get_or-set_other l i j b _ ne

-- ---- the box of what stands
region_of_lem : {R Q : Region} → outline R ≡ outline Q → R ≡ Q
region_of_lem e = λ i. region_of (coordinate_list (e i)) (end_list (e i))

module _ (xs : List ℤ) (records : List ℕ) (i : ℕ) (l : List Box) where
  pub found_none : empty_in records i ≡ true → l ≡ box_found xs records i l
  unfolding box_found
  found_none e = simp e

  pub found_some : empty_in records i ≡ false → with_box l i (region_box (region_in xs records i)) ≡ box_found xs records i l
  unfolding box_found
  found_some e = simp e

  pub found_length : length (box_found xs records i l) ≡ length l
  unfolding box_found
  found_length = go (empty_in records i)
    where
      go : (t : Bool) → length (pick t l (with_box l i (region_box (region_in xs records i)))) ≡ length l
      go true = refl
      go false = length-set l i (region_box (region_in xs records i))

  pub found_other : (j : ℕ) → j ≢ i → box_at (box_found xs records i l) j ≡ box_at l j
  unfolding box_found
  found_other j ne = go (empty_in records i)
    where
      go : (t : Bool) → box_at (pick t l (with_box l i (region_box (region_in xs records i)))) j ≡ box_at l j
      go true = refl
      go false = box_other l i (region_box (region_in xs records i)) j ne

  pub found_own : length l ≡ slots → i < slots → (R : Region) → in_slot xs records i ≡ outline R → box_at (box_found xs records i l) i ≡ region_box R
  unfolding box_found in_slot
  found_own e h R = go (empty_in records i)
    where
      go : (t : Bool) → pick t nothing (outline (region_in xs records i)) ≡ outline R → box_at (pick t l (with_box l i (region_box (region_in xs records i)))) i ≡ region_box R
      go true q = clash true refl (sym (ap occupied q))
      go false q = box_own l i (region_box (region_in xs records i)) e h ∙ ap region_box (region_of_lem q)

-- ---- slot by slot
module _ (xs : List ℤ) (records : List ℕ) where
  pub boxed_none : (l : List Box) → BoxedTo l xs records 0
  boxed_none l i h = absurd (omega arith)

  pub boxed_more : (l : List Box) (k : ℕ) → length l ≡ slots → k < slots → BoxedTo l xs records k → BoxedTo (box_found xs records k l) xs records (k + 1)
  boxed_more l k e h so_far i m R q =
      elim (ℕ_discrete i k) [
        | yes p ↦ rw p (found_own xs records k l e h R (rw p at q))
        | no p ↦ found_other xs records k l i p ∙ so_far i (omega arith) R q
      ]

  pub boxed_all : (l : List Box) (k : ℕ) → length l ≡ slots → slots ≤ k → BoxedTo l xs records k → Boxed l xs records
  boxed_all l k e h so_far = record { listed = e; each = λ i m. so_far i (omega arith) }

  pub boxed_empty : (l : List Box) → length l ≡ slots → ((i : ℕ) → i < slots → in_slot xs records i ≡ nothing) → Boxed l xs records
  boxed_empty l e none = record { listed = e; each = λ i h R q. clash true refl (ap occupied (sym q ∙ none i h)) }
