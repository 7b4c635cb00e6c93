-- The boxes of what stands, as the code keeps them beside the sheet while it writes parcels. No promise hangs on these names.
--   box_at boxes i                 the box that the list has for slot i
--   with_box boxes i b             the list with the box b for slot i
--   box_found xs records i boxes   the list with the box of what stands in slot i, or as it was where nothing stands
--   BoxedTo boxes xs records n     the list has the boxes of what stands in the first n slots;  Boxed boxes xs records  in all
use Rattle.std.specs.Prelude.{◌≡◌, List, ℕ, ◌<◌, ℤ, length, get_or, set}
use Rattle.plane.specs.Choice.{pick}
use Rattle.plane.specs.declared.Box.{Box}
use Rattle.region.specs.Region.{Region, outline}
use Rattle.relation.specs.Relation.{region_box}
use Rattle.layout.specs.Sheet.{slots}
use Rattle.layout.specs.Slots.{empty_in, region_in, in_slot}

abbrev pub box_at : List Box → ℕ → Box
box_at boxes i = get_or boxes i (record { west = 0; south = 0; east = 0; north = 0 })

abbrev pub with_box : List Box → ℕ → Box → List Box
with_box boxes i b = set boxes i b

unfoldable pub box_found : List ℤ → List ℕ → ℕ → List Box → List Box
box_found xs records i boxes = pick (empty_in records i) boxes (with_box boxes i (region_box (region_in xs records i)))

abbrev pub BoxedTo : List Box → List ℤ → List ℕ → ℕ → Type 0
BoxedTo boxes xs records n = (i : ℕ) → i < n → (R : Region) → in_slot xs records i ≡ outline R → box_at boxes i ≡ region_box R

pub record Boxed (boxes : List Box) (xs : List ℤ) (records : List ℕ) : Type 0 where
  pub listed : length boxes ≡ slots
  pub each : BoxedTo boxes xs records slots
