-- The orders of refusal, test by test.
--   put_order       11, 8, 12, then rules 1 to 7
--   remove_order    11, 8, 12, then 9
--   read_order      11, 8, then 9
use mathlib.Core.Path.{◌≡◌, refl}
use mathlib.Core.Bool.{Bool, true, false, ◌||◌}
use mathlib.Core.List.{List}
use Prim.Native.Nat.{ℕ}
use lib.Dec.{ltb}
use Rattle.plane.specs.Choice.{pick}
use Rattle.region.specs.Region.{Region}
use Rattle.region.specs.declared.refusals.Refusal.TheVariants.{SlotNumber, SlotEmpty, SheetLists, SheetDamaged}
use Rattle.region.specs.Refusals.{number, number_if, or_else}
use Rattle.region.specs.Check.{check_of, number_of}
use Rattle.layout.specs.Sheet.{Sheet, last_slot, wrong_tables, wrong_lists}
use Rattle.layout.specs.Slots.{empty_in}
use Rattle.layout.specs.Damage.{damaged}
use Rattle.layout.specs.Changes.{change_number}
use Rattle.calls.specs.Changes.{put_number, remove_number}
use Rattle.calls.specs.Readings.{read_number}

-- 11, 8 and 12, and then n
change_then : (a b d : Bool) (n : ℕ) → or_else (or_else (number_if a SheetLists) (or_else (number_if b SlotNumber) (number_if d SheetDamaged))) n
    ≡ pick a (number SheetLists) (pick b (number SlotNumber) (pick d (number SheetDamaged) n))
change_then true b d n = refl
change_then false true d n = refl
change_then false false true n = refl
change_then false false false n = refl

module _ (s : Sheet) (i : ℕ) where
  pub put_order : (R : Region) → put_number s i R ≡ pick (wrong_lists s) (number SheetLists) (pick (ltb last_slot i) (number SlotNumber) (pick (damaged s) (number SheetDamaged) (number_of (check_of R))))
  unfolding put_number change_number
  put_order R = change_then (wrong_lists s) (ltb last_slot i) (damaged s) (number_of (check_of R))

  pub remove_order : remove_number s i
      ≡ pick (wrong_lists s) (number SheetLists) (pick (ltb last_slot i) (number SlotNumber) (pick (damaged s) (number SheetDamaged) (number_if (empty_in s.records i) SlotEmpty)))
  unfolding remove_number change_number
  remove_order = change_then (wrong_lists s) (ltb last_slot i) (damaged s) (number_if (empty_in s.records i) SlotEmpty)

pub read_order : (records relations : List ℕ) (i j : ℕ) → read_number records relations i j
    ≡ pick (wrong_tables records relations) (number SheetLists) (pick (ltb last_slot i || ltb last_slot j) (number SlotNumber) (pick (empty_in records i || empty_in records j) (number SlotEmpty) 0))
unfolding read_number
read_order records relations i j = go (wrong_tables records relations) (ltb last_slot i || ltb last_slot j) (empty_in records i || empty_in records j)
  where
    go : (a b d : Bool) → or_else (number_if a SheetLists) (or_else (number_if b SlotNumber) (number_if d SlotEmpty)) ≡ pick a (number SheetLists) (pick b (number SlotNumber) (pick d (number SlotEmpty) 0))
    go true b d = refl
    go false true d = refl
    go false false d = refl
