-- SCOPE 7.4, 7.6, 1.1: the calls that change a sheet, each a function of the lists and the arguments,
-- for every input. A put is refused by 11, 8 and 12, then by rules 1 to 7; a removal by 11, 8 and 12, then by 9; a clearing by 11 alone.
-- A call that is refused leaves the three lists as it found them.
--   put_number s i R, remove_number s i, clear_number s  what the call answers: 0 or the refusal. Test by test: proofs/Orders
--   put s i R, remove s i, clear s                      the sheet at exit
use Rattle.std.specs.Prelude.{ℕ, eqb}
use Rattle.plane.specs.Choice.{pick}
use Rattle.region.specs.Region.{Region, nothing, outline}
use Rattle.region.specs.declared.refusals.Refusal.TheVariants.{SlotEmpty, SheetLists}
use Rattle.region.specs.Refusals.{number_if, or_else}
use Rattle.region.specs.Check.{check_of, number_of}
use Rattle.layout.specs.Sheet.{Sheet, wrong_lists}
use Rattle.layout.specs.Layout.{blank}
use Rattle.layout.specs.Slots.{empty_in}
use Rattle.layout.specs.Changes.{with_parcel, change_number}

unfoldable pub put_number : Sheet → ℕ → Region → ℕ
put_number s i R = or_else (change_number s i) (number_of (check_of R))

unfoldable pub put : Sheet → ℕ → Region → Sheet
put s i R = pick (eqb (put_number s i R) 0) (with_parcel s i (outline R)) s

unfoldable pub remove_number : Sheet → ℕ → ℕ
remove_number s i = or_else (change_number s i) (number_if (empty_in s.records i) SlotEmpty)

unfoldable pub remove : Sheet → ℕ → Sheet
remove s i = pick (eqb (remove_number s i) 0) (with_parcel s i nothing) s

unfoldable pub clear_number : Sheet → ℕ
clear_number s = number_if (wrong_lists s) SheetLists

unfoldable pub clear : Sheet → Sheet
clear s = pick (eqb (clear_number s) 0) blank s
