-- SCOPE 8.5: loading. 11 refuses it first, then the card's own numbers; a good card replaces the whole sheet, be that damaged or not.
--   load_number s b   what loading the card b into the sheet s answers;  load s b  the sheet at exit
use Rattle.std.specs.Prelude.{List, ℕ, eqb}
use Rattle.plane.specs.Choice.{pick}
use Rattle.region.specs.declared.refusals.Refusal.TheVariants.{SheetLists}
use Rattle.region.specs.Refusals.{number_if, or_else}
use Rattle.layout.specs.Sheet.{Sheet, wrong_lists}
use Rattle.layout.specs.Layout.{layout}
use Rattle.card.specs.Reading.{parcel_in}
use Rattle.card.specs.CardNumber.{card_number}

unfoldable pub load_number : Sheet → List ℕ → ℕ
load_number s b = or_else (number_if (wrong_lists s) SheetLists) (card_number b)

unfoldable pub load : Sheet → List ℕ → Sheet
load s b = pick (eqb (load_number s b) 0) (layout (parcel_in b)) s
