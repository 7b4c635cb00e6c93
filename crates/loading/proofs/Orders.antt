-- The order of refusal, test by test.
--   load_order     11, then the card's own
use mathlib.Core.Path.{◌≡◌, refl}
use mathlib.Core.Bool.{Bool, true, false}
use mathlib.Core.List.{List}
use Prim.Native.Nat.{ℕ}
use Rattle.plane.specs.Choice.{pick}
use Rattle.region.specs.declared.refusals.Refusal.TheVariants.{SheetLists}
use Rattle.region.specs.Refusals.{number, number_if, or_else}
use Rattle.layout.specs.Sheet.{Sheet, wrong_lists}
use Rattle.card.specs.CardNumber.{card_number}
use Rattle.loading.specs.Load.{load_number}

pub load_order : (s : Sheet) (b : List ℕ) → load_number s b ≡ pick (wrong_lists s) (number SheetLists) (card_number b)
unfolding load_number
load_order s b = go (wrong_lists s)
  where
    go : (t : Bool) → or_else (number_if t SheetLists) (card_number b) ≡ pick t (number SheetLists) (card_number b)
    go true = refl
    go false = refl
