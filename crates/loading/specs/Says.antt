-- SCOPE 8.5: what each number that loading a card answers says; its cases, one a number, and no others. That the call answers n exactly when its
-- case n holds: proofs/Call.
--   LoadSays s b n          of loading the card b into the sheet s: 0, 11, or the number that refuses the card by itself (2 to 7, 14, 15, 16), by
--                           what it says of the card
use Rattle.std.specs.Prelude.{List, ℕ}
use Rattle.region.specs.declared.refusals.Refusal.TheVariants.{SheetLists}
use Rattle.region.specs.Refusals.{number}
use Rattle.layout.specs.Sheet.{Sheet, RightLists}
use Rattle.card.specs.Good.{GoodCard}
use Rattle.card.specs.Says.{CardSays}

pub data LoadSays (s : Sheet) (b : List ℕ) : ℕ → Type 0 where
  load_done : RightLists s → GoodCard b → LoadSays s b 0
  load_lists : (RightLists s → ⊥) → LoadSays s b (number SheetLists)
  load_card : {n : ℕ} → RightLists s → (GoodCard b → ⊥) → CardSays b n → LoadSays s b n
