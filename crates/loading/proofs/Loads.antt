-- A card loads exactly when the sheet's lists have their lengths and the card is good.
use mathlib.Core.Path.{◌≡◌}
use mathlib.Core.Logic.{◌↔◌}
use mathlib.Core.List.{List}
use Prim.Native.Nat.{ℕ}
use Rattle.region.specs.declared.refusals.Refusal.TheVariants.{SheetLists}
use Rattle.region.specs.Refusals.{number_if}
use Rattle.region.proofs.OrElse.{or_else_none, number_if_none}
use Rattle.layout.specs.Sheet.{Sheet, RightLists, wrong_lists}
use Rattle.layout.proofs.RightLists.{lists_mean}
use Rattle.card.specs.Good.{GoodCard}
use Rattle.card.specs.CardNumber.{card_number}
use Rattle.card.proofs.Good.{good_means}
use Rattle.loading.specs.Load.{load_number}

pub loads_exactly : (s : Sheet) (b : List ℕ) → (load_number s b ≡ 0) ↔ (RightLists s × GoodCard b)
unfolding load_number
loads_exactly s b =
    let n = or_else_none (number_if (wrong_lists s) SheetLists) (card_number b) in
    let w = number_if_none (wrong_lists s) SheetLists in (
      λ e. let p = n.0 e in ((lists_mean s).0 (w.0 p.0), (good_means b).0 p.1),
      λ g. n.1 (w.1 ((lists_mean s).1 g.0), (good_means b).1 g.1),
    )
