-- When the desk's request `edge` is answered without a tile.
--   asked_none    exactly where the numbers are not eight, one is out of range, the lines are those of no box, or the ends of the edge are equal
use mathlib.Core.Path.{◌≡◌, refl, sym, ◌∙◌, ap}
use mathlib.Core.Logic.{◌↔◌, ◌⊎◌, inl, inr, ⊎_elim}
use mathlib.Core.Bool.{Bool, true, false}
use mathlib.Core.List.{List}
use Prim.Native.Nat.{ℕ}
use lib.Dec.{leb, eqb}
use lib.IntN.{ℤ}
use lib.ListN.{length}
use borrow.Author.Tests.{leb-true}
use Rattle.plane.specs.Choice.{pick}
use Rattle.plane.specs.Placed.{Upright}
use Rattle.plane.specs.declared.Box.{Box}
use Rattle.plane.specs.declared.Edge.{Edge}
use Rattle.plane.proofs.Logic.{never, clash, and_means}
use Rattle.edge.specs.TileList.{stands_in}
use Rattle.edge.specs.Walk.{list_of}
use Rattle.edge.specs.Drawn.{has}
use Rattle.edge.proofs.Weights.{EqualEnds}
use Rattle.edge.proofs.Belongs.{equal_ends_lem}
use Rattle.edge.proofs.TileList.{stands_none}
use Rattle.edge.proofs.WalkSteps.{list_none}
use Rattle.edge.proofs.Drawn.{some_tile}
use Rattle.region.specs.Check.{some_outside}
use Rattle.leg.specs.Asked.{edge_in, box_in, is_upright, asked_list}

upright : (b : Box) → is_upright b ≡ true → Upright b
upright b h =
    let p = (and_means (leb b.west b.east) (leb b.south b.north)).0 h in
    record { x = leb-true _ _ p.0; y = leb-true _ _ p.1 }

-- a list without a tile is that of an edge with equal ends
no_tile : (b : Box) (g : Edge) → Upright b → list_of b g ≡ 0 → EqualEnds g
unfolding has
no_tile b g up h = go (equal_ends_lem g)
  where
    go : Dec (EqualEnds g) → EqualEnds g
    go (yes q) = q
    go (no n) =
        let t = some_tile b g up n in
        clash (stands_in 0 t.0) (ap (λ (v : ℕ). stands_in v t.0) (sym h) ∙ t.2) (stands_none t.0)

module _ (b : Box) (g : Edge) where
  abbrev Reason : (e o u : Bool) → Type 0
  Reason e o u = (e ≡ false) ⊎ ((o ≡ true) ⊎ ((u ≡ false) ⊎ EqualEnds g))

  there : (e o u : Bool) → is_upright b ≡ u → pick e (pick o 0 (pick u (list_of b g) 0)) 0 ≡ 0 → Reason e o u
  there false o u q h = inl refl
  there true true u q h = inr (inl refl)
  there true false false q h = inr (inr (inl refl))
  there true false true q h = inr (inr (inr (no_tile b g (upright b q) h)))

  back : (e o u : Bool) → Reason e o u → pick e (pick o 0 (pick u (list_of b g) 0)) 0 ≡ 0
  back false o u r = refl
  back true true u r = refl
  back true false false r = refl
  back true false true r =
      ⊎_elim (λ p. never (sym p)) (λ s. ⊎_elim (λ p. never p) (λ t. ⊎_elim (λ q. never (sym q)) (λ e. list_none b g e) t) s) r

pub asked_none : (xs : List ℤ)
    → (asked_list xs ≡ 0) ↔ ((eqb (length xs) 8 ≡ false) ⊎ ((some_outside xs ≡ true) ⊎ ((is_upright (box_in xs) ≡ false) ⊎ EqualEnds (edge_in xs))))
unfolding asked_list
asked_none xs =
    let b = box_in xs in
    let g = edge_in xs in
    let n = eqb (length xs) 8 in
    (there b g n (some_outside xs) (is_upright b) refl, back b g n (some_outside xs) (is_upright b))
