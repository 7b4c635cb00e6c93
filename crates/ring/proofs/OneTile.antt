-- A ring with all its vertices strictly inside one tile: every edge is one piece in that tile.
--   RingIn b c r xs from n    its vertices lie strictly inside column c and row r of the box b
--   in_tile_has        it has that tile where one of its edges runs at all;  in_tile_only  and no other
--   in_tile_pieces     each of its edges is one piece
use mathlib.Core.Path.{◌≡◌, refl, sym, ◌∙◌}
use mathlib.Core.Logic.{inl, ⊎_elim}
use mathlib.Core.Bool.{true, false}
use mathlib.Core.List.{List}
use Prim.Native.Nat.{ℕ, zero, suc, ◌+◌, ◌-◌, ◌≤◌, ◌<◌}
use native.Mathlib.Omega.{arith}
use lib.Dec.{eqb}
use lib.IntN.{ℤ}
use borrow.Author.Tests.{eq-eqb, eqb-true}
use Rattle.plane.specs.Place.{place_of}
use Rattle.plane.specs.Points.{vertex}
use Rattle.plane.specs.Placed.{Upright}
use Rattle.plane.specs.declared.Box.{Box}
use Rattle.plane.proofs.Logic.{clash, is_false, and_means, or_means}
use Rattle.plane.proofs.Folds.{any_means, sum_le, sum_ge, least_is, greatest_is}
use Rattle.edge.specs.Drawn.{has, pieces}
use Rattle.edge.specs.Walk.{tile_of}
use Rattle.edge.proofs.Weights.{InCol, EqualEnds}
use Rattle.edge.proofs.Belongs.{equal_ends_lem}
use Rattle.edge.proofs.OneTile.{one_tile, one_piece, tile_lt}
use Rattle.edge.proofs.WalkPlaces.{has_none}
use Rattle.ring.specs.Edges.{corner, next_of, ring_edge}
use Rattle.ring.specs.RingBox.{stretch_box, covers}
use Rattle.ring.specs.Enclosed.{encloses}
use Rattle.ring.specs.RingTiles.{edges_have, ring_has, ring_pieces}
use Rattle.ring.proofs.Edges.{next_from, next_lt}
use Rattle.ring.proofs.RingBox.{covers_places}

pub record RingIn (b : Box) (c r : ℕ) (xs : List ℤ) (from n : ℕ) : Type 0 where
  pub column : (i : ℕ) → from ≤ i → i < from + n → InCol c b.west b.east 1 (place_of (vertex xs i).x)
  pub row : (i : ℕ) → from ≤ i → i < from + n → InCol r b.south b.north 1 (place_of (vertex xs i).y)

module _ (b : Box) (up : Upright b) (c r : ℕ) (cl : c < 3) (rl : r < 3) (xs : List ℤ) (from n : ℕ) (some : 0 < n) (inside : RingIn b c r xs from n) where
  abbrev tile : ℕ
  tile = tile_of c r

  -- ---- the edges
  module _ (k : ℕ) (l : k < n) where
    next : (from ≤ next_of from n k) × (next_of from n k < from + n)
    next = (next_from from n k l, next_lt from n k l)

    edge_tile : (EqualEnds (ring_edge xs from n k) → ⊥) → (t : ℕ) → t < 9 → has b (ring_edge xs from n k) t ≡ eqb t tile
    unfolding ring_edge
    edge_tile =
        one_tile b (ring_edge xs from n k) up c r cl rl (inside.column (from + k) (omega arith) (omega arith)) (inside.column (next_of from n k) next.0 next.1)
        (inside.row (from + k) (omega arith) (omega arith)) (inside.row (next_of from n k) next.0 next.1)

    edge_piece : pieces b (ring_edge xs from n k) ≡ 1
    unfolding ring_edge
    edge_piece =
        one_piece b (ring_edge xs from n k) up c r cl rl (inside.column (from + k) (omega arith) (omega arith)) (inside.column (next_of from n k) next.0 next.1)
        (inside.row (from + k) (omega arith) (omega arith)) (inside.row (next_of from n k) next.0 next.1)

    edge_only : (t : ℕ) → t < 9 → has b (ring_edge xs from n k) t ≡ true → t ≡ tile
    edge_only t h e = elim (equal_ends_lem (ring_edge xs from n k)) [
      | yes q ↦ clash _ e (has_none b (ring_edge xs from n k) q t)
      | no ns ↦ eqb-true t tile (sym (edge_tile ns t h) ∙ e)
    ]

  pub in_tile_pieces : ring_pieces b xs from n ≡ n
  unfolding ring_pieces
  in_tile_pieces =
      let f : ℕ → ℕ = λ k. pieces b (ring_edge xs from n k) in
      omega (
        arith,
        sum_le f n 1 (λ k l. omega (arith, edge_piece k l)),
        sum_ge f n 1 (λ k l. omega (arith, edge_piece k l)),
      )

  -- ---- its own box lies inside the tile too, and so does not cover b
  not_covering : covers (stretch_box xs from n) b ≡ false
  unfolding stretch_box
  not_covering =
      is_false _ (λ h.
      let p = (covers_places (stretch_box xs from n) b).0 h in
      let w = least_is (λ i. place_of (corner xs from i).x) (n - 1) in
      let e = greatest_is (λ i. place_of (corner xs from i).x) (n - 1) in
      go c cl (omega (arith, p.0, w.2)) (omega (arith, p.2, e.2))
      (inside.column (from + w.0) (omega arith) (omega (arith, w.1))) (inside.column (from + e.0) (omega arith) (omega (arith, e.1))))
    where
      go : (c : ℕ) → c < 3 → {x y : ℕ} → x ≤ b.west → b.east ≤ y → InCol c b.west b.east 1 x → InCol c b.west b.east 1 y → ⊥
      go zero l p q s t = omega (arith, up.x)
      go (suc zero) l p q s t = omega (arith, s.0)
      go (suc (suc zero)) l p q s t = omega (arith, up.x)
      go (suc (suc (suc c))) l p q s t = omega arith

  pub in_tile_only : (t : ℕ) → t < 9 → ring_has b xs from n t ≡ true → t ≡ tile
  unfolding ring_has edges_have
  in_tile_only t h e =
      ⊎_elim (λ p. let x = (any_means (λ k. has b (ring_edge xs from n k) t) n).0 p in edge_only x.0 x.1 t h x.2)
      (λ p. clash _ ((and_means (covers (stretch_box xs from n) b) (encloses b xs from n)).0 ((and_means (eqb t 4) _).0 p).1).0 not_covering)
      ((or_means (edges_have b xs from n t) _).0 e)

  pub in_tile_has : (k : ℕ) → k < n → (EqualEnds (ring_edge xs from n k) → ⊥) → ring_has b xs from n tile ≡ true
  unfolding ring_has edges_have
  in_tile_has k l ns =
      (or_means (edges_have b xs from n tile) _).1
      (inl ((any_means (λ k. has b (ring_edge xs from n k) tile) n).1 (k, l, edge_tile k l ns tile (tile_lt c r cl rl) ∙ eq-eqb tile tile refl)))
