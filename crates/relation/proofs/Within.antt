-- An accepted region has, of any box, a tile with room inside the region's own box. An edge that runs along a side of the own box against the turning
-- of the clock has none: its right of travel lies outside. But a clockwise ring has an edge that adds to the turning, seen from the box's south-west
-- corner, and such an edge, moved to its right, still lies between the sides.
--   Shares c lo hi w e    range c of the lines lo and hi has room in common with what lies between w and e
--   tile_within           some tile of the relation shares room with the region's box, in its column and in its row
use mathlib.Core.Path.{◌≡◌, refl, ap}
use mathlib.Core.Logic.{inl}
use mathlib.Core.Bool.{Bool, true, false}
use mathlib.Core.List.{List}
use Prim.Native.Nat.{ℕ, zero, suc, ◌+◌, ◌-◌, ◌*◌, ◌≤◌, ◌<◌}
use native.Mathlib.Omega.{arith}
use native.Mathlib.Decide.{dec_lt}
use native.Mathlib.Nat.{mul-le-mul_left, zero-add}
use lib.Dec.{ltb, eqb}
use lib.ListN.{length}
use lib.IntN.{ℤ}
use borrow.Author.Tests.{ltb-true, eqb-true}
use Rattle.plane.specs.Choice.{pick}
use Rattle.plane.specs.Place.{place_of}
use Rattle.plane.specs.Points.{vertex}
use Rattle.plane.specs.Placed.{Upright}
use Rattle.plane.specs.Folds.{sum_to}
use Rattle.plane.specs.TileSet.{bit}
use Rattle.plane.specs.Tiles.{column_of, row_of}
use Rattle.plane.specs.declared.Box.{Box}
use Rattle.plane.specs.declared.Edge.{Edge}
use Rattle.plane.proofs.Logic.{or_means}
use Rattle.plane.proofs.Folds.{any_means, least_le, greatest_ge}
use Rattle.plane.proofs.TileSet.{set_means}
use Rattle.edge.specs.Drawn.{has}
use Rattle.edge.proofs.Weights.{InCol, EqualEnds}
use Rattle.edge.proofs.MovedEdge.{moved, doubled_box, moved_edge}
use Rattle.edge.proofs.WalkPlaces.{has_meets}
use Rattle.edge.proofs.Drawn.{some_tile}
use Rattle.ring.specs.Edges.{next_of, corner, after, ring_edge}
use Rattle.ring.specs.RingBox.{stretch_box}
use Rattle.ring.specs.RingTiles.{edges_have, ring_has}
use Rattle.ring.specs.Turning.{forward, backward, clockwise}
use Rattle.ring.proofs.Edges.{next_lt, cycle}
use Rattle.region.specs.Region.{Region, start_of, size_of, last_end}
use Rattle.region.specs.Rules.{KeepsRules}
use Rattle.region.proofs.Ends.{ring_in_last}
use Rattle.region.proofs.Keeps.{keeps_fewer, Sized, sized}
use Rattle.relation.specs.Relation.{region_box, region_has, relation_of}
use Rattle.relation.proofs.Spread.{first_clockwise}

abbrev pub Shares : (c lo hi w e : ℕ) → Type 0
Shares zero lo hi w e = w < lo
Shares (suc zero) lo hi w e = (lo < e) × (w < hi) × (lo < hi)
Shares (suc (suc c)) lo hi w e = hi < e

-- ---- one axis: a point between P and Q, which stand between the sides, all numbers doubled
module _ (j k P Q : ℕ) where
  above : (l w : ℕ) → 2 * w + 1 ≤ P → 2 * w + 1 ≤ Q → j * P + k * Q < (j + k) * (2 * l + 1) → w < l
  above l w p q h =
      elim (dec_lt w l) [
        | yes y ↦ y
        | no n ↦
            let p' : 2 * l + 1 ≤ P = omega arith in
            let q' : 2 * l + 1 ≤ Q = omega arith in
            absurd (omega (arith, h, mul-le-mul_left j p', mul-le-mul_left k q'))
      ]

  below : (l e : ℕ) → P ≤ 2 * e + 1 → Q ≤ 2 * e + 1 → (j + k) * (2 * l + 1) < j * P + k * Q → l < e
  below l e p q h =
      elim (dec_lt l e) [
        | yes y ↦ y
        | no n ↦
            let p' : P ≤ 2 * l + 1 = omega arith in
            let q' : Q ≤ 2 * l + 1 = omega arith in
            absurd (omega (arith, h, mul-le-mul_left j p', mul-le-mul_left k q'))
      ]

  apart : (lo hi : ℕ) → (j + k) * (2 * lo + 1) < j * P + k * Q → j * P + k * Q < (j + k) * (2 * hi + 1) → lo < hi
  apart lo hi p q =
      elim (dec_lt lo hi) [
        | yes y ↦ y
        | no n ↦ (let r : 2 * hi + 1 ≤ 2 * lo + 1 = omega arith in absurd (omega (arith, p, q, mul-le-mul_left (j + k) r)))
      ]

  shares : (c lo hi w e : ℕ) → 2 * w + 1 ≤ P → 2 * w + 1 ≤ Q → P ≤ 2 * e + 1 → Q ≤ 2 * e + 1
      → InCol c (2 * lo + 1) (2 * hi + 1) (j + k) (j * P + k * Q) → Shares c lo hi w e
  shares zero lo hi w e p q r s h = above lo w p q h
  shares (suc zero) lo hi w e p q r s h = (below lo e r s h.0, above hi w p q h.1, apart lo hi h.0 h.1)
  shares (suc (suc c)) lo hi w e p q r s h = below hi e r s h

-- ---- an edge moved to its right, in one axis: between the sides, if it was, and does not run up there, nor down along the first side
moved_between : (p q u v w e : ℕ) → w ≤ p → w ≤ q → p ≤ e → q ≤ e → (p ≡ q → u < v → ⊥) → (p ≡ q → v < u → w < p)
    → ((2 * w + 1 ≤ 2 * p + moved p q u v) × (2 * w + 1 ≤ 2 * q + moved p q u v)) × ((2 * p + moved p q u v ≤ 2 * e + 1) × (2 * q + moved p q u v ≤ 2 * e + 1))
unfolding moved
moved_between p q u v w e wp wq pe qe up down = go (eqb p q) refl (ltb u v) refl (ltb v u) refl
  where
    go : (x : Bool) → eqb p q ≡ x → (y : Bool) → ltb u v ≡ y → (z : Bool) → ltb v u ≡ z
        → ((2 * w + 1 ≤ 2 * p + pick x (pick y 2 (pick z 0 1)) 1) × (2 * w + 1 ≤ 2 * q + pick x (pick y 2 (pick z 0 1)) 1))
        × ((2 * p + pick x (pick y 2 (pick z 0 1)) 1 ≤ 2 * e + 1) × (2 * q + pick x (pick y 2 (pick z 0 1)) 1 ≤ 2 * e + 1))
    go false a y b z c = ((omega arith, omega arith), (omega arith, omega arith))
    go true a true b z c = absurd (up (eqb-true p q a) (ltb-true u v b))
    go true a false b true c = let s = eqb-true p q a in let l = down s (ltb-true v u c) in ((omega arith, omega arith), (omega arith, omega arith))
    go true a false b false c = ((omega arith, omega arith), (omega arith, omega arith))

-- ---- an edge that adds to the turning, seen from the corner (w, s)
abbrev Adds : (w s : ℕ) → Edge → Type 0
Adds w s g = g.ax * g.by + s * g.bx + w * g.ay < g.bx * g.ay + s * g.ax + w * g.by

-- in the axis p, with the side w: the turning is (p - w)(v - u) where the edge runs in the other axis, from u to v
adds_not_up : (p u v w : ℕ) → w ≤ p → u < v → p * v + w * u < p * u + w * v → ⊥
adds_not_up p u v w h l a =
    let d = p - w in
    let e = v - u in
    let pd : p ≡ w + d = omega arith in
    let ve : v ≡ u + e = omega arith in
    grow d e (rw (pd, ve) at a)
  where
    grow : (d e : ℕ) → (w + d) * (u + e) + w * u < (w + d) * u + w * (u + e) → ⊥
    grow d e h = omega arith

adds_inside : (p u v w : ℕ) → w ≤ p → p * v + w * u < p * u + w * v → w < p
adds_inside p u v w h a = elim (dec_lt w p) [ yes y ↦ y | no n ↦ (let e : p ≡ w = omega arith in absurd (same (rw e at a))) ]
  where
    same : w * v + w * u < w * u + w * v → ⊥
    same h = omega arith

module _ (a b : Box) (g : Edge) (up : Upright b) (west : (a.west ≤ g.ax) × (a.west ≤ g.bx)) (east : (g.ax ≤ a.east) × (g.bx ≤ a.east))
    (south : (a.south ≤ g.ay) × (a.south ≤ g.by)) (north : (g.ay ≤ a.north) × (g.by ≤ a.north)) (adds : Adds a.west a.south g) where
  upright_adds : g.ax ≡ g.bx → g.ax * g.by + a.west * g.ay < g.ax * g.ay + a.west * g.by
  upright_adds e = cut g.ax g.ay g.by (rw (← e) at adds)
    where
      cut : (x u v : ℕ) → x * v + a.south * x + a.west * u < x * u + a.south * x + a.west * v → x * v + a.west * u < x * u + a.west * v
      cut x u v h = omega arith

  level_adds : g.ay ≡ g.by → g.ay * g.ax + a.south * g.bx < g.ay * g.bx + a.south * g.ax
  level_adds e = cut g.ay g.bx g.ax (rw (← e) at adds)
    where
      cut : (y u v : ℕ) → v * y + a.south * u + a.west * y < u * y + a.south * v + a.west * y → y * v + a.south * u < y * u + a.south * v
      cut y u v h = omega arith

  not_equal : EqualEnds g → ⊥
  not_equal e = same g.ax g.ay (rw (← e.0, ← e.1) at adds)
    where
      same : (x y : ℕ) → x * y + a.south * x + a.west * y < x * y + a.south * x + a.west * y → ⊥
      same x y h = omega arith

  edge_within : (t : ℕ) × (t < 9) × (has b g t ≡ true) × Shares (column_of t) b.west b.east a.west a.east
      × Shares (row_of t) b.south b.north a.south a.north
  unfolding moved_edge doubled_box
  edge_within =
      let (t, h, e) = some_tile b g up not_equal in
      let m = (has_meets b g up not_equal t h).0 e in
      let x =
      moved_between g.ax g.bx g.ay g.by a.west a.east west.0 west.1 east.0 east.1
      (λ q l. adds_not_up g.ax g.ay g.by a.west west.0 l (upright_adds q)) (λ q l. adds_inside g.ax g.ay g.by a.west west.0 (upright_adds q)) in
      let y =
      moved_between g.ay g.by g.bx g.ax a.south a.north south.0 south.1 north.0 north.1
      (λ q l. adds_not_up g.ay g.bx g.ax a.south south.0 l (level_adds q)) (λ q l. adds_inside g.ay g.bx g.ax a.south south.0 (level_adds q)) in (
        t,
        h,
        e,
        shares m.j m.k _ _ (column_of t) b.west b.east a.west a.east x.0.0 x.0.1 x.1.0 x.1.1 m.column,
        shares m.j m.k _ _ (row_of t) b.south b.north a.south a.north y.0.0 y.0.1 y.1.0 y.1.1 m.row,
      )

-- ---- a clockwise ring has such an edge
some_less : (f g : ℕ → ℕ) (n : ℕ) → sum_to f n < sum_to g n → (k : ℕ) × (k < n) × (f k < g k)
unfolding sum_to
some_less f g zero h = absurd (omega arith)
some_less f g (suc n) h =
    elim (dec_lt (f n) (g n)) [ yes y ↦ (n, omega arith, y) | no z ↦ (let x = some_less f g n (omega arith) in (x.0, omega (arith, x.1), x.2)) ]

sum_three : (f x y : ℕ → ℕ) (s w n : ℕ) → sum_to (λ k. f k + s * x k + w * y k) n ≡ sum_to f n + s * sum_to x n + w * sum_to y n
unfolding sum_to
sum_three f x y s w zero = omega arith
sum_three f x y s w (suc n) = omega (arith, sum_three f x y s w n)

some_adds : (xs : List ℤ) (from n w s : ℕ) → clockwise xs from n ≡ true → (k : ℕ) × (k < n) × Adds w s (ring_edge xs from n k)
unfolding clockwise ring_edge
some_adds xs from n w s turn =
    let less : sum_to (forward xs from n) n < sum_to (backward xs from n) n = ltb-true _ _ turn in
    some_less (λ k. forward xs from n k + s * bx k + w * ay k) (λ k. backward xs from n k + s * ax k + w * by k) n
    (omega (
      arith,
      less,
      sum_three (forward xs from n) bx ay s w n,
      sum_three (backward xs from n) ax by s w n,
      ap (λ (z : ℕ). s * z) (cycle (λ i. place_of (vertex xs i).x) from n),
      ap (λ (z : ℕ). w * z) (cycle (λ i. place_of (vertex xs i).y) from n),
    ))
  where
    ax : ℕ → ℕ
    ax k = place_of (corner xs from k).x

    ay : ℕ → ℕ
    ay k = place_of (corner xs from k).y

    bx : ℕ → ℕ
    bx k = place_of (after xs from n k).x

    by : ℕ → ℕ
    by k = place_of (after xs from n k).y

-- ---- the region
module _ {R : Region} (kept : KeepsRules R) where
  sizes : Sized R
  sizes = sized (keeps_fewer (omega arith) kept)

  abbrev box : Box
  box = region_box R

  abbrev size : ℕ
  size = size_of R.ends 0

  abbrev place_x : ℕ → ℕ
  place_x i = place_of (vertex R.coordinates i).x

  abbrev place_y : ℕ → ℕ
  place_y i = place_of (vertex R.coordinates i).y

  -- a vertex of the first ring lies in the region's box
  in_box : (i : ℕ) → i < size → ((box.west ≤ place_x i) × (place_x i ≤ box.east)) × ((box.south ≤ place_y i) × (place_y i ≤ box.north))
  unfolding region_box stretch_box
  in_box i h =
      let last = last_end R.ends - 1 in
      let l : i ≤ last = omega (arith, h, ring_in_last R.ends sizes.grown 0 sizes.some) in
      let z = zero-add i in (
        (
          rw z at (least_le (λ i. place_of (corner R.coordinates 0 i).x) last i l),
          rw z at (greatest_ge (λ i. place_of (corner R.coordinates 0 i).x) last i l),
        ),
        (
          rw z at (least_le (λ i. place_of (corner R.coordinates 0 i).y) last i l),
          rw z at (greatest_ge (λ i. place_of (corner R.coordinates 0 i).y) last i l),
        ),
      )

  pub tile_within : (b : Box) → Upright b
      → (t : ℕ) × (t < 9) × (bit (relation_of b R) t ≡ 1) × Shares (column_of t) b.west b.east box.west box.east
      × Shares (row_of t) b.south b.north box.south box.north
  unfolding relation_of region_has ring_has edges_have ring_edge
  tile_within b up =
      let (k, l, adds) = some_adds R.coordinates 0 size box.west box.south (first_clockwise kept) in
      let A = in_box (0 + k) (rw (zero-add k) l) in
      let B = in_box (next_of 0 size k) (rw (zero-add size) at (next_lt 0 size k l)) in
      let (t, h, e, column, row) =
      edge_within box b (ring_edge R.coordinates 0 size k) up (A.0.0, B.0.0) (A.0.1, B.0.1) (A.1.0, B.1.0) (A.1.1, B.1.1) adds in
      let on-edges : edges_have b R.coordinates 0 size t ≡ true = (any_means (λ i. has b (ring_edge R.coordinates 0 size i) t) size).1 (k, l, e) in
      let on-ring : ring_has b R.coordinates 0 size t ≡ true = (or_means (edges_have b R.coordinates 0 size t) _).1 (inl on-edges) in
      let there : region_has b R t ≡ true =
      (any_means (λ q. ring_has b R.coordinates (start_of R.ends q) (size_of R.ends q) t) (length R.ends)).1 (0, sizes.some, on-ring) in
      (t, h, (set_means (region_has b R) 9 t h).1 there, column, row)
