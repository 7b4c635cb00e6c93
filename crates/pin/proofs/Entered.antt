-- A point of an edge with different ends, its ends included, strictly inside a tile: then the edge has the tile. Close to the point there is one
-- strictly between the ends, still inside; and an edge with a point strictly inside a tile runs along no line of the box.
--   inside_place    a point of an edge inside a range of an axis, by weights in places
--   entered_has     the edge has the tile
use mathlib.Core.Path.{◌≡◌, ap}
use mathlib.Core.Logic.{◌↔◌, ◌⊎◌, inl, inr, ⊎_elim}
use mathlib.Core.Bool.{true}
use Prim.Native.Nat.{ℕ, zero, suc, ◌+◌, ◌*◌, ◌≤◌, ◌<◌}
use native.Mathlib.Omega.{arith}
use native.Mathlib.Nat.{mul-le-mul_left}
use lib.IntN.{ℤ}
use Rattle.plane.specs.Place.{place_of, in_range}
use Rattle.plane.specs.Points.{Point, Lines, along}
use Rattle.plane.specs.Placed.{PointInRange, LinesInRange, box_of, Upright}
use Rattle.plane.specs.Tiles.{Inside, column_of, row_of}
use Rattle.plane.proofs.Logic.{iff_and}
use Rattle.plane.proofs.Points.{before_line, past_line}
use Rattle.edge.specs.Clauses.{Apart, HasTile, inside}
use Rattle.edge.proofs.Weights.{fraction, InCol}

-- ---- one axis: range c of the lines lo and hi, an edge from a to b
module _ (lo hi a b : ℕ) where
  -- between the ends, close to the point with the weights j and k
  near : (j k m : ℕ) → a + b + 2 * lo + 2 * hi < m → (c : ℕ) → InCol c lo hi (j + k) (j * a + k * b)
      → InCol c lo hi (m * j + 1 + (m * k + 1)) ((m * j + 1) * a + (m * k + 1) * b)
  near j k m big zero h = omega (arith, mul-le-mul_left m h)
  near j k m big (suc zero) h = (omega (arith, mul-le-mul_left m h.0), omega (arith, mul-le-mul_left m h.1))
  near j k m big (suc (suc c)) h = omega (arith, mul-le-mul_left m h)

  -- an edge along a line has no point inside a range
  along_none : (j k : ℕ) → lo ≤ hi → a ≡ b → (c : ℕ) → InCol c lo hi (j + k) (j * a + k * b) → (a ≡ lo) ⊎ (a ≡ hi) → ⊥
  along_none j k le same zero h (inl e) = omega (arith, ap (λ z. k * z) same, ap (λ z. (j + k) * z) e)
  along_none j k le same zero h (inr e) = omega (arith, ap (λ z. k * z) same, ap (λ z. (j + k) * z) e, mul-le-mul_left (j + k) le)
  along_none j k le same (suc zero) h (inl e) = omega (arith, ap (λ z. k * z) same, ap (λ z. (j + k) * z) e)
  along_none j k le same (suc zero) h (inr e) = omega (arith, ap (λ z. k * z) same, ap (λ z. (j + k) * z) e)
  along_none j k le same (suc (suc c)) h (inl e) = omega (arith, ap (λ z. k * z) same, ap (λ z. (j + k) * z) e, mul-le-mul_left (j + k) le)
  along_none j k le same (suc (suc c)) h (inr e) = omega (arith, ap (λ z. k * z) same, ap (λ z. (j + k) * z) e)

pub inside_place : (lo hi a b : ℤ) → in_range lo ≡ true → in_range hi ≡ true → in_range a ≡ true → in_range b ≡ true → (j k c : ℕ)
    → Inside c lo hi (j + k) (along (j + k) k a b) ↔ InCol c (place_of lo) (place_of hi) (j + k) (j * place_of a + k * place_of b)
inside_place lo hi a b hl hh ha hb j k zero = before_line a b lo j k ha hb hl
inside_place lo hi a b hl hh ha hb j k (suc zero) = iff_and (past_line a b lo j k ha hb hl) (before_line a b hi j k ha hb hh)
inside_place lo hi a b hl hh ha hb j k (suc (suc c)) = past_line a b hi j k ha hb hh

-- ---- both axes
module _ (L : Lines) (A B : Point) (t : ℕ) (l : LinesInRange L) (ra : PointInRange A) (rb : PointInRange B) (up : Upright (box_of L)) where
  pub entered_has : Apart A B → (j k : ℕ)
      → InCol (column_of t) (place_of L.west) (place_of L.east) (j + k) (j * place_of A.x + k * place_of B.x)
      → InCol (row_of t) (place_of L.south) (place_of L.north) (j + k) (j * place_of A.y + k * place_of B.y) → HasTile L A B t
  entered_has apart j k x y =
      let ax = place_of A.x in
      let bx = place_of B.x in
      let ay = place_of A.y in
      let by = place_of B.y in
      let w = place_of L.west in
      let e = place_of L.east in
      let s = place_of L.south in
      let n = place_of L.north in
      let m = suc (ax + bx + 2 * w + 2 * e + (ay + by + 2 * s + 2 * n)) in
      let j' = m * j + 1 in
      let k' = m * k + 1 in (
        fraction j' k' (omega arith) (omega arith),
        inside apart
            (λ q. along_none w e ax bx j k up.x (ap place_of q.0) (column_of t) x (⊎_elim (λ p. inl (ap place_of p)) (λ p. inr (ap place_of p)) q.1))
            (λ q. along_none s n ay by j k up.y (ap place_of q.0) (row_of t) y (⊎_elim (λ p. inl (ap place_of p)) (λ p. inr (ap place_of p)) q.1))
            ((inside_place L.west L.east A.x B.x l.west l.east ra.x rb.x j' k' (column_of t)).1 (near w e ax bx j k m (omega arith) (column_of t) x))
            ((inside_place L.south L.north A.y B.y l.south l.north ra.y rb.y j' k' (row_of t)).1 (near s n ay by j k m (omega arith) (row_of t) y)),
      )
