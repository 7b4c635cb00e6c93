-- SCOPE 4.5: what a ring encloses. A point is enclosed where an odd number of the ring's edges cross the ray that runs east from it (plane's
-- Ray). The second part of 4.4 asks this of the centre of the box, which is ((west + east)/2, (south + north)/2).
-- In places a pin (x/n, y/n) is n times its distance from the corner of the range: px = x + n·1,000,000, py = y + n·1,000,000.
--   Enclosed P xs from n     the ring encloses the pin P
--   centre L                 the centre of the box with the lines L
--   eastward ax ay bx by px py    the edge from (ax, ay) to (bx, by) crosses the ray strictly east of (px, py)
--   crosses_at d px py g      the edge g, in places, crosses the ray of the pin with the denominator d and the places px, py.
--                            Its meaning: proofs/Enclosed, `crosses_means`
--   encloses_at d px py xs from n   an odd number of the ring's edges do: `encloses_at_means`
--   encloses b xs from n     the ring encloses the centre of the box b: `encloses_means`
use Rattle.std.specs.Prelude.{◌≡◌, Bool, false, cond, List, ℕ, ◌+◌, ◌*◌, ◌%◌, leb, ltb, eqb, ℤ, ◌+ℤ◌}
use Rattle.std.proofs.Common.{arith}
use Rattle.plane.specs.Points.{Lines}
use Rattle.plane.specs.Ray.{Pin, CrossesRay}
use Rattle.plane.specs.Counting.{Many}
use Rattle.plane.specs.Folds.{sum_to}
use Rattle.plane.specs.TileSet.{one_if}
use Rattle.plane.specs.declared.Box.{Box}
use Rattle.plane.specs.declared.Edge.{Edge}
use Rattle.meet.specs.MeetTest.{leftward, rightward}
use Rattle.ring.specs.Edges.{corner, after, ring_edge}

pub record Enclosed (P : Pin) (xs : List ℤ) (from n : ℕ) : Type 0 where
  pub crossing : ℕ
  pub counted : Many (λ k. CrossesRay P (corner xs from k) (after xs from n k)) n crossing
  pub odd : crossing % 2 ≡ 1

abbrev pub centre : Lines → Pin
centre L = record { x = L.west +ℤ L.east; y = L.south +ℤ L.north; n = 2; some = omega arith }

unfoldable pub eastward : (ax ay bx by px py : ℕ) → Bool
eastward ax ay bx by px py =
    cond (leb ay py) (cond (ltb py by) (ltb (rightward ax ay bx by px py) (leftward ax ay bx by px py)) false)
    (cond (leb by py) (ltb (leftward ax ay bx by px py) (rightward ax ay bx by px py)) false)

unfoldable pub crosses_at : (d px py : ℕ) → Edge → Bool
crosses_at d px py g = eastward (d * g.ax) (d * g.ay) (d * g.bx) (d * g.by) px py

unfoldable pub encloses_at : (d px py : ℕ) → List ℤ → (from n : ℕ) → Bool
encloses_at d px py xs from n = eqb (sum_to (λ k. one_if (crosses_at d px py (ring_edge xs from n k))) n % 2) 1

abbrev pub encloses : Box → List ℤ → (from n : ℕ) → Bool
encloses b xs from n = encloses_at 2 (b.west + b.east) (b.south + b.north) xs from n
