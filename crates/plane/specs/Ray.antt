-- SCOPE 4.5: the counting rule behind "enclosed", for any point with a denominator: which edges cross the ray that runs east from it.
-- An edge crosses where it has a point at the pin's height and strictly east of it. Of its ends the lower one counts and the upper one
-- does not, so that two edges that join on the ray count as they should, and a level edge never crosses.
--   Pin                 the point (x/n, y/n)
--   CrossesRay P A B    the edge from A to B crosses the ray strictly east of the pin P, at its point A + (B-A)·k/m, ends included
use Rattle.std.specs.Prelude.{◌≡◌, ◌⊎◌, ℕ, ◌≤◌, ◌<◌, ℤ, pos, ◌*ℤ◌, ◌<ℤ◌, ◌≤ℤ◌}
use Rattle.plane.specs.Points.{Point, along}

pub record Pin : Type 0 where
  pub x : ℤ
  pub y : ℤ
  pub n : ℕ
  pub some : 0 < n

pub record CrossesRay (P : Pin) (A B : Point) : Type 0 where
  pub k : ℕ
  pub m : ℕ
  pub some : 0 < m
  pub closed : k ≤ m
  pub at_height : pos P.n *ℤ along m k A.y B.y ≡ pos m *ℤ P.y
  pub strictly_east : (pos m *ℤ P.x) <ℤ (pos P.n *ℤ along m k A.x B.x)
  pub lower_not_upper : (((pos P.n *ℤ A.y) ≤ℤ P.y) × (P.y <ℤ (pos P.n *ℤ B.y))) ⊎ (((pos P.n *ℤ B.y) ≤ℤ P.y) × (P.y <ℤ (pos P.n *ℤ A.y)))
