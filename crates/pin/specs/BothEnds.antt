-- The ray to the east with the upper end of an edge counted as well: another rule than document 01's, by which the promise on enclosed pins would be
-- false: proofs/Sharp, `upper_unaccounted`.
--   CrossesBothEnds P A B          the edge from A to B, which is not level, has a point strictly east of the pin P and at its height, ends included
--   EnclosedBothEnds P xs from n   an odd number of the ring's edges do
use Rattle.std.specs.Prelude.{◌≡◌, ◌≢◌, List, ℕ, ◌%◌, ◌≤◌, ◌<◌, ℤ, pos, ◌*ℤ◌, ◌<ℤ◌}
use Rattle.plane.specs.Points.{Point, along}
use Rattle.plane.specs.Ray.{Pin}
use Rattle.plane.specs.Counting.{Many}
use Rattle.ring.specs.Edges.{corner, after}

pub record CrossesBothEnds (P : Pin) (A B : Point) : Type 0 where
  pub k : ℕ
  pub m : ℕ
  pub some : 0 < m
  pub closed : k ≤ m
  pub at_height : pos P.n *ℤ along m k A.y B.y ≡ pos m *ℤ P.y
  pub strictly_east : (pos m *ℤ P.x) <ℤ (pos P.n *ℤ along m k A.x B.x)
  pub not_level : A.y ≢ B.y

pub record EnclosedBothEnds (P : Pin) (xs : List ℤ) (from n : ℕ) : Type 0 where
  pub crossing : ℕ
  pub counted : Many (λ k. CrossesBothEnds P (corner xs from k) (after xs from n k)) n crossing
  pub odd : crossing % 2 ≡ 1
