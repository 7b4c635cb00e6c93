-- The ray taken to the west, with the same counting of ends: another rule than document 01's, as it gives another answer for a pin on an edge. What holds of
-- enclosed pins holds by this rule too: proofs/West, `west_accounted`.
--   CrossesWest P A B          the edge from A to B crosses the ray strictly west of the pin P: its lower end counts, its upper does not
--   EnclosedWest P xs from n   an odd number of the ring's edges do
use Rattle.std.specs.Prelude.{◌≡◌, List, ℕ, ◌%◌, ◌≤◌, ◌<◌, ℤ, pos, ◌*ℤ◌, ◌<ℤ◌}
use Rattle.plane.specs.Points.{Point, along}
use Rattle.plane.specs.Ray.{Pin}
use Rattle.plane.specs.Counting.{Many}
use Rattle.ring.specs.Edges.{corner, after}
use Rattle.pin.specs.Segments.{CrossesLevel}

pub record CrossesWest (P : Pin) (A B : Point) : Type 0 where
  pub k : ℕ
  pub m : ℕ
  pub some : 0 < m
  pub closed : k ≤ m
  pub at_height : pos P.n *ℤ along m k A.y B.y ≡ pos m *ℤ P.y
  pub strictly_west : (pos P.n *ℤ along m k A.x B.x) <ℤ (pos m *ℤ P.x)
  pub lower_not_upper : CrossesLevel P A B

pub record EnclosedWest (P : Pin) (xs : List ℤ) (from n : ℕ) : Type 0 where
  pub crossing : ℕ
  pub counted : Many (λ k. CrossesWest P (corner xs from k) (after xs from n k)) n crossing
  pub odd : crossing % 2 ≡ 1
