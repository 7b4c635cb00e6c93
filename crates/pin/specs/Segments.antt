-- No rule stands here, but what laws on 4.5 speak of: a level and the edges that cross it, a segment between two pins and the edges that meet it, a ring's box.
-- The laws: proofs/Laws.
--   SamePoint P Q         the pins are one point, with two denominators
--   CrossesLevel P A B    the edge from A to B crosses the level of the pin P: one end lies above it and one does not
--   EastOf P Q            the pin Q lies on the level of P and not west of it: a level segment runs from P east to Q
--   Meets P Q A B         the edge has a point, ends included, on that segment, ends included
--   Passes P Q A B        it is not level, and has a point strictly between its ends that lies strictly between P and Q
--   turned_pin P, turned_point A  x and y exchanged: an upright segment is a level one of the turned plane
--   WithinBox K P         the pin lies in the box with the lines K, its west and south lines with it, its east and north lines not
use Rattle.std.specs.Prelude.{◌≡◌, ◌⊎◌, ◌≢◌, ℕ, ◌≤◌, ◌<◌, pos, ◌*ℤ◌, ◌<ℤ◌, ◌≤ℤ◌}
use Rattle.plane.specs.Points.{Point, Lines, along}
use Rattle.plane.specs.Ray.{Pin}

pub record SamePoint (P Q : Pin) : Type 0 where
  pub x : pos Q.n *ℤ P.x ≡ pos P.n *ℤ Q.x
  pub y : pos Q.n *ℤ P.y ≡ pos P.n *ℤ Q.y

abbrev pub CrossesLevel : Pin → Point → Point → Type 0
CrossesLevel P A B =
    (((pos P.n *ℤ A.y) ≤ℤ P.y) × (P.y <ℤ (pos P.n *ℤ B.y))) ⊎ (((pos P.n *ℤ B.y) ≤ℤ P.y) × (P.y <ℤ (pos P.n *ℤ A.y)))

pub record EastOf (P Q : Pin) : Type 0 where
  pub level : pos Q.n *ℤ P.y ≡ pos P.n *ℤ Q.y
  pub not_west : (pos Q.n *ℤ P.x) ≤ℤ (pos P.n *ℤ Q.x)

pub record Meets (P Q : Pin) (A B : Point) : Type 0 where
  pub k : ℕ
  pub m : ℕ
  pub some : 0 < m
  pub closed : k ≤ m
  pub at_height : pos P.n *ℤ along m k A.y B.y ≡ pos m *ℤ P.y
  pub from : (pos m *ℤ P.x) ≤ℤ (pos P.n *ℤ along m k A.x B.x)
  pub to : (pos Q.n *ℤ along m k A.x B.x) ≤ℤ (pos m *ℤ Q.x)

pub record Passes (P Q : Pin) (A B : Point) : Type 0 where
  pub slanted : A.y ≢ B.y
  pub k : ℕ
  pub m : ℕ
  pub above : 0 < k
  pub below : k < m
  pub at_height : pos P.n *ℤ along m k A.y B.y ≡ pos m *ℤ P.y
  pub from : (pos m *ℤ P.x) <ℤ (pos P.n *ℤ along m k A.x B.x)
  pub to : (pos Q.n *ℤ along m k A.x B.x) <ℤ (pos m *ℤ Q.x)

abbrev pub turned_pin : Pin → Pin
turned_pin P = record { x = P.y; y = P.x; n = P.n; some = P.some }

abbrev pub turned_point : Point → Point
turned_point A = record { x = A.y; y = A.x }

pub record WithinBox (K : Lines) (P : Pin) : Type 0 where
  pub west : (pos P.n *ℤ K.west) ≤ℤ P.x
  pub east : P.x <ℤ (pos P.n *ℤ K.east)
  pub south : (pos P.n *ℤ K.south) ≤ℤ P.y
  pub north : P.y <ℤ (pos P.n *ℤ K.north)
