-- No rule of docs/SCOPE.md stands here: the tests of specs/MeetTest by signs of whole numbers, as the code computes them.
--   product_of a b c d   (a - b) · (c - d)
--   side_of g x y         above 0 where the point lies left of the edge's line, below 0 where it lies right of it
--   together p q         both are above 0, or both below
--   in_line g h          edge h, which goes on where g ends, ends on g's line
--   turns_back g h       and lies on the side of that end from which g comes;  both together are `folds`
use Rattle.std.specs.Prelude.{Bool, ◌&&◌, ◌||◌, ℕ, eqb, ℤ, pos, ◌-ℤ◌, ◌*ℤ◌}
use Rattle.std.specs.Int.Signed.{lt_z}
use Rattle.plane.specs.declared.Edge.{Edge}
use Rattle.meet.specs.MeetTest.{leftward, rightward, one_side}

unfoldable pub product_of : (a b c d : ℕ) → ℤ
product_of a b c d = (pos a -ℤ pos b) *ℤ (pos c -ℤ pos d)

unfoldable pub side_of : Edge → (x y : ℕ) → ℤ
side_of g x y = pos (leftward g.ax g.ay g.bx g.by x y) -ℤ pos (rightward g.ax g.ay g.bx g.by x y)

unfoldable pub together : (p q : ℤ) → Bool
together p q = (lt_z (pos 0) p && lt_z (pos 0) q) || (lt_z p (pos 0) && lt_z q (pos 0))

unfoldable pub in_line : Edge → Edge → Bool
in_line g h = eqb (leftward g.ax g.ay g.bx g.by h.bx h.by) (rightward g.ax g.ay g.bx g.by h.bx h.by)

unfoldable pub turns_back : Edge → Edge → Bool
turns_back g h = one_side g.ax g.bx h.bx || one_side g.ay g.by h.by
