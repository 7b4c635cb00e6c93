-- SCOPE 5.6, computed: does an edge mark a cell, in places. In each axis the edge is between the cell's two lines for a part of its way, its stay; it has a
-- point inside the cell exactly where the two stays overlap. A moment is a fraction of the way, counted in the axis's own parts, and two moments are
-- compared by products. An edge that stands still in an axis is between the lines for all its way or never, and one that runs along a line counts
-- for the side that specs/Marks names.
--   gap p q n            how far q lies past p, at most n: 0 where it does not
--   stay_up, stay_down a lo hi n  the stay between lo and hi of an axis that runs up, down, from a in n parts; in one part it stands still,
--                        and is counted just past a (up) or just before it (down)
--   counted p q a up     does a still axis count past its place a? On the own line p it does, on the own line q it does not, else `up` tells
--   stay_of a b lo hi up  the stay of an axis from a to b;  across_stay, up_stay own k g  those of the edge g in the cell k, in x and in y
--   overlaps s t         the two stays have a moment between their ends in common
--   marks own k g        the edge g of a region with the box `own` marks the cell k. Its meaning: proofs/Marks, `marks_means`
--   StayFits s           no part of the meaning, the code's products rest on it
use Rattle.std.specs.Prelude.{Bool, true, false, not, ◌&&◌, ℕ, ◌-◌, ◌*◌, ◌≤◌, ◌<◌, min, ltb, eqb}
use Rattle.plane.specs.Choice.{pick}
use Rattle.plane.specs.declared.Box.{Box}
use Rattle.plane.specs.declared.Edge.{Edge}
use Rattle.ring.specs.Repeated.{equal_ends}
use Rattle.drawing.specs.declared.Stay.{Stay}

abbrev pub gap : (p q n : ℕ) → ℕ
gap p q n = min (q - p) n

abbrev pub stay_up : (a lo hi n : ℕ) → Stay
stay_up a lo hi n = record { from = gap a lo n; to = gap a hi n; of = n }

abbrev pub stay_down : (a lo hi n : ℕ) → Stay
stay_down a lo hi n = record { from = gap hi a n; to = gap lo a n; of = n }

unfoldable pub counted : (p q a : ℕ) → Bool → Bool
counted p q a up = pick (eqb a p) true (pick (eqb a q) false up)

unfoldable pub stay_of : (a b lo hi : ℕ) → Bool → Stay
stay_of a b lo hi up =
    pick (ltb a b) (stay_up a lo hi (b - a)) (pick (ltb b a) (stay_down a lo hi (a - b)) (pick up (stay_up a lo hi 1) (stay_down a lo hi 1)))

abbrev pub across_stay : (own k : Box) → Edge → Stay
across_stay own k g = stay_of g.ax g.bx k.west k.east (counted own.west own.east g.ax (ltb g.ay g.by))

abbrev pub up_stay : (own k : Box) → Edge → Stay
up_stay own k g = stay_of g.ay g.by k.south k.north (counted own.south own.north g.ay (ltb g.bx g.ax))

unfoldable pub overlaps : (s t : Stay) → Bool
overlaps s t =
    ltb s.from s.to && (ltb t.from t.to && (ltb (s.from * t.of) (t.to * s.of) && ltb (t.from * s.of) (s.to * t.of)))

unfoldable pub marks : (own k : Box) → Edge → Bool
marks own k g = not (equal_ends g) && overlaps (across_stay own k g) (up_stay own k g)

pub record StayFits (s : Stay) : Type 0 where
  pub some : 0 < s.of
  pub from_part : s.from ≤ s.of
  pub to_part : s.to ≤ s.of
  pub small : s.of ≤ 2000000
