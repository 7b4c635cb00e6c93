-- SCOPE 11: outlines 1 to 12, each seen both ways, with every field of the answer.
--   Row                 two regions, the pair answer for them and the word "around"
--   given, refused      an answer by its numbers: relations both ways, rows, columns, nine cells, directions, pieces; a refusal by number and region
--   square, overlapping, beside, corner, apart, triangle, crossed, large, ring, bow_tie, flat, reversed, two_vertices, too_far, at_the_end
--                       the outlines
--   rows                the table. That the definitions give it: proofs/Table, `table`
use Rattle.std.specs.Prelude.{Bool, true, false, List, [], ◌∷◌, ℕ, pos, negsuc}
use Rattle.region.specs.Region.{Region, region_of}
use Rattle.pair.specs.Answer.{Answer}
use Rattle.pair.specs.Answer.{refused_with}

pub record Row : Type 0 where
  pub first : Region
  pub second : Region
  pub answer : Answer
  pub around : Bool

abbrev pub given : (first second rows columns : ℕ) → List ℕ → (directions m n : ℕ) → Answer
given first second rows columns cells directions m n =
    record {
      number = 0;
      region = 0;
      ring = 0;
      first = first;
      second = second;
      rows = rows;
      columns = columns;
      cells = cells;
      directions = directions;
      first_pieces = m;
      second_pieces = n;
    }

abbrev pub refused : (n g : ℕ) → Answer
refused n g = refused_with n g 0

-- A
abbrev pub square : Region
square = region_of (pos 0 ∷ pos 0 ∷ pos 0 ∷ pos 10 ∷ pos 10 ∷ pos 10 ∷ pos 10 ∷ pos 0 ∷ []) (4 ∷ [])

-- C of outline 1
abbrev pub overlapping : Region
overlapping = region_of (pos 5 ∷ pos 5 ∷ pos 5 ∷ pos 25 ∷ pos 25 ∷ pos 25 ∷ pos 25 ∷ pos 5 ∷ []) (4 ∷ [])

-- outline 2
abbrev pub beside : Region
beside = region_of (pos 10 ∷ pos 0 ∷ pos 10 ∷ pos 10 ∷ pos 20 ∷ pos 10 ∷ pos 20 ∷ pos 0 ∷ []) (4 ∷ [])

-- outline 3
abbrev pub corner : Region
corner = region_of (pos 10 ∷ pos 10 ∷ pos 10 ∷ pos 20 ∷ pos 20 ∷ pos 20 ∷ pos 20 ∷ pos 10 ∷ []) (4 ∷ [])

-- outline 4
abbrev pub apart : Region
apart = region_of (pos 12 ∷ pos 12 ∷ pos 12 ∷ pos 22 ∷ pos 22 ∷ pos 22 ∷ pos 22 ∷ pos 12 ∷ []) (4 ∷ [])

-- outline 5, the triangle
abbrev pub triangle : Region
triangle = region_of (pos 0 ∷ pos 0 ∷ pos 0 ∷ pos 10 ∷ pos 10 ∷ pos 0 ∷ []) (3 ∷ [])

-- outline 5, the square
abbrev pub crossed : Region
crossed = region_of (pos 5 ∷ pos 5 ∷ pos 5 ∷ pos 15 ∷ pos 15 ∷ pos 15 ∷ pos 15 ∷ pos 5 ∷ []) (4 ∷ [])

-- outline 6
abbrev pub large : Region
large = region_of (negsuc 9 ∷ negsuc 9 ∷ negsuc 9 ∷ pos 40 ∷ pos 40 ∷ pos 40 ∷ pos 40 ∷ negsuc 9 ∷ []) (4 ∷ [])

-- outline 7: four rectangles round A
abbrev pub ring : Region
ring = region_of (negsuc 9 ∷ negsuc 9 ∷ negsuc 9 ∷ pos 40 ∷ pos 0 ∷ pos 40 ∷ pos 0 ∷ negsuc 9 ∷ pos 0 ∷ pos 10 ∷ pos 0 ∷ pos 40 ∷ pos 10 ∷ pos 40 ∷ pos 10 ∷ pos 10 ∷ pos 0 ∷ negsuc 9 ∷ pos 0 ∷ pos 0 ∷ pos 10 ∷ pos 0 ∷ pos 10 ∷ negsuc 9 ∷ pos 10 ∷ negsuc 9 ∷ pos 10 ∷ pos 40 ∷ pos 40 ∷ pos 40 ∷ pos 40 ∷ negsuc 9 ∷ []) (4 ∷ 8 ∷ 12 ∷ 16 ∷ [])

-- outline 8
abbrev pub bow_tie : Region
bow_tie = region_of (pos 0 ∷ pos 0 ∷ pos 10 ∷ pos 10 ∷ pos 10 ∷ pos 0 ∷ pos 0 ∷ pos 10 ∷ []) (4 ∷ [])

-- outline 9
abbrev pub flat : Region
flat = region_of (pos 0 ∷ pos 0 ∷ pos 5 ∷ pos 5 ∷ pos 10 ∷ pos 10 ∷ []) (3 ∷ [])

-- outline 10: A reversed
abbrev pub reversed : Region
reversed = region_of (pos 10 ∷ pos 0 ∷ pos 10 ∷ pos 10 ∷ pos 0 ∷ pos 10 ∷ pos 0 ∷ pos 0 ∷ []) (4 ∷ [])

-- outline 11
abbrev pub two_vertices : Region
two_vertices = region_of (pos 0 ∷ pos 0 ∷ pos 0 ∷ pos 10 ∷ []) (2 ∷ [])

-- outline 12: x 1,000,001
abbrev pub too_far : Region
too_far = region_of (pos 0 ∷ pos 0 ∷ pos 0 ∷ pos 10 ∷ pos 1000001 ∷ pos 10 ∷ pos 1000001 ∷ pos 0 ∷ []) (4 ∷ [])

-- outline 12: x 1,000,000
abbrev pub at_the_end : Region
at_the_end = region_of (pos 0 ∷ pos 0 ∷ pos 0 ∷ pos 10 ∷ pos 1000000 ∷ pos 10 ∷ pos 1000000 ∷ pos 0 ∷ []) (4 ∷ [])

abbrev pub rows : List Row
rows =
    record { first = square; second = overlapping; answer = given 216 54 3 3 (0 ∷ 2 ∷ 2 ∷ 1 ∷ 3 ∷ 2 ∷ 1 ∷ 1 ∷ 0 ∷ []) 216 8 8; around = false }
    ∷ record { first = overlapping; second = square; answer = given 54 216 3 3 (0 ∷ 1 ∷ 1 ∷ 2 ∷ 3 ∷ 1 ∷ 2 ∷ 2 ∷ 0 ∷ []) 54 8 8; around = false }
    ∷ record { first = square; second = beside; answer = given 8 32 1 2 (1 ∷ 2 ∷ 0 ∷ 0 ∷ 0 ∷ 0 ∷ 0 ∷ 0 ∷ 0 ∷ []) 8 4 4; around = false }
    ∷ record { first = beside; second = square; answer = given 32 8 1 2 (2 ∷ 1 ∷ 0 ∷ 0 ∷ 0 ∷ 0 ∷ 0 ∷ 0 ∷ 0 ∷ []) 32 4 4; around = false }
    ∷ record { first = square; second = corner; answer = given 64 4 2 2 (0 ∷ 2 ∷ 0 ∷ 1 ∷ 0 ∷ 0 ∷ 0 ∷ 0 ∷ 0 ∷ []) 64 4 4; around = false }
    ∷ record { first = corner; second = square; answer = given 4 64 2 2 (0 ∷ 1 ∷ 0 ∷ 2 ∷ 0 ∷ 0 ∷ 0 ∷ 0 ∷ 0 ∷ []) 4 4 4; around = false }
    ∷ record { first = square; second = apart; answer = given 64 4 3 3 (0 ∷ 0 ∷ 2 ∷ 0 ∷ 0 ∷ 0 ∷ 1 ∷ 0 ∷ 0 ∷ []) 64 4 4; around = false }
    ∷ record { first = apart; second = square; answer = given 4 64 3 3 (0 ∷ 0 ∷ 1 ∷ 0 ∷ 0 ∷ 0 ∷ 2 ∷ 0 ∷ 0 ∷ []) 4 4 4; around = false }
    ∷ record { first = triangle; second = crossed; answer = given 200 54 3 3 (0 ∷ 2 ∷ 2 ∷ 1 ∷ 2 ∷ 2 ∷ 1 ∷ 1 ∷ 0 ∷ []) 200 6 8; around = false }
    ∷ record { first = crossed; second = triangle; answer = given 54 200 3 3 (0 ∷ 1 ∷ 1 ∷ 2 ∷ 1 ∷ 1 ∷ 2 ∷ 2 ∷ 0 ∷ []) 38 8 6; around = false }
    ∷ record { first = large; second = square; answer = given 511 16 3 3 (1 ∷ 1 ∷ 1 ∷ 1 ∷ 3 ∷ 1 ∷ 1 ∷ 1 ∷ 1 ∷ []) 511 12 4; around = false }
    ∷ record { first = square; second = large; answer = given 16 511 3 3 (2 ∷ 2 ∷ 2 ∷ 2 ∷ 3 ∷ 2 ∷ 2 ∷ 2 ∷ 2 ∷ []) 511 4 12; around = false }
    ∷ record { first = ring; second = square; answer = given 495 16 3 3 (1 ∷ 1 ∷ 1 ∷ 1 ∷ 2 ∷ 1 ∷ 1 ∷ 1 ∷ 1 ∷ []) 495 24 4; around = true }
    ∷ record { first = square; second = ring; answer = given 16 495 3 3 (2 ∷ 2 ∷ 2 ∷ 2 ∷ 1 ∷ 2 ∷ 2 ∷ 2 ∷ 2 ∷ []) 495 4 24; around = false }
    ∷ record { first = bow_tie; second = square; answer = refused 6 1; around = false }
    ∷ record { first = square; second = bow_tie; answer = refused 6 2; around = false }
    ∷ record { first = flat; second = square; answer = refused 6 1; around = false }
    ∷ record { first = square; second = flat; answer = refused 6 2; around = false }
    ∷ record { first = reversed; second = square; answer = refused 7 1; around = false }
    ∷ record { first = square; second = reversed; answer = refused 7 2; around = false }
    ∷ record { first = two_vertices; second = square; answer = refused 2 1; around = false }
    ∷ record { first = square; second = two_vertices; answer = refused 2 2; around = false }
    ∷ record { first = too_far; second = square; answer = refused 4 1; around = false }
    ∷ record { first = square; second = too_far; answer = refused 4 2; around = false }
    ∷ record { first = at_the_end; second = square; answer = given 48 16 1 2 (3 ∷ 1 ∷ 0 ∷ 0 ∷ 0 ∷ 0 ∷ 0 ∷ 0 ∷ 0 ∷ []) 48 6 4; around = false }
    ∷ record { first = square; second = at_the_end; answer = given 16 48 1 2 (3 ∷ 2 ∷ 0 ∷ 0 ∷ 0 ∷ 0 ∷ 0 ∷ 0 ∷ 0 ∷ []) 24 4 6; around = false }
    ∷ []
