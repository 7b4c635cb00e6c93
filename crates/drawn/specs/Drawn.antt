-- SCOPE 6.3: the call for the drawn matrix. Region 1 is wholly checked, then region 2, and a refusal says which of them it is of, as the pair call's do.
-- Beside a refusal all other fields are 0.
--   DrawnMatrix                the fields of an answer, those of a refusal among them;  drawn_with m  so the matrix m of two regions that are accepted
--                              has them, and matrix_in r  what the call answers, r
--   refused_with n g r         the refusal with number n that names region g and ring r
--   or_refused c g a           the answer a where the check c accepts region g, and its refusal where not
--   drawn_for a b first second  the answer's fields for two regions with the boxes a and b
--   drawn_of first second      the answer for any two regions
--   drawn_words a              the 14 numbers of an answer: number, region, ring, rows, columns, nine cells by row
use Rattle.std.specs.Prelude.{Result, Ok, Err, List, ◌∷◌, ℕ, replicate}
use Rattle.plane.specs.declared.Box.{Box}
use Rattle.region.specs.Check.{Checked}
use Rattle.region.specs.Check.{Accepted, Refused}
use Rattle.region.specs.Region.{Region}
use Rattle.region.specs.Check.{check_of}
use Rattle.relation.specs.Relation.{region_box}
use Rattle.matrix.specs.Holding.{row_count, column_count}
use Rattle.drawing.specs.Drawing.{drawn_cells}
use Rattle.region.specs.declared.RefusedRegion.{RefusedRegion}
use Rattle.region.specs.Refusals.{number}
use Rattle.matrix.specs.declared.SizedMatrix.{SizedMatrix}

pub record DrawnMatrix : Type 0 where
  pub number : ℕ
  pub region : ℕ
  pub ring : ℕ
  pub rows : ℕ
  pub columns : ℕ
  pub cells : List ℕ

abbrev pub refused_with : (n g r : ℕ) → DrawnMatrix
refused_with n g r = record { number = n; region = g; ring = r; rows = 0; columns = 0; cells = replicate 9 0 }

abbrev pub drawn_with : SizedMatrix → DrawnMatrix
drawn_with m = record { number = 0; region = 0; ring = 0; rows = m.rows; columns = m.columns; cells = m.cells }

abbrev pub matrix_in : Result SizedMatrix RefusedRegion → DrawnMatrix
matrix_in (Ok m) = drawn_with m
matrix_in (Err e) = refused_with (number e.broken.rule) e.region e.broken.ring

abbrev pub or_refused : Checked → ℕ → DrawnMatrix → DrawnMatrix
or_refused Accepted g a = a
or_refused (Refused n r) g a = refused_with n g r

unfoldable pub drawn_for : (a b : Box) (first second : Region) → DrawnMatrix
drawn_for a b first second =
    record { number = 0; region = 0; ring = 0; rows = row_count a b; columns = column_count a b; cells = drawn_cells a b first second }

unfoldable pub drawn_of : (first second : Region) → DrawnMatrix
drawn_of first second = or_refused (check_of first) 1 (or_refused (check_of second) 2 (drawn_for (region_box first) (region_box second) first second))

abbrev pub drawn_words : DrawnMatrix → List ℕ
drawn_words a = a.number ∷ a.region ∷ a.ring ∷ a.rows ∷ a.columns ∷ a.cells
