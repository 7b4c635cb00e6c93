-- SCOPE 6.1, 6.2: the pair call. Region 1 is wholly checked, then region 2, and a refusal says which of them it is of. Beside a refusal
-- all other fields are 0.
--   Answer                    the fields of an answer, those of a refusal among them;  answer_with a  so the answer a of two regions that are accepted
--                              has them, and answer_in r  what the call answers, r
--   refused_with n g r         the refusal with number n that names region g and ring r
--   or_refused c g a           the answer a where the check c accepts region g, and its refusal where not
--   given a b there back       the answer's fields for two boxes and what each region shows of the other's
--   answer_of first second      the answer for two regions that are accepted
--   pair_of first second       the pair answer for any two regions. Its meaning: proofs/Laws
--   report_words a             the 19 numbers of an answer: number, region, ring, both relations, rows, columns, nine cells by row, directions,
--                              the pieces of both
use Rattle.std.specs.Prelude.{Result, Ok, Err, List, [], ◌∷◌, ◌++◌, ℕ, replicate}
use Rattle.plane.specs.declared.Box.{Box}
use Rattle.seen.specs.declared.Seen.{Seen}
use Rattle.region.specs.Check.{Checked}
use Rattle.region.specs.Check.{Accepted, Refused}
use Rattle.region.specs.Region.{Region}
use Rattle.region.specs.Check.{check_of}
use Rattle.relation.specs.Relation.{region_box, region_seen}
use Rattle.matrix.specs.Holding.{row_count, column_count}
use Rattle.matrix.specs.Matrix.{matrix_of, flat_of}
use Rattle.compass.specs.Directions.{directions_of}
use Rattle.region.specs.declared.RefusedRegion.{RefusedRegion}
use Rattle.region.specs.Refusals.{number}
use Rattle.pair.specs.declared.Answer.{Answer as Accepting}

pub record Answer : Type 0 where
  pub number : ℕ
  pub region : ℕ
  pub ring : ℕ
  pub first : ℕ
  pub second : ℕ
  pub rows : ℕ
  pub columns : ℕ
  pub cells : List ℕ
  pub directions : ℕ
  pub first_pieces : ℕ
  pub second_pieces : ℕ

abbrev pub refused_with : (n g r : ℕ) → Answer
refused_with n g r =
    record {
      number = n;
      region = g;
      ring = r;
      first = 0;
      second = 0;
      rows = 0;
      columns = 0;
      cells = replicate 9 0;
      directions = 0;
      first_pieces = 0;
      second_pieces = 0;
    }

abbrev pub answer_with : Accepting → Answer
answer_with a =
    record {
      number = 0;
      region = 0;
      ring = 0;
      first = a.first;
      second = a.second;
      rows = a.matrix.rows;
      columns = a.matrix.columns;
      cells = a.matrix.cells;
      directions = a.directions;
      first_pieces = a.first_pieces;
      second_pieces = a.second_pieces;
    }

abbrev pub answer_in : Result Accepting RefusedRegion → Answer
answer_in (Ok a) = answer_with a
answer_in (Err e) = refused_with (number e.broken.rule) e.region e.broken.ring

abbrev pub or_refused : Checked → ℕ → Answer → Answer
or_refused Accepted g a = a
or_refused (Refused n r) g a = refused_with n g r

unfoldable pub given : (a b : Box) (there back : Seen) → Answer
given a b there back =
    let m = matrix_of a b there.set back.set in
    record {
      number = 0;
      region = 0;
      ring = 0;
      first = there.set;
      second = back.set;
      rows = row_count a b;
      columns = column_count a b;
      cells = flat_of m;
      directions = directions_of m;
      first_pieces = there.pieces;
      second_pieces = back.pieces;
    }

unfoldable pub answer_of : (first second : Region) → Answer
answer_of first second =
    given (region_box first) (region_box second) (region_seen (region_box second) first) (region_seen (region_box first) second)

unfoldable pub pair_of : (first second : Region) → Answer
pair_of first second = or_refused (check_of first) 1 (or_refused (check_of second) 2 (answer_of first second))

abbrev pub report_words : Answer → List ℕ
report_words a =
    a.number ∷ a.region ∷ a.ring ∷ a.first ∷ a.second ∷ a.rows ∷ a.columns
    ∷ (a.cells ++ (a.directions ∷ a.first_pieces ∷ a.second_pieces ∷ []))
