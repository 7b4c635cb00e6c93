-- SCOPE 7.9: a list of pairs at once. The pairs are a lent list of slot numbers, primary and reference in turn; the results are a lent list in which
-- place k takes what reading the cell of pair k answers: the relation, or 1000 and the number. The call itself is refused by 11, then 18 where the
-- list of pairs is of odd length, then 10 where there are fewer results than pairs, and then writes nothing. What a pair is answered is no
-- refusal of the call, and no later pair depends on it.
--   pair_count pairs           how many pairs the list has;  odd_pairs pairs  its length is odd
--   primary_of pairs k, reference_of pairs k  the two slots of pair k
--   refused_from               what is added to the number of a refused reading;  result_of r  what is written of the answer r
--   pair_result records relations pairs k     what is written of pair k
--   several_number records relations pairs results   what the call answers: 0 or the refusal
--   several records relations pairs results          the results at exit: read one by one, in order
use Rattle.std.specs.Prelude.{Bool, List, ℕ, ◌+◌, ◌*◌, ◌/◌, ◌%◌, ltb, eqb, length, get_or}
use Rattle.plane.specs.Choice.{pick}
use Rattle.plane.specs.Lists.{stores}
use Rattle.region.specs.declared.refusals.Refusal.TheVariants.{BufferShort, SheetLists, PairsOdd}
use Rattle.region.specs.Refusals.{number_if, or_else}
use Rattle.layout.specs.Sheet.{wrong_tables}
use Rattle.calls.specs.Readings.{Reading, Relation, Refused, reading_of}

abbrev pub pair_count : List ℕ → ℕ
pair_count pairs = length pairs / 2

abbrev pub odd_pairs : List ℕ → Bool
odd_pairs pairs = eqb (length pairs % 2) 1

abbrev pub primary_of : List ℕ → ℕ → ℕ
primary_of pairs k = get_or pairs (2 * k) 0

abbrev pub reference_of : List ℕ → ℕ → ℕ
reference_of pairs k = get_or pairs (2 * k + 1) 0

abbrev pub refused_from : ℕ
refused_from = 1000

abbrev pub result_of : Reading → ℕ
result_of (Relation v) = v
result_of (Refused n) = refused_from + n

abbrev pub pair_result : (records relations pairs : List ℕ) → ℕ → ℕ
pair_result records relations pairs k = result_of (reading_of records relations (primary_of pairs k) (reference_of pairs k))

unfoldable pub several_number : (records relations pairs results : List ℕ) → ℕ
several_number records relations pairs results =
    or_else (number_if (wrong_tables records relations) SheetLists)
    (or_else (number_if (odd_pairs pairs) PairsOdd) (number_if (ltb (length results) (pair_count pairs)) BufferShort))

unfoldable pub several : (records relations pairs results : List ℕ) → List ℕ
several records relations pairs results =
    pick (eqb (several_number records relations pairs results) 0) (stores (λ k. k) (pair_result records relations pairs) (pair_count pairs) results) results
