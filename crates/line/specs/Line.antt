-- SCOPE 10: a line of the list: slots, tiles, directions, pieces, and ` differ` where the two engines do not agree on the pair. A line feed ends it.
-- Letters are the numbers of their ASCII codes.
--   line_feed                 this byte
--   last_words n t            the pieces n, the word of a pair that differs, where t says so, and the end of the line
--   pair_line p q a d         the line for the parcels of slots p and q, whose pair answer is a and whose drawn matrix is d
use Rattle.std.specs.Prelude.{Bool, List, [], ◌∷◌, ◌++◌, ℕ}
use Rattle.plane.specs.Choice.{pick}
use Rattle.pair.specs.Answer.{Answer}
use Rattle.drawn.specs.Drawn.{DrawnMatrix}
use Rattle.names.specs.Names.{names_of, B, O}
use Rattle.names.specs.Numbers.{space, decimal}
use Rattle.line.specs.Differ.{differ, differ_word}

abbrev pub line_feed : ℕ
line_feed = 10

abbrev pub last_words : ℕ → Bool → List ℕ
last_words n t = decimal n ++ (pick t differ_word [] ++ (line_feed ∷ []))

unfoldable pub pair_line : (p q : ℕ) → Answer → DrawnMatrix → List ℕ
pair_line p q a d =
    decimal p ++ (space ∷ (decimal q ++ (space ∷ (names_of B a.first ++ (space ∷ (names_of O a.directions ++ (space ∷ last_words a.first_pieces (differ a d))))))))
