-- SCOPE 10.4: the list asks both engines, and says ` differ` of a pair for which they do not give the same rows, columns and cells.
--   differ a d       the matrix of the pair answer a and the drawn one d are not the same. Its meaning: proofs/Differing, `differ_means`
--   differ_word      the word, with the space before it
use Rattle.std.specs.Prelude.{Bool, not, ◌||◌, List, [], ◌∷◌, ℕ, eqb, get_or}
use Rattle.plane.specs.Folds.{any_to}
use Rattle.pair.specs.Answer.{Answer}
use Rattle.drawn.specs.Drawn.{DrawnMatrix}
use Rattle.names.specs.Numbers.{space}

unfoldable pub differ : Answer → DrawnMatrix → Bool
differ a d =
    not (eqb a.rows d.rows) || (not (eqb a.columns d.columns) || any_to (λ k. not (eqb (get_or a.cells k 0) (get_or d.cells k 0))) 9)

-- " differ"
abbrev pub differ_word : List ℕ
differ_word = space ∷ 100 ∷ 105 ∷ 102 ∷ 102 ∷ 101 ∷ 114 ∷ []
