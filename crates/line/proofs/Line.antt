-- A line, word by word.
--   word                            a word and the byte that ends it, before a text
--   behind1 .. behind4, line_is     a line is five words, each with the byte that ends it; what stands behind the first of them, ..
--   pair_line_le                    81 bytes hold a line
use mathlib.Core.Path.{◌≡◌, sym, ◌∙◌, ap}
use mathlib.Core.Bool.{Bool, true, false}
use mathlib.Core.List.{List, [], ◌∷◌, ◌++◌, append_assoc}
use Prim.Native.Nat.{ℕ, ◌+◌, ◌≤◌}
use native.Mathlib.Omega.{arith}
use lib.ListN.{length, length-append}
use Rattle.plane.specs.Choice.{pick}
use Rattle.pair.specs.Answer.{Answer}
use Rattle.drawn.specs.Drawn.{DrawnMatrix}
use Rattle.names.specs.Names.{names_of, B, O}
use Rattle.names.specs.Numbers.{space, decimal}
use Rattle.names.proofs.Decimals.{decimal_le}
use Rattle.names.proofs.NameSteps.{names_le}
use Rattle.line.specs.Differ.{differ, differ_word}
use Rattle.line.specs.Line.{line_feed, last_words, pair_line}

pub word : (l : List ℕ) (x : ℕ) (rest : List ℕ) → l ++ (x ∷ rest) ≡ (l ++ (x ∷ [])) ++ rest
word l x rest = sym (append_assoc l (x ∷ []) rest)

last_le : (n : ℕ) (t : Bool) → length (last_words n t) ≤ 13
last_le n t = omega (arith, length-append (decimal n) (pick t differ_word [] ++ (line_feed ∷ [])), decimal_le n, go t)
  where
    go : (t : Bool) → length (pick t differ_word [] ++ (line_feed ∷ [])) ≤ 8
    go true = omega arith
    go false = omega arith

module _ (p q : ℕ) (a : Answer) (d : DrawnMatrix) where
  abbrev pub behind4 : List ℕ
  behind4 = last_words a.first_pieces (differ a d)

  abbrev pub behind3 : List ℕ
  behind3 = (names_of O a.directions ++ (space ∷ [])) ++ behind4

  abbrev pub behind2 : List ℕ
  behind2 = (names_of B a.first ++ (space ∷ [])) ++ behind3

  abbrev pub behind1 : List ℕ
  behind1 = (decimal q ++ (space ∷ [])) ++ behind2

  pub line_is : pair_line p q a d ≡ (decimal p ++ (space ∷ [])) ++ behind1
  unfolding pair_line
  line_is =
      word (decimal p) space _
      ∙ ap (λ (l : List ℕ). (decimal p ++ (space ∷ [])) ++ l)
      (word (decimal q) space _
      ∙ ap (λ (l : List ℕ). (decimal q ++ (space ∷ [])) ++ l)
      (word (names_of B a.first) space _
      ∙ ap (λ (l : List ℕ). (names_of B a.first ++ (space ∷ [])) ++ l) (word (names_of O a.directions) space _)))

  pub pair_line_le : length (pair_line p q a d) ≤ 81
  pair_line_le =
      let ends : (l : List ℕ) (x : ℕ) → length (l ++ (x ∷ [])) ≡ length l + 1 = (λ l x. length-append l (x ∷ [])) in
      omega (
        arith,
        ap length line_is,
        length-append (decimal p ++ (space ∷ [])) behind1,
        length-append (decimal q ++ (space ∷ [])) behind2,
        length-append (names_of B a.first ++ (space ∷ [])) behind3,
        length-append (names_of O a.directions ++ (space ∷ [])) behind4,
        ends (decimal p) space,
        ends (decimal q) space,
        ends (names_of B a.first) space,
        ends (names_of O a.directions) space,
        last_le a.first_pieces (differ a d),
        decimal_le p,
        decimal_le q,
        names_le B a.first,
        names_le O a.directions,
      )
