-- SCOPE 4.1, 5.4, 10.2: sets as words, the names of their bits in order with a colon between two. Bit 4 is B among tiles and O among directions.
-- Letters are the numbers of their ASCII codes.
--   N, S, W, E, B, O, colon    these letters
--   name_of middle k        the name of bit k, where `middle` is the letter of bit 4
--   colon_after text       a colon, where a text stands before
--   names_to middle s k    the names of those of the first k bits that are set in s;  names_of  of all nine
use Rattle.std.specs.Prelude.{List, [], ◌∷◌, ◌++◌, ℕ, zero, suc, eqb, get_or}
use Rattle.plane.specs.Choice.{pick}
use Rattle.plane.specs.TileSet.{bit}

abbrev pub N : ℕ
N = 78

abbrev pub S : ℕ
S = 83

abbrev pub W : ℕ
W = 87

abbrev pub E : ℕ
E = 69

abbrev pub B : ℕ
B = 66

abbrev pub O : ℕ
O = 79

abbrev pub colon : ℕ
colon = 58

abbrev pub name_of : (middle k : ℕ) → List ℕ
name_of middle k =
    get_or
    ((N ∷ W ∷ []) ∷ (N ∷ []) ∷ (N ∷ E ∷ []) ∷ (W ∷ []) ∷ (middle ∷ []) ∷ (E ∷ []) ∷ (S ∷ W ∷ []) ∷ (S ∷ []) ∷ (S ∷ E ∷ []) ∷ [])
    k
    []

abbrev pub colon_after : List ℕ → List ℕ
colon_after [] = []
colon_after (x ∷ text) = colon ∷ []

unfoldable pub names_to : (middle s k : ℕ) → List ℕ
names_to middle s zero = []
names_to middle s (suc k) = let before = names_to middle s k in pick (eqb (bit s k) 1) (before ++ (colon_after before ++ name_of middle k)) before

abbrev pub names_of : (middle s : ℕ) → List ℕ
names_of middle s = names_to middle s 9
