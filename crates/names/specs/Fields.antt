-- SCOPE 10.2: how a line of the list is read; notions with which the laws in lines/proofs/Meaning say what it says.
--   Starts w           the word w is not empty
--   between ws         words one behind the other, with a colon between two
--   set_bits s k       the bits below k that are set in s, in rising order
--   fields_of w         the word w, cut at its colons, a letter at a time: grow x ws  the letter x in front of the first of the words ws
--   StandsIn name w    the name is one of these parts
use Rattle.std.specs.Prelude.{◌≡◌, List, [], ◌∷◌, ◌++◌, ℕ, zero, suc, ◌<◌, eqb, length, get_or}
use Rattle.plane.specs.Choice.{pick}
use Rattle.plane.specs.TileSet.{bit}
use Rattle.names.specs.Names.{colon}

abbrev pub Starts : List ℕ → Type 0
Starts w = (x : ℕ) × (rest : List ℕ) × (w ≡ x ∷ rest)

abbrev pub between : List (List ℕ) → List ℕ
between [] = []
between (w ∷ []) = w
between (w ∷ (v ∷ ws)) = w ++ (colon ∷ between (v ∷ ws))

unfoldable pub set_bits : (s k : ℕ) → List ℕ
set_bits s zero = []
set_bits s (suc k) = set_bits s k ++ pick (eqb (bit s k) 1) (k ∷ []) []

abbrev pub grow : ℕ → List (List ℕ) → List (List ℕ)
grow x [] = (x ∷ []) ∷ []
grow x (w ∷ ws) = (x ∷ w) ∷ ws

unfoldable pub fields_of : List ℕ → List (List ℕ)
fields_of [] = [] ∷ []
fields_of (x ∷ w) = pick (eqb x colon) ([] ∷ fields_of w) (grow x (fields_of w))

abbrev pub StandsIn : (name w : List ℕ) → Type 0
StandsIn name w = (i : ℕ) × (i < length (fields_of w)) × (get_or (fields_of w) i [] ≡ name)
