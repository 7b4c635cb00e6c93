-- No rule stands here: what the functions compute that write a list. No promise hangs on these names: proofs/ shows that the steps
-- together are the word of a set, and, in the crate lines, the list.
--   Put b at text r c      a call that writes a text into the buffer b from the place `at` on: c is the buffer behind it, r the place
--   joint from at          the colon before a name, where the word that starts at `from` has come to the place `at`
--   name_step middle s k   what bit k of the set s adds to the names of the bits below it
use Rattle.std.specs.Prelude.{◌≡◌, List, [], ◌∷◌, ◌++◌, ℕ, ◌+◌, eqb, length}
use Rattle.plane.specs.Choice.{pick}
use Rattle.plane.specs.TileSet.{bit}
use Rattle.endian.specs.Placed.{placed}
use Rattle.names.specs.Names.{colon, colon_after, name_of, names_to}

pub record Put (b : List ℕ) (at : ℕ) (text : List ℕ) (r : ℕ) (c : List ℕ) : Type 0 where
  pub place : r ≡ at + length text
  pub buffer : c ≡ placed b at text

abbrev pub joint : (from at : ℕ) → List ℕ
joint from at = pick (eqb at from) [] (colon ∷ [])

unfoldable pub name_step : (middle s k : ℕ) → List ℕ
name_step middle s k = pick (eqb (bit s k) 1) (colon_after (names_to middle s k) ++ name_of middle k) []
