-- The contracts of the functions that other crates call leave one answer each: two answers that meet a function's own contract are equal.
--   grid_only, matrix_only, flat_only    of `grid_of`, `matrix_of`, `flat_of`
use mathlib.Core.Path.{◌≡◌, sym, ◌∙◌}
use mathlib.Core.List.{List}
use Prim.Native.Nat.{ℕ}
use Rattle.matrix.specs.declared.GridLines.{GridLines}
use Rattle.matrix.proofs.grid_of.Reads as grid
use Rattle.matrix.proofs.matrix_of.Reads as matrix
use Rattle.matrix.proofs.flat_of.Reads as flat

pub grid_only : (κs : _) (a : _) (g g' : GridLines) (s s' : _) → grid.Post κs a g s → grid.Post κs a g' s' → g ≡ g'
grid_only κs a g g' s s' p q = p ∙ sym q

pub matrix_only : (κs : _) (a : _) (m m' : List (List ℕ)) (s s' : _) → matrix.Post κs a m s → matrix.Post κs a m' s' → m ≡ m'
matrix_only κs a m m' s s' p q = p ∙ sym q

pub flat_only : (κs : _) (a : _) (l l' : List ℕ) (s s' : _) → flat.Post κs a l s → flat.Post κs a l' s' → l ≡ l'
flat_only κs a l l' s s' p q = p ∙ sym q
