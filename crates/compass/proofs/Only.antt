-- The contract of the function that other crates call leaves one answer: two answers that meet it are equal.
--   directions_only    of `directions_of`
use mathlib.Core.Path.{◌≡◌, sym, ◌∙◌}
use Prim.Native.Nat.{ℕ}
use Rattle.compass.proofs.directions_of.Reads as directions

pub directions_only : (κs : _) (a : _) (d d' : ℕ) (s s' : _) → directions.Post κs a d s → directions.Post κs a d' s' → d ≡ d'
directions_only κs a d d' s s' p q = p ∙ sym q
