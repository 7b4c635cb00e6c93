-- SCOPE 9.2, 10.2: two parcels of a card, counted from 0 in its order, and so by rising slots.
--   pair_in card j k     the pair answer for parcels j and k
--   drawn_in card j k    their drawn matrix
use Rattle.std.specs.Prelude.{List, ℕ}
use Rattle.pair.specs.Answer.{Answer}
use Rattle.pair.specs.Answer.{pair_of}
use Rattle.drawn.specs.Drawn.{DrawnMatrix}
use Rattle.drawn.specs.Drawn.{drawn_of}
use Rattle.card.specs.Reading.{region_at}

unfoldable pub pair_in : List ℕ → (j k : ℕ) → Answer
pair_in card j k = pair_of (region_at card j) (region_at card k)

unfoldable pub drawn_in : List ℕ → (j k : ℕ) → DrawnMatrix
drawn_in card j k = drawn_of (region_at card j) (region_at card k)
