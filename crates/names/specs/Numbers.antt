-- SCOPE 10.1, 10.2: numbers as words, in decimal, and the byte that ends a word inside a line. Letters are the numbers of their ASCII codes.
--   space                     this byte
--   places_of n, decimal n     how few digits hold a number below 100,000, and these digits
use Rattle.std.specs.Prelude.{List, ℕ, ltb}
use Rattle.plane.specs.Choice.{pick}
use Rattle.io.specs.Digits.{last_digits}

abbrev pub space : ℕ
space = 32

abbrev pub places_of : ℕ → ℕ
places_of n = pick (ltb n 10) 1 (pick (ltb n 100) 2 (pick (ltb n 1000) 3 (pick (ltb n 10000) 4 5)))

abbrev pub decimal : ℕ → List ℕ
decimal n = last_digits 10 (places_of n) n
