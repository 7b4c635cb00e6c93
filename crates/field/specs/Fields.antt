-- SCOPE 8.1, 8.2: a parcel of a card, taken out of its bytes.
--   Carries b k f      f is parcel k of the card b: its slot, how many rings it has, and at the front of two lists its ring ends and its coordinates
use Rattle.std.specs.Prelude.{◌≡◌, List, ℕ, ◌*◌, take}
use Rattle.field.specs.declared.Field.{Field}
use Rattle.region.specs.Region.{last_end}
use Rattle.card.specs.Reading.{slot_at, count_at, ends_at, numbers_at}

pub record Carries (b : List ℕ) (k : ℕ) (f : Field) : Type 0 where
  pub slot : f.slot ≡ slot_at b k
  pub rings : f.rings ≡ count_at b k
  pub ends : take f.rings f.ends ≡ ends_at b k
  pub numbers : take (2 * last_end (ends_at b k)) f.numbers ≡ numbers_at b k
