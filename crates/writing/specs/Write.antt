-- SCOPE 8.1, 8.2, 8.6: the card of what stands, and writing it. Writing is refused by 11, then 12, then 10 where the buffer is shorter
-- than the card; it answers the card's length, 0 beside a refusal, and bytes behind the card stay.
--   header_of p r v         the six numbers of the header of a card with so many parcels, rings and vertices
--   entry_bytes i there n   the entry of slot i, where a parcel with n rings is there
--   entry_part, end_part, vertex_part  the three parts of the card of what stands in the slots below n
--   card_of st              the card of the parcels st, in rising slot order. Word by word: proofs/Orders, `card_words`
--   write_number s buffer   the refusal of writing the sheet s into the buffer, or 0
--   Written                 what writing answers: 0 and the card's length, or the number of the refusal and 0
--   written_in r            what a result of the function says so;  written s buffer  what writing answers;  write s buffer  the buffer at exit
use Rattle.std.specs.Prelude.{Bool, List, [], ◌∷◌, ◌++◌, ℕ, ◌*◌, ltb, eqb, length, drop, Result, Ok, Err}
use Rattle.plane.specs.Choice.{pick}
use Rattle.region.specs.Region.{Parcel, last_end}
use Rattle.region.specs.declared.refusals.Refusal.TheVariants.{BufferShort}
use Rattle.region.specs.declared.refusals.Refusal.{Refusal}
use Rattle.region.specs.Refusals.{number, number_if, or_else}
use Rattle.layout.specs.Sheet.{Sheet, slots}
use Rattle.layout.specs.Standing.{occupied, end_list, coordinate_list, parcels_below, rings_below, vertices_below}
use Rattle.layout.specs.Slots.{parcel_at}
use Rattle.layout.specs.Changes.{whole_number}
use Rattle.endian.specs.Bytes.{u16_bytes, joined}
use Rattle.endian.specs.Placed.{word_bytes, number_bytes}
use Rattle.card.specs.Layout.{parcels_at, rings_at, vertices_at}

abbrev pub header_of : (p r v : ℕ) → List ℕ
header_of p r v = p ∷ r ∷ v ∷ parcels_at ∷ rings_at p ∷ vertices_at p r ∷ []

abbrev pub entry_bytes : (i : ℕ) → Bool → (n : ℕ) → List ℕ
entry_bytes i there n = pick there (u16_bytes i ++ u16_bytes n) []

abbrev pub entry_part : (ℕ → Parcel) → ℕ → List ℕ
entry_part st n = joined (λ i. entry_bytes i (occupied (st i)) (length (end_list (st i)))) n

abbrev pub end_part : (ℕ → Parcel) → ℕ → List ℕ
end_part st n = joined (λ i. word_bytes (end_list (st i)) (length (end_list (st i)))) n

abbrev pub vertex_part : (ℕ → Parcel) → ℕ → List ℕ
vertex_part st n = joined (λ i. number_bytes (coordinate_list (st i)) (2 * last_end (end_list (st i)))) n

unfoldable pub card_of : (ℕ → Parcel) → List ℕ
card_of st =
    word_bytes (header_of (parcels_below st slots) (rings_below st slots) (vertices_below st slots)) 6
    ++ (entry_part st slots ++ (end_part st slots ++ vertex_part st slots))

unfoldable pub write_number : Sheet → List ℕ → ℕ
write_number s buffer = or_else (whole_number s) (number_if (ltb (length buffer) (length (card_of (parcel_at s)))) BufferShort)

pub record Written : Type 0 where
  pub number : ℕ
  pub length : ℕ

abbrev pub written_in : Result ℕ Refusal → Written
written_in (Ok n) = record { number = 0; length = n }
written_in (Err k) = record { number = number k; length = 0 }

unfoldable pub written : Sheet → List ℕ → Written
written s buffer =
    record { number = write_number s buffer; length = pick (eqb (write_number s buffer) 0) (length (card_of (parcel_at s))) 0 }

unfoldable pub write : Sheet → List ℕ → List ℕ
write s buffer = pick (eqb (write_number s buffer) 0) (card_of (parcel_at s) ++ drop (length (card_of (parcel_at s))) buffer) buffer
