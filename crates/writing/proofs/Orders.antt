-- The order of refusal, test by test, and a card's bytes, word by word.
--   write_order    11, 12, then 10
--   card_words     the six words of the header, then the three parts
use mathlib.Core.Path.{◌≡◌, refl}
use mathlib.Core.Bool.{Bool, true, false}
use mathlib.Core.List.{List, ◌++◌}
use Prim.Native.Nat.{ℕ}
use lib.Dec.{ltb}
use lib.ListN.{length}
use Rattle.plane.specs.Choice.{pick}
use Rattle.region.specs.Region.{Parcel}
use Rattle.region.specs.declared.refusals.Refusal.TheVariants.{SheetLists, SheetDamaged, BufferShort}
use Rattle.region.specs.Refusals.{number, number_if, or_else}
use Rattle.layout.specs.Sheet.{Sheet, slots, wrong_lists}
use Rattle.layout.specs.Standing.{parcels_below, rings_below, vertices_below}
use Rattle.layout.specs.Slots.{parcel_at}
use Rattle.layout.specs.Damage.{damaged}
use Rattle.layout.specs.Changes.{whole_number}
use Rattle.endian.specs.Bytes.{u16_bytes, joined}
use Rattle.card.specs.Layout.{parcels_at, rings_at, vertices_at}
use Rattle.writing.specs.Write.{entry_part, end_part, vertex_part, card_of, write_number}

pub write_order : (s : Sheet) (buffer : List ℕ) → write_number s buffer
    ≡ pick (wrong_lists s) (number SheetLists) (pick (damaged s) (number SheetDamaged) (number_if (ltb (length buffer) (length (card_of (parcel_at s)))) BufferShort))
unfolding write_number whole_number
write_order s buffer = go (wrong_lists s) (damaged s) (ltb (length buffer) (length (card_of (parcel_at s))))
  where
    go : (a d t : Bool) → or_else (or_else (number_if a SheetLists) (number_if d SheetDamaged)) (number_if t BufferShort)
        ≡ pick a (number SheetLists) (pick d (number SheetDamaged) (number_if t BufferShort))
    go true d t = refl
    go false true t = refl
    go false false t = refl

pub card_words : (st : ℕ → Parcel) → card_of st
    ≡ u16_bytes (parcels_below st slots) ++ (u16_bytes (rings_below st slots) ++ (u16_bytes (vertices_below st slots)
    ++ (u16_bytes parcels_at ++ (u16_bytes (rings_at (parcels_below st slots)) ++ (u16_bytes (vertices_at (parcels_below st slots) (rings_below st slots))
    ++ (entry_part st slots ++ (end_part st slots ++ vertex_part st slots)))))))
unfolding card_of joined
card_words st = refl
