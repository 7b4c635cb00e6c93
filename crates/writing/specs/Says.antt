-- SCOPE 8.6: what each number that writing a sheet as a card answers says; its cases, one a number, and no others. That the call answers n exactly
-- when its case n holds: proofs/Call.
--   WriteSays s buffer n    of writing the sheet s into the buffer: 0, 11, then 12, then 10
use Rattle.std.specs.Prelude.{List, ℕ, ◌≤◌, ◌<◌, length}
use Rattle.region.specs.declared.refusals.Refusal.TheVariants.{BufferShort, SheetLists, SheetDamaged}
use Rattle.region.specs.Refusals.{number}
use Rattle.layout.specs.Sheet.{Sheet, RightLists}
use Rattle.layout.specs.Slots.{parcel_at}
use Rattle.layout.specs.Damage.{Undamaged}
use Rattle.writing.specs.Write.{card_of}

pub data WriteSays (s : Sheet) (buffer : List ℕ) : ℕ → Type 0 where
  write_done : RightLists s → Undamaged s → length (card_of (parcel_at s)) ≤ length buffer → WriteSays s buffer 0
  write_lists : (RightLists s → ⊥) → WriteSays s buffer (number SheetLists)
  write_damage : RightLists s → (Undamaged s → ⊥) → WriteSays s buffer (number SheetDamaged)
  write_short : RightLists s → Undamaged s → length buffer < length (card_of (parcel_at s)) → WriteSays s buffer (number BufferShort)
