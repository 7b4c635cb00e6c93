-- SCOPE 7.6 and 7.7: what each number that a call on a sheet answers says; for each call its cases, one a number, and no others. That a call answers n
-- exactly when its case n holds: sheet/proofs/Call and reading/proofs/Call.
--   Unchangeable s i n       n refuses any change of slot i of the sheet s: 11, then 8, then 12
--   PutSays s i R n          of a put of the region R into slot i: 0, one of these, or the lowest of 1 to 7 that R breaks
--   RemoveSays s i n         of a removal from slot i: 0, one of these, or 9
--   ClearSays s n            of a clearing: 0 or 11
--   Readable records relations i j     the cell of slots i and j may be read
--   ReadSays records relations i j n   of reading that cell: 0, 11, then 8, then 9
--   SeveralSays records relations pairs results n    of a list of pairs at once: 0, 11, then 18, then 10
use Rattle.std.specs.Prelude.{◌≡◌, ◌⊎◌, ◌≢◌, List, ℕ, ◌+◌, ◌*◌, ◌≤◌, ◌<◌, length}
use Rattle.region.specs.Region.{Region, nothing, outline}
use Rattle.region.specs.Rules.{KeepsRules, RefusedWith}
use Rattle.region.specs.declared.refusals.Refusal.TheVariants.{SlotNumber, SlotEmpty, BufferShort, SheetLists, SheetDamaged, PairsOdd}
use Rattle.region.specs.Refusals.{number}
use Rattle.layout.specs.Sheet.{Sheet, slots, RightLists, RightTables}
use Rattle.layout.specs.Slots.{rings_in, parcel_at}
use Rattle.layout.specs.Damage.{Undamaged}
use Rattle.layout.specs.Changes.{Changeable}

pub data Unchangeable (s : Sheet) (i : ℕ) : ℕ → Type 0 where
  lists_wrong : (RightLists s → ⊥) → Unchangeable s i (number SheetLists)
  slot_past : RightLists s → slots ≤ i → Unchangeable s i (number SlotNumber)
  damage_there : RightLists s → i < slots → (Undamaged s → ⊥) → Unchangeable s i (number SheetDamaged)

pub data PutSays (s : Sheet) (i : ℕ) (R : Region) : ℕ → Type 0 where
  put_done : Changeable s i → KeepsRules R → PutSays s i R 0
  put_refused : {n : ℕ} → Unchangeable s i n → PutSays s i R n
  put_broken : {n r : ℕ} → Changeable s i → RefusedWith R n r → PutSays s i R n

pub data RemoveSays (s : Sheet) (i : ℕ) : ℕ → Type 0 where
  remove_done : Changeable s i → (R : Region) → parcel_at s i ≡ outline R → RemoveSays s i 0
  remove_refused : {n : ℕ} → Unchangeable s i n → RemoveSays s i n
  remove_empty : Changeable s i → parcel_at s i ≡ nothing → RemoveSays s i (number SlotEmpty)

pub data ClearSays (s : Sheet) : ℕ → Type 0 where
  clear_done : RightLists s → ClearSays s 0
  clear_refused : (RightLists s → ⊥) → ClearSays s (number SheetLists)

pub record Readable (records relations : List ℕ) (i j : ℕ) : Type 0 where
  pub tables : RightTables records relations
  pub primary : i < slots
  pub reference : j < slots
  pub primary_there : rings_in records i ≢ 0
  pub reference_there : rings_in records j ≢ 0

pub data ReadSays (records relations : List ℕ) (i j : ℕ) : ℕ → Type 0 where
  read_done : Readable records relations i j → ReadSays records relations i j 0
  read_lists : (RightTables records relations → ⊥) → ReadSays records relations i j (number SheetLists)
  read_slot : RightTables records relations → (slots ≤ i) ⊎ (slots ≤ j) → ReadSays records relations i j (number SlotNumber)
  read_empty : RightTables records relations → i < slots → j < slots → (rings_in records i ≡ 0) ⊎ (rings_in records j ≡ 0) → ReadSays records relations i j (number SlotEmpty)

pub data SeveralSays (records relations pairs results : List ℕ) : ℕ → Type 0 where
  several_done : RightTables records relations → (n : ℕ) → length pairs ≡ 2 * n → n ≤ length results → SeveralSays records relations pairs results 0
  several_lists : (RightTables records relations → ⊥) → SeveralSays records relations pairs results (number SheetLists)
  several_odd : RightTables records relations → (n : ℕ) → length pairs ≡ 2 * n + 1 → SeveralSays records relations pairs results (number PairsOdd)
  several_short : RightTables records relations → (n : ℕ) → length pairs ≡ 2 * n → length results < n → SeveralSays records relations pairs results (number BufferShort)
