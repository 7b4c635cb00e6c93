-- SCOPE 7.4, 7.6, 1.3: a parcel comes into a slot, or nothing does, in place of what stood there. Room, record, row and column of the slot are
-- written whole, zeros included, and nothing else is. Every such change is refused by 11, 8 and 12, in this order, before it looks at anything
-- of its own; a call without a slot by 11, then 12.
--   with_parcel s i p       the sheet s with p in slot i
--   TouchesOnly i s t       what SCOPE 1.3 allows a put or a removal, place by place: t differs from s at most in the room and the record of slot i, and
--                           in its row and its column. That with_parcel keeps to it: proofs/Written, `with_touches`
--   change_number s i       the refusal of any change of slot i, or 0
--   whole_number s          the refusal of a call on the whole sheet, or 0. Its meaning: proofs/Refusing, `whole_means`
--   Changeable s i          nothing refuses a change of slot i. That it is so exactly where the number is 0: proofs/Refusing, `change_means`
use Rattle.std.specs.Prelude.{◌≡◌, ◌≢◌, ◌||◌, ℕ, ◌/◌, ◌%◌, ◌<◌, ltb, eqb, pos, length, get_or}
use Rattle.plane.specs.Choice.{pick}
use Rattle.plane.specs.Lists.{tab}
use Rattle.region.specs.Region.{Parcel}
use Rattle.region.specs.declared.refusals.Refusal.TheVariants.{SlotNumber, SheetLists, SheetDamaged}
use Rattle.region.specs.Refusals.{number_if, or_else}
use Rattle.layout.specs.Sheet.{Sheet, slots, last_slot, room, record_length, coordinates_length, records_length, relations_length, RightLists, wrong_lists}
use Rattle.layout.specs.Standing.{end_list, coordinate_list, instead}
use Rattle.layout.specs.Layout.{record_number, cell_of}
use Rattle.layout.specs.Slots.{parcel_at}
use Rattle.layout.specs.Damage.{Undamaged, damaged}

unfoldable pub with_parcel : Sheet → ℕ → Parcel → Sheet
with_parcel s i p =
    record {
      coordinates = tab (λ k. pick (eqb (k / room) i) (get_or (coordinate_list p) (k % room) (pos 0)) (get_or s.coordinates k (pos 0))) coordinates_length;
      records = tab (λ k. pick (eqb (k / record_length) i) (record_number (end_list p) (k % record_length)) (get_or s.records k 0)) records_length;
      relations = tab (λ k.
          pick (eqb (k / slots) i || eqb (k % slots) i)
          (cell_of (instead (parcel_at s) i p (k / slots)) (instead (parcel_at s) i p (k % slots)) (eqb (k / slots) (k % slots)))
          (get_or s.relations k 0)) relations_length;
    }

pub record TouchesOnly (i : ℕ) (s t : Sheet) : Type 0 where
  pub coordinate_count : length t.coordinates ≡ length s.coordinates
  pub record_count : length t.records ≡ length s.records
  pub relation_count : length t.relations ≡ length s.relations
  pub numbers : (k : ℕ) → k / room ≢ i → get_or t.coordinates k (pos 0) ≡ get_or s.coordinates k (pos 0)
  pub entries : (k : ℕ) → k / record_length ≢ i → get_or t.records k 0 ≡ get_or s.records k 0
  pub cells : (k : ℕ) → k / slots ≢ i → k % slots ≢ i → get_or t.relations k 0 ≡ get_or s.relations k 0

unfoldable pub change_number : Sheet → ℕ → ℕ
change_number s i = or_else (number_if (wrong_lists s) SheetLists) (or_else (number_if (ltb last_slot i) SlotNumber) (number_if (damaged s) SheetDamaged))

unfoldable pub whole_number : Sheet → ℕ
whole_number s = or_else (number_if (wrong_lists s) SheetLists) (number_if (damaged s) SheetDamaged)

pub record Changeable (s : Sheet) (i : ℕ) : Type 0 where
  pub lists : RightLists s
  pub slot_in : i < slots
  pub undamaged : Undamaged s
