-- The sheet s with the parcel p in slot i, where p may come there.
--   with_lists         its lists have their lengths
--   with_touches       it differs from s only in the room, the record, the row and the column of slot i;  touches_none  as s itself does
--   parcel_standing    p stands in slot i, and in every other slot what stood there
--   with_undamaged     it is undamaged
use mathlib.Core.Path.{◌≡◌, refl, sym, ap, ◌∙◌, subst}
use mathlib.Core.Logic.{◌≢◌}
use mathlib.Core.Bool.{Bool, true, false, ◌||◌}
use mathlib.Core.List.{List}
use Prim.Native.Nat.{ℕ, ◌+◌, ◌*◌, ◌/◌, ◌%◌, ◌<◌, ◌≤◌}
use native.Mathlib.Omega.{arith}
use native.Mathlib.Decide.{ℕ_discrete, dec_lt}
use lib.Dec.{eqb}
use lib.IntN.{pos}
use lib.ListN.{length, get_or, get_or-eq_default}
use borrow.Author.Tests.{eq-eqb, ne_eqb}
use Rattle.plane.specs.Choice.{pick}
use Rattle.plane.specs.Lists.{tab}
use Rattle.plane.proofs.Lists.{length_tab, get_d_tab}
use Rattle.region.specs.Region.{Parcel, most_rings}
use Rattle.layout.specs.Sheet.{Sheet, slots, room, record_length, coordinates_length, records_length, relations_length, RightLists}
use Rattle.layout.specs.Standing.{end_list, coordinate_list, instead, ParcelKeeps}
use Rattle.layout.specs.Layout.{record_number, cell_of}
use Rattle.layout.specs.Slots.{rings_in, parcel_at}
use Rattle.layout.specs.Damage.{Undamaged}
use Rattle.layout.specs.Changes.{with_parcel, TouchesOnly}
use Rattle.layout.specs.Steps.{Ready}
use Rattle.layout.proofs.Blocks.{block_of, place_in}
use Rattle.layout.proofs.Slots.{few_rings, Lies, rings_read, parcel_read, Agree, rings_same, parcel_same}
use Rattle.layout.proofs.Undamaged.{stand_undamaged, slot_lists, undamaged_stand, undamaged_whole}

-- ---- a table of which only the places that pass a test differ from a list
module _ {A : Type 0} (d : A) (t : ℕ → Bool) (f : ℕ → A) (l : List A) (n : ℕ) where
  abbrev changed : ℕ → A
  changed k = pick (t k) (f k) (get_or l k d)

  changed_at : (k : ℕ) → k < n → t k ≡ true → get_or (tab changed n) k d ≡ f k
  changed_at k h e = get_d_tab changed d n k h ∙ simp e

  changed_frame : length l ≡ n → (k : ℕ) → t k ≡ false → get_or (tab changed n) k d ≡ get_or l k d
  changed_frame m k e =
      elim (dec_lt k n) [
        | yes h ↦ get_d_tab changed d n k h ∙ simp e
        | no h ↦ get_or-eq_default (tab changed n) d (omega (arith, length_tab changed n)) ∙ sym (get_or-eq_default l d (omega arith))
      ]

pub touches_none : (s : Sheet) (i : ℕ) → TouchesOnly i s s
touches_none s i =
    record { coordinate_count = refl; record_count = refl; relation_count = refl; numbers = λ k h. refl; entries = λ k h. refl; cells = λ k g h. refl }

module _ (s : Sheet) (i : ℕ) (p : Parcel) where
  lengths : RightLists (with_parcel s i p)
  unfolding with_parcel
  lengths = record { coordinate_count = length_tab _ coordinates_length; record_count = length_tab _ records_length; relation_count = length_tab _ relations_length }

  -- ---- the slot's own numbers, and all others
  with_lies : i < slots → Lies (with_parcel s i p) i p
  unfolding with_parcel
  with_lies il =
      record {
        number = λ k l.
            changed_at (pos 0) (λ j. eqb (j / room) i) (λ j. get_or (coordinate_list p) (j % room) (pos 0)) s.coordinates coordinates_length (room * i + k)
            (omega arith) (eq-eqb ((room * i + k) / room) i (omega arith))
            ∙ ap (λ (j : ℕ). get_or (coordinate_list p) j (pos 0)) (place_in room (omega arith) i k l);
        entry = λ k l.
            changed_at 0 (λ j. eqb (j / record_length) i) (λ j. record_number (end_list p) (j % record_length)) s.records records_length (record_length * i + k)
            (omega arith) (eq-eqb ((record_length * i + k) / record_length) i (omega arith))
            ∙ ap (record_number (end_list p)) (place_in record_length (omega arith) i k l);
      }

  touches : RightLists s → TouchesOnly i s (with_parcel s i p)
  unfolding with_parcel
  touches right =
      record {
        coordinate_count = length_tab _ coordinates_length ∙ sym right.coordinate_count;
        record_count = length_tab _ records_length ∙ sym right.record_count;
        relation_count = length_tab _ relations_length ∙ sym right.relation_count;
        numbers = λ k h. changed_frame (pos 0) (λ j. eqb (j / room) i) (λ j. get_or (coordinate_list p) (j % room) (pos 0)) s.coordinates coordinates_length
            right.coordinate_count k (ne_eqb (k / room) i h);
        entries = λ k h. changed_frame 0 (λ j. eqb (j / record_length) i) (λ j. record_number (end_list p) (j % record_length)) s.records records_length
            right.record_count k (ne_eqb (k / record_length) i h);
        cells = λ k h g. changed_frame 0 (λ j. eqb (j / slots) i || eqb (j % slots) i)
            (λ j. cell_of (instead (parcel_at s) i p (j / slots)) (instead (parcel_at s) i p (j % slots)) (eqb (j / slots) (j % slots))) s.relations relations_length
            right.relation_count k (simp (ne_eqb (k / slots) i h, ne_eqb (k % slots) i g));
      }

  module _ (ready : Ready s i p) where
    right : RightLists s
    right = ready.change.lists

    pub with_lists : RightLists (with_parcel s i p)
    with_lists = lengths

    pub with_touches : TouchesOnly i s (with_parcel s i p)
    with_touches = touches right

    agree : (k : ℕ) → k ≢ i → Agree (with_parcel s i p) s k
    agree k ne =
        record {
          number = λ j l. with_touches.numbers (room * k + j) (λ e. ne (sym (block_of room (omega arith) k j l) ∙ e));
          entry = λ j l. with_touches.entries (record_length * k + j) (λ e. ne (sym (block_of record_length (omega arith) k j l) ∙ e));
        }

    parcel_in_lem : parcel_at (with_parcel s i p) i ≡ p
    parcel_in_lem = parcel_read (with_parcel s i p) i (slot_lists (with_parcel s i p) with_lists) ready.change.slot_in p ready.keeps (with_lies ready.change.slot_in)

    parcel_kept : (k : ℕ) → k < slots → k ≢ i → parcel_at (with_parcel s i p) k ≡ parcel_at s k
    parcel_kept k kl ne =
        parcel_same (with_parcel s i p) s k (agree k ne) (slot_lists (with_parcel s i p) with_lists) ((undamaged_whole s right ready.change.undamaged).outlined k kl)

    pub parcel_standing : (k : ℕ) → k < slots → parcel_at (with_parcel s i p) k ≡ instead (parcel_at s) i p k
    parcel_standing k kl =
        elim (ℕ_discrete k i) [
          | yes e ↦ ap (parcel_at (with_parcel s i p)) e ∙ parcel_in_lem ∙ simp (eq-eqb k i e)
          | no e ↦ parcel_kept k kl e ∙ simp (ne_eqb k i e)
        ]

    rings_few : (k : ℕ) → k < slots → rings_in (with_parcel s i p).records k ≤ most_rings
    rings_few k kl =
        elim (ℕ_discrete k i) [
          | yes e ↦ rw e (rw (rings_read (with_parcel s i p) i p (with_lies ready.change.slot_in)) (few_rings p ready.keeps))
          | no e ↦ rw (rings_same (with_parcel s i p) s k (agree k e)) (ready.change.undamaged.few_rings k kl)
        ]

    standing_keeps : (k : ℕ) → k < slots → ParcelKeeps 4 (instead (parcel_at s) i p k)
    standing_keeps k kl = go (eqb k i)
      where
        go : (t : Bool) → ParcelKeeps 4 (pick t p (parcel_at s k))
        go true = ready.keeps
        go false = (undamaged_stand s right ready.change.undamaged).each k kl

    pub with_undamaged : Undamaged (with_parcel s i p)
    with_undamaged = stand_undamaged (with_parcel s i p) rings_few (λ k kl. subst (ParcelKeeps 4) (sym (parcel_standing k kl)) (standing_keeps k kl))
