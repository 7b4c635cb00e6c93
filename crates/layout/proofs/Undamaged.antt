-- Rule 12 (SCOPE 7.5).
--   undamaged_at      a slot is undamaged exactly where its ring count is at most 8 and what stands there keeps rules 1 to 4
--   undamaged_means   the tests of rule 12 find nothing exactly where the sheet is undamaged in the document's words
--   slot_lists        the lists in which the outlines lie have their lengths
--   undamaged_stand   what stands on an undamaged sheet may stand;  stand_undamaged  and back;  undamaged_whole  so it may be read
--   slots_whole       the same where no slot is damaged, whatever the relations
use mathlib.Core.Path.{◌≡◌, refl, sym, subst}
use mathlib.Core.Logic.{◌↔◌}
use mathlib.Core.Bool.{Bool, true, false, not, ◌&&◌, ◌||◌}
use mathlib.Core.List.{List}
use Prim.Native.Nat.{ℕ, suc, ◌<◌, ◌≤◌}
use native.Mathlib.Omega.{arith}
use lib.Dec.{ltb}
use lib.IntN.{ℤ}
use lib.ListN.{length, replicate, length-replicate}
use borrow.Author.Tests.{ltb-false, le-ltb, eqb-false}
use Rattle.plane.specs.Folds.{any_to}
use Rattle.plane.proofs.Folds.{any_none}
use Rattle.region.specs.Region.{Region, outline, most_rings, most_vertices, last_end}
use Rattle.region.specs.Rules.{Keeps}
use Rattle.region.specs.Check.{breaks_at}
use Rattle.region.proofs.Keeps.{keeps_more, keeps_fewer, counted_keeps, listed_keeps}
use Rattle.region.proofs.Search.{or_false, none_any}
use Rattle.region.proofs.Tests.{keeps_passes, passes_keeps}
use Rattle.layout.specs.Sheet.{Sheet, sheet_of, slots, relations_length, RightLists}
use Rattle.layout.specs.Standing.{ParcelKeeps, StandTogether}
use Rattle.layout.specs.Slots.{rings_in, empty_in, region_in, in_slot, parcel_at}
use Rattle.layout.specs.Damage.{Undamaged, breaks_rule, damaged_at, damaged}
use Rattle.layout.specs.Steps.{SlotLists, Counted, Whole}
use Rattle.layout.proofs.Slots.{keeps_sized, few_vertices, parcel_empty, parcel_there, ends_in_lem, rings_length, coordinates_length_lem}

-- ---- one rule more, by its test
passed : (R : Region) (n : ℕ) → 0 < n → Keeps n R → breaks_rule R (suc n) ≡ false → Keeps (suc n) R
passed R n l kept h = passes_keeps R n l kept (λ r. none_any (breaks_at R (suc n)) (length R.ends) r h)

passes : (R : Region) (n : ℕ) → Keeps (suc n) R → breaks_rule R (suc n) ≡ false
passes R n kept = any_none (breaks_at R (suc n)) (length R.ends) (λ r l. keeps_passes R r n kept)

-- ---- one slot
module _ (xs : List ℤ) (records : List ℕ) (i : ℕ) (right : SlotLists xs records) (il : i < slots) where
  abbrev R : Region
  R = region_in xs records i

  abbrev broken : Bool
  broken = breaks_rule R 2 || (ltb most_vertices (last_end R.ends) || breaks_rule R 4)

  module _ (few : rings_in records i ≤ most_rings) where
    counted : Counted records i
    counted = record { record_count = right.record_count; slot_in = il; few = few }

    one_kept : empty_in records i ≡ false → Keeps 1 R
    one_kept e =
        let n = rings_length records i counted in
        counted_keeps (omega (arith, n, eqb-false (rings_in records i) 0 e)) (omega arith)

    three_kept : Keeps 2 R → last_end R.ends ≤ most_vertices → Keeps 3 R
    three_kept two low = listed_keeps two low (coordinates_length_lem xs records i (record { counted = counted; coordinate_count = right.coordinate_count; low = low }))

  stands : (t : Bool) → empty_in records i ≡ t → rings_in records i ≤ most_rings → not t && broken ≡ false → ParcelKeeps 4 (in_slot xs records i)
  stands true e few h = subst (ParcelKeeps 4) (sym (parcel_empty xs records i e)) tt
  stands false e few h =
      let a = or_false (breaks_rule R 2) _ h in
      let b = or_false (ltb most_vertices (last_end R.ends)) (breaks_rule R 4) a.1 in
      let two = passed R 1 (omega arith) (one_kept few e) a.0 in
      subst (ParcelKeeps 4) (sym (parcel_there xs records i e)) (passed R 3 (omega arith) (three_kept few two (ltb-false _ _ b.0)) b.1)

  none_broken : (t : Bool) → empty_in records i ≡ t → ParcelKeeps 4 (in_slot xs records i) → not t && broken ≡ false
  none_broken true e kept = refl
  none_broken false e kept =
      let four : Keeps 4 R = subst (ParcelKeeps 4) (parcel_there xs records i e) kept in
      rw (passes R 1 (keeps_fewer (omega arith) four), le-ltb most_vertices (last_end R.ends) (keeps_sized R four).small) (passes R 3 four)

  pub undamaged_at : (damaged_at xs records i ≡ false) ↔ ((rings_in records i ≤ most_rings) × ParcelKeeps 4 (in_slot xs records i))
  unfolding damaged_at
  undamaged_at = (
    λ h. let a = or_false (ltb most_rings (rings_in records i)) _ h in
        let few : rings_in records i ≤ most_rings = ltb-false _ _ a.0 in
        (few, stands (empty_in records i) refl few a.1),
    λ h. rw (le-ltb most_rings (rings_in records i) h.0) (none_broken (empty_in records i) refl h.1),
  )

-- ---- the whole sheet
-- where every slot has few rings and what may stand, no slot is damaged
pub stand_undamaged : (s : Sheet) → ((i : ℕ) → i < slots → rings_in s.records i ≤ most_rings) → ((i : ℕ) → i < slots → ParcelKeeps 4 (parcel_at s i)) → Undamaged s
stand_undamaged s few stand =
    record {
      few_rings = few;
      none_short = λ i R l e r b. (four i R l e).keeps 2 r (omega arith) b;
      low_end = λ i R l e. (keeps_sized R (four i R l e)).small;
      none_outside = λ i R l e r b. (four i R l e).keeps 4 r (omega arith) b;
    }
  where
    four : (i : ℕ) (R : Region) → i < slots → parcel_at s i ≡ outline R → Keeps 4 R
    four i R l e = subst (ParcelKeeps 4) e (stand i l)

module _ (s : Sheet) (right : RightLists s) where
  pub slot_lists : SlotLists s.coordinates s.records
  slot_lists = record { coordinate_count = right.coordinate_count; record_count = right.record_count }

  module _ (u : Undamaged s) where
    stands_at : (i : ℕ) → i < slots → (t : Bool) → empty_in s.records i ≡ t → ParcelKeeps 4 (parcel_at s i)
    stands_at i l true e = subst (ParcelKeeps 4) (sym (parcel_empty s.coordinates s.records i e)) tt
    stands_at i l false e =
        let is = parcel_there s.coordinates s.records i e in
        let few = u.few_rings i l in
        let two = keeps_more (one_kept s.coordinates s.records i slot_lists l few e) (u.none_short i _ l is) in
        let three = three_kept s.coordinates s.records i slot_lists l few two (u.low_end i _ l is) in
        subst (ParcelKeeps 4) (sym is) (keeps_more three (u.none_outside i _ l is))

    pub undamaged_stand : StandTogether 4 (parcel_at s)
    undamaged_stand = record { each = λ i l. stands_at i l (empty_in s.records i) refl }

    pub undamaged_whole : Whole s.coordinates s.records
    undamaged_whole =
        record {
          outlined = λ i l. record {
            counted = record { record_count = right.record_count; slot_in = l; few = u.few_rings i l };
            coordinate_count = right.coordinate_count;
            low = rw (← ends_in_lem s.coordinates s.records i) (few_vertices (parcel_at s i) (undamaged_stand.each i l));
          };
          keeps = undamaged_stand.each;
        }

  pub undamaged_means : (damaged s ≡ false) ↔ Undamaged s
  unfolding damaged
  undamaged_means = (
    λ h. stand_undamaged s (λ i l. (at h i l).0) (λ i l. (at h i l).1),
    λ u. any_none (damaged_at s.coordinates s.records) slots (λ i l. (undamaged_at s.coordinates s.records i slot_lists l).1 (u.few_rings i l, (undamaged_stand u).each i l)),
  )
    where
      at : any_to (damaged_at s.coordinates s.records) slots ≡ false → (i : ℕ) → i < slots → (rings_in s.records i ≤ most_rings) × ParcelKeeps 4 (parcel_at s i)
      at h i l = (undamaged_at s.coordinates s.records i slot_lists l).0 (none_any (damaged_at s.coordinates s.records) slots i h l)

-- where no slot is damaged every slot may be read, whatever the relations
pub slots_whole : (xs : List ℤ) (records : List ℕ) → SlotLists xs records → any_to (damaged_at xs records) slots ≡ false → Whole xs records
unfolding damaged
slots_whole xs records right h = undamaged_whole s lists ((undamaged_means s lists).0 h)
  where
    s : Sheet
    s = sheet_of xs records (replicate relations_length 0)

    lists : RightLists s
    lists = record { coordinate_count = right.coordinate_count; record_count = right.record_count; relation_count = length-replicate {A = ℕ} relations_length 0 }
