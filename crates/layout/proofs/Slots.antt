-- What is read from the slots of any sheet.
--   keeps_sized     a region that keeps rules 1 to 4 has its sizes;  few_rings, few_vertices, few_coordinates  a parcel that does has as few as it may
--   parcel_empty, parcel_there    what stands in a slot that is empty, and in one that is not
--   occupied_in, ends_in_lem, coordinates_in_lem  whether a parcel is there, its ring ends and its coordinates, by the lists
--   rings_length, coordinates_length_lem  how many of them there are
--   Lies s i p      the numbers of slot i are those of the parcel p;  rings_read, parcel_read  then its ring count and p are read there
--   Agree s t i     two sheets have the same numbers in slot i;  rings_same, parcel_same  then the same ring count and parcel are read there
use mathlib.Core.Path.{◌≡◌, refl, sym, ap, ◌∙◌}
use mathlib.Core.Logic.{◌≢◌}
use mathlib.Core.Bool.{Bool, true, false, not}
use mathlib.Core.List.{List, []}
use Prim.Native.Nat.{ℕ, suc, ◌+◌, ◌*◌, ◌<◌, ◌≤◌}
use native.Mathlib.Omega.{arith}
use lib.Dec.{eqb}
use lib.IntN.{ℤ, pos}
use lib.ListN.{length, get_or, take, drop}
use borrow.Author.Tests.{eqb-true, eq-eqb, ne_eqb}
use Rattle.plane.specs.Choice.{pick}
use Rattle.region.specs.Region.{Region, region_of, Parcel, nothing, outline, most_rings, most_vertices, last_end}
use Rattle.region.specs.Rules.{Keeps}
use Rattle.region.proofs.Keeps.{keeps_fewer, Sized, sized}
use Rattle.layout.specs.Sheet.{Sheet, slots, room, record_length}
use Rattle.layout.specs.Standing.{occupied, end_list, coordinate_list, ParcelKeeps}
use Rattle.layout.specs.Layout.{record_number}
use Rattle.layout.specs.Slots.{rings_in, empty_in, ends_in, coordinates_in, region_in, in_slot, parcel_at}
use Rattle.layout.specs.Steps.{SlotLists, Counted, Outlined}
use Rattle.layout.proofs.Blocks.{part_length, part_is, part_same}

-- ---- a parcel that may stand
pub keeps_sized : (R : Region) → Keeps 4 R → Sized R
keeps_sized R kept = sized (keeps_fewer (omega arith) kept)

pub few_rings : (p : Parcel) → ParcelKeeps 4 p → length (end_list p) ≤ most_rings
few_rings nothing kept = omega arith
few_rings (outline R) kept = (keeps_sized R kept).few

pub few_vertices : (p : Parcel) → ParcelKeeps 4 p → last_end (end_list p) ≤ most_vertices
few_vertices nothing kept = omega arith
few_vertices (outline R) kept = (keeps_sized R kept).small

pub few_coordinates : (p : Parcel) → ParcelKeeps 4 p → length (coordinate_list p) ≤ room
few_coordinates nothing kept = omega arith
few_coordinates (outline R) kept = let size = keeps_sized R kept in omega (arith, size.small, size.listed)

-- ---- one slot
module _ (xs : List ℤ) (records : List ℕ) (i : ℕ) where
  pub parcel_empty : empty_in records i ≡ true → in_slot xs records i ≡ nothing
  unfolding in_slot
  parcel_empty e = simp e

  pub parcel_there : empty_in records i ≡ false → in_slot xs records i ≡ outline (region_in xs records i)
  unfolding in_slot
  parcel_there e = simp e

  pub occupied_in : occupied (in_slot xs records i) ≡ not (empty_in records i)
  unfolding in_slot
  occupied_in = go (empty_in records i)
    where
      go : (b : Bool) → occupied (pick b nothing (outline (region_in xs records i))) ≡ not b
      go true = refl
      go false = refl

  none_used : empty_in records i ≡ true → ends_in records i ≡ []
  unfolding ends_in
  none_used e = ap (λ (n : ℕ). take n (drop (record_length * i + 1) records)) (eqb-true (rings_in records i) 0 e)

  pub ends_in_lem : end_list (in_slot xs records i) ≡ ends_in records i
  unfolding in_slot
  ends_in_lem = go (empty_in records i) refl
    where
      go : (b : Bool) → empty_in records i ≡ b → end_list (pick b nothing (outline (region_in xs records i))) ≡ ends_in records i
      go true e = sym (none_used e)
      go false e = refl

  pub coordinates_in_lem : coordinate_list (in_slot xs records i) ≡ coordinates_in xs records i
  unfolding in_slot coordinates_in
  coordinates_in_lem = go (empty_in records i) refl
    where
      go : (b : Bool) → empty_in records i ≡ b → coordinate_list (pick b nothing (outline (region_in xs records i))) ≡ coordinates_in xs records i
      go true e = sym (ap (λ (l : List ℕ). take (2 * last_end l) (drop (room * i) xs)) (none_used e))
      go false e = refl

pub rings_length : (records : List ℕ) (i : ℕ) → Counted records i → length (ends_in records i) ≡ rings_in records i
unfolding ends_in
rings_length records i h = part_length (record_length * i + 1) (rings_in records i) records (omega (arith, h.record_count, h.slot_in, h.few))

pub coordinates_length_lem : (xs : List ℤ) (records : List ℕ) (i : ℕ) → Outlined xs records i → length (coordinates_in xs records i) ≡ 2 * last_end (ends_in records i)
unfolding coordinates_in
coordinates_length_lem xs records i h =
    part_length (room * i) (2 * last_end (ends_in records i)) xs (omega (arith, h.coordinate_count, h.counted.slot_in, h.low))

-- ---- a slot in which a parcel lies
pub record Lies (s : Sheet) (i : ℕ) (p : Parcel) : Type 0 where
  pub number : (k : ℕ) → k < room → get_or s.coordinates (room * i + k) (pos 0) ≡ get_or (coordinate_list p) k (pos 0)
  pub entry : (k : ℕ) → k < record_length → get_or s.records (record_length * i + k) 0 ≡ record_number (end_list p) k

front : (l : List ℕ) (a b : ℕ) → b ≡ a + 0 → get_or l a 0 ≡ get_or l b 0
front l a b e = let q : a ≡ b = omega arith in ap (λ (z : ℕ). get_or l z 0) q

pub rings_read : (s : Sheet) (i : ℕ) (p : Parcel) → Lies s i p → rings_in s.records i ≡ length (end_list p)
unfolding rings_in
rings_read s i p h = front s.records (record_length * i) (record_length * i + 0) refl ∙ h.entry 0 (omega arith)

module _ (s : Sheet) (i : ℕ) (right : SlotLists s.coordinates s.records) (il : i < slots) where
  module _ (R : Region) (size : Sized R) (h : Lies s i (outline R)) where
    ends_read : ends_in s.records i ≡ R.ends
    unfolding ends_in
    ends_read =
        rw (rings_read s i (outline R) h)
        (part_is 0 (record_length * i + 1) (length R.ends) s.records R.ends refl (omega (arith, right.record_count, size.few))
        (λ j l. let e : record_length * i + 1 + j ≡ record_length * i + suc j = omega arith in
        ap (λ (k : ℕ). get_or s.records k 0) e ∙ h.entry (suc j) (omega (arith, size.few))))

    numbers_read : coordinates_in s.coordinates s.records i ≡ R.coordinates
    unfolding coordinates_in
    numbers_read =
        rw ends_read
        (part_is (pos 0) (room * i) (2 * last_end R.ends) s.coordinates R.coordinates size.listed (omega (arith, right.coordinate_count, size.small))
        (λ j l. h.number j (omega (arith, size.small))))

  pub parcel_read : (p : Parcel) → ParcelKeeps 4 p → Lies s i p → parcel_at s i ≡ p
  parcel_read nothing kept h = parcel_empty s.coordinates s.records i (eq-eqb (rings_in s.records i) 0 (rings_read s i nothing h))
  parcel_read (outline R) kept h =
      let size = keeps_sized R kept in
      let e : rings_in s.records i ≢ 0 = λ q. absurd (omega (arith, size.some, rings_read s i (outline R) h, q)) in
      parcel_there s.coordinates s.records i (ne_eqb (rings_in s.records i) 0 e)
      ∙ λ j. outline (region_of (numbers_read R size h j) (ends_read R size h j))

-- ---- two sheets that agree on a slot
pub record Agree (s t : Sheet) (i : ℕ) : Type 0 where
  pub number : (k : ℕ) → k < room → get_or s.coordinates (room * i + k) (pos 0) ≡ get_or t.coordinates (room * i + k) (pos 0)
  pub entry : (k : ℕ) → k < record_length → get_or s.records (record_length * i + k) 0 ≡ get_or t.records (record_length * i + k) 0

module _ (s t : Sheet) (i : ℕ) (h : Agree s t i) where
  pub rings_same : rings_in s.records i ≡ rings_in t.records i
  unfolding rings_in
  rings_same =
      front s.records (record_length * i) (record_length * i + 0) refl ∙ h.entry 0 (omega arith)
      ∙ sym (front t.records (record_length * i) (record_length * i + 0) refl)

  module _ (right : SlotLists s.coordinates s.records) (there : Outlined t.coordinates t.records i) where
    ends_same : ends_in s.records i ≡ ends_in t.records i
    unfolding ends_in
    ends_same =
        rw rings_same
        (part_same 0 (record_length * i + 1) (rings_in t.records i) s.records t.records (right.record_count ∙ sym there.counted.record_count)
        (λ j l. let e : record_length * i + 1 + j ≡ record_length * i + suc j = omega arith in
        ap (λ (k : ℕ). get_or s.records k 0) e ∙ h.entry (suc j) (omega (arith, there.counted.few)) ∙ sym (ap (λ (k : ℕ). get_or t.records k 0) e)))

    numbers_same : coordinates_in s.coordinates s.records i ≡ coordinates_in t.coordinates t.records i
    unfolding coordinates_in
    numbers_same =
        rw ends_same
        (part_same (pos 0) (room * i) (2 * last_end (ends_in t.records i)) s.coordinates t.coordinates (right.coordinate_count ∙ sym there.coordinate_count)
        (λ j l. h.number j (omega (arith, there.low))))

    pub parcel_same : parcel_at s i ≡ parcel_at t i
    unfolding in_slot
    parcel_same = λ j. pick (eqb (rings_same j) 0) nothing (outline (region_of (numbers_same j) (ends_same j)))
