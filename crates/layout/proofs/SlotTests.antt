-- The tests of one slot in the order in which they are made: each answer that ends them is that of rule 12.
--   none, many             the slot is empty; it has too many rings
--   Looked xs records i    it is neither;  counted  so its ring ends may be read
--   short, high, outside   a ring is short; the last end is too high; or else whether a coordinate lies outside
--   outlined, sizes_kept   what is known when the coordinates are looked at
use mathlib.Core.Path.{◌≡◌, refl, sym}
use mathlib.Core.Logic.{◌≢◌, inl}
use mathlib.Core.Bool.{Bool, true, false}
use mathlib.Core.List.{List}
use Prim.Native.Nat.{ℕ, ◌<◌, ◌≤◌}
use native.Mathlib.Omega.{arith}
use lib.IntN.{ℤ}
use lib.ListN.{length}
use borrow.Author.Tests.{lt-ltb, le-ltb, ltb-true, ltb-false, eq-eqb, ne_eqb}
use Rattle.plane.specs.Folds.{first_of}
use Rattle.plane.proofs.Folds.{first_below, first_passes}
use Rattle.region.specs.Region.{Region, most_rings, most_vertices, last_end}
use Rattle.region.specs.Rules.{Breaks, Keeps}
use Rattle.region.specs.Check.{short_at, some_outside}
use Rattle.region.proofs.Keeps.{sized, sized_keeps}
use Rattle.region.proofs.Rings.{outside_means, none_outside}
use Rattle.layout.specs.Sheet.{slots}
use Rattle.layout.specs.Standing.{ParcelKeeps}
use Rattle.layout.specs.Slots.{rings_in, empty_in, ends_in, region_in, in_slot}
use Rattle.layout.specs.Damage.{damaged_at}
use Rattle.layout.specs.Steps.{SlotLists, Counted, Outlined}
use Rattle.layout.proofs.Slots.{parcel_there, rings_length, coordinates_length_lem}
use Rattle.layout.proofs.Undamaged.{undamaged_at}

pub record Looked (xs : List ℤ) (records : List ℕ) (i : ℕ) : Type 0 where
  pub lists : SlotLists xs records
  pub slot_in : i < slots
  pub some : rings_in records i ≢ 0
  pub few : rings_in records i ≤ most_rings

module _ (xs : List ℤ) (records : List ℕ) (i : ℕ) where
  pub none : rings_in records i ≡ 0 → false ≡ damaged_at xs records i
  unfolding damaged_at
  none e = sym (rw (le-ltb most_rings (rings_in records i) (omega arith), eq-eqb (rings_in records i) 0 e) refl)

  pub many : most_rings < rings_in records i → true ≡ damaged_at xs records i
  unfolding damaged_at
  many h = sym (rw (lt-ltb most_rings (rings_in records i) h) refl)

module _ {xs : List ℤ} {records : List ℕ} {i : ℕ} (looked : Looked xs records i) where
  abbrev R : Region
  R = region_in xs records i

  pub counted : Counted records i
  counted = record { record_count = looked.lists.record_count; slot_in = looked.slot_in; few = looked.few }

  there : empty_in records i ≡ false
  there = ne_eqb (rings_in records i) 0 looked.some

  rings : length (ends_in records i) ≡ rings_in records i
  rings = rings_length records i counted

  -- a broken rule, and none
  damage : (n r : ℕ) → n ≤ 4 → Breaks R n r → true ≡ damaged_at xs records i
  damage n r l b = go (damaged_at xs records i) refl
    where
      go : (t : Bool) → damaged_at xs records i ≡ t → true ≡ t
      go true e = refl
      go false e =
          let kept : ParcelKeeps 4 (in_slot xs records i) = ((undamaged_at xs records i looked.lists looked.slot_in).0 e).1 in
          absurd ((rw (parcel_there xs records i there) at kept).keeps n r l b)

  good : Keeps 4 R → false ≡ damaged_at xs records i
  good kept = sym ((undamaged_at xs records i looked.lists looked.slot_in).1 (looked.few, rw (parcel_there xs records i there) kept))

  module _ {r : ℕ} (searched : r ≡ first_of (short_at (ends_in records i)) (length (ends_in records i))) where
    pub short : r < rings_in records i → true ≡ damaged_at xs records i
    unfolding short_at
    short l =
        let m : first_of (short_at (ends_in records i)) (length (ends_in records i)) < length (ends_in records i) = omega (arith, searched, rings) in
        damage 2 _ (omega arith) (m, ltb-true _ _ (first_passes (short_at (ends_in records i)) (length (ends_in records i)) m))

    pub high : most_vertices < last_end (ends_in records i) → true ≡ damaged_at xs records i
    high h = damage 3 0 (omega arith) (refl, inl h)

    module _ (long : rings_in records i ≤ r) (low : last_end (ends_in records i) ≤ most_vertices) where
      pub outlined : Outlined xs records i
      outlined = record { counted = counted; coordinate_count = looked.lists.coordinate_count; low = low }

      pub sizes_kept : Keeps 3 R
      unfolding short_at
      sizes_kept =
          sized_keeps
          (record {
            some = omega (arith, rings, looked.some);
            few = omega (arith, rings, looked.few);
            grown = λ k l. ltb-false _ _ (first_below (short_at (ends_in records i)) (length (ends_in records i)) k (omega (arith, searched, rings)));
            small = low;
            listed = coordinates_length_lem xs records i outlined;
          })

      pub outside : some_outside R.coordinates ≡ damaged_at xs records i
      outside = go (some_outside R.coordinates) refl
        where
          go : (t : Bool) → some_outside R.coordinates ≡ t → t ≡ damaged_at xs records i
          go true e = let b = (outside_means (sized sizes_kept)).0 e in damage 4 b.0 (omega arith) b.1
          go false e = good (none_outside sizes_kept e)
