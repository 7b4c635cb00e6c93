-- Accepted parcels, once written, read back the same.
--   written_parcel    the card puts into each slot what stood there
--   written_good      it is a good card
use mathlib.Core.Path.{◌≡◌, refl, sym, ◌∙◌, ap}
use mathlib.Core.Logic.{◌≢◌}
use Prim.Native.Nat.{ℕ, zero, suc, ◌+◌, ◌-◌, ◌≤◌, ◌<◌}
use native.Mathlib.Omega.{arith}
use native.Mathlib.Decide.{dec_lt}
use lib.Dec.{ltb, eqb}
use lib.ListN.{length}
use borrow.Author.Tests.{eq-eqb, ne_eqb, lt-ltb, le-ltb}
use Rattle.plane.specs.Choice.{pick}
use Rattle.plane.specs.Folds.{sum_to}
use Rattle.plane.specs.TileSet.{one_if}
use Rattle.plane.proofs.Folds.{first_hit, first_none}
use Rattle.region.specs.Region.{Region, Parcel, nothing, outline, last_end}
use Rattle.region.specs.Rules.{KeepsRules}
use Rattle.region.proofs.Keeps.{Sized}
use Rattle.layout.specs.Sheet.{slots}
use Rattle.layout.specs.Standing.{occupied, StandTogether, parcels_below, rings_below, vertices_below}
use Rattle.card.specs.Layout.{parcels_at, rings_at, vertices_at}
use Rattle.card.specs.Reading.{parcel_count, slot_at, count_at, first_ring, first_vertex, entry_of, parcel_in, ends_at, region_at}
use Rattle.card.specs.Good.{GoodCard}
use Rattle.writing.specs.Write.{card_of}
use Rattle.writing.proofs.Lengths.{written_length}
use Rattle.endian.proofs.Held.{u16_held}
use Rattle.runs.proofs.WrittenCard.{B, parts, parcels_le, rings_le, vertices_le, parcels_read, rings_read, vertices_read, kept, size, slot_read, count_read, rings_before, vertices_before, region_read}

module _ (st : ℕ → Parcel) where
  before_le : (i d : ℕ) → parcels_below st i ≤ parcels_below st (i + d)
  unfolding sum_to parcels_below
  before_le i zero = rw (plain i) (omega arith)
    where
      plain : (a : ℕ) → a + 0 ≡ a
      plain a = omega arith
  before_le i (suc d) = let e : i + suc d ≡ suc (i + d) = omega arith in rw e (omega (arith, before_le i d))

  -- the slot of entry k
  record SlotOf (n k : ℕ) : Type 0 where
    slot : ℕ
    low : slot < n
    region : Region
    there : st slot ≡ outline region
    place : parcels_below st slot ≡ k

  slot_of : (n k : ℕ) → k < parcels_below st n → SlotOf n k
  unfolding sum_to parcels_below
  slot_of zero k h = absurd (omega arith)
  slot_of (suc n) k h = go (st n) refl (dec_lt k (parcels_below st n)) (slot_of n k) h
    where
      go : (p : Parcel) → st n ≡ p → Dec (k < parcels_below st n) → (k < parcels_below st n → SlotOf n k) → k < parcels_below st n + one_if (occupied p) → SlotOf (suc n) k
      go p e (yes l) rec q = let x = rec l in record { slot = x.slot; low = omega (arith, x.low); region = x.region; there = x.there; place = x.place }
      go nothing e (no l) rec q = absurd (omega arith)
      go (outline R) e (no l) rec q = record { slot = n; low = omega arith; region = R; there = e; place = omega arith }

  -- a standing parcel comes before those in later slots
  before_more : (i j : ℕ) (R : Region) → st i ≡ outline R → i < j → parcels_below st i < parcels_below st j
  unfolding sum_to parcels_below
  before_more i j R e l =
      let d : suc i + (j - suc i) ≡ j = omega arith in
      let m = before_le (suc i) (j - suc i) in
      let one : one_if (occupied (st i)) ≡ 1 = ap (λ (p : Parcel). one_if (occupied p)) e in
      omega (arith, rw d at m, one)

  module _ (stand : StandTogether 7 st) where
    total_is : parcel_count (B st) ≡ parcels_below st slots
    total_is = parcels_read st stand

    -- the slot that entry k names
    entry_slot : (k : ℕ) → k < parcel_count (B st) → SlotOf slots k
    entry_slot k l = slot_of slots k (omega (arith, total_is))

    named : (k : ℕ) (l : k < parcel_count (B st)) → slot_at (B st) k ≡ (entry_slot k l).slot
    named k l = let x = entry_slot k l in ap (slot_at (B st)) (sym x.place) ∙ slot_read st stand x.slot x.low x.region x.there

    entry_there : (i : ℕ) (hi : i < slots) (R : Region) → st i ≡ outline R → entry_of (B st) i ≡ parcels_below st i
    unfolding entry_of
    entry_there i hi R e =
        first_hit (λ k. eqb (slot_at (B st) k) i) (parcels_below st i) (parcel_count (B st)) (omega (arith, total_is, before_more i slots R e hi))
        (λ k l. ne_eqb (slot_at (B st) k) i (other k l)) (eq-eqb (slot_at (B st) (parcels_below st i)) i (slot_read st stand i hi R e))
      where
        other : (k : ℕ) → k < parcels_below st i → slot_at (B st) k ≢ i
        other k l q =
            let m : k < parcel_count (B st) = omega (arith, total_is, before_more i slots R e hi) in
            let x = entry_slot k m in
            let s : x.slot ≡ i = sym (named k m) ∙ q in
            differ (parcels_below st i) k l (sym (ap (parcels_below st) s) ∙ x.place)
          where
            differ : (a b : ℕ) → b < a → a ≡ b → ⊥
            differ a b l e = omega arith

    entry_none : (i : ℕ) → st i ≡ nothing → entry_of (B st) i ≡ parcel_count (B st)
    unfolding entry_of
    entry_none i e = first_none (λ k. eqb (slot_at (B st) k) i) (parcel_count (B st)) (λ k l. ne_eqb (slot_at (B st) k) i (other k l))
      where
        other : (k : ℕ) → k < parcel_count (B st) → slot_at (B st) k ≢ i
        other k l q =
            let x = entry_slot k l in
            let s : x.slot ≡ i = sym (named k l) ∙ q in
            let z : one_if (occupied (st x.slot)) ≡ 1 = ap (λ (p : Parcel). one_if (occupied p)) x.there in
            let y : one_if (occupied (st x.slot)) ≡ 0 = ap (λ (m : ℕ). one_if (occupied (st m))) s ∙ ap (λ (p : Parcel). one_if (occupied p)) e in
            clash (one_if (occupied (st x.slot))) z y
          where
            clash : (a : ℕ) → a ≡ 1 → a ≡ 0 → ⊥
            clash a p q = omega arith

    pub written_parcel : (i : ℕ) → i < slots → parcel_in (card_of st) i ≡ st i
    unfolding parcel_in
    written_parcel i hi = go (st i) refl
      where
        go : (p : Parcel) → st i ≡ p → pick (ltb (entry_of (B st) i) (parcel_count (B st))) (outline (region_at (B st) (entry_of (B st) i))) nothing ≡ p
        go nothing e = rw (entry_none i e, le-ltb (parcel_count (B st)) (parcel_count (B st)) (omega arith)) refl
        go (outline R) e =
            rw (entry_there i hi R e, lt-ltb (parcels_below st i) (parcel_count (B st)) (omega (arith, total_is, before_more i slots R e hi))) (ap outline (region_read st stand i hi R e))

    -- ---- the card is a good one
    module _ (k : ℕ) (l : k < parcel_count (B st)) where
      abbrev here : SlotOf slots k
      here = entry_slot k l

      count_here : count_at (B st) k ≡ length here.region.ends
      count_here = ap (count_at (B st)) (sym here.place) ∙ count_read st stand here.slot here.low here.region here.there

      region_here : region_at (B st) k ≡ here.region
      region_here = ap (region_at (B st)) (sym here.place) ∙ region_read st stand here.slot here.low here.region here.there

      size_here : Sized here.region
      size_here = size st stand here.slot here.low here.region here.there

      keeps_here : KeepsRules (region_at (B st) k)
      keeps_here = rw region_here (kept st stand here.slot here.low here.region here.there)

    rising : (k : ℕ) → k + 1 < parcel_count (B st) → slot_at (B st) k < slot_at (B st) (k + 1)
    rising k l =
        let m : k < parcel_count (B st) = omega arith in
        let x = entry_slot k m in
        let y = entry_slot (k + 1) l in
        elim (dec_lt x.slot y.slot) [
          | yes q ↦ rw (named k m, named (k + 1) l) q
          | no q ↦
              let d : y.slot + (x.slot - y.slot) ≡ x.slot = omega arith in
              absurd (omega (arith, rw d at (before_le y.slot (x.slot - y.slot)), x.place, y.place))
        ]

    rings_all : sum_to (count_at (B st)) (parcels_below st slots) ≡ rings_below st slots
    unfolding first_ring
    rings_all = rings_before st stand slots (omega arith)

    vertices_all : sum_to (λ k. last_end (ends_at (B st) k)) (parcels_below st slots) ≡ vertices_below st slots
    unfolding first_vertex
    vertices_all = vertices_before st stand slots (omega arith)

    pub written_good : GoodCard (card_of st)
    written_good =
        let p = parcels_read st stand in
        let r = rings_read st stand in
        let v = vertices_read st stand in
        let lp = parcels_le st stand in
        let lr = rings_le st stand in
        record {
          few_parcels = omega (arith, p, lp);
          few_rings = omega (arith, r, lr);
          few_vertices = omega (arith, v, vertices_le st stand);
          parcels_offset = u16_held (B st) 6 parcels_at (omega arith) ((parts st).word 3 (omega arith));
          rings_offset = u16_held (B st) 8 (rings_at (parcels_below st slots)) (omega (arith, lp)) ((parts st).word 4 (omega arith)) ∙ ap rings_at (sym p);
          vertices_offset = u16_held (B st) 10 (vertices_at (parcels_below st slots) (rings_below st slots)) (omega (arith, lp, lr)) ((parts st).word 5 (omega arith)) ∙ rw (p, r) refl;
          whole_length = omega (arith, written_length st, p, r, v);
          slots_rise = rising;
          slots_low = λ k l. omega (arith, named k l, (here k l).low);
          some_rings = λ k l. omega (arith, count_here k l, (size_here k l).some);
          few_of_each = λ k l. omega (arith, count_here k l, (size_here k l).few);
          rings_add = ap (sum_to (count_at (B st))) total_is ∙ rings_all ∙ sym r;
          vertices_add = ap (sum_to (λ k. last_end (ends_at (B st) k))) total_is ∙ vertices_all ∙ sym v;
          parcels_keep = keeps_here;
        }
