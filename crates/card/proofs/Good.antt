-- What a good card holds.
--   right_vertices   every ring entry and every vertex is there, where the rules before the shapes are kept;  good_right  of a good card
--   card_header_wrong    a wrong header gives the card its number
--   good_means       a card has no number of its own exactly when it is a good card
--   slots_rise       the slots of a good card rise
use mathlib.Core.Path.{◌≡◌, refl}
use mathlib.Core.Logic.{◌↔◌}
use mathlib.Core.Bool.{true, false}
use mathlib.Core.List.{List}
use Prim.Native.Nat.{ℕ, zero, suc, ◌+◌, ◌-◌, ◌<◌}
use native.Mathlib.Omega.{arith}
use Rattle.plane.proofs.Logic.{iff_join, iff_and}
use Rattle.region.specs.declared.refusals.Refusal.TheVariants.{CardHeader, CardParcels, CardVertices}
use Rattle.region.specs.Refusals.{number_if, first_number}
use Rattle.region.proofs.Keeps.{keeps_fewer, sized}
use Rattle.region.proofs.Check.{shape_number_none}
use Rattle.region.proofs.OrElse.{or_else_none, number_if_none, first_number_none}
use Rattle.card.specs.Reading.{parcel_count, slot_at, region_at}
use Rattle.card.specs.CardNumber.{wrong_header, wrong_parcels, wrong_vertices, sizes_number, shape_number, card_number}
use Rattle.card.specs.Good.{GoodCard}
use Rattle.card.specs.Right.{RightVertices}
use Rattle.card.specs.Says.{Entry}
use Rattle.card.proofs.Tests.{header_means, header_right, entry_means, entry_right_lem, parcels_mean, vertices_mean, sizes_mean}
use Rattle.card.proofs.Bounds.{entry_few, parcel_keeps}

module _ (b : List ℕ) where
  pub right_vertices : wrong_header b ≡ false → wrong_parcels b ≡ false → first_number (sizes_number b) (parcel_count b) ≡ 0 → wrong_vertices b ≡ false → RightVertices b
  right_vertices h p s v = record { parcels = record { header = h; parcels = p }; sizes = (first_number_none (sizes_number b) (parcel_count b)).0 s; vertices = v }

  pub card_header_wrong : wrong_header b ≡ true → 14 ≡ card_number b
  unfolding card_number
  card_header_wrong h = rw h refl

  -- the card's number, taken apart
  card_tests : (card_number b ≡ 0)
      ↔ ((wrong_header b ≡ false) × ((wrong_parcels b ≡ false) × ((first_number (sizes_number b) (parcel_count b) ≡ 0)
      × ((wrong_vertices b ≡ false) × ((k : ℕ) → k < parcel_count b → shape_number b k ≡ 0)))))
  unfolding card_number
  card_tests =
      iff_join (or_else_none (number_if (wrong_header b) CardHeader) _) (iff_and (number_if_none (wrong_header b) CardHeader)
      (iff_join (or_else_none (number_if (wrong_parcels b) CardParcels) _) (iff_and (number_if_none (wrong_parcels b) CardParcels)
      (iff_join (or_else_none (first_number (sizes_number b) (parcel_count b)) _) (iff_and same
      (iff_join (or_else_none (number_if (wrong_vertices b) CardVertices) _) (iff_and (number_if_none (wrong_vertices b) CardVertices)
      (first_number_none (shape_number b) (parcel_count b)))))))))
    where
      same : (first_number (sizes_number b) (parcel_count b) ≡ 0) ↔ (first_number (sizes_number b) (parcel_count b) ≡ 0)
      same = (λ e. e, λ e. e)

  good : card_number b ≡ 0 → GoodCard b
  unfolding shape_number
  good e =
      let x = card_tests.0 e in
      let right = right_vertices x.0 x.1.0 x.1.1.0 x.1.1.1.0 in
      let h = header_means b x.0 in
      let entries = (parcels_mean b).0 x.1.0 in
      record {
        few_parcels = h.few_parcels;
        few_rings = h.few_rings;
        few_vertices = h.few_vertices;
        parcels_offset = h.first;
        rings_offset = h.second;
        vertices_offset = h.third;
        whole_length = h.total;
        slots_rise = λ k l.
            let z : k + 1 - 1 ≡ k = omega arith in
            rw z at ((entry_means b (k + 1) (entries.0 (k + 1) l)).rises (omega arith));
        slots_low = λ k l. (entry_means b k (entries.0 k l)).low;
        some_rings = λ k l. (entry_few b right.parcels k l).0;
        few_of_each = λ k l. (entry_few b right.parcels k l).1;
        rings_add = entries.1;
        vertices_add = (vertices_mean b).0 x.1.1.1.0;
        parcels_keep = λ k l. (shape_number_none (region_at b k) (parcel_keeps b right k l)).0 (x.1.1.1.1 k l);
      }

  module _ (good : GoodCard b) where
    entry : (k : ℕ) → k < parcel_count b → Entry b k
    entry k l = record { rises = rises k l; low = good.slots_low k l; some = omega (arith, good.some_rings k l); few = good.few_of_each k l }
      where
        rises : (k : ℕ) → k < parcel_count b → 0 < k → slot_at b (k - 1) < slot_at b k
        rises zero l h = absurd (omega arith)
        rises (suc k) l h =
            let z : suc k - 1 ≡ k = omega arith in
            let e : k + 1 ≡ suc k = omega arith in
            rw z (rw e at (good.slots_rise k (omega arith)))

    header_kept : wrong_header b ≡ false
    header_kept =
        header_right b (record {
          few_parcels = good.few_parcels;
          few_rings = good.few_rings;
          few_vertices = good.few_vertices;
          first = good.parcels_offset;
          second = good.rings_offset;
          third = good.vertices_offset;
          total = good.whole_length;
        })

    parcels_kept : wrong_parcels b ≡ false
    parcels_kept = (parcels_mean b).1 (λ k l. entry_right_lem b k (entry k l), good.rings_add)

    sizes_kept : first_number (sizes_number b) (parcel_count b) ≡ 0
    sizes_kept =
        (first_number_none (sizes_number b) (parcel_count b)).1
        (λ k l. let s = sized (keeps_fewer (omega arith) (good.parcels_keep k l)) in (sizes_mean b k).1 (s.grown, s.small))

    vertices_kept : wrong_vertices b ≡ false
    vertices_kept = (vertices_mean b).1 good.vertices_add

    shapes_kept : (k : ℕ) → k < parcel_count b → shape_number b k ≡ 0
    unfolding shape_number
    shapes_kept k l = let kept = good.parcels_keep k l in (shape_number_none (region_at b k) (keeps_fewer (omega arith) kept)).1 kept

    pub good_right : RightVertices b
    good_right = right_vertices header_kept parcels_kept sizes_kept vertices_kept

    no_number : card_number b ≡ 0
    no_number = card_tests.1 (header_kept, (parcels_kept, (sizes_kept, (vertices_kept, shapes_kept))))

    later_slot : (j d : ℕ) → j + suc d < parcel_count b → slot_at b j < slot_at b (j + suc d)
    later_slot j zero h = good.slots_rise j h
    later_slot j (suc d) h =
        let e : j + suc (suc d) ≡ j + suc d + 1 = omega arith in
        rw e (omega (arith, later_slot j d (omega arith), good.slots_rise (j + suc d) (omega arith)))

    pub slots_rise : (j k : ℕ) → j < k → k < parcel_count b → slot_at b j < slot_at b k
    slots_rise j k l h =
        let e : j + suc (k - suc j) ≡ k = omega arith in
        rw e at (later_slot j (k - suc j) (omega arith))

  pub good_means : (card_number b ≡ 0) ↔ GoodCard b
  good_means = (good, no_number)
