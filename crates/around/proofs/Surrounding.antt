-- The word "around", for any two regions.
--   around_values       an answer is around exactly when its two relations are the eight tiles without B, and B alone
--   refused_not_around  a refused answer never is;  around_answered  so where it is yes, both regions keep rules 1 to 7
--   around_means        at the pair call it is yes exactly when the first region has the eight tiles round the second's box and not B, and the second
--                       has B of the first's box and no other (`Surrounds`)
--   eight_reaches       where the first half of this holds, the first region's box reaches beyond the second's on each side
--   around_by_first     so the second half holds too: of a pair answer the first relation alone tells the word
--   around_one_way      it is never yes both ways
--   around_reaches      where it is yes, the first region's box reaches beyond the second's on each side
--   around_directions   and the directions are the eight without O
use mathlib.Core.Path.{◌≡◌, refl, sym, ◌∙◌, ap}
use mathlib.Core.Logic.{◌↔◌, ◌⊎◌, ◌≢◌, inl, inr, ⊎_elim}
use mathlib.Core.Bool.{Bool, true, false, not}
use Prim.Native.Nat.{ℕ, ◌<◌}
use native.Mathlib.Omega.{arith}
use lib.Dec.{eqb}
use Rattle.plane.specs.Points.{Lines}
use Rattle.plane.specs.TileSet.{set_of, bit}
use Rattle.plane.proofs.Logic.{iff_join, iff_turn, iff_and, iff_not, both, and_means, eq_means, not_means, clash, is_false}
use Rattle.plane.proofs.Place.{place_lt}
use Rattle.plane.proofs.TileSet.{set_means, set_same}
use Rattle.region.specs.Region.{Region}
use Rattle.region.proofs.Keeps.{keeps_fewer}
use Rattle.relation.specs.Relation.{RegionBox, RegionHas, region_box, region_has, relation_of}
use Rattle.relation.proofs.Regions.{region_box_there, region_box_is}
use Rattle.relation.proofs.Spread.{wide, high}
use Rattle.pin.specs.Reaches.{Reaches}
use Rattle.pin.proofs.Reaches.{round_reaches, within_middle}
use Rattle.pair.specs.Answer.{Answer}
use Rattle.pair.specs.Answer.{given, pair_of}
use Rattle.pair.specs.Meaning.{Answered, RefusedPair}
use Rattle.pair.proofs.Laws.{four, fields_are, tile_means, back_tile_means, number_means}
use Rattle.pair.proofs.Refusals.{refused_means, answered_or_refused}
use Rattle.pair.proofs.Directions.{turned}
use Rattle.around.specs.Around.{Surrounds, eight, middle, around_of}
use Rattle.around.proofs.NineCells.{Beyond, nine_directions}

pub around_values : (a : Answer) → (around_of a ≡ true) ↔ ((a.first ≡ eight) × (a.second ≡ middle))
unfolding around_of
around_values a = iff_join (and_means (eqb a.first eight) (eqb a.second middle)) (iff_and (eq_means a.first eight) (eq_means a.second middle))

-- ---- the two sets, tile by tile
abbrev not_middle : ℕ → Bool
not_middle k = not (eqb k 4)

abbrev is_middle : ℕ → Bool
is_middle k = eqb k 4

-- a set is that of the test g exactly when its bits are those that g passes
set_is : (f g : ℕ → Bool) → (set_of f 9 ≡ set_of g 9) ↔ ((k : ℕ) → k < 9 → (bit (set_of f 9) k ≡ 1) ↔ (g k ≡ true))
set_is f g = (
  λ e k h. rw e (set_means g 9 k h),
  λ e. set_same f g 9 (λ k h. both (f k) (g k) (iff_join (iff_turn (set_means f 9 k h)) (e k h))),
)

-- the same tile by tile, for what the bits and the test mean
bits_mean : (s : ℕ) (g : ℕ → Bool) (Has Is : ℕ → Type 0) → ((k : ℕ) → k < 9 → (bit s k ≡ 1) ↔ Has k) → ((k : ℕ) → (g k ≡ true) ↔ Is k)
    → ((k : ℕ) → k < 9 → (bit s k ≡ 1) ↔ (g k ≡ true)) ↔ ((k : ℕ) → k < 9 → Has k ↔ Is k)
bits_mean s g Has Is has is = (
  λ e k h. iff_join (iff_turn (has k h)) (iff_join (e k h) (is k)),
  λ e k h. iff_join (has k h) (iff_join (e k h) (iff_turn (is k))),
)

not_middle_means : (k : ℕ) → (not_middle k ≡ true) ↔ (k ≢ 4)
not_middle_means k = iff_join (not_means (eqb k 4)) (iff_not (eq_means k 4))

eight_set : set_of not_middle 9 ≡ eight
unfolding set_of
eight_set = refl

middle_set : set_of is_middle 9 ≡ middle
unfolding set_of
middle_set = refl

module _ (first second : Region) where
  -- ---- refusals
  refused_none : (n : ℕ) × (g : ℕ) × (r : ℕ) × RefusedPair first second n g r → around_of (pair_of first second) ≡ false
  unfolding around_of
  refused_none x = rw ((refused_means first second x.0 x.1 x.2).1 x.3) refl

  pub around_answered : around_of (pair_of first second) ≡ true → Answered first second
  around_answered t = ⊎_elim (λ a. a) (λ x. clash (around_of (pair_of first second)) t (refused_none x)) (answered_or_refused first second)

  pub refused_not_around : (pair_of first second).number ≢ 0 → around_of (pair_of first second) ≡ false
  refused_not_around n = is_false (around_of (pair_of first second)) (λ t. n ((number_means first second).1 (around_answered t)))

  -- ---- what it means
  module _ (a : Answered first second) where
    first_is : (pair_of first second).first ≡ set_of (region_has (region_box second) first) 9
    unfolding given relation_of
    first_is = ap (λ (w : Answer). w.first) (fields_are first second a)

    second_is : (pair_of first second).second ≡ set_of (region_has (region_box first) second) 9
    unfolding given relation_of
    second_is = ap (λ (w : Answer). w.second) (fields_are first second a)

    eight_means : ((pair_of first second).first ≡ eight) ↔ ((k : ℕ) → k < 9 → (bit (pair_of first second).first k ≡ 1) ↔ (not_middle k ≡ true))
    eight_means = rw (first_is, ← eight_set) (set_is (region_has (region_box second) first) not_middle)

    middle_means : ((pair_of first second).second ≡ middle) ↔ ((k : ℕ) → k < 9 → (bit (pair_of first second).second k ≡ 1) ↔ (is_middle k ≡ true))
    middle_means = rw (second_is, ← middle_set) (set_is (region_has (region_box first) second) is_middle)

    eight_has : (M : Lines) → RegionBox second M → ((pair_of first second).first ≡ eight) ↔ ((k : ℕ) → k < 9 → RegionHas M first k ↔ (k ≢ 4))
    eight_has M two =
        iff_join eight_means
        (bits_mean (pair_of first second).first not_middle (RegionHas M first) (λ k. k ≢ 4) (tile_means first second a M two) not_middle_means)

    middle_has : (L : Lines) → RegionBox first L → ((pair_of first second).second ≡ middle) ↔ ((k : ℕ) → k < 9 → RegionHas L second k ↔ (k ≡ 4))
    middle_has L one =
        iff_join middle_means
        (bits_mean (pair_of first second).second is_middle (RegionHas L second) (λ k. k ≡ 4) (back_tile_means first second a L one) (λ k. eq_means k 4))

    pub around_means : (L M : Lines) → RegionBox first L → RegionBox second M → (around_of (pair_of first second) ≡ true) ↔ Surrounds first second L M
    around_means L M one two =
        iff_join (around_values (pair_of first second))
        (iff_join (iff_and (eight_has M two) (middle_has L one))
        (λ h. record { all_but_middle = h.0; middle_alone = h.1 }, λ h. (h.all_but_middle, h.middle_alone)))

    -- ---- the first half of it is enough
    module _ (e : (pair_of first second).first ≡ eight) where
      pub eight_reaches : (L M : Lines) → RegionBox first L → RegionBox second M → Reaches L M
      eight_reaches L M one two =
          let has = (eight_has M two).0 e in
          let side : (k : ℕ) → k < 9 → k ≢ 4 → RegionHas M first k = λ k h ne. (has k h).1 ne in
          round_reaches (keeps_fewer (omega arith) a.first_kept) a.second_kept L M one two (λ h. (has 4 (omega arith)).0 h refl)
          (side 3 (omega arith) (λ q. omega arith)) (side 5 (omega arith) (λ q. omega arith)) (side 7 (omega arith) (λ q. omega arith)) (side 1 (omega arith) (λ q. omega arith))

      eight_middle : (pair_of first second).second ≡ middle
      unfolding relation_of
      eight_middle =
          let (L, l, one) = region_box_there (four first second a).0 in
          let (M, m, two) = region_box_there (four first second a).1 in
          second_is
          ∙ rw (region_box_is (four first second a).0 L one)
          (within_middle (keeps_fewer (omega arith) a.second_kept) L M l two (eight_reaches L M one two))

  pub around_by_first : (around_of (pair_of first second) ≡ true) ↔ ((pair_of first second).first ≡ eight)
  around_by_first = (λ t. ((around_values (pair_of first second)).0 t).0, λ e. (around_values (pair_of first second)).1 (e, go e (answered_or_refused first second)))
    where
      go : (pair_of first second).first ≡ eight → Answered first second ⊎ ((n : ℕ) × (g : ℕ) × (r : ℕ) × RefusedPair first second n g r)
          → (pair_of first second).second ≡ middle
      go e (inl a) = eight_middle a e
      go e (inr x) = absurd (nothing (sym (ap (λ (w : Answer). w.first) ((refused_means first second x.0 x.1 x.2).1 x.3)) ∙ e))
        where
          nothing : 0 ≡ eight → ⊥
          nothing q = omega (arith, q)

  -- ---- one way
  back_first : Answered first second → (pair_of second first).first ≡ (pair_of first second).second
  unfolding given
  back_first a = ap (λ (w : Answer). w.first) (fields_are second first (turned first second a)) ∙ sym (ap (λ (w : Answer). w.second) (fields_are first second a))

  pub around_one_way : around_of (pair_of first second) ≡ true → around_of (pair_of second first) ≡ false
  around_one_way t =
      is_false (around_of (pair_of second first))
      (λ u. omega (
        arith,
        ((around_values (pair_of first second)).0 t).1,
        back_first (around_answered t),
        ((around_values (pair_of second first)).0 u).0,
      ))

-- ---- the directions
module _ (first second : Region) (t : around_of (pair_of first second) ≡ true) where
  answered : Answered first second
  answered = around_answered first second t

  pub around_reaches : (L M : Lines) → RegionBox first L → RegionBox second M → Reaches L M
  around_reaches = eight_reaches first second answered ((around_values (pair_of first second)).0 t).0

  -- the same in places
  record BothBeyond : Type 0 where
    across : Beyond (region_box first).west (region_box first).east (region_box second).west (region_box second).east
    up : Beyond (region_box first).south (region_box first).north (region_box second).south (region_box second).north

  beyond : BothBeyond
  beyond =
      let keep = four first second answered in
      let (L, l, one) = region_box_there keep.0 in
      let (M, m, two) = region_box_there keep.1 in
      let r = around_reaches L M one two in
      let p = region_box_is keep.0 L one in
      let q = region_box_is keep.1 M two in
      record {
        across = record {
          before = rw (p, q) ((place_lt L.west M.west l.west m.west).0 r.west);
          rises = wide answered.second_kept;
          behind = rw (p, q) ((place_lt M.east L.east m.east l.east).0 r.east);
        };
        up = record {
          before = rw (p, q) ((place_lt L.south M.south l.south m.south).0 r.south);
          rises = high answered.second_kept;
          behind = rw (p, q) ((place_lt M.north L.north m.north l.north).0 r.north);
        };
      }

  pub around_directions : (pair_of first second).directions ≡ eight
  unfolding given
  around_directions =
      let (r, s) = (around_values (pair_of first second)).0 t in
      let is = fields_are first second answered in
      let e : relation_of (region_box second) first ≡ eight = sym (ap (λ (w : Answer). w.first) is) ∙ r in
      let d : relation_of (region_box first) second ≡ middle = sym (ap (λ (w : Answer). w.second) is) ∙ s in
      ap (λ (w : Answer). w.directions) is ∙ rw (e, d) (nine_directions (region_box first) (region_box second) beyond.across beyond.up)
