-- Stays: the moments at which an axis is between two lines, and when two stays overlap. A point with the fraction k/n lies within a stay where its
-- moment does; with the weight j = n - k it is (j·A + k·B)/n.
--   During s n k          the moment k/n lies strictly within the stay s
--   up_during, down_during    an axis that runs up, down: the moments of its stay are those at which it is strictly between the lines
--   past_during, before_during    an axis that stands still, counted just past its place, just before it
--   stay_fits             the numbers of a stay are in bounds
--   overlaps_means        two stays overlap exactly where some point, strictly between the ends, lies within both
use mathlib.Core.Path.{◌≡◌, ap}
use mathlib.Core.Logic.{◌↔◌, ◌⊎◌, inl, inr}
use mathlib.Core.Bool.{true}
use Prim.Native.Nat.{ℕ, ◌+◌, ◌-◌, ◌*◌, ◌≤◌, ◌<◌}
use native.Mathlib.Omega.{arith}
use native.Mathlib.Nat.{mul-lt-mul_of_pos_left, mul-le-mul_left, lt_of_mul-lt-mul_left}
use native.Mathlib.Decide.{dec_lt, dec_le}
use Rattle.plane.proofs.Logic.{iff_join, iff_and, and_means, lt_means}
use Rattle.drawing.specs.declared.Stay.{Stay}
use Rattle.drawing.specs.Stays.{gap, stay_up, stay_down, overlaps, StayFits}

abbrev pub During : Stay → (n k : ℕ) → Type 0
During s n k = (n * s.from < k * s.of) × (k * s.of < n * s.to)

-- ---- one line strictly within, i parts from the start and m from the end
module _ (a l b i m j k : ℕ) where
  up_past : i + a ≡ l → m + l ≡ b → ((j + k) * i < k * (i + m)) ↔ ((j + k) * l < j * a + k * b)
  up_past u v = (λ h. omega (arith, ap (λ z. j * z) u, ap (λ z. k * z) v), λ h. omega (arith, ap (λ z. j * z) u, ap (λ z. k * z) v))

  up_short : i + a ≡ l → m + l ≡ b → (k * (i + m) < (j + k) * i) ↔ (j * a + k * b < (j + k) * l)
  up_short u v = (λ h. omega (arith, ap (λ z. j * z) u, ap (λ z. k * z) v), λ h. omega (arith, ap (λ z. j * z) u, ap (λ z. k * z) v))

  down_short : i + l ≡ a → m + b ≡ l → ((j + k) * i < k * (i + m)) ↔ (j * a + k * b < (j + k) * l)
  down_short u v = (λ h. omega (arith, ap (λ z. j * z) u, ap (λ z. k * z) v), λ h. omega (arith, ap (λ z. j * z) u, ap (λ z. k * z) v))

  down_past : i + l ≡ a → m + b ≡ l → (k * (i + m) < (j + k) * i) ↔ ((j + k) * l < j * a + k * b)
  down_past u v = (λ h. omega (arith, ap (λ z. j * z) u, ap (λ z. k * z) v), λ h. omega (arith, ap (λ z. j * z) u, ap (λ z. k * z) v))

sure : {A B : Type 0} → A → B → A ↔ B
sure a b = (λ x. b, λ x. a)

neither : {A B : Type 0} → (A → ⊥) → (B → ⊥) → A ↔ B
neither f g = (λ x. absurd (f x), λ x. absurd (g x))

module _ (j k : ℕ) (hj : 0 < j) (hk : 0 < k) where
  -- a moment after the start and before the end
  after_start : (n : ℕ) → 0 < n → (j + k) * 0 < k * n
  after_start n h = omega (arith, mul-lt-mul_of_pos_left h hk)

  not_before_start : (n : ℕ) → k * n < (j + k) * 0 → ⊥
  not_before_start n h = omega (arith, h)

  before_end : (n : ℕ) → 0 < n → k * n < (j + k) * n
  before_end n h = omega (arith, mul-lt-mul_of_pos_left h hj)

  not_after_end : (n : ℕ) → (j + k) * n < k * n → ⊥
  not_after_end n h = omega (arith, h)

  -- a line that the axis has behind it from the start, and one that it never passes
  all_past : (p q l : ℕ) → l ≤ p → l ≤ q → (l < p) ⊎ (l < q) → (j + k) * l < j * p + k * q
  all_past p q l u v (inl s) = omega (arith, mul-lt-mul_of_pos_left s hj, mul-le-mul_left k v)
  all_past p q l u v (inr s) = omega (arith, mul-lt-mul_of_pos_left s hk, mul-le-mul_left j u)

  all_short : (p q l : ℕ) → p ≤ l → q ≤ l → (p < l) ⊎ (q < l) → j * p + k * q < (j + k) * l
  all_short p q l u v (inl s) = omega (arith, mul-lt-mul_of_pos_left s hj, mul-le-mul_left k v)
  all_short p q l u v (inr s) = omega (arith, mul-lt-mul_of_pos_left s hk, mul-le-mul_left j u)

  module _ (a b l : ℕ) where
    abbrev Past : Type 0
    Past = (j + k) * l < j * a + k * b

    abbrev Short : Type 0
    Short = j * a + k * b < (j + k) * l

    not_both : Past → Short → ⊥
    not_both p s = omega (arith, p, s)

    -- an axis from a up to b
    rise : a < b → (((j + k) * gap a l (b - a) < k * (b - a)) ↔ Past) × ((k * (b - a) < (j + k) * gap a l (b - a)) ↔ Short)
    rise r = go (dec_le l a) (dec_le b l)
      where
        some : 0 < b - a
        some = omega (arith, r)

        go : Dec (l ≤ a) → Dec (b ≤ l) → (((j + k) * gap a l (b - a) < k * (b - a)) ↔ Past) × ((k * (b - a) < (j + k) * gap a l (b - a)) ↔ Short)
        go (yes h) d =
            let z : gap a l (b - a) ≡ 0 = omega arith in
            let p : Past = all_past a b l h (omega (arith, r)) (inr (omega (arith, r))) in
            rw z (sure (after_start (b - a) some) p, neither (not_before_start (b - a)) (not_both p))
        go (no h) (yes q) =
            let z : gap a l (b - a) ≡ b - a = omega arith in
            let s : Short = all_short a b l (omega arith) q (inl (omega arith)) in
            rw z (neither (not_after_end (b - a)) (λ p. not_both p s), sure (before_end (b - a) some) s)
        go (no h) (no q) =
            let z : gap a l (b - a) ≡ l - a = omega arith in
            let n : b - a ≡ (l - a) + (b - l) = omega arith in
            rw z (rw n (up_past a l b (l - a) (b - l) j k (omega arith) (omega arith), up_short a l b (l - a) (b - l) j k (omega arith) (omega arith)))

    -- and one from a down to b
    fall : b < a → (((j + k) * gap l a (a - b) < k * (a - b)) ↔ Short) × ((k * (a - b) < (j + k) * gap l a (a - b)) ↔ Past)
    fall r = go (dec_le a l) (dec_le l b)
      where
        some : 0 < a - b
        some = omega (arith, r)

        go : Dec (a ≤ l) → Dec (l ≤ b) → (((j + k) * gap l a (a - b) < k * (a - b)) ↔ Short) × ((k * (a - b) < (j + k) * gap l a (a - b)) ↔ Past)
        go (yes h) d =
            let z : gap l a (a - b) ≡ 0 = omega arith in
            let s : Short = all_short a b l h (omega (arith, r)) (inr (omega (arith, r))) in
            rw z (sure (after_start (a - b) some) s, neither (not_before_start (a - b)) (λ p. not_both p s))
        go (no h) (yes q) =
            let z : gap l a (a - b) ≡ a - b = omega arith in
            let p : Past = all_past a b l (omega arith) q (inl (omega arith)) in
            rw z (neither (not_after_end (a - b)) (not_both p), sure (before_end (a - b) some) p)
        go (no h) (no q) =
            let z : gap l a (a - b) ≡ a - l = omega arith in
            let n : a - b ≡ (a - l) + (l - b) = omega arith in
            rw z (rw n (down_short a l b (a - l) (l - b) j k (omega arith) (omega arith), down_past a l b (a - l) (l - b) j k (omega arith) (omega arith)))

  -- ---- the stays
  module _ (a lo hi : ℕ) where
    pub up_during : (b : ℕ) → a < b → During (stay_up a lo hi (b - a)) (j + k) k ↔ (((j + k) * lo < j * a + k * b) × (j * a + k * b < (j + k) * hi))
    up_during b r = iff_and (rise a b lo r).0 (rise a b hi r).1

    pub down_during : (b : ℕ) → b < a → During (stay_down a lo hi (a - b)) (j + k) k ↔ (((j + k) * lo < j * a + k * b) × (j * a + k * b < (j + k) * hi))
    down_during b r = (λ d. ((fall a b lo r).1.0 d.1, (fall a b hi r).0.0 d.0), λ d. ((fall a b hi r).0.1 d.1, (fall a b lo r).1.1 d.0))

    pub past_during : During (stay_up a lo hi 1) (j + k) k ↔ ((lo ≤ a) × (a < hi))
    past_during = go (dec_le lo a) (dec_le hi a)
      where
        go : Dec (lo ≤ a) → Dec (hi ≤ a) → During (stay_up a lo hi 1) (j + k) k ↔ ((lo ≤ a) × (a < hi))
        go (yes p) (no q) =
            let y : gap a lo 1 ≡ 0 = omega arith in
            let z : gap a hi 1 ≡ 1 = omega arith in
            rw (y, z) (sure (after_start 1 (omega arith), before_end 1 (omega arith)) (p, omega arith))
        go (yes p) (yes q) = let z : gap a hi 1 ≡ 0 = omega arith in rw z (neither (λ d. not_before_start 1 d.1) (λ d. omega (arith, d.1)))
        go (no p) d = let z : gap a lo 1 ≡ 1 = omega arith in rw z (neither (λ d. not_after_end 1 d.0) (λ d. p d.0))

    pub before_during : During (stay_down a lo hi 1) (j + k) k ↔ ((lo < a) × (a ≤ hi))
    before_during = go (dec_le a lo) (dec_le a hi)
      where
        go : Dec (a ≤ lo) → Dec (a ≤ hi) → During (stay_down a lo hi 1) (j + k) k ↔ ((lo < a) × (a ≤ hi))
        go (no p) (yes q) =
            let y : gap hi a 1 ≡ 0 = omega arith in
            let z : gap lo a 1 ≡ 1 = omega arith in
            rw (y, z) (sure (after_start 1 (omega arith), before_end 1 (omega arith)) (omega arith, q))
        go (yes p) d = let z : gap lo a 1 ≡ 0 = omega arith in rw z (neither (λ d. not_before_start 1 d.1) (λ d. omega (arith, d.0)))
        go (no p) (no q) = let z : gap hi a 1 ≡ 1 = omega arith in rw z (neither (λ d. not_after_end 1 d.0) (λ d. q d.1))

-- ---- two stays
-- an entry f/n no earlier than `from`/`of`, an exit g/m no later than `to`/`of`: the moment between the two lies within the stay
within : (f n g m from to of : ℕ) → from * n ≤ f * of → from * m < g * of → g * of ≤ to * m → f * of < to * n
    → ((n + m) * from < (f + g) * of) × ((f + g) * of < (n + m) * to)
within f n g m from to of a b c d = (omega arith, omega arith)

-- a moment within one stay, and one within the other: the one is entered before the other is left
sooner : (from of to of' n k : ℕ) → 0 < n → 0 < of → 0 < of' → n * from < k * of → k * of' < n * to → from * of' < to * of
sooner from of to of' n k hn h h' p q =
    lt_of_mul-lt-mul_left n (omega (arith, mul-lt-mul_of_pos_left p h', mul-lt-mul_of_pos_left q h))

module _ (s t : Stay) (hs : StayFits s) (ht : StayFits t) where
  abbrev Meet : Type 0
  Meet = (s.from < s.to) × (t.from < t.to) × (s.from * t.of < t.to * s.of) × (t.from * s.of < s.to * t.of)

  overlaps_test : (overlaps s t ≡ true) ↔ Meet
  unfolding overlaps
  overlaps_test =
      iff_join (and_means _ _) (iff_join (iff_and (lt_means _ _) (iff_join (and_means _ _) (iff_and (lt_means _ _) (iff_join (and_means _ _) (iff_and (lt_means _ _) (lt_means _ _))))))
      (λ h. (h.0, h.1.0, h.1.1.0, h.1.1.1), λ h. (h.0, (h.1, (h.2, h.3)))))

  -- the moment between an entry f/n and an exit g/m lies within both stays
  abbrev Common : Type 0
  Common = (n : ℕ) × (k : ℕ) × (0 < k) × (k < n) × During s n k × During t n k

  between : (f n g m : ℕ) → f ≤ n → g ≤ m → f * m < g * n → s.from * n ≤ f * s.of → t.from * n ≤ f * t.of
      → g * s.of ≤ s.to * m → g * t.of ≤ t.to * m → s.from * m < g * s.of → t.from * m < g * t.of
      → f * s.of < s.to * n → f * t.of < t.to * n → Common
  between f n g m fn gm h a b c d p q u v = (n + m, f + g, some, most, within f n g m s.from s.to s.of a p c u, within f n g m t.from t.to t.of b q d v)
    where
      some : 0 < f + g
      some = elim (dec_lt 0 g) [ yes l ↦ omega arith | no l ↦ absurd (let z : g ≡ 0 = omega arith in nothing (rw z at h)) ]
        where
          nothing : f * m < 0 * n → ⊥
          nothing e = omega (arith, e)

      most : f + g < n + m
      most = elim (dec_lt f n) [ yes l ↦ omega arith | no l ↦ absurd (omega (arith, h, mul-le-mul_left n gm, (let z : f ≡ n = omega arith in ap (λ x. x * m) z))) ]

  -- the later entry and the earlier exit
  meet_common : Meet → Common
  meet_common h = go (dec_le (s.from * t.of) (t.from * s.of)) (dec_le (s.to * t.of) (t.to * s.of))
    where
      own : (x : Stay) → x.from < x.to → 0 < x.of → x.from * x.of < x.to * x.of
      own x l o = omega (arith, mul-lt-mul_of_pos_left l o)

      ss : s.from * s.of < s.to * s.of
      ss = own s h.0 hs.some

      tt' : t.from * t.of < t.to * t.of
      tt' = own t h.1 ht.some

      go : Dec (s.from * t.of ≤ t.from * s.of) → Dec (s.to * t.of ≤ t.to * s.of) → Common
      go (yes a) (yes b) =
          between t.from t.of s.to s.of ht.from_part hs.to_part (omega (arith, h.3)) a (omega arith) (omega arith) (omega (arith, b))
          ss h.3 (omega (arith, h.3)) tt'
      go (yes a) (no b) =
          between t.from t.of t.to t.of ht.from_part ht.to_part tt' a (omega arith) (omega (arith, b)) (omega arith)
          h.2 tt' (omega (arith, h.3)) tt'
      go (no a) (yes b) =
          between s.from s.of s.to s.of hs.from_part hs.to_part ss (omega arith) (omega (arith, a)) (omega arith) (omega (arith, b))
          ss h.3 ss (omega (arith, h.2))
      go (no a) (no b) =
          between s.from s.of t.to t.of hs.from_part ht.to_part h.2 (omega arith) (omega (arith, a)) (omega (arith, b)) (omega arith)
          h.2 tt' ss (omega (arith, h.2))

  common_meet : Common → Meet
  common_meet (n, k, above, below, d, e) =
      let hn : 0 < n = omega arith in (
        cancel s hn d,
        cancel t hn e,
        sooner s.from s.of t.to t.of n k hn hs.some ht.some d.0 e.1,
        sooner t.from t.of s.to s.of n k hn ht.some hs.some e.0 d.1,
      )
    where
      cancel : (x : Stay) → 0 < n → During x n k → x.from < x.to
      cancel x hn d = lt_of_mul-lt-mul_left n (omega (arith, d.0, d.1))

  pub overlaps_means : (overlaps s t ≡ true) ↔ Common
  overlaps_means = iff_join overlaps_test (meet_common, common_meet)
