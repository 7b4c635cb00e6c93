-- The other way, one axis in places: a strip of the grid that lies inside the own box, between the lines P and Q, and in range c of the other box's lines
-- lo and hi, is all that the two have in common.
--   Strip1 P Q lo hi p q    p and q are neighbours among the four lines
--   narrow       a point in the range and in the own box lies strictly inside the strip, or on an own line that bounds it
--   at_first, at_last    a mean of two numbers at their bound: both are there
--   past_is, short_is    the line of the other box that the range lies just past, just short of, bounds the strip
--   middle_is    where the own box covers the other, the strip in its middle is the middle
--   strip_in     a strip that the own box has a point strictly inside of lies inside the own box;  past_in, short_in  and one beside a line of which a piece
--                counts for it
use mathlib.Core.Path.{◌≡◌, refl}
use mathlib.Core.Logic.{◌⊎◌, inl, inr, ◌≢◌}
use Prim.Native.Nat.{ℕ, zero, suc, ◌+◌, ◌*◌, ◌≤◌, ◌<◌}
use native.Mathlib.Omega.{arith}
use native.Mathlib.Nat.{mul-le-mul_left, mul-lt-mul_of_pos_left, lt_of_mul-lt-mul_left}
use native.Mathlib.Decide.{dec_lt}
use Rattle.edge.proofs.Weights.{InCol}
use Rattle.agree.proofs.Wider.{Around}

abbrev pub OneOf : (P Q lo hi v : ℕ) → Type 0
OneOf P Q lo hi v = (v ≡ P) ⊎ ((v ≡ Q) ⊎ ((v ≡ lo) ⊎ (v ≡ hi)))

pub record Strip1 (P Q lo hi p q : ℕ) : Type 0 where
  pub from_line : OneOf P Q lo hi p
  pub to_line : OneOf P Q lo hi q
  pub rises : p < q
  pub none_between : (v : ℕ) → OneOf P Q lo hi v → p < v → v < q → ⊥

module _ (P Q lo hi p q : ℕ) (s : Strip1 P Q lo hi p q) (order : lo ≤ hi) where
  -- ---- the strip inside the own box
  module _ (left : P ≤ p) (right : q ≤ Q) where
    lower : (c m x : ℕ) → Around c lo hi p q → InCol c lo hi m x → m * P ≤ x → (m * p < x) ⊎ ((x ≤ m * P) × (p ≡ P))
    lower c m x a h low = go s.from_line c a h
      where
        go : OneOf P Q lo hi p → (c : ℕ) → Around c lo hi p q → InCol c lo hi m x → (m * p < x) ⊎ ((x ≤ m * P) × (p ≡ P))
        go (inl e) c a h = elim (dec_lt (m * p) x) [ yes l ↦ inl l | no l ↦ inr (rw e at (over l), e) ]
          where
            over : (m * p < x → ⊥) → x ≤ m * p
            over n = omega arith
        go (inr (inl e)) c a h = absurd (omega (arith, s.rises))
        go (inr (inr (inl e))) zero a h = absurd (omega (arith, s.rises))
        go (inr (inr (inl e))) (suc zero) a h = inl (rw e h.0)
        go (inr (inr (inl e))) (suc (suc c)) a h = let f : p ≡ hi = omega arith in inl (rw f h)
        go (inr (inr (inr e))) zero a h = absurd (omega (arith, s.rises))
        go (inr (inr (inr e))) (suc zero) a h = absurd (omega (arith, s.rises))
        go (inr (inr (inr e))) (suc (suc c)) a h = inl (rw e h)

    upper : (c m x : ℕ) → Around c lo hi p q → InCol c lo hi m x → x ≤ m * Q → (x < m * q) ⊎ ((m * Q ≤ x) × (q ≡ Q))
    upper c m x a h most = go s.to_line c a h
      where
        go : OneOf P Q lo hi q → (c : ℕ) → Around c lo hi p q → InCol c lo hi m x → (x < m * q) ⊎ ((m * Q ≤ x) × (q ≡ Q))
        go (inr (inl e)) c a h = elim (dec_lt x (m * q)) [ yes l ↦ inl l | no l ↦ inr (rw e at (under l), e) ]
          where
            under : (x < m * q → ⊥) → m * q ≤ x
            under n = omega arith
        go (inl e) c a h = absurd (omega (arith, s.rises))
        go (inr (inr (inr e))) zero a h = let f : q ≡ lo = omega arith in inl (rw f h)
        go (inr (inr (inr e))) (suc zero) a h = inl (rw e h.1)
        go (inr (inr (inr e))) (suc (suc c)) a h = absurd (omega (arith, s.rises))
        go (inr (inr (inl e))) zero a h = inl (rw e h)
        go (inr (inr (inl e))) (suc zero) a h = absurd (omega (arith, s.rises))
        go (inr (inr (inl e))) (suc (suc c)) a h = absurd (omega (arith, s.rises))

    pub narrow : (c m x : ℕ) → Around c lo hi p q → InCol c lo hi m x → m * P ≤ x → x ≤ m * Q
        → InCol 1 p q m x ⊎ (((x ≤ m * P) × (p ≡ P)) ⊎ ((m * Q ≤ x) × (q ≡ Q)))
    narrow c m x a h low most = go (lower c m x a h low) (upper c m x a h most)
      where
        go : (m * p < x) ⊎ ((x ≤ m * P) × (p ≡ P)) → (x < m * q) ⊎ ((m * Q ≤ x) × (q ≡ Q)) → InCol 1 p q m x ⊎ (((x ≤ m * P) × (p ≡ P)) ⊎ ((m * Q ≤ x) × (q ≡ Q)))
        go (inl u) (inl v) = inl (u, v)
        go (inr u) v = inr (inl u)
        go (inl u) (inr v) = inr (inr v)

    pub past_is : (c a : ℕ) → Around c lo hi p q → P ≤ a → ((a ≡ lo) × (lo < hi) × (c ≡ 1)) ⊎ ((a ≡ hi) × (c ≡ 2)) → a ≡ p
    past_is c a r low (inl x) = go s.from_line (rw x.2 at r)
      where
        go : OneOf P Q lo hi p → Around 1 lo hi p q → a ≡ p
        go (inl e) r = omega (arith, x.0)
        go (inr (inl e)) r = absurd (omega (arith, s.rises))
        go (inr (inr (inl e))) r = omega (arith, x.0)
        go (inr (inr (inr e))) r = absurd (omega (arith, s.rises))
    past_is c a r low (inr x) = go s.from_line (rw x.1 at r)
      where
        go : OneOf P Q lo hi p → Around 2 lo hi p q → a ≡ p
        go (inl e) r = omega (arith, x.0)
        go (inr (inl e)) r = absurd (omega (arith, s.rises))
        go (inr (inr (inl e))) r = omega (arith, x.0)
        go (inr (inr (inr e))) r = omega (arith, x.0)

    pub short_is : (c a : ℕ) → Around c lo hi p q → a ≤ Q → ((a ≡ hi) × (lo < hi) × (c ≡ 1)) ⊎ ((a ≡ lo) × (c ≡ 0)) → a ≡ q
    short_is c a r most (inl x) = go s.to_line (rw x.2 at r)
      where
        go : OneOf P Q lo hi q → Around 1 lo hi p q → a ≡ q
        go (inl e) r = absurd (omega (arith, s.rises))
        go (inr (inl e)) r = omega (arith, x.0)
        go (inr (inr (inl e))) r = absurd (omega (arith, s.rises))
        go (inr (inr (inr e))) r = omega (arith, x.0)
    short_is c a r most (inr x) = go s.to_line (rw x.1 at r)
      where
        go : OneOf P Q lo hi q → Around 0 lo hi p q → a ≡ q
        go (inl e) r = absurd (omega (arith, s.rises))
        go (inr (inl e)) r = omega (arith, x.0)
        go (inr (inr (inl e))) r = omega (arith, x.0)
        go (inr (inr (inr e))) r = omega (arith, x.0)

    pub middle_is : Around 1 lo hi p q → P ≤ lo → hi ≤ Q → (p ≡ lo) × (q ≡ hi)
    middle_is r low most = (first s.from_line, last s.to_line)
      where
        first : OneOf P Q lo hi p → p ≡ lo
        first (inl e) = omega arith
        first (inr (inl e)) = absurd (omega (arith, s.rises))
        first (inr (inr (inl e))) = e
        first (inr (inr (inr e))) = absurd (omega (arith, s.rises))

        last : OneOf P Q lo hi q → q ≡ hi
        last (inl e) = absurd (omega (arith, s.rises))
        last (inr (inl e)) = omega arith
        last (inr (inr (inl e))) = absurd (omega (arith, s.rises))
        last (inr (inr (inr e))) = e

  -- ---- a strip that a piece marks
  first_in : P < q → P ≤ p
  first_in h = elim (dec_lt p P) [ yes l ↦ absurd (s.none_between P (inl refl) l h) | no l ↦ omega arith ]

  last_in : p < Q → q ≤ Q
  last_in h = elim (dec_lt Q q) [ yes l ↦ absurd (s.none_between Q (inr (inl refl)) h l) | no l ↦ omega arith ]

  abbrev pub Within : Type 0
  Within = (P ≤ p) × (q ≤ Q)

  pub strip_in : (m x : ℕ) → InCol 1 p q m x → m * P ≤ x → x ≤ m * Q → Within
  strip_in m x h low most = (first_in (lt_of_mul-lt-mul_left m (omega (arith, h.1))), last_in (lt_of_mul-lt-mul_left m (omega (arith, h.0))))

  module _ (own : P < Q) where
    pub past_in : (a : ℕ) → P ≤ a → a ≤ Q → a ≡ p → (a ≡ P) ⊎ (a ≢ Q) → Within
    past_in a low most e (inl x) = (omega arith, last_in (omega arith))
    past_in a low most e (inr x) = (omega arith, last_in (omega (arith, x)))

    pub short_in : (a : ℕ) → P ≤ a → a ≤ Q → a ≡ q → (a ≡ Q) ⊎ (a ≢ P) → Within
    short_in a low most e (inl x) = (first_in (omega arith), omega arith)
    short_in a low most e (inr x) = (first_in (omega (arith, x)), omega arith)

-- ---- a mean of two numbers at their bound
pub at_first : (P a b j k : ℕ) → 0 < j → 0 < k → P ≤ a → P ≤ b → j * a + k * b ≤ (j + k) * P → (a ≡ P) × (b ≡ P)
at_first P a b j k hj hk pa pb h = (go a b j k hj pa pb h, go b a k j hk pb pa (omega (arith, h)))
  where
    go : (a b j k : ℕ) → 0 < j → P ≤ a → P ≤ b → j * a + k * b ≤ (j + k) * P → a ≡ P
    go a b j k hj pa pb h =
        elim (dec_lt P a) [ yes l ↦ absurd (omega (arith, h, mul-lt-mul_of_pos_left l hj, mul-le-mul_left k pb)) | no l ↦ omega arith ]

pub at_last : (Q a b j k : ℕ) → 0 < j → 0 < k → a ≤ Q → b ≤ Q → (j + k) * Q ≤ j * a + k * b → (a ≡ Q) × (b ≡ Q)
at_last Q a b j k hj hk qa qb h = (go a b j k hj qa qb h, go b a k j hk qb qa (omega (arith, h)))
  where
    go : (a b j k : ℕ) → 0 < j → a ≤ Q → b ≤ Q → (j + k) * Q ≤ j * a + k * b → a ≡ Q
    go a b j k hj qa qb h =
        elim (dec_lt a Q) [ yes l ↦ absurd (omega (arith, h, mul-lt-mul_of_pos_left l hj, mul-le-mul_left k qb)) | no l ↦ omega arith ]

pub mean_first : (P a b j k : ℕ) → P ≤ a → P ≤ b → (j + k) * P ≤ j * a + k * b
mean_first P a b j k pa pb = omega (arith, mul-le-mul_left j pa, mul-le-mul_left k pb)

pub mean_last : (Q a b j k : ℕ) → a ≤ Q → b ≤ Q → j * a + k * b ≤ (j + k) * Q
mean_last Q a b j k qa qb = omega (arith, mul-le-mul_left j qa, mul-le-mul_left k qb)
