-- Sets of squares, moved and laid over each other.
--   set_and          what two sets have in common
--   set_moved        a set of 15 squares moved by k, within 40 squares
--   set_some         a set is not 0 exactly where some number is in it
--   occurs_is        what the code asks: whether the two sets, shifted in words of 64 bits, have something in common
--   Fall             a square of each set, which fall on each other where the second is moved by the difference
--   occurs_means     some square of the second set, moved so, falls on one of the first exactly where there are such two
use mathlib.Core.Path.{◌≡◌, refl, sym, ◌∙◌, ap}
use mathlib.Core.Logic.{◌↔◌, ◌≢◌}
use mathlib.Core.Bool.{Bool, true, false, not, ◌&&◌}
use Prim.Native.Nat.{ℕ, zero, suc, ◌+◌, ◌-◌, ◌*◌, ◌%◌, ◌^◌, ◌≤◌, ◌<◌}
use native.Mathlib.Omega.{arith}
use native.Mathlib.Nat.{zero-div, zero-add, mul-le-mul_left}
use native.Mathlib.Decide.{dec_le}
use lib.Dec.{leb, ltb, eqb}
use lib.Pow.{pow-add, pow_mono}
use lib.Bits.{bit_and, and_block}
use borrow.Author.Tests.{le-leb, lt-leb, lt-ltb}
use Rattle.plane.specs.Folds.{any_to}
use Rattle.plane.specs.TileSet.{one_if, set_of, bit}
use Rattle.plane.proofs.Logic.{and_means, not_means, eq_means, le_means, lt_means, iff_join, iff_not, is_false}
use Rattle.plane.proofs.Folds.{any_means}
use Rattle.plane.proofs.TileSet.{set_lt, set_none, set_means}
use Rattle.compass.specs.Differences.{occurs}

and_bits : (x y : Bool) → bit_and (one_if x) (one_if y) ≡ one_if (x && y)
and_bits true true = refl
and_bits true false = refl
and_bits false true = refl
and_bits false false = refl

set_and : (f g : ℕ → Bool) (n : ℕ) → bit_and (set_of f n) (set_of g n) ≡ set_of (λ t. f t && g t) n
unfolding set_of
set_and f g zero = refl
set_and f g (suc n) =
    and_block n (one_if (f n)) (one_if (g n)) (set_of f n) (set_of g n) (set_lt f n) (set_lt g n)
    ∙ rw (and_bits (f n) (g n), set_and f g n)

-- a set with nothing from n on
set_longer : (h : ℕ → Bool) (n m : ℕ) → n ≤ m → ((t : ℕ) → n ≤ t → h t ≡ false) → set_of h m ≡ set_of h n
unfolding set_of
set_longer h n zero l none = let e : 0 ≡ n = omega arith in ap (set_of h) e
set_longer h n (suc m) l none =
    elim (dec_le n m) [
      | yes k ↦ rw (none m k, set_longer h n m k none) (omega arith)
      | no k ↦ (let e : suc m ≡ n = omega arith in ap (set_of h) e)
    ]

-- a set whose numbers are those of f, and k more
set_shift : (f h : ℕ → Bool) (k n : ℕ) → ((t : ℕ) → t < k → h t ≡ false) → ((t : ℕ) → t < n → h (t + k) ≡ f t) → set_of f n * 2 ^ k ≡ set_of h (n + k)
unfolding set_of
set_shift f h k zero low same = omega (arith, set_none h k low, ap (set_of h) (zero-add k))
set_shift f h k (suc n) low same =
    let next : suc n + k ≡ suc (n + k) = omega arith in
    let last : one_if (h (n + k)) ≡ one_if (f n) = ap one_if (same n (omega arith)) in
    let before = set_shift f h k n low (λ t p. same t (omega arith)) in
    sym (ap (set_of h) next ∙ sums (one_if (f n)) (one_if (h (n + k))) (2 ^ n) (2 ^ k) (2 ^ (n + k)) (set_of f n) (set_of h (n + k)) last (pow-add 2 n k) before)
  where
    sums : (a b x y z u v : ℕ) → b ≡ a → z ≡ x * y → u * y ≡ v → b * z + v ≡ (a * x + u) * y
    sums a b x y z u v e d s = rw (e, d) (omega (arith, s))

-- ---- squares moved by k
abbrev moved : (ℕ → Bool) → (k t : ℕ) → Bool
moved f k t = leb k t && (ltb (t - k) 15 && f (t - k))

moved_means : (f : ℕ → Bool) (k t : ℕ) → (moved f k t ≡ true) ↔ ((k ≤ t) × ((t - k < 15) × (f (t - k) ≡ true)))
moved_means f k t = (
  λ h.
      let a = (and_means (leb k t) (ltb (t - k) 15 && f (t - k))).0 h in
      let b = (and_means (ltb (t - k) 15) (f (t - k))).0 a.1 in
      ((le_means k t).0 a.0, ((lt_means (t - k) 15).0 b.0, b.1)),
  λ h.
      (and_means (leb k t) (ltb (t - k) 15 && f (t - k))).1
      ((le_means k t).1 h.0, (and_means (ltb (t - k) 15) (f (t - k))).1 ((lt_means (t - k) 15).1 h.1.0, h.1.1)),
)

set_moved : (f : ℕ → Bool) (k : ℕ) → k ≤ 24 → set_of f 15 * 2 ^ k ≡ set_of (moved f k) 40
set_moved f k l =
    set_shift f (moved f k) k 15 (λ t h. rw (lt-leb k t h) refl)
    (λ t h. let e : t + k - k ≡ t = omega arith in rw (e, le-leb k (t + k) (omega arith), lt-ltb t 15 h) refl)
    ∙ sym (set_longer (moved f k) (15 + k) 40 (omega arith)
    (λ t h. is_false (moved f k t) (λ e. omega (arith, ((moved_means f k t).0 e).1.0))))

set_some : (h : ℕ → Bool) (n : ℕ) → (set_of h n ≢ 0) ↔ ((t : ℕ) × (t < n) × (h t ≡ true))
set_some h n = (λ ne. there ne (any_to h n) refl, λ x z. none x.0 (ap (λ (s : ℕ). bit s x.0) (sym z) ∙ (set_means h n x.0 x.1).1 x.2))
  where
    none : (t : ℕ) → bit 0 t ≡ 1 → ⊥
    none t q = omega (arith, zero-div (2 ^ t), q)

    no_one : any_to h n ≡ false → (t : ℕ) → t < n → h t ≡ false
    no_one e t l = is_false (h t) (λ p. absurd (differ (sym e ∙ (any_means h n).1 (t, l, p))))
      where
        differ : false ≡ true → ⊥
        differ q = let z : ◌≡◌ {A = ℕ} 0 1 = cc in omega arith

    there : set_of h n ≢ 0 → (b : Bool) → any_to h n ≡ b → (t : ℕ) × (t < n) × (h t ≡ true)
    there ne true e = (any_means h n).0 e
    there ne false e = absurd (ne (set_none h n (no_one e)))

module _ (f g : ℕ → Bool) (r s : ℕ) (hr : r < 5) (hs : s < 5) where
  pub record Fall : Type 0 where
    pub p : ℕ
    pub q : ℕ
    pub p_in : p < 15
    pub q_in : q < 15
    pub one : f p ≡ true
    pub two : g q ≡ true
    pub same : p + 12 ≡ q + (5 * r + s)

  abbrev k : ℕ
  k = 5 * r + s

  both_moved : bit_and (set_of f 15 * 2 ^ 12) (set_of g 15 * 2 ^ k) ≡ set_of (λ t. moved f 12 t && moved g k t) 40
  both_moved = rw (set_moved f 12 (omega arith), set_moved g k (omega arith)) (set_and (moved f 12) (moved g k) 40)

  there : (t : ℕ) × (t < 40) × (moved f 12 t && moved g k t ≡ true) → Fall
  there x =
      let t = x.0 in
      let a = (and_means (moved f 12 t) (moved g k t)).0 x.2 in
      let b = (moved_means f 12 t).0 a.0 in
      let c = (moved_means g k t).0 a.1 in
      record {
        p = t - 12;
        q = t - k;
        p_in = b.1.0;
        q_in = c.1.0;
        one = b.1.1;
        two = c.1.1;
        same = omega (arith, b.0, c.0);
      }

  back : Fall → (t : ℕ) × (t < 40) × (moved f 12 t && moved g k t ≡ true)
  back x =
      let t = x.p + 12 in
      let a : t - 12 ≡ x.p = omega arith in
      let b : t - k ≡ x.q = omega (arith, x.same) in (
        t,
        omega (arith, x.p_in),
        (and_means (moved f 12 t) (moved g k t)).1 (
          (moved_means f 12 t).1 (omega arith, (omega (arith, x.p_in), rw a x.one)),
          (moved_means g k t).1 (omega (arith, x.same), (omega (arith, b, x.q_in), rw b x.two)),
        ),
      )

  pub occurs_means : (occurs (set_of f 15) (set_of g 15) r s ≡ true) ↔ Fall
  unfolding occurs
  occurs_means =
      iff_join (iff_join (not_means _) (iff_not (eq_means (bit_and (set_of f 15 * 2 ^ 12) (set_of g 15 * 2 ^ k)) 0)))
      (iff_join (rw both_moved (set_some (λ t. moved f 12 t && moved g k t) 40)) (there, back))

-- ---- in words of 64 bits
module _ (x y r s : ℕ) (hr : r < 5) (hs : s < 5) (hx : x < 2 ^ 15) (hy : y < 2 ^ 15) where
  small : (z : ℕ) → z < 2 ^ 64 → z % 2 ^ 64 ≡ z
  small z h = omega arith

  first_small : x * 2 ^ 12 % 2 ^ 64 ≡ x * 2 ^ 12
  first_small = small (x * 2 ^ 12) (omega arith)

  second_small : y * 2 ^ (5 * r + s) % 2 ^ 64 ≡ y * 2 ^ (5 * r + s)
  second_small =
      let most : 2 ^ (5 * r + s) ≤ 2 ^ 24 = pow_mono {i = 5 * r + s} {j = 24} (omega arith) in
      small (y * 2 ^ (5 * r + s)) (omega (arith, mul-le-mul_left y most))

  pub occurs_is : not (eqb (bit_and (x * 2 ^ 12 % 2 ^ 64) (y * 2 ^ (5 * r + s) % 2 ^ 64)) 0) ≡ occurs x y r s
  unfolding occurs
  occurs_is = rw (first_small, second_small)
