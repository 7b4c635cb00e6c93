-- Bits of a word, one at a time.
--   bit_or_lem, bit_and_lem  of two words joined;  or_left, or_right, and_both  what that says of a bit that is set
--   bit_shift                of a word shifted down by k: bit e is its bit k + e
--   bit_mod                  of a word's lowest k bits
--   pair_has                 the word 3 · 2 ^ j has the bits j and j + 1, as far as a word of 64 bits goes
--   below_trailing           no bit below the trailing zeros' count is set
--   trailing_lt              a word that is not 0 has fewer trailing zeros than bits
use mathlib.Core.Path.{◌≡◌, refl, sym, ◌∙◌, ap}
use mathlib.Core.Logic.{◌≢◌}
use Prim.Native.Nat.{ℕ, zero, suc, ◌+◌, ◌-◌, ◌*◌, ◌/◌, ◌%◌, ◌^◌, ◌≤◌, ◌<◌, min, max}
use native.Mathlib.Omega.{arith}
use native.Mathlib.Nat.{div-one}
use native.Mathlib.Decide.{ℕ_discrete}
use lib.Pow.{shr-shr, shl-shr, field, mod-mod-pow}
use lib.Bits.{bit_or, bit_and, or_shr, or_step, and_shr, and_step}
use lib.Count.{count_trailing_zeros, under}
use Rattle.plane.specs.TileSet.{bit}

bit_or_lem : (a b e : ℕ) → bit (bit_or a b) e ≡ max (bit a e) (bit b e)
bit_or_lem a b e = rw (or_shr a b e, or_step (a / 2 ^ e) (b / 2 ^ e)) (omega arith)

bit_and_lem : (a b e : ℕ) → bit (bit_and a b) e ≡ min (bit a e) (bit b e)
bit_and_lem a b e = rw (and_shr a b e, and_step (a / 2 ^ e) (b / 2 ^ e)) (omega arith)

pub or_left : (a b e : ℕ) → bit a e ≡ 1 → bit (bit_or a b) e ≡ 1
or_left a b e h = omega (arith, bit_or_lem a b e)

pub or_right : (a b e : ℕ) → bit b e ≡ 1 → bit (bit_or a b) e ≡ 1
or_right a b e h = omega (arith, bit_or_lem a b e)

pub and_both : (a b e : ℕ) → bit a e ≡ 1 → bit b e ≡ 1 → bit (bit_and a b) e ≡ 1
and_both a b e h k = omega (arith, bit_and_lem a b e)

pub bit_shift : (w k e : ℕ) → bit (w / 2 ^ k) e ≡ bit w (k + e)
bit_shift w k e = ap (λ x. x % 2) (shr-shr w k e)

bit_mod : (w k e : ℕ) → e < k → bit (w % 2 ^ k) e ≡ bit w e
bit_mod w k e h =
    let j = k - suc e in
    let p : k ≡ j + 1 + e = omega arith in
    ap (λ (x : ℕ). w % 2 ^ x / 2 ^ e % 2) p ∙ ap (λ (x : ℕ). x % 2) (field w (j + 1) e) ∙ mod-mod-pow (w / 2 ^ e) j 1

pub pair_has : (j e : ℕ) → j ≤ e → e ≤ j + 1 → e < 64 → bit (3 * 2 ^ j % 2 ^ 64) e ≡ 1
pair_has j e h k l = bit_mod (3 * 2 ^ j) 64 e l ∙ go (ℕ_discrete e j)
  where
    go : Dec (e ≡ j) → bit (3 * 2 ^ j) e ≡ 1
    go (yes p) = rw (p, shl-shr 3 j)
    go (no p) =
        let q : e ≡ j + 1 = omega arith in
        rw (q, ← shr-shr (3 * 2 ^ j) j 1, shl-shr 3 j)

pub below_trailing : (k m e : ℕ) → e < count_trailing_zeros k m → bit m e ≡ 0
unfolding count_trailing_zeros
below_trailing zero m e h = absurd (omega arith)
below_trailing (suc k) m e h = go (m % 2) refl e h (below_trailing k (m / 2))
  where
    go : (d : ℕ) → m % 2 ≡ d → (e : ℕ) → e < under d (count_trailing_zeros k (m / 2)) → ((e : ℕ) → e < count_trailing_zeros k (m / 2) → bit (m / 2) e ≡ 0) → bit m e ≡ 0
    go zero p zero l ih = ap (λ x. x % 2) (div-one m) ∙ p
    go zero p (suc e) l ih = ap (λ (x : ℕ). m / 2 ^ x % 2) (omega arith) ∙ sym (bit_shift m 1 e) ∙ ih e (omega arith)
    go (suc d) p e l ih = absurd (omega arith)

pub trailing_lt : (k m : ℕ) → m < 2 ^ k → m ≢ 0 → count_trailing_zeros k m < k
unfolding count_trailing_zeros
trailing_lt zero m h ne = absurd (omega arith)
trailing_lt (suc k) m h ne = go (m % 2) refl (trailing_lt k (m / 2))
  where
    go : (d : ℕ) → m % 2 ≡ d → (m / 2 < 2 ^ k → m / 2 ≢ 0 → count_trailing_zeros k (m / 2) < k) → under d (count_trailing_zeros k (m / 2)) < suc k
    go zero p ih = omega (arith, ih (omega arith) (λ q. ne (omega arith)))
    go (suc d) p ih = omega arith
