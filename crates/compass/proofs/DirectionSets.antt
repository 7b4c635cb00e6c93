-- Sets of directions made one at a time.
--   one_bit       the set that holds k alone
--   when_not, when_so     a set under a condition: empty, or that set
--   among n k     one of the first n tests finds k
--   union_none, union_more    the union of the sets of the first n tests, and one test more
use mathlib.Core.Path.{◌≡◌, refl, sym, ◌∙◌}
use mathlib.Core.Bool.{Bool, true, false, ◌&&◌, ◌||◌}
use Prim.Native.Nat.{ℕ, zero, suc, ◌+◌, ◌*◌, ◌^◌, ◌≤◌, ◌<◌, ◌%◌}
use native.Mathlib.Omega.{arith}
use native.Mathlib.Decide.{ℕ_discrete}
use borrow.Author.Tests.{eq-eqb, ne_eqb}
use lib.Dec.{eqb}
use lib.Bits.{bit_or}
use Rattle.plane.specs.Folds.{any_to}
use Rattle.plane.specs.TileSet.{set_of}
use Rattle.plane.proofs.Folds.{any_step}
use Rattle.plane.proofs.TileSet.{set_or, set_same, set_none, bit_le}

one_set : (k n : ℕ) → k < n → set_of (eqb k) n ≡ 2 ^ k
unfolding set_of
one_set k zero h = absurd (omega arith)
one_set k (suc n) h =
    elim (ℕ_discrete k n) [
      | yes e ↦ rw (eq-eqb k n e, set_none (eqb k) n (λ t q. ne_eqb k t (λ d. omega arith)), e) (omega arith)
      | no e ↦ rw (ne_eqb k n e, one_set k n (omega arith)) (omega arith)
    ]

-- as code makes it
pub one_bit : (k : ℕ) → k < 9 → 1 * 2 ^ k % 65536 ≡ set_of (eqb k) 9
one_bit k h = small (2 ^ k) (bit_le k h) ∙ sym (one_set k 9 h)
  where
    small : (b : ℕ) → b ≤ 256 → 1 * b % 65536 ≡ b
    small b l = omega arith

module _ (x : Bool) (f : ℕ → Bool) where
  pub when_not : x ≡ false → 0 ≡ set_of (λ k. x && f k) 9
  when_not e = sym (set_none (λ (k : ℕ). x && f k) 9 (λ k h. rw e))

  pub when_so : x ≡ true → set_of f 9 ≡ set_of (λ k. x && f k) 9
  when_so e = rw e

module _ (f : ℕ → ℕ → Bool) where
  -- some of the first n tests holds of k
  abbrev pub among : ℕ → ℕ → Bool
  among n k = any_to (λ i. f i k) n

  pub union_none : 0 ≡ set_of (among 0) 9
  unfolding any_to
  union_none = sym (set_none (among 0) 9 (λ t h. refl))

  pub union_more : (n : ℕ) → bit_or (set_of (among n) 9) (set_of (f n) 9) ≡ set_of (among (n + 1)) 9
  union_more n = set_or (among n) (f n) 9 ∙ set_same (λ (k : ℕ). among n k || f n k) (among (n + 1)) 9 (λ k h. any_step (λ (i : ℕ). f i k) n)
