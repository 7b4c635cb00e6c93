-- Sums round a ring, by their parity. It only carries the proofs of Parity.
--   sum_mod      terms of equal parity have sums of equal parity
--   round        what is counted at the vertices does not count: each vertex begins one edge and ends one
--   odd_some     of an odd number that pass a test, there is one;  odd_there  and one of an odd number that have a property
--   odd_turns    where two tests differ in one place, one count is odd exactly where the other is not
use mathlib.Core.Path.{◌≡◌, refl, sym, ◌∙◌, ap}
use mathlib.Core.Logic.{◌↔◌, ◌≢◌}
use mathlib.Core.Bool.{Bool, true, false}
use Prim.Native.Nat.{ℕ, zero, suc, ◌+◌, ◌%◌, ◌<◌}
use native.Mathlib.Omega.{arith}
use native.Mathlib.Decide.{ℕ_discrete}
use Rattle.plane.specs.TileSet.{one_if}
use Rattle.plane.specs.Folds.{sum_to}
use Rattle.plane.specs.Counting.{Many, none, one_more, no_more}
use Rattle.ring.specs.Edges.{next_of}
use Rattle.ring.proofs.Edges.{cycle}

pub sum_mod : (f g : ℕ → ℕ) (n : ℕ) → ((i : ℕ) → i < n → f i % 2 ≡ g i % 2) → sum_to f n % 2 ≡ sum_to g n % 2
unfolding sum_to
sum_mod f g zero h = refl
sum_mod f g (suc n) h = omega (arith, sum_mod f g n (λ i p. h i (omega arith)), h n (omega arith))

sum_three : (f g h : ℕ → ℕ) (n : ℕ) → sum_to (λ i. f i + g i + h i) n ≡ sum_to f n + sum_to g n + sum_to h n
unfolding sum_to
sum_three f g h zero = refl
sum_three f g h (suc n) = omega (arith, sum_three f g h n)

pub round : (h : ℕ → ℕ) (from n : ℕ) (f g : ℕ → ℕ)
    → ((i : ℕ) → i < n → (f i + h (from + i) + h (next_of from n i)) % 2 ≡ g i % 2) → sum_to f n % 2 ≡ sum_to g n % 2
round h from n f g e =
    let s = sum_three f (λ i. h (from + i)) (λ i. h (next_of from n i)) n in
    let c = cycle h from n in
    let m = sum_mod (λ i. f i + h (from + i) + h (next_of from n i)) g n e in
    omega arith

pub odd_some : (f : ℕ → Bool) (n : ℕ) → sum_to (λ i. one_if (f i)) n % 2 ≡ 1 → (i : ℕ) × (i < n) × (f i ≡ true)
unfolding sum_to
odd_some f zero h = absurd (omega arith)
odd_some f (suc n) h = go (f n) refl (odd_some f n)
  where
    go : (b : Bool) → f n ≡ b → (sum_to (λ i. one_if (f i)) n % 2 ≡ 1 → (i : ℕ) × (i < n) × (f i ≡ true)) → (i : ℕ) × (i < suc n) × (f i ≡ true)
    go true e ih = (n, omega arith, e)
    go false e ih = let x = ih (omega (arith, rw e at h)) in (x.0, omega (arith, x.1), x.2)

pub odd_there : (P : ℕ → Type 0) {n m : ℕ} → Many P n m → m % 2 ≡ 1 → (k : ℕ) × (k < n) × P k
odd_there P none o = absurd (omega (arith, o))
odd_there P (one_more {n = n} a p) o = (n, omega arith, p)
odd_there P (no_more a q) o = let x = odd_there P a o in (x.0, omega (arith, x.1), x.2)

module _ (f g : ℕ → Bool) (a : ℕ) (here : f a ≡ true) (there : g a ≡ false) where
  differ : (n : ℕ) → a < n → ((i : ℕ) → i < n → i ≢ a → f i ≡ g i)
      → (sum_to (λ i. one_if (f i)) n + sum_to (λ i. one_if (g i)) n) % 2 ≡ 1
  unfolding sum_to
  differ zero l h = absurd (omega arith)
  differ (suc n) l h = go (ℕ_discrete a n) (λ p. differ n p (λ i q. h i (omega arith)))
    where
      go : Dec (a ≡ n) → (a < n → (sum_to (λ i. one_if (f i)) n + sum_to (λ i. one_if (g i)) n) % 2 ≡ 1)
          → (sum_to (λ i. one_if (f i)) n + one_if (f n) + (sum_to (λ i. one_if (g i)) n + one_if (g n))) % 2 ≡ 1
      go (yes e) ih =
          let s = sum_mod (λ i. one_if (f i)) (λ i. one_if (g i)) n (λ i p. ap (λ b. one_if b % 2) (h i (omega arith) (omega arith))) in
          rw (sym (ap f e) ∙ here, sym (ap g e) ∙ there) (omega (arith, s))
      go (no e) ih = rw (h n (omega arith) (λ q. e (sym q))) (omega (arith, ih (omega arith)))

  pub odd_turns : (n : ℕ) → a < n → ((i : ℕ) → i < n → i ≢ a → f i ≡ g i)
      → (sum_to (λ i. one_if (f i)) n % 2 ≡ 1) ↔ (sum_to (λ i. one_if (g i)) n % 2 ≡ 1 → ⊥)
  odd_turns n l h =
      let d = differ n l h in
      (λ p q. omega (arith, d, p, q), λ p. odd p d)
    where
      odd : (sum_to (λ i. one_if (g i)) n % 2 ≡ 1 → ⊥) → (sum_to (λ i. one_if (f i)) n + sum_to (λ i. one_if (g i)) n) % 2 ≡ 1 → sum_to (λ i. one_if (f i)) n % 2 ≡ 1
      odd p d = omega (arith, p, d)
