-- A loop that adds f 0, f 1 .. f (n - 1), each at most c.
--   Summing f c n i r     i of the numbers are added, and r is the sum now
--   summing_none, summing_more, summing_all    before the first turn, after one turn more, and after the last
use mathlib.Core.Path.{◌≡◌, refl, ap, ap₂, ◌∙◌}
use Prim.Native.Nat.{ℕ, ◌+◌, ◌*◌, ◌≤◌, ◌<◌}
use native.Mathlib.Omega.{arith}
use Rattle.plane.specs.Folds.{sum_to}
use Rattle.plane.proofs.Folds.{sum_step}

abbrev pub Summing : (ℕ → ℕ) → (c n i r : ℕ) → Type 0
Summing f c n i r = (i ≤ n) × (r ≡ sum_to f i) × (r ≤ c * i)

module _ (f : ℕ → ℕ) (c n : ℕ) where
  pub summing_none : Summing f c n 0 0
  unfolding sum_to
  summing_none = (omega arith, refl, omega arith)

  pub summing_more : (i r : ℕ) {v : ℕ} → i < n → Summing f c n i r → v ≡ f i → v ≤ c → Summing f c n (i + 1) (r + v)
  summing_more i r {v} h s e l = (omega arith, ap₂ (λ (x y : ℕ). x + y) s.1 e ∙ sum_step f i, bound c i r v s.2 l)
    where
      bound : (c i r v : ℕ) → r ≤ c * i → v ≤ c → r + v ≤ c * (i + 1)
      bound c i r v p q = omega arith

  pub summing_all : (i r : ℕ) → n ≤ i → Summing f c n i r → r ≡ sum_to f n
  summing_all i r h s = let e : i ≡ n = omega (arith, s.0) in s.1 ∙ ap (sum_to f) e
