-- When two fractions are one point of an edge.
--   same_point    on an edge with different ends, exactly where the fractions are equal
use mathlib.Core.Path.{◌≡◌, subst}
use mathlib.Core.Logic.{◌↔◌, ◌⊎◌, inl, inr, ⊎_elim}
use Prim.Native.Nat.{ℕ, suc, ◌+◌, ◌-◌, ◌*◌, ◌<◌}
use native.Mathlib.Omega.{arith}
use native.Mathlib.Decide.{dec_lt}
use native.Mathlib.Nat.{eq_of_mul-eq-mul_left}
use lib.IntN.{ℤ, pos, negsuc, neg_ℤ, ◌-ℤ◌, ◌*ℤ◌}
use Rattle.plane.specs.Points.{Point, along, Fraction}
use Rattle.plane.proofs.Logic.{iff_join, iff_turn, iff_or}
use Rattle.plane.proofs.Difference.{Diff, diff_add, diff_neg, diff_same, diff_eq}
use Rattle.plane.proofs.Points.{times_place}
use Rattle.edge.specs.Clauses.{Apart}
use Rattle.edge.specs.Cuts.{SamePoint}

-- ---- each whole number is a difference
abbrev more : ℤ → ℕ
more (pos n) = n
more (negsuc n) = 0

abbrev less : ℤ → ℕ
less (pos n) = 0
less (negsuc n) = suc n

parts : (z : ℤ) → Diff z (more z) (less z)
parts (pos n) = omega arith
parts (negsuc n) = omega arith

-- ---- two numbers that differ, with the weights X and Y in either order
cross : (s t X Y : ℕ) → (X * s + Y * t ≡ Y * s + X * t) ↔ ((s ≡ t) ⊎ (X ≡ Y))
cross s t X Y = (there, back)
  where
    apart : (s d X Y : ℕ) → 0 < d → X * s + Y * (s + d) ≡ Y * s + X * (s + d) → Y ≡ X
    apart s d X Y h e = eq_of_mul-eq-mul_left d h Y X (omega arith)

    there : X * s + Y * t ≡ Y * s + X * t → (s ≡ t) ⊎ (X ≡ Y)
    there e = go (dec_lt s t) (dec_lt t s)
      where
        go : Dec (s < t) → Dec (t < s) → (s ≡ t) ⊎ (X ≡ Y)
        go (yes l) d = let u : t ≡ s + (t - s) = omega arith in inr (omega (arith, apart s (t - s) X Y (omega arith) (rw u at e)))
        go (no l) (yes d) = let u : s ≡ t + (s - t) = omega arith in inr (omega (arith, apart t (s - t) Y X (omega arith) (turn (rw u at e))))
          where
            turn : X * (t + (s - t)) + Y * t ≡ Y * (t + (s - t)) + X * t → Y * t + X * (t + (s - t)) ≡ X * t + Y * (t + (s - t))
            turn h = omega arith
        go (no l) (no d) = inl (omega arith)

    back : (s ≡ t) ⊎ (X ≡ Y) → X * s + Y * t ≡ Y * s + X * t
    back (inl e) = rw e (omega arith)
    back (inr e) = rw e (omega arith)

-- ---- one axis
module _ (a b : ℤ) (k n k' n' : ℕ) where
  abbrev s : ℕ
  s = more b + less a

  abbrev t : ℕ
  t = less b + more a

  along_diff : (n k : ℕ) → Diff (along n k a b) (n * more a + k * s) (n * less a + k * t)
  along_diff n k =
      let d = diff_add b (neg_ℤ a) (more b) (less b) (less a) (more a) (parts b) (diff_neg a (more a) (less a) (parts a)) in
      diff_add (pos n *ℤ a) (pos k *ℤ (b -ℤ a)) (n * more a) (n * less a) (k * s) (k * t) (times_place a n (more a) (less a) (parts a)) (times_place (b -ℤ a) k s t d)

  same_ends : (a ≡ b) ↔ (s ≡ t)
  same_ends = (
    λ e. turn (diff_same b (more a) (less a) (more b) (less b) (subst (λ (z : ℤ). Diff z (more a) (less a)) e (parts a)) (parts b)),
    λ e. diff_eq a b (more a) (less a) (more b) (less b) (parts a) (parts b) (omega arith),
  )
    where
      turn : more a + less b ≡ more b + less a → more b + less a ≡ less b + more a
      turn h = omega arith

  same_level : (pos n' *ℤ along n k a b ≡ pos n *ℤ along n' k' a b) ↔ ((a ≡ b) ⊎ (k * n' ≡ k' * n))
  same_level = iff_join in_places (iff_join (cross s t (k * n') (k' * n)) (iff_or (iff_turn same_ends) (λ e. e, λ e. e)))
    where
      p : Diff (pos n' *ℤ along n k a b) (n' * (n * more a + k * s)) (n' * (n * less a + k * t))
      p = times_place (along n k a b) n' (n * more a + k * s) (n * less a + k * t) (along_diff n k)

      q : Diff (pos n *ℤ along n' k' a b) (n * (n' * more a + k' * s)) (n * (n' * less a + k' * t))
      q = times_place (along n' k' a b) n (n' * more a + k' * s) (n' * less a + k' * t) (along_diff n' k')

      open_up : (u v s t : ℕ) → (n' * (n * u + k * s) + n * (n' * v + k' * t) ≡ n * (n' * u + k' * s) + n' * (n * v + k * t)) ↔ (k * n' * s + k' * n * t ≡ k' * n * s + k * n' * t)
      open_up u v s t = (λ h. omega arith, λ h. omega arith)

      in_places : (pos n' *ℤ along n k a b ≡ pos n *ℤ along n' k' a b) ↔ (k * n' * s + k' * n * t ≡ k' * n * s + k * n' * t)
      in_places =
          iff_join (
            λ e. diff_same (pos n *ℤ along n' k' a b) (n' * (n * more a + k * s)) (n' * (n * less a + k * t)) (n * (n' * more a + k' * s)) (n * (n' * less a + k' * t))
                (subst (λ (z : ℤ). Diff z (n' * (n * more a + k * s)) (n' * (n * less a + k * t))) e p) q,
            λ e. diff_eq (pos n' *ℤ along n k a b) (pos n *ℤ along n' k' a b) (n' * (n * more a + k * s)) (n' * (n * less a + k * t)) (n * (n' * more a + k' * s)) (n * (n' * less a + k' * t)) p q e,
          )
          (open_up (more a) (less a) s t)

pub same_point : (A B : Point) (p q : Fraction) → Apart A B → SamePoint A B p q ↔ (p.k * q.n ≡ q.k * p.n)
same_point A B p q apart = (
  λ h. ⊎_elim (λ e. ⊎_elim (λ f. absurd (apart (e, f))) (λ f. f) (y.0 h.1)) (λ e. e) (x.0 h.0),
  λ e. (x.1 (inr e), y.1 (inr e)),
)
  where
    x : (pos q.n *ℤ along p.n p.k A.x B.x ≡ pos p.n *ℤ along q.n q.k A.x B.x) ↔ ((A.x ≡ B.x) ⊎ (p.k * q.n ≡ q.k * p.n))
    x = same_level A.x B.x p.k p.n q.k q.n

    y : (pos q.n *ℤ along p.n p.k A.y B.y ≡ pos p.n *ℤ along q.n q.k A.y B.y) ↔ ((A.y ≡ B.y) ⊎ (p.k * q.n ≡ q.k * p.n))
    y = same_level A.y B.y p.k p.n q.k q.n
