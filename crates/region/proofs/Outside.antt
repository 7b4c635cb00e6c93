-- Rule 4: the test of a coordinate and what it says.
--   outside_in_means    a stretch of vertices;  some_outside_means  a whole list
--   ring_in_range       where none of a ring's coordinates lies outside, the ring is in range
use mathlib.Core.Path.{◌≡◌, refl, ap}
use mathlib.Core.Logic.{◌↔◌, ◌⊎◌, inl, inr, ⊎_elim}
use mathlib.Core.Bool.{Bool, true, false, not, ◌||◌}
use mathlib.Core.List.{List}
use Prim.Native.Nat.{ℕ, ◌≤◌, ◌<◌}
use native.Mathlib.Omega.{arith}
use lib.Dec.{leb, ltb}
use lib.IntN.{ℤ, pos, negsuc}
use lib.ListN.{length, get_or}
use borrow.Author.Tests.{ltb-true, ltb-false, lt-ltb, le-ltb, leb-false, lt-leb, not-true}
use Rattle.plane.specs.Place.{in_range}
use Rattle.plane.proofs.Logic.{never, iff_join, iff_or, or_means}
use Rattle.plane.proofs.Place.{below_means}
use Rattle.plane.proofs.Folds.{any_means, some_means}
use Rattle.ring.specs.Edges.{corner, RingInRange}
use Rattle.region.specs.Rules.{Outside, OutsideIn}
use Rattle.region.specs.Check.{outside_in, some_outside}

outside_means : (z : ℤ) → (not (in_range z) ≡ true) ↔ Outside z
unfolding in_range
outside_means (pos n) = (
  λ h. inr ((below_means (pos 1000000) (pos n)).0 (lt-ltb 1000000 n (leb-false n 1000000 (not-true (leb n 1000000) h)))),
  λ h. ⊎_elim (λ p. never ((below_means (pos n) (negsuc 999999)).1 p)) (λ p. out (ltb-true 1000000 n ((below_means (pos 1000000) (pos n)).1 p))) h,
)
  where
    out : 1000000 < n → not (leb n 1000000) ≡ true
    out l = ap not (lt-leb n 1000000 l)
outside_means (negsuc n) = (
  λ h. inl ((below_means (negsuc n) (negsuc 999999)).0 (lt-ltb 999999 n (out (ltb-false n 1000000 (not-true (ltb n 1000000) h))))),
  λ h. ⊎_elim (λ p. in_it (ltb-true 999999 n ((below_means (negsuc n) (negsuc 999999)).1 p))) (λ p. never ((below_means (pos 1000000) (negsuc n)).1 p)) h,
)
  where
    out : 1000000 ≤ n → 999999 < n
    out l = omega arith

    in_it : 999999 < n → not (ltb n 1000000) ≡ true
    in_it l = ap not (le-ltb n 1000000 (omega arith))

not_outside : (z : ℤ) → (Outside z → ⊥) → in_range z ≡ true
not_outside z h = go (in_range z) refl
  where
    go : (t : Bool) → in_range z ≡ t → t ≡ true
    go true e = refl
    go false e = absurd (h ((outside_means z).0 (ap not e)))

pub outside_in_means : (xs : List ℤ) (from n : ℕ) → (outside_in xs from n ≡ true) ↔ OutsideIn xs from n
unfolding outside_in
outside_in_means xs from n = iff_join (any_means _ n) (λ p. (p.0, p.1, (each p.0).0 p.2), λ p. (p.0, p.1, (each p.0).1 p.2))
  where
    each : (k : ℕ) → (not (in_range (corner xs from k).x) || not (in_range (corner xs from k).y) ≡ true) ↔ (Outside (corner xs from k).x ⊎ Outside (corner xs from k).y)
    each k = iff_join (or_means (not (in_range (corner xs from k).x)) (not (in_range (corner xs from k).y))) (iff_or (outside_means (corner xs from k).x) (outside_means (corner xs from k).y))

pub some_outside_means : (xs : List ℤ) → (some_outside xs ≡ true) ↔ ((i : ℕ) × (i < length xs) × Outside (get_or xs i (pos 0)))
unfolding some_outside
some_outside_means xs = some_means _ _ (length xs) (λ i l. outside_means (get_or xs i (pos 0)))

pub ring_in_range : (xs : List ℤ) (from n : ℕ) → (OutsideIn xs from n → ⊥) → RingInRange xs from n
ring_in_range xs from n h =
    record {
      at = λ k l. record {
        x = not_outside (corner xs from k).x (λ o. h (k, l, inl o));
        y = not_outside (corner xs from k).y (λ o. h (k, l, inr o));
      };
    }
