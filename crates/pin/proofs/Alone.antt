-- Rule 6 of a ring, edge by edge: strictly between its ends an edge meets no other edge.
--   into, out_of    two neighbours A to B and B to C that have a point strictly within the second, strictly within the first, share more than B
--   alone           no edge of a ring that keeps rule 6 meets edge a strictly between its ends, where these differ
use mathlib.Core.Path.{◌≡◌, sym, ◌∙◌, ap, subst}
use mathlib.Core.Logic.{◌≢◌}
use mathlib.Core.List.{List}
use Prim.Native.Nat.{ℕ, ◌+◌, ◌*◌, ◌<◌}
use native.Mathlib.Omega.{arith}
use native.Mathlib.Nat.{eq_of_mul-eq-mul_left, mul-pos}
use native.Mathlib.Decide.{dec_lt, ℕ_discrete}
use lib.IntN.{ℤ}
use Rattle.plane.specs.Place.{place_of}
use Rattle.plane.specs.Points.{Point}
use Rattle.plane.specs.Placed.{PointInRange}
use Rattle.plane.proofs.Place.{place_eq}
use Rattle.plane.proofs.Points.{on_line, meet_level}
use Rattle.edge.specs.Clauses.{Apart}
use Rattle.meet.specs.Meeting.{SharePoint, ShareMore}
use Rattle.ring.specs.Edges.{corner, after, RingInRange}
use Rattle.ring.specs.Tangled.{Follows, TangledAt, neighbours, first_and_last, strangers, Tangled}
use Rattle.ring.proofs.Edges.{after_inner, after_last, after_in_range}

-- ---- one axis: a point of a to b that is one of b to c too, strictly within the second or the first, is not b
past_start : (a b c j k l m : ℕ) → 0 < j + k → 0 < m → (l + m) * (j * a + k * b) ≡ (j + k) * (l * b + m * c) → j * a + k * b ≡ (j + k) * b → b ≡ c
past_start a b c j k l m h hm e f = eq_of_mul-eq-mul_left ((j + k) * m) (mul-pos h hm) b c (omega (arith, e, ap (λ z. (l + m) * z) f))

short_end : (a b j k : ℕ) → 0 < j → j * a + k * b ≡ (j + k) * b → a ≡ b
short_end a b j k hj e = eq_of_mul-eq-mul_left j hj a b (omega arith)

-- ---- a common point in places: the weights j and k on the edge A to B, l and m on the edge C to D
abbrev Common : (A B C D : Point) (j k l m : ℕ) → Type 0
Common A B C D j k l m =
    ((l + m) * (j * place_of A.x + k * place_of B.x) ≡ (j + k) * (l * place_of C.x + m * place_of D.x))
    × ((l + m) * (j * place_of A.y + k * place_of B.y) ≡ (j + k) * (l * place_of C.y + m * place_of D.y))

abbrev shared : (A B C D : Point) → PointInRange A → PointInRange B → PointInRange C → PointInRange D → (j k l m : ℕ) → 0 < j + k → 0 < l + m
    → Common A B C D j k l m → SharePoint A B C D
shared A B C D ra rb rc rd j k l m jk lm c =
    record {
      k = k;
      n = j + k;
      l = m;
      m = l + m;
      some_n = jk;
      some_m = lm;
      first_closed = omega arith;
      second_closed = omega arith;
      same_x = (meet_level A.x B.x C.x D.x j k l m ra.x rb.x rc.x rd.x).1 c.0;
      same_y = (meet_level A.y B.y C.y D.y j k l m ra.y rb.y rc.y rd.y).1 c.1;
    }

module _ (A B C : Point) (ra : PointInRange A) (rb : PointInRange B) (rc : PointInRange C) (j k l m : ℕ) (c : Common A B B C j k l m) where
  pub into : 0 < j + k → 0 < l → 0 < m → Apart B C → ShareMore A B C
  into jk hl hm apart =
      record {
        share = shared A B B C ra rb rb rc j k l m jk (omega arith) c;
        other = λ q. apart (
          (place_eq B.x C.x rb.x rc.x).1 (past_start _ _ _ j k l m jk hm c.0 ((on_line A.x B.x B.x j k ra.x rb.x rb.x).0 q.0)),
          (place_eq B.y C.y rb.y rc.y).1 (past_start _ _ _ j k l m jk hm c.1 ((on_line A.y B.y B.y j k ra.y rb.y rb.y).0 q.1)),
        );
      }

  pub out_of : 0 < j → 0 < k → 0 < l + m → Apart A B → ShareMore A B C
  out_of hj hk lm apart =
      record {
        share = shared A B B C ra rb rb rc j k l m (omega arith) lm c;
        other = λ q. apart (
          (place_eq A.x B.x ra.x rb.x).1 (short_end _ _ j k hj ((on_line A.x B.x B.x j k ra.x rb.x rb.x).0 q.0)),
          (place_eq A.y B.y ra.y rb.y).1 (short_end _ _ j k hj ((on_line A.y B.y B.y j k ra.y rb.y rb.y).0 q.1)),
        );
      }

-- ---- a ring that keeps rule 6
module _ (xs : List ℤ) (from n : ℕ) (r : RingInRange xs from n) (kept : Tangled xs from n → ⊥) where
  -- edge a, another edge i, and a point of both: the weights l and m on a, j and k on i
  module _ (a i : ℕ) (low : a < n) (h : i < n) (apart : Apart (corner xs from a) (after xs from n a)) (j k l m : ℕ) (jk : 0 < j + k) (hl : 0 < l) (hm : 0 < m)
      (c : Common (corner xs from i) (after xs from n i) (corner xs from a) (after xs from n a) j k l m) where
    abbrev A : Point
    A = corner xs from a

    abbrev B : Point
    B = after xs from n a

    abbrev C : Point
    C = corner xs from i

    abbrev D : Point
    D = after xs from n i

    range_b : PointInRange B
    range_b = after_in_range xs from n a r low

    range_d : PointInRange D
    range_d = after_in_range xs from n i r h

    back : Common A B C D l m j k
    back = (sym c.0, sym c.1)

    -- edge i ends where a starts; edge a ends where i starts
    before : D ≡ A → ShareMore C A B
    before e = into C A B (r.at i h) (r.at a low) range_b j k l m (subst (λ (P : Point). Common C P A B j k l m) e c) jk hl hm apart

    behind : B ≡ C → ShareMore A C D
    behind e =
        out_of A C D (r.at a low) (r.at i h) range_d l m j k (subst (λ (P : Point). Common A P C D l m j k) e back) hl hm jk
        (subst (λ (P : Point). Apart A P) e apart)

    first : i < a → TangledAt xs from n i a
    first rising =
        elim (ℕ_discrete a (i + 1)) [
          | yes f ↦ neighbours f (before (after_inner xs from n i (omega arith) ∙ ap (corner xs from) (sym f)))
          | no f ↦ wrapped f (ℕ_discrete i 0) (ℕ_discrete (a + 1) n)
        ]
      where
        wrapped : (Follows i a → ⊥) → Dec (i ≡ 0) → Dec (a + 1 ≡ n) → TangledAt xs from n i a
        wrapped f (yes p) (yes q) = first_and_last (p, q) (behind (after_last xs from n a q ∙ ap (corner xs from) (sym p)))
        wrapped f (no p) d = strangers f (λ w. p w.0) (shared C D A B (r.at i h) range_d (r.at a low) range_b j k l m jk (omega arith) c)
        wrapped f (yes p) (no q) = strangers f (λ w. q w.1) (shared C D A B (r.at i h) range_d (r.at a low) range_b j k l m jk (omega arith) c)

    second : a < i → TangledAt xs from n a i
    second rising =
        elim (ℕ_discrete i (a + 1)) [
          | yes f ↦ neighbours f (behind (after_inner xs from n a (omega arith) ∙ ap (corner xs from) (sym f)))
          | no f ↦ wrapped f (ℕ_discrete a 0) (ℕ_discrete (i + 1) n)
        ]
      where
        wrapped : (Follows a i → ⊥) → Dec (a ≡ 0) → Dec (i + 1 ≡ n) → TangledAt xs from n a i
        wrapped f (yes p) (yes q) = first_and_last (p, q) (before (after_last xs from n i q ∙ ap (corner xs from) (sym p)))
        wrapped f (no p) d = strangers f (λ w. p w.0) (shared A B C D (r.at a low) range_b (r.at i h) range_d l m j k (omega arith) jk back)
        wrapped f (yes p) (no q) = strangers f (λ w. q w.1) (shared A B C D (r.at a low) range_b (r.at i h) range_d l m j k (omega arith) jk back)

    pub alone : i ≢ a → ⊥
    alone other =
        elim (dec_lt i a) [
          | yes p ↦ kept (a, low, (i, p, first p))
          | no p ↦ (let q : a < i = omega arith in kept (i, h, (a, q, second q)))
        ]
