-- Round a ring: the edge before each, and where the two meet.
--   before_lt, before_first, before_next    which edge it is
--   end_start     it ends where the edge starts
--   edge_made     an edge made of the end of the edge before it and of the vertex after
use mathlib.Core.Path.{◌≡◌, sym, ◌∙◌, ap}
use mathlib.Core.List.{List}
use Prim.Native.Nat.{ℕ, ◌+◌, ◌-◌, ◌*◌, ◌<◌}
use native.Mathlib.Omega.{arith}
use native.Mathlib.Decide.{ℕ_discrete}
use borrow.Author.Tests.{eq-eqb, ne_eqb}
use lib.ListN.{get_or}
use lib.IntN.{ℤ, pos}
use Rattle.plane.specs.declared.Edge.{Edge}
use Rattle.plane.specs.Place.{place_of}
use Rattle.plane.specs.Points.{Point}
use Rattle.ring.specs.Edges.{next_of, corner, after, ring_edge}
use Rattle.ring.proofs.Edges.{after_inner, after_last}
use Rattle.simple.specs.Parts.{edge_before}

before_zero : (n k : ℕ) → k ≡ 0 → edge_before n k ≡ n - 1
unfolding edge_before
before_zero n k e = rw (eq-eqb k 0 e)

before_some : (n k : ℕ) → (k ≡ 0 → ⊥) → edge_before n k ≡ k - 1
unfolding edge_before
before_some n k e = rw (ne_eqb k 0 e)

pub before_first : (n : ℕ) → edge_before n 0 ≡ n - 1
before_first n = before_zero n 0 (omega arith)

pub before_next : (n k : ℕ) → edge_before n (k + 1) ≡ k
before_next n k = before_some n (k + 1) (λ e. absurd (omega arith)) ∙ omega arith

pub before_lt : (n k : ℕ) → k < n → edge_before n k < n
before_lt n k h =
    elim (ℕ_discrete k 0) [ yes e ↦ rw (before_zero n k e) (omega arith) | no e ↦ rw (before_some n k e) (omega arith) ]

module _ (xs : List ℤ) (from n k : ℕ) (h : k < n) where
  meets_at : after xs from n (edge_before n k) ≡ corner xs from k
  meets_at =
      elim (ℕ_discrete k 0) [
        | yes e ↦
            let p : n - 1 + 1 ≡ n = omega arith in
            rw (before_zero n k e, e) (after_last xs from n (n - 1) p)
        | no e ↦
            let p : k - 1 + 1 < n = omega arith in
            let q : k - 1 + 1 ≡ k = omega arith in
            rw (before_some n k e) (after_inner xs from n (k - 1) p) ∙ ap (corner xs from) q
      ]

  pub end_start : ((ring_edge xs from n k).ax ≡ (ring_edge xs from n (edge_before n k)).bx) × ((ring_edge xs from n k).ay ≡ (ring_edge xs from n (edge_before n k)).by)
  unfolding ring_edge
  end_start = (ap (λ (P : Point). place_of P.x) (sym meets_at), ap (λ (P : Point). place_of P.y) (sym meets_at))

  pub edge_made : (g : Edge) (next bx by : ℕ) → g ≡ ring_edge xs from n (edge_before n k) → next ≡ next_of from n k
      → bx ≡ place_of (get_or xs (2 * next) (pos 0)) → by ≡ place_of (get_or xs (2 * next + 1) (pos 0))
      → ◌≡◌ {A = Edge} (record { ax = g.bx; ay = g.by; bx = bx; by = by }) (ring_edge xs from n k)
  unfolding ring_edge
  edge_made g next bx by e f p q =
      let ax : g.bx ≡ (ring_edge xs from n k).ax = ap (λ (g : Edge). g.bx) e ∙ sym end_start.0 in
      let ay : g.by ≡ (ring_edge xs from n k).ay = ap (λ (g : Edge). g.by) e ∙ sym end_start.1 in
      let x : bx ≡ (ring_edge xs from n k).bx = p ∙ ap (λ (i : ℕ). place_of (get_or xs (2 * i) (pos 0))) f in
      let y : by ≡ (ring_edge xs from n k).by = q ∙ ap (λ (i : ℕ). place_of (get_or xs (2 * i + 1) (pos 0))) f in
      λ i. record { ax = ax i; ay = ay i; bx = x i; by = y i }
