-- One pass over the edges of a ring: what each edge adds to what is known.
--   goes_on                edge k starts where the edge before it ends
--   shown_in_line, shown_apart    what the edges up to k have shown, where edge k is in line with the edge before it and where not
--   turn_more, turns_fit   the sum with what edge k adds to it, and that it stays small
--   all_scanned            after all edges. The sum is not negative exactly where the ring is not clockwise: round the ring the products
--                          of a vertex's own two places cancel, and what is left is the document's sum
use mathlib.Core.Path.{◌≡◌, refl, sym, ◌∙◌, ap}
use mathlib.Core.Bool.{Bool, true, false, not, ◌&&◌, ◌||◌}
use mathlib.Core.List.{List}
use Prim.Native.Nat.{ℕ, zero, suc, ◌+◌, ◌*◌, ◌≤◌, ◌<◌}
use native.Mathlib.Omega.{arith}
use native.Mathlib.Nat.{mul-le-mul}
use borrow.Author.Tests.{eq-eqb}
use lib.Dec.{ltb, leb, eqb}
use lib.IntN.{ℤ, pos, ◌+ℤ◌}
use lib.Signed.{le_z}
use Rattle.plane.specs.declared.Edge.{Edge}
use Rattle.plane.specs.Place.{place_of}
use Rattle.plane.specs.Points.{vertex}
use Rattle.plane.specs.Placed.{EdgeInPlaces}
use Rattle.plane.specs.Folds.{any_to, sum_to}
use Rattle.plane.proofs.Folds.{any_step, sum_step, sum_le}
use Rattle.plane.proofs.Logic.{and_means, eq_means, clash, is_false, both_ltb}
use Rattle.plane.proofs.Difference.{Diff, diff_pos, diff_add, diff_le, diff_move}
use Rattle.meet.specs.MeetTest.{leftward, rightward, folds}
use Rattle.ring.specs.Edges.{next_of, ring_edge, RingInRange}
use Rattle.ring.specs.Repeated.{equal_ends, repeated}
use Rattle.ring.specs.Turning.{forward, backward, clockwise}
use Rattle.ring.proofs.Edges.{cycle, ring_edge_in_places}
use Rattle.simple.specs.declared.Scan.{Scan}
use Rattle.simple.specs.Parts.{edge_before, folded, scan_of}
use Rattle.meet.specs.Signs.{product_of, in_line, turns_back}
use Rattle.meet.proofs.Signs.{diff_product, not_less, or_false}
use Rattle.simple.proofs.Round.{end_start}

-- ---- tests joined edge by edge
module _ (f : ℕ → Bool) (k : ℕ) where
  seen_in : (old t : Bool) → old ≡ any_to f k → t ≡ f k → old || t ≡ any_to f (k + 1)
  seen_in old t e q = rw (e, q) (any_step f k)

  seen_out : (old : Bool) → old ≡ any_to f k → f k ≡ false → old ≡ any_to f (k + 1)
  seen_out old e q = e ∙ sym (or_false (any_to f k)) ∙ ap (λ (t : Bool). any_to f k || t) (sym q) ∙ any_step f k

-- ---- two edges, the second going on where the first ends
module _ (g h : Edge) where
  in_line_folds : in_line g h ≡ true → turns_back g h ≡ folds g h
  unfolding in_line turns_back folds
  in_line_folds e = rw e

  not_in_line : in_line g h ≡ false → folds g h ≡ false
  unfolding in_line folds
  not_in_line e = rw e

  not_in_line_apart : h.ax ≡ g.bx → h.ay ≡ g.by → in_line g h ≡ false → equal_ends h ≡ false
  unfolding in_line equal_ends
  not_in_line_apart x y e =
      is_false (eqb h.ax h.bx && eqb h.ay h.by)
      (λ t. let p = (and_means (eqb h.ax h.bx) (eqb h.ay h.by)).0 t in
      clash (eqb (leftward g.ax g.ay g.bx g.by h.bx h.by) (rightward g.ax g.ay g.bx g.by h.bx h.by))
      (eq-eqb _ _ (level (sym ((eq_means h.ax h.bx).0 p.0) ∙ x) (sym ((eq_means h.ay h.by).0 p.1) ∙ y))) e)
    where
      level : h.bx ≡ g.bx → h.by ≡ g.by → leftward g.ax g.ay g.bx g.by h.bx h.by ≡ rightward g.ax g.ay g.bx g.by h.bx h.by
      level p q = rw (p, q) (omega arith)

-- ---- the sum
abbrev pub plus_of : Edge → ℕ
plus_of h = (h.ax + h.bx) * h.by

abbrev pub minus_of : Edge → ℕ
minus_of h = (h.ax + h.bx) * h.ay

turn_diff : (h : Edge) → Diff (product_of (h.ax + h.bx) 0 h.by h.ay) (plus_of h) (minus_of h)
turn_diff h =
    diff_move (product_of (h.ax + h.bx) 0 h.by h.ay) ((h.ax + h.bx) * h.by + 0 * h.ay) ((h.ax + h.bx) * h.ay + 0 * h.by) (plus_of h) (minus_of h)
    (diff_product (h.ax + h.bx) 0 h.by h.ay) (omega arith)

turn_small : (h : Edge) → EdgeInPlaces h → (plus_of h ≤ 8000000000000) × (minus_of h ≤ 8000000000000)
turn_small h p = (mul-le-mul (wide h p) p.by, mul-le-mul (wide h p) p.ay)
  where
    wide : (h : Edge) → EdgeInPlaces h → h.ax + h.bx ≤ 4000000
    wide h p = omega (arith, p.ax, p.bx)

module _ (xs : List ℤ) (from n : ℕ) where
  abbrev pub plus_to : ℕ → ℕ
  plus_to k = sum_to (λ i. plus_of (ring_edge xs from n i)) k

  abbrev pub minus_to : ℕ → ℕ
  minus_to k = sum_to (λ i. minus_of (ring_edge xs from n i)) k

  pub turns_fit : (k : ℕ) → RingInRange xs from n → k ≤ n → n ≤ 2048 → (plus_to k < 9223372036854775808) × (minus_to k < 9223372036854775808)
  turns_fit k r h few =
      let p = sum_le (λ i. plus_of (ring_edge xs from n i)) k 8000000000000 (λ i l. (turn_small (ring_edge xs from n i) (ring_edge_in_places xs from n i r (omega arith))).0) in
      let q = sum_le (λ i. minus_of (ring_edge xs from n i)) k 8000000000000 (λ i l. (turn_small (ring_edge xs from n i) (ring_edge_in_places xs from n i r (omega arith))).1) in
      (omega arith, omega arith)

  -- the product of a vertex's own two places
  own : ℕ → ℕ
  own i = place_of (vertex xs i).x * place_of (vertex xs i).y

  shifted : (k : ℕ)
      → plus_to k + sum_to (backward xs from n) k + sum_to (λ i. own (from + i)) k
      ≡ minus_to k + sum_to (forward xs from n) k + sum_to (λ i. own (next_of from n i)) k
  unfolding sum_to own ring_edge
  shifted zero = refl
  shifted (suc k) = omega (arith, shifted k)

  clockwise_by_turns : ltb (plus_to n) (minus_to n) ≡ clockwise xs from n
  unfolding clockwise
  clockwise_by_turns =
      let p = shifted n in
      let q = cycle own from n in
      both_ltb (plus_to n) (minus_to n) (sum_to (forward xs from n) n) (sum_to (backward xs from n) n) (λ h. omega arith) (λ h. omega arith)

  turning : (z : ℤ) → Diff z (plus_to n) (minus_to n) → le_z (pos 0) z ≡ not (clockwise xs from n)
  turning z d =
      diff_le (pos 0) z 0 0 (plus_to n) (minus_to n) (diff_pos 0) d
      ∙ ap (λ (a : ℕ). leb a (plus_to n + 0)) (omega arith) ∙ ap (λ (b : ℕ). leb (minus_to n) b) (omega arith)
      ∙ sym (not_less (plus_to n) (minus_to n)) ∙ ap not clockwise_by_turns

-- ---- one turn of the pass: edge k is h, and g the edge before it
abbrev pub equal_at : List ℤ → (from n k : ℕ) → Bool
equal_at xs from n k = equal_ends (ring_edge xs from n k)

abbrev pub fold_at : List ℤ → (from n k : ℕ) → Bool
fold_at xs from n k = folds (ring_edge xs from n (edge_before n k)) (ring_edge xs from n k)

module _ (xs : List ℤ) (from n k : ℕ) (g h : Edge) (low : k < n) (eg : g ≡ ring_edge xs from n (edge_before n k)) (eh : h ≡ ring_edge xs from n k) where
  pub goes_on : (h.ax ≡ g.bx) × (h.ay ≡ g.by)
  goes_on = rw (eg, eh) (end_start xs from n k low)

  equal_is : equal_ends h ≡ equal_at xs from n k
  equal_is = ap equal_ends eh

  fold_is : folds g h ≡ fold_at xs from n k
  fold_is = rw (eg, eh)

  module _ (repeated folded : Bool) (er : repeated ≡ any_to (equal_at xs from n) k) (ef : folded ≡ any_to (fold_at xs from n) k) where
    abbrev pub Shown : (repeated folded : Bool) → Type 0
    Shown r f = (r ≡ any_to (equal_at xs from n) (k + 1)) × (f ≡ any_to (fold_at xs from n) (k + 1))

    pub shown_in_line : (r f : Bool) → in_line g h ≡ true → r ≡ equal_ends h → f ≡ turns_back g h → Shown (repeated || r) (folded || f)
    shown_in_line r f t p q = (
      seen_in (equal_at xs from n) k repeated r er (p ∙ equal_is),
      seen_in (fold_at xs from n) k folded f ef (q ∙ in_line_folds g h t ∙ fold_is),
    )

    pub shown_apart : in_line g h ≡ false → Shown repeated folded
    shown_apart t = (
      seen_out (equal_at xs from n) k repeated er (sym equal_is ∙ not_in_line_apart g h goes_on.0 goes_on.1 t),
      seen_out (fold_at xs from n) k folded ef (sym fold_is ∙ not_in_line g h t),
    )

  pub turn_more : (z t : ℤ) → Diff z (plus_to xs from n k) (minus_to xs from n k) → t ≡ product_of (h.ax + h.bx) 0 h.by h.ay
      → Diff (z +ℤ t) (plus_to xs from n (k + 1)) (minus_to xs from n (k + 1))
  turn_more z t d e =
      let u = ap plus_of eh in
      let v = ap minus_of eh in
      let p = sum_step (λ i. plus_of (ring_edge xs from n i)) k in
      let q = sum_step (λ i. minus_of (ring_edge xs from n i)) k in
      diff_move (z +ℤ t) (plus_to xs from n k + plus_of h) (minus_to xs from n k + minus_of h) (plus_to xs from n (k + 1)) (minus_to xs from n (k + 1))
      (diff_add z t (plus_to xs from n k) (minus_to xs from n k) (plus_of h) (minus_of h) d (rw e (turn_diff h))) (omega arith)

pub all_scanned : (xs : List ℤ) (from n : ℕ) (r f : Bool) (z : ℤ) → r ≡ any_to (equal_at xs from n) n → f ≡ any_to (fold_at xs from n) n → Diff z (plus_to xs from n n) (minus_to xs from n n)
    → ◌≡◌ {A = Scan} (record { repeated = r; folded = f; turned = le_z (pos 0) z }) (scan_of xs from n)
unfolding scan_of repeated folded
all_scanned xs from n r f z p q d = let t = turning xs from n z d in λ i. record { repeated = p i; folded = q i; turned = t i }
