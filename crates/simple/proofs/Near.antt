-- Edges that share a point overlap in both axes, so edges that do not overlap need not be asked.
--   shares_overlap              edges that share a point overlap in each axis
--   apart                       edges whose ranges lie apart in an axis share no point
--   x_within, y_within          a ring lies between the lines of its box
--   near_candidates             words that have every edge that overlaps edge i in x, and in y, have every edge that it meets
use mathlib.Core.Path.{◌≡◌, sym, ◌∙◌, ap}
use mathlib.Core.Logic.{⊎_elim}
use mathlib.Core.Bool.{Bool, true, false, ◌&&◌}
use mathlib.Core.List.{List}
use Prim.Native.Nat.{ℕ, zero, suc, ◌+◌, ◌-◌, ◌/◌, ◌^◌, ◌≤◌, ◌<◌, min, max}
use native.Mathlib.Omega.{arith}
use borrow.Author.Tests.{leb-true, ltb-true}
use lib.Dec.{leb, ltb}
use lib.Bits.{bit_and}
use lib.ListN.{get_or}
use lib.IntN.{ℤ}
use Rattle.plane.specs.declared.Edge.{Edge}
use Rattle.plane.specs.declared.Box.{Box}
use Rattle.plane.specs.Place.{place_of}
use Rattle.plane.specs.TileSet.{bit}
use Rattle.plane.proofs.Folds.{least_le, greatest_ge}
use Rattle.plane.proofs.Logic.{and_means, or_means, is_false}
use Rattle.meet.specs.MeetTest.{overlap, ends_apart, shares}
use Rattle.ring.specs.Edges.{corner, after, ring_edge}
use Rattle.ring.specs.RingBox.{stretch_box}
use Rattle.bands.specs.Axis.{place_in}
use Rattle.bands.specs.Bands.{Within, Finds}
use Rattle.bands.proofs.Bits.{and_both, bit_shift}
use Rattle.simple.specs.Parts.{Candidates}
use Rattle.simple.specs.Layout.{LaidOut, ranges_apart}
use Rattle.simple.proofs.Parts.{pair_means}

shares_near : (g h : Edge) → shares g h ≡ true → (overlap g.ax g.bx h.ax h.bx ≡ true) × (overlap g.ay g.by h.ay h.by ≡ true)
unfolding shares
shares_near g h t =
    let x = overlap g.ax g.bx h.ax h.bx in
    let y = overlap g.ay g.by h.ay h.by in
    let p = (and_means (ends_apart g h) (ends_apart h g && (x && y))).0 t in
    let q = (and_means (ends_apart h g) (x && y)).0 p.1 in
    (and_means x y).0 q.1

module _ (xs : List ℤ) (from n : ℕ) where
  -- edges i and j in one axis
  abbrev overlap_in : (axis i j : ℕ) → Bool
  overlap_in axis i j = overlap (place_in axis (corner xs from i)) (place_in axis (after xs from n i)) (place_in axis (corner xs from j)) (place_in axis (after xs from n j))

  shares_overlap : (axis i j : ℕ) → axis ≤ 1 → shares (ring_edge xs from n i) (ring_edge xs from n j) ≡ true → overlap_in axis i j ≡ true
  unfolding ring_edge
  shares_overlap zero i j h t = (shares_near (ring_edge xs from n i) (ring_edge xs from n j) t).0
  shares_overlap (suc zero) i j h t = (shares_near (ring_edge xs from n i) (ring_edge xs from n j) t).1
  shares_overlap (suc (suc k)) i j h t = absurd (omega arith)

  module _ (axis : ℕ) (lows highs : List ℕ) (few : axis ≤ 1) (l : LaidOut xs from n axis lows highs) (i j : ℕ) (hi : i < n) (hj : j < n) where
    reach : overlap_in axis i j ≡ true → (get_or lows i 0 ≤ get_or highs j 0) × (get_or lows j 0 ≤ get_or highs i 0)
    unfolding overlap
    reach t =
        let a = place_in axis (corner xs from i) in
        let b = place_in axis (after xs from n i) in
        let c = place_in axis (corner xs from j) in
        let d = place_in axis (after xs from n j) in
        let p = (and_means (leb (min a b) (max c d)) (leb (min c d) (max a b))).0 t in
        rw (l.low i hi, l.high i hi, l.low j hj, l.high j hj) (leb-true _ _ p.0, leb-true _ _ p.1)

    pub apart : ranges_apart lows highs i j ≡ true → false ≡ shares (ring_edge xs from n i) (ring_edge xs from n j)
    unfolding ranges_apart
    apart h =
        sym (is_false _ (λ t. let r = reach (shares_overlap axis i j few t) in
        ⊎_elim (λ p. out (ltb-true _ _ p) r.1) (λ p. out (ltb-true _ _ p) r.0) ((or_means (ltb (get_or highs i 0) (get_or lows j 0)) (ltb (get_or highs j 0) (get_or lows i 0))).0 h)))
      where
        out : {a b : ℕ} → a < b → b ≤ a → ⊥
        out p q = omega arith

  pub near_candidates : (i x y : ℕ) → Finds xs from n 0 i x → Finds xs from n 1 i y → Candidates xs from n i (i + 2) (bit_and x y / 2 ^ (i + 2))
  near_candidates i x y fx fy =
      record {
        has = λ k h t.
            let p = pair_means xs from n i k t in
            let e : i + 2 + (k - (i + 2)) ≡ k = omega (arith, p.0) in (
              omega (arith, p.0),
              bit_shift (bit_and x y) (i + 2) (k - (i + 2))
                  ∙ ap (λ (z : ℕ). bit (bit_and x y) z) e
                  ∙ and_both x y k (fx.has k h (shares_overlap 0 i k (omega arith) p.2)) (fy.has k h (shares_overlap 1 i k (omega arith) p.2)),
            );
      }

module _ (xs : List ℤ) (from n : ℕ) (some : 0 < n) (b : Box) (e : b ≡ stretch_box xs from n) where
  pub x_within : Within xs from n 0 b.west b.east
  unfolding stretch_box
  x_within =
      rw e (record {
        least = λ k h. least_le (λ i. place_of (corner xs from i).x) (n - 1) k (omega arith);
        most = λ k h. greatest_ge (λ i. place_of (corner xs from i).x) (n - 1) k (omega arith);
      })

  pub y_within : Within xs from n 1 b.south b.north
  unfolding stretch_box
  y_within =
      rw e (record {
        least = λ k h. least_le (λ i. place_of (corner xs from i).y) (n - 1) k (omega arith);
        most = λ k h. greatest_ge (λ i. place_of (corner xs from i).y) (n - 1) k (omega arith);
      })
