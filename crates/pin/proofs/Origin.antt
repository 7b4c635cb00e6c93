-- Pins over coordinates, in the numbers of Parity: one or two pins with their denominators, a ring, and the lines of a box, all times one number m
-- and counted from one corner that lies far enough west and south. What only carries the proofs of Laws.
--   X, Y            the coordinates of the vertices of a list, m times, from the corner o further off than the range
--   View P Q        such a corner for two pins, and their distances from it;  view  there is one
--   counted_odd     a ring encloses a pin exactly where an odd number of its edges pass a test that says whether they cross
--   enclosed_odd    a ring encloses a pin exactly where the pin is odd, all numbers f times more
--   XX, YY          the ring's vertices from the corner of two pins, times both denominators;  odd_first, odd_second  each of the two pins is
--                   enclosed exactly where it is odd in these numbers
--   in_range_lem    a pin in a range of an axis, by these numbers;  in_column  the same f times more
--   short_pin, not_past_pin, not_short_pin    in one axis, a point of an edge is short of the pin, not past it, not short of it
use mathlib.Core.Path.{◌≡◌, refl, ◌∙◌, ap}
use mathlib.Core.Logic.{◌↔◌, inl, inr, ⊎_elim}
use mathlib.Core.Bool.{Bool, true}
use mathlib.Core.List.{List}
use Prim.Native.Nat.{ℕ, zero, suc, ◌+◌, ◌-◌, ◌*◌, ◌%◌, ◌≤◌, ◌<◌}
use native.Mathlib.Omega.{arith}
use native.Mathlib.Nat.{mul_comm, mul-le-mul_left, mul-lt-mul_of_pos_left, lt_of_mul-lt-mul_left, le_of_mul-le-mul_left, eq_of_mul-eq-mul_left}
use lib.IntN.{ℤ, pos, negsuc, ◌*ℤ◌}
use lib.Signed.{mag, ◌<ℤ◌, ◌≤ℤ◌}
use Rattle.plane.specs.Place.{place_of, in_range}
use Rattle.plane.specs.Points.{vertex, along}
use Rattle.plane.specs.Ray.{Pin, CrossesRay}
use Rattle.plane.specs.Tiles.{Inside}
use Rattle.plane.specs.Folds.{sum_to}
use Rattle.plane.specs.TileSet.{one_if}
use Rattle.plane.proofs.Logic.{iff_join, iff_turn, iff_and}
use Rattle.plane.proofs.Difference.{Diff}
use Rattle.plane.proofs.Counting.{many_counted, many_only}
use Rattle.edge.proofs.Weights.{InCol}
use Rattle.ring.specs.Edges.{corner, after, RingInRange}
use Rattle.ring.specs.Enclosed.{Enclosed}
use Rattle.ring.proofs.Edges.{after_in_range}
use Rattle.ring.proofs.Ray.{East}
use Rattle.ring.proofs.Enclosed.{shift_lt, shift_le, end_place, point, point_place, pin_place, end_high, From, crosses_from}
use Rattle.pin.proofs.Parity.{Odd, cross_at, east_of_lem}

module _ (xs : List ℤ) (o m : ℕ) where
  abbrev pub X : ℕ → ℕ
  X v = m * (place_of (vertex xs v).x + o)

  abbrev pub Y : ℕ → ℕ
  Y v = m * (place_of (vertex xs v).y + o)

-- ---- a corner that is far enough
distance : (z : ℤ) (n s : ℕ) → 0 < n → mag z < s → (p : ℕ) × Diff z p (n * s)
distance (pos a) n s hn h = (a + n * s, refl)
distance (negsuc a) n s hn h = let far : a < s = h in (n * s - suc a, omega (arith, far, mul-le-mul_left s hn))

pub record View (P Q : Pin) : Type 0 where
  pub o : ℕ
  pub px : ℕ
  pub py : ℕ
  pub qx : ℕ
  pub qy : ℕ
  pub first : From o P px py
  pub second : From o Q qx qy

pub view : (P Q : Pin) → View P Q
view P Q =
    let o = mag P.x + mag P.y + mag Q.x + mag Q.y in
    let px = distance P.x P.n (1000000 + o) P.some (omega arith) in
    let py = distance P.y P.n (1000000 + o) P.some (omega arith) in
    let qx = distance Q.x Q.n (1000000 + o) Q.some (omega arith) in
    let qy = distance Q.y Q.n (1000000 + o) Q.some (omega arith) in
    record {
      o = o;
      px = px.0;
      py = py.0;
      qx = qx.0;
      qy = qy.0;
      first = record { x = px.1; y = py.1 };
      second = record { x = qx.1; y = qy.1 };
    }

-- ---- one axis: a pin with the denominator d, p from the corner, beside what ring's Enclosed has
module _ (o d : ℕ) (z : ℤ) (p : ℕ) (place : Diff z p (d * (1000000 + o))) where
  -- the point of the edge from a to b with the weights j and k
  module _ (a : ℤ) (ha : in_range a ≡ true) (b : ℤ) (hb : in_range b ≡ true) (j k : ℕ) where
    abbrev on_edge : ℤ
    on_edge = pos d *ℤ along (j + k) k a b

    abbrev there : ℕ
    there = point o d a ha b hb j k

    abbrev shift : ℕ
    shift = (j + k) * (d * (1000000 + o))

    pub short_pin : (on_edge <ℤ (pos (j + k) *ℤ z)) ↔ (there < (j + k) * p)
    short_pin = shift_lt on_edge (pos (j + k) *ℤ z) there ((j + k) * p) shift (point_place o d a ha b hb j k) (pin_place o d z p place (j + k))

    pub not_past_pin : (on_edge ≤ℤ (pos (j + k) *ℤ z)) ↔ (there ≤ (j + k) * p)
    not_past_pin = shift_le on_edge (pos (j + k) *ℤ z) there ((j + k) * p) shift (point_place o d a ha b hb j k) (pin_place o d z p place (j + k))

    pub not_short_pin : ((pos (j + k) *ℤ z) ≤ℤ on_edge) ↔ ((j + k) * p ≤ there)
    not_short_pin = shift_le (pos (j + k) *ℤ z) on_edge ((j + k) * p) there shift (pin_place o d z p place (j + k)) (point_place o d a ha b hb j k)

  -- the pin against the lines of a box
  past_line : (l : ℤ) → in_range l ≡ true → ((pos d *ℤ l) <ℤ z) ↔ (d * (place_of l + o) < p)
  past_line l hl = shift_lt (pos d *ℤ l) z (d * (place_of l + o)) p (d * (1000000 + o)) (end_place o d l hl) place

  pub in_range_lem : (lo hi : ℤ) → in_range lo ≡ true → in_range hi ≡ true → (c : ℕ) → Inside c lo hi d z ↔ InCol c (place_of lo + o) (place_of hi + o) d p
  in_range_lem lo hi hl hh zero = end_high o d z p place lo hl
  in_range_lem lo hi hl hh (suc zero) = iff_and (past_line lo hl) (end_high o d z p place hi hh)
  in_range_lem lo hi hl hh (suc (suc c)) = past_line hi hh

  -- all numbers f times more
  widen : (f lo hi c : ℕ) → 0 < f → InCol c lo hi d p → InCol c (f * d * lo) (f * d * hi) 1 (f * p)
  widen f lo hi zero hf h = omega (arith, mul-lt-mul_of_pos_left h hf)
  widen f lo hi (suc zero) hf h = (omega (arith, mul-lt-mul_of_pos_left h.0 hf), omega (arith, mul-lt-mul_of_pos_left h.1 hf))
  widen f lo hi (suc (suc c)) hf h = omega (arith, mul-lt-mul_of_pos_left h hf)

  pub in_column : (f : ℕ) → 0 < f → (lo hi : ℤ) → in_range lo ≡ true → in_range hi ≡ true → (c : ℕ) → Inside c lo hi d z
      → InCol c (f * d * (place_of lo + o)) (f * d * (place_of hi + o)) 1 (f * p)
  in_column f hf lo hi hl hh c h = widen f (place_of lo + o) (place_of hi + o) c hf ((in_range_lem lo hi hl hh c).0 h)

-- ---- a ray, all numbers f times more
module _ (f d ax ay bx by px py : ℕ) (hf : 0 < f) where
  scale : East (d * ax) (d * ay) (d * bx) (d * by) px py ↔ East (f * d * ax) (f * d * ay) (f * d * bx) (f * d * by) (f * px) (f * py)
  scale = (
    λ e. record {
      j = e.j;
      k = e.k;
      some = e.some;
      level = omega (arith, ap (λ z. f * z) e.level);
      past = omega (arith, mul-lt-mul_of_pos_left e.past hf);
      heights = ⊎_elim (λ h. inl (low ay h.0, high by h.1)) (λ h. inr (low by h.0, high ay h.1)) e.heights;
    },
    λ e. record {
      j = e.j;
      k = e.k;
      some = e.some;
      level = eq_of_mul-eq-mul_left f hf (e.j * (d * ay) + e.k * (d * by)) ((e.j + e.k) * py) (omega (arith, e.level));
      past = lt_of_mul-lt-mul_left f (omega (arith, e.past));
      heights = ⊎_elim (λ h. inl (low' ay h.0, high' by h.1)) (λ h. inr (low' by h.0, high' ay h.1)) e.heights;
    },
  )
    where
      low : (y : ℕ) → d * y ≤ py → f * d * y ≤ f * py
      low y h = omega (arith, mul-le-mul_left f h)

      high : (y : ℕ) → py < d * y → f * py < f * d * y
      high y h = omega (arith, mul-lt-mul_of_pos_left h hf)

      low' : (y : ℕ) → f * d * y ≤ f * py → d * y ≤ py
      low' y h = le_of_mul-le-mul_left {m = d * y} {n = py} {k = f} (omega arith) hf

      high' : (y : ℕ) → f * py < f * d * y → py < d * y
      high' y h = lt_of_mul-lt-mul_left f (omega arith)

-- ---- a ring
module _ (xs : List ℤ) (from n : ℕ) where
  pub counted_odd : (P : Pin) (test : ℕ → Bool) → ((k : ℕ) → k < n → (test k ≡ true) ↔ CrossesRay P (corner xs from k) (after xs from n k))
      → Enclosed P xs from n ↔ (sum_to (λ k. one_if (test k)) n % 2 ≡ 1)
  counted_odd P test each =
      let many = many_counted (λ k. CrossesRay P (corner xs from k) (after xs from n k)) test n each in (
        λ e. ap (λ m. m % 2) (many_only (λ k. CrossesRay P (corner xs from k) (after xs from n k)) many e.counted) ∙ e.odd,
        λ h. record { crossing = sum_to (λ k. one_if (test k)) n; counted = many; odd = h },
      )

  pub enclosed_odd : RingInRange xs from n → (o f : ℕ) → 0 < f → (P : Pin) (px py : ℕ) → From o P px py
      → Enclosed P xs from n ↔ Odd (X xs o (f * P.n)) (Y xs o (f * P.n)) from n (f * px) (f * py)
  enclosed_odd r o f hf P px py at =
      counted_odd P (cross_at (X xs o (f * P.n)) (Y xs o (f * P.n)) from n (f * px) (f * py)) (λ k h.
      let A = corner xs from k in
      let B = after xs from n k in
      iff_join (east_of_lem (X xs o (f * P.n)) (Y xs o (f * P.n)) from n (f * px) (f * py) k)
      (iff_join
      (iff_turn (scale f P.n (place_of A.x + o) (place_of A.y + o) (place_of B.x + o) (place_of B.y + o) px py hf))
      (crosses_from o P px py at A B (r.at k h) (after_in_range xs from n k r h))))

  -- two pins: the ring's vertices from the corner of both, times both denominators
  module _ (r : RingInRange xs from n) (P Q : Pin) (v : View P Q) where
    abbrev pub XX : ℕ → ℕ
    XX = X xs v.o (Q.n * P.n)

    abbrev pub YY : ℕ → ℕ
    YY = Y xs v.o (Q.n * P.n)

    pub odd_first : Enclosed P xs from n ↔ Odd XX YY from n (Q.n * v.px) (Q.n * v.py)
    odd_first = enclosed_odd r v.o Q.n Q.some P v.px v.py v.first

    pub odd_second : Enclosed Q xs from n ↔ Odd XX YY from n (P.n * v.qx) (P.n * v.qy)
    odd_second = rw (mul_comm P.n Q.n) at (enclosed_odd r v.o P.n P.some Q v.qx v.qy v.second)
