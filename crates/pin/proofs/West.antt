-- The ray to the west. A pin on no edge is enclosed by the one ray exactly where it is by the other, because the edges that cross its level are even in
-- number; and a pin strictly inside a tile that no edge has lies on no edge. So the theorem on enclosed pins holds by the west rule too.
--   WestOf             edge i crosses the ray strictly west of a point, in the numbers of Parity
--   west_same          a pin on no edge is enclosed by the ray west exactly where it is enclosed
--   west_enclosed      in a tile that no edge has, a pin enclosed by the ray west is enclosed
--   west_accounted     a pin enclosed by the ray west, strictly inside a tile: the ring has the tile
--   west_beyond        a pin enclosed by the ray west lies strictly east of the ring's west line. A pin on that line may be enclosed: proofs/Sharp
use mathlib.Core.Path.{◌≡◌, refl, sym, ◌∙◌, ap, subst}
use mathlib.Core.Logic.{◌↔◌, ◌⊎◌, inl, ◌≢◌, ⊎_elim}
use mathlib.Core.Bool.{Bool, true, false}
use mathlib.Core.List.{List}
use Prim.Native.Nat.{ℕ, ◌+◌, ◌-◌, ◌*◌, ◌%◌, ◌≤◌, ◌<◌}
use native.Mathlib.Omega.{arith}
use native.Mathlib.Nat.{mul-le-mul_left, mul-lt-mul_of_pos_left, lt_of_mul-lt-mul_left, le_of_mul-le-mul_left, eq_of_mul-eq-mul_left}
use native.Mathlib.Decide.{dec_lt}
use lib.Dec.{ltb}
use lib.IntN.{ℤ, pos, ◌*ℤ◌}
use lib.Signed.{◌<ℤ◌, ◌≤ℤ◌}
use Rattle.plane.specs.Place.{place_of}
use Rattle.plane.specs.Points.{Point, Lines, along}
use Rattle.plane.specs.Ray.{Pin}
use Rattle.plane.specs.Placed.{PointInRange, LinesInRange, box_of, Upright}
use Rattle.plane.specs.Tiles.{column_of, row_of}
use Rattle.plane.specs.Folds.{sum_to}
use Rattle.plane.specs.TileSet.{one_if}
use Rattle.plane.proofs.Logic.{clash, is_false, iff_join, iff_and, iff_or}
use Rattle.plane.proofs.Place.{place_at_most}
use Rattle.plane.proofs.Counting.{many_counted, many_only}
use Rattle.ring.specs.Edges.{next_of, corner, after, RingInRange}
use Rattle.ring.specs.Enclosed.{Enclosed}
use Rattle.ring.specs.RingBox.{BoxIs}
use Rattle.ring.specs.RingTiles.{RingHas, ring_has}
use Rattle.ring.proofs.Edges.{after_in_range}
use Rattle.ring.proofs.Ray.{East}
use Rattle.ring.proofs.RingBox.{box_in_range}
use Rattle.ring.proofs.RingTiles.{ring_means}
use Rattle.ring.proofs.Enclosed.{shift_lt, end_place, end_low, end_high, at_pin, From}
use Rattle.pin.specs.Pins.{InTile, EdgeIn}
use Rattle.pin.specs.Segments.{Meets}
use Rattle.pin.specs.West.{CrossesWest, EnclosedWest}
use Rattle.pin.proofs.Closed.{round, odd_there}
use Rattle.pin.proofs.Turned.{westward, west_there, west_means, opposite}
use Rattle.pin.proofs.Parity.{cross_at, Odd, Unmet, straddles_means, east_of_lem, one_point, reach_short}
use Rattle.pin.proofs.Untouched.{off}
use Rattle.pin.proofs.Origin.{X, Y, View, view, XX, YY, odd_first, short_pin}
use Rattle.pin.proofs.Laws.{met_level}
use Rattle.pin.proofs.TileLaws.{touch_in, first_at}
use Rattle.pin.proofs.Pins.{ring_accounted}

-- ---- in the numbers of Parity, a point on no edge
pub record WestOf (X Y : ℕ → ℕ) (from n px py i : ℕ) : Type 0 where
  pub j : ℕ
  pub k : ℕ
  pub some : 0 < j + k
  pub level : j * Y (from + i) + k * Y (next_of from n i) ≡ (j + k) * py
  pub before : j * X (from + i) + k * X (next_of from n i) < (j + k) * px
  pub heights : ((Y (from + i) ≤ py) × (py < Y (next_of from n i))) ⊎ ((Y (next_of from n i) ≤ py) × (py < Y (from + i)))

module _ (X Y : ℕ → ℕ) (from n px py : ℕ) where
  abbrev west_at : ℕ → Bool
  west_at i = westward (X (from + i)) (Y (from + i)) (X (next_of from n i)) (Y (next_of from n i)) px py

  not_both : (i : ℕ) → WestOf X Y from n px py i → East (X (from + i)) (Y (from + i)) (X (next_of from n i)) (Y (next_of from n i)) px py → ⊥
  not_both i w e =
      let slanted : Y (from + i) ≢ Y (next_of from n i) = ⊎_elim (λ h. omega (arith, h.0, h.1)) (λ h. omega (arith, h.0, h.1)) w.heights in
      let u = one_point (X (from + i)) (Y (from + i)) (X (next_of from n i)) (Y (next_of from n i)) py w.j w.k e.j e.k slanted w.level e.level in
      omega (arith, u, mul-lt-mul_of_pos_left w.before e.some, mul-lt-mul_of_pos_left e.past w.some)

  west_of_lem : Unmet X Y from n px px py → (i : ℕ) → i < n → (west_at i ≡ true) ↔ WestOf X Y from n px py i
  west_of_lem none i h =
      let m = west_means (X (from + i)) (Y (from + i)) (X (next_of from n i)) (Y (next_of from n i)) px py in (
        λ e.
            let w = west_there (X (from + i)) (Y (from + i)) (X (next_of from n i)) (Y (next_of from n i)) px py e in
            record {
              j = w.j;
              k = w.k;
              some = w.some;
              level = w.level;
              before =
                  elim (dec_lt (w.j * X (from + i) + w.k * X (next_of from n i)) ((w.j + w.k) * px)) [
                    | yes q ↦ q
                    | no q ↦ absurd (none i h (record { apart = λ s. w.ne s.1; j = w.j; k = w.k; some = w.some; level = w.level; past = omega arith; short = w.before }))
                  ];
              heights = (straddles_means Y from n py i).0 (m.0 e).0;
            },
        λ w. m.1 ((straddles_means Y from n py i).1 w.heights, is_false (cross_at X Y from n px py i) (λ c. not_both i w ((east_of_lem X Y from n px py i).0 c))),
      )

  west_odd : Odd X Y from n px py ↔ (sum_to (λ i. one_if (west_at i)) n % 2 ≡ 1)
  west_odd =
      let e = round (λ v. one_if (ltb py (Y v))) from n (λ i. one_if (cross_at X Y from n px py i)) (λ i. one_if (west_at i))
      (λ i h. opposite (X (from + i)) (Y (from + i)) (X (next_of from n i)) (Y (next_of from n i)) px py) in
      (λ o. sym e ∙ o, λ o. e ∙ o)

-- ---- a pin, all numbers f times more
module _ (xs : List ℤ) (from n : ℕ) (r : RingInRange xs from n) (o f : ℕ) (hf : 0 < f) (P : Pin) (px py : ℕ) (at : From o P px py) where
  low : (C : Point) → PointInRange C → ((pos P.n *ℤ C.y) ≤ℤ P.y) ↔ (f * P.n * (place_of C.y + o) ≤ f * py)
  low C c =
      iff_join (end_low o P.n P.y py at.y C.y c.y) (
        λ h. omega (arith, mul-le-mul_left f h),
        λ h. le_of_mul-le-mul_left {m = P.n * (place_of C.y + o)} {n = py} {k = f} (omega (arith, h)) hf,
      )

  high : (C : Point) → PointInRange C → (P.y <ℤ (pos P.n *ℤ C.y)) ↔ (f * py < f * P.n * (place_of C.y + o))
  high C c =
      iff_join (end_high o P.n P.y py at.y C.y c.y) (
        λ h. omega (arith, mul-lt-mul_of_pos_left h hf),
        λ h. lt_of_mul-lt-mul_left f (omega (arith, h)),
      )

  west_from : (i : ℕ) → i < n → WestOf (X xs o (f * P.n)) (Y xs o (f * P.n)) from n (f * px) (f * py) i ↔ CrossesWest P (corner xs from i) (after xs from n i)
  west_from i h =
      let A = corner xs from i in
      let B = after xs from n i in
      let a = r.at i h in
      let b = after_in_range xs from n i r h in
      let level = at_pin o P.n P.y py at.y A.y a.y B.y b.y in
      let west = short_pin o P.n P.x px at.x A.x a.x B.x b.x in
      let heights = iff_or (iff_and (low A a) (high B b)) (iff_and (low B b) (high A a)) in (
        λ w. record {
          k = w.k;
          m = w.j + w.k;
          some = w.some;
          closed = omega arith;
          at_height = (level w.j w.k).1 (eq_of_mul-eq-mul_left f hf _ _ (omega (arith, w.level)));
          strictly_west = (west w.j w.k).1 (lt_of_mul-lt-mul_left f (omega (arith, w.before)));
          lower_not_upper = heights.1 w.heights;
        },
        λ c.
            let j : ℕ = c.m - c.k in
            let q : c.m ≡ j + c.k = omega (arith, c.closed) in
            let l = (level j c.k).0 (subst (λ m. pos P.n *ℤ along m c.k A.y B.y ≡ pos m *ℤ P.y) q c.at_height) in
            let w = (west j c.k).0 (subst (λ m. (pos P.n *ℤ along m c.k A.x B.x) <ℤ (pos m *ℤ P.x)) q c.strictly_west) in
            record {
              j = j;
              k = c.k;
              some = omega (arith, c.some);
              level = omega (arith, ap (λ z. f * z) l);
              before = omega (arith, mul-lt-mul_of_pos_left w hf);
              heights = heights.0 c.lower_not_upper;
            },
      )

-- ---- a pin on no edge
module _ (xs : List ℤ) (from n : ℕ) (r : RingInRange xs from n) (P : Pin) where
  abbrev Free : View P P → Type 0
  Free v = Unmet (XX xs from n r P P v) (YY xs from n r P P v) from n (P.n * v.px) (P.n * v.px) (P.n * v.py)

  same_free : (v : View P P) → Free v → EnclosedWest P xs from n ↔ Enclosed P xs from n
  same_free v free =
      let test = west_at (XX xs from n r P P v) (YY xs from n r P P v) from n (P.n * v.px) (P.n * v.py) in
      let counted = many_counted (λ k. CrossesWest P (corner xs from k) (after xs from n k)) test n (λ k h.
      iff_join (west_of_lem (XX xs from n r P P v) (YY xs from n r P P v) from n (P.n * v.px) (P.n * v.py) free k h)
      (west_from xs from n r v.o P.n P.some P v.px v.py v.first k h)) in
      let odd = west_odd (XX xs from n r P P v) (YY xs from n r P P v) from n (P.n * v.px) (P.n * v.py) in (
        λ e.
            let same = many_only (λ k. CrossesWest P (corner xs from k) (after xs from n k)) counted e.counted in
            (odd_first xs from n r P P v).1 (odd.1 (ap (λ c. c % 2) same ∙ e.odd)),
        λ e. record { crossing = sum_to (λ k. one_if (test k)) n; counted = counted; odd = odd.0 ((odd_first xs from n r P P v).0 e) },
      )

  pub west_same : ((i : ℕ) → i < n → Meets P P (corner xs from i) (after xs from n i) → ⊥) → EnclosedWest P xs from n ↔ Enclosed P xs from n
  west_same none =
      let w = view P P in
      let v : View P P = record { o = w.o; px = w.px; py = w.py; qx = w.px; qy = w.py; first = w.first; second = w.first } in
      same_free v (λ i h m. none i h (met_level xs from n r P P v i h m))

-- ---- a tile
module _ (L : Lines) (l : LinesInRange L) (up : Upright (box_of L)) (xs : List ℤ) (from n : ℕ) (r : RingInRange xs from n) (P : Pin) (t : ℕ) where
  pub west_enclosed : (EdgeIn L xs from n t → ⊥) → InTile L P t → EnclosedWest P xs from n → Enclosed P xs from n
  west_enclosed none i e =
      let v = view P P in
      let m = P.n * P.n in
      let at = first_at L l up xs from n r P P v t i in
      (same_free xs from n r P v
      (off (X xs v.o m) (Y xs v.o m) from n (column_of t) (m * (place_of L.west + v.o)) (m * (place_of L.east + v.o))
      (row_of t) (m * (place_of L.south + v.o)) (m * (place_of L.north + v.o)) (λ p. none (touch_in L l up xs from n r v.o m t p))
      (P.n * v.px) (P.n * v.py) at.0 at.1)).0 e

  pub west_accounted : 0 < n → t < 9 → EnclosedWest P xs from n → InTile L P t → RingHas L xs from n t
  west_accounted some ht e i = go (ring_has (box_of L) xs from n t) refl
    where
      go : (z : Bool) → ring_has (box_of L) xs from n t ≡ z → RingHas L xs from n t
      go true h = (ring_means L l xs from n r t some up ht).0 h
      go false h =
          ring_accounted L l up xs from n r some P t ht
          (west_enclosed (λ x. clash (ring_has (box_of L) xs from n t) ((ring_means L l xs from n r t some up ht).1 (inl x)) h) i e) i

-- ---- the ring's west line
module _ (xs : List ℤ) (from n : ℕ) (r : RingInRange xs from n) (P : Pin) where
  pub west_beyond : EnclosedWest P xs from n → (K : Lines) → BoxIs xs from n K → (pos P.n *ℤ K.west) <ℤ P.x
  west_beyond e K is =
      let v = view P P in
      let k = box_in_range xs from n r K is in
      let x = odd_there (λ k. CrossesWest P (corner xs from k) (after xs from n k)) e.counted e.odd in
      let w = (west_from xs from n r v.o 1 (omega arith) P v.px v.py v.first x.0 x.1).1 x.2 in
      let y = reach_short (X xs v.o (1 * P.n)) from n x.0 w.j w.k (1 * v.px) x.1 w.some w.before in
      let least : place_of K.west ≤ place_of (corner xs from y.0).x = (place_at_most _ _ k.west (r.at y.0 y.1).x).0 (is.west.none_below y.0 y.1) in
      (shift_lt (pos P.n *ℤ K.west) P.x (P.n * (place_of K.west + v.o)) v.px (P.n * (1000000 + v.o)) (end_place v.o P.n K.west k.west) v.first.x).1
      (omega (arith, y.2, mul-le-mul_left P.n least))
