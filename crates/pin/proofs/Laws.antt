-- The parity of crossings, law by law, for any pins of the plane and any ring with coordinates in range: it may cross itself, and its edges may have
-- equal ends. Requests L2 and L6 rest on these laws too.
--   same_point            two pins for one point are enclosed alike
--   crossings_even        the number of edges that cross a level is even
--   same_along_level, same_along_upright      where no edge meets the segment between two pins, they are enclosed alike
--   turns_across_level, turns_across_upright  where one edge passes between them and no other meets the segment, one is enclosed and one is not
--   within_box            an enclosed pin lies within the ring's box;  outside_even  outside it the number of crossings is even
-- For a tile that no edge has: TileLaws. What only carries proofs:
--   met_level             an edge that meets the segment, in the numbers of Origin, meets it
use mathlib.Core.Path.{◌≡◌, sym, ◌∙◌, ap, subst}
use mathlib.Core.Logic.{◌↔◌, ◌⊎◌, ◌≢◌}
use mathlib.Core.List.{List}
use Prim.Native.Nat.{ℕ, ◌+◌, ◌-◌, ◌*◌, ◌%◌, ◌≤◌, ◌<◌}
use native.Mathlib.Omega.{arith}
use native.Mathlib.Nat.{mul-le-mul_left, mul-lt-mul_of_pos_left, lt_of_mul-lt-mul_left, le_of_mul-le-mul_left, eq_of_mul-eq-mul_left}
use lib.IntN.{ℤ, pos, ◌*ℤ◌}
use lib.Signed.{◌<ℤ◌, ◌≤ℤ◌}
use Rattle.plane.specs.Place.{place_of}
use Rattle.plane.specs.Points.{Point, Lines, along}
use Rattle.plane.specs.Ray.{Pin, CrossesRay}
use Rattle.plane.specs.Placed.{PointInRange}
use Rattle.plane.specs.Counting.{Many}
use Rattle.plane.proofs.Logic.{iff_join, iff_turn, iff_and, iff_or, iff_not}
use Rattle.plane.proofs.Place.{place_at_most, place_eq}
use Rattle.plane.proofs.Difference.{Diff, diff_move}
use Rattle.plane.proofs.Counting.{many_counted, many_only}
use Rattle.ring.specs.Edges.{corner, after, RingInRange}
use Rattle.ring.specs.RingBox.{BoxIs}
use Rattle.ring.specs.Enclosed.{Enclosed}
use Rattle.ring.proofs.Edges.{after_in_range}
use Rattle.ring.proofs.RingBox.{box_in_range}
use Rattle.ring.proofs.Enclosed.{shift_le, shift_eq, pin_place, end_low, end_high, at_pin, past_pin, From}
use Rattle.pin.specs.Segments.{SamePoint, CrossesLevel, EastOf, Meets, Passes, turned_pin, turned_point, WithinBox}
use Rattle.pin.proofs.Parity.{straddles_at, straddles_means, level_even, Met, slide, climb, flip, flip_up, boxed}
use Rattle.pin.proofs.Origin.{Y, View, view, XX, YY, odd_first, odd_second, short_pin, not_past_pin, not_short_pin}

-- ---- two pins with the denominators d and f, in one axis
module _ (o d f p q : ℕ) (z w : ℤ) (hz : Diff z p (d * (1000000 + o))) (hw : Diff w q (f * (1000000 + o))) where
  first : Diff (pos f *ℤ z) (f * p) (f * (d * (1000000 + o)))
  first = pin_place o d z p hz f

  second : Diff (pos d *ℤ w) (d * q) (f * (d * (1000000 + o)))
  second = diff_move (pos d *ℤ w) (d * q) (d * (f * (1000000 + o))) (d * q) (f * (d * (1000000 + o))) (pin_place o f w q hw d) (omega arith)

  pins_eq : (pos f *ℤ z ≡ pos d *ℤ w) ↔ (f * p ≡ d * q)
  pins_eq = shift_eq (pos f *ℤ z) (pos d *ℤ w) (f * p) (d * q) (f * (d * (1000000 + o))) first second

  pins_le : ((pos f *ℤ z) ≤ℤ (pos d *ℤ w)) ↔ (f * p ≤ d * q)
  pins_le = shift_le (pos f *ℤ z) (pos d *ℤ w) (f * p) (d * q) (f * (d * (1000000 + o))) first second

-- ---- two pins and an edge, all numbers times both denominators
module _ (o : ℕ) (P Q : Pin) (px py qx qy : ℕ) (p : From o P px py) (q : From o Q qx qy) (A B : Point) (a : PointInRange A) (b : PointInRange B) where
  abbrev m : ℕ
  m = Q.n * P.n

  abbrev mix : (j k : ℕ) (u v : ℤ) → ℕ
  mix j k u v = j * (m * (place_of u + o)) + k * (m * (place_of v + o))

  meets : (j k : ℕ) → 0 < j + k → mix j k A.y B.y ≡ (j + k) * (Q.n * py) → (j + k) * (Q.n * px) ≤ mix j k A.x B.x
      → mix j k A.x B.x ≤ (j + k) * (P.n * qx) → Meets P Q A B
  meets j k some level past short =
      record {
        k = k;
        m = j + k;
        some = some;
        closed = omega arith;
        at_height = (at_pin o P.n P.y py p.y A.y a.y B.y b.y j k).1 (eq_of_mul-eq-mul_left Q.n Q.some _ _ (omega (arith, level)));
        from = (not_short_pin o P.n P.x px p.x A.x a.x B.x b.x j k).1 (le_of_mul-le-mul_left {k = Q.n} (omega (arith, past)) Q.some);
        to = (not_past_pin o Q.n Q.x qx q.x A.x a.x B.x b.x j k).1 (le_of_mul-le-mul_left {k = P.n} (omega (arith, short)) P.some);
      }

  record Crossed : Type 0 where
    j : ℕ
    k : ℕ
    j_pos : 0 < j
    k_pos : 0 < k
    slanted : m * (place_of A.y + o) ≢ m * (place_of B.y + o)
    level : mix j k A.y B.y ≡ (j + k) * (Q.n * py)
    past : (j + k) * (Q.n * px) < mix j k A.x B.x
    short : mix j k A.x B.x < (j + k) * (P.n * qx)

  crossed : Passes P Q A B → Crossed
  crossed c =
      let j : ℕ = c.m - c.k in
      let k = c.k in
      let e : c.m ≡ j + k = omega (arith, c.below) in
      let level = (at_pin o P.n P.y py p.y A.y a.y B.y b.y j k).0
      (subst (λ m. pos P.n *ℤ along m k A.y B.y ≡ pos m *ℤ P.y) e c.at_height) in
      let past = (past_pin o P.n P.x px p.x A.x a.x B.x b.x j k).0
      (subst (λ m. (pos m *ℤ P.x) <ℤ (pos P.n *ℤ along m k A.x B.x)) e c.from) in
      let short = (short_pin o Q.n Q.x qx q.x A.x a.x B.x b.x j k).0
      (subst (λ m. (pos Q.n *ℤ along m k A.x B.x) <ℤ (pos m *ℤ Q.x)) e c.to) in
      record {
        j = j;
        k = k;
        j_pos = omega (arith, c.below);
        k_pos = c.above;
        slanted = λ s. c.slanted ((place_eq A.y B.y a.y b.y).1 (plain (place_of A.y) (place_of B.y) s));
        level = omega (arith, ap (λ z. Q.n * z) level);
        past = omega (arith, mul-lt-mul_of_pos_left past Q.some);
        short = omega (arith, mul-lt-mul_of_pos_left short P.some);
      }
    where
      plain : (u v : ℕ) → m * (u + o) ≡ m * (v + o) → u ≡ v
      plain u v s =
          let t = eq_of_mul-eq-mul_left P.n P.some (u + o) (v + o) (eq_of_mul-eq-mul_left Q.n Q.some (P.n * (u + o)) (P.n * (v + o)) (omega (arith, s))) in
          omega (arith, t)

-- ---- two pins and a ring
module _ (xs : List ℤ) (from n : ℕ) (r : RingInRange xs from n) where
  module _ (P Q : Pin) (v : View P Q) where
    same_x : (pos Q.n *ℤ P.x ≡ pos P.n *ℤ Q.x) ↔ (Q.n * v.px ≡ P.n * v.qx)
    same_x = pins_eq v.o P.n Q.n v.px v.qx P.x Q.x v.first.x v.second.x

    same_y : (pos Q.n *ℤ P.y ≡ pos P.n *ℤ Q.y) ↔ (Q.n * v.py ≡ P.n * v.qy)
    same_y = pins_eq v.o P.n Q.n v.py v.qy P.y Q.y v.first.y v.second.y

    order_x : ((pos Q.n *ℤ P.x) ≤ℤ (pos P.n *ℤ Q.x)) ↔ (Q.n * v.px ≤ P.n * v.qx)
    order_x = pins_le v.o P.n Q.n v.px v.qx P.x Q.x v.first.x v.second.x

    order_y : ((pos Q.n *ℤ P.y) ≤ℤ (pos P.n *ℤ Q.y)) ↔ (Q.n * v.py ≤ P.n * v.qy)
    order_y = pins_le v.o P.n Q.n v.py v.qy P.y Q.y v.first.y v.second.y

    -- an edge that meets the segment in these numbers meets it
    pub met_level : (i : ℕ) → i < n → Met (XX xs from n r P Q v) (YY xs from n r P Q v) from n (Q.n * v.px) (P.n * v.qx) (Q.n * v.py) i → Meets P Q (corner xs from i) (after xs from n i)
    met_level i h m =
        meets v.o P Q v.px v.py v.qx v.qy v.first v.second (corner xs from i) (after xs from n i) (r.at i h) (after_in_range xs from n i r h)
        m.j m.k m.some m.level m.past m.short

    turned_range : (A : Point) → PointInRange A → PointInRange (turned_point A)
    turned_range A a = record { x = a.y; y = a.x }

    turned_first : From v.o (turned_pin P) v.py v.px
    turned_first = record { x = v.first.y; y = v.first.x }

    turned_second : From v.o (turned_pin Q) v.qy v.qx
    turned_second = record { x = v.second.y; y = v.second.x }

    met_upright : (i : ℕ) → i < n → Met (YY xs from n r P Q v) (XX xs from n r P Q v) from n (Q.n * v.py) (P.n * v.qy) (Q.n * v.px) i
        → Meets (turned_pin P) (turned_pin Q) (turned_point (corner xs from i)) (turned_point (after xs from n i))
    met_upright i h m =
        meets v.o (turned_pin P) (turned_pin Q) v.py v.px v.qy v.qx turned_first turned_second
        (turned_point (corner xs from i)) (turned_point (after xs from n i))
        (turned_range (corner xs from i) (r.at i h)) (turned_range (after xs from n i) (after_in_range xs from n i r h))
        m.j m.k m.some m.level m.past m.short

  -- ---- the laws
  module _ (P Q : Pin) where
    pub same_point : SamePoint P Q → Enclosed P xs from n ↔ Enclosed Q xs from n
    same_point s =
        let v = view P Q in
        iff_join (odd_first xs from n r P Q v) (iff_turn (rw (sym ((same_x P Q v).0 s.x), sym ((same_y P Q v).0 s.y)) at (odd_second xs from n r P Q v)))

    pub same_along_level : EastOf P Q → ((i : ℕ) → i < n → Meets P Q (corner xs from i) (after xs from n i) → ⊥)
        → Enclosed P xs from n ↔ Enclosed Q xs from n
    same_along_level e none =
        let v = view P Q in
        let s = slide (XX xs from n r P Q v) (YY xs from n r P Q v) from n (Q.n * v.px) (P.n * v.qx) (Q.n * v.py) ((order_x P Q v).0 e.not_west) (λ i h m. none i h (met_level P Q v i h m)) in
        iff_join (odd_first xs from n r P Q v) (iff_join s (iff_turn (rw (sym ((same_y P Q v).0 e.level)) at (odd_second xs from n r P Q v))))

    pub same_along_upright : EastOf (turned_pin P) (turned_pin Q)
        → ((i : ℕ) → i < n → Meets (turned_pin P) (turned_pin Q) (turned_point (corner xs from i)) (turned_point (after xs from n i)) → ⊥)
        → Enclosed P xs from n ↔ Enclosed Q xs from n
    same_along_upright e none =
        let v = view P Q in
        let s = climb (XX xs from n r P Q v) (YY xs from n r P Q v) from n (Q.n * v.px) (Q.n * v.py) (P.n * v.qy) ((order_y P Q v).0 e.not_west) (λ i h m. none i h (met_upright P Q v i h m)) in
        iff_join (odd_first xs from n r P Q v) (iff_join s (iff_turn (rw (sym ((same_x P Q v).0 e.level)) at (odd_second xs from n r P Q v))))

    module _ (a : ℕ) (low : a < n) where
      pub turns_across_level : EastOf P Q → Passes P Q (corner xs from a) (after xs from n a)
          → ((i : ℕ) → i < n → i ≢ a → Meets P Q (corner xs from i) (after xs from n i) → ⊥)
          → Enclosed P xs from n ↔ (Enclosed Q xs from n → ⊥)
      turns_across_level e pass others =
          let v = view P Q in
          let c = crossed v.o P Q v.px v.py v.qx v.qy v.first v.second (corner xs from a) (after xs from n a) (r.at a low) (after_in_range xs from n a r low) pass in
          let s = flip (XX xs from n r P Q v) (YY xs from n r P Q v) from n (Q.n * v.px) (P.n * v.qx) (Q.n * v.py) ((order_x P Q v).0 e.not_west)
          a c.j c.k low c.j_pos c.k_pos c.slanted c.level c.past c.short (λ i h ne m. others i h ne (met_level P Q v i h m)) in
          iff_join (odd_first xs from n r P Q v) (iff_join s (iff_not (iff_turn (rw (sym ((same_y P Q v).0 e.level)) at (odd_second xs from n r P Q v)))))

      pub turns_across_upright : EastOf (turned_pin P) (turned_pin Q)
          → Passes (turned_pin P) (turned_pin Q) (turned_point (corner xs from a)) (turned_point (after xs from n a))
          → ((i : ℕ) → i < n → i ≢ a → Meets (turned_pin P) (turned_pin Q) (turned_point (corner xs from i)) (turned_point (after xs from n i)) → ⊥)
          → Enclosed P xs from n ↔ (Enclosed Q xs from n → ⊥)
      turns_across_upright e pass others =
          let v = view P Q in
          let c = crossed v.o (turned_pin P) (turned_pin Q) v.py v.px v.qy v.qx (turned_first P Q v) (turned_second P Q v)
          (turned_point (corner xs from a)) (turned_point (after xs from n a))
          (turned_range P Q v (corner xs from a) (r.at a low)) (turned_range P Q v (after xs from n a) (after_in_range xs from n a r low)) pass in
          let s = flip_up (XX xs from n r P Q v) (YY xs from n r P Q v) from n (Q.n * v.px) (Q.n * v.py) (P.n * v.qy) ((order_y P Q v).0 e.not_west)
          a c.j c.k low c.j_pos c.k_pos c.slanted c.level c.past c.short (λ i h ne m. others i h ne (met_upright P Q v i h m)) in
          iff_join (odd_first xs from n r P Q v) (iff_join s (iff_not (iff_turn (rw (sym ((same_x P Q v).0 e.level)) at (odd_second xs from n r P Q v)))))

  module _ (P : Pin) where
    -- ---- a level
    pub crossings_even : (c : ℕ) → Many (λ k. CrossesLevel P (corner xs from k) (after xs from n k)) n c → c % 2 ≡ 0
    crossings_even c many =
        let v = view P P in
        let test = straddles_at (Y xs v.o P.n) from n v.py in
        let counted = many_counted (λ k. CrossesLevel P (corner xs from k) (after xs from n k)) test n (λ k h.
        iff_join (straddles_means (Y xs v.o P.n) from n v.py k) (iff_turn (heights v (corner xs from k) (after xs from n k) (r.at k h) (after_in_range xs from n k r h)))) in
        ap (λ m. m % 2) (many_only (λ k. CrossesLevel P (corner xs from k) (after xs from n k)) many counted) ∙ level_even (Y xs v.o P.n) from n v.py
      where
        heights : (v : View P P) (A B : Point) → PointInRange A → PointInRange B → CrossesLevel P A B
            ↔ (((P.n * (place_of A.y + v.o) ≤ v.py) × (v.py < P.n * (place_of B.y + v.o))) ⊎ ((P.n * (place_of B.y + v.o) ≤ v.py) × (v.py < P.n * (place_of A.y + v.o))))
        heights v A B a b = iff_or (iff_and (low A a) (high B b)) (iff_and (low B b) (high A a))
          where
            low : (C : Point) → PointInRange C → ((pos P.n *ℤ C.y) ≤ℤ P.y) ↔ (P.n * (place_of C.y + v.o) ≤ v.py)
            low C c = end_low v.o P.n P.y v.py v.first.y C.y c.y

            high : (C : Point) → PointInRange C → (P.y <ℤ (pos P.n *ℤ C.y)) ↔ (v.py < P.n * (place_of C.y + v.o))
            high C c = end_high v.o P.n P.y v.py v.first.y C.y c.y

    -- ---- the ring's box
    module _ (K : Lines) (is : BoxIs xs from n K) where
      pub within_box : Enclosed P xs from n → WithinBox K P
      within_box e =
          let v = view P P in
          let k = box_in_range xs from n r K is in
          let b = boxed (XX xs from n r P P v) (YY xs from n r P P v) from n (P.n * v.px) (P.n * v.py) ((odd_first xs from n r P P v).0 e) in
          record {
            west = (end_low v.o P.n P.x v.px v.first.x K.west k.west).1
                (low v v.px K.west (λ i. (corner xs from i).x) (λ i h. (place_at_most _ _ k.west (r.at i h).x).0 (is.west.none_below i h)) b.west);
            east = (end_high v.o P.n P.x v.px v.first.x K.east k.east).1
                (high v v.px K.east (λ i. (corner xs from i).x) (λ i h. (place_at_most _ _ (r.at i h).x k.east).0 (is.east.none_above i h)) b.east);
            south = (end_low v.o P.n P.y v.py v.first.y K.south k.south).1
                (low v v.py K.south (λ i. (corner xs from i).y) (λ i h. (place_at_most _ _ k.south (r.at i h).y).0 (is.south.none_below i h)) b.south);
            north = (end_high v.o P.n P.y v.py v.first.y K.north k.north).1
                (high v v.py K.north (λ i. (corner xs from i).y) (λ i h. (place_at_most _ _ (r.at i h).y k.north).0 (is.north.none_above i h)) b.north);
          }
        where
          low : (v : View P P) (p : ℕ) (l : ℤ) (z : ℕ → ℤ) → ((i : ℕ) → i < n → place_of l ≤ place_of (z i))
              → (i : ℕ) × (i < n) × (P.n * P.n * (place_of (z i) + v.o) ≤ P.n * p) → P.n * (place_of l + v.o) ≤ p
          low v p l z least x =
              le_of_mul-le-mul_left {k = P.n} (omega (arith, x.2, mul-le-mul_left (P.n * P.n) (least x.0 x.1))) P.some

          high : (v : View P P) (p : ℕ) (l : ℤ) (z : ℕ → ℤ) → ((i : ℕ) → i < n → place_of (z i) ≤ place_of l)
              → (i : ℕ) × (i < n) × (P.n * p < P.n * P.n * (place_of (z i) + v.o)) → p < P.n * (place_of l + v.o)
          high v p l z most x = lt_of_mul-lt-mul_left P.n (omega (arith, x.2, mul-le-mul_left (P.n * P.n) (most x.0 x.1)))

      pub outside_even : (WithinBox K P → ⊥) → (c : ℕ) → Many (λ k. CrossesRay P (corner xs from k) (after xs from n k)) n c → c % 2 ≡ 0
      outside_even out c many = even (λ h. out (within_box (record { crossing = c; counted = many; odd = h })))
        where
          even : (c % 2 ≡ 1 → ⊥) → c % 2 ≡ 0
          even h = omega (arith, h)
