-- Ray and parity by tests in places, for any pin. Coordinates are taken n times, n the pin's denominator, so all of them are shifted by
-- n·1,000,000 times the weight that they carry, and a comparison does not see the shift. A pin may lie further west or south than any place: then
-- everything is counted from a corner that lies o further off.
--   shift_lt, shift_le, shift_eq    whole numbers with one shift compare as the naturals do
--   end_place, point_place, pin_place    n times an end of an edge, n times a point of it (`point`) and the pin, as such numbers
--   end_low, end_high    an end is not past the pin, and past it;  at_pin, past_pin  a point of the edge is at the pin, and past it
--   From o P px py       px and py are n times the pin's distances from the corner o further west and south than the range
--   crosses_from         an edge crosses the ray strictly east of the pin exactly where it does in these numbers
--   InPlaces P px py     px and py are the pin's places, n times
--   crosses_means        an edge crosses the ray exactly where `crosses_at` says so
--   encloses_at_means    an odd number of the ring's edges do exactly where `encloses_at` says so
--   centre_in_places     the places of a box's centre
--   encloses_means       a ring encloses it exactly where `encloses` says so
use mathlib.Core.Path.{◌≡◌, sym, ◌∙◌, ap, subst}
use mathlib.Core.Logic.{◌↔◌}
use mathlib.Core.Bool.{Bool, true}
use mathlib.Core.List.{List}
use Prim.Native.Nat.{ℕ, ◌+◌, ◌-◌, ◌*◌, ◌%◌, ◌≤◌, ◌<◌}
use native.Mathlib.Omega.{arith}
use native.Mathlib.Nat.{add-zero}
use lib.IntN.{ℤ, pos, ◌+ℤ◌, ◌*ℤ◌}
use lib.Signed.{◌<ℤ◌, ◌≤ℤ◌}
use Rattle.plane.specs.Place.{place_of, in_range}
use Rattle.plane.specs.Points.{Point, Lines, along}
use Rattle.plane.specs.Ray.{Pin, CrossesRay}
use Rattle.plane.specs.Placed.{PointInRange, LinesInRange, edge_of, box_of}
use Rattle.plane.specs.Folds.{sum_to}
use Rattle.plane.specs.TileSet.{one_if}
use Rattle.plane.proofs.Logic.{iff_join, iff_and, iff_or, iff_turn, lt_means, le_means, eq_means}
use Rattle.plane.proofs.Place.{below_means, at_most_means}
use Rattle.plane.proofs.Difference.{Diff, diff_add, diff_lt, diff_le, diff_eq, diff_same, diff_place, diff_move}
use Rattle.plane.proofs.Points.{along_place, times_place}
use Rattle.plane.proofs.Counting.{many_counted, many_only}
use Rattle.ring.specs.Edges.{corner, after, ring_edge, RingInRange}
use Rattle.ring.specs.Enclosed.{Enclosed, centre, crosses_at, encloses_at, encloses}
use Rattle.ring.proofs.Edges.{after_in_range}
use Rattle.ring.proofs.Ray.{East, east_means}

-- ---- whole numbers with one shift s compare as the naturals do
module _ (y z : ℤ) (u v s : ℕ) (p : Diff y u s) (q : Diff z v s) where
  pub shift_lt : (y <ℤ z) ↔ (u < v)
  shift_lt =
      let e = diff_lt y z u s v s p q in
      iff_join (iff_turn (below_means y z)) (iff_join (λ h. sym e ∙ h, λ h. e ∙ h) (iff_join (lt_means (u + s) (v + s)) (omega arith)))

  pub shift_le : (y ≤ℤ z) ↔ (u ≤ v)
  shift_le =
      let e = diff_le y z u s v s p q in
      iff_join (iff_turn (at_most_means y z)) (iff_join (λ h. sym e ∙ h, λ h. e ∙ h) (iff_join (le_means (u + s) (v + s)) (omega arith)))

  pub shift_eq : (y ≡ z) ↔ (u ≡ v)
  shift_eq = (λ e. cancel (diff_same z u s v s (rw e at p) q), λ e. diff_eq y z u s v s p q (omega arith))
    where
      cancel : u + s ≡ v + s → u ≡ v
      cancel h = omega arith

-- ---- one axis: the pin has the denominator d and d times its coordinate is z, and an edge runs from a to b
module _ (o d : ℕ) where
  module _ (a : ℤ) (ha : in_range a ≡ true) where
    pub end_place : Diff (pos d *ℤ a) (d * (place_of a + o)) (d * (1000000 + o))
    end_place =
        times_place a d (place_of a + o) (1000000 + o) (diff_move a (place_of a) 1000000 (place_of a + o) (1000000 + o) (diff_place a ha) (omega arith))

    module _ (b : ℤ) (hb : in_range b ≡ true) (j k : ℕ) where
      abbrev pub point : ℕ
      point = j * (d * (place_of a + o)) + k * (d * (place_of b + o))

      pub point_place : Diff (pos d *ℤ along (j + k) k a b) point ((j + k) * (d * (1000000 + o)))
      point_place =
          let t = times_place (along (j + k) k a b) d (j * place_of a + k * place_of b) ((j + k) * 1000000) (along_place a b j k ha hb) in
          diff_move (pos d *ℤ along (j + k) k a b) (d * (j * place_of a + k * place_of b)) (d * ((j + k) * 1000000)) point ((j + k) * (d * (1000000 + o))) t
          (omega arith)

  module _ (z : ℤ) (p : ℕ) (place : Diff z p (d * (1000000 + o))) where
    pub pin_place : (m : ℕ) → Diff (pos m *ℤ z) (m * p) (m * (d * (1000000 + o)))
    pin_place m = times_place z m p (d * (1000000 + o)) place

    module _ (a : ℤ) (ha : in_range a ≡ true) where
      pub end_low : ((pos d *ℤ a) ≤ℤ z) ↔ (d * (place_of a + o) ≤ p)
      end_low = shift_le (pos d *ℤ a) z (d * (place_of a + o)) p (d * (1000000 + o)) (end_place a ha) place

      pub end_high : (z <ℤ (pos d *ℤ a)) ↔ (p < d * (place_of a + o))
      end_high = shift_lt z (pos d *ℤ a) p (d * (place_of a + o)) (d * (1000000 + o)) place (end_place a ha)

      module _ (b : ℤ) (hb : in_range b ≡ true) (j k : ℕ) where
        pub at_pin : (pos d *ℤ along (j + k) k a b ≡ pos (j + k) *ℤ z) ↔ (point a ha b hb j k ≡ (j + k) * p)
        at_pin =
            shift_eq (pos d *ℤ along (j + k) k a b) (pos (j + k) *ℤ z) (point a ha b hb j k) ((j + k) * p) ((j + k) * (d * (1000000 + o)))
            (point_place a ha b hb j k) (pin_place (j + k))

        pub past_pin : ((pos (j + k) *ℤ z) <ℤ (pos d *ℤ along (j + k) k a b)) ↔ ((j + k) * p < point a ha b hb j k)
        past_pin =
            shift_lt (pos (j + k) *ℤ z) (pos d *ℤ along (j + k) k a b) ((j + k) * p) (point a ha b hb j k) ((j + k) * (d * (1000000 + o)))
            (pin_place (j + k)) (point_place a ha b hb j k)

-- ---- both axes
pub record From (o : ℕ) (P : Pin) (px py : ℕ) : Type 0 where
  pub x : Diff P.x px (P.n * (1000000 + o))
  pub y : Diff P.y py (P.n * (1000000 + o))

module _ (o : ℕ) (P : Pin) (px py : ℕ) (at : From o P px py) (A B : Point) (a : PointInRange A) (b : PointInRange B) where
  pub crosses_from : East (P.n * (place_of A.x + o)) (P.n * (place_of A.y + o)) (P.n * (place_of B.x + o)) (P.n * (place_of B.y + o)) px py ↔ CrossesRay P A B
  crosses_from =
      let level = at_pin o P.n P.y py at.y A.y a.y B.y b.y in
      let past = past_pin o P.n P.x px at.x A.x a.x B.x b.x in
      let heights = iff_turn (iff_or (iff_and (low A a) (high B b)) (iff_and (low B b) (high A a))) in (
        λ e. record {
          k = e.k;
          m = e.j + e.k;
          some = e.some;
          closed = omega arith;
          at_height = (level e.j e.k).1 e.level;
          strictly_east = (past e.j e.k).1 e.past;
          lower_not_upper = heights.0 e.heights;
        },
        λ c.
            let j : ℕ = c.m - c.k in
            let q : c.m ≡ j + c.k = omega (arith, c.closed) in
            record {
              j = j;
              k = c.k;
              some = omega (arith, c.some);
              level = (level j c.k).0 (subst (λ m. pos P.n *ℤ along m c.k A.y B.y ≡ pos m *ℤ P.y) q c.at_height);
              past = (past j c.k).0 (subst (λ m. (pos m *ℤ P.x) <ℤ (pos P.n *ℤ along m c.k A.x B.x)) q c.strictly_east);
              heights = heights.1 c.lower_not_upper;
            },
      )
    where
      low : (C : Point) → PointInRange C → ((pos P.n *ℤ C.y) ≤ℤ P.y) ↔ (P.n * (place_of C.y + o) ≤ py)
      low C q = end_low o P.n P.y py at.y C.y q.y

      high : (C : Point) → PointInRange C → (P.y <ℤ (pos P.n *ℤ C.y)) ↔ (py < P.n * (place_of C.y + o))
      high C q = end_high o P.n P.y py at.y C.y q.y

-- ---- from the corner of the range
abbrev pub InPlaces : Pin → (px py : ℕ) → Type 0
InPlaces P px py = From 0 P px py

module _ (P : Pin) (px py : ℕ) (at : InPlaces P px py) where
  pub crosses_means : (A B : Point) → PointInRange A → PointInRange B → (crosses_at P.n px py (edge_of A B) ≡ true) ↔ CrossesRay P A B
  unfolding crosses_at
  crosses_means A B a b =
      iff_join (east_means _ _ _ _ _ _)
      (rw (add-zero (place_of A.x), add-zero (place_of A.y), add-zero (place_of B.x), add-zero (place_of B.y)) at (crosses_from 0 P px py at A B a b))

  pub encloses_at_means : (xs : List ℤ) (from n : ℕ) → RingInRange xs from n → (encloses_at P.n px py xs from n ≡ true) ↔ Enclosed P xs from n
  unfolding encloses_at ring_edge
  encloses_at_means xs from n r =
      let many = many_counted Crosses test n (λ k h. crosses_means (corner xs from k) (after xs from n k) (r.at k h) (after_in_range xs from n k r h)) in (
        λ h. record { crossing = sum_to (λ k. one_if (test k)) n; counted = many; odd = (eq_means (sum_to (λ k. one_if (test k)) n % 2) 1).0 h },
        λ e. (eq_means (sum_to (λ k. one_if (test k)) n % 2) 1).1 (ap (λ m. m % 2) (many_only Crosses many e.counted) ∙ e.odd),
      )
    where
      Crosses : ℕ → Type 0
      Crosses k = CrossesRay P (corner xs from k) (after xs from n k)

      test : ℕ → Bool
      test k = crosses_at P.n px py (ring_edge xs from n k)

-- ---- the centre
pub centre_in_places : (L : Lines) → LinesInRange L → InPlaces (centre L) ((box_of L).west + (box_of L).east) ((box_of L).south + (box_of L).north)
centre_in_places L l = record { x = middle L.west L.east l.west l.east; y = middle L.south L.north l.south l.north }
  where
    middle : (u v : ℤ) → in_range u ≡ true → in_range v ≡ true → Diff (u +ℤ v) (place_of u + place_of v) (2 * 1000000)
    middle u v hu hv = diff_add u v (place_of u) 1000000 (place_of v) 1000000 (diff_place u hu) (diff_place v hv)

pub encloses_means : (L : Lines) → LinesInRange L → (xs : List ℤ) (from n : ℕ) → RingInRange xs from n → (encloses (box_of L) xs from n ≡ true) ↔ Enclosed (centre L) xs from n
encloses_means L l = encloses_at_means (centre L) _ _ (centre_in_places L l)
