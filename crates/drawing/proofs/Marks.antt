-- An edge marks a cell: the test by stays says what the rule says of points.
--   stay_fits       the numbers of a stay are in bounds;  across_fits, up_fits  those of an edge in places
--   Strictly        a point in places strictly between two lines
--   stay_means      a moment lies within a stay exactly where the axis is strictly between the lines, or stands on the one for whose side it counts
--   side_past, side_before    for which side an edge along a line counts
--   marks_means     an edge marks a cell exactly where the test says so
use mathlib.Core.Path.{◌≡◌, refl, sym, ◌∙◌}
use mathlib.Core.Logic.{◌↔◌, ◌⊎◌, inl, inr, ⊎_elim, ◌≢◌}
use mathlib.Core.Bool.{Bool, true, false, not, ◌&&◌}
use Prim.Native.Nat.{ℕ, ◌+◌, ◌-◌, ◌*◌, ◌≤◌, ◌<◌}
use native.Mathlib.Omega.{arith}
use native.Mathlib.Nat.{mul-lt-mul_of_pos_left, lt_of_mul-lt-mul_left}
use native.Mathlib.Decide.{dec_lt, ℕ_discrete}
use borrow.Author.Tests.{le-ltb, ltb-true, ltb-false, eq-eqb, ne_eqb}
use lib.Dec.{ltb, eqb}
use lib.IntN.{ℤ}
use lib.Signed.{◌<ℤ◌}
use Rattle.plane.specs.Choice.{pick}
use Rattle.plane.specs.Place.{place_of, in_range}
use Rattle.plane.specs.Points.{Point, Lines, along, Fraction}
use Rattle.plane.specs.Placed.{PointInRange, LinesInRange, box_of, edge_of, EdgeInPlaces}
use Rattle.plane.specs.declared.Box.{Box}
use Rattle.plane.specs.declared.Edge.{Edge}
use Rattle.plane.proofs.Logic.{iff_join, iff_turn, iff_and, iff_or, iff_not, and_means, not_means, lt_means, eq_means, never}
use Rattle.plane.proofs.Place.{place_le, place_lt, place_eq}
use Rattle.plane.proofs.Points.{before_line, past_line}
use Rattle.edge.specs.Clauses.{Apart}
use Rattle.edge.proofs.Weights.{fraction, rest, rest_pos, rest_sum}
use Rattle.ring.specs.Repeated.{equal_ends}
use Rattle.drawing.specs.declared.Stay.{Stay}
use Rattle.drawing.specs.Marks.{Between, MarksAt, inside, east_of_it, west_of_it, north_of_it, south_of_it, Marks}
use Rattle.drawing.specs.Stays.{stay_up, stay_down, counted, stay_of, across_stay, up_stay, overlaps, marks, StayFits}
use Rattle.drawing.proofs.Stays.{During, up_during, down_during, past_during, before_during, overlaps_means}

-- ---- bounds
pub stay_fits : (a b lo hi : ℕ) (up : Bool) → a ≤ 2000000 → b ≤ 2000000 → StayFits (stay_of a b lo hi up)
unfolding stay_of
stay_fits a b lo hi up ha hb = go (ltb a b) refl (ltb b a) refl up
  where
    go : (s : Bool) → ltb a b ≡ s → (t : Bool) → ltb b a ≡ t → (up : Bool)
        → StayFits (pick s (stay_up a lo hi (b - a)) (pick t (stay_down a lo hi (a - b)) (pick up (stay_up a lo hi 1) (stay_down a lo hi 1))))
    go true e t f up = let l = ltb-true a b e in record { some = omega (arith, l); from_part = omega arith; to_part = omega arith; small = omega arith }
    go false e true f up = let l = ltb-true b a f in record { some = omega (arith, l); from_part = omega arith; to_part = omega arith; small = omega arith }
    go false e false f true = record { some = omega arith; from_part = omega arith; to_part = omega arith; small = omega arith }
    go false e false f false = record { some = omega arith; from_part = omega arith; to_part = omega arith; small = omega arith }

pub across_fits : (own k : Box) (g : Edge) → EdgeInPlaces g → StayFits (across_stay own k g)
across_fits own k g h = stay_fits _ _ _ _ _ h.ax h.bx

pub up_fits : (own k : Box) (g : Edge) → EdgeInPlaces g → StayFits (up_stay own k g)
up_fits own k g h = stay_fits _ _ _ _ _ h.ay h.by

-- ---- one axis in places
abbrev pub Strictly : (a b lo hi j k : ℕ) → Type 0
Strictly a b lo hi j k = ((j + k) * lo < j * a + k * b) × (j * a + k * b < (j + k) * hi)

abbrev Beside : (a b lo hi : ℕ) → Bool → Type 0
Beside a b lo hi up = (a ≡ b) × (((a ≡ lo) × (up ≡ true)) ⊎ ((a ≡ hi) × (up ≡ false)))

still : (a lo hi j k : ℕ) → 0 < j → Strictly a a lo hi j k ↔ ((lo < a) × (a < hi))
still a lo hi j k hj = (
  λ h. (lt_of_mul-lt-mul_left (j + k) (omega (arith, h.0)), lt_of_mul-lt-mul_left (j + k) (omega (arith, h.1))),
  λ h. let s : 0 < j + k = omega arith in (omega (arith, mul-lt-mul_of_pos_left h.0 s), omega (arith, mul-lt-mul_of_pos_left h.1 s)),
)

pub stay_means : (a b lo hi : ℕ) (up : Bool) (j k : ℕ) → 0 < j → 0 < k → lo < hi
    → During (stay_of a b lo hi up) (j + k) k ↔ (Strictly a b lo hi j k ⊎ Beside a b lo hi up)
unfolding stay_of
stay_means a b lo hi up j k hj hk wide = go (ltb a b) refl (ltb b a) refl up
  where
    moving : {A : Type 0} → A ↔ Strictly a b lo hi j k → (a ≢ b) → (up : Bool) → A ↔ (Strictly a b lo hi j k ⊎ Beside a b lo hi up)
    moving e ne up = (λ d. inl (e.0 d), λ d. ⊎_elim (λ s. e.1 s) (λ s. absurd (ne s.0)) d)

    go : (s : Bool) → ltb a b ≡ s → (t : Bool) → ltb b a ≡ t → (up : Bool)
        → During (pick s (stay_up a lo hi (b - a)) (pick t (stay_down a lo hi (a - b)) (pick up (stay_up a lo hi 1) (stay_down a lo hi 1)))) (j + k) k
        ↔ (Strictly a b lo hi j k ⊎ Beside a b lo hi up)
    go true e t f up = let l = ltb-true a b e in moving (up_during j k hj hk a lo hi b l) (omega (arith, l)) up
    go false e true f up = let l = ltb-true b a f in moving (down_during j k hj hk a lo hi b l) (omega (arith, l)) up
    go false e false f up =
        let same : b ≡ a = omega (arith, ltb-false a b e, ltb-false b a f) in
        rw same (on up)
      where
        on : (up : Bool) → During (pick up (stay_up a lo hi 1) (stay_down a lo hi 1)) (j + k) k ↔ (Strictly a a lo hi j k ⊎ Beside a a lo hi up)
        on true = iff_join (past_during j k hj hk a lo hi) (there, back)
          where
            there : (lo ≤ a) × (a < hi) → Strictly a a lo hi j k ⊎ Beside a a lo hi true
            there h = elim (dec_lt lo a) [ yes l ↦ inl ((still a lo hi j k hj).1 (l, h.1)) | no l ↦ inr (refl, inl (omega (arith, h.0), refl)) ]

            back : Strictly a a lo hi j k ⊎ Beside a a lo hi true → (lo ≤ a) × (a < hi)
            back (inl s) = let h = (still a lo hi j k hj).0 s in (omega (arith, h.0), h.1)
            back (inr (x, inl y)) = (omega (arith, y.0), omega (arith, y.0))
            back (inr (x, inr y)) = never (sym y.1)
        on false = iff_join (before_during j k hj hk a lo hi) (there, back)
          where
            there : (lo < a) × (a ≤ hi) → Strictly a a lo hi j k ⊎ Beside a a lo hi false
            there h = elim (dec_lt a hi) [ yes l ↦ inl ((still a lo hi j k hj).1 (h.0, l)) | no l ↦ inr (refl, inr (omega (arith, h.1), refl)) ]

            back : Strictly a a lo hi j k ⊎ Beside a a lo hi false → (lo < a) × (a ≤ hi)
            back (inl s) = let h = (still a lo hi j k hj).0 s in (h.0, omega (arith, h.1))
            back (inr (x, inl y)) = never y.1
            back (inr (x, inr y)) = (omega (arith, y.0), omega (arith, y.0))

-- ---- for which side an edge along a line counts
module _ (p q a : ℕ) where
  counted_true : (up : Bool) → (counted p q a up ≡ true) ↔ ((a ≡ p) ⊎ ((a ≢ p) × (a ≢ q) × (up ≡ true)))
  unfolding counted
  counted_true up = go (ℕ_discrete a p) (ℕ_discrete a q)
    where
      go : Dec (a ≡ p) → Dec (a ≡ q) → (pick (eqb a p) true (pick (eqb a q) false up) ≡ true) ↔ ((a ≡ p) ⊎ ((a ≢ p) × (a ≢ q) × (up ≡ true)))
      go (yes e) d = (λ h. inl e, λ h. rw (eq-eqb a p e) refl)
      go (no n) (yes e) = rw (ne_eqb a p n, eq-eqb a q e) (λ h. never h, λ h. ⊎_elim (λ x. absurd (n x)) (λ x. absurd (x.1 e)) h)
      go (no n) (no m) = rw (ne_eqb a p n, ne_eqb a q m) (λ h. inr (n, m, h), λ h. ⊎_elim (λ x. absurd (n x)) (λ x. x.2) h)

  counted_false : p ≢ q → (up : Bool) → (counted p q a up ≡ false) ↔ ((a ≡ q) ⊎ ((a ≢ p) × (a ≢ q) × (up ≡ false)))
  unfolding counted
  counted_false wide up = go (ℕ_discrete a p) (ℕ_discrete a q)
    where
      go : Dec (a ≡ p) → Dec (a ≡ q) → (pick (eqb a p) true (pick (eqb a q) false up) ≡ false) ↔ ((a ≡ q) ⊎ ((a ≢ p) × (a ≢ q) × (up ≡ false)))
      go (yes e) d = rw (eq-eqb a p e) (λ h. never (sym h), λ h. ⊎_elim (λ x. absurd (wide (sym e ∙ x))) (λ x. absurd (x.0 e)) h)
      go (no n) (yes e) = rw (ne_eqb a p n, eq-eqb a q e) (λ h. inl e, λ h. refl)
      go (no n) (no m) = rw (ne_eqb a p n, ne_eqb a q m) (λ h. inr (n, m, h), λ h. ⊎_elim (λ x. absurd (m x)) (λ x. x.2) h)

module _ (p q a u v : ℤ) (hp : in_range p ≡ true) (hq : in_range q ≡ true) (ha : in_range a ≡ true) (hu : in_range u ≡ true) (hv : in_range v ≡ true) where
  three : {A B : Type 0} → A ↔ B → ((place_of a ≢ place_of p) × (place_of a ≢ place_of q) × A) ↔ ((a ≢ p) × (a ≢ q) × B)
  three e = (
    λ h. (λ x. h.0 ((place_eq a p ha hp).0 x), λ x. h.1 ((place_eq a q ha hq).0 x), e.0 h.2),
    λ h. (λ x. h.0 ((place_eq a p ha hp).1 x), λ x. h.1 ((place_eq a q ha hq).1 x), e.1 h.2),
  )

  pub side_past : (counted (place_of p) (place_of q) (place_of a) (ltb (place_of u) (place_of v)) ≡ true) ↔ ((a ≡ p) ⊎ ((a ≢ p) × (a ≢ q) × (u <ℤ v)))
  side_past =
      iff_join (counted_true (place_of p) (place_of q) (place_of a) (ltb (place_of u) (place_of v)))
      (iff_or (iff_turn (place_eq a p ha hp)) (three (iff_join (lt_means (place_of u) (place_of v)) (iff_turn (place_lt u v hu hv)))))

  pub side_before : p <ℤ q → u ≢ v
      → (counted (place_of p) (place_of q) (place_of a) (ltb (place_of u) (place_of v)) ≡ false) ↔ ((a ≡ q) ⊎ ((a ≢ p) × (a ≢ q) × (v <ℤ u)))
  side_before wide ne =
      iff_join (counted_false (place_of p) (place_of q) (place_of a) (omega (arith, (place_lt p q hp hq).0 wide)) (ltb (place_of u) (place_of v)))
      (iff_or (iff_turn (place_eq a q ha hq)) (three (not_up, down)))
    where
      not_up : ltb (place_of u) (place_of v) ≡ false → v <ℤ u
      not_up h = (place_lt v u hv hu).1 (order (ltb-false (place_of u) (place_of v) h) (λ e. ne ((place_eq u v hu hv).1 e)))
        where
          order : place_of v ≤ place_of u → place_of u ≢ place_of v → place_of v < place_of u
          order h n = omega (arith, h, n)

      down : v <ℤ u → ltb (place_of u) (place_of v) ≡ false
      down h = le-ltb (place_of u) (place_of v) (omega (arith, (place_lt v u hv hu).0 h))

-- ---- one axis over coordinates
module _ (a b lo hi : ℤ) (ha : in_range a ≡ true) (hb : in_range b ≡ true) (hlo : in_range lo ≡ true) (hhi : in_range hi ≡ true) (wide : lo <ℤ hi) where
  between_means : (j k : ℕ) → Strictly (place_of a) (place_of b) (place_of lo) (place_of hi) j k ↔ Between lo hi (j + k) (along (j + k) k a b)
  between_means j k = iff_and (iff_turn (past_line a b lo j k ha hb hlo)) (iff_turn (before_line a b hi j k ha hb hhi))

  axis_means : (up : Bool) (j k : ℕ) → 0 < j → 0 < k → During (stay_of (place_of a) (place_of b) (place_of lo) (place_of hi) up) (j + k) k
      ↔ (Between lo hi (j + k) (along (j + k) k a b) ⊎ ((a ≡ b) × (((a ≡ lo) × (up ≡ true)) ⊎ ((a ≡ hi) × (up ≡ false)))))
  axis_means up j k hj hk =
      iff_join (stay_means (place_of a) (place_of b) (place_of lo) (place_of hi) up j k hj hk ((place_lt lo hi hlo hhi).0 wide))
      (iff_or (between_means j k) (iff_and (iff_turn (place_eq a b ha hb))
      (iff_or (iff_and (iff_turn (place_eq a lo ha hlo)) ((λ x. x), (λ x. x))) (iff_and (iff_turn (place_eq a hi ha hhi)) ((λ x. x), (λ x. x))))))

-- ---- an edge and a cell
module _ (L K : Lines) (A B : Point) (l : LinesInRange L) (c : LinesInRange K) (a : PointInRange A) (b : PointInRange B)
    (own-wide : L.west <ℤ L.east) (own-high : L.south <ℤ L.north) (wide : K.west <ℤ K.east) (high : K.south <ℤ K.north) where
  abbrev up_x_lem : Bool
  up_x_lem = counted (place_of L.west) (place_of L.east) (place_of A.x) (ltb (place_of A.y) (place_of B.y))

  abbrev up_y_lem : Bool
  up_y_lem = counted (place_of L.south) (place_of L.north) (place_of A.y) (ltb (place_of B.x) (place_of A.x))

  abbrev AxisX : (j k : ℕ) → Type 0
  AxisX j k =
      Between K.west K.east (j + k) (along (j + k) k A.x B.x)
      ⊎ ((A.x ≡ B.x) × (((A.x ≡ K.west) × (up_x_lem ≡ true)) ⊎ ((A.x ≡ K.east) × (up_x_lem ≡ false))))

  abbrev AxisY : (j k : ℕ) → Type 0
  AxisY j k =
      Between K.south K.north (j + k) (along (j + k) k A.y B.y)
      ⊎ ((A.y ≡ B.y) × (((A.y ≡ K.south) × (up_y_lem ≡ true)) ⊎ ((A.y ≡ K.north) × (up_y_lem ≡ false))))

  module _ (apart : Apart A B) (j k : ℕ) (hj : 0 < j) (hk : 0 < k) where
    marked : AxisX j k → AxisY j k → MarksAt L K A B (fraction j k hj hk)
    marked (inl x) (inl y) = inside apart x y
    marked (inr (e, inl x)) (inl y) = east_of_it apart e x.0 ((side_past L.west L.east A.x A.y B.y l.west l.east a.x a.y b.y).0 x.1) y
    marked (inr (e, inr x)) (inl y) =
        west_of_it apart e x.0 ((side_before L.west L.east A.x A.y B.y l.west l.east a.x a.y b.y own-wide (λ f. apart (e, f))).0 x.1) y
    marked (inl x) (inr (e, inl y)) = north_of_it apart e y.0 ((side_past L.south L.north A.y B.x A.x l.south l.north a.y b.x a.x).0 y.1) x
    marked (inl x) (inr (e, inr y)) =
        south_of_it apart e y.0 ((side_before L.south L.north A.y B.x A.x l.south l.north a.y b.x a.x own-high (λ f. apart (sym f, e))).0 y.1) x
    marked (inr x) (inr y) = absurd (apart (x.0, y.0))

  -- the point p, whose weight at the start is j
  axes : Apart A B → (p : Fraction) (j : ℕ) → p.n ≡ j + p.k → MarksAt L K A B p → AxisX j p.k × AxisY j p.k
  axes apart p j w (inside _ x y) = (inl (rw w at x), inl (rw w at y))
  axes apart p j w (east_of_it _ e x s y) =
      (inr (e, inl (x, (side_past L.west L.east A.x A.y B.y l.west l.east a.x a.y b.y).1 s)), inl (rw w at y))
  axes apart p j w (west_of_it _ e x s y) =
      (inr (e, inr (x, (side_before L.west L.east A.x A.y B.y l.west l.east a.x a.y b.y own-wide (λ f. apart (e, f))).1 s)), inl (rw w at y))
  axes apart p j w (north_of_it _ e y s x) =
      (inl (rw w at x), inr (e, inl (y, (side_past L.south L.north A.y B.x A.x l.south l.north a.y b.x a.x).1 s)))
  axes apart p j w (south_of_it _ e y s x) =
      (inl (rw w at x), inr (e, inr (y, (side_before L.south L.north A.y B.x A.x l.south l.north a.y b.x a.x own-high (λ f. apart (sym f, e))).1 s)))

  ends_apart : {p : Fraction} → MarksAt L K A B p → Apart A B
  ends_apart (inside h _ _) = h
  ends_apart (east_of_it h _ _ _ _) = h
  ends_apart (west_of_it h _ _ _ _) = h
  ends_apart (north_of_it h _ _ _ _) = h
  ends_apart (south_of_it h _ _ _ _) = h

  places : EdgeInPlaces (edge_of A B)
  places = record { ax = place_le A.x a.x; ay = place_le A.y a.y; bx = place_le B.x b.x; by = place_le B.y b.y }

  abbrev X : Stay
  X = across_stay (box_of L) (box_of K) (edge_of A B)

  abbrev Y : Stay
  Y = up_stay (box_of L) (box_of K) (edge_of A B)

  in_x : (j k : ℕ) → 0 < j → 0 < k → During X (j + k) k ↔ AxisX j k
  in_x j k hj hk = axis_means A.x B.x K.west K.east a.x b.x c.west c.east wide up_x_lem j k hj hk

  in_y : (j k : ℕ) → 0 < j → 0 < k → During Y (j + k) k ↔ AxisY j k
  in_y j k hj hk = axis_means A.y B.y K.south K.north a.y b.y c.south c.north high up_y_lem j k hj hk

  apart_means : (not (equal_ends (edge_of A B)) ≡ true) ↔ Apart A B
  unfolding equal_ends
  apart_means =
      iff_join (not_means (eqb (place_of A.x) (place_of B.x) && eqb (place_of A.y) (place_of B.y)))
      (iff_not (iff_join (and_means _ _) (iff_and (iff_join (eq_means _ _) (iff_turn (place_eq A.x B.x a.x b.x))) (iff_join (eq_means _ _) (iff_turn (place_eq A.y B.y a.y b.y))))))

  pub marks_means : (marks (box_of L) (box_of K) (edge_of A B) ≡ true) ↔ Marks L K A B
  unfolding marks
  marks_means =
      iff_join (and_means (not (equal_ends (edge_of A B))) (overlaps X Y))
      (iff_join (iff_and apart_means (overlaps_means X Y (across_fits (box_of L) (box_of K) (edge_of A B) places) (up_fits (box_of L) (box_of K) (edge_of A B) places))) (there, back))
    where
      Points : Type 0
      Points = (n : ℕ) × (k : ℕ) × (0 < k) × (k < n) × During X n k × During Y n k

      point : Apart A B → (n k j : ℕ) → n ≡ j + k → 0 < j → 0 < k → During X n k → During Y n k → Marks L K A B
      point h n k j e hj hk d f = (fraction j k hj hk, marked h j k hj hk ((in_x j k hj hk).0 (rw e at d)) ((in_y j k hj hk).0 (rw e at f)))

      there : Apart A B × Points → Marks L K A B
      there (h, x) = point h x.0 x.1 (x.0 - x.1) (omega (arith, x.3)) (omega (arith, x.3)) x.2 x.4 x.5

      back : Marks L K A B → Apart A B × Points
      back (p, m) =
          let h = ends_apart m in
          let x = axes h p (rest p) (rest_sum p) m in
          (h, shown p (rest p) (rest_sum p) (rest_pos p) ((in_x (rest p) p.k (rest_pos p) p.above).1 x.0) ((in_y (rest p) p.k (rest_pos p) p.above).1 x.1))
        where
          shown : (p : Fraction) (j : ℕ) → p.n ≡ j + p.k → 0 < j → During X (j + p.k) p.k → During Y (j + p.k) p.k → Points
          shown p j e hj d f = (j + p.k, p.k, p.above, omega arith, d, f)
