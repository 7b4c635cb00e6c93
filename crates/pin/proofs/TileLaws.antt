-- Pins and tiles: every pin lies in a tile or on a line; and the pins of a tile that no edge of a ring has.
--   tile_or_line     a pin lies strictly inside one of the nine tiles, or on a line of the box
--   same_in_tile     they are enclosed alike
--   only_middle      where one is enclosed, the tile is B, and the ring's box covers the box
--   TouchAt, touch_in    an edge touches the tile in the numbers of Parity;  then it has it
--   At, first_at     a pin inside the tile, in these numbers
--   middle_wide      a box with a pin strictly inside B has width and height;  centre_in  and then its centre lies there
use mathlib.Core.Path.{◌≡◌, ap}
use mathlib.Core.Logic.{◌↔◌, ◌⊎◌, inl, inr}
use mathlib.Core.Bool.{true}
use Prim.Native.Nat.{ℕ, zero, suc, ◌+◌, ◌-◌, ◌*◌, ◌≤◌, ◌<◌}
use native.Mathlib.Omega.{arith}
use native.Mathlib.Nat.{mul_comm, mul-pos, lt_of_mul-lt-mul_left, le_of_mul-le-mul_left}
use mathlib.Core.List.{List}
use native.Mathlib.Decide.{dec_lt}
use lib.IntN.{ℤ, pos, ◌*ℤ◌}
use Rattle.plane.specs.Place.{place_of, in_range}
use Rattle.plane.specs.Points.{Lines}
use Rattle.plane.specs.Ray.{Pin}
use Rattle.plane.specs.Placed.{LinesInRange, box_of, Upright}
use Rattle.plane.specs.Tiles.{Inside, column_of, row_of}
use Rattle.plane.proofs.Place.{place_at_most}
use Rattle.plane.proofs.Difference.{Diff}
use Rattle.edge.proofs.Weights.{InCol}
use Rattle.ring.specs.Edges.{corner, after, RingInRange}
use Rattle.ring.specs.RingBox.{BoxIs, Covers}
use Rattle.ring.specs.Enclosed.{Enclosed, centre}
use Rattle.ring.proofs.Edges.{after_in_range}
use Rattle.ring.proofs.RingBox.{box_in_range}
use Rattle.ring.proofs.Enclosed.{shift_eq, end_place, centre_in_places}
use Rattle.pin.specs.Pins.{InTile, OnLine, EdgeIn}
use Rattle.pin.proofs.Untouched.{Touch, Spans, middle, all_odd}
use Rattle.pin.proofs.Entered.{entered_has}
use Rattle.pin.proofs.Origin.{X, Y, View, view, odd_first, odd_second, in_range_lem, in_column}

-- ---- one axis: numbers m times more and o further off
module _ (lo hi a b j k m o : ℕ) where
  shrink : (c : ℕ) → InCol c (m * (lo + o)) (m * (hi + o)) (j + k) (j * (m * (a + o)) + k * (m * (b + o))) → InCol c lo hi (j + k) (j * a + k * b)
  shrink zero h = lt_of_mul-lt-mul_left m (omega arith)
  shrink (suc zero) h = (lt_of_mul-lt-mul_left m (omega arith), lt_of_mul-lt-mul_left m (omega arith))
  shrink (suc (suc c)) h = lt_of_mul-lt-mul_left m (omega arith)

-- ---- one axis: a pin lies strictly inside a range, or on a line
range_or_line : (o d p : ℕ) (z lo hi : ℤ) → Diff z p (d * (1000000 + o)) → in_range lo ≡ true → in_range hi ≡ true
    → ((c : ℕ) × (c < 3) × Inside c lo hi d z) ⊎ ((z ≡ pos d *ℤ lo) ⊎ (z ≡ pos d *ℤ hi))
range_or_line o d p z lo hi place hl hh = go (dec_lt p u) (dec_lt u p) (dec_lt p v) (dec_lt v p)
  where
    u : ℕ
    u = d * (place_of lo + o)

    v : ℕ
    v = d * (place_of hi + o)

    within : (c : ℕ) → Inside c lo hi d z ↔ InCol c (place_of lo + o) (place_of hi + o) d p
    within c = in_range_lem o d z p place lo hi hl hh c

    on : (l : ℤ) (h : in_range l ≡ true) → p ≡ d * (place_of l + o) → z ≡ pos d *ℤ l
    on l h e = (shift_eq z (pos d *ℤ l) p (d * (place_of l + o)) (d * (1000000 + o)) place (end_place o d l h)).1 e

    go : Dec (p < u) → Dec (u < p) → Dec (p < v) → Dec (v < p) → ((c : ℕ) × (c < 3) × Inside c lo hi d z) ⊎ ((z ≡ pos d *ℤ lo) ⊎ (z ≡ pos d *ℤ hi))
    go (yes a) b c e = inl (0, omega arith, (within 0).1 a)
    go (no a) (no b) c e = inr (inl (on lo hl (omega arith)))
    go (no a) (yes b) (yes c) e = inl (1, omega arith, (within 1).1 (b, c))
    go (no a) (yes b) (no c) (yes e) = inl (2, omega arith, (within 2).1 e)
    go (no a) (yes b) (no c) (no e) = inr (inr (on hi hh (omega arith)))

-- the tile in column c and row r
tile_of_lem : (c r : ℕ) → c < 3 → r < 3 → (t : ℕ) × (t < 9) × (column_of t ≡ c) × (row_of t ≡ r)
tile_of_lem c r hc hr = (3 * (2 - r) + c, omega arith, omega arith, omega arith)

module _ (L : Lines) (l : LinesInRange L) where
  pub tile_or_line : (P : Pin) → ((t : ℕ) × (t < 9) × InTile L P t) ⊎ OnLine L P
  tile_or_line P =
      let v = view P P in
      go (range_or_line v.o P.n v.px P.x L.west L.east v.first.x l.west l.east)
      (range_or_line v.o P.n v.py P.y L.south L.north v.first.y l.south l.north)
    where
      go : ((c : ℕ) × (c < 3) × Inside c L.west L.east P.n P.x) ⊎ ((P.x ≡ pos P.n *ℤ L.west) ⊎ (P.x ≡ pos P.n *ℤ L.east))
          → ((r : ℕ) × (r < 3) × Inside r L.south L.north P.n P.y) ⊎ ((P.y ≡ pos P.n *ℤ L.south) ⊎ (P.y ≡ pos P.n *ℤ L.north))
          → ((t : ℕ) × (t < 9) × InTile L P t) ⊎ OnLine L P
      go (inr x) y = inr (inl x)
      go (inl x) (inr y) = inr (inr y)
      go (inl x) (inl y) =
          let t = tile_of_lem x.0 y.0 x.1 y.1 in
          inl (t.0, t.1, (rw t.2 x.2, rw t.3 y.2))

  -- ---- the middle tile
  pub middle_wide : (P : Pin) → InTile L P 4 → (place_of L.west < place_of L.east) × (place_of L.south < place_of L.north)
  middle_wide P i =
      let v = view P P in
      let x = (in_range_lem v.o P.n P.x v.px v.first.x L.west L.east l.west l.east 1).0 i.0 in
      let y = (in_range_lem v.o P.n P.y v.py v.first.y L.south L.north l.south l.north 1).0 i.1 in
      (between (place_of L.west) (place_of L.east) v.o v.px x.0 x.1, between (place_of L.south) (place_of L.north) v.o v.py y.0 y.1)
    where
      between : (lo hi o p : ℕ) → P.n * (lo + o) < p → p < P.n * (hi + o) → lo < hi
      between lo hi o p h k = let q : lo + o < hi + o = lt_of_mul-lt-mul_left P.n (omega arith) in omega arith

  pub centre_in : place_of L.west < place_of L.east → place_of L.south < place_of L.north → InTile L (centre L) 4
  centre_in we sn =
      let c = centre_in_places L l in (
        (in_range_lem 0 2 (centre L).x (place_of L.west + place_of L.east) c.x L.west L.east l.west l.east 1).1 (omega arith, omega arith),
        (in_range_lem 0 2 (centre L).y (place_of L.south + place_of L.north) c.y L.south L.north l.south l.north 1).1 (omega arith, omega arith),
      )

  -- ---- a ring
  module _ (up : Upright (box_of L)) (xs : List ℤ) (from n : ℕ) (r : RingInRange xs from n) where
    -- the tile in the numbers of Parity
    abbrev pub TouchAt : (o m t : ℕ) → Type 0
    TouchAt o m t =
        Touch (X xs o m) (Y xs o m) from n (column_of t) (m * (place_of L.west + o)) (m * (place_of L.east + o))
        (row_of t) (m * (place_of L.south + o)) (m * (place_of L.north + o))

    pub touch_in : (o m t : ℕ) → TouchAt o m t → EdgeIn L xs from n t
    touch_in o m t p =
        let A = corner xs from p.i in
        let B = after xs from n p.i in (
          p.i,
          p.low,
          entered_has L A B t l (r.at p.i p.low) (after_in_range xs from n p.i r p.low) up
              (λ q. p.apart (ap (λ z. m * (place_of z + o)) q.0, ap (λ z. m * (place_of z + o)) q.1)) p.j p.k
              (shrink (place_of L.west) (place_of L.east) (place_of A.x) (place_of B.x) p.j p.k m o (column_of t) p.column)
              (shrink (place_of L.south) (place_of L.north) (place_of A.y) (place_of B.y) p.j p.k m o (row_of t) p.row),
        )

    module _ (P Q : Pin) (v : View P Q) (t : ℕ) where
      abbrev m : ℕ
      m = Q.n * P.n

      abbrev pub At : (px py : ℕ) → Type 0
      At px py =
          InCol (column_of t) (m * (place_of L.west + v.o)) (m * (place_of L.east + v.o)) 1 px
          × InCol (row_of t) (m * (place_of L.south + v.o)) (m * (place_of L.north + v.o)) 1 py

      pub first_at : InTile L P t → At (Q.n * v.px) (Q.n * v.py)
      first_at i = (
        in_column v.o P.n P.x v.px v.first.x Q.n Q.some L.west L.east l.west l.east (column_of t) i.0,
        in_column v.o P.n P.y v.py v.first.y Q.n Q.some L.south L.north l.south l.north (row_of t) i.1,
      )

      second_at : InTile L Q t → At (P.n * v.qx) (P.n * v.qy)
      second_at i = (
        rw (mul_comm P.n Q.n) at (in_column v.o Q.n Q.x v.qx v.second.x P.n P.some L.west L.east l.west l.east (column_of t) i.0),
        rw (mul_comm P.n Q.n) at (in_column v.o Q.n Q.y v.qy v.second.y P.n P.some L.south L.north l.south l.north (row_of t) i.1),
      )

      abbrev InMiddle : Type 0
      InMiddle =
          (column_of t ≡ 1) × (row_of t ≡ 1) × Spans (X xs v.o m) from n (m * (place_of L.west + v.o)) (m * (place_of L.east + v.o))
          × Spans (Y xs v.o m) from n (m * (place_of L.south + v.o)) (m * (place_of L.north + v.o))

      in_middle : (EdgeIn L xs from n t → ⊥) → InTile L P t → Enclosed P xs from n → InMiddle
      in_middle none i e =
          let a = first_at i in
          let M = middle (X xs v.o m) (Y xs v.o m) from n (column_of t) (m * (place_of L.west + v.o)) (m * (place_of L.east + v.o))
          (row_of t) (m * (place_of L.south + v.o)) (m * (place_of L.north + v.o)) (λ p. none (touch_in v.o m t p))
          (Q.n * v.px) (Q.n * v.py) a.0 a.1 ((odd_first xs from n r P Q v).0 e) in
          (M.column, M.row, M.across, M.up)

    four : (t : ℕ) → t < 9 → column_of t ≡ 1 → row_of t ≡ 1 → t ≡ 4
    four t ht c d = omega arith

    same_in_middle : (P Q : Pin) → (EdgeIn L xs from n 4 → ⊥) → InTile L P 4 → InTile L Q 4 → Enclosed P xs from n → Enclosed Q xs from n
    same_in_middle P Q none i k e =
        let v = view P Q in
        let a = first_at P Q v 4 i in
        let b = second_at P Q v 4 k in
        (odd_second xs from n r P Q v).1
        (all_odd (X xs v.o (m P Q v 4)) (Y xs v.o (m P Q v 4)) from n (m P Q v 4 * (place_of L.west + v.o)) (m P Q v 4 * (place_of L.east + v.o))
        (m P Q v 4 * (place_of L.south + v.o)) (m P Q v 4 * (place_of L.north + v.o)) (λ p. none (touch_in v.o (m P Q v 4) 4 p))
        (Q.n * v.px) (Q.n * v.py) (P.n * v.qx) (P.n * v.qy) a.0 a.1 b.0 b.1 ((odd_first xs from n r P Q v).0 e))

    module _ (t : ℕ) (ht : t < 9) (none : EdgeIn L xs from n t → ⊥) where
      pub same_in_tile : (P Q : Pin) → InTile L P t → InTile L Q t → Enclosed P xs from n → Enclosed Q xs from n
      same_in_tile P Q i k e =
          let M = in_middle P Q (view P Q) t none i e in
          let q = four t ht M.0 M.1 in
          same_in_middle P Q (rw q at none) (rw q at i) (rw q at k) e

      pub only_middle : (P : Pin) → InTile L P t → Enclosed P xs from n → (t ≡ 4) × ((K : Lines) → BoxIs xs from n K → Covers K L)
      only_middle P i e =
          let v = view P P in
          let M = in_middle P P v t none i e in (
            four t ht M.0 M.1,
            λ K is.
                let k = box_in_range xs from n r K is in
                record {
                  west = (place_at_most _ _ k.west l.west).1
                      (low v (λ i. (corner xs from i).x) K.west L.west (λ i h. (place_at_most _ _ k.west (r.at i h).x).0 (is.west.none_below i h)) M.2.low);
                  south = (place_at_most _ _ k.south l.south).1
                      (low v (λ i. (corner xs from i).y) K.south L.south (λ i h. (place_at_most _ _ k.south (r.at i h).y).0 (is.south.none_below i h)) M.3.low);
                  east = (place_at_most _ _ l.east k.east).1
                      (high v (λ i. (corner xs from i).x) K.east L.east (λ i h. (place_at_most _ _ (r.at i h).x k.east).0 (is.east.none_above i h)) M.2.high);
                  north = (place_at_most _ _ l.north k.north).1
                      (high v (λ i. (corner xs from i).y) K.north L.north (λ i h. (place_at_most _ _ (r.at i h).y k.north).0 (is.north.none_above i h)) M.3.high);
                },
          )
        where
          size : 0 < P.n * P.n
          size = mul-pos P.some P.some

          low : (v : View P P) (z : ℕ → ℤ) (u w : ℤ) → ((i : ℕ) → i < n → place_of u ≤ place_of (z i))
              → (i : ℕ) × (i < n) × (P.n * P.n * (place_of (z i) + v.o) ≤ P.n * P.n * (place_of w + v.o)) → place_of u ≤ place_of w
          low v z u w least x =
              omega (arith, least x.0 x.1, le_of_mul-le-mul_left {m = place_of (z x.0) + v.o} {n = place_of w + v.o} {k = P.n * P.n} x.2 size)

          high : (v : View P P) (z : ℕ → ℤ) (u w : ℤ) → ((i : ℕ) → i < n → place_of (z i) ≤ place_of u)
              → (i : ℕ) × (i < n) × (P.n * P.n * (place_of w + v.o) ≤ P.n * P.n * (place_of (z i) + v.o)) → place_of w ≤ place_of u
          high v z u w most x =
              omega (arith, most x.0 x.1, le_of_mul-le-mul_left {m = place_of w + v.o} {n = place_of (z x.0) + v.o} {k = P.n * P.n} x.2 size)
