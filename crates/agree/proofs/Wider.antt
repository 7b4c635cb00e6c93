-- A ring that has the middle tile of a cell has the tile of a box around that cell: the cell lies in one column and one row of the box.
--   Around c lo hi p q    everything between p and q lies in range c of the lines lo and hi, in places;  around_places  the same of coordinates
--   wider               what lies strictly between p and q lies strictly inside the range
--   tile_wider          an edge with the cell's middle tile has the tile around the cell;  ring_wider  so has a ring
use mathlib.Core.Path.{◌≡◌, refl, sym, ◌∙◌, ap}
use mathlib.Core.Logic.{◌⊎◌, inl, inr, ⊎_elim, ◌≢◌}
use mathlib.Core.Bool.{true}
use mathlib.Core.List.{List}
use Prim.Native.Nat.{ℕ, zero, suc, ◌+◌, ◌*◌, ◌≤◌, ◌<◌}
use native.Mathlib.Omega.{arith}
use native.Mathlib.Nat.{mul-le-mul_left, mul-lt-mul_of_pos_left}
use native.Mathlib.Decide.{dec_lt}
use lib.IntN.{ℤ}
use lib.Signed.{◌<ℤ◌}
use Rattle.plane.specs.Place.{place_of, in_range}
use Rattle.plane.specs.Points.{Point, Lines, along, Fraction}
use Rattle.plane.specs.Placed.{PointInRange, LinesInRange, box_of, Upright}
use Rattle.plane.specs.Tiles.{column_of, row_of}
use Rattle.plane.proofs.Place.{place_lt, place_eq, place_at_most}
use Rattle.edge.specs.Clauses.{Apart, After, Before, BelongsTo, inside, going_north, going_south, going_east, going_west, HasTile}
use Rattle.edge.proofs.Weights.{fraction, rest, rest_pos, rest_sum, InCol}
use Rattle.ring.specs.Edges.{corner, after, RingInRange}
use Rattle.ring.specs.Enclosed.{centre}
use Rattle.ring.specs.RingTiles.{RingHas}
use Rattle.ring.proofs.Edges.{after_in_range}
use Rattle.ring.proofs.Enclosed.{centre_in_places}
use Rattle.matrix.specs.Holding.{RangeContains}
use Rattle.pin.specs.Pins.{InTile}
use Rattle.pin.proofs.Entered.{inside_place, entered_has}
use Rattle.pin.proofs.Origin.{in_range_lem}
use Rattle.pin.proofs.Pins.{ring_accounted}
use Rattle.drawing.specs.Marks.{Between}
use Rattle.drawing.proofs.Drawing.{Roomy}
use Rattle.agree.proofs.Middle.{point_in}

abbrev pub Around : (c lo hi p q : ℕ) → Type 0
Around zero lo hi p q = q ≤ lo
Around (suc zero) lo hi p q = (lo ≤ p) × (q ≤ hi)
Around (suc (suc c)) lo hi p q = hi ≤ p

pub around_places : (c : ℕ) (lo hi p q : ℤ) → in_range lo ≡ true → in_range hi ≡ true → in_range p ≡ true → in_range q ≡ true → RangeContains c lo hi p q
    → Around c (place_of lo) (place_of hi) (place_of p) (place_of q)
around_places zero lo hi p q hl hh hp hq x = (place_at_most q lo hq hl).0 x
around_places (suc zero) lo hi p q hl hh hp hq x = ((place_at_most lo p hl hp).0 x.0, (place_at_most q hi hq hh).0 x.1)
around_places (suc (suc c)) lo hi p q hl hh hp hq x = (place_at_most hi p hh hp).0 x

pub wider : (c lo hi p q m x : ℕ) → Around c lo hi p q → InCol 1 p q m x → InCol c lo hi m x
wider zero lo hi p q m x a h = omega (arith, h.1, mul-le-mul_left m a)
wider (suc zero) lo hi p q m x a h = (omega (arith, h.0, mul-le-mul_left m a.0), omega (arith, h.1, mul-le-mul_left m a.1))
wider (suc (suc c)) lo hi p q m x a h = omega (arith, h.0, mul-le-mul_left m a)

no_more : (c lo hi p q : ℕ) → Around c lo hi p q → Around c (lo + 0) (hi + 0) p q
no_more zero lo hi p q a = omega arith
no_more (suc zero) lo hi p q a = (omega arith, omega arith)
no_more (suc (suc c)) lo hi p q a = omega arith

-- an axis that stands still at v
standing : (c lo hi a b v j k : ℕ) → 0 < j → a ≡ v → b ≡ v → InCol c lo hi 1 v → InCol c lo hi (j + k) (j * a + k * b)
standing c lo hi a b v j k hj e f h = rw (e, f) (go c h)
  where
    some : 0 < j + k
    some = omega (arith, hj)

    go : (c : ℕ) → InCol c lo hi 1 v → InCol c lo hi (j + k) (j * v + k * v)
    go zero h = let l : v < lo = omega arith in omega (arith, mul-lt-mul_of_pos_left l some)
    go (suc zero) h =
        let l : lo < v = omega arith in
        let u : v < hi = omega arith in
        (omega (arith, mul-lt-mul_of_pos_left l some), omega (arith, mul-lt-mul_of_pos_left u some))
    go (suc (suc c)) h = let l : hi < v = omega arith in omega (arith, mul-lt-mul_of_pos_left l some)

-- the range just past p, and just short of q
past : (c lo hi p q : ℕ) → c < 3 → p < q → Around c lo hi p q → InCol c lo hi 1 p ⊎ (((p ≡ lo) × (lo < hi) × (c ≡ 1)) ⊎ ((p ≡ hi) × (c ≡ 2)))
past zero lo hi p q h w a = inl (omega arith)
past (suc zero) lo hi p q h w a = elim (dec_lt lo p) [ yes l ↦ inl (omega arith, omega arith) | no l ↦ inr (inl (omega arith, omega arith, refl)) ]
past (suc (suc zero)) lo hi p q h w a = elim (dec_lt hi p) [ yes l ↦ inl (omega arith) | no l ↦ inr (inr (omega arith, refl)) ]
past (suc (suc (suc c))) lo hi p q h w a = absurd (omega arith)

short : (c lo hi p q : ℕ) → c < 3 → p < q → Around c lo hi p q → InCol c lo hi 1 q ⊎ (((q ≡ hi) × (lo < hi) × (c ≡ 1)) ⊎ ((q ≡ lo) × (c ≡ 0)))
short zero lo hi p q h w a = elim (dec_lt q lo) [ yes l ↦ inl (omega arith) | no l ↦ inr (inr (omega arith, refl)) ]
short (suc zero) lo hi p q h w a = elim (dec_lt q hi) [ yes l ↦ inl (omega arith, omega arith) | no l ↦ inr (inl (omega arith, omega arith, refl)) ]
short (suc (suc zero)) lo hi p q h w a = inl (omega arith)
short (suc (suc (suc c))) lo hi p q h w a = absurd (omega arith)

module _ (M K : Lines) (m : LinesInRange M) (k : LinesInRange K) (room : Roomy K) (up : Upright (box_of M)) (t : ℕ) (ht : t < 9)
    (col : Around (column_of t) (place_of M.west) (place_of M.east) (place_of K.west) (place_of K.east))
    (row : Around (row_of t) (place_of M.south) (place_of M.north) (place_of K.south) (place_of K.north)) where
  wide : place_of K.west < place_of K.east
  wide = (place_lt K.west K.east k.west k.east).0 room.wide

  high : place_of K.south < place_of K.north
  high = (place_lt K.south K.north k.south k.north).0 room.high

  -- the sides of a line in places, over coordinates
  after_line : (lo hi a v : ℤ) → in_range lo ≡ true → in_range hi ≡ true → in_range a ≡ true → a ≡ v → (c : ℕ)
      → ((place_of v ≡ place_of lo) × (place_of lo < place_of hi) × (c ≡ 1)) ⊎ ((place_of v ≡ place_of hi) × (c ≡ 2)) → After lo hi a c
  after_line lo hi a v hl hh ha e c (inl s) = inl ((place_eq a lo ha hl).1 (ap place_of e ∙ s.0), (place_lt lo hi hl hh).1 s.1, s.2)
  after_line lo hi a v hl hh ha e c (inr s) = inr ((place_eq a hi ha hh).1 (ap place_of e ∙ s.0), s.1)

  before_line : (lo hi a v : ℤ) → in_range lo ≡ true → in_range hi ≡ true → in_range a ≡ true → a ≡ v → (c : ℕ)
      → ((place_of v ≡ place_of hi) × (place_of lo < place_of hi) × (c ≡ 1)) ⊎ ((place_of v ≡ place_of lo) × (c ≡ 0)) → Before lo hi a c
  before_line lo hi a v hl hh ha e c (inl s) = inl ((place_eq a hi ha hh).1 (ap place_of e ∙ s.0), (place_lt lo hi hl hh).1 s.1, s.2)
  before_line lo hi a v hl hh ha e c (inr s) = inr ((place_eq a lo ha hl).1 (ap place_of e ∙ s.0), s.1)

  module _ (A B : Point) (a : PointInRange A) (b : PointInRange B) where
    module _ (p : Fraction) where
      abbrev X : Type 0
      X = InCol (column_of t) (place_of M.west) (place_of M.east) (rest p + p.k) (rest p * place_of A.x + p.k * place_of B.x)

      abbrev Y : Type 0
      Y = InCol (row_of t) (place_of M.south) (place_of M.north) (rest p + p.k) (rest p * place_of A.y + p.k * place_of B.y)

      entered : Apart A B → X → Y → HasTile M A B t
      entered apart x y = entered_has M A B t m a b up apart (rest p) p.k x y

      abbrev point : Fraction
      point = fraction (rest p) p.k (rest_pos p) p.above

      on_x : (v : ℤ) → A.x ≡ B.x → A.x ≡ v → InCol (column_of t) (place_of M.west) (place_of M.east) 1 (place_of v) → X
      on_x v e f h = standing (column_of t) _ _ _ _ (place_of v) (rest p) p.k (rest_pos p) (ap place_of f) (ap place_of (sym e ∙ f)) h

      on_y : (v : ℤ) → A.y ≡ B.y → A.y ≡ v → InCol (row_of t) (place_of M.south) (place_of M.north) 1 (place_of v) → Y
      on_y v e f h = standing (row_of t) _ _ _ _ (place_of v) (rest p) p.k (rest_pos p) (ap place_of f) (ap place_of (sym e ∙ f)) h

      -- the coordinates differ, as the edge runs
      rises : (u v : ℤ) → in_range u ≡ true → in_range v ≡ true → u <ℤ v → u ≢ v
      rises u v hu hv l e = omega (arith, (place_lt u v hu hv).0 l, ap place_of e)

    pub tile_wider : (p : Fraction) → BelongsTo K A B p 4 → HasTile M A B t
    tile_wider p belongs = go belongs
      where
        cols : Between K.west K.east p.n (along p.n p.k A.x B.x) → X p
        cols x = wider (column_of t) _ _ _ _ _ _ col (point_in K.west K.east A.x B.x k.west k.east a.x b.x p (rest p) (rest_sum p) x)

        rows : Between K.south K.north p.n (along p.n p.k A.y B.y) → Y p
        rows y = wider (row_of t) _ _ _ _ _ _ row (point_in K.south K.north A.y B.y k.south k.north a.y b.y p (rest p) (rest_sum p) y)

        go : BelongsTo K A B p 4 → HasTile M A B t
        go (inside apart _ _ x y) = entered p apart (cols x) (rows y)
        go (going_north e u y (inr s)) = absurd (omega (arith, s.1))
        go (going_north e u y (inl s)) =
            ⊎_elim (λ z. entered p (λ q. rises p A.y B.y a.y b.y u q.1) (on_x p K.west e s.0 z) (rows y))
            (λ z. (
              point p,
              going_north e u ((inside_place M.south M.north A.y B.y m.south m.north a.y b.y (rest p) p.k (row_of t)).1 (rows y))
                  (after_line M.west M.east A.x K.west m.west m.east a.x s.0 (column_of t) z),
            ))
            (past (column_of t) _ _ _ _ (omega arith) wide col)
        go (going_south e u y (inr s)) = absurd (omega (arith, s.1))
        go (going_south e u y (inl s)) =
            ⊎_elim (λ z. entered p (λ q. rises p B.y A.y b.y a.y u (sym q.1)) (on_x p K.east e s.0 z) (rows y))
            (λ z. (
              point p,
              going_south e u ((inside_place M.south M.north A.y B.y m.south m.north a.y b.y (rest p) p.k (row_of t)).1 (rows y))
                  (before_line M.west M.east A.x K.east m.west m.east a.x s.0 (column_of t) z),
            ))
            (short (column_of t) _ _ _ _ (omega arith) wide col)
        go (going_east e u x (inr s)) = absurd (omega (arith, s.1))
        go (going_east e u x (inl s)) =
            ⊎_elim (λ z. entered p (λ q. rises p A.x B.x a.x b.x u q.0) (cols x) (on_y p K.north e s.0 z))
            (λ z. (
              point p,
              going_east e u ((inside_place M.west M.east A.x B.x m.west m.east a.x b.x (rest p) p.k (column_of t)).1 (cols x))
                  (before_line M.south M.north A.y K.north m.south m.north a.y s.0 (row_of t) z),
            ))
            (short (row_of t) _ _ _ _ (omega arith) high row)
        go (going_west e u x (inr s)) = absurd (omega (arith, s.1))
        go (going_west e u x (inl s)) =
            ⊎_elim (λ z. entered p (λ q. rises p B.x A.x b.x a.x u (sym q.0)) (cols x) (on_y p K.south e s.0 z))
            (λ z. (
              point p,
              going_west e u ((inside_place M.west M.east A.x B.x m.west m.east a.x b.x (rest p) p.k (column_of t)).1 (cols x))
                  (after_line M.south M.north A.y K.south m.south m.north a.y s.0 (row_of t) z),
            ))
            (past (row_of t) _ _ _ _ (omega arith) high row)

  centre_tile : InTile M (centre K) t
  centre_tile =
      let c = centre_in_places K k in (
        (in_range_lem 0 2 (centre K).x (place_of K.west + place_of K.east) c.x M.west M.east m.west m.east (column_of t)).1
            (wider (column_of t) _ _ _ _ _ _ (no_more (column_of t) _ _ _ _ col) (omega (arith, wide), omega (arith, wide))),
        (in_range_lem 0 2 (centre K).y (place_of K.south + place_of K.north) c.y M.south M.north m.south m.north (row_of t)).1
            (wider (row_of t) _ _ _ _ _ _ (no_more (row_of t) _ _ _ _ row) (omega (arith, high), omega (arith, high))),
      )

  pub ring_wider : (xs : List ℤ) (from n : ℕ) → RingInRange xs from n → 0 < n → RingHas K xs from n 4 → RingHas M xs from n t
  ring_wider xs from n r some (inl (i, h, (p, x))) = inl (i, h, tile_wider (corner xs from i) (after xs from n i) (r.at i h) (after_in_range xs from n i r h) p x)
  ring_wider xs from n r some (inr x) = ring_accounted M m up xs from n r some (centre K) t ht x.1.enclosed centre_tile
