-- A point of an edge belongs to a tile exactly where the point of the moved edge with the same weights lies inside the tile: for
-- coordinates in range and a box whose west is at most its east and whose south is at most its north.
--   equal_ends_lem    whether the ends are equal;  apart_places  they differ exactly where their places do
--   MovedPoint p t    the point p of the moved edge lies strictly inside tile t of the doubled box
--   meets_point       there the moved edge meets the tile, with the weights of p
--   belongs_moved     the point p belongs to tile t exactly there
--   has_tile_meets    so an edge with different ends has a tile exactly where the moved edge meets it
use mathlib.Core.Path.{◌≡◌, sym, subst}
use mathlib.Core.Logic.{◌↔◌, ◌⊎◌, inl, inr, ⊎_elim, ◌≢◌}
use mathlib.Core.Bool.{true}
use Prim.Native.Nat.{ℕ, zero, suc, ◌+◌, ◌*◌, ◌<◌}
use native.Mathlib.Omega.{arith}
use native.Mathlib.Decide.{ℕ_discrete, dec_lt}
use lib.IntN.{ℤ}
use lib.Signed.{◌<ℤ◌}
use Rattle.plane.specs.Place.{in_range, place_of}
use Rattle.plane.specs.Points.{Point, Lines, along, Fraction}
use Rattle.plane.specs.Placed.{PointInRange, LinesInRange, edge_of, box_of, Upright}
use Rattle.plane.specs.Tiles.{Inside, column_of, row_of}
use Rattle.plane.specs.declared.Box.{Box}
use Rattle.plane.specs.declared.Edge.{Edge}
use Rattle.plane.proofs.Logic.{iff_and, iff_or, iff_not}
use Rattle.plane.proofs.Place.{place_lt, place_eq}
use Rattle.plane.proofs.Points.{before_line, past_line}
use Rattle.edge.specs.Clauses.{Apart, AlongUpright, AlongLevel, After, Before, BelongsTo, inside, going_north, going_south, going_east, going_west, HasTile}
use Rattle.edge.proofs.MovedEdge.{doubled_box, moved_edge}
use Rattle.edge.proofs.Weights.{fraction, rest, rest_pos, rest_sum, rest_of, InCol, Meets, EqualEnds, On, Past, Short}
use Rattle.edge.proofs.MovedAxis.{Strip, column_strip, row_strip, MovedAt, moved_across, moved_off, moved_past, moved_short}

-- ---- one axis: a range c of the lines lo and hi, an edge from a to b. Each part of the clauses, over coordinates and in places
record Carried (c : ℕ) (lo hi a b : ℤ) : Type 0 where
  same : (a ≡ b) ↔ (place_of a ≡ place_of b)
  rising : (a <ℤ b) ↔ (place_of a < place_of b)
  falling : (b <ℤ a) ↔ (place_of b < place_of a)
  along_line : ((a ≡ b) × ((a ≡ lo) ⊎ (a ≡ hi))) ↔ ((place_of a ≡ place_of b) × On (place_of a) (place_of lo) (place_of hi))
  after : After lo hi a c ↔ Past (place_of lo) (place_of hi) (place_of a) c
  before : Before lo hi a c ↔ Short (place_of lo) (place_of hi) (place_of a) c
  point : (p : Fraction) → Inside c lo hi p.n (along p.n p.k a b) ↔ InCol c (place_of lo) (place_of hi) (rest p + p.k) (rest p * place_of a + p.k * place_of b)

module _ (lo hi a b : ℤ) (hl : in_range lo ≡ true) (hh : in_range hi ≡ true) (ha : in_range a ≡ true) (hb : in_range b ≡ true) where
  inside_place : (j k c : ℕ) → Inside c lo hi (j + k) (along (j + k) k a b) ↔ InCol c (place_of lo) (place_of hi) (j + k) (j * place_of a + k * place_of b)
  inside_place j k zero = before_line a b lo j k ha hb hl
  inside_place j k (suc zero) = iff_and (past_line a b lo j k ha hb hl) (before_line a b hi j k ha hb hh)
  inside_place j k (suc (suc c)) = past_line a b hi j k ha hb hh

  -- the range beside a line, where p and q are the two lines in either order
  beside : (p q : ℤ) → in_range p ≡ true → in_range q ≡ true → (c r : ℕ)
      → (((a ≡ p) × (lo <ℤ hi) × (c ≡ 1)) ⊎ ((a ≡ q) × (c ≡ r)))
      ↔ (((place_of a ≡ place_of p) × (place_of lo < place_of hi) × (c ≡ 1)) ⊎ ((place_of a ≡ place_of q) × (c ≡ r)))
  beside p q hp hq c r =
      let order = place_lt lo hi hl hh in
      let first = place_eq a p ha hp in
      iff_or (λ x. (first.0 x.0, order.0 x.1, x.2), λ x. (first.1 x.0, order.1 x.1, x.2)) (iff_and (place_eq a q ha hq) (λ x. x, λ x. x))

  carried : (c : ℕ) → Carried c lo hi a b
  carried c =
      record {
        same = place_eq a b ha hb;
        rising = place_lt a b ha hb;
        falling = place_lt b a hb ha;
        along_line = iff_and (place_eq a b ha hb) (iff_or (place_eq a lo ha hl) (place_eq a hi ha hh));
        after = beside lo hi hl hh c 2;
        before = beside hi lo hh hl c 0;
        point = λ p.
            subst (λ (n : ℕ). Inside c lo hi n (along n p.k a b) ↔ InCol c (place_of lo) (place_of hi) (rest p + p.k) (rest p * place_of a + p.k * place_of b))
            (sym (rest_sum p)) (inside_place (rest p) p.k c);
      }

-- ---- which case an edge is
on_line : (x lo hi : ℕ) → Dec (On x lo hi)
on_line x lo hi = go (ℕ_discrete x lo) (ℕ_discrete x hi)
  where
    go : Dec (x ≡ lo) → Dec (x ≡ hi) → Dec (On x lo hi)
    go (yes p) q = yes (inl p)
    go (no p) (yes q) = yes (inr q)
    go (no p) (no q) = no (λ o. ⊎_elim p q o)

pub equal_ends_lem : (g : Edge) → Dec (EqualEnds g)
equal_ends_lem g = go (ℕ_discrete g.ax g.bx) (ℕ_discrete g.ay g.by)
  where
    go : Dec (g.ax ≡ g.bx) → Dec (g.ay ≡ g.by) → Dec (EqualEnds g)
    go (yes e) (yes f) = yes (e, f)
    go (no e) d = no (λ q. e q.0)
    go (yes e) (no f) = no (λ q. f q.1)

pub apart_places : (A B : Point) → PointInRange A → PointInRange B → Apart A B ↔ (EqualEnds (edge_of A B) → ⊥)
apart_places A B ra rb = iff_not (iff_and (place_eq A.x B.x ra.x rb.x) (place_eq A.y B.y ra.y rb.y))

-- ---- both axes
module _ (L : Lines) (A B : Point) (rl : LinesInRange L) (ra : PointInRange A) (rb : PointInRange B) (up : Upright (box_of L)) where
  abbrev b : Box
  b = box_of L

  abbrev g : Edge
  g = edge_of A B

  pub record MovedPoint (p : Fraction) (t : ℕ) : Type 0 where
    pub column : MovedAt (column_strip b g t) (rest p) p.k
    pub row : MovedAt (row_strip b g t) (rest p) p.k

  module _ (p : Fraction) (t : ℕ) where
    abbrev X : Strip
    X = column_strip b g t

    abbrev Y : Strip
    Y = row_strip b g t

    x : Carried (column_of t) L.west L.east A.x B.x
    x = carried L.west L.east A.x B.x rl.west rl.east ra.x rb.x (column_of t)

    y : Carried (row_of t) L.south L.north A.y B.y
    y = carried L.south L.north A.y B.y rl.south rl.north ra.y rb.y (row_of t)

    across_x : g.ax ≢ g.bx → MovedAt X (rest p) p.k ↔ InCol (column_of t) b.west b.east (rest p + p.k) (rest p * g.ax + p.k * g.bx)
    across_x n = moved_across X (rest p) p.k (rest_pos p) n

    across_y : g.ay ≢ g.by → MovedAt Y (rest p) p.k ↔ InCol (row_of t) b.south b.north (rest p + p.k) (rest p * g.ay + p.k * g.by)
    across_y n = moved_across Y (rest p) p.k (rest_pos p) n

    past_x : g.ax ≡ g.bx → g.ay < g.by → (On g.ax b.west b.east × MovedAt X (rest p) p.k) ↔ Past b.west b.east g.ax (column_of t)
    past_x e l = moved_past X (rest p) p.k (rest_pos p) up.x (omega arith) e l

    short_x : g.ax ≡ g.bx → g.by < g.ay → (On g.ax b.west b.east × MovedAt X (rest p) p.k) ↔ Short b.west b.east g.ax (column_of t)
    short_x e l = moved_short X (rest p) p.k (rest_pos p) up.x (omega arith) e l

    past_y : g.ay ≡ g.by → g.bx < g.ax → (On g.ay b.south b.north × MovedAt Y (rest p) p.k) ↔ Past b.south b.north g.ay (row_of t)
    past_y e l = moved_past Y (rest p) p.k (rest_pos p) up.y (omega arith) e l

    short_y : g.ay ≡ g.by → g.ax < g.bx → (On g.ay b.south b.north × MovedAt Y (rest p) p.k) ↔ Short b.south b.north g.ay (row_of t)
    short_y e l = moved_short Y (rest p) p.k (rest_pos p) up.y (omega arith) e l

    there : BelongsTo L A B p t → (EqualEnds g → ⊥) × MovedPoint p t
    there (inside n nx ny c r) = (
      (apart_places A B ra rb).0 n,
      record {
        column = (moved_off X (rest p) p.k (rest_pos p) ((iff_not x.along_line).0 nx)).1 ((x.point p).0 c);
        row = (moved_off Y (rest p) p.k (rest_pos p) ((iff_not y.along_line).0 ny)).1 ((y.point p).0 r);
      },
    )
    there (going_north e l r s) =
        let l' = y.rising.0 l in
        (λ q. omega (arith, q.1), record { column = ((past_x (x.same.0 e) l').1 (x.after.0 s)).1; row = (across_y (omega arith)).1 ((y.point p).0 r) })
    there (going_south e l r s) =
        let l' = y.falling.0 l in
        (λ q. omega (arith, q.1), record { column = ((short_x (x.same.0 e) l').1 (x.before.0 s)).1; row = (across_y (omega arith)).1 ((y.point p).0 r) })
    there (going_east e l c s) =
        let l' = x.rising.0 l in
        (λ q. omega (arith, q.0), record { column = (across_x (omega arith)).1 ((x.point p).0 c); row = ((short_y (y.same.0 e) l').1 (y.before.0 s)).1 })
    there (going_west e l c s) =
        let l' = x.falling.0 l in
        (λ q. omega (arith, q.0), record { column = (across_x (omega arith)).1 ((x.point p).0 c); row = ((past_y (y.same.0 e) l').1 (y.after.0 s)).1 })

    back : (EqualEnds g → ⊥) → MovedPoint p t → BelongsTo L A B p t
    back ns m = go (ℕ_discrete g.ax g.bx) (ℕ_discrete g.ay g.by)
      where
        off : (AlongUpright L A B → ⊥) → (AlongLevel L A B → ⊥) → BelongsTo L A B p t
        off nx ny =
            inside ((apart_places A B ra rb).1 ns) nx ny
            ((x.point p).1 ((moved_off X (rest p) p.k (rest_pos p) ((iff_not x.along_line).0 nx)).0 m.column))
            ((y.point p).1 ((moved_off Y (rest p) p.k (rest_pos p) ((iff_not y.along_line).0 ny)).0 m.row))

        upright : g.ax ≡ g.bx → g.ay ≢ g.by → Dec (On g.ax b.west b.east) → Dec (g.ay < g.by) → BelongsTo L A B p t
        upright e f (no o) d = off (λ q. o (x.along_line.0 q).1) (λ q. f (y.along_line.0 q).0)
        upright e f (yes o) (yes l) = going_north (x.same.1 e) (y.rising.1 l) ((y.point p).1 ((across_y f).0 m.row)) (x.after.1 ((past_x e l).0 (o, m.column)))
        upright e f (yes o) (no l) =
            let l' : g.by < g.ay = omega arith in
            going_south (x.same.1 e) (y.falling.1 l') ((y.point p).1 ((across_y f).0 m.row)) (x.before.1 ((short_x e l').0 (o, m.column)))

        level : g.ay ≡ g.by → g.ax ≢ g.bx → Dec (On g.ay b.south b.north) → Dec (g.ax < g.bx) → BelongsTo L A B p t
        level e f (no o) d = off (λ q. f (x.along_line.0 q).0) (λ q. o (y.along_line.0 q).1)
        level e f (yes o) (yes l) = going_east (y.same.1 e) (x.rising.1 l) ((x.point p).1 ((across_x f).0 m.column)) (y.before.1 ((short_y e l).0 (o, m.row)))
        level e f (yes o) (no l) =
            let l' : g.bx < g.ax = omega arith in
            going_west (y.same.1 e) (x.falling.1 l') ((x.point p).1 ((across_x f).0 m.column)) (y.after.1 ((past_y e l').0 (o, m.row)))

        go : Dec (g.ax ≡ g.bx) → Dec (g.ay ≡ g.by) → BelongsTo L A B p t
        go (yes e) (yes f) = absurd (ns (e, f))
        go (yes e) (no f) = upright e f (on_line g.ax b.west b.east) (dec_lt g.ay g.by)
        go (no e) (yes f) = level f e (on_line g.ay b.south b.north) (dec_lt g.ax g.bx)
        go (no e) (no f) = off (λ q. e (x.along_line.0 q).0) (λ q. f (y.along_line.0 q).0)

    pub belongs_moved : BelongsTo L A B p t ↔ ((EqualEnds g → ⊥) × MovedPoint p t)
    belongs_moved = (there, λ h. back h.0 h.1)

  unfoldable pub meets_point : (p : Fraction) (t : ℕ) → MovedPoint p t → Meets (doubled_box b) (moved_edge g) t
  unfolding doubled_box moved_edge
  meets_point p t m = record { j = rest p; k = p.k; j_pos = rest_pos p; k_pos = p.above; column = m.column; row = m.row }

  point_meets : (t : ℕ) → Meets (doubled_box b) (moved_edge g) t → (p : Fraction) × MovedPoint p t
  unfolding doubled_box moved_edge
  point_meets t m =
      let e = rest_of m.j m.k m.j_pos m.k_pos in (
        fraction m.j m.k m.j_pos m.k_pos,
        record {
          column = subst (λ (j : ℕ). MovedAt (column_strip b g t) j m.k) (sym e) m.column;
          row = subst (λ (j : ℕ). MovedAt (row_strip b g t) j m.k) (sym e) m.row;
        },
      )

  pub has_tile_meets : (t : ℕ) → HasTile L A B t ↔ ((EqualEnds g → ⊥) × Meets (doubled_box b) (moved_edge g) t)
  has_tile_meets t = (
    λ h. let m = (belongs_moved h.0 t).0 h.1 in (m.0, meets_point h.0 t m.1),
    λ h. let p = point_meets t h.1 in (p.0, (belongs_moved p.0 t).1 (h.0, p.1)),
  )
