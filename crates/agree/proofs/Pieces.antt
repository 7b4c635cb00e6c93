-- An edge of a region and a cell of the grid. L are the lines of the region's box, M those of the other's, K those of the cell.
--   Within2, PointIn    a cell, a point in the own box, in places
--   edge_inside         a cell that an edge marks lies in the own box
--   edge_marks          an edge with the tile around a cell of the own box marks the cell
use mathlib.Core.Path.{◌≡◌, sym, ◌∙◌, ap}
use mathlib.Core.Logic.{◌⊎◌, inl, inr, ⊎_elim, ◌≢◌}
use mathlib.Core.Bool.{true}
use Prim.Native.Nat.{ℕ, ◌+◌, ◌*◌, ◌≤◌, ◌<◌}
use native.Mathlib.Omega.{arith}
use native.Mathlib.Decide.{ℕ_discrete}
use lib.IntN.{ℤ}
use lib.Signed.{◌<ℤ◌}
use Rattle.plane.specs.Place.{place_of, in_range}
use Rattle.plane.specs.Points.{Point, Lines, along, Fraction}
use Rattle.plane.specs.Placed.{PointInRange, LinesInRange, box_of, Upright}
use Rattle.plane.specs.Tiles.{Inside, column_of, row_of}
use Rattle.plane.proofs.Place.{place_lt, place_eq}
use Rattle.edge.specs.Clauses.{Apart, After, Before, BelongsTo, going_north, going_south, going_east, going_west}
use Rattle.edge.specs.Clauses as clauses
use Rattle.edge.proofs.Weights.{fraction, rest, rest_pos, rest_sum, InCol}
use Rattle.pin.proofs.Entered.{inside_place}
use Rattle.drawing.specs.Marks.{MarksAt, inside, east_of_it, west_of_it, north_of_it, south_of_it, Marks}
use Rattle.drawing.proofs.Drawing.{Roomy}
use Rattle.agree.proofs.Middle.{point_in}
use Rattle.agree.proofs.Wider.{Around}
use Rattle.agree.proofs.Narrow.{Strip1, narrow, past_is, short_is, strip_in, past_in, short_in, at_first, at_last, mean_first, mean_last}

pub record PointIn (L : Lines) (A : Point) : Type 0 where
  pub west : place_of L.west ≤ place_of A.x
  pub east : place_of A.x ≤ place_of L.east
  pub south : place_of L.south ≤ place_of A.y
  pub north : place_of A.y ≤ place_of L.north

pub record CellIn (L K : Lines) : Type 0 where
  pub west : place_of L.west ≤ place_of K.west
  pub east : place_of K.east ≤ place_of L.east
  pub south : place_of L.south ≤ place_of K.south
  pub north : place_of K.north ≤ place_of L.north

point_at : (lo hi a b : ℤ) → in_range lo ≡ true → in_range hi ≡ true → in_range a ≡ true → in_range b ≡ true → (p : Fraction) (j c : ℕ) → p.n ≡ j + p.k
    → Inside c lo hi p.n (along p.n p.k a b) → InCol c (place_of lo) (place_of hi) (j + p.k) (j * place_of a + p.k * place_of b)
point_at lo hi a b hl hh ha hb p j c e x = (inside_place lo hi a b hl hh ha hb j p.k c).0 (rw e at x)

module _ (L M K : Lines) (l : LinesInRange L) (m : LinesInRange M) (k : LinesInRange K) (own : Roomy L) (up : Upright (box_of M))
    (sx : Strip1 (place_of L.west) (place_of L.east) (place_of M.west) (place_of M.east) (place_of K.west) (place_of K.east))
    (sy : Strip1 (place_of L.south) (place_of L.north) (place_of M.south) (place_of M.north) (place_of K.south) (place_of K.north))
    (A B : Point) (a : PointInRange A) (b : PointInRange B) (ia : PointIn L A) (ib : PointIn L B) where
  wide : place_of L.west < place_of L.east
  wide = (place_lt L.west L.east l.west l.east).0 own.wide

  high : place_of L.south < place_of L.north
  high = (place_lt L.south L.north l.south l.north).0 own.high

  -- ---- a cell that is marked
  abbrev InX : Type 0
  InX = (place_of L.west ≤ place_of K.west) × (place_of K.east ≤ place_of L.east)

  abbrev InY : Type 0
  InY = (place_of L.south ≤ place_of K.south) × (place_of K.north ≤ place_of L.north)

  pub edge_inside : Marks L K A B → CellIn L K
  edge_inside (p, mark) = let z = go mark in record { west = z.0.0; east = z.0.1; south = z.1.0; north = z.1.1 }
    where
      by_x : clauses.InColumn K A B p 4 → InX
      by_x x =
          strip_in _ _ _ _ _ _ sx up.x (rest p + p.k) _ (point_in K.west K.east A.x B.x k.west k.east a.x b.x p (rest p) (rest_sum p) x)
          (mean_first _ _ _ (rest p) p.k ia.west ib.west) (mean_last _ _ _ (rest p) p.k ia.east ib.east)

      by_y : clauses.InRow K A B p 4 → InY
      by_y y =
          strip_in _ _ _ _ _ _ sy up.y (rest p + p.k) _ (point_in K.south K.north A.y B.y k.south k.north a.y b.y p (rest p) (rest_sum p) y)
          (mean_first _ _ _ (rest p) p.k ia.south ib.south) (mean_last _ _ _ (rest p) p.k ia.north ib.north)

      go : MarksAt L K A B p → InX × InY
      go (inside _ x y) = (by_x x, by_y y)
      go (east_of_it _ e x s y) = (
        past_in _ _ _ _ _ _ sx up.x wide (place_of A.x) ia.west ia.east (ap place_of x)
            (⊎_elim (λ t. inl (ap place_of t)) (λ t. inr (λ z. t.1 ((place_eq A.x L.east a.x l.east).1 z))) s),
        by_y y,
      )
      go (west_of_it _ e x s y) = (
        short_in _ _ _ _ _ _ sx up.x wide (place_of A.x) ia.west ia.east (ap place_of x)
            (⊎_elim (λ t. inl (ap place_of t)) (λ t. inr (λ z. t.0 ((place_eq A.x L.west a.x l.west).1 z))) s),
        by_y y,
      )
      go (north_of_it _ e y s x) = (
        by_x x,
        past_in _ _ _ _ _ _ sy up.y high (place_of A.y) ia.south ia.north (ap place_of y)
            (⊎_elim (λ t. inl (ap place_of t)) (λ t. inr (λ z. t.1 ((place_eq A.y L.north a.y l.north).1 z))) s),
      )
      go (south_of_it _ e y s x) = (
        by_x x,
        short_in _ _ _ _ _ _ sy up.y high (place_of A.y) ia.south ia.north (ap place_of y)
            (⊎_elim (λ t. inl (ap place_of t)) (λ t. inr (λ z. t.0 ((place_eq A.y L.south a.y l.south).1 z))) s),
      )

  -- ---- a tile around the cell
  module _ (inner : CellIn L K) (t : ℕ)
      (col : Around (column_of t) (place_of M.west) (place_of M.east) (place_of K.west) (place_of K.east))
      (row : Around (row_of t) (place_of M.south) (place_of M.north) (place_of K.south) (place_of K.north)) (p : Fraction) where
    abbrev X : ℕ
    X = rest p * place_of A.x + p.k * place_of B.x

    abbrev Y : ℕ
    Y = rest p * place_of A.y + p.k * place_of B.y

    abbrev n : ℕ
    n = rest p + p.k

    abbrev EdgeX : Type 0
    EdgeX = ((X ≤ n * place_of L.west) × (place_of K.west ≡ place_of L.west)) ⊎ ((n * place_of L.east ≤ X) × (place_of K.east ≡ place_of L.east))

    abbrev EdgeY : Type 0
    EdgeY = ((Y ≤ n * place_of L.south) × (place_of K.south ≡ place_of L.south)) ⊎ ((n * place_of L.north ≤ Y) × (place_of K.north ≡ place_of L.north))

    in_x : clauses.InColumn M A B p t → InCol 1 (place_of K.west) (place_of K.east) n X ⊎ EdgeX
    in_x x =
        narrow _ _ _ _ _ _ sx up.x inner.west inner.east (column_of t) n X col
        (point_at M.west M.east A.x B.x m.west m.east a.x b.x p (rest p) (column_of t) (rest_sum p) x)
        (mean_first _ _ _ (rest p) p.k ia.west ib.west) (mean_last _ _ _ (rest p) p.k ia.east ib.east)

    in_y : clauses.InRow M A B p t → InCol 1 (place_of K.south) (place_of K.north) n Y ⊎ EdgeY
    in_y y =
        narrow _ _ _ _ _ _ sy up.y inner.south inner.north (row_of t) n Y row
        (point_at M.south M.north A.y B.y m.south m.north a.y b.y p (rest p) (row_of t) (rest_sum p) y)
        (mean_first _ _ _ (rest p) p.k ia.south ib.south) (mean_last _ _ _ (rest p) p.k ia.north ib.north)

    first_x : X ≤ n * place_of L.west → (A.x ≡ L.west) × (B.x ≡ L.west)
    first_x h =
        let z = at_first (place_of L.west) (place_of A.x) (place_of B.x) (rest p) p.k (rest_pos p) p.above ia.west ib.west h in
        ((place_eq A.x L.west a.x l.west).1 z.0, (place_eq B.x L.west b.x l.west).1 z.1)

    last_x : n * place_of L.east ≤ X → (A.x ≡ L.east) × (B.x ≡ L.east)
    last_x h =
        let z = at_last (place_of L.east) (place_of A.x) (place_of B.x) (rest p) p.k (rest_pos p) p.above ia.east ib.east h in
        ((place_eq A.x L.east a.x l.east).1 z.0, (place_eq B.x L.east b.x l.east).1 z.1)

    first_y : Y ≤ n * place_of L.south → (A.y ≡ L.south) × (B.y ≡ L.south)
    first_y h =
        let z = at_first (place_of L.south) (place_of A.y) (place_of B.y) (rest p) p.k (rest_pos p) p.above ia.south ib.south h in
        ((place_eq A.y L.south a.y l.south).1 z.0, (place_eq B.y L.south b.y l.south).1 z.1)

    last_y : n * place_of L.north ≤ Y → (A.y ≡ L.north) × (B.y ≡ L.north)
    last_y h =
        let z = at_last (place_of L.north) (place_of A.y) (place_of B.y) (rest p) p.k (rest_pos p) p.above ia.north ib.north h in
        ((place_eq A.y L.north a.y l.north).1 z.0, (place_eq B.y L.north b.y l.north).1 z.1)

    same_x : EdgeX → A.x ≡ B.x
    same_x (inl u) = let z = first_x u.0 in z.0 ∙ sym z.1
    same_x (inr u) = let z = last_x u.0 in z.0 ∙ sym z.1

    same_y : EdgeY → A.y ≡ B.y
    same_y (inl u) = let z = first_y u.0 in z.0 ∙ sym z.1
    same_y (inr u) = let z = last_y u.0 in z.0 ∙ sym z.1

    abbrev point : Fraction
    point = fraction (rest p) p.k (rest_pos p) p.above

    strict_x : InCol 1 (place_of K.west) (place_of K.east) n X → clauses.InColumn K A B point 4
    strict_x x = (inside_place K.west K.east A.x B.x k.west k.east a.x b.x (rest p) p.k 1).1 x

    strict_y : InCol 1 (place_of K.south) (place_of K.north) n Y → clauses.InRow K A B point 4
    strict_y y = (inside_place K.south K.north A.y B.y k.south k.north a.y b.y (rest p) p.k 1).1 y

    line_is : (u v w : ℤ) → in_range u ≡ true → in_range w ≡ true → u ≡ v → place_of w ≡ place_of v → u ≡ w
    line_is u v w hu hw e f = (place_eq u w hu hw).1 (ap place_of e ∙ sym f)

    both : Apart A B → InCol 1 (place_of K.west) (place_of K.east) n X ⊎ EdgeX → InCol 1 (place_of K.south) (place_of K.north) n Y ⊎ EdgeY → Marks L K A B
    both apart (inl x) (inl y) = (point, inside apart (strict_x x) (strict_y y))
    both apart (inr u) (inr v) = absurd (apart (same_x u, same_y v))
    both apart (inr (inl u)) (inl y) =
        let z = first_x u.0 in
        (point, east_of_it apart (same_x (inl u)) (line_is A.x L.west K.west a.x k.west z.0 u.1) (inl z.0) (strict_y y))
    both apart (inr (inr u)) (inl y) =
        let z = last_x u.0 in
        (point, west_of_it apart (same_x (inr u)) (line_is A.x L.east K.east a.x k.east z.0 u.1) (inl z.0) (strict_y y))
    both apart (inl x) (inr (inl v)) =
        let z = first_y v.0 in
        (point, north_of_it apart (same_y (inl v)) (line_is A.y L.south K.south a.y k.south z.0 v.1) (inl z.0) (strict_x x))
    both apart (inl x) (inr (inr v)) =
        let z = last_y v.0 in
        (point, south_of_it apart (same_y (inr v)) (line_is A.y L.north K.north a.y k.north z.0 v.1) (inl z.0) (strict_x x))

    runs : (u v : ℤ) → in_range u ≡ true → in_range v ≡ true → u <ℤ v → u ≢ v
    runs u v hu hv h e = omega (arith, (place_lt u v hu hv).0 h, ap place_of e)

    after_places : (lo hi v : ℤ) → in_range lo ≡ true → in_range hi ≡ true → (c : ℕ) → After lo hi v c
        → ((place_of v ≡ place_of lo) × (place_of lo < place_of hi) × (c ≡ 1)) ⊎ ((place_of v ≡ place_of hi) × (c ≡ 2))
    after_places lo hi v hl hh c (inl s) = inl (ap place_of s.0, (place_lt lo hi hl hh).0 s.1, s.2)
    after_places lo hi v hl hh c (inr s) = inr (ap place_of s.0, s.1)

    before_places : (lo hi v : ℤ) → in_range lo ≡ true → in_range hi ≡ true → (c : ℕ) → Before lo hi v c
        → ((place_of v ≡ place_of hi) × (place_of lo < place_of hi) × (c ≡ 1)) ⊎ ((place_of v ≡ place_of lo) × (c ≡ 0))
    before_places lo hi v hl hh c (inl s) = inl (ap place_of s.0, (place_lt lo hi hl hh).0 s.1, s.2)
    before_places lo hi v hl hh c (inr s) = inr (ap place_of s.0, s.1)

    -- along a line of the other's box: an own line counts for the inside, which is where the cell lies
    past_side : (P Q a' : ℤ) → in_range P ≡ true → in_range Q ≡ true → in_range a' ≡ true → (R : Type 0) → place_of a' < place_of Q → R
        → (a' ≡ P) ⊎ ((a' ≢ P) × (a' ≢ Q) × R)
    past_side P Q a' hp hq ha R short r =
        elim (ℕ_discrete (place_of a') (place_of P)) [
          | yes e ↦ inl ((place_eq a' P ha hp).1 e)
          | no e ↦ inr ((λ z. e (ap place_of z)), (λ z. omega (arith, short, ap place_of z)), r)
        ]

    short_side : (P Q a' : ℤ) → in_range P ≡ true → in_range Q ≡ true → in_range a' ≡ true → (R : Type 0) → place_of P < place_of a' → R
        → (a' ≡ Q) ⊎ ((a' ≢ P) × (a' ≢ Q) × R)
    short_side P Q a' hp hq ha R past r =
        elim (ℕ_discrete (place_of a') (place_of Q)) [
          | yes e ↦ inl ((place_eq a' Q ha hq).1 e)
          | no e ↦ inr ((λ z. omega (arith, past, ap place_of z)), (λ z. e (ap place_of z)), r)
        ]

    pub edge_marks : BelongsTo M A B p t → Marks L K A B
    edge_marks (clauses.inside apart _ _ x y) = both apart (in_x x) (in_y y)
    edge_marks (going_north e u y s) = go (in_y y)
      where
        at : place_of A.x ≡ place_of K.west
        at = past_is _ _ _ _ _ _ sx up.x inner.west inner.east (column_of t) (place_of A.x) col ia.west (after_places M.west M.east A.x m.west m.east (column_of t) s)

        go : InCol 1 (place_of K.south) (place_of K.north) n Y ⊎ EdgeY → Marks L K A B
        go (inr v) = absurd (runs A.y B.y a.y b.y u (same_y v))
        go (inl z) = (
          point,
          east_of_it (λ q. runs A.y B.y a.y b.y u q.1) e ((place_eq A.x K.west a.x k.west).1 at)
              (past_side L.west L.east A.x l.west l.east a.x (A.y <ℤ B.y) (omega (arith, at, sx.rises, inner.east)) u) (strict_y z),
        )
    edge_marks (going_south e u y s) = go (in_y y)
      where
        at : place_of A.x ≡ place_of K.east
        at = short_is _ _ _ _ _ _ sx up.x inner.west inner.east (column_of t) (place_of A.x) col ia.east (before_places M.west M.east A.x m.west m.east (column_of t) s)

        go : InCol 1 (place_of K.south) (place_of K.north) n Y ⊎ EdgeY → Marks L K A B
        go (inr v) = absurd (runs B.y A.y b.y a.y u (sym (same_y v)))
        go (inl z) = (
          point,
          west_of_it (λ q. runs B.y A.y b.y a.y u (sym q.1)) e ((place_eq A.x K.east a.x k.east).1 at)
              (short_side L.west L.east A.x l.west l.east a.x (B.y <ℤ A.y) (omega (arith, at, sx.rises, inner.west)) u) (strict_y z),
        )
    edge_marks (going_east e u x s) = go (in_x x)
      where
        at : place_of A.y ≡ place_of K.north
        at = short_is _ _ _ _ _ _ sy up.y inner.south inner.north (row_of t) (place_of A.y) row ia.north (before_places M.south M.north A.y m.south m.north (row_of t) s)

        go : InCol 1 (place_of K.west) (place_of K.east) n X ⊎ EdgeX → Marks L K A B
        go (inr v) = absurd (runs A.x B.x a.x b.x u (same_x v))
        go (inl z) = (
          point,
          south_of_it (λ q. runs A.x B.x a.x b.x u q.0) e ((place_eq A.y K.north a.y k.north).1 at)
              (short_side L.south L.north A.y l.south l.north a.y (A.x <ℤ B.x) (omega (arith, at, sy.rises, inner.south)) u) (strict_x z),
        )
    edge_marks (going_west e u x s) = go (in_x x)
      where
        at : place_of A.y ≡ place_of K.south
        at = past_is _ _ _ _ _ _ sy up.y inner.south inner.north (row_of t) (place_of A.y) row ia.south (after_places M.south M.north A.y m.south m.north (row_of t) s)

        go : InCol 1 (place_of K.west) (place_of K.east) n X ⊎ EdgeX → Marks L K A B
        go (inr v) = absurd (runs B.x A.x b.x a.x u (sym (same_x v)))
        go (inl z) = (
          point,
          north_of_it (λ q. runs B.x A.x b.x a.x u (sym q.0)) e ((place_eq A.y K.south a.y k.south).1 at)
              (past_side L.south L.north A.y l.south l.north a.y (B.x <ℤ A.x) (omega (arith, at, sy.rises, inner.north)) u) (strict_x z),
        )
