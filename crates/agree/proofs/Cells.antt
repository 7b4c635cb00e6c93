-- A region and a cell of the grid of its box and another: what is drawn in the cell and what the cell holds by the rule of tiles are the same.
--   strip_places     a strip of the grid, in places
--   ring_inside      a cell that a ring marks lies in the own box
--   ring_tile        a ring that marks a cell has the tile around it;  ring_marks_lem  and where the cell lies in the own box, the other way round
--   cell_agrees      a region that keeps rules 1 to 6 marks a cell exactly where the cell lies in its box and the region has the tile around it
use mathlib.Core.Path.{◌≡◌, refl, ap}
use mathlib.Core.Logic.{◌↔◌, inl, inr}
use mathlib.Core.Bool.{true}
use mathlib.Core.List.{List}
use Prim.Native.Nat.{ℕ, zero, suc, ◌+◌, ◌-◌, ◌*◌, ◌≤◌, ◌<◌}
use native.Mathlib.Omega.{arith}
use native.Mathlib.Nat.{zero-add}
use native.Mathlib.Decide.{ℕ_discrete}
use lib.Dec.{leb}
use lib.ListN.{length}
use lib.IntN.{ℤ}
use Rattle.plane.specs.Place.{place_of, in_range}
use Rattle.plane.specs.Points.{Lines}
use Rattle.plane.specs.Placed.{LinesInRange, box_of, Upright}
use Rattle.plane.specs.Tiles.{column_of, row_of}
use Rattle.plane.proofs.Place.{place_lt, place_eq, place_at_most}
use Rattle.plane.proofs.TileSet.{one_le}
use Rattle.ring.specs.Edges.{corner, after, RingInRange}
use Rattle.ring.specs.Tangled.{Tangled}
use Rattle.ring.specs.RingTiles.{RingHas, CoversAndEncloses}
use Rattle.ring.proofs.RingBox.{box_in_range}
use Rattle.ring.proofs.Edges.{after_inner, after_last, after_in_range}
use Rattle.region.specs.Region.{Region, start_of, size_of, last_end}
use Rattle.region.specs.Rules.{Keeps}
use Rattle.region.proofs.Ends.{size_least, ring_in_last}
use Rattle.region.proofs.Keeps.{keeps_fewer, Sized, sized, in_range_lem}
use Rattle.relation.specs.Relation.{RegionBox, RegionHas}
use Rattle.relation.proofs.Regions.{lines_in_range}
use Rattle.matrix.specs.Grid.{IsLine, Strip, Cell}
use Rattle.matrix.specs.Holding.{RangeContains, HoldsWhere, range_of}
use Rattle.matrix.proofs.Holding.{range_means}
use Rattle.drawing.specs.Marks.{RingMarks, RegionMarks}
use Rattle.drawing.proofs.Drawing.{Roomy, cell_lines, cell_in_range, cell_roomy}
use Rattle.agree.proofs.Middle.{Held, edge_middle}
use Rattle.agree.proofs.Wider.{Around, around_places, ring_wider}
use Rattle.agree.proofs.Narrow.{OneOf, Strip1, middle_is}
use Rattle.agree.proofs.Pieces.{PointIn, CellIn, edge_inside, edge_marks}

-- ---- strips
strip_places : (P Q lo hi : ℤ) → in_range P ≡ true → in_range Q ≡ true → in_range lo ≡ true → in_range hi ≡ true → (i : ℕ) (p q : ℤ) → in_range p ≡ true → in_range q ≡ true
    → Strip P Q lo hi i p q → Strip1 (place_of P) (place_of Q) (place_of lo) (place_of hi) (place_of p) (place_of q)
strip_places P Q lo hi hP hQ hlo hhi i p q hp hq s =
    record { from_line = placed s.from_line; to_line = placed s.to_line; rises = (place_lt p q hp hq).0 s.rises; none_between = none }
  where
    placed : {v : ℤ} → IsLine P Q lo hi v → OneOf (place_of P) (place_of Q) (place_of lo) (place_of hi) (place_of v)
    placed (inl e) = inl (ap place_of e)
    placed (inr (inl e)) = inr (inl (ap place_of e))
    placed (inr (inr (inl e))) = inr (inr (inl (ap place_of e)))
    placed (inr (inr (inr e))) = inr (inr (inr (ap place_of e)))

    line : (w : ℤ) → in_range w ≡ true → IsLine P Q lo hi w → (v : ℕ) → v ≡ place_of w → place_of p < v → v < place_of q → ⊥
    line w hw is v e u x = s.none_between w is ((place_lt p w hp hw).1 (omega arith)) ((place_lt w q hw hq).1 (omega arith))

    none : (v : ℕ) → OneOf (place_of P) (place_of Q) (place_of lo) (place_of hi) v → place_of p < v → v < place_of q → ⊥
    none v (inl e) u x = line P hP (inl refl) v e u x
    none v (inr (inl e)) u x = line Q hQ (inr (inl refl)) v e u x
    none v (inr (inr (inl e))) u x = line lo hlo (inr (inr (inl refl))) v e u x
    none v (inr (inr (inr e))) u x = line hi hhi (inr (inr (inr refl))) v e u x

only_middle : (c lo hi : ℕ) → c < 3 → lo < hi → Around c lo hi lo hi → c ≡ 1
only_middle zero lo hi h w a = absurd (omega arith)
only_middle (suc zero) lo hi h w a = refl
only_middle (suc (suc c)) lo hi h w a = absurd (omega arith)

tile_four : (t : ℕ) → t < 9 → column_of t ≡ 1 → row_of t ≡ 1 → t ≡ 4
tile_four t h c r = omega arith

module _ (L M K : Lines) (l : LinesInRange L) (m : LinesInRange M) (k : LinesInRange K) (own : Roomy L) (other : Roomy M) (room : Roomy K)
    (sx : Strip1 (place_of L.west) (place_of L.east) (place_of M.west) (place_of M.east) (place_of K.west) (place_of K.east))
    (sy : Strip1 (place_of L.south) (place_of L.north) (place_of M.south) (place_of M.north) (place_of K.south) (place_of K.north)) where
  wide : place_of M.west < place_of M.east
  wide = (place_lt M.west M.east m.west m.east).0 other.wide

  high : place_of M.south < place_of M.north
  high = (place_lt M.south M.north m.south m.north).0 other.high

  up : Upright (box_of M)
  up = record { x = omega (arith, wide); y = omega (arith, high) }

  module _ (xs : List ℤ) (from n : ℕ) (r : RingInRange xs from n) (some : 0 < n) (kept : Tangled xs from n → ⊥) (held : Held L xs from n) where
    corner_in : (i : ℕ) → i < n → PointIn L (corner xs from i)
    corner_in i h = record { west = held.west i h; east = held.east i h; south = held.south i h; north = held.north i h }

    after_in : (i : ℕ) → i < n → PointIn L (after xs from n i)
    after_in i h =
        elim (ℕ_discrete (i + 1) n) [
          | yes e ↦ rw (after_last xs from n i e) (corner_in 0 some)
          | no e ↦ rw (after_inner xs from n i (omega arith)) (corner_in (i + 1) (omega arith))
        ]

    -- the ring's own box lies in L, so L covers what it covers
    covered : CoversAndEncloses M xs from n → (place_of L.west ≤ place_of M.west) × (place_of M.east ≤ place_of L.east)
        × (place_of L.south ≤ place_of M.south) × (place_of M.north ≤ place_of L.north)
    covered c =
        let O = c.own_box in
        let o = box_in_range xs from n r O c.is_box in
        let w = c.is_box.west.one_there in
        let e = c.is_box.east.one_there in
        let s = c.is_box.south.one_there in
        let h = c.is_box.north.one_there in (
          omega (arith, held.west w.0 w.1, ap place_of w.2, (place_at_most O.west M.west o.west m.west).0 c.covering.west),
          omega (arith, held.east e.0 e.1, ap place_of e.2, (place_at_most M.east O.east m.east o.east).0 c.covering.east),
          omega (arith, held.south s.0 s.1, ap place_of s.2, (place_at_most O.south M.south o.south m.south).0 c.covering.south),
          omega (arith, held.north h.0 h.1, ap place_of h.2, (place_at_most M.north O.north m.north o.north).0 c.covering.north),
        )

    pub ring_inside : RingMarks L M K xs from n → CellIn L K
    ring_inside (inl (i, h, x)) =
        edge_inside L M K l m k own up sx sy (corner xs from i) (after xs from n i) (r.at i h) (after_in_range xs from n i r h) (corner_in i h) (after_in i h) x
    ring_inside (inr (e, c)) =
        let z = covered c in
        record {
          west = omega (arith, z.0, ap place_of e.west);
          east = omega (arith, z.1, ap place_of e.east);
          south = omega (arith, z.2, ap place_of e.south);
          north = omega (arith, z.3, ap place_of e.north);
        }

    module _ (t : ℕ) (ht : t < 9)
        (col : Around (column_of t) (place_of M.west) (place_of M.east) (place_of K.west) (place_of K.east))
        (row : Around (row_of t) (place_of M.south) (place_of M.north) (place_of K.south) (place_of K.north)) where
      pub ring_tile : RingMarks L M K xs from n → RingHas M xs from n t
      ring_tile (inl (i, h, x)) = ring_wider M K m k room up t ht col row xs from n r some (edge_middle L K l k room xs from n r some kept held i h x)
      ring_tile (inr (e, c)) =
          inr (
            tile_four t ht
                (only_middle (column_of t) _ _ (omega arith) wide (rw (ap place_of e.west, ap place_of e.east) at col))
                (only_middle (row_of t) _ _ (omega arith) high (rw (ap place_of e.south, ap place_of e.north) at row)),
            c,
          )

      pub ring_marks_lem : CellIn L K → RingHas M xs from n t → RingMarks L M K xs from n
      ring_marks_lem inner (inl (i, h, (p, x))) =
          inl (i, h, edge_marks L M K l m k own up sx sy (corner xs from i) (after xs from n i) (r.at i h) (after_in_range xs from n i r h) (corner_in i h) (after_in i h) inner t col row p x)
      ring_marks_lem inner (inr (e, c)) =
          let z = covered c in
          let x = middle_is _ _ _ _ _ _ sx up.x inner.west inner.east (rw (ap column_of e) at col) z.0 z.1 in
          let y = middle_is _ _ _ _ _ _ sy up.y inner.south inner.north (rw (ap row_of e) at row) z.2 z.3 in
          inr (
            record {
              west = (place_eq K.west M.west k.west m.west).1 x.0;
              south = (place_eq K.south M.south k.south m.south).1 y.0;
              east = (place_eq K.east M.east k.east m.east).1 x.1;
              north = (place_eq K.north M.north k.north m.north).1 y.1;
            },
            c,
          )

-- ---- a region and a cell of the grid
range_few : (lo hi p : ℕ) → range_of lo hi p < 3
unfolding range_of
range_few lo hi p = omega (arith, one_le (leb lo p), one_le (leb hi p))

module _ {R : Region} (kept : Keeps 6 R) (L M : Lines) (is : RegionBox R L) (m : LinesInRange M) (own : Roomy L) (other : Roomy M)
    (i j : ℕ) (p q u v : ℤ) (c : Cell L M i j p q u v) where
  four : Keeps 4 R
  four = keeps_fewer (omega arith) kept

  sizes : Sized R
  sizes = sized (keeps_fewer (omega arith) kept)

  l : LinesInRange L
  l = lines_in_range four L is

  abbrev K : Lines
  K = cell_lines p q u v

  k : LinesInRange K
  k = cell_in_range L M l m i j p q u v c

  up_m : Upright (box_of M)
  up_m =
      record {
        x = omega (arith, (place_lt M.west M.east m.west m.east).0 other.wide);
        y = omega (arith, (place_lt M.south M.north m.south m.north).0 other.high);
      }

  across : Strip1 (place_of L.west) (place_of L.east) (place_of M.west) (place_of M.east) (place_of p) (place_of q)
  across = strip_places L.west L.east M.west M.east l.west l.east m.west m.east j p q k.west k.east c.column

  upward : Strip1 (place_of L.south) (place_of L.north) (place_of M.south) (place_of M.north) (place_of u) (place_of v)
  upward = strip_places L.south L.north M.south M.north l.south l.north m.south m.north c.from_south u v k.south k.north c.row

  module _ (s : ℕ) (hs : s < length R.ends) where
    low : (w : ℕ) → w < size_of R.ends s → start_of R.ends s + w < last_end R.ends
    low w h = omega (arith, ring_in_last R.ends sizes.grown s hs)

    range : RingInRange R.coordinates (start_of R.ends s) (size_of R.ends s)
    range = (in_range_lem four).at s hs

    held : Held L R.coordinates (start_of R.ends s) (size_of R.ends s)
    held =
        record {
          west = λ w h. (place_at_most _ _ l.west (range.at w h).x).0 (rw zero-add at (is.west.none_below (start_of R.ends s + w) (low w h)));
          east = λ w h. (place_at_most _ _ (range.at w h).x l.east).0 (rw zero-add at (is.east.none_above (start_of R.ends s + w) (low w h)));
          south = λ w h. (place_at_most _ _ l.south (range.at w h).y).0 (rw zero-add at (is.south.none_below (start_of R.ends s + w) (low w h)));
          north = λ w h. (place_at_most _ _ (range.at w h).y l.north).0 (rw zero-add at (is.north.none_above (start_of R.ends s + w) (low w h)));
        }

    size : 0 < size_of R.ends s
    size = omega (arith, size_least R.ends sizes.grown s hs)

    simple : Tangled R.coordinates (start_of R.ends s) (size_of R.ends s) → ⊥
    simple t = kept.keeps 6 s (omega arith) (hs, t)

  pub cell_agrees : RegionMarks L M K R ↔ HoldsWhere L M (RegionHas M R) p q u v
  cell_agrees = (there, back)
    where
      there : RegionMarks L M K R → HoldsWhere L M (RegionHas M R) p q u v
      there (s, hs, x) =
          let inner = ring_inside L M K l m k own other (cell_roomy L M l m i j p q u v c) across upward _ _ _ (range s hs) (size s hs) (simple s hs) (held s hs) x in
          let cc = range_of (place_of M.west) (place_of M.east) (place_of p) in
          let rr = range_of (place_of M.south) (place_of M.north) (place_of u) in
          make inner cc rr (range_few _ _ _) (range_few _ _ _)
          ((range_means M.west M.east p q m.west m.east k.west k.east up_m.x c.column.rises
          (c.column.none_between M.west (inr (inr (inl refl)))) (c.column.none_between M.east (inr (inr (inr refl)))) cc (range_few _ _ _)).0 refl)
          ((range_means M.south M.north u v m.south m.north k.south k.north up_m.y c.row.rises
          (c.row.none_between M.south (inr (inr (inl refl)))) (c.row.none_between M.north (inr (inr (inr refl)))) rr (range_few _ _ _)).0 refl)
        where
          make : CellIn L K → (cc rr : ℕ) → cc < 3 → rr < 3 → RangeContains cc M.west M.east p q → RangeContains rr M.south M.north u v
              → HoldsWhere L M (RegionHas M R) p q u v
          make inner cc rr hc hr col row =
              let t : ℕ = 3 * (2 - rr) + cc in
              let ht : t < 9 = omega arith in
              let ec : column_of t ≡ cc = omega arith in
              let er : row_of t ≡ rr = omega arith in
              let col' : RangeContains (column_of t) M.west M.east p q = rw ec col in
              let row' : RangeContains (row_of t) M.south M.north u v = rw er row in
              record {
                west = (place_at_most L.west p l.west k.west).1 inner.west;
                east = (place_at_most q L.east k.east l.east).1 inner.east;
                south = (place_at_most L.south u l.south k.south).1 inner.south;
                north = (place_at_most v L.north k.north l.north).1 inner.north;
                tile = t;
                is_tile = ht;
                in_column = col';
                in_row = row';
                there = (
                  s,
                  hs,
                  ring_tile L M K l m k own other (cell_roomy L M l m i j p q u v c) across upward _ _ _ (range s hs) (size s hs) (simple s hs) (held s hs) t ht
                      (around_places (column_of t) M.west M.east p q m.west m.east k.west k.east col')
                      (around_places (row_of t) M.south M.north u v m.south m.north k.south k.north row') x,
                );
              }

      back : HoldsWhere L M (RegionHas M R) p q u v → RegionMarks L M K R
      back h =
          let s = h.there.0 in
          let hs = h.there.1 in
          let t = h.tile in
          let inner : CellIn L K = record {
            west = (place_at_most L.west p l.west k.west).0 h.west;
            east = (place_at_most q L.east k.east l.east).0 h.east;
            south = (place_at_most L.south u l.south k.south).0 h.south;
            north = (place_at_most v L.north k.north l.north).0 h.north;
          } in (
            s,
            hs,
            ring_marks_lem L M K l m k own other (cell_roomy L M l m i j p q u v c) across upward _ _ _ (range s hs) (size s hs) (simple s hs) (held s hs) t h.is_tile
                (around_places (column_of t) M.west M.east p q m.west m.east k.west k.east h.in_column)
                (around_places (row_of t) M.south M.north u v m.south m.north k.south k.north h.in_row) inner h.there.2,
          )
