-- A region that lies round a box reaches beyond it. For each side: a region that has the tile beside it and not B has a vertex beyond its line.
--   reaches_west, reaches_east, reaches_south, reaches_north    a region that keeps rules 1 to 6 and has W, E, S, N of an accepted region's box, and
--                    not B, has a box that reaches beyond that box on that side
--   round_reaches    with all four it reaches beyond on each side
--   within_middle    where a box reaches beyond an accepted region's on each side, that region has B of it and no other tile
use mathlib.Core.Path.{◌≡◌, refl, sym, ◌∙◌, ap}
use mathlib.Core.Bool.{false}
use Prim.Native.Nat.{ℕ, ◌+◌, ◌≤◌, ◌<◌}
use native.Mathlib.Omega.{arith}
use native.Mathlib.Nat.{zero-add}
use borrow.Author.Tests.{lt-ltb, le-ltb, le-leb, lt-leb}
use lib.ListN.{length}
use lib.Signed.{◌<ℤ◌}
use Rattle.plane.specs.Place.{place_of}
use Rattle.plane.specs.Points.{Lines}
use Rattle.plane.specs.Placed.{LinesInRange, box_of, Upright}
use Rattle.plane.specs.declared.Box.{Box}
use Rattle.plane.proofs.Logic.{is_false}
use Rattle.plane.proofs.Folds.{any_means}
use Rattle.plane.proofs.Place.{place_lt, place_at_most}
use Rattle.edge.specs.Walk.{tile_of}
use Rattle.ring.specs.Edges.{RingInRange, ring_edge}
use Rattle.ring.specs.Repeated.{equal_ends, repeated}
use Rattle.ring.proofs.Repeated.{repeated_means}
use Rattle.region.specs.Region.{Region, start_of, size_of, last_end}
use Rattle.region.specs.Rules.{Keeps, KeepsRules}
use Rattle.region.proofs.Ends.{size_least, ring_in_last}
use Rattle.region.proofs.Keeps.{keeps_fewer, Sized, sized, in_range_lem}
use Rattle.seen.specs.declared.Seen.{Seen}
use Rattle.relation.specs.Relation.{RegionBox, RegionHas, relation_of}
use Rattle.relation.specs.OneTile.{lines_before, lines_up_to, tile_around}
use Rattle.relation.proofs.Regions.{lines_in_range, region_box_is, region_upright}
use Rattle.relation.proofs.OneTile.{told_tile, held_answer}
use Rattle.relation.proofs.Spread.{box_wide, box_high}
use Rattle.pin.specs.Reaches.{Reaches}
use Rattle.pin.proofs.Sides.{Sides, sides}

-- ---- regions: the first keeps rules 1 to 6 and has not B of the second's box, whose lines are M; L are the lines of its own
module _ {R Q : Region} (one : Keeps 6 R) (two : KeepsRules Q) (L M : Lines) (is : RegionBox R L) (its : RegionBox Q M) (none : RegionHas M R 4 → ⊥) where
  four : Keeps 4 R
  four = keeps_fewer (omega arith) one

  sizes : Sized R
  sizes = sized (keeps_fewer (omega arith) one)

  own : LinesInRange L
  own = lines_in_range four L is

  other : LinesInRange M
  other = lines_in_range (keeps_fewer (omega arith) two) M its

  module _ (r : ℕ) (hr : r < length R.ends) where
    range : RingInRange R.coordinates (start_of R.ends r) (size_of R.ends r)
    range = (in_range_lem four).at r hr

    ring_sides : Sides M R.coordinates (start_of R.ends r) (size_of R.ends r)
    ring_sides =
        sides M other (box_wide two M its) (box_high two M its) R.coordinates (start_of R.ends r) (size_of R.ends r) range
        (omega (arith, size_least R.ends sizes.grown r hr)) (λ t. one.keeps 6 r (omega arith) (hr, t)) (λ h. none (r, hr, h))

    -- a vertex of the ring is one of the region
    low : (v : ℕ) → v < size_of R.ends r → start_of R.ends r + v < last_end R.ends
    low v h = omega (arith, ring_in_last R.ends sizes.grown r hr)

  pub reaches_west : RegionHas M R 3 → L.west <ℤ M.west
  reaches_west (r, hr, h) =
      (place_lt L.west M.west own.west other.west).1
      ((ring_sides r hr).west h (place_of L.west) (λ v q. (place_at_most _ _ own.west ((range r hr).at v q).x).0 (rw zero-add at (is.west.none_below (start_of R.ends r + v) (low r hr v q)))))

  pub reaches_east : RegionHas M R 5 → M.east <ℤ L.east
  reaches_east (r, hr, h) =
      (place_lt M.east L.east other.east own.east).1
      ((ring_sides r hr).east h (place_of L.east) (λ v q. (place_at_most _ _ ((range r hr).at v q).x own.east).0 (rw zero-add at (is.east.none_above (start_of R.ends r + v) (low r hr v q)))))

  pub reaches_south : RegionHas M R 7 → L.south <ℤ M.south
  reaches_south (r, hr, h) =
      (place_lt L.south M.south own.south other.south).1
      ((ring_sides r hr).south h (place_of L.south) (λ v q. (place_at_most _ _ own.south ((range r hr).at v q).y).0 (rw zero-add at (is.south.none_below (start_of R.ends r + v) (low r hr v q)))))

  pub reaches_north : RegionHas M R 1 → M.north <ℤ L.north
  reaches_north (r, hr, h) =
      (place_lt M.north L.north other.north own.north).1
      ((ring_sides r hr).north h (place_of L.north) (λ v q. (place_at_most _ _ ((range r hr).at v q).y own.north).0 (rw zero-add at (is.north.none_above (start_of R.ends r + v) (low r hr v q)))))

  pub round_reaches : RegionHas M R 3 → RegionHas M R 5 → RegionHas M R 7 → RegionHas M R 1 → Reaches L M
  round_reaches w e s n = record { west = reaches_west w; south = reaches_south s; east = reaches_east e; north = reaches_north n }

-- ---- the other way: a region whose box lies strictly inside another, first in places
record Inner (b own : Box) : Type 0 where
  west : b.west < own.west
  east : own.east < b.east
  south : b.south < own.south
  north : own.north < b.north
  upright : Upright own

one_line : (lo hi least greatest : ℕ) → lo < least → least ≤ greatest → greatest < hi → (lines_before lo hi least ≡ 1) × (lines_up_to lo hi greatest ≡ 1)
unfolding lines_before lines_up_to
one_line lo hi least greatest a b c = (
  rw (lt-ltb lo least a, le-ltb hi least (omega arith)) refl,
  rw (le-leb lo greatest (omega arith), lt-leb hi greatest c) refl,
)

inner_tile : (b own : Box) → Inner b own → tile_around b own ≡ 4
unfolding tile_around tile_of
inner_tile b own i =
    let x = one_line b.west b.east own.west own.east i.west i.upright.x i.east in
    let y = one_line b.south b.north own.south own.north i.south i.upright.y i.north in
    rw (x.0, x.1, y.0, y.1) refl

module _ {Q : Region} (kept : Keeps 5 Q) (K M : Lines) (k : LinesInRange K) (is : RegionBox Q M) (far : Reaches K M) where
  keep : Keeps 4 Q
  keep = keeps_fewer (omega arith) kept

  inner : LinesInRange M
  inner = lines_in_range keep M is

  held : Sized Q
  held = sized (keeps_fewer (omega arith) kept)

  -- rule 5: the first edge's ends differ
  runs : equal_ends (ring_edge Q.coordinates 0 (size_of Q.ends 0) 0) ≡ false
  unfolding repeated
  runs =
      is_false (equal_ends (ring_edge Q.coordinates 0 (size_of Q.ends 0) 0)) (λ e.
      let size : 0 < size_of Q.ends 0 = omega (arith, size_least Q.ends held.grown 0 held.some) in
      let again = (any_means (λ i. equal_ends (ring_edge Q.coordinates 0 (size_of Q.ends 0) i)) (size_of Q.ends 0)).1 (0, size, e) in
      kept.keeps 5 0 (omega arith) (held.some, (repeated_means Q.coordinates 0 (size_of Q.ends 0) ((in_range_lem keep).at 0 held.some)).0 again))

  order : Inner (box_of K) (box_of M)
  order =
      let up : Upright (box_of M) = rw (region_box_is keep M is) at (region_upright Q) in
      record {
        west = (place_lt K.west M.west k.west inner.west).0 far.west;
        east = (place_lt M.east K.east inner.east k.east).0 far.east;
        south = (place_lt K.south M.south k.south inner.south).0 far.south;
        north = (place_lt M.north K.north inner.north k.north).0 far.north;
        upright = up;
      }

  pub within_middle : relation_of (box_of K) Q ≡ 16
  within_middle =
      let up : Upright (box_of K) = record { x = omega (arith, order.west, order.east, order.upright.x); y = omega (arith, order.south, order.north, order.upright.y) } in
      let seen = held_answer keep (box_of K) up (box_of M) (sym (region_box_is keep M is)) 4 (sym (inner_tile (box_of K) (box_of M) order) ∙ told_tile (box_of K) (box_of M) Q runs)
      (λ e. omega (arith, e)) (last_end Q.ends) refl in
      sym (ap (λ (s : Seen). s.set) seen)
