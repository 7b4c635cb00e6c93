use mathlib.Core.Path.{◌≡◌, ◌∙◌, ap}
use mathlib.Core.Bool.{true}
use Prim.Native.Nat.{ℕ, ◌+◌, ◌*◌, ◌≤◌, ◌<◌}
use native.Mathlib.Omega.{arith}
use lib.Bits.{bit_or}
use lib.ListN.{length}
use Rattle.plane.specs.declared.Box.{Box}
use Rattle.plane.proofs.Folds.{sum_step, sum_none}
use Rattle.plane.proofs.TileSet.{any_set_none, any_set_more}
use Rattle.seen.specs.declared.Seen.{Seen}
use Rattle.ring.specs.RingBox.{stretch_box, covers}
use Rattle.ring.specs.RingTiles.{ring_pieces}
use Rattle.seen.specs.RingSeen.{ring_seen}
use Rattle.ring.proofs.RingBox.{stretch_covers}
use Rattle.region.specs.Region.{Region, most_vertices, start_of, size_of, last_end}
use Rattle.region.specs.Outline.{drawn_by}
use Rattle.region.specs.Rules.{Keeps}
use Rattle.region.proofs.Ends.{start_le, size_least, ring_in_last}
use Rattle.region.proofs.Keeps.{keeps_fewer, Sized, sized}
use Rattle.relation.specs.Relation.{region_box, relation_of, region_has, region_pieces, region_seen}
use Rattle.relation.proofs.Relation.{pieces_to}
use Rattle.relation.proofs.rings_seen.Goals as goal
use Rattle.relation.proofs.rings_seen.Goals.{After-ring_seen-p, Start}
use Rattle.relation.proofs.rings_seen.Invariants.{tiles, count}

-- ---- the first k rings, and ring k
module _ (b : Box) (R : Region) where
  abbrev ring : ℕ → Seen
  ring k = ring_seen b R.coordinates (start_of R.ends k) (size_of R.ends k)

  count_small : Keeps 4 R → (k : ℕ) → k ≤ length R.ends → count b R k ≤ most_vertices * 5
  count_small kept k h =
      let s = sized (keeps_fewer (omega arith) kept) in
      omega (arith, (pieces_to kept b k h).1, start_le R.ends s.grown k (length R.ends) h (omega arith), s.small)

  tiles_next : (k set : ℕ) (p : Seen) → set ≡ tiles b R k → p ≡ ring k → bit_or set p.set ≡ tiles b R (k + 1)
  tiles_next k set p e f = rw (e, ap (λ (q : Seen). q.set) f) (any_set_more _ 9 k)

  count_next : (k sum : ℕ) (p : Seen) → sum ≡ count b R k → p ≡ ring k → sum + p.pieces ≡ count b R (k + 1)
  count_next k sum p e f = rw (e, ap (λ (q : Seen). q.pieces) f) (sum_step (λ r. ring_pieces b R.coordinates (start_of R.ends r) (size_of R.ends r)) k)

  all_rings : (k set sum : ℕ) → k ≡ length R.ends → set ≡ tiles b R k → sum ≡ count b R k → ◌≡◌ {A = Seen} (record { set = set; pieces = sum }) (region_seen b R)
  unfolding relation_of region_has region_pieces
  all_rings k set sum l e f = λ i. record { set = (e ∙ ap (tiles b R) l) i; pieces = (f ∙ ap (count b R) l) i }

module _ (s : Start) where
  abbrev region : Region
  region = drawn_by s.args.outline

  sizes : Sized region
  sizes = sized (keeps_fewer (omega arith) s.requires.2)

  -- what the pass over a ring asks
  ring_there : (r : ℕ) → r < length region.ends
      → (0 < size_of region.ends r) × (covers s.args.own (stretch_box region.coordinates (start_of region.ends r) (size_of region.ends r)) ≡ true)
  unfolding region_box
  ring_there r h =
      let some : 0 < size_of region.ends r = omega (arith, size_least region.ends sizes.grown r h) in (
        some,
        rw s.requires.3 (stretch_covers region.coordinates (start_of region.ends r) (size_of region.ends r) (last_end region.ends) some (ring_in_last region.ends sizes.grown r h)),
      )

pub loop-r-init : goal.loop-r-init
loop-r-init c = (any_set_none _ 9, sum_none _)

pub ring_of-requires : goal.ring_of-requires
ring_of-requires c = (c.requires.2, c.loop-r-test.true)

pub ring_seen-p-requires : goal.ring_seen-p-requires
ring_seen-p-requires c =
    let ring = c.ring_of.ensures in
    let there = ring_there (goal.at.ring_seen-p-requires c).Start c.loop-r.r c.loop-r-test.true in
    (c.requires.0, c.requires.1, rw ring.2 there.0, rw (ring.0, ring.1, ring.2) there.1)

-- one ring more
module _ (c : After-ring_seen-p) where
  abbrev begin : Start
  begin = (goal.at.After-ring_seen-p c).Start

  ring_is : c.ring_seen-p.result ≡ ring begin.args.b (region begin) c.loop-r.r
  ring_is =
      let r = c.ring_of.ensures in
      c.ring_seen-p.ensures ∙ (λ i. ring_seen begin.args.b (r.0 i) (r.1 i) (r.2 i))

  tiles_then : bit_or c.loop-r.set c.ring_seen-p.result.set ≡ tiles begin.args.b (region begin) (c.loop-r.r + 1)
  tiles_then = tiles_next begin.args.b (region begin) c.loop-r.r c.loop-r.set c.ring_seen-p.result c.loop-r.invariant.0 ring_is

  count_then : c.loop-r.pieces + c.ring_seen-p.result.pieces ≡ count begin.args.b (region begin) (c.loop-r.r + 1)
  count_then = count_next begin.args.b (region begin) c.loop-r.r c.loop-r.pieces c.ring_seen-p.result c.loop-r.invariant.1 ring_is

pub overflow_add-pieces : goal.overflow_add-pieces
overflow_add-pieces c =
    let at = (goal.at.overflow_add-pieces c).After-ring_seen-p in
    let s = begin at in
    record { fits = omega (arith, count_then at, count_small s.args.b (region s) c.requires.2 (c.loop-r.r + 1) (omega (arith, c.loop-r-test.true))) }

pub loop-r-preserved : goal.loop-r-preserved
loop-r-preserved c = let s = (goal.at.loop-r-preserved c).After-ring_seen-p in (tiles_then s, count_then s)

pub returns : goal.returns
returns c =
    let l = c.loop-r in
    all_rings c.args.b (region (goal.at.returns c).Start) l.r l.set l.pieces (omega arith) l.invariant.0 l.invariant.1
