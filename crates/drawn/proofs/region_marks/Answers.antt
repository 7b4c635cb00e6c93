use mathlib.Core.Path.{◌≡◌, ◌∙◌, ap}
use Prim.Native.Nat.{ℕ, ◌/◌, ◌%◌}
use native.Mathlib.Omega.{arith}
use lib.Bits.{bit_or}
use lib.ListN.{length}
use Rattle.plane.specs.TileSet.{set_of}
use Rattle.plane.proofs.TileSet.{any_set, any_set_none, any_set_more}
use Rattle.region.specs.Region.{Region}
use Rattle.region.specs.Outline.{drawn_by}
use Rattle.matrix.specs.Kept.{cell_in}
use Rattle.drawn.specs.Steps.{edges_mark}
use Rattle.drawn.proofs.region_marks.Invariants.{rings, ring}
use Rattle.drawn.proofs.region_marks.Goals as goal
use Rattle.drawn.proofs.region_marks.Goals.{After-ring_marks-set, At-loop-r, Start}

pub loop-r-init : goal.loop-r-init
loop-r-init c = any_set_none (rings c.args.own c.args.g (drawn_by c.args.outline)) 9

pub ring_of-requires : goal.ring_of-requires
ring_of-requires c = (c.requires.1, c.loop-r-test.true)

-- the ring that the pass looked at
module _ (c : After-ring_marks-set) where
  abbrev region : Region
  region = drawn_by c.args.outline

  ring_is : c.ring_marks-set.result ≡ set_of (rings c.args.own c.args.g region c.loop-r.r) 9
  ring_is =
      let e = c.ring_of.ensures in
      c.ring_marks-set.ensures ∙ (λ i. set_of (λ d. ring c.args.own (cell_in c.args.g (d / 3) (d % 3)) (e.0 i) (e.1 i) (e.2 i)) 9)

pub loop-r-preserved : goal.loop-r-preserved
loop-r-preserved c =
    (λ i. bit_or (c.loop-r.invariant i) (ring_is c i)) ∙ any_set_more (rings c.args.own c.args.g (drawn_by c.args.outline)) 9 c.loop-r.r

pub returns : goal.returns
unfolding edges_mark
returns c =
    let l = c.loop-r in
    let e : l.r ≡ length c.args.outline.ends.now = omega arith in
    l.invariant ∙ ap (λ (r : ℕ). any_set (rings c.args.own c.args.g (drawn_by c.args.outline)) r 9) e
