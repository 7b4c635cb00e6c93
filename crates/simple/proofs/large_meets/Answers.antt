use mathlib.Core.Path.{refl}
use native.Mathlib.Omega.{arith}
use Prim.Native.Nat.{◌<◌}
use lib.ListN.{replicate}
use Rattle.plane.specs.Placed.{BoxInPlaces}
use Rattle.bands.specs.Bands.{Within}
use Rattle.ring.proofs.RingBox.{box_in_places}
use Rattle.bands.proofs.Laid.{laid}
use Rattle.simple.proofs.Near.{x_within, y_within}
use Rattle.simple.proofs.large_meets.Goals as goal
use Rattle.simple.proofs.large_meets.Goals.{After-own_box-b}

-- the ring lies in its box
module _ (c : After-own_box-b) where
  placed : BoxInPlaces c.own_box-b.result
  placed =
      let r = c.args.ring in
      rw c.own_box-b.ensures (box_in_places r.outline.now r.from r.size r.stretch.range (omega (arith, c.requires.0)))

  in_x : Within c.args.ring.outline.now c.args.ring.from c.args.ring.size 0 c.own_box-b.result.west c.own_box-b.result.east
  in_x =
      let r = c.args.ring in
      x_within r.outline.now r.from r.size (omega (arith, c.requires.0)) c.own_box-b.result c.own_box-b.ensures

  in_y : Within c.args.ring.outline.now c.args.ring.from c.args.ring.size 1 c.own_box-b.result.south c.own_box-b.result.north
  in_y =
      let r = c.args.ring in
      y_within r.outline.now r.from r.size (omega (arith, c.requires.0)) c.own_box-b.result c.own_box-b.ensures

pub lay-requires : goal.lay-requires
lay-requires c =
    let p = (goal.at.lay-requires c).After-own_box-b in
    (omega (arith, c.requires.0), c.requires.1, in_x p, (placed p).east)

pub lay-requires-2 : goal.lay-requires-2
lay-requires-2 c =
    let p = (goal.at.lay-requires-2 c).After-own_box-b in
    (omega (arith, c.requires.0), c.requires.1, in_y p, (placed p).north)

pub banded_meets-requires : goal.banded_meets-requires
banded_meets-requires c =
    let p = (goal.at.banded_meets-requires c).After-own_box-b in
    let x = c.lay.ensures in
    let y = c.lay-2.ensures in
    let n = c.args.ring.size in
    let some : 0 < n = omega (arith, c.requires.0) in
    let few = c.requires.1 in
    let room : n < 65 = omega (arith, few) in record {
      size = c.requires;
      columns = laid some few (in_x p) (placed p).east (replicate 65 0) (replicate 32 0) room refl x.ends x.below x.above;
      rows = laid some few (in_y p) (placed p).north (replicate 65 0) (replicate 32 0) room refl y.ends y.below y.above;
    }
