use native.Mathlib.Omega.{arith}
use mathlib.Core.Path.{◌≡◌, refl, ◌∙◌, ap}
use Prim.Native.Nat.{◌+◌, ◌*◌, ◌<◌}
use lib.ListN.{length, take}
use Rattle.card.proofs.Good.{good_means, good_right}
use Rattle.card.proofs.Bounds.{vertices_there}
use Rattle.card.specs.Reading.{parcel_count, ends_at}
use Rattle.region.specs.Region.{last_end}
use Rattle.plane.proofs.Lists.{length_tab}
use Rattle.scale.specs.Places.{x_of, y_of}
use Rattle.scale.specs.declared.shape.Vertex.{Vertex}
use Rattle.plot.proofs.Drawing.{vertex_is, number_is, map_none, map_more, map_as}
use Rattle.plot.specs.Drawn.{Drawn}
use Rattle.plot.proofs.put_parcels.Goals as goal

pub loop-k-init : goal.loop-k-init
loop-k-init c = let a = c.args in (refl, map_none a.v a.card.now.bytes.now a.page.now.out.now a.page.now.at)

pub loop-k-preserved : goal.loop-k-preserved
loop-k-preserved c =
    let g = c.shape_of in
    let f = c.field_at-f in
    let v = c.args.v in
    let card = c.args.card.now.bytes.now in
    let k = c.loop-k.k in
    let l : k < parcel_count card = omega (arith, c.parcel_count-k-end.ensures, c.loop-k-test.true) in
    let few = (vertices_there card (good_right card ((good_means card).0 c.args.card.now.good)) k l).few in
    let n = last_end (ends_at card k) in
    let drawn : Drawn v card k g.result = record {
      slot = g.ensures.slot_value.0 ∙ f.ensures.slot;
      rings = g.ensures.slot_value.1 ∙ f.ensures.rings;
      ends = (λ i. take (g.ensures.slot_value.1 i) (g.ensures.slot_value.2 i)) ∙ f.ensures.ends;
      vertices = ap length g.ensures.vertices_value ∙ length_tab _ 64;
      xs = λ i h. ap (λ (w : Vertex). w.x) (vertex_is _ g.ensures.vertices_value i (omega (arith, few))) ∙ ap (x_of v) (number_is f.result.numbers (2 * n) (2 * i) f.ensures.numbers (omega arith) (omega (arith, few)));
      ys = λ i h. ap (λ (w : Vertex). w.y) (vertex_is _ g.ensures.vertices_value i (omega (arith, few))) ∙ ap (y_of v) (number_is f.result.numbers (2 * n) (2 * i + 1) f.ensures.numbers (omega arith) (omega (arith, few)));
    } in
    (c.put_parcel.ensures.buffer ∙ c.loop-k.invariant.0, map_more v card k g.result drawn c.loop-k.invariant.1 c.put_parcel.ensures.inked)

pub returns : goal.returns
returns c =
    let z : c.loop-k.k ≡ parcel_count c.args.card.now.bytes.now = omega (arith, c.parcel_count-k-end.ensures) in
    record { same_buffer = c.loop-k.invariant.0; map = map_as _ _ z c.loop-k.invariant.1 }
