use native.Mathlib.Omega.{arith}
use Rattle.card.specs.Reading.{parcel_count}
use Rattle.endian.proofs.Running.{running_none, running_room, running_more, running_all}
use Rattle.lines.specs.Listing.{line_of}
use Rattle.lines.proofs.lines.put_row.Goals as goal

pub loop-k-init : goal.loop-k-init
loop-k-init c = running_none _ _ _ _

pub put_pair-at-requires : goal.put_pair-at-requires
put_pair-at-requires c =
    (c.requires.0, omega (arith, c.parcel_count-k-end.ensures), running_room (line_of c.args.card.now.bytes.now c.args.j) c.args.from (parcel_count c.args.card.now.bytes.now) c.args.out.now c.loop-k.k c.loop-k.out c.loop-k.at (omega (arith, c.parcel_count-k-end.ensures)) c.requires.1 c.loop-k.invariant)

pub loop-k-preserved : goal.loop-k-preserved
loop-k-preserved c =
    running_more (line_of c.args.card.now.bytes.now c.args.j) c.args.from (parcel_count c.args.card.now.bytes.now) c.args.out.now c.loop-k.k c.loop-k.out c.loop-k.at (omega (arith, c.parcel_count-k-end.ensures)) c.loop-k.invariant c.put_pair-at.ensures.buffer c.put_pair-at.ensures.place

pub returns : goal.returns
returns c =
    let r = running_all (line_of c.args.card.now.bytes.now c.args.j) c.args.from (parcel_count c.args.card.now.bytes.now) c.args.out.now c.loop-k.k c.loop-k.out c.loop-k.at (omega (arith, c.parcel_count-k-end.ensures)) c.loop-k.invariant in
    record { place = r.1; buffer = r.0 }
