use native.Mathlib.Omega.{arith}
use Rattle.card.specs.Reading.{parcel_count}
use Rattle.endian.proofs.Running.{running_none, running_room, running_more, running_all}
use Rattle.lines.specs.Steps.{row_of}
use Rattle.lines.proofs.lines.put_rows.Goals as goal

pub loop-j-init : goal.loop-j-init
loop-j-init c = running_none _ _ _ _

pub put_row-at-requires : goal.put_row-at-requires
put_row-at-requires c =
    (omega (arith, c.parcel_count-j-end.ensures), running_room (row_of c.args.card.now.bytes.now) c.args.from (parcel_count c.args.card.now.bytes.now) c.args.out.now c.loop-j.j c.loop-j.out c.loop-j.at (omega (arith, c.parcel_count-j-end.ensures)) c.requires c.loop-j.invariant)

pub loop-j-preserved : goal.loop-j-preserved
loop-j-preserved c =
    running_more (row_of c.args.card.now.bytes.now) c.args.from (parcel_count c.args.card.now.bytes.now) c.args.out.now c.loop-j.j c.loop-j.out c.loop-j.at (omega (arith, c.parcel_count-j-end.ensures)) c.loop-j.invariant c.put_row-at.ensures.buffer c.put_row-at.ensures.place

pub returns : goal.returns
returns c =
    let r = running_all (row_of c.args.card.now.bytes.now) c.args.from (parcel_count c.args.card.now.bytes.now) c.args.out.now c.loop-j.j c.loop-j.out c.loop-j.at (omega (arith, c.parcel_count-j-end.ensures)) c.loop-j.invariant in
    record { place = r.1; buffer = r.0 }
