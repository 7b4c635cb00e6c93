use Rattle.region.specs.Outline.{drawn_by}
use Rattle.layout.proofs.Steps.{ends_few, vertices_few, whole_written, boxed_written, written}
use Rattle.placing.proofs.writing.write_among.Goals as goal

pub write_room-requires : goal.write_room-requires
write_room-requires c =
    let r = c.requires.0 in
    (r.change.lists.coordinate_count, r.change.slot_in, vertices_few _ _ (drawn_by c.args.outline) r)

pub write_record-requires : goal.write_record-requires
write_record-requires c =
    let r = c.requires.0 in
    (r.change.lists.record_count, r.change.slot_in, ends_few _ _ (drawn_by c.args.outline) r)

pub invariant_of-standing : goal.invariant_of-standing
invariant_of-standing c =
    record { whole = whole_written _ _ (drawn_by c.args.outline) c.requires.0 c.write_room.ensures c.write_record.ensures }

pub find_box-requires : goal.find_box-requires
find_box-requires c = c.requires.0.change.slot_in

pub relate-requires : goal.relate-requires
relate-requires c =
    let r = c.requires.0 in
    let x = c.write_room.ensures in
    let e = c.write_record.ensures in (
      boxed_written _ _ (drawn_by c.args.outline) r x e c.requires.1 c.find_box.ensures,
      r.change.lists.relation_count,
      r.change.slot_in,
    )

pub returns : goal.returns
returns c =
    let r = c.requires.0 in
    let x = c.write_room.ensures in
    let e = c.write_record.ensures in
    record {
      relations_after = written _ _ (drawn_by c.args.outline) r x e c.relate.ensures;
      boxed = boxed_written _ _ (drawn_by c.args.outline) r x e c.requires.1 c.find_box.ensures;
    }
