use Rattle.layout.specs.Sheet.{sheet_of}
use Rattle.layout.proofs.Undamaged.{undamaged_whole}
use Rattle.placing.proofs.writing.write_parcel.Goals as goal

pub invariant_of-find_boxes : goal.invariant_of-find_boxes
invariant_of-find_boxes c =
    record { whole = undamaged_whole (sheet_of c.args.xs.now c.args.records.now c.args.relations.now) c.requires.change.lists c.requires.change.undamaged }

pub write_among-requires : goal.write_among-requires
write_among-requires c = (c.requires, c.find_boxes.ensures)

pub returns : goal.returns
returns c = c.write_among.ensures.relations_after
