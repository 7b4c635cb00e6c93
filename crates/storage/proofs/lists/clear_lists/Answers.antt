use mathlib.Core.Path.{◌∙◌}
use Rattle.layout.specs.Sheet.{sheet_of}
use Rattle.layout.proofs.Blank.{blank_zeros}
use Rattle.storage.proofs.lists.clear_lists.Goals as goal

pub returns : goal.returns
returns c =
    (λ i. sheet_of (c.fill.ensures.after (λ y e. e) i) (c.fill-2.ensures.after (λ y e. e) i) (c.fill-3.ensures.after (λ y e. e) i))
    ∙ blank_zeros (sheet_of c.args.xs.now c.args.records.now c.args.relations.now) c.requires
