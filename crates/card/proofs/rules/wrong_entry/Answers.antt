use mathlib.Core.Path.{sym, ap, ◌∙◌}
use native.Mathlib.Omega.{arith}
use lib.Dec.{ltb}
use Rattle.plane.proofs.Logic.{clash}
use Rattle.region.specs.Region.{most_rings}
use Rattle.card.proofs.Bounds.{entry_there}
use Rattle.card.proofs.Tests.{slot_rises, entry_wrong, entry_last}
use Rattle.card.proofs.rules.wrong_entry.Goals as goal

pub returns-then-falls_back : goal.returns-then-falls_back
returns-then-falls_back c =
    entry_wrong _ _ (λ e. clash _ (sym c.falls_back.ensures ∙ c.if-falls_back.true) ((slot_rises c.args.card.now.bytes.now c.args.k).1 e.rises))

pub slot_at-requires : goal.slot_at-requires
slot_at-requires c = entry_there c.args.card.now.bytes.now c.args.card.now.header c.args.k c.requires

pub returns-then-slot_at-gt-LAST_CARD_SLOT : goal.returns-then-slot_at-gt-LAST_CARD_SLOT
returns-then-slot_at-gt-LAST_CARD_SLOT c = entry_wrong _ _ (λ e. omega (arith, c.if-slot_at-gt-LAST_CARD_SLOT.true, c.slot_at.ensures, e.low))

pub count_at-count-requires : goal.count_at-count-requires
count_at-count-requires c = entry_there c.args.card.now.bytes.now c.args.card.now.header c.args.k c.requires

pub returns-then-count-eq0 : goal.returns-then-count-eq0
returns-then-count-eq0 c = entry_wrong _ _ (λ e. e.some (sym c.count_at-count.ensures.0 ∙ c.if-count-eq0.true))

pub returns : goal.returns
returns c =
    ap (ltb most_rings) c.count_at-count.ensures.0
    ∙ entry_last c.args.card.now.bytes.now c.args.k ((slot_rises c.args.card.now.bytes.now c.args.k).0 (sym c.falls_back.ensures ∙ c.if-falls_back.false)) (omega (arith, c.if-slot_at-gt-LAST_CARD_SLOT.false, c.slot_at.ensures))
    (λ z. c.if-count-eq0.false (c.count_at-count.ensures.0 ∙ z))
