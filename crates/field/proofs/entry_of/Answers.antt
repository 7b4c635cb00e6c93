use native.Mathlib.Omega.{arith}
use mathlib.Core.Path.{sym, ◌∙◌}
use borrow.Author.Count.{below_more, below_none}
use borrow.Author.Tests.{eq-eqb, ne_eqb}
use Rattle.plane.proofs.Folds.{first_hit, first_none}
use Rattle.card.specs.Reading.{parcel_count, entry_of}
use Rattle.field.proofs.entry_of.Goals as goal

pub loop-k-init : goal.loop-k-init
loop-k-init c = below_none _

pub returns-then-slot_at-slot-clause-value : goal.returns-then-slot_at-slot-clause-value
unfolding entry_of
returns-then-slot_at-slot-clause-value c =
    sym (first_hit _ c.loop-k.k (parcel_count c.args.card.now.bytes.now) (omega (arith, c.parcel_count-k-end.ensures)) c.loop-k.invariant (eq-eqb _ _ (sym c.slot_at.ensures ∙ c.if-slot_at-slot.true)))

pub loop-k-preserved : goal.loop-k-preserved
loop-k-preserved c = below_more _ _ c.loop-k.invariant (ne_eqb _ _ (λ e. c.if-slot_at-slot.false (c.slot_at.ensures ∙ e)))

pub returns-clause-value : goal.returns-clause-value
unfolding entry_of
returns-clause-value c = sym (first_none _ _ (λ k h. c.loop-k.invariant k (omega (arith, h, c.parcel_count-k-end.ensures))))
