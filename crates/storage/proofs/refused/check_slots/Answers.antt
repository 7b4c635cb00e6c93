use mathlib.Core.Path.{refl, sym, ap, ◌∙◌}
use mathlib.Core.Bool.{Bool}
use native.Mathlib.Omega.{arith}
use Rattle.plane.proofs.Folds.{any_means, any_none}
use Rattle.region.specs.declared.refusals.Refusal.TheVariants.{SheetDamaged}
use Rattle.region.specs.Refusals.{number_if}
use Rattle.layout.specs.Sheet.{slots}
use Rattle.layout.specs.Damage.{damaged_at}
use Rattle.layout.proofs.Undamaged.{slots_whole}
use Rattle.storage.proofs.refused.check_slots.Goals as goal

pub returns-then-slot_damaged : goal.returns-then-slot_damaged
returns-then-slot_damaged c =
    record {
      refusal = ap (λ (t : Bool). number_if t SheetDamaged)
          (sym ((any_means (damaged_at _ _) slots).1 (c.loop-i.i, omega arith, sym c.slot_damaged.ensures ∙ c.if-slot_damaged.true)));
      standing = tt;
    }

pub invariant_of-result : goal.invariant_of-result
invariant_of-result c = record { whole = slots_whole _ _ c.requires (any_none _ slots (λ k l. c.loop-i.invariant k (omega arith))) }

pub returns : goal.returns
returns c =
    record {
      refusal = ap (λ (t : Bool). number_if t SheetDamaged) (sym (any_none _ slots (λ k l. c.loop-i.invariant k (omega arith))));
      standing = (refl, refl);
    }
