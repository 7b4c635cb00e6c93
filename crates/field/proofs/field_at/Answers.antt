use mathlib.Core.Path.{sym, ◌∙◌, ap}
use lib.ListN.{take}
use Prim.Native.Nat.{ℕ}
use Rattle.field.proofs.field_at.Goals as goal

pub returns : goal.returns
returns c =
    let read = c.parcel-parcel.ensures in
    record {
      slot = c.slot_at-slot.ensures;
      rings = read.counts.0;
      ends = read.ends;
      numbers = ap (λ (n : ℕ). take n c.parcel-parcel.result.numbers) (sym read.counts.1) ∙ read.numbers;
    }
