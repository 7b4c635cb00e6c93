use mathlib.Core.Bool.{not}
use mathlib.Core.List.{List}
use Prim.Native.Nat.{ℕ}
use native.Mathlib.Omega.{arith}
use Rattle.layout.specs.Sheet.{slots}
use Rattle.layout.specs.Slots.{rings_in, empty_in}
use Rattle.endian.proofs.Running.{running_none, running_room, running_more, running_all}
use Rattle.writing.specs.Write.{entry_bytes}
use Rattle.writing.proofs.steps.put_entries.Goals as goal

abbrev entry : List ℕ → ℕ → List ℕ
entry records j = entry_bytes j (not (empty_in records j)) (rings_in records j)

pub loop-i-init : goal.loop-i-init
loop-i-init c = running_none _ _ _ _

pub put_entry-at-requires : goal.put_entry-at-requires
put_entry-at-requires c =
    (c.loop-i-test.true, running_room (entry c.args.standing.now.records.now) c.args.from slots c.args.b.now c.loop-i.i c.loop-i.b c.loop-i.at (omega arith) c.requires c.loop-i.invariant)

pub loop-i-preserved : goal.loop-i-preserved
loop-i-preserved c =
    running_more (entry c.args.standing.now.records.now) c.args.from slots c.args.b.now c.loop-i.i c.loop-i.b c.loop-i.at (omega arith) c.loop-i.invariant c.put_entry-at.ensures.b_after c.put_entry-at.ensures.value

pub returns : goal.returns
returns c =
    let r = running_all (entry c.args.standing.now.records.now) c.args.from slots c.args.b.now c.loop-i.i c.loop-i.b c.loop-i.at (omega arith) c.loop-i.invariant in
    record { value = r.1; b_after = r.0 }
