use mathlib.Core.Path.{sym, ◌∙◌, ap}
use mathlib.Core.List.{List}
use Prim.Native.Nat.{ℕ, ◌+◌, ◌≤◌}
use native.Mathlib.Omega.{arith}
use lib.ListN.{length}
use Rattle.endian.specs.Bytes.{joined}
use Rattle.endian.proofs.Running.{running_none, running_room, running_more, running_all}
use Rattle.names.specs.Steps.{name_step}
use Rattle.names.proofs.Putting.{put_as}
use Rattle.names.proofs.NameSteps.{names_joined}
use Rattle.names.proofs.names.put_names.Goals as goal
use Rattle.names.proofs.names.put_names.Goals.{Start}

room : (s : Start) → s.args.from + length (joined (name_step s.args.middle s.args.set) 9) ≤ length s.args.out.now
room s = omega (arith, s.requires, ap length (names_joined s.args.middle s.args.set 9))

pub loop-k-init : goal.loop-k-init
loop-k-init c = running_none _ _ _ _

pub put_bit-at-requires : goal.put_bit-at-requires
put_bit-at-requires c =
    let a = c.args in
    (omega arith, c.loop-k.invariant.1 ∙ ap (λ (l : List ℕ). a.from + length l) (sym (names_joined a.middle a.set c.loop-k.k)), running_room (name_step a.middle a.set) a.from 9 a.out.now c.loop-k.k c.loop-k.out c.loop-k.at (omega arith) (room (goal.at.put_bit-at-requires c).Start) c.loop-k.invariant)

pub loop-k-preserved : goal.loop-k-preserved
loop-k-preserved c =
    let a = c.args in
    running_more (name_step a.middle a.set) a.from 9 a.out.now c.loop-k.k c.loop-k.out c.loop-k.at (omega arith) c.loop-k.invariant c.put_bit-at.ensures.buffer c.put_bit-at.ensures.place

pub returns : goal.returns
returns c =
    let a = c.args in
    let r = running_all (name_step a.middle a.set) a.from 9 a.out.now c.loop-k.k c.loop-k.out c.loop-k.at (omega arith) c.loop-k.invariant in
    put_as (sym (names_joined a.middle a.set 9)) (record { place = r.1; buffer = r.0 })
