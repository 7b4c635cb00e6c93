use mathlib.Core.Path.{◌≡◌, sym, ◌∙◌, ap}
use mathlib.Core.List.{List, ◌++◌}
use native.Mathlib.Omega.{arith}
use Prim.Native.Nat.{◌+◌, ◌≤◌}
use lib.ListN.{length}
use Rattle.names.specs.Names.{name_of, names_to}
use Rattle.names.specs.Steps.{joint, name_step}
use Rattle.names.proofs.Putting.{put_none, put_as, put_then, room_first, room_next}
use Rattle.names.proofs.NameSteps.{joint_is, name_step_none, name_step_some}
use Rattle.names.proofs.names.put_bit.Goals as goal
use Rattle.names.proofs.names.put_bit.Goals.{Else-set-k-ne1}

-- the bit is set: what it adds
adds : (c : Else-set-k-ne1)
    → let a = c.args in
    name_step a.middle a.set a.k ≡ joint a.from a.at ++ name_of a.middle a.k
adds c =
    let a = c.args in
    name_step_some a.middle a.set a.k c.if-set-k-ne1.false
    ∙ ap (λ (l : List _). l ++ name_of a.middle a.k) (sym (joint_is (names_to a.middle a.set a.k) a.from a.at c.requires.1))

room : (c : Else-set-k-ne1)
    → let a = c.args in
    a.at + length (joint a.from a.at ++ name_of a.middle a.k) ≤ length a.out.now
room c = omega (arith, c.requires.2, ap length (adds c))

pub returns-then-set-k-ne1 : goal.returns-then-set-k-ne1
returns-then-set-k-ne1 c = put_as (sym (name_step_none _ _ _ c.if-set-k-ne1.true)) (put_none _ _)

pub put_joint-next-requires : goal.put_joint-next-requires
put_joint-next-requires c =
    let a = c.args in
    room_first a.at _ (joint a.from a.at) (name_of a.middle a.k) (room (goal.at.put_joint-next-requires c).Else-set-k-ne1)

pub put_name-requires : goal.put_name-requires
put_name-requires c =
    let a = c.args in
    (c.requires.0, room_next (joint a.from a.at) (name_of a.middle a.k) c.put_joint-next.ensures (room (goal.at.put_name-requires c).Else-set-k-ne1))

pub returns : goal.returns
returns c =
    let a = c.args in
    put_as (sym (adds (goal.at.returns c).Else-set-k-ne1)) (put_then (joint a.from a.at) (name_of a.middle a.k) c.put_joint-next.ensures c.put_name.ensures)
