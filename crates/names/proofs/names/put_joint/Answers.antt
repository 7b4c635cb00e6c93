use mathlib.Core.Path.{sym, ap}
use native.Mathlib.Omega.{arith}
use lib.ListN.{length}
use Rattle.names.proofs.Putting.{put_none, put_as}
use Rattle.names.proofs.NameSteps.{joint_none, joint_some}
use Rattle.names.proofs.names.put_joint.Goals as goal

pub returns-then-at-from : goal.returns-then-at-from
returns-then-at-from c = put_as (sym (joint_none _ _ c.if-at-from.true)) (put_none _ _)

pub put_byte-requires : goal.put_byte-requires
put_byte-requires c =
    omega (arith, c.requires, ap length (joint_some c.args.from c.args.at c.if-at-from.false))

pub returns : goal.returns
returns c =
    put_as (sym (joint_some _ _ c.if-at-from.false)) c.put_byte.ensures
