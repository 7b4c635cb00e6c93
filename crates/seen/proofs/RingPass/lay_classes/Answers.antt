use Prim.Native.Nat.{◌+◌}
use native.Mathlib.Omega.{arith}
use Rattle.plane.proofs.Lists.{tab_more}
use Rattle.seen.specs.Pass.{corner_class}
use Rattle.seen.proofs.RingPass.lay_classes.Goals as goal

pub loop-k-preserved : goal.loop-k-preserved
loop-k-preserved c =
    let l = c.loop-k in
    let p = c.args.self.now in
    tab_more (λ i. corner_class p.classing p.ring.outline.now p.ring.from (c.args.at + i)) 0 l.to l.k c.corner_class.result
    (omega arith) l.invariant c.corner_class.ensures

pub returns : goal.returns
returns c = record { each = λ k h. c.loop-k.invariant k (omega arith) }
