use mathlib.Core.Path.{sym, ◌∙◌}
use native.Mathlib.Omega.{arith}
use Rattle.simple.proofs.Parts.{meets_found, meets_none}
use Rattle.simple.proofs.SmallRing.meets.Goals as goal

pub returns-then-meets_with : goal.returns-then-meets_with
returns-then-meets_with c =
    let r = c.args.self.now.ring in
    meets_found r.outline.now r.from r.size c.loop-i.i (omega (arith, c.loop-i-test.true)) (sym c.meets_with.ensures ∙ c.if-meets_with.true)

pub returns : goal.returns
returns c =
    let r = c.args.self.now.ring in
    meets_none r.outline.now r.from r.size (λ k h. c.loop-i.invariant k (omega (arith, c.loop-i-test.false)))
