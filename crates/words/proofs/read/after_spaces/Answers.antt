use Rattle.std.proofs.Common.{◌≡◌, refl, sym, ◌∙◌, arith}
use borrow.Author.Tests.{eq-eqb, ne_eqb}
use Rattle.words.specs.Lines.{is_space}
use Rattle.words.proofs.Lines.{run_more, run_stop, run_over}
use Rattle.words.proofs.read.after_spaces.Goals as goal

pub loop-i-init : goal.loop-i-init
loop-i-init c = (omega arith, refl)

pub returns-then-line-i-ne-SPACE : goal.returns-then-line-i-ne-SPACE
returns-then-line-i-ne-SPACE c = sym (c.loop-i.invariant.1 ∙ run_stop is_space c.args.line.now c.loop-i.i c.loop-i-test.true (ne_eqb _ 32 c.if-line-i-ne-SPACE.true))

pub loop-i-preserved : goal.loop-i-preserved
loop-i-preserved c = (omega arith, c.loop-i.invariant.1 ∙ run_more is_space c.args.line.now c.loop-i.i c.loop-i-test.true (eq-eqb _ 32 c.if-line-i-ne-SPACE.false))

pub returns : goal.returns
returns c =
    let e : c.loop-i.i ≡ c.max.result = omega arith in
    sym (c.loop-i.invariant.1 ∙ run_over is_space c.args.line.now c.loop-i.i c.loop-i-test.false ∙ e)
