use Rattle.std.proofs.Common.{◌≡◌, refl, sym, ◌∙◌, arith}
use borrow.Author.Tests.{lt-ltb, le-ltb}
use Rattle.words.specs.Lines.{is_hex}
use Rattle.words.proofs.Lines.{run_more, run_stop, run_over}
use Rattle.words.proofs.read.after_hex.Goals as goal

pub loop-i-init : goal.loop-i-init
loop-i-init c = (omega arith, refl)

pub returns-then-hex_value-ge16 : goal.returns-then-hex_value-ge16
returns-then-hex_value-ge16 c = sym (c.loop-i.invariant.1 ∙ run_stop is_hex c.args.line.now c.loop-i.i c.loop-i-test.true (le-ltb _ 16 (rw c.hex_value.ensures at c.if-hex_value-ge16.true)))

pub loop-i-preserved : goal.loop-i-preserved
loop-i-preserved c = (omega arith, c.loop-i.invariant.1 ∙ run_more is_hex c.args.line.now c.loop-i.i c.loop-i-test.true (lt-ltb _ 16 (rw c.hex_value.ensures at c.if-hex_value-ge16.false)))

pub returns : goal.returns
returns c =
    let e : c.loop-i.i ≡ c.max.result = omega arith in
    sym (c.loop-i.invariant.1 ∙ run_over is_hex c.args.line.now c.loop-i.i c.loop-i-test.false ∙ e)
