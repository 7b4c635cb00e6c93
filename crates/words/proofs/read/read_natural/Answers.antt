use Rattle.std.proofs.Common.{sym, ◌∙◌, arith}
use Rattle.words.proofs.Numbers.{magnitude_most}
use Rattle.words.proofs.read.read_natural.Goals as goal

pub overflow_cast-result : goal.overflow_cast-result
overflow_cast-result c =
    omega (arith, magnitude_most c.args.line.now c.after_spaces-start.result 65535 (sym c.magnitude.ensures ∙ c.in_ok-value.was))
