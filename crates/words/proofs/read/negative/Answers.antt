use Rattle.std.proofs.Common.{sym, ◌∙◌}
use Rattle.words.proofs.Numbers.{magnitude_most}
use Rattle.words.proofs.read.negative.Goals as goal

pub negated-requires : goal.negated-requires
negated-requires c = magnitude_most c.args.line.now c.args.at 2147483648 (sym c.magnitude.ensures ∙ c.in_ok-value.was)
