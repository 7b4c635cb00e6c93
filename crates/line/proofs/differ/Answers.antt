use Rattle.std.proofs.Common.{◌≡◌, length, rules}
use Rattle.pair.specs.Answer.{answer_with}
use Rattle.drawn.specs.Drawn.{drawn_with}
use Rattle.line.proofs.Differing.{differ_is}
use Rattle.line.proofs.differ.Goals as goal

pub returns : goal.returns
returns c =
    let a = answer_with c.args.a in
    let d = drawn_with c.args.d in
    let m : length a.cells ≡ 9 = search rules in
    let n : length d.cells ≡ 9 = search rules in
    differ_is a d m n c.ne.result c.ne.ensures
