use mathlib.Core.Path.{sym, ap, ◌∙◌, subst}
use lib.IntN.{ℤ, nat_abs}
use Rattle.plane.proofs.Signs.{negative, positive}
use Rattle.words.specs.Texts.{WroteInteger}
use mir.Facts.{to_z-of_z}
use Rattle.words.proofs.write.put_integer.Goals as goal

pub returns-then-value-lt0 : goal.returns-then-value-lt0
returns-then-value-lt0 c =
    let sign = c.put_byte-next in
    let number = c.put_natural in
    let g = negative c.args.value (simp (to_z-of_z c.ranges.value) at c.if-value-lt0.true) in
    subst
    (λ (z : ℤ). WroteInteger c.args.out.now c.args.at z number.result number.new.out)
    (sym g.1)
    (record {
      middle = sign.result;
      signed = sign.new.out;
      sign = sign.ensures;
      number = rw (c.unsigned_abs-digits.ensures.value ∙ ap nat_abs (to_z-of_z c.ranges.value ∙ g.1)) at number.ensures;
    })

pub returns : goal.returns
returns c =
    let number = c.put_natural-2 in
    let g = positive c.args.value (simp (to_z-of_z c.ranges.value) at c.if-value-lt0.false) in
    subst
    (λ (z : ℤ). WroteInteger c.args.out.now c.args.at z number.result number.new.out)
    (sym g.1)
    (rw (c.unsigned_abs-digits.ensures.value ∙ ap nat_abs (to_z-of_z c.ranges.value ∙ g.1)) at number.ensures)
