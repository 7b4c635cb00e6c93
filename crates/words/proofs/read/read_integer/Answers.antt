use Rattle.std.proofs.Common.{◌≡◌, ℕ, refl, sym, ap, ◌∙◌, arith}
use Rattle.std.specs.Prelude.{Option, Some}
use lib.IntN.{ℤ}
use mir.Syntax.{w32}
use mir.Facts.{to_z_pos}
use Rattle.words.specs.declared.Word.{Word}
use borrow.Author.Tests.{eqb-false}
use Rattle.words.specs.Numbers.{as_positive, signed_at, integer_at}
use Rattle.words.proofs.Lines.{within}
use Rattle.words.proofs.Numbers.{magnitude_most, signed_negative, signed_positive}
use Rattle.words.proofs.read.read_integer.Goals as goal
use Rattle.words.proofs.read.read_integer.Goals.{After-magnitude}

-- with no `-` before it, what was read is the integer at the first word
positive : (c : After-magnitude) → as_positive c.magnitude.result ≡ integer_at c.args.line.now c.args.from
positive c =
    let bs = c.args.line.now in
    ap as_positive c.magnitude.ensures
    ∙ signed_positive bs c.after_spaces-start.result (λ z. c.if-byte_at-eq-MINUS.false (c.byte_at.ensures ∙ z))
    ∙ ap (signed_at bs) c.after_spaces-start.ensures

pub overflow_add-start : goal.overflow_add-start
overflow_add-start c =
    let h = within c.args.line.now c.after_spaces-start.result (λ z. eqb-false 45 32 refl (sym c.if-byte_at-eq-MINUS.true ∙ c.byte_at.ensures ∙ z)) in
    omega (arith, h)

pub returns-then-byte_at-eq-MINUS : goal.returns-then-byte_at-eq-MINUS
returns-then-byte_at-eq-MINUS c =
    c.negative.ensures
    ∙ signed_negative c.args.line.now c.after_spaces-start.result (sym c.byte_at.ensures ∙ c.if-byte_at-eq-MINUS.true)
    ∙ ap (signed_at c.args.line.now) c.after_spaces-start.ensures

pub returns-in_err-value : goal.returns-in_err-value
returns-in_err-value c = c.from_residual.ensures ∙ sym (ap as_positive c.in_err-value.was) ∙ positive (goal.at.returns-in_err-value c).After-magnitude

pub overflow_cast-result : goal.overflow_cast-result
overflow_cast-result c =
    let h = magnitude_most c.args.line.now c.after_spaces-start.result 2147483647 (sym c.magnitude.ensures ∙ c.in_ok-value.was) in
    record { sfits = omega (arith, h) }

abbrev word_of : ℕ → ℤ → Option (Word ℤ)
word_of n z = Some (record { value = z; next = n })

pub returns : goal.returns
returns c =
    let h = magnitude_most c.args.line.now c.after_spaces-start.result 2147483647 (sym c.magnitude.ensures ∙ c.in_ok-value.was) in
    ap (word_of c.in_ok-value.field-0.next) (to_z_pos w32 (omega (arith, h)))
    ∙ sym (ap as_positive c.in_ok-value.was)
    ∙ positive (goal.at.returns c).After-magnitude
