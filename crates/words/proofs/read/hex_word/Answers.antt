use native.Mathlib.Omega.{arith}
use mathlib.Core.Path.{◌≡◌, refl, sym, ◌∙◌}
use borrow.Author.Tests.{eqb-false, eq-eqb, ne_eqb}
use Rattle.words.specs.Numbers.{hex_at}
use Rattle.words.proofs.Lines.{within}
use Rattle.words.proofs.Numbers.{hex_upto, hex_of_lem}
use Rattle.words.proofs.read.hex_word.Goals as goal
use Rattle.words.proofs.read.hex_word.Goals.{After-after_hex-next}

-- with no `-` there, what the word is goes by the place after the digits
form : (c : After-after_hex-next)
    → hex_upto c.args.line.now c.args.at c.after_hex-next.result ≡ hex_at c.args.line.now c.args.at
form c =
    hex_of_lem c.args.line.now c.args.at c.after_hex-next.result c.after_hex-next.ensures (λ z. c.if-byte_at-eq-MINUS.false (c.byte_at.ensures ∙ z))

pub overflow_add-next : goal.overflow_add-next
overflow_add-next c =
    let h = within c.args.line.now c.args.at (λ z. eqb-false 45 32 refl (sym c.if-byte_at-eq-MINUS.true ∙ c.byte_at.ensures ∙ z)) in
    omega (arith, h)

pub returns-then-byte_at-ne-SPACE : goal.returns-then-byte_at-ne-SPACE
unfolding hex_at
returns-then-byte_at-ne-SPACE c =
    simp (
      eq-eqb _ 45 (sym c.byte_at.ensures ∙ c.if-byte_at-eq-MINUS.true),
      ne_eqb _ 32 (λ z. c.if-byte_at-ne-SPACE.true (c.byte_at-then-byte_at-eq-MINUS.ensures ∙ z)),
    )

pub returns-then-byte_at-eq-MINUS : goal.returns-then-byte_at-eq-MINUS
unfolding hex_at
returns-then-byte_at-eq-MINUS c =
    simp (
      eq-eqb _ 45 (sym c.byte_at.ensures ∙ c.if-byte_at-eq-MINUS.true),
      eq-eqb _ 32 (sym c.byte_at-then-byte_at-eq-MINUS.ensures ∙ c.if-byte_at-ne-SPACE.false),
    )

pub returns-then-byte_at-ne-SPACE-2 : goal.returns-then-byte_at-ne-SPACE-2
returns-then-byte_at-ne-SPACE-2 c = rw (← form (goal.at.returns-then-byte_at-ne-SPACE-2 c).After-after_hex-next) (simp (ne_eqb _ 32 (λ z. c.if-byte_at-ne-SPACE-2.true (c.byte_at-2.ensures ∙ z))))

pub returns-then-digits-eq0 : goal.returns-then-digits-eq0
returns-then-digits-eq0 c =
    rw
    (← form (goal.at.returns-then-digits-eq0 c).After-after_hex-next)
    (simp (eq-eqb _ 32 (sym c.byte_at-2.ensures ∙ c.if-byte_at-ne-SPACE-2.false), eq-eqb _ 0 c.if-digits-eq0.true))

pub returns-then-digits-ne0 : goal.returns-then-digits-ne0
returns-then-digits-ne0 c =
    rw
    (← form (goal.at.returns-then-digits-ne0 c).After-after_hex-next)
    (simp (
      eq-eqb _ 32 (sym c.byte_at-2.ensures ∙ c.if-byte_at-ne-SPACE-2.false),
      ne_eqb _ 0 c.if-digits-eq0.false,
      ne_eqb _ 0 c.if-digits-ne0.true,
    ))

pub returns : goal.returns
returns c =
    rw
    (← form (goal.at.returns c).After-after_hex-next)
    (simp (
      eq-eqb _ 32 (sym c.byte_at-2.ensures ∙ c.if-byte_at-ne-SPACE-2.false),
      ne_eqb _ 0 c.if-digits-eq0.false,
      eq-eqb _ 0 c.if-digits-ne0.false,
    ))
