use mathlib.Core.Path.{sym, ◌∙◌}
use Rattle.words.proofs.Numbers.{magnitude_none, magnitude_longer, magnitude_above, magnitude_is}
use borrow.Author.Rules.{rules}
use Rattle.words.proofs.read.magnitude.Goals as goal

pub returns-then-next-at : goal.returns-then-next-at
returns-then-next-at c =
    let a = c.args in
    magnitude_none a.line.now a.at a.most c.read_run-d.result c.read_run-d.ensures c.if-next-at.true

pub returns-then-byte_at-ne-SPACE : goal.returns-then-byte_at-ne-SPACE
returns-then-byte_at-ne-SPACE c =
    let a = c.args in
    let d = c.read_run-d in
    magnitude_longer a.line.now a.at a.most d.result d.ensures c.if-next-at.false (λ z. c.if-byte_at-ne-SPACE.true (c.byte_at.ensures ∙ z))

pub returns-then-most-value : goal.returns-then-most-value
returns-then-most-value c =
    let a = c.args in
    let d = c.read_run-d in
    let ends = sym c.byte_at.ensures ∙ c.if-byte_at-ne-SPACE.false in
    magnitude_above a.line.now a.at a.most d.result d.ensures c.if-next-at.false ends c.if-most-value.true

pub returns : goal.returns
returns c =
    let a = c.args in
    let d = c.read_run-d in
    let ends = sym c.byte_at.ensures ∙ c.if-byte_at-ne-SPACE.false in
    magnitude_is a.line.now a.at a.most d.result d.ensures c.if-next-at.false ends c.if-most-value.false (search rules)
