use mathlib.Core.Path.{◌≡◌, sym, ap, ◌∙◌}
use borrow.Author.Tests.{eq-eqb, ne_eqb}
use Rattle.words.specs.Lines.{word_at, letters_at, name_of}
use Rattle.words.proofs.read.read_name.Goals as goal
use Rattle.words.proofs.read.read_name.Goals.{After-read_run-name}

-- what was spelled are the letters at the first word
letters : (c : After-read_run-name) → c.read_run-name.result ≡ letters_at c.args.line.now (word_at c.args.line.now c.args.from)
letters c = c.read_run-name.ensures ∙ ap (letters_at c.args.line.now) c.after_spaces-start.ensures

pub returns-then-byte_at-ne-SPACE : goal.returns-then-byte_at-ne-SPACE
returns-then-byte_at-ne-SPACE c = sym (ap (name_of c.args.line.now) (sym (letters (goal.at.returns-then-byte_at-ne-SPACE c).After-read_run-name)) ∙ simp (ne_eqb _ 32 (λ z. c.if-byte_at-ne-SPACE.true (c.byte_at.ensures ∙ z))))

pub returns : goal.returns
returns c = sym (ap (name_of c.args.line.now) (sym (letters (goal.at.returns c).After-read_run-name)) ∙ simp (eq-eqb _ 32 (sym c.byte_at.ensures ∙ c.if-byte_at-ne-SPACE.false)))
