use mathlib.Core.Path.{◌≡◌, sym, ap, ◌∙◌}
use lib.ListN.{length}
use native.Mathlib.Omega.{arith}
use Rattle.std.proofs.lemmas.List.{length-take-le}
use borrow.Author.Tests.{le-leb, lt-leb}
use Rattle.words.specs.Lines.{word_at}
use Rattle.words.specs.Numbers.{hex_at, bytes_of, bytes_in, byte_of}
use Rattle.words.proofs.Numbers.{hex_within, filled_part}
use Rattle.words.proofs.read.read_bytes.Goals as goal
use Rattle.words.proofs.read.read_bytes.Goals.{After-hex_word}

-- what was read is the word of digits at the first word
word : (c : After-hex_word) → c.hex_word.result ≡ hex_at c.args.line.now (word_at c.args.line.now c.args.from)
word c = c.hex_word.ensures ∙ ap (hex_at c.args.line.now) c.after_spaces-start.ensures

pub returns-in_err-start : goal.returns-in_err-start
returns-in_err-start c =
    let a = c.args in
    let e = sym (word (goal.at.returns-in_err-start c).After-hex_word) ∙ c.in_err-start.was in
    record { value = c.from_residual.ensures ∙ sym (ap (bytes_of (length a.into.now)) e); into_after = sym (ap (bytes_in a.line.now a.into.now) e) }

pub returns-then-into-count : goal.returns-then-into-count
returns-then-into-count c =
    let a = c.args in
    let e = sym (word (goal.at.returns-then-into-count c).After-hex_word) ∙ c.in_ok-start.was in
    let t = lt-leb _ _ c.if-into-count.true in
    record {
      value = sym (ap (bytes_of (length a.into.now)) e ∙ simp t);
      into_after = sym (ap (bytes_in a.line.now a.into.now) e ∙ simp t);
    }

pub decode-requires : goal.decode-requires
decode-requires c =
    let h = hex_within c.args.line.now c.after_spaces-start.result (sym c.hex_word.ensures ∙ c.in_ok-start.was) in
    omega (arith, h, length-take-le c.in_ok-start.field-0.count c.args.into.now c.if-into-count.false)

pub returns : goal.returns
returns c =
    let a = c.args in
    let w = c.in_ok-start.field-0 in
    let e = sym (word (goal.at.returns c).After-hex_word) ∙ c.in_ok-start.was in
    let t = le-leb _ _ c.if-into-count.false in
    record {
      value = sym (ap (bytes_of (length a.into.now)) e ∙ simp t);
      into_after = filled_part (byte_of a.line.now w.start) w.count a.into.now _ c.if-into-count.false c.decode.ensures ∙ sym (ap (bytes_in a.line.now a.into.now) e ∙ simp t);
    }
