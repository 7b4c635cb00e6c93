use Rattle.std.proofs.Common.{◌≡◌, ℕ, ◌+◌, ◌*◌, ◌%◌, List, ap, ◌∙◌, get_or, set, length, arith}
use Rattle.words.proofs.Numbers.{filled_none, filled_more}
use Rattle.words.specs.Lines.{hex_value}
use Rattle.words.specs.Numbers.{filled, byte_of}
use Rattle.words.proofs.read.decode.Goals as goal

pub loop-k-init : goal.loop-k-init
loop-k-init c = filled_none _ _

pub loop-k-preserved : goal.loop-k-preserved
loop-k-preserved c =
    let a = c.args in
    let l = c.loop-k in
    let high : c.hex_value-high.result ≡ hex_value (get_or a.line.now (a.start + l.k * 2) 32) =
    c.hex_value-high.ensures ∙ ap hex_value c.byte_at.ensures in
    let low : c.hex_value-low.result ≡ hex_value (get_or a.line.now (a.start + l.k * 2 + 1) 32) =
    c.hex_value-low.ensures ∙ ap hex_value c.byte_at-in-loop-k.ensures in
    ap (λ (v : ℕ). set l.into l.k (v % 16 * 16 + c.hex_value-low.result % 16)) high
    ∙ ap (λ (v : ℕ). set l.into l.k (hex_value (get_or a.line.now (a.start + l.k * 2) 32) % 16 * 16 + v % 16)) low
    ∙ ap (λ (xs : List ℕ). set xs l.k (byte_of a.line.now a.start l.k)) l.invariant
    ∙ filled_more (byte_of a.line.now a.start) a.into.now l.k

pub returns : goal.returns
returns c =
    let e : c.loop-k.k ≡ length c.args.into.now = omega arith in
    c.loop-k.invariant ∙ ap (λ (n : ℕ). filled (byte_of c.args.line.now c.args.start) n c.args.into.now) e
