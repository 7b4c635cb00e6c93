use Rattle.std.proofs.Common.{◌≡◌, ℕ, min, get_or, sym, ap, ◌∙◌, arith}
use Rattle.words.proofs.Lines.{upto_none, upto_more, upto_stop, upto_over}
use Rattle.words.proofs.read.read_run.Goals as goal
use Rattle.words.specs.declared.Word.{Word}

abbrev word_of : ℕ → ℕ → Word ℕ
word_of v n = record { value = v; next = n }

pub loop-i-init : goal.loop-i-init
loop-i-init g c = let k = g.K.Kind in record { in_range = omega arith; upto = upto_none k.is k.append k.MOST c.args.line.now c.args.at }

pub returns-then-not-has : goal.returns-then-not-has
returns-then-not-has g c =
    let k = g.K.Kind in
    let l = c.loop-i in
    upto_stop k.is k.append k.MOST c.args.line.now c.args.at l.value l.i l.invariant.upto (omega arith) (sym c.has.ensures ∙ c.if-not-has.true)

pub more-requires-clause-value_bound : goal.more-requires-clause-value_bound
more-requires-clause-value_bound g c = c.loop-i.invariant.upto.0

pub loop-i-preserved : goal.loop-i-preserved
loop-i-preserved g c =
    let k = g.K.Kind in
    let l = c.loop-i in
    let w : c.min-value.result ≡ min (k.append l.value (get_or c.args.line.now l.i 0)) k.MOST = cc in
    let u = upto_more k.is k.append k.MOST c.args.line.now c.args.at g.met.K.Kind.cut l.value c.min-value.result l.i l.invariant.upto c.loop-i-test.true (sym c.has.ensures ∙ c.if-not-has.false) w in
    record { in_range = omega arith; upto = u }

pub returns : goal.returns
returns g c =
    let k = g.K.Kind in
    let l = c.loop-i in
    let e : l.i ≡ c.max.result = omega arith in
    ap (λ (n : ℕ). word_of l.value n) (sym e) ∙ upto_over k.is k.append k.MOST c.args.line.now c.args.at l.value l.i l.invariant.upto c.loop-i-test.false
