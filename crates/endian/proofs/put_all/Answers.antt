use Rattle.std.proofs.Common.{ℕ, ◌+◌, ◌*◌, get_or, sym, ap, ◌∙◌}
use Rattle.std.proofs.lemmas.List.{get_or_default}
use Rattle.endian.proofs.Placed.{placing_none, placing_more, placing_all, length_same}
use Rattle.endian.proofs.put_all.Goals as goal

pub loop-k-init : goal.loop-k-init
loop-k-init g c = placing_none _ _ _ _

pub loop-k-preserved : goal.loop-k-preserved
loop-k-preserved g c =
    let n = g.T.LittleEndian in
    let p = c.loop-k in
    let before = length_same (λ j. n.bytes (get_or c.args.xs.now j n.none)) n.SIZE (λ j. g.met.T.LittleEndian.sized _) p.k in
    let read = c.index-xs-k.is ∙ get_or_default c.args.xs.now p.k _ n.none c.loop-k-test.true in
    placing_more _ _ _ _ p.k p.b _ c.loop-k-test.true p.invariant (ap (λ (s : ℕ). c.args.at + s * p.k) c.SIZE.ensures ∙ ap (λ (s : ℕ). c.args.at + s) (sym before))
    (rw read at c.put.ensures)

pub returns : goal.returns
returns g c = placing_all _ _ _ _ c.loop-k.k c.loop-k.b c.loop-k-test.false c.loop-k.invariant
