use Rattle.matrix.proofs.Kept.{kept_same, kept_more}
use Rattle.matrix.proofs.axis.with_line.Goals as goal

pub returns-then-stands_at : goal.returns-then-stands_at
returns-then-stands_at c =
    let p = c.place_among-p in
    let t = c.stands_at in
    kept_same c.args.l c.args.v p.result c.requires.0 c.requires.1 p.ensures t.result t.ensures c.if-stands_at.true

pub returns : goal.returns
returns c =
    let t = c.stands_at in
    let p = c.place_among-p in
    simp (c.moved_line.ensures, c.moved_line-2.ensures, c.moved_line-3.ensures, c.moved_line-4.ensures)
    (kept_more c.args.l c.args.v p.result c.requires.0 c.requires.1 p.ensures t.result t.ensures c.if-stands_at.false)
