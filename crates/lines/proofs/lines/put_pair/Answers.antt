use mathlib.Core.Path.{◌≡◌, sym, ap}
use native.Mathlib.Omega.{arith}
use lib.ListN.{length}
use Rattle.pair.specs.Answer.{answer_with}
use Rattle.drawn.specs.Drawn.{drawn_with}
use Rattle.line.specs.Line.{pair_line}
use Rattle.lines.specs.Listing.{line_of}
use Rattle.names.proofs.Putting.{put_none, put_as}
use Rattle.lines.proofs.PairLines.{line_none, line_some}
use Rattle.lines.proofs.lines.put_pair.Goals as goal
use Rattle.lines.proofs.lines.put_pair.Goals.{After-slot_at-2}

-- the line that is put
line : (c : After-slot_at-2)
    → let a = c.args in
    pair_line c.slot_at.result c.slot_at-2.result (answer_with c.pair_in-a.result) (drawn_with c.drawn_in-d.result) ≡ line_of a.card.now.bytes.now a.j a.k
line c =
    let a = c.args in
    rw (c.slot_at.ensures, c.slot_at-2.ensures, c.pair_in-a.ensures, c.drawn_in-d.ensures) (sym (line_some a.card.now.bytes.now a.j a.k c.if-j-k.false))

pub returns-then-j-k : goal.returns-then-j-k
returns-then-j-k c = put_as (sym (line_none _ _ _ c.if-j-k.true)) (put_none _ _)

pub put_line-requires : goal.put_line-requires
put_line-requires c =
    omega (arith, c.requires.2, ap length (line c))

pub returns : goal.returns
returns c =
    put_as (line (goal.at.returns c).After-slot_at-2) c.put_line.ensures
