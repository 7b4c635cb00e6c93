use mathlib.Core.Path.{sym, ◌∙◌}
use native.Mathlib.Omega.{arith}
use Rattle.ring.proofs.Stretch.{edge_in_places}
use Rattle.simple.proofs.Parts.{four_first, four_second}
use Rattle.simple.proofs.four_meets.Goals as goal

pub shares_with-requires : goal.shares_with-requires
shares_with-requires c =
    let p = c.requires in
    (rw c.edge.ensures (edge_in_places c.args.ring.stretch (omega arith)), omega arith)

pub returns-then-shares_with : goal.returns-then-shares_with
returns-then-shares_with c =
    let a = c.args in
    four_first a.ring.outline.now a.ring.from a.ring.size c.requires
    (rw c.edge.ensures at (sym c.shares_with.ensures ∙ c.if-shares_with.true))

pub shares_with-requires-2 : goal.shares_with-requires-2
shares_with-requires-2 c =
    let p = c.requires in
    (rw c.edge-2.ensures (edge_in_places c.args.ring.stretch (omega arith)), omega arith)

pub returns : goal.returns
returns c =
    let a = c.args in
    (rw c.edge-2.ensures at c.shares_with-2.ensures)
    ∙ four_second a.ring.outline.now a.ring.from a.ring.size c.requires
    (rw c.edge.ensures at (sym c.shares_with.ensures ∙ c.if-shares_with.false))
