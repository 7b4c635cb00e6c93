use mathlib.Core.Path.{sym, ◌∙◌}
use native.Mathlib.Omega.{arith}
use Rattle.ring.proofs.Stretch.{edge_in_places}
use Rattle.simple.proofs.Parts.{pair_is, pair_round}
use Rattle.simple.proofs.pair_meets.Goals as goal

pub returns-then-i-ring : goal.returns-then-i-ring
returns-then-i-ring c =
    let a = c.args in
    sym (pair_round a.ring.outline.now a.ring.from a.ring.size a.i a.j (omega arith, omega arith))

pub shares_with-requires : goal.shares_with-requires
shares_with-requires c = let p = c.requires in (rw p.2 (edge_in_places c.args.ring.stretch (omega (arith, p.0, p.1))), p.1)

pub returns : goal.returns
returns c =
    let a = c.args in
    let p = c.requires in
    (rw p.2 at c.shares_with.ensures) ∙ sym (pair_is a.ring.outline.now a.ring.from a.ring.size a.i a.j p.0 (λ r. c.if-i-ring.false (omega (arith, r.0, r.1))))
