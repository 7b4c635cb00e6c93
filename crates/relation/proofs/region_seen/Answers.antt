use native.Mathlib.Omega.{arith}
use Rattle.relation.proofs.OneTile.{held_answer}
use Rattle.relation.proofs.region_seen.Goals as goal

pub returns-in-Some : goal.returns-in-Some
returns-in-Some c =
    let tile = c.in-Some in
    held_answer c.requires.2 c.args.b c.requires.1 c.args.own c.requires.3 tile.tile tile.ensures.0 (λ e. omega (arith, e, tile.ensures.1)) c.last_end.result c.last_end.ensures
