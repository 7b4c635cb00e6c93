use native.Mathlib.Omega.{arith}
use Rattle.compass.proofs.Differences.{squares_are}
use Rattle.compass.proofs.squares.Goals as goal

pub returns : goal.returns
returns c =
    let m = c.args.m in
    let own = c.args.own in
    let e = squares_are m own in
    (omega (arith, e, c.row_squares-south.ensures.0, c.row_squares-middle.ensures.0, c.row_squares-north.ensures.0), omega arith)
