use Rattle.std.proofs.Common.{sym, arith, Less, Equal, Greater}
use Rattle.std.specs.Cmp.{ranked}
use Rattle.compass.proofs.Directions.{side_means}
use Rattle.compass.proofs.side_of.Goals as goal

pub returns-in-Less : goal.returns-in-Less
returns-in-Less c = let d = c.args.difference in (sym ((side_means 0 d 2 (omega arith)).1 (ranked d 2 Less c.in-Less.ensures)), omega arith)

pub returns-in-Equal : goal.returns-in-Equal
returns-in-Equal c = let d = c.args.difference in (sym ((side_means 1 d 2 (omega arith)).1 (ranked d 2 Equal c.in-Equal.ensures)), omega arith)

pub returns-in-Greater : goal.returns-in-Greater
returns-in-Greater c = let d = c.args.difference in (sym ((side_means 2 d 2 (omega arith)).1 (ranked d 2 Greater c.in-Greater.ensures)), omega arith)
