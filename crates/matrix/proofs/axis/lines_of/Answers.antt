use mathlib.Core.Path.{refl}
use mathlib.Core.List.{[]}
use native.Mathlib.Omega.{arith}
use Rattle.plane.specs.Lists.{tab_from}
use Rattle.matrix.specs.Holding.{insert, lines_of}
use Rattle.matrix.specs.Kept.{rising}
use Rattle.matrix.proofs.Kept.{Made, made_room, made_next}
use Rattle.matrix.proofs.axis.lines_of.Goals as goal
use Rattle.matrix.proofs.axis.lines_of.Goals.{After-with_line-one, After-with_line-three, After-with_line-two}

none : Made (rising []) [] 0
none = record { stands = refl; few = omega arith }

one : (c : After-with_line-one) → Made c.with_line-one.result (insert c.args.hi2 []) 1
unfolding tab_from
one c = made_next (rising []) [] 0 none (omega arith) c.args.hi2 c.with_line-one.result c.with_line-one.ensures

two : (c : After-with_line-two) → let a = c.args in Made c.with_line-two.result (insert a.lo2 (insert a.hi2 [])) 2
two c = made_next _ _ 1 (one c.before) (omega arith) c.args.lo2 c.with_line-two.result c.with_line-two.ensures

three : (c : After-with_line-three)
    → let a = c.args in Made c.with_line-three.result (insert a.hi (insert a.lo2 (insert a.hi2 []))) 3
three c = made_next _ _ 2 (two c.before) (omega arith) c.args.hi c.with_line-three.result c.with_line-three.ensures

pub with_line-one-requires : goal.with_line-one-requires
unfolding tab_from
with_line-one-requires c = made_room (rising []) [] 0 none (omega arith)

pub with_line-two-requires : goal.with_line-two-requires
with_line-two-requires c = made_room _ _ 1 (one (goal.at.with_line-two-requires c).After-with_line-one) (omega arith)

pub with_line-three-requires : goal.with_line-three-requires
with_line-three-requires c = made_room _ _ 2 (two (goal.at.with_line-three-requires c).After-with_line-two) (omega arith)

pub with_line-requires : goal.with_line-requires
with_line-requires c = made_room _ _ 3 (three (goal.at.with_line-requires c).After-with_line-three) (omega arith)

pub returns : goal.returns
unfolding lines_of
returns c =
    let a = c.args in
    (made_next _ _ 3 (three (goal.at.returns c).After-with_line-three) (omega arith) a.lo c.with_line.result c.with_line.ensures).stands
