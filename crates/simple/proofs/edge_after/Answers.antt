use native.Mathlib.Omega.{arith}
use Rattle.ring.proofs.Stretch.{after_readable}
use Rattle.ring.specs.Stretch.{Readable}
use Rattle.simple.proofs.Round.{edge_made}
use Rattle.simple.proofs.edge_after.Goals as goal
use Rattle.simple.proofs.edge_after.Goals.{After-next_of-next}

next_there : (c : After-next_of-next) → Readable c.args.ring.outline.now c.next_of-next.result
next_there c = rw c.next_of-next.ensures (after_readable c.args.ring.stretch c.requires.0)

pub overflow_mul-next : goal.overflow_mul-next
overflow_mul-next c = omega (arith, (next_there (goal.at.overflow_mul-next c).After-next_of-next).room)

pub place_at-bx-requires : goal.place_at-bx-requires
place_at-bx-requires c =
    let past = (goal.at.place_at-bx-requires c).After-next_of-next in
    (omega (arith, (next_there past).room), (next_there past).range.x)

pub overflow_mul-next-2 : goal.overflow_mul-next-2
overflow_mul-next-2 c = omega (arith, (next_there (goal.at.overflow_mul-next-2 c).After-next_of-next).room)

pub overflow_add-next : goal.overflow_add-next
overflow_add-next c = omega (arith, (next_there (goal.at.overflow_add-next c).After-next_of-next).room)

pub place_at-by-requires : goal.place_at-by-requires
place_at-by-requires c =
    let past = (goal.at.place_at-by-requires c).After-next_of-next in
    ((next_there past).room, (next_there past).range.y)

pub returns : goal.returns
returns c =
    let a = c.args in
    let p = c.requires in
    let next = c.next_of-next in
    edge_made a.ring.outline.now a.ring.from a.ring.size a.k p.0 a.g next.result c.place_at-bx.result c.place_at-by.result
    p.1 next.ensures c.place_at-bx.ensures c.place_at-by.ensures
