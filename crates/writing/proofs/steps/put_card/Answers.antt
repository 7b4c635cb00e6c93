use Prim.Native.Nat.{◌+◌, ◌≤◌}
use native.Mathlib.Omega.{arith}
use lib.ListN.{length}
use Rattle.card.specs.Layout.{parcels_at}
use Rattle.writing.specs.Steps.{entries_of, ends_of, vertices_of}
use Rattle.writing.proofs.WholeCard.{totals_le, card_room, card_steps}
use Rattle.writing.proofs.steps.put_card.Goals as goal
use Rattle.writing.proofs.steps.put_card.Goals.{Start}

module _ (s : Start) where
  room : parcels_at + length (entries_of s.args.standing.now.records.now) + length (ends_of s.args.standing.now.records.now) + length (vertices_of s.args.standing.now.xs.now s.args.standing.now.records.now) ≤ length s.args.b.now
  room = omega (arith, s.requires.1, card_room s.args.standing.now.xs.now s.args.standing.now.records.now s.args.standing.now.whole)

pub put_header-requires : goal.put_header-requires
put_header-requires c =
    let le = totals_le c.args.standing.now.xs.now c.args.standing.now.records.now c.args.standing.now.whole c.args.t c.requires.0 in
    (le.0, le.1, le.2, omega (arith, room (goal.at.put_header-requires c).Start))

pub put_entries-rings_at-requires : goal.put_entries-rings_at-requires
put_entries-rings_at-requires c =
    omega (arith, c.put_header.auto.b, room (goal.at.put_entries-rings_at-requires c).Start)

pub put_ends-vertices_at-requires : goal.put_ends-vertices_at-requires
put_ends-vertices_at-requires c =
    omega (arith, c.put_entries-rings_at.auto.b, c.put_entries-rings_at.ensures.value, c.put_header.auto.b, room (goal.at.put_ends-vertices_at-requires c).Start)

pub put_vertices-requires : goal.put_vertices-requires
put_vertices-requires c =
    omega (arith, c.put_ends-vertices_at.auto.b, c.put_ends-vertices_at.ensures.value, c.put_entries-rings_at.auto.b, c.put_entries-rings_at.ensures.value, c.put_header.auto.b, room (goal.at.put_vertices-requires c).Start)

pub returns : goal.returns
returns c =
    card_steps c.args.standing.now.xs.now c.args.standing.now.records.now c.args.standing.now.whole c.args.t c.requires.0 c.args.b.now
    c.put_header.ensures c.put_entries-rings_at.ensures.value c.put_entries-rings_at.ensures.b_after c.put_ends-vertices_at.ensures.value c.put_ends-vertices_at.ensures.b_after c.put_vertices.ensures
