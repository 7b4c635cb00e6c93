use mathlib.Core.Path.{◌≡◌, ◌∙◌, ap}
use mathlib.Core.List.{List, ◌++◌}
use Prim.Native.Nat.{◌+◌, ◌*◌, ◌≤◌}
use native.Mathlib.Omega.{arith}
use lib.IntN.{ℤ}
use lib.ListN.{length, take, drop, length-take}
use Rattle.plane.proofs.Lists.{tab_same}
use Rattle.region.specs.Region.{most_vertices}
use Rattle.endian.specs.Bytes.{i32_at}
use Rattle.card.specs.Layout.{most_card_parcels, most_card_rings, most_card_vertices, length_of}
use Rattle.card.specs.Reading.{numbers_at}
use Rattle.card.proofs.Bounds.{VertexPart, vertices_there}
use Rattle.contents.proofs.read_numbers.Goals as goal
use Rattle.contents.proofs.read_numbers.Goals.{After-first_vertex}

-- how many are read, and from where;  the part of the list that they fill
module _ (c : After-first_vertex) where
  vertex_part : VertexPart c.args.card.now c.args.k
  vertex_part = vertices_there c.args.card.now c.requires.0 c.args.k c.requires.1

  few : 2 * c.vertices_of-n.result ≤ 2 * most_vertices
  few = omega (arith, vertex_part.few, c.vertices_of-n.ensures)

  low : c.vertices_at.result + 8 * c.first_vertex.result ≤ length_of most_card_parcels most_card_rings most_card_vertices
  low = omega (arith, vertex_part.low, vertex_part.start, c.vertices_at.ensures, c.first_vertex.ensures)

  lent : 2 * c.vertices_of-n.result ≡ length (take (2 * c.vertices_of-n.result) c.args.numbers.now)
  lent = omega (arith, length-take (2 * c.vertices_of-n.result) c.args.numbers.now, few, c.requires.2)

pub overflow_mul-n : goal.overflow_mul-n
overflow_mul-n c =
    let part = vertices_there c.args.card.now c.requires.0 c.args.k c.requires.1 in
    record { fits = omega (arith, part.few, c.vertices_of-n.ensures) }

pub invariant_of-headed : goal.invariant_of-headed
invariant_of-headed c = record { header = c.requires.0.parcels.header }

pub overflow_mul-from : goal.overflow_mul-from
overflow_mul-from c = record { fits = omega (arith, low (goal.at.overflow_mul-from c).After-first_vertex) }

pub overflow_add-from : goal.overflow_add-from
overflow_add-from c = record { fits = omega (arith, low (goal.at.overflow_add-from c).After-first_vertex) }

pub slice_bounds-read_all-end : goal.slice_bounds-read_all-end
slice_bounds-read_all-end c = omega (arith, few (goal.at.slice_bounds-read_all-end c).After-first_vertex, c.requires.2)

pub slice_bounds-read_all-end-2 : goal.slice_bounds-read_all-end-2
slice_bounds-read_all-end-2 c = lent (goal.at.slice_bounds-read_all-end-2 c).After-first_vertex

pub read_all-requires : goal.read_all-requires
read_all-requires c =
    let s = (goal.at.read_all-requires c).After-first_vertex in
    omega (arith, lent s, (vertex_part s).inside, c.vertices_of-n.ensures, c.vertices_at.ensures, c.first_vertex.ensures)

pub returns-clause-numbers_after : goal.returns-clause-numbers_after
unfolding numbers_at
returns-clause-numbers_after c =
    let s = (goal.at.returns-clause-numbers_after c).After-first_vertex in
    ap (λ (l : List ℤ). l ++ drop (2 * c.vertices_of-n.result) c.args.numbers.now)
    (c.read_all.ensures ∙ rw (← lent s, c.vertices_at.ensures, c.first_vertex.ensures, c.vertices_of-n.ensures) (tab_same _ _ _ (λ i l. ap (i32_at c.args.card.now) (omega arith))))
