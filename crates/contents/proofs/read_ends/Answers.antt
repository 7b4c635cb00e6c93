use mathlib.Core.Path.{◌≡◌, ◌∙◌, ap}
use mathlib.Core.List.{List, ◌++◌}
use Prim.Native.Nat.{ℕ, ◌+◌, ◌*◌, ◌≤◌}
use native.Mathlib.Omega.{arith}
use lib.ListN.{length, take, drop, length-take}
use Rattle.plane.proofs.Lists.{tab_same}
use Rattle.region.specs.Region.{most_rings}
use Rattle.endian.specs.Bytes.{u16_at}
use Rattle.card.specs.Layout.{most_card_parcels, most_card_rings, vertices_at}
use Rattle.card.specs.Reading.{ends_at}
use Rattle.card.proofs.Bounds.{RingPart, entry_there, rings_there}
use Rattle.contents.proofs.read_ends.Goals as goal
use Rattle.contents.proofs.read_ends.Goals.{After-first_ring}

-- how many are read, and from where;  the part of the list that they fill
module _ (c : After-first_ring) where
  ring_part : RingPart c.args.card.now c.args.k
  ring_part = rings_there c.args.card.now c.requires.0 c.args.k c.requires.1

  few : c.count_at-n.result ≤ most_rings
  few = omega (arith, ring_part.few, c.count_at-n.ensures.0)

  low : c.rings_at.result + 2 * c.first_ring.result ≤ vertices_at most_card_parcels most_card_rings
  low = omega (arith, ring_part.low, ring_part.start, c.rings_at.ensures, c.first_ring.ensures)

  lent : c.count_at-n.result ≡ length (take c.count_at-n.result c.args.ends.now)
  lent = omega (arith, length-take c.count_at-n.result c.args.ends.now, few, c.requires.2)

pub count_at-n-requires : goal.count_at-n-requires
count_at-n-requires c = entry_there c.args.card.now c.requires.0.header c.args.k c.requires.1

pub invariant_of-headed : goal.invariant_of-headed
invariant_of-headed c = record { header = c.requires.0.header }

pub overflow_mul-from : goal.overflow_mul-from
overflow_mul-from c = record { fits = omega (arith, low (goal.at.overflow_mul-from c).After-first_ring) }

pub overflow_add-from : goal.overflow_add-from
overflow_add-from c = record { fits = omega (arith, low (goal.at.overflow_add-from c).After-first_ring) }

pub slice_bounds-read_all-end : goal.slice_bounds-read_all-end
slice_bounds-read_all-end c = omega (arith, few (goal.at.slice_bounds-read_all-end c).After-first_ring, c.requires.2)

pub slice_bounds-read_all-end-2 : goal.slice_bounds-read_all-end-2
slice_bounds-read_all-end-2 c = lent (goal.at.slice_bounds-read_all-end-2 c).After-first_ring

pub read_all-requires : goal.read_all-requires
read_all-requires c =
    let s = (goal.at.read_all-requires c).After-first_ring in
    omega (arith, lent s, (ring_part s).inside, c.count_at-n.ensures.0, c.rings_at.ensures, c.first_ring.ensures)

pub returns-clause-ends_after : goal.returns-clause-ends_after
unfolding ends_at
returns-clause-ends_after c =
    let s = (goal.at.returns-clause-ends_after c).After-first_ring in
    ap (λ (l : List ℕ). l ++ drop c.count_at-n.result c.args.ends.now)
    (c.read_all.ensures ∙ rw (← lent s, c.rings_at.ensures, c.first_ring.ensures, c.count_at-n.ensures.0) (tab_same _ _ _ (λ i l. ap (u16_at c.args.card.now) (omega arith))))
