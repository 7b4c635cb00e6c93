use mathlib.Core.Path.{◌≡◌, sym, ◌∙◌, ap}
use mathlib.Core.Bool.{Bool}
use mathlib.Core.List.{List}
use Prim.Native.Nat.{ℕ, ◌<◌}
use native.Mathlib.Omega.{arith}
use native.Mathlib.Decide.{ℕ_discrete, dec_lt}
use lib.IntN.{ℤ}
use Rattle.plane.proofs.Logic.{clash}
use Rattle.meet.specs.MeetTest.{shares}
use Rattle.ring.specs.Edges.{ring_edge}
use Rattle.simple.specs.Parts.{meet_pair}
use Rattle.simple.proofs.Parts.{Round, pair_is, pair_means, before_past, after_past, with_found, with_none}
use Rattle.simple.proofs.SmallRing.meets_with.Goals as goal
use Rattle.simple.proofs.SmallRing.meets_with.Goals.{In-loop-j, Start}

-- the ring and its edge i
module _ (s : Start) where
  abbrev xs : List ℤ
  xs = s.args.self.now.ring.outline.now

  abbrev from : ℕ
  from = s.args.self.now.ring.from

  abbrev n : ℕ
  n = s.args.self.now.ring.size

  abbrev i : ℕ
  i = s.args.i

  abbrev meeting : ℕ → Bool
  meeting k = meet_pair xs from n i k

pub loop-j-init : goal.loop-j-init
loop-j-init c =
    let s = (goal.at.loop-j-init c).Start in
    λ k h t. absurd (omega (arith, (pair_means (xs s) (from s) (n s) (i s) k t).0))

-- edge j is a stranger to edge i, and so it is asked whether they share a point
module _ (c : In-loop-j) where
  abbrev s : Start
  s = (goal.at.near_edges_share-requires c).Start

  abbrev j : ℕ
  j = c.loop-j.j

  stranger : (j < n s) × (Round (n s) (i s) j → ⊥)
  stranger =
      before_past (n s) (i s) j (omega (arith, c.requires)) (omega (arith, c.loop-j-test.true, c.past_strangers-j-end.ensures))

  asked : meeting s j ≡ shares (ring_edge (xs s) (from s) (n s) (i s)) (ring_edge (xs s) (from s) (n s) j)
  asked = pair_is (xs s) (from s) (n s) (i s) j (omega (arith, c.loop-j.auto.j)) stranger.1

pub near_edges_share-requires : goal.near_edges_share-requires
near_edges_share-requires c = (omega (arith, c.requires), (stranger c).0)

pub returns-then-near_edges_share : goal.returns-then-near_edges_share
returns-then-near_edges_share c =
    let inside = (goal.at.returns-then-near_edges_share c).In-loop-j in
    let start = (goal.at.returns-then-near_edges_share c).Start in
    with_found (xs start) (from start) (n start) (i start) (j inside) (stranger inside).0 (asked inside ∙ sym c.near_edges_share.ensures ∙ c.if-near_edges_share.true)

pub loop-j-preserved : goal.loop-j-preserved
loop-j-preserved c =
    let start = (goal.at.loop-j-preserved c).Start in
    let l = c.loop-j in
    λ k h t. elim (ℕ_discrete k l.j) [
      | yes q ↦ clash (meeting start k) t (ap (meeting start) q ∙ asked (goal.at.loop-j-preserved c).In-loop-j ∙ sym c.near_edges_share.ensures ∙ c.if-near_edges_share.false)
      | no q ↦ l.invariant k (omega arith) t
    ]

pub returns : goal.returns
returns c =
    let start = (goal.at.returns c).Start in
    let l = c.loop-j in
    with_none (xs start) (from start) (n start) (i start) (λ k h t. elim (dec_lt k l.j) [
      | yes q ↦ l.invariant k q t
      | no q ↦
          (pair_means (xs start) (from start) (n start) (i start) k t).1 (after_past (n start) (i start) k h (omega (arith, c.loop-j-test.false, c.past_strangers-j-end.ensures)))
    ])
