use mathlib.Core.Path.{◌≡◌, refl, sym, ◌∙◌, ap, ap₂}
use mathlib.Core.Bool.{Bool}
use Prim.Native.Nat.{ℕ, ◌≤◌}
use native.Mathlib.Omega.{arith}
use lib.ListN.{length}
use borrow.Author.Tests.{lt-ltb}
use Rattle.simple.specs.declared.Faults.{Faults}
use Rattle.simple.specs.Faults.{faults_of}
use Rattle.region.specs.declared.refusals.Refusal.TheVariants.{CoordinateRange, VertexRepeated, EdgesMeet}
use Rattle.region.specs.Refusals.{number}
use Rattle.region.specs.Rules.{Keeps}
use Rattle.region.proofs.Answers.{number_only}
use Rattle.region.specs.Region.{Region}
use Rattle.region.specs.Outline.{drawn_by}
use Rattle.region.specs.Check.{outside_in, of_ring, breaks_at}
use Rattle.region.proofs.Keeps.{keeps_fewer, Sized, sized, ring_order, ring_room}
use Rattle.outline.proofs.breaks_rule.Goals as goal
use Rattle.outline.proofs.breaks_rule.Goals.{Start}

module _ (c : Start) where
  abbrev region : Region
  region = drawn_by c.args.outline

  abbrev ring : ℕ
  ring = c.args.r

  kept : Sized region
  kept = sized (keeps_fewer (omega (arith, c.requires.0)) c.requires.2)

  -- a test of the ring is one of a ring that is there
  of_ring_lem : {b t : Bool} → b ≡ t → b ≡ of_ring region ring t
  of_ring_lem e = e ∙ sym (rw (lt-ltb ring (length region.ends) c.requires.3) refl)

  -- of the rules 4 to 7 the one that is none of the first three
  is_last : let k = c.args.rule in (k ≡ CoordinateRange → ⊥) → (k ≡ VertexRepeated → ⊥) → (k ≡ EdgesMeet → ⊥) → number k ≡ 7
  is_last u v w =
      let k = c.args.rule in
      let four : number k ≡ 4 → ⊥ = λ e. u (number_only k CoordinateRange e) in
      let five : number k ≡ 5 → ⊥ = λ e. v (number_only k VertexRepeated e) in
      let six : number k ≡ 6 → ⊥ = λ e. w (number_only k EdgesMeet e) in
      omega (arith, c.requires.0, c.requires.1, four, five, six)

  past_four : 5 ≤ number c.args.rule → Keeps 4 region
  past_four l = keeps_fewer (omega (arith, l)) c.requires.2

pub size_of-requires : goal.size_of-requires
size_of-requires c =
    let start = (goal.at.size_of-requires c).Start in
    (c.requires.3, ring_order (kept start) (ring start) c.requires.3)

pub outside_in-requires : goal.outside_in-requires
outside_in-requires c =
    let start = (goal.at.outside_in-requires c).Start in
    let room = ring_room (kept start) (ring start) c.requires.3 in
    rw (c.start_of.ensures, c.size_of.ensures) room

pub returns-in-CoordinateRange : goal.returns-in-CoordinateRange
unfolding breaks_at
returns-in-CoordinateRange c =
    let start = (goal.at.returns-in-CoordinateRange c).Start in
    rw c.in-CoordinateRange.is
    (of_ring_lem start (c.outside_in.ensures ∙ ap₂ (outside_in (region start).coordinates) c.start_of.ensures c.size_of.ensures))

pub faults_at-requires : goal.faults_at-requires
faults_at-requires c =
    let start = (goal.at.faults_at-requires c).Start in
    (past_four start (omega (arith, ap number c.in-VertexRepeated.is)), c.requires.3)

pub faults_at-requires-in-EdgesMeet : goal.faults_at-requires-in-EdgesMeet
faults_at-requires-in-EdgesMeet c =
    let start = (goal.at.faults_at-requires-in-EdgesMeet c).Start in
    (past_four start (omega (arith, ap number c.in-EdgesMeet.is)), c.requires.3)

pub faults_at-requires-in_default : goal.faults_at-requires-in_default
faults_at-requires-in_default c =
    let start = (goal.at.faults_at-requires-in_default c).Start in
    let not = c.in_default in
    (past_four start (omega (arith, is_last start not.not-CoordinateRange not.not-VertexRepeated not.not-EdgesMeet)), c.requires.3)

pub returns-in-VertexRepeated : goal.returns-in-VertexRepeated
unfolding breaks_at faults_of
returns-in-VertexRepeated c =
    rw c.in-VertexRepeated.is (of_ring_lem (goal.at.returns-in-VertexRepeated c).Start (ap (λ (f : Faults). f.repeated) c.faults_at.ensures))

pub returns-in-EdgesMeet : goal.returns-in-EdgesMeet
unfolding breaks_at faults_of
returns-in-EdgesMeet c = rw c.in-EdgesMeet.is (of_ring_lem (goal.at.returns-in-EdgesMeet c).Start (ap (λ (f : Faults). f.tangled) c.faults_at-in-EdgesMeet.ensures))

pub returns-in_default : goal.returns-in_default
unfolding breaks_at faults_of
returns-in_default c =
    let start = (goal.at.returns-in_default c).Start in
    let not = c.in_default in
    rw (is_last start not.not-CoordinateRange not.not-VertexRepeated not.not-EdgesMeet) (of_ring_lem start (ap (λ (f : Faults). f.turned) c.faults_at-in_default.ensures))
