use mathlib.Core.Path.{◌≡◌, sym, ◌∙◌, ap}
use Prim.Native.Nat.{ℕ, ◌+◌, ◌*◌, ◌≤◌}
use native.Mathlib.Omega.{arith}
use native.Mathlib.Nat.{add-zero}
use mathlib.Core.List.{List}
use lib.Bits.{bit_or}
use lib.IntN.{ℤ}
use lib.ListN.{length}
use Rattle.plane.specs.declared.Box.{Box}
use Rattle.seen.specs.declared.Seen.{Seen}
use Rattle.seen.specs.Pass.{edge_to, classing_box, corner_class, seen_to}
use Rattle.seen.proofs.Pass.{edge_to_next}
use Rattle.seen.proofs.Shown.{seen_step, seen_few, seen_set, class_few}
use Rattle.seen.proofs.RingPass.classed_seen.Goals as goal
use Rattle.seen.proofs.RingPass.classed_seen.Goals.{After-walk_into-w, Start}

pub loop-k-init : goal.loop-k-init
loop-k-init c =
    let p = c.requires.before in
    let z = add-zero c.args.at in
    rw z (
      ap (λ (s : Seen). s.set) p.1,
      ap (λ (s : Seen). s.pieces) p.1,
      p.0,
    )

-- ---- where the ring stands
module _ (s : Start) where
  abbrev xs : List ℤ
  xs = s.args.self.now.ring.outline.now

  abbrev from : ℕ
  from = s.args.self.now.ring.from

  abbrev n : ℕ
  n = s.args.self.now.ring.size

  abbrev seen : ℕ → Seen
  seen i = seen_to s.args.self.now.b xs from n i

  -- a class against the box that the pass has is one against the box that the definition names
  against : (k : ℕ) → corner_class s.args.self.now.classing xs from k ≡ corner_class (classing_box s.args.self.now.b xs from n) xs from k
  against k = ap (λ (b : Box). corner_class b xs from k) s.args.self.now.against

  low : n ≤ 2048
  low = omega (arith, s.args.self.now.ring.stretch.few)

pub overflow_add-at : goal.overflow_add-at
overflow_add-at c = record { fits = omega (arith, low (goal.at.overflow_add-at c).Start, c.requires.listed.0, c.loop-k-test.true) }

pub walk_into-w-requires : goal.walk_into-w-requires
walk_into-w-requires c =
    let s = (goal.at.walk_into-w-requires c).Start in
    let l = c.loop-k in
    let p = c.requires.listed in (
      omega (arith, p.0, c.loop-k-test.true),
      rw l.invariant.2 (class_few _ (xs s) (from s) (edge_to (n s) (c.args.at + l.k))),
      rw (c.requires.listed.1.each l.k c.loop-k-test.true) (class_few _ (xs s) (from s) (c.args.at + l.k)),
    )

-- ---- a turn, with its walk
module _ (c : After-walk_into-w) where
  abbrev start : Start
  start = (goal.at.After-walk_into-w c).Start

  abbrev at : ℕ
  at = c.args.at

  abbrev k : ℕ
  k = c.loop-k.k

  next : at + k + 1 ≡ at + (k + 1)
  next = omega arith

  step : (bit_or c.loop-k.set c.walk_into-w.result.set ≡ (seen start (at + (k + 1))).set)
      × (c.loop-k.pieces + c.walk_into-w.result.pieces ≡ (seen start (at + (k + 1))).pieces)
  step =
      let l = c.loop-k in
      let p = seen_step c.args.self.now.b (xs start) (from start) (n start) (at + k) l.set l.pieces _ _ c.walk_into-w.result
      (l.invariant.2 ∙ against start (edge_to (n start) (at + k))) (c.requires.listed.1.each k c.loop-k-test.true ∙ against start (at + k)) c.walk_into-w.ensures l.invariant.0 l.invariant.1 in
      (p.0 ∙ ap (λ (i : ℕ). (seen start i).set) next, p.1 ∙ ap (λ (i : ℕ). (seen start i).pieces) next)

  few : (seen start (at + (k + 1))).pieces ≤ (at + (k + 1)) * 5
  few = seen_few c.args.self.now.b (xs start) (from start) (n start) (at + (k + 1))

pub overflow_add-pieces : goal.overflow_add-pieces
overflow_add-pieces c =
    let s = (goal.at.overflow_add-pieces c).After-walk_into-w in
    record { fits = omega (arith, (step s).1, few s, low (start s), c.requires.listed.0, c.loop-k-test.true) }

pub loop-k-preserved : goal.loop-k-preserved
loop-k-preserved c =
    let s = (goal.at.loop-k-preserved c).After-walk_into-w in
    let b = start s in
    let next-class = edge_to_next (n b) (at s + k s) in (
      (step s).0,
      (step s).1,
      c.requires.listed.1.each (k s) c.loop-k-test.true
          ∙ ap (corner_class c.args.self.now.classing (xs b) (from b))
          (sym next-class ∙ ap (edge_to (n b)) (next s)),
    )

pub overflow_cast-result : goal.overflow_cast-result
overflow_cast-result c =
    let s = (goal.at.overflow_cast-result c).Start in
    let l = c.loop-k in
    record { fits = omega (arith, l.invariant.0, seen_set c.args.self.now.b (xs s) (from s) (n s) (c.args.at + l.k)) }

pub overflow_cast-result-2 : goal.overflow_cast-result-2
overflow_cast-result-2 c =
    let s = (goal.at.overflow_cast-result-2 c).Start in
    let l = c.loop-k in
    record { fits = omega (arith, l.invariant.1, seen_few c.args.self.now.b (xs s) (from s) (n s) (c.args.at + l.k), low s, c.requires.listed.0) }

pub returns : goal.returns
returns c =
    let s = (goal.at.returns c).Start in
    let l = c.loop-k in
    let e : l.k ≡ length c.args.classes.now = omega arith in
    (λ i. record { set = l.invariant.0 i; pieces = l.invariant.1 i }) ∙ ap (λ (k : ℕ). seen s (c.args.at + k)) e
