-- The loop's invariant: what the edges so far have shown, and the class of the vertex from which the next one starts.
use mathlib.Core.Path.{◌≡◌}
use Prim.Native.Nat.{◌+◌}
use Rattle.seen.specs.Pass.{edge_to, corner_class, seen_to}
use Rattle.seen.proofs.RingPass.classed_seen.Given as goal

abbrev pub invariant-loop-k : goal.invariant-loop-k
invariant-loop-k l =
    let r = l.self.ring in
    let seen = seen_to l.self.b r.outline.now r.from r.size (l.at + l.k) in
    (l.set ≡ seen.set) × (l.pieces ≡ seen.pieces) × (l.start ≡ corner_class l.self.classing r.outline.now r.from (edge_to r.size (l.at + l.k)))
