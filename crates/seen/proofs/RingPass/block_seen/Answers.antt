use mathlib.Core.Path.{sym, ◌∙◌, ap, subst}
use Prim.Native.Nat.{ℕ, ◌<◌}
use native.Mathlib.Omega.{arith}
use Rattle.std.proofs.lemmas.List.{length-take-le}
use Rattle.seen.specs.Pass.{corner_class}
use Rattle.seen.proofs.Pass.{edge_to_low}
use Rattle.seen.proofs.RingPass.block_seen.Goals as goal

pub lay_classes-requires : goal.lay_classes-requires
lay_classes-requires c = grind (arith, length-take-le)

pub corner_class-first-requires : goal.corner_class-first-requires
corner_class-first-requires c =
    let n = c.args.self.now.ring.size in
    subst (λ (k : ℕ). k < n) (sym c.edge_to.ensures) (edge_to_low n c.args.at c.requires.0)

pub classed_seen-requires : goal.classed_seen-requires
classed_seen-requires c =
    let r = c.args.self.now.ring in
    record {
      listed = (grind (arith, length-take-le), grind (arith, length-take-le));
      before = (
        c.corner_class-first.ensures ∙ ap (corner_class c.args.self.now.classing r.outline.now r.from) c.edge_to.ensures,
        c.requires.3,
      );
    }

pub returns : goal.returns
returns c = grind (arith, length-take-le)
