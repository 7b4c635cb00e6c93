use mathlib.Core.Path.{◌∙◌, ap}
use Prim.Native.Nat.{ℕ}
use native.Mathlib.Omega.{arith}
use lib.ListN.{set, length-set, get_or}
use Rattle.plane.specs.Folds.{turns}
use Rattle.plane.proofs.Folds.{turns_none}
use Rattle.bands.specs.Bands.{mark_at, marks_of}
use Rattle.bands.proofs.Marks.{marks_more}
use Rattle.bands.proofs.mark.Goals as goal

pub loop-e-init : goal.loop-e-init
loop-e-init c = (length-set c.args.words.now (get_or c.args.ends.now 0 0) 1 ∙ c.requires.2, turns_none _ _)

pub loop-e-preserved : goal.loop-e-preserved
loop-e-preserved c =
    let l = c.loop-e in
    let s = c.args.ends.now in (
      length-set l.words _ _ ∙ l.invariant.0,
      marks_more s l.e (set (c.args.words.now) (get_or s 0 0) 1) l.words l.invariant.1,
    )

pub returns : goal.returns
unfolding marks_of
returns c =
    let l = c.loop-e in
    let s = c.args.ends.now in
    l.invariant.1 ∙ ap (λ (k : ℕ). turns (mark_at s) k (set (c.args.words.now) (get_or s 0 0) 1)) (omega (arith, l.auto.e-end, c.loop-e-test.false))
