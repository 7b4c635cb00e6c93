use mathlib.Core.Path.{◌≡◌, ◌∙◌, ap, ap₂}
use Prim.Native.Nat.{ℕ, suc, ◌-◌}
use native.Mathlib.Omega.{arith}
use lib.ListN.{get_or, length-set}
use lib.Bits.{bit_or}
use Rattle.plane.proofs.Lists.{tab_all}
use Rattle.bands.specs.Bands.{bands, joined_to, above_of}
use Rattle.bands.proofs.Gather.{joined_none, joined_more, back_more}
use Rattle.bands.proofs.gather_above.Invariants.{downward}
use Rattle.bands.proofs.gather_above.Goals as goal

pub loop-b-init : goal.loop-b-init
loop-b-init c = (c.requires.1, joined_none _, λ a p h. absurd (omega arith))

pub loop-b-preserved : goal.loop-b-preserved
loop-b-preserved c =
    let l = c.loop-b in
    let t = c.args.words.now in
    let a = l.b - 1 in
    let word = bit_or l.joined (get_or t a 0) in
    let p : a ≡ bands - suc (bands - l.b) = omega arith in
    let q : suc (bands - l.b) ≡ bands - a = omega arith in
    let joined : word ≡ joined_to (downward t) (bands - a) =
    ap₂ bit_or l.invariant.1 (ap (λ (k : ℕ). get_or t k 0) p) ∙ joined_more (downward t) (bands - l.b) ∙ ap (joined_to (downward t)) q in (
      length-set l.above a word ∙ l.invariant.0,
      joined,
      back_more (λ k. joined_to (downward t) (bands - k)) l.above bands l.b word l.invariant.0 (omega arith) l.auto.b l.invariant.2 joined,
    )

pub returns : goal.returns
unfolding above_of
returns c =
    let l = c.loop-b in
    tab_all (λ b. joined_to (downward c.args.words.now) (bands - b)) 0 bands l.above l.invariant.0 (λ k h. l.invariant.2 k (omega arith) h)
