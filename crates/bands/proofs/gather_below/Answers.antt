use mathlib.Core.Path.{◌≡◌, refl, sym, ◌∙◌, ap, ap₂}
use Prim.Native.Nat.{suc}
use native.Mathlib.Omega.{arith}
use native.Mathlib.Nat.{lt_irrefl}
use native.Mathlib.Numerals.{add-one}
use lib.ListN.{get_or, length-set}
use lib.Seq.{get_or-set_other}
use lib.Bits.{bit_or}
use Rattle.plane.proofs.Lists.{tab_more, tab_all}
use Rattle.bands.specs.Bands.{bands, joined_to, below_of}
use Rattle.bands.proofs.Gather.{joined_none, joined_more}
use Rattle.bands.proofs.gather_below.Goals as goal

pub loop-b-init : goal.loop-b-init
loop-b-init c = (c.requires, joined_none _, λ a h. absurd (omega arith), λ a h. refl)

pub loop-b-preserved : goal.loop-b-preserved
loop-b-preserved c =
    let l = c.loop-b in
    let t = c.args.words.now in
    let b = l.b in
    let word = bit_or l.joined (get_or l.words b 0) in
    let joined : word ≡ joined_to (λ k. get_or t k 0) (suc b) = ap₂ bit_or l.invariant.1 (l.invariant.3 b (omega arith)) ∙ joined_more (λ k. get_or t k 0) b in (
      length-set l.words b word ∙ l.invariant.0,
      joined ∙ ap (joined_to (λ k. get_or t k 0)) (sym (add-one b)),
      tab_more (λ a. joined_to (λ k. get_or t k 0) (suc a)) 0 l.words b word (omega (arith, l.invariant.0, c.loop-b-test.true)) l.invariant.2 joined,
      λ a p. get_or-set_other l.words b a word 0 (λ q. lt_irrefl a (omega arith)) ∙ l.invariant.3 a (omega arith),
    )

pub returns : goal.returns
unfolding below_of
returns c =
    let l = c.loop-b in
    tab_all (λ b. joined_to (λ k. get_or c.args.words.now k 0) (suc b)) 0 bands l.words l.invariant.0 (λ k h. l.invariant.2 k (omega (arith, c.loop-b-test.false, h)))
