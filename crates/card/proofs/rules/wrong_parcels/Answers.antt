use mathlib.Core.Path.{sym, ◌∙◌, ap, ap₂}
use mathlib.Core.Bool.{not}
use Prim.Native.Nat.{ℕ}
use native.Mathlib.Omega.{arith}
use lib.Dec.{eqb}
use borrow.Author.Count.{below_none, below_more}
use Rattle.card.specs.Reading.{first_ring}
use Rattle.card.proofs.Tests.{header_means}
use Rattle.card.proofs.Tests.{parcels_wrong, parcels_last}
use Rattle.card.proofs.rules.wrong_parcels.Goals as goal

pub loop-k-init : goal.loop-k-init
loop-k-init c = below_none _

pub returns-then-wrong_entry : goal.returns-then-wrong_entry
returns-then-wrong_entry c =
    parcels_wrong _ c.loop-k.k (omega (arith, c.parcel_count-parcels.ensures)) (sym c.wrong_entry.ensures ∙ c.if-wrong_entry.true)

pub loop-k-preserved : goal.loop-k-preserved
loop-k-preserved c = below_more _ _ c.loop-k.invariant (sym c.wrong_entry.ensures ∙ c.if-wrong_entry.false)

pub read-requires : goal.read-requires
read-requires c = omega (arith, (header_means c.args.card.now.bytes.now c.args.card.now.header).total)

pub returns : goal.returns
unfolding first_ring
returns c =
    let n = c.parcel_count-parcels.ensures.0 in
    ap₂ (λ (x y : ℕ). not (eqb x y)) (c.first_ring.ensures ∙ ap (first_ring c.args.card.now.bytes.now) n) c.read.ensures
    ∙ parcels_last c.args.card.now.bytes.now (λ k l. c.loop-k.invariant k (omega (arith, n)))
