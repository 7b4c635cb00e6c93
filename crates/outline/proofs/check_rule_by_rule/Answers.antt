use mathlib.Core.Path.{◌≡◌, refl, sym, ◌∙◌}
use mathlib.Core.List.{[], ◌∷◌}
use Prim.Native.Nat.{ℕ, zero, suc, ◌+◌, ◌<◌}
use native.Mathlib.Omega.{arith}
use lib.ListN.{get_or}
use Rattle.region.specs.declared.refusals.Refusal.{Refusal}
use Rattle.region.specs.declared.refusals.Refusal.TheVariants.{RingCount, CoordinateRange, VertexRepeated, EdgesMeet, NotClockwise}
use Rattle.region.specs.Refusals.{number}
use Rattle.region.proofs.Keeps.{keeps_fewer, sized}
use Rattle.region.proofs.Search.{where_some, where_none}
use Rattle.region.proofs.Check.{ring_refused, ring_kept, shape_accepted, shape_refused}
use Rattle.outline.proofs.check_rule_by_rule.Goals as goal

-- the rules in their order
rule_at : ℕ → Refusal
rule_at i = get_or (CoordinateRange ∷ VertexRepeated ∷ EdgesMeet ∷ NotClockwise ∷ []) i RingCount

number_at : (i : ℕ) → i < 4 → number (rule_at i) ≡ 4 + i
unfolding rule_at
number_at zero l = refl
number_at (suc zero) l = refl
number_at (suc (suc zero)) l = refl
number_at (suc (suc (suc zero))) l = refl
number_at (suc (suc (suc (suc i)))) l = absurd (omega arith)

pub first_breaking-requires : goal.first_breaking-requires
unfolding rule_at
first_breaking-requires c =
    let e = number_at c.loop-rule.rule-index c.loop-rule-test.true in
    (omega (arith, e), omega (arith, e, c.loop-rule-test.true), keeps_fewer (omega (arith, e)) c.loop-rule.invariant)

pub refused-requires : goal.refused-requires
refused-requires c = omega (arith, (where_some _ _ (sym c.in-Some.is ∙ c.first_breaking.ensures)).0, (sized c.requires).few)

pub returns-in-Some : goal.returns-in-Some
unfolding rule_at
returns-in-Some c =
    let e = number_at c.loop-rule.rule-index c.loop-rule-test.true in
    let f = where_some _ _ (sym c.in-Some.is ∙ c.first_breaking.ensures) in
    c.refused.ensures
    ∙ sym ((shape_refused _ c.requires _ _).1 (ring_refused _ (omega (arith, e)) (keeps_fewer (omega (arith, e)) c.loop-rule.invariant) f.1 f.0))

pub loop-rule-preserved : goal.loop-rule-preserved
unfolding rule_at
loop-rule-preserved c =
    let e = number_at c.loop-rule.rule-index c.loop-rule-test.true in
    keeps_fewer (omega (arith, e))
    (ring_kept _ (omega (arith, e)) (keeps_fewer (omega (arith, e)) c.loop-rule.invariant) refl (where_none _ _ (sym c.in_default.is ∙ c.first_breaking.ensures)))

pub returns : goal.returns
returns c = sym ((shape_accepted _ c.requires).1 (keeps_fewer (omega (arith, c.loop-rule-test.false)) c.loop-rule.invariant))
