use mathlib.Core.Path.{refl, sym, ◌∙◌}
use mathlib.Core.Logic.{inl, inr}
use native.Mathlib.Omega.{arith}
use Rattle.region.specs.Outline.{drawn_by}
use Rattle.region.specs.Rules.{Keeps}
use Rattle.region.proofs.Keeps.{keeps_none, counted_keeps, listed_keeps}
use Rattle.region.proofs.Tests.{short_first}
use Rattle.region.proofs.Search.{where_some, where_none}
use Rattle.region.proofs.Check.{whole_refused, ring_refused, ring_kept, refused_means, check_is_shape}
use Rattle.outline.proofs.check_region.Goals as goal
use Rattle.outline.proofs.check_region.Goals.{Else-ends-gt-MOST_RINGS, Else-outline-last, In_default, Start}

one_kept : (c : Else-ends-gt-MOST_RINGS) → Keeps 1 (drawn_by c.args.outline)
one_kept c = counted_keeps (omega (arith, c.if-ends-eq0.false)) (omega (arith, c.if-ends-gt-MOST_RINGS.false))

two_kept : (c : In_default) → Keeps 2 (drawn_by c.args.outline)
two_kept c =
    let r = drawn_by c.args.outline in
    let one : Keeps 1 r = counted_keeps (omega (arith, c.if-ends-eq0.false)) (omega (arith, c.if-ends-gt-MOST_RINGS.false)) in
    ring_kept 2 (omega arith) one (short_first r) (where_none _ _ (sym c.in_default.is ∙ c.first_short.ensures))

three_kept : (c : Else-outline-last) → Keeps 3 (drawn_by c.args.outline)
three_kept c =
    let e = c.last_end-last.ensures in
    listed_keeps (two_kept (goal.at.check_shape-requires c).In_default) (omega (arith, c.if-last-gt-MOST_VERTICES.false, e)) (omega (arith, c.if-outline-last.false, e))

pub returns-then-ends-eq0 : goal.returns-then-ends-eq0
returns-then-ends-eq0 c = c.refused.ensures ∙ sym ((refused_means _ 1 0).1 (whole_refused keeps_none (refl, inl c.if-ends-eq0.true)))

pub returns-then-ends-gt-MOST_RINGS : goal.returns-then-ends-gt-MOST_RINGS
returns-then-ends-gt-MOST_RINGS c = c.refused-then-ends-gt-MOST_RINGS.ensures ∙ sym ((refused_means _ 1 0).1 (whole_refused keeps_none (refl, inr c.if-ends-gt-MOST_RINGS.true)))

pub returns-in-Some : goal.returns-in-Some
returns-in-Some c =
    let f = where_some _ _ (sym c.in-Some.is ∙ c.first_short.ensures) in
    c.refused-in-Some.ensures
    ∙ sym ((refused_means _ 2 _).1 (ring_refused 2 (omega arith) (one_kept (goal.at.returns-in-Some c).Else-ends-gt-MOST_RINGS) (f.1 ∙ short_first (drawn_by c.args.outline)) f.0))

pub returns-then-last-gt-MOST_VERTICES : goal.returns-then-last-gt-MOST_VERTICES
returns-then-last-gt-MOST_VERTICES c =
    c.refused-then-last-gt-MOST_VERTICES.ensures ∙ sym ((refused_means _ 3 0).1 (whole_refused (two_kept (goal.at.returns-then-last-gt-MOST_VERTICES c).In_default) (refl, inl (omega (arith, c.if-last-gt-MOST_VERTICES.true, c.last_end-last.ensures)))))

pub returns-then-outline-last : goal.returns-then-outline-last
returns-then-outline-last c =
    c.refused-then-outline-last.ensures ∙ sym ((refused_means _ 3 0).1 (whole_refused (two_kept (goal.at.returns-then-outline-last c).In_default) (refl, inr (omega (arith, c.if-outline-last.true, c.last_end-last.ensures)))))

pub check_shape-requires : goal.check_shape-requires
check_shape-requires c = three_kept c

pub returns : goal.returns
returns c = c.check_shape.ensures ∙ sym (check_is_shape _ (three_kept (goal.at.returns c).Else-outline-last))
