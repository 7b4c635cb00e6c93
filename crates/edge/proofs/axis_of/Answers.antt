use mathlib.Core.Path.{◌∙◌}
use borrow.Author.Tests.{le-ltb, lt-ltb}
use Rattle.edge.specs.Moments.{axis_of}
use Rattle.edge.proofs.axis_of.Goals as goal

pub returns-then-a-b : goal.returns-then-a-b
unfolding axis_of
returns-then-a-b c = c.axis_along.ensures ∙ simp (lt-ltb _ _ c.if-a-b.true)

pub returns-then-b-a : goal.returns-then-b-a
unfolding axis_of
returns-then-b-a c = c.axis_along-then-b-a.ensures ∙ simp (le-ltb _ _ c.if-a-b.false, lt-ltb _ _ c.if-b-a.true)

pub returns-then-v-u : goal.returns-then-v-u
unfolding axis_of
returns-then-v-u c = c.axis_along-then-v-u.ensures ∙ simp (le-ltb _ _ c.if-a-b.false, le-ltb _ _ c.if-b-a.false, lt-ltb _ _ c.if-v-u.true)

pub returns : goal.returns
unfolding axis_of
returns c = c.axis_along-2.ensures ∙ simp (le-ltb _ _ c.if-a-b.false, le-ltb _ _ c.if-b-a.false, le-ltb _ _ c.if-v-u.false)
