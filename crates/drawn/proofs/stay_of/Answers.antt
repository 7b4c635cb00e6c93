use mathlib.Core.Path.{◌∙◌}
use borrow.Author.Tests.{lt-ltb, le-ltb}
use Rattle.drawing.specs.Stays.{stay_of}
use Rattle.drawn.proofs.stay_of.Goals as goal

pub returns-then-a-b : goal.returns-then-a-b
unfolding stay_of
returns-then-a-b c = c.stay_up.ensures ∙ simp (lt-ltb _ _ c.if-a-b.true)

pub returns-then-b-a : goal.returns-then-b-a
unfolding stay_of
returns-then-b-a c = c.stay_down.ensures ∙ simp (le-ltb _ _ c.if-a-b.false, lt-ltb _ _ c.if-b-a.true)

pub returns-then-up : goal.returns-then-up
unfolding stay_of
returns-then-up c = c.stay_up-then-up.ensures ∙ simp (le-ltb _ _ c.if-a-b.false, le-ltb _ _ c.if-b-a.false, c.if-up.true)

pub returns : goal.returns
unfolding stay_of
returns c = c.stay_down-2.ensures ∙ simp (le-ltb _ _ c.if-a-b.false, le-ltb _ _ c.if-b-a.false, c.if-up.false)
