use borrow.Author.Tests.{lt-ltb, le-ltb}
use mir.Facts.{to_z-of_z}
use Rattle.classes.specs.Classes.{vertex_class}
use Rattle.classes.proofs.vertex_class.Goals as goal

pub returns-then-b : goal.returns-then-b
unfolding vertex_class
returns-then-b c = simp (le-ltb _ _ c.if-b.true)

pub returns-then-b-2 : goal.returns-then-b-2
unfolding vertex_class
returns-then-b-2 c = simp (lt-ltb _ _ c.if-b.false, le-ltb _ _ c.if-b-2.true)

pub returns : goal.returns
unfolding vertex_class
returns c =
    rw (
      lt-ltb _ _ c.if-b.false,
      lt-ltb _ _ c.if-b-2.false,
      c.class_of.ensures.0,
      c.class_of-2.ensures.0,
      to_z-of_z c.ranges.x,
      to_z-of_z c.ranges.y,
    )
