use mathlib.Core.Path.{◌∙◌}
use borrow.Author.Tests.{lt-leb, le-leb}
use Rattle.edge.specs.Drawn.{walk_of}
use Rattle.leg.proofs.upright_walk.Goals as goal

pub returns-then-b : goal.returns-then-b
returns-then-b c = let e = lt-leb _ _ c.if-b.true in c.no_walk.ensures ∙ simp e

pub returns-then-b-2 : goal.returns-then-b-2
returns-then-b-2 c =
    let d = le-leb _ _ c.if-b.false in
    let e = lt-leb _ _ c.if-b-2.true in
    c.no_walk-then-b-2.ensures ∙ simp (d, e)

pub returns : goal.returns
unfolding walk_of
returns c =
    let d = le-leb _ _ c.if-b.false in
    let e = le-leb _ _ c.if-b-2.false in
    c.walk_edge.ensures ∙ simp (d, e)
