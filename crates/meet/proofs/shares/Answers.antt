use mathlib.Core.Path.{◌≡◌, refl, sym, ◌∙◌, ap, ap₂}
use mathlib.Core.Bool.{Bool, true, false, ◌&&◌}
use borrow.Author.Rules.{rules}
use borrow.Author.Tests.{not-true, not-false}
use Rattle.plane.specs.declared.Edge.{Edge}
use Rattle.meet.specs.MeetTest.{overlap, ends_apart, shares}
use Rattle.meet.proofs.shares.Goals as goal
use Rattle.meet.proofs.shares.Goals.{Else-not-overlap, Else-not-overlap-2}

-- the ranges of one axis have a number in common
abbrev across : Edge → Edge → Bool
across g h = overlap g.ax g.bx h.ax h.bx

abbrev up : Edge → Edge → Bool
up g h = overlap g.ay g.by h.ay h.by

nothing : (a b : Bool) → a && (b && false) ≡ false
nothing true true = refl
nothing true false = refl
nothing false b = refl

all : (b : Bool) → b && true ≡ b
all true = refl
all false = refl

not_near : (g h : Edge) → across g h && up g h ≡ false → false ≡ shares g h
unfolding shares
not_near g h e = sym (ap (λ (t : Bool). ends_apart g h && (ends_apart h g && t)) e ∙ nothing (ends_apart g h) (ends_apart h g))

one_sided : (g h : Edge) → ends_apart g h ≡ false → false ≡ shares g h
unfolding shares
one_sided g h e = rw e refl

second_tells : (g h : Edge) → across g h && up g h ≡ true → ends_apart g h ≡ true → ends_apart h g ≡ shares g h
unfolding shares
second_tells g h e f = rw f (sym (ap (λ (t : Bool). ends_apart h g && t) e ∙ all (ends_apart h g)))

-- what each `if` that was passed has shown
across_passed : (c : Else-not-overlap) → across c.args.g c.args.h ≡ true
across_passed c = sym c.overlap.ensures ∙ c.if-not-overlap.false

up_passed : (c : Else-not-overlap-2) → up c.args.g c.args.h ≡ true
up_passed c = sym c.overlap-2.ensures ∙ c.if-not-overlap-2.false

pub returns-then-not-overlap : goal.returns-then-not-overlap
returns-then-not-overlap c =
    let a = c.args in
    not_near _ _ (ap (λ (t : Bool). t && up a.g a.h) (sym c.overlap.ensures ∙ c.if-not-overlap.true))

pub returns-then-not-overlap-2 : goal.returns-then-not-overlap-2
returns-then-not-overlap-2 c =
    not_near _ _
    (ap₂ (λ (a b : Bool). a && b) (across_passed (goal.at.returns-then-not-overlap-2 c).Else-not-overlap)
    (sym c.overlap-2.ensures ∙ c.if-not-overlap-2.true))

pub returns-then-not-ends_apart : goal.returns-then-not-ends_apart
returns-then-not-ends_apart c = one_sided _ _ (sym c.ends_apart.ensures ∙ c.if-not-ends_apart.true)

pub returns : goal.returns
returns c =
    c.ends_apart-2.ensures
    ∙ second_tells _ _ (ap₂ (λ (a b : Bool). a && b) (across_passed (goal.at.returns c).Else-not-overlap) (up_passed (goal.at.returns c).Else-not-overlap-2))
    (sym c.ends_apart.ensures ∙ c.if-not-ends_apart.false)
