use Rattle.std.proofs.Common.{◌≡◌, ℕ, Bool, true, false, leb, sym, ◌∙◌, arith}
use Rattle.std.specs.Int.{abs_diff}
use Rattle.plane.specs.Choice.{pick}
use Rattle.edge.specs.Moments.{rise_of, fall_of}
use Rattle.edge.proofs.parts_until.Goals as goal

-- how far p is along the axis from q, or whether it is: as `as_far` tells it
abbrev far : Bool → ℕ → ℕ → Bool
far down p q = pick down (leb p q) (leb q p)

at_its_start : (down : Bool) (a l b n : ℕ) → far down a l ≡ true → 0 ≡ pick down (fall_of a l b n) (rise_of a l b n)
unfolding rise_of fall_of
at_its_start true a l b n h = rw h
at_its_start false a l b n h = rw h

at_its_end : (down : Bool) (a l b n : ℕ) → far down a l ≡ false → far down l b ≡ true → n ≡ pick down (fall_of a l b n) (rise_of a l b n)
unfolding rise_of fall_of
at_its_end true a l b n h k = rw (h, k)
at_its_end false a l b n h k = rw (h, k)

between : (down : Bool) (a l b n : ℕ) → far down a l ≡ false → far down l b ≡ false → abs_diff a l ≡ pick down (fall_of a l b n) (rise_of a l b n)
unfolding rise_of fall_of
between true a l b n h k = rw (h, k) (grind (arith, h))
between false a l b n h k = rw (h, k) (grind (arith, h))

pub returns-then-as_far : goal.returns-then-as_far
returns-then-as_far c = let a = c.args in at_its_start a.down a.a a.l a.b a.n (sym c.as_far.ensures ∙ c.if-as_far.true)

pub returns-then-as_far-2 : goal.returns-then-as_far-2
returns-then-as_far-2 c =
    let a = c.args in at_its_end a.down a.a a.l a.b a.n (sym c.as_far.ensures ∙ c.if-as_far.false) (sym c.as_far-2.ensures ∙ c.if-as_far-2.true)

pub returns : goal.returns
returns c =
    let a = c.args in
    c.abs_diff.ensures ∙ between a.down a.a a.l a.b a.n (sym c.as_far.ensures ∙ c.if-as_far.false) (sym c.as_far-2.ensures ∙ c.if-as_far-2.false)
