use mathlib.Core.Path.{◌≡◌, refl, sym, ◌∙◌, ap}
use mir.Facts.{to_z-of_z}
use mathlib.Core.Bool.{true, false}
use lib.IntN.{ℤ}
use Rattle.plane.specs.Place.{in_range, place_of}
use Rattle.scale.specs.Places.{place_in}
use Rattle.scale.proofs.view.place.Goals as goal

in_place : (z : ℤ) → in_range z ≡ true → place_of z ≡ place_in z
unfolding place_in
in_place z e = rw e refl

out_place : (z : ℤ) → in_range z ≡ false → 0 ≡ place_in z
unfolding place_in
out_place z e = rw e refl

pub place_of-requires : goal.place_of-requires
place_of-requires c = sym c.in_range.ensures ∙ c.if-in_range.true

pub returns-then-in_range : goal.returns-then-in_range
returns-then-in_range c =
    let z = to_z-of_z c.ranges.c in
    c.place_of.ensures ∙ ap place_of z ∙ in_place c.args.c (sym (ap in_range z) ∙ sym c.in_range.ensures ∙ c.if-in_range.true)

pub returns-else-in_range : goal.returns-else-in_range
returns-else-in_range c = out_place c.args.c (sym (ap in_range (to_z-of_z c.ranges.c)) ∙ sym c.in_range.ensures ∙ c.if-in_range.false)
