use mathlib.Core.Path.{◌≡◌}
use mathlib.Core.Bool.{true}
use native.Mathlib.Omega.{arith}
use lib.IntN.{ℤ, pos}
use mir.Syntax.{w32, w64}
use mir.Val.{SFits}
use mir.Facts.{to_z-of_z}
use Rattle.plane.specs.Place.{place_of, in_range}
use Rattle.plane.proofs.Place.{mag_in, place_le, place_shift}
use Rattle.plane.proofs.place_of.Goals as goal

fit32 : (z : ℤ) → in_range z ≡ true → SFits w32 z
fit32 z h = record { sfits = omega (arith, mag_in z h) }

fit64 : (z : ℤ) → in_range z ≡ true → SFits w64 z
fit64 z h = record { sfits = omega (arith, mag_in z h) }

fit_p : (z : ℤ) → in_range z ≡ true → SFits w64 (pos (place_of z))
fit_p z h = record { sfits = omega (arith, place_le z h) }

pub overflow_cast-result : goal.overflow_cast-result
overflow_cast-result c = let z = c.args.c in simp (to_z-of_z (fit32 z c.requires)) (fit64 z c.requires)

pub overflow_add-result : goal.overflow_add-result
overflow_add-result c = let z = c.args.c in
    simp (to_z-of_z (fit32 z c.requires), to_z-of_z (fit64 z c.requires), place_shift z c.requires) (fit_p z c.requires)

pub overflow_cast-result-2 : goal.overflow_cast-result-2
overflow_cast-result-2 c = let z = c.args.c in
    simp (to_z-of_z (fit32 z c.requires), to_z-of_z (fit64 z c.requires), place_shift z c.requires, to_z-of_z (fit_p z c.requires))
    (tt, record { fits = omega (arith, place_le z c.requires) })

pub returns : goal.returns
returns c = let z = c.args.c in
    simp (to_z-of_z (fit32 z c.requires), to_z-of_z (fit64 z c.requires), place_shift z c.requires, to_z-of_z (fit_p z c.requires))
