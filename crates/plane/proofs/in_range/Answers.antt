use mathlib.Core.Path.{◌≡◌, refl, ◌∙◌, sym}
use mathlib.Core.Bool.{true, false}
use Prim.Native.Nat.{ℕ}
use native.Mathlib.Omega.{arith}
use borrow.Author.Tests.{leb-true, lt-ltb, leb-false, le-ltb}
use lib.Signed.{le_z}
use lib.IntN.{ℤ, pos, negsuc}
use mir.Facts.{to_z-of_z}
use Rattle.plane.specs.Place.{in_range}
use Rattle.plane.proofs.in_range.Goals as goal

low : (z : ℤ) → le_z (negsuc 999999) z ≡ true → le_z z (pos 1000000) ≡ in_range z
unfolding in_range
low (pos n) h = refl
low (negsuc n) h = sym (lt-ltb n 1000000 (omega (arith, leb-true n 999999 h)))

below : (z : ℤ) → le_z (negsuc 999999) z ≡ false → le_z (negsuc 999999) z ≡ in_range z
unfolding in_range
below (pos n) h = let z : ◌≡◌ {A = ℕ} 0 1 = cc in absurd (omega arith)
below (negsuc n) h = h ∙ sym (le-ltb n 1000000 (omega (arith, leb-false n 999999 h)))

pub returns-then-c-geminus1000000 : goal.returns-then-c-geminus1000000
returns-then-c-geminus1000000 c =
    simp (to_z-of_z c.ranges.c) (low c.args.c (simp (to_z-of_z c.ranges.c) at c.if-c-geminus1000000.true))

pub returns-else-c-geminus1000000 : goal.returns-else-c-geminus1000000
returns-else-c-geminus1000000 c =
    simp (to_z-of_z c.ranges.c) (below c.args.c (simp (to_z-of_z c.ranges.c) at c.if-c-geminus1000000.false))
