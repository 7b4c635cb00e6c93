use mathlib.Core.Path.{◌≡◌, ◌∙◌, ap}
use Prim.Native.Nat.{ℕ, ◌+◌, ◌≤◌}
use native.Mathlib.Omega.{arith}
use lib.IntN.{ℤ, pos, neg_ℤ, ◌-ℤ◌}
use mir.Syntax.{w32, w64}
use mir.Val.{SFits, to_z, of_z}
use mir.Facts.{to_z-of_z, to_z_pos}
use Rattle.plane.proofs.Difference.{Diff, diff_pos, diff_neg, diff_add, diff_move}
use Rattle.plane.proofs.Place.{mag_in, place_back}
use Rattle.plane.proofs.coordinate_of.Goals as goal

-- the difference, as the code has it
module _ (p : ℕ) (h : p ≤ 2000000) where
  abbrev z : ℤ
  z = pos p -ℤ pos 1000000

  less : to_z w64 p -ℤ to_z w64 1000000 ≡ z
  less = ap (λ (x : ℤ). x -ℤ pos 1000000) (to_z_pos w64 {n = p} (omega arith))

  less_diff : Diff z p 1000000
  less_diff =
      diff_move z (p + 0) (0 + 1000000) p 1000000
      (diff_add (pos p) (neg_ℤ (pos 1000000)) p 0 0 1000000 (diff_pos p) (diff_neg (pos 1000000) 1000000 0 (diff_pos 1000000))) (omega arith)

  fits64 : SFits w64 (to_z w64 p -ℤ to_z w64 1000000)
  fits64 = rw less (record { sfits = omega (arith, mag_in z (place_back z p less_diff h).0) })

  back64 : to_z w64 (of_z w64 (to_z w64 p -ℤ to_z w64 1000000)) ≡ z
  back64 = to_z-of_z fits64 ∙ less

  fits32 : SFits w32 z
  fits32 = record { sfits = omega (arith, mag_in z (place_back z p less_diff h).0) }

pub overflow_sub-result : goal.overflow_sub-result
overflow_sub-result c = fits64 c.args.p c.requires

pub overflow_cast-result-2 : goal.overflow_cast-result-2
overflow_cast-result-2 c = rw (back64 c.args.p c.requires) (fits32 c.args.p c.requires)

pub returns : goal.returns
returns c =
    let p = c.args.p in
    rw (back64 p c.requires, to_z-of_z (fits32 p c.requires)) (place_back (z p c.requires) p (less_diff p c.requires) c.requires)
