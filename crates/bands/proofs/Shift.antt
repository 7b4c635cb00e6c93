-- The width of bands.
--   shift_is       27 less the leading zeros, where there are fewer than 27
--   shift_holds    bands so wide hold the width: leading zeros and its length in bits make 32, so with 27 zeros or more it is below 32 as it is
use mathlib.Core.Path.{◌≡◌, refl, sym, subst}
use mathlib.Core.Bool.{Bool, true, false}
use Prim.Native.Nat.{ℕ, ◌+◌, ◌-◌, ◌/◌, ◌^◌, ◌≤◌, ◌<◌}
use native.Mathlib.Omega.{arith}
use native.Mathlib.Nat.{div-one}
use native.Mathlib.Decide.{dec_lt}
use lib.Dec.{ltb}
use lib.Pow.{pow_mono, shr_lt}
use lib.Count.{count_leading_zeros, leading_length}
use borrow.Author.Tests.{lt-ltb, le-ltb, ltb-true, ltb-false}
use Rattle.plane.specs.Choice.{pick}
use Rattle.bands.specs.Bands.{bands, shift_for}

pub shift_is : (w : ℕ) → 27 - count_leading_zeros 32 w ≡ shift_for w
unfolding shift_for
shift_is w =
    let zeros = count_leading_zeros 32 w in
    elim (dec_lt zeros 27) [ yes l ↦ sym (rw (lt-ltb zeros 27 l) refl) | no l ↦ sym (rw (le-ltb zeros 27 (omega arith)) (omega arith)) ]

module _ (w : ℕ) (h : w < 2 ^ 32) where
  narrowed : count_leading_zeros 32 w < 27 → w / 2 ^ (27 - count_leading_zeros 32 w) < 32
  narrowed l =
      let m = leading_length 32 w h in
      let e : m.0 ≡ 5 + (27 - count_leading_zeros 32 w) = omega (arith, m.1) in
      shr_lt 5 (27 - count_leading_zeros 32 w) (subst (λ (k : ℕ). w < 2 ^ k) e m.2)

  narrow : 27 ≤ count_leading_zeros 32 w → w < 32
  narrow l = let m = leading_length 32 w h in omega (arith, m.2, pow_mono {i = m.0} {j = 5} (omega (arith, m.1)))

  pub shift_holds : (w / 2 ^ shift_for w < bands) × (shift_for w < 32)
  unfolding shift_for
  shift_holds = go (ltb (count_leading_zeros 32 w) 27) refl
    where
      go : (t : Bool) → ltb (count_leading_zeros 32 w) 27 ≡ t → (w / 2 ^ pick t (27 - count_leading_zeros 32 w) 0 < bands) × (pick t (27 - count_leading_zeros 32 w) 0 < 32)
      go true e = (narrowed (ltb-true _ _ e), omega arith)
      go false e = (rw (div-one w) (narrow (ltb-false _ _ e)), omega arith)
