-- North is up.
--   north_up        what lies farther north stands higher, or as high where both fall on one tenth of a pixel
use mathlib.Core.Path.{◌≡◌, refl}
use mathlib.Core.Bool.{Bool, true, false}
use Prim.Native.Nat.{ℕ, ◌+◌, ◌-◌, ◌*◌, ◌/◌, ◌≤◌, ◌<◌}
use native.Mathlib.Decide.{dec_lt}
use native.Mathlib.Nat.{mul-le-mul_right}
use native.Mathlib.Omega.{arith}
use lib.Ieee.Nearest.{div_mono}
use lib.Dec.{ltb, leb, eqb}
use borrow.Author.Tests.{lt-ltb, le-ltb, lt-leb, le-leb, ne_eqb, ltb-true, ltb-false, leb-true, leb-false}
use Rattle.plane.specs.Choice.{pick}
use Rattle.scale.specs.Places.{tenths_of, placed_of, y_of}
use Rattle.scale.specs.declared.view.View.{View}

most : (d s : ℕ) → tenths_of d s ≤ 7600
unfolding tenths_of
most d s = go (eqb s 0) (leb s d) (ltb 2000000 d) (ltb 7600 (d * 7600 / s)) refl
  where
    go : (x y z w : Bool) → ltb 7600 (d * 7600 / s) ≡ w → pick {A = ℕ} x 0 (pick y 7600 (pick z 7600 (pick w 7600 (d * 7600 / s)))) ≤ 7600
    go true y z w e = omega arith
    go false true z w e = omega arith
    go false false true w e = omega arith
    go false false false true e = omega arith
    go false false false false e = ltb-false 7600 (d * 7600 / s) e

farther : (d e s : ℕ) → d ≤ e → tenths_of d s ≤ tenths_of e s
unfolding tenths_of
farther d e s h =
    elim (dec_lt e s) [
      | no l ↦ whole (omega arith)
      | yes l ↦ elim (dec_lt 2000000 e) [ yes b ↦ large l b | no b ↦ both l (omega arith) ]
    ]
  where
    whole : s ≤ e → tenths_of d s ≤ tenths_of e s
    whole l = go (eqb s 0) refl
      where
        go : (x : Bool) → eqb s 0 ≡ x → tenths_of d s ≤ tenths_of e s
        go true q = rw q (omega arith)
        go false q = let t : tenths_of e s ≡ 7600 = rw (q, le-leb s e l) refl in omega (arith, t, most d s)

    large : e < s → 2000000 < e → tenths_of d s ≤ tenths_of e s
    large l b = let t : tenths_of e s ≡ 7600 = rw (ne_eqb s 0 (λ q. omega (arith, q)), lt-leb s e l, lt-ltb 2000000 e b) refl in omega (arith, t, most d s)

    both : e < s → e ≤ 2000000 → tenths_of d s ≤ tenths_of e s
    both l b =
        rw (ne_eqb s 0 (λ q. omega (arith, q)), lt-leb s e l, lt-leb s d (omega arith), le-ltb 2000000 e b, le-ltb 2000000 d (omega arith))
        (less (ltb 7600 (d * 7600 / s)) (ltb 7600 (e * 7600 / s)) refl refl)
      where
        parts : d * 7600 / s ≤ e * 7600 / s
        parts = div_mono (d * 7600) s (e * 7600) s (omega arith) (omega arith) (mul-le-mul_right s (omega arith))

        less : (x y : Bool) → ltb 7600 (d * 7600 / s) ≡ x → ltb 7600 (e * 7600 / s) ≡ y → pick {A = ℕ} x 7600 (d * 7600 / s) ≤ pick y 7600 (e * 7600 / s)
        less true true p q = omega arith
        less true false p q = omega (arith, parts, ltb-true 7600 (d * 7600 / s) p, ltb-false 7600 (e * 7600 / s) q)
        less false true p q = ltb-false 7600 (d * 7600 / s) p
        less false false p q = parts

pub north_up : (v : View) (y z : ℕ) → y ≤ z → y_of v z ≤ y_of v y
unfolding placed_of
north_up v y z h = go (ltb 50000 v.top) (leb v.north z) (leb v.north y) refl refl
  where
    go : (x p q : Bool) → leb v.north z ≡ p → leb v.north y ≡ q
        → pick {A = ℕ} x 50000 (pick p v.top (v.top + tenths_of (v.north - z) v.span)) ≤ pick x 50000 (pick q v.top (v.top + tenths_of (v.north - y) v.span))
    go true p q e f = omega arith
    go false true true e f = omega arith
    go false true false e f = omega arith
    go false false true e f = omega (arith, leb-false v.north z e, leb-true v.north y f)
    go false false false e f = omega (arith, farther (v.north - z) (v.north - y) v.span (omega arith))
