-- Numbers in decimal.
--   places_are       as few digits as hold a number below 100,000 are as many as the definition says
--   put_decimal      what the crate words writes of such a number, where there is room
--   decimal_le       five bytes hold it
use mathlib.Core.Path.{◌≡◌, refl, ◌∙◌, ap}
use mathlib.Core.Bool.{Bool, true, false}
use mathlib.Core.List.{List}
use Prim.Native.Nat.{ℕ, zero, suc, ◌+◌, ◌/◌, ◌-◌, ◌≤◌, ◌<◌}
use native.Mathlib.Omega.{arith}
use lib.Dec.{ltb}
use lib.ListN.{length, length-append}
use native.Mathlib.Nat.{le_trans, pow-le-pow_right}
use borrow.Author.Tests.{lt-ltb, le-ltb}
use Rattle.plane.specs.Choice.{pick}
use Rattle.io.specs.Digits.{last_digits, IsDigitCount}
use Rattle.words.specs.Texts.{WroteNatural}
use Rattle.names.specs.Numbers.{places_of, decimal}
use Rattle.names.specs.Steps.{Put}
use Rattle.names.proofs.Putting.{put_wrote, put_as}

-- more than five are too many
many : (n k : ℕ) → 6 ≤ k → IsDigitCount 10 1 n k → 100000 ≤ n
many n k h f = le_trans (pow-le-pow_right {n = 10} (omega arith) {i = 5} {j = k - 1} (omega arith)) (f.2 (omega arith))

pub places_are : (n k : ℕ) → n < 100000 → IsDigitCount 10 1 n k → k ≡ places_of n
places_are n zero l f = absurd (omega (arith, f.0))
places_are n (suc zero) l f = rw (lt-ltb n 10 f.1) refl
places_are n (suc (suc zero)) l f = rw (le-ltb n 10 (f.2 (omega arith)), lt-ltb n 100 f.1) refl
places_are n (suc (suc (suc zero))) l f = let h : 100 ≤ n = f.2 (omega arith) in rw (le-ltb n 10 (omega arith), le-ltb n 100 h, lt-ltb n 1000 f.1) refl
places_are n (suc (suc (suc (suc zero)))) l f = let h : 1000 ≤ n = f.2 (omega arith) in rw (le-ltb n 10 (omega arith), le-ltb n 100 (omega arith), le-ltb n 1000 h, lt-ltb n 10000 f.1) refl
places_are n (suc (suc (suc (suc (suc zero))))) l f = let h : 10000 ≤ n = f.2 (omega arith) in rw (le-ltb n 10 (omega arith), le-ltb n 100 (omega arith), le-ltb n 1000 (omega arith), le-ltb n 10000 h) refl
places_are n (suc (suc (suc (suc (suc (suc k)))))) l f = absurd (omega (arith, many n (suc (suc (suc (suc (suc (suc k)))))) (omega arith) f))

places_le : (n : ℕ) → places_of n ≤ 5
places_le n = go (ltb n 10) (ltb n 100) (ltb n 1000) (ltb n 10000)
  where
    go : (x y z w : Bool) → pick {A = ℕ} x 1 (pick y 2 (pick z 3 (pick w 4 5))) ≤ 5
    go true y z w = omega arith
    go false true z w = omega arith
    go false false true w = omega arith
    go false false false true = omega arith
    go false false false false = omega arith

length_digits : (k n : ℕ) → length (last_digits 10 k n) ≡ k
length_digits zero n = refl
length_digits (suc k) n = length-append (last_digits 10 k (n / 10)) _ ∙ ap (λ (m : ℕ). m + 1) (length_digits k (n / 10)) ∙ plus_one k
  where
    plus_one : (a : ℕ) → a + 1 ≡ suc a
    plus_one a = omega arith

pub decimal_le : (n : ℕ) → length (decimal n) ≤ 5
decimal_le n = omega (arith, length_digits (places_of n) n, places_le n)

pub put_decimal : {b c : List ℕ} {at n r : ℕ} → n < 100000 → at + length (decimal n) ≤ length b → WroteNatural b at n r c → Put b at (decimal n) r c
put_decimal {b} {c} {at} {n} {r} l h w =
    let e : last_digits 10 w.places n ≡ decimal n = ap (λ (k : ℕ). last_digits 10 k n) (places_are n w.places l w.fewest) in
    put_as e (put_wrote (omega (arith, ap length e)) w.wrote)
