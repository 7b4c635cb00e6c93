-- No second answer fits, also where a contract says that there are places: two answers that meet the contract of a function that writes a text are
-- equal, with the buffer at exit.
--   wrote_only, wrote_natural_only, wrote_integer_only    of what such a call ensures (specs/Texts)
--   put_text_only, put_byte_only, put_hex_only, put_natural_only, put_integer_only    of the functions
use mathlib.Core.Path.{◌≡◌, sym, ◌∙◌, ap}
use mathlib.Core.List.{List}
use Prim.Native.Nat.{ℕ, ◌-◌, ◌^◌, ◌≤◌, ◌<◌}
use native.Mathlib.Omega.{arith}
use native.Mathlib.Decide.{dec_lt}
use native.Mathlib.Nat.{pow-le-pow_right, zero-lt-suc}
use lib.IntN.{ℤ, pos, negsuc}
use Rattle.io.specs.Digits.{last_digits, IsDigitCount}
use Rattle.words.specs.Texts.{Wrote, WroteNatural, WroteNegative, WroteInteger}
use Rattle.words.proofs.write.put_text.Reads as put_text_reads
use Rattle.words.proofs.write.put_byte.Reads as put_byte_reads
use Rattle.words.proofs.write.put_hex.Reads as put_hex_reads
use Rattle.words.proofs.write.put_natural.Reads as put_natural_reads
use Rattle.words.proofs.write.put_integer.Reads as put_integer_reads

-- more digits than the fewest are not the fewest
not_fewer : (n k m : ℕ) → IsDigitCount 10 1 n k → IsDigitCount 10 1 n m → k < m → ⊥
not_fewer n k m f g l =
    let up : 10 ^ k ≤ 10 ^ (m - 1) = pow-le-pow_right (zero-lt-suc 9) (omega arith) in
    let low : 10 ^ (m - 1) ≤ n = g.2 (omega (arith, f.0)) in
    let high : n < 10 ^ k = f.1 in
    omega arith

fewest_only : (n k m : ℕ) → IsDigitCount 10 1 n k → IsDigitCount 10 1 n m → k ≡ m
fewest_only n k m f g =
    elim (dec_lt k m) [
      | yes l ↦ absurd (not_fewer n k m f g l)
      | no l ↦ elim (dec_lt m k) [ yes h ↦ absurd (not_fewer n m k g f h) | no h ↦ omega arith ]
    ]

pub wrote_only : {xs : List ℕ} {at : ℕ} {text : List ℕ} {r r' : ℕ} {ys ys' : List ℕ} → Wrote xs at text r ys → Wrote xs at text r' ys' → (r ≡ r') × (ys ≡ ys')
wrote_only w v = (w.place ∙ sym v.place, w.buffer ∙ sym v.buffer)

pub wrote_natural_only : {xs : List ℕ} {at n : ℕ} {r r' : ℕ} {ys ys' : List ℕ} → WroteNatural xs at n r ys → WroteNatural xs at n r' ys' → (r ≡ r') × (ys ≡ ys')
wrote_natural_only {xs} {at} {n} {r} {r'} {ys} {ys'} w v =
    let e : last_digits 10 w.places n ≡ last_digits 10 v.places n = ap (λ (k : ℕ). last_digits 10 k n) (fewest_only n w.places v.places w.fewest v.fewest) in
    wrote_only (rw e at w.wrote) v.wrote

wrote_negative_only : {xs : List ℕ} {at n : ℕ} {r r' : ℕ} {ys ys' : List ℕ} → WroteNegative xs at n r ys → WroteNegative xs at n r' ys' → (r ≡ r') × (ys ≡ ys')
wrote_negative_only w v =
    let e = wrote_only w.sign v.sign in
    wrote_natural_only (rw (e.0, e.1) at w.number) v.number

pub wrote_integer_only : (xs : List ℕ) (at : ℕ) (z : ℤ) {r r' : ℕ} {ys ys' : List ℕ} → WroteInteger xs at z r ys → WroteInteger xs at z r' ys' → (r ≡ r') × (ys ≡ ys')
wrote_integer_only xs at (pos n) w v = wrote_natural_only w v
wrote_integer_only xs at (negsuc n) w v = wrote_negative_only w v

pub put_text_only : (κs : _) (a : _) (r r' : ℕ) (s s' : _) → put_text_reads.Post κs a r s → put_text_reads.Post κs a r' s' → (r ≡ r') × (s.0.now ≡ s'.0.now)
put_text_only κs a r r' s s' p q = wrote_only p q

pub put_byte_only : (κs : _) (a : _) (r r' : ℕ) (s s' : _) → put_byte_reads.Post κs a r s → put_byte_reads.Post κs a r' s' → (r ≡ r') × (s.0.now ≡ s'.0.now)
put_byte_only κs a r r' s s' p q = wrote_only p q

pub put_hex_only : (κs : _) (a : _) (r r' : ℕ) (s s' : _) → put_hex_reads.Post κs a r s → put_hex_reads.Post κs a r' s' → (r ≡ r') × (s.0.now ≡ s'.0.now)
put_hex_only κs a r r' s s' p q = wrote_only p q

pub put_natural_only : (κs : _) (a : _) (r r' : ℕ) (s s' : _) → put_natural_reads.Post κs a r s → put_natural_reads.Post κs a r' s' → (r ≡ r') × (s.0.now ≡ s'.0.now)
put_natural_only κs a r r' s s' p q = wrote_natural_only p q

pub put_integer_only : (κs : _) (a : _) (r r' : ℕ) (s s' : _) → put_integer_reads.Post κs a r s → put_integer_reads.Post κs a r' s' → (r ≡ r') × (s.0.now ≡ s'.0.now)
put_integer_only κs a r r' s s' p q = wrote_integer_only a.0.now a.1.0 a.1.1.0 p q
