use Rattle.std.proofs.Common.{◌≡◌, ℕ, ◌-◌, ◌/◌, ◌%◌, ◌^◌, ◌<◌, ◌≤◌, [], ◌∷◌, take, ap, ◌∙◌, arith}
use native.Mathlib.Decide.{dec_lt}
use native.Mathlib.Nat.{pow-le-pow_right, zero-lt-suc}
use Rattle.io.specs.Digits.{hex_digit_ascii, last_digits, IsDigitCount}
use Rattle.words.specs.Texts.{hex_text}
use Rattle.words.proofs.write.put_hex.Goals as goal

-- a byte takes no more than two hexadecimal digits
two : (b k : ℕ) → b < 256 → IsDigitCount 16 2 b k → k ≡ 2
two b k h d =
    elim (dec_lt 2 k) [
      | yes l ↦
          let up : 16 ^ 2 ≤ 16 ^ (k - 1) = pow-le-pow_right (zero-lt-suc 15) {i = 2} {j = k - 1} (omega arith) in
          let low : 16 ^ (k - 1) ≤ b = d.2 l in
          absurd (omega arith)
      | no l ↦ omega (arith, d.0)
    ]

small : (b : ℕ) → b < 256 → b / 16 % 16 ≡ b / 16
small b h = omega arith

pub returns : goal.returns
returns c =
    let b = c.args.byte in
    let d = c.hex-places in
    let e : d.result ≡ 2 = two b d.result (omega arith) d.ensures.len in
    let text : take d.result d.new.out ≡ hex_text b =
    d.ensures.digits ∙ ap (λ k. last_digits 16 k b) e ∙ ap (λ n. hex_digit_ascii n ∷ hex_digit_ascii (b % 16) ∷ []) (small b (omega arith)) in
    rw text at c.put_text.ensures
