-- Lists that stand in a longer list of bytes, and the numbers read there.
--   Held b at l       the list l stands in b from place `at` on;  held_whole  b stands in itself from the front on
--   held_left, held_right, held_joined    so do its parts;  held_append, join_held  and parts that follow each other make the whole
--   u16_held, i32_held        the number whose bytes stand there is read there;  held_u16, held_i32  and the other way round
use mathlib.Core.Path.{◌≡◌, sym, ◌∙◌, ap, subst}
use mathlib.Core.List.{List, ◌++◌}
use Prim.Native.Nat.{ℕ, zero, suc, ◌+◌, ◌-◌, ◌*◌, ◌/◌, ◌%◌, ◌≤◌, ◌<◌}
use native.Mathlib.Omega.{arith}
use native.Mathlib.Decide.{dec_lt, ℕ_discrete}
use lib.ListN.{length, get_or, length-append, get_or-append}
use lib.Seq.{get_or-append-add}
use lib.IntN.{ℤ, pos, negsuc}
use lib.Signed.{mag}
use borrow.Author.Tests.{lt-ltb, le-ltb}
use Rattle.plane.specs.Folds.{sum_to}
use Rattle.endian.specs.Bytes.{u16_at, u32_at, i32_at, signed, unsigned, u16_bytes, i32_bytes, joined}
use Rattle.endian.proofs.Joined.{length_joined}

abbrev pub Held : List ℕ → ℕ → List ℕ → Type 0
Held b at l = (j : ℕ) → j < length l → get_or b (at + j) 0 ≡ get_or l j 0

pub held_whole : (b : List ℕ) → Held b 0 b
held_whole b j h = ap (λ (z : ℕ). get_or b z 0) (plain j)
  where
    plain : (a : ℕ) → 0 + a ≡ a
    plain a = omega arith

module _ (b : List ℕ) (at : ℕ) (l m : List ℕ) where
  pub held_left : Held b at (l ++ m) → Held b at l
  held_left h j lt = h j (omega (arith, length-append l m, lt)) ∙ get_or-append l m 0 j lt

  pub held_right : Held b at (l ++ m) → Held b (at + length l) m
  held_right h j lt =
      ap (λ (z : ℕ). get_or b z 0) (shift at (length l) j) ∙ h (length l + j) (omega (arith, length-append l m, lt)) ∙ get_or-append-add l m j 0
    where
      shift : (x y z : ℕ) → x + y + z ≡ x + (y + z)
      shift x y z = omega arith

  pub held_append : Held b at l → Held b (at + length l) m → Held b at (l ++ m)
  held_append h g j lt =
      elim (dec_lt j (length l)) [
        | yes k ↦ h j k ∙ sym (get_or-append l m 0 j k)
        | no k ↦
            let r : j ≡ length l + (j - length l) = omega arith in
            let p : at + j ≡ at + length l + (j - length l) = omega arith in
            ap (λ (z : ℕ). get_or b z 0) p ∙ g (j - length l) (omega (arith, length-append l m, lt)) ∙ sym (ap (λ (z : ℕ). get_or (l ++ m) z 0) r ∙ get_or-append-add l m (j - length l) 0)
      ]

-- ---- lists one behind the other
pub held_joined : (b : List ℕ) (at : ℕ) (f : ℕ → List ℕ) (n i : ℕ) → Held b at (joined f n) → i < n → Held b (at + sum_to (λ k. length (f k)) i) (f i)
unfolding joined
held_joined b at f zero i h l = absurd (omega arith)
held_joined b at f (suc n) i h l =
    elim (ℕ_discrete i n) [
      | yes e ↦ rw (e, ← length_joined f n) (held_right b at (joined f n) (f n) h)
      | no e ↦ held_joined b at f n i (held_left b at (joined f n) (f n) h) (omega arith)
    ]

pub join_held : (b : List ℕ) (at : ℕ) (f : ℕ → List ℕ) (n : ℕ) → ((i : ℕ) → i < n → Held b (at + sum_to (λ k. length (f k)) i) (f i)) → Held b at (joined f n)
unfolding joined
join_held b at f zero h = λ j l. absurd (omega arith)
join_held b at f (suc n) h = held_append b at (joined f n) (f n) (join_held b at f n (λ i l. h i (omega arith))) (rw (length_joined f n) (h n (omega arith)))

-- ---- numbers
plus_none : (a : ℕ) → a ≡ a + 0
plus_none a = omega arith

pub u16_held : (b : List ℕ) (at v : ℕ) → v < 65536 → Held b at (u16_bytes v) → u16_at b at ≡ v
u16_held b at v l h =
    let x : get_or b at 0 ≡ v % 256 = ap (λ (z : ℕ). get_or b z 0) (plus_none at) ∙ h 0 (omega arith) in
    let y : get_or b (at + 1) 0 ≡ v / 256 % 256 = h 1 (omega arith) in
    rw (x, y) (omega arith)

pub held_u16 : (b : List ℕ) (at v : ℕ) → get_or b at 0 < 256 → get_or b (at + 1) 0 < 256 → u16_at b at ≡ v → Held b at (u16_bytes v)
held_u16 b at v p q e zero l = ap (λ (z : ℕ). get_or b z 0) (sym (plus_none at)) ∙ low (get_or b at 0) (get_or b (at + 1) 0) p e
  where
    low : (x y : ℕ) → x < 256 → x + y * 256 ≡ v → x ≡ v % 256
    low x y p e = omega arith
held_u16 b at v p q e (suc zero) l = high (get_or b at 0) (get_or b (at + 1) 0) p q e
  where
    high : (x y : ℕ) → x < 256 → y < 256 → x + y * 256 ≡ v → y ≡ v / 256 % 256
    high x y p q e = omega arith
held_u16 b at v p q e (suc (suc j)) l = absurd (omega arith)

unsigned_lt : (z : ℤ) → mag z < 2147483648 → unsigned z < 4294967296
unsigned_lt (pos n) h = omega arith
unsigned_lt (negsuc n) h = omega arith

signed_unsigned : (z : ℤ) → mag z < 2147483648 → signed (unsigned z) ≡ z
signed_unsigned (pos n) h = simp (lt-ltb n 2147483648 h)
signed_unsigned (negsuc n) h =
    let l : 2147483648 ≤ 4294967295 - n = omega arith in
    simp (le-ltb (4294967295 - n) 2147483648 l) (ap negsuc (omega arith))

pub i32_held : (b : List ℕ) (at : ℕ) (z : ℤ) → mag z < 2147483648 → Held b at (i32_bytes z) → i32_at b at ≡ z
i32_held b at z l h =
    let u = unsigned_lt z l in
    let x : u16_at b at ≡ unsigned z % 65536 = u16_held b at (unsigned z % 65536) (omega arith) (held_left b at (u16_bytes (unsigned z % 65536)) (u16_bytes (unsigned z / 65536)) h) in
    let y : u16_at b (at + 2) ≡ unsigned z / 65536 = u16_held b (at + 2) (unsigned z / 65536) (omega arith) (held_right b at (u16_bytes (unsigned z % 65536)) (u16_bytes (unsigned z / 65536)) h) in
    let e : u32_at b at ≡ unsigned z = rw (x, y) (omega arith) in
    ap signed e ∙ signed_unsigned z l

unsigned_signed : (v : ℕ) → v < 4294967296 → unsigned (signed v) ≡ v
unsigned_signed v h =
    elim (dec_lt v 2147483648) [
      | yes l ↦ simp (lt-ltb v 2147483648 l)
      | no l ↦ (let e : 4294967295 - (4294967295 - v) ≡ v = omega arith in simp (le-ltb v 2147483648 (omega arith), e))
    ]

pub held_i32 : (b : List ℕ) (at : ℕ) (z : ℤ) → ((j : ℕ) → get_or b j 0 < 256) → i32_at b at ≡ z → Held b at (i32_bytes z)
held_i32 b at z low e =
    let v : u32_at b at < 4294967296 = omega (arith, low at, low (at + 1), low (at + 2), low (at + 2 + 1)) in
    let u : unsigned z ≡ u32_at b at = ap unsigned (sym e) ∙ unsigned_signed (u32_at b at) v in
    subst (λ (w : ℕ). Held b at (u16_bytes (w % 65536) ++ u16_bytes (w / 65536))) (sym u)
    (held_append b at (u16_bytes (u32_at b at % 65536)) (u16_bytes (u32_at b at / 65536))
    (held_u16 b at (u32_at b at % 65536) (low at) (low (at + 1)) (first (get_or b at 0) (get_or b (at + 1) 0) (u16_at b (at + 2)) (low at) (low (at + 1))))
    (held_u16 b (at + 2) (u32_at b at / 65536) (low (at + 2)) (low (at + 2 + 1)) (second (get_or b at 0) (get_or b (at + 1) 0) (u16_at b (at + 2)) (low at) (low (at + 1)))))
  where
    first : (x y w : ℕ) → x < 256 → y < 256 → x + y * 256 ≡ (x + y * 256 + w * 65536) % 65536
    first x y w p q = omega arith

    second : (x y w : ℕ) → x < 256 → y < 256 → w ≡ (x + y * 256 + w * 65536) / 65536
    second x y w p q = omega arith
