-- Numbers of two bytes each, one behind the other, are read back.
--   word_read        each of them, where it is below 65,536
--   Small l          every number of a list is
--   small_none, small_more, small_append     of no number, of one more, of two lists one behind the other
use mathlib.Core.Path.{◌≡◌, subst}
use mathlib.Core.List.{List, [], ◌∷◌, ◌++◌}
use Prim.Native.Nat.{ℕ, zero, suc, ◌+◌, ◌*◌, ◌<◌}
use native.Mathlib.Omega.{arith}
use lib.ListN.{get_or}
use Rattle.plane.specs.Folds.{sum_to}
use Rattle.endian.specs.Bytes.{u16_at, u16_bytes}
use Rattle.endian.specs.Placed.{word_bytes}
use Rattle.endian.proofs.Joined.{sum_const}
use Rattle.endian.proofs.Held.{Held, held_whole, held_left, held_joined, u16_held}

module _ (ws : List ℕ) (n k : ℕ) (rest : List ℕ) (l : k < n) where
  abbrev bytes_of : ℕ → List ℕ
  bytes_of i = u16_bytes (get_or ws i 0)

  pub word_read : get_or ws k 0 < 65536 → u16_at (word_bytes ws n ++ rest) (2 * k) ≡ get_or ws k 0
  word_read small =
      let whole = word_bytes ws n ++ rest in
      let there : Held whole (0 + sum_to (λ i. 2) k) (bytes_of k) = held_joined whole 0 bytes_of n k (held_left whole 0 (word_bytes ws n) rest (held_whole whole)) l in
      let place : 0 + sum_to (λ i. 2) k ≡ 2 * k = omega (arith, sum_const 2 k) in
      u16_held whole (2 * k) (get_or ws k 0) small (subst (λ (at : ℕ). Held whole at (bytes_of k)) place there)

-- ---- lists of numbers below 65,536
pub record Small (l : List ℕ) : Type 0 where
  pub at : (k : ℕ) → get_or l k 0 < 65536

pub small_none : Small []
small_none = record { at = λ k. omega arith }

pub small_more : {x : ℕ} {l : List ℕ} → x < 65536 → Small l → Small (x ∷ l)
small_more {x} {l} h s = record { at = go }
  where
    go : (k : ℕ) → get_or (x ∷ l) k 0 < 65536
    go zero = h
    go (suc k) = s.at k

pub small_append : (l : List ℕ) {m : List ℕ} → Small l → Small m → Small (l ++ m)
small_append [] s t = t
small_append (x ∷ l) s t = small_more (s.at zero) (small_append l (record { at = λ k. s.at (suc k) }) t)
