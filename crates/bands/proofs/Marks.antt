-- The edges marked in the bands of their ends, vertex by vertex.
--   marks_more     one vertex more, the end of the edges e and e + 1
--   marked         after all vertices word t(b) has every edge with an end in band b
use mathlib.Core.Path.{◌≡◌, refl, ◌∙◌, ap}
use mathlib.Core.List.{List}
use Prim.Native.Nat.{ℕ, zero, suc, ◌+◌, ◌*◌, ◌%◌, ◌^◌, ◌≤◌, ◌<◌}
use native.Mathlib.Omega.{arith}
use native.Mathlib.Decide.{ℕ_discrete}
use native.Mathlib.Numerals.{add-one}
use lib.ListN.{length, get_or, set, length-set}
use lib.Seq.{get_or-set_same, get_or-set_other}
use lib.Bits.{bit_or}
use Rattle.plane.specs.Folds.{turns}
use Rattle.plane.specs.TileSet.{bit}
use Rattle.bands.specs.Bands.{bands, most_edges, mark_at, marks_of}
use Rattle.bands.proofs.Bits.{or_left, or_right, pair_has}

module _ (s : List ℕ) where
  turns_next : (e : ℕ) (t : List ℕ) → mark_at s e (turns (mark_at s) e t) ≡ turns (mark_at s) (suc e) t
  unfolding turns
  turns_next e t = refl

  pub marks_more : (e : ℕ) (t u : List ℕ) → u ≡ turns (mark_at s) e t
      → set u (get_or s (e + 1) 0) (bit_or (get_or u (get_or s (e + 1) 0) 0) (3 * 2 ^ e % 2 ^ 64)) ≡ turns (mark_at s) (e + 1) t
  marks_more e t u p = rw (add-one e) (ap (mark_at s e) p ∙ turns_next e t)

  length_marks : (k : ℕ) (t : List ℕ) → length (turns (mark_at s) k t) ≡ length t
  unfolding turns
  length_marks zero t = refl
  length_marks (suc k) t =
      let u = turns (mark_at s) k t in
      let b = get_or s (suc k) 0 in
      length-set u b (bit_or (get_or u b 0) (3 * 2 ^ k % 2 ^ 64)) ∙ length_marks k t

  module _ (n : ℕ) where
    -- the edges of the vertices before i
    abbrev MarkedTo : ℕ → List ℕ → Type 0
    MarkedTo i t = (e v : ℕ) → e < n → e ≤ v → v ≤ e + 1 → v < i → bit (get_or t (get_or s v 0) 0) e ≡ 1

    marked_first : (t : List ℕ) → get_or s 0 0 < length t → MarkedTo 1 (set t (get_or s 0 0) 1)
    marked_first t l e v he p q h =
        let z : v ≡ 0 = omega arith in
        let y : e ≡ 0 = omega arith in
        rw (z, y, get_or-set_same t (get_or s 0 0) 1 0 l)

    module _ (few : n ≤ most_edges) (banded : (v : ℕ) → v ≤ n → get_or s v 0 < bands) where
      marked_more : (k : ℕ) (t : List ℕ) → k < n → get_or s (suc k) 0 < length t → MarkedTo (suc k) t → MarkedTo (suc (suc k)) (mark_at s k t)
      marked_more k t most l old e v he p q h =
          let b = get_or s (suc k) 0 in
          let pair = 3 * 2 ^ k % 2 ^ 64 in
          let word = bit_or (get_or t b 0) pair in
          elim (ℕ_discrete (get_or s v 0) b) [
            | yes z ↦ rw (z, get_or-set_same t b word 0 l) (elim (ℕ_discrete v (suc k)) [
              | yes y ↦ or_right (get_or t b 0) pair e (pair_has k e (omega arith) (omega arith) (omega arith))
              | no y ↦ or_left (get_or t b 0) pair e (rw z at (old e v he p q (omega arith)))
            ])
            | no z ↦ rw (get_or-set_other t b (get_or s v 0) word 0 z) (old e v he p q (elim (ℕ_discrete v (suc k)) [ yes y ↦ absurd (z (ap (λ (k : ℕ). get_or s k 0) y)) | no y ↦ omega arith ]))
          ]

      module _ (t : List ℕ) (room : length t ≡ bands) where
        abbrev begun : List ℕ
        begun = set t (get_or s 0 0) 1

        length_begun : (k : ℕ) → length (turns (mark_at s) k begun) ≡ bands
        length_begun k = length_marks k begun ∙ length-set t (get_or s 0 0) 1 ∙ room

        marked_to : (k : ℕ) → k ≤ n → MarkedTo (suc k) (turns (mark_at s) k begun)
        unfolding turns
        marked_to zero h = marked_first t (omega (arith, banded 0 (omega arith)))
        marked_to (suc k) h = marked_more k (turns (mark_at s) k begun) (omega arith) (omega (arith, length_begun k, banded (suc k) h)) (marked_to k (omega arith))

        pub marked : (e v : ℕ) → e < n → e ≤ v → v ≤ e + 1 → bit (get_or (marks_of s n t) (get_or s v 0) 0) e ≡ 1
        unfolding marks_of
        marked e v he p q = marked_to n (omega arith) e v he p q (omega arith)
