-- The edges that edge i may meet, as the bits of a word: the lowest bit that is set stands for the next edge to ask.
--   none_left     past the ring's end there is none
--   none_set      a word of no bits has none
--   later         the next edge was asked in vain: the bits above its own
use mathlib.Core.Path.{◌≡◌, ◌∙◌, ap}
use mathlib.Core.Bool.{true, false}
use mathlib.Core.List.{List}
use Prim.Native.Nat.{ℕ, ◌+◌, ◌-◌, ◌/◌, ◌%◌, ◌^◌, ◌≤◌, ◌<◌}
use native.Mathlib.Omega.{arith}
use native.Mathlib.Nat.{zero-div}
use native.Mathlib.Decide.{ℕ_discrete, dec_lt}
use lib.Count.{count_trailing_zeros}
use lib.IntN.{ℤ}
use Rattle.plane.specs.TileSet.{bit}
use Rattle.plane.proofs.Logic.{clash}
use Rattle.bands.proofs.Bits.{bit_shift, below_trailing}
use Rattle.simple.specs.Parts.{meet_pair, meets_with, Candidates}
use Rattle.simple.proofs.Parts.{with_none}

module _ (xs : List ℤ) (from n i at rest : ℕ) (c : Candidates xs from n i at rest) where
  abbrev zeros : ℕ
  zeros = count_trailing_zeros 64 rest

  -- no edge before the next one has its bit
  reached : (k : ℕ) → k < n → meet_pair xs from n i k ≡ true → at + zeros ≤ k
  reached k h t =
      let p = c.has k h t in
      elim (dec_lt (k - at) zeros) [
        | yes l ↦ absurd (omega (arith, p.1, below_trailing 64 rest (k - at) l))
        | no l ↦ omega (arith, p.0)
      ]

  pub none_left : n ≤ at + zeros → false ≡ meets_with xs from n i
  none_left l = with_none xs from n i (λ k h t. absurd (omega (arith, reached k h t)))

  pub none_set : rest ≡ 0 → false ≡ meets_with xs from n i
  none_set e = with_none xs from n i (λ k h t. let p = rw e at (c.has k h t).1 in absurd (omega (arith, empty (k - at))))
    where
      empty : (z : ℕ) → bit 0 z ≡ 0
      empty z = ap (λ x. x % 2) (zero-div (2 ^ z))

  pub later : meet_pair xs from n i (at + zeros) ≡ false → Candidates xs from n i (at + zeros + 1) (rest / 2 ^ zeros / 2)
  later f =
      record {
        has = λ k h t.
            let p = c.has k h t in
            let q = reached k h t in
            elim (ℕ_discrete k (at + zeros)) [
              | yes e ↦ clash (meet_pair xs from n i k) t (ap (meet_pair xs from n i) e ∙ f)
              | no e ↦
                  let z = k - (at + zeros + 1) in
                  let m : zeros + (1 + z) ≡ k - at = omega arith in
                  (omega arith, bit_shift (rest / 2 ^ zeros) 1 z ∙ bit_shift rest zeros (1 + z) ∙ ap (bit rest) m ∙ p.1)
            ];
      }
