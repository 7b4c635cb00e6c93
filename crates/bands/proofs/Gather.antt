-- Words joined one after the other, upwards and downwards.
--   joined_none, joined_more    before the first turn, and one word more
--   back_more                   a list that is filled from its end: one turn more
--   below_has, above_has        word b has all that word c had, for each c up to b, and for each c from b on
use mathlib.Core.Path.{◌≡◌, refl, ◌∙◌}
use mathlib.Core.List.{List}
use Prim.Native.Nat.{ℕ, zero, suc, ◌-◌, ◌≤◌, ◌<◌}
use native.Mathlib.Omega.{arith}
use native.Mathlib.Decide.{ℕ_discrete}
use lib.ListN.{length, get_or, set}
use lib.Seq.{get_or-set_same, get_or-set_other}
use lib.Bits.{bit_or}
use Rattle.plane.specs.TileSet.{bit}
use Rattle.plane.proofs.Lists.{get_d_tab}
use Rattle.bands.specs.Bands.{bands, joined_to, below_of, above_of}
use Rattle.bands.proofs.Bits.{or_left, or_right}

module _ (f : ℕ → ℕ) where
  pub joined_none : 0 ≡ joined_to f 0
  unfolding joined_to
  joined_none = refl

  pub joined_more : (n : ℕ) → bit_or (joined_to f n) (f n) ≡ joined_to f (suc n)
  unfolding joined_to
  joined_more n = refl

  joined_has : (n c e : ℕ) → c < n → bit (f c) e ≡ 1 → bit (joined_to f n) e ≡ 1
  unfolding joined_to
  joined_has zero c e l h = absurd (omega arith)
  joined_has (suc n) c e l h =
      elim (ℕ_discrete c n) [
        | yes q ↦ or_right (joined_to f n) (f n) e (rw q at h)
        | no q ↦ or_left (joined_to f n) (f n) e (joined_has n c e (omega arith) h)
      ]

  pub back_more : (l : List ℕ) (n b v : ℕ) → length l ≡ n → 0 < b → b ≤ n → ((k : ℕ) → b ≤ k → k < n → get_or l k 0 ≡ f k) → v ≡ f (b - 1)
      → (k : ℕ) → b - 1 ≤ k → k < n → get_or (set l (b - 1) v) k 0 ≡ f k
  back_more l n b v len some most old e k lo hi =
      elim (ℕ_discrete k (b - 1)) [
        | yes q ↦ rw q (get_or-set_same l (b - 1) v 0 (omega arith) ∙ e)
        | no q ↦ get_or-set_other l (b - 1) k v 0 q ∙ old k (omega arith) hi
      ]

pub below_has : (t : List ℕ) (b c e : ℕ) → c ≤ b → b < bands → bit (get_or t c 0) e ≡ 1 → bit (get_or (below_of t) b 0) e ≡ 1
unfolding below_of
below_has t b c e l h p =
    let f : ℕ → ℕ = λ c. get_or t c 0 in
    rw (get_d_tab (λ b. joined_to f (suc b)) 0 bands b h) (joined_has f (suc b) c e (omega arith) p)

pub above_has : (t : List ℕ) (b c e : ℕ) → b ≤ c → c < bands → bit (get_or t c 0) e ≡ 1 → bit (get_or (above_of t) b 0) e ≡ 1
unfolding above_of
above_has t b c e l h p =
    let f : ℕ → ℕ = λ k. get_or t (bands - suc k) 0 in
    let q : bands - suc (bands - suc c) ≡ c = omega arith in
    rw (get_d_tab (λ b. joined_to f (bands - b)) 0 bands b (omega arith)) (joined_has f (bands - b) (bands - suc c) e (omega arith) (rw q p))
