-- Laws of one refusal after another.
--   or_else_first    the first where it is not 0;  or_else_next  the next where it is
--   or_else_none     0 exactly where both are 0
--   number_some      no refusal has number 0;  number_if_none  so its number is 0 exactly where the test finds nothing
--   number_not_withheld    none has the number that was taken out
--   first_number_none    no number exactly where all are 0
--   Zeros f n k      the first k of n numbers are 0, as a search from the front goes through them;  zeros_none, zeros_more  before the first
--                    turn, after one turn more;  zeros_hit, zeros_all  a number that is not 0, and none
use mathlib.Core.Path.{◌≡◌, refl, sym, ◌∙◌, ap}
use mathlib.Core.Logic.{◌↔◌, ◌≢◌}
use mathlib.Core.Bool.{Bool, true, false}
use Prim.Native.Nat.{ℕ, zero, suc, ◌+◌, ◌≤◌, ◌<◌}
use native.Mathlib.Omega.{arith}
use native.Mathlib.Decide.{ℕ_discrete}
use borrow.Author.Count.{below_none, below_more}
use Rattle.plane.proofs.Logic.{never}
use Rattle.region.specs.declared.refusals.Refusal.{Refusal}
use Rattle.region.specs.declared.refusals.Refusal.TheVariants.{RingCount, RingLength, ListSize, CoordinateRange, VertexRepeated, EdgesMeet, NotClockwise, SlotNumber, SlotEmpty, BufferShort, SheetLists, SheetDamaged, CardHeader, CardParcels, CardVertices, NotTwoParcels, PairsOdd}
use Rattle.region.specs.Refusals.{number, number_if, or_else, first_number, withheld}

pub or_else_first : (a b : ℕ) → a ≢ 0 → or_else a b ≡ a
or_else_first zero b h = absurd (h refl)
or_else_first (suc a) b h = refl

pub or_else_next : (a b : ℕ) → a ≡ 0 → or_else a b ≡ b
or_else_next zero b h = refl
or_else_next (suc a) b h = absurd (omega arith)

pub or_else_none : (a b : ℕ) → (or_else a b ≡ 0) ↔ ((a ≡ 0) × (b ≡ 0))
or_else_none zero b = (λ e. (refl, e), λ p. p.1)
or_else_none (suc a) b = (λ e. absurd (omega arith), λ p. absurd (omega (arith, p.0)))

pub number_some : (k : Refusal) → number k ≢ 0
number_some RingCount e = omega arith
number_some RingLength e = omega arith
number_some ListSize e = omega arith
number_some CoordinateRange e = omega arith
number_some VertexRepeated e = omega arith
number_some EdgesMeet e = omega arith
number_some NotClockwise e = omega arith
number_some SlotNumber e = omega arith
number_some SlotEmpty e = omega arith
number_some BufferShort e = omega arith
number_some SheetLists e = omega arith
number_some SheetDamaged e = omega arith
number_some CardHeader e = omega arith
number_some CardParcels e = omega arith
number_some CardVertices e = omega arith
number_some NotTwoParcels e = omega arith
number_some PairsOdd e = omega arith

pub number_not_withheld : (k : Refusal) → number k ≢ withheld
number_not_withheld RingCount e = omega arith
number_not_withheld RingLength e = omega arith
number_not_withheld ListSize e = omega arith
number_not_withheld CoordinateRange e = omega arith
number_not_withheld VertexRepeated e = omega arith
number_not_withheld EdgesMeet e = omega arith
number_not_withheld NotClockwise e = omega arith
number_not_withheld SlotNumber e = omega arith
number_not_withheld SlotEmpty e = omega arith
number_not_withheld BufferShort e = omega arith
number_not_withheld SheetLists e = omega arith
number_not_withheld SheetDamaged e = omega arith
number_not_withheld CardHeader e = omega arith
number_not_withheld CardParcels e = omega arith
number_not_withheld CardVertices e = omega arith
number_not_withheld NotTwoParcels e = omega arith
number_not_withheld PairsOdd e = omega arith

pub number_if_none : (t : Bool) (k : Refusal) → (number_if t k ≡ 0) ↔ (t ≡ false)
number_if_none true k = (λ e. absurd (number_some k e), λ e. never (sym e))
number_if_none false k = (λ e. refl, λ e. refl)

-- ---- the first of many
all_zero : (f : ℕ → ℕ) (n : ℕ) → first_number f n ≡ 0 → (k : ℕ) → k < n → f k ≡ 0
unfolding first_number
all_zero f zero h k l = absurd (omega arith)
all_zero f (suc n) h k l =
    let p = (or_else_none (first_number f n) (f n)).0 h in
    elim (ℕ_discrete k n) [ yes e ↦ ap f e ∙ p.1 | no e ↦ all_zero f n p.0 k (omega arith) ]

none_first : (f : ℕ → ℕ) (n : ℕ) → ((k : ℕ) → k < n → f k ≡ 0) → first_number f n ≡ 0
unfolding first_number
none_first f zero h = refl
none_first f (suc n) h = (or_else_none (first_number f n) (f n)).1 (none_first f n (λ k l. h k (omega arith)), h n (omega arith))

pub first_number_none : (f : ℕ → ℕ) (n : ℕ) → (first_number f n ≡ 0) ↔ ((k : ℕ) → k < n → f k ≡ 0)
first_number_none f n = (all_zero f n, none_first f n)

first_hit : (f : ℕ → ℕ) (n k : ℕ) → k < n → ((j : ℕ) → j < k → f j ≡ 0) → f k ≢ 0 → first_number f n ≡ f k
unfolding first_number
first_hit f zero k l z h = absurd (omega arith)
first_hit f (suc n) k l z h =
    elim (ℕ_discrete k n) [
      | yes e ↦ or_else_next (first_number f n) (f n) (none_first f n (λ j b. z j (omega arith))) ∙ ap f (sym e)
      | no e ↦
          let q = first_hit f n k (omega arith) z h in
          or_else_first (first_number f n) (f n) (λ x. h (sym q ∙ x)) ∙ q
    ]

abbrev pub Zeros : (ℕ → ℕ) → (n k : ℕ) → Type 0
Zeros f n k = (k ≤ n) × ((j : ℕ) → j < k → f j ≡ 0)

module _ (f : ℕ → ℕ) (n : ℕ) where
  pub zeros_none : Zeros f n 0
  zeros_none = (omega arith, below_none _)

  pub zeros_more : (k : ℕ) → k < n → Zeros f n k → f k ≡ 0 → Zeros f n (k + 1)
  zeros_more k l z e = (omega arith, below_more _ _ z.1 e)

  pub zeros_hit : (k : ℕ) → k < n → Zeros f n k → f k ≢ 0 → f k ≡ first_number f n
  zeros_hit k l z h = sym (first_hit f n k l z.1 h)

  pub zeros_all : (k : ℕ) → n ≤ k → Zeros f n k → 0 ≡ first_number f n
  zeros_all k l z = sym ((first_number_none f n).1 (λ j b. z.1 j (omega arith)))
