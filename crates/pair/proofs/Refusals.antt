-- What the pair answer's number, region and ring say, for any two regions. The first region is checked wholly before the second; a region is refused
-- with the lowest number that it breaks anywhere, and the first ring that breaks it.
--   refusal_means           the answer has number n (not 0), region g and ring r exactly when they refuse the pair (`RefusedPair`)
--   refused_means           the answer is the refusal that names them, with every other field 0, exactly when that is so
--   answered_named          an answer that is no refusal has number, region and ring 0 (when that is: proofs/Laws, `number_means`)
--   answered_or_refused     there is no third case
--   number_most             the number is one of 0 to 7, and no other (that each of them comes: outlines/proofs/Numbers);  number_not_withheld  so it
--                           is never the one that was taken out
use mathlib.Core.Path.{◌≡◌, refl, sym, ◌∙◌, ap}
use mathlib.Core.Logic.{◌↔◌, ◌⊎◌, ◌≢◌, inl, inr, ⊎_elim}
use Prim.Native.Nat.{ℕ, ◌≤◌}
use native.Mathlib.Omega.{arith}
use Rattle.region.specs.Check.{Checked}
use Rattle.region.specs.Check.{Accepted, Refused}
use Rattle.region.specs.Refusals.{withheld}
use Rattle.region.specs.Region.{Region}
use Rattle.region.specs.Rules.{KeepsRules}
use Rattle.region.specs.Check.{check_of}
use Rattle.region.proofs.Keeps.{broken_number}
use Rattle.region.proofs.Check as check
use Rattle.pair.specs.Answer.{Answer}
use Rattle.pair.specs.Answer.{refused_with, given, pair_of}
use Rattle.pair.specs.Meaning.{Answered, RefusedPair}
use Rattle.pair.proofs.Laws.{number_means, fields_are, some_tile}

module _ (first second : Region) where
  refusal_is : (n g r : ℕ) → RefusedPair first second n g r → pair_of first second ≡ refused_with n g r
  unfolding pair_of
  refusal_is n g r (inl w) = rw ((check.refused_means first n r).1 w.1, w.0) refl
  refusal_is n g r (inr w) = rw ((check.accepted_means first).1 w.1, (check.refused_means second n r).1 w.2, w.0) refl

  pub answered_or_refused : Answered first second ⊎ ((n : ℕ) × (g : ℕ) × (r : ℕ) × RefusedPair first second n g r)
  answered_or_refused = one (check_of first) refl
    where
      two : KeepsRules first → (c : Checked) → check_of second ≡ c → Answered first second ⊎ ((n : ℕ) × (g : ℕ) × (r : ℕ) × RefusedPair first second n g r)
      two k Accepted e = inl (record { first_kept = k; second_kept = (check.accepted_means second).0 e })
      two k (Refused n r) e = inr (n, 2, r, inr (refl, k, (check.refused_means second n r).0 e))

      one : (c : Checked) → check_of first ≡ c → Answered first second ⊎ ((n : ℕ) × (g : ℕ) × (r : ℕ) × RefusedPair first second n g r)
      one Accepted e = two ((check.accepted_means first).0 e) (check_of second) refl
      one (Refused n r) e = inr (n, 1, r, inl (refl, (check.refused_means first n r).0 e))

  pub answered_named : Answered first second → ((pair_of first second).number ≡ 0) × ((pair_of first second).region ≡ 0) × ((pair_of first second).ring ≡ 0)
  unfolding given
  answered_named a = rw (fields_are first second a) (refl, refl, refl)

  pub refusal_means : (n g r : ℕ) → n ≢ 0
      → (((pair_of first second).number ≡ n) × ((pair_of first second).region ≡ g) × ((pair_of first second).ring ≡ r)) ↔ RefusedPair first second n g r
  refusal_means n g r some = (there answered_or_refused, λ w. rw (refusal_is n g r w) (refl, refl, refl))
    where
      there : Answered first second ⊎ ((m : ℕ) × (h : ℕ) × (q : ℕ) × RefusedPair first second m h q)
          → ((pair_of first second).number ≡ n) × ((pair_of first second).region ≡ g) × ((pair_of first second).ring ≡ r) → RefusedPair first second n g r
      there (inl a) e = absurd (some (sym e.0 ∙ (answered_named a).0))
      there (inr x) e =
          let is = refusal_is x.0 x.1 x.2 x.3 in
          let n-is : x.0 ≡ n = sym (ap (λ (a : Answer). a.number) is) ∙ e.0 in
          let g-is : x.1 ≡ g = sym (ap (λ (a : Answer). a.region) is) ∙ e.1 in
          let r-is : x.2 ≡ r = sym (ap (λ (a : Answer). a.ring) is) ∙ e.2 in
          rw (n-is, g-is, r-is) at x.3

  pub refused_means : (n g r : ℕ) → (pair_of first second ≡ refused_with n g r) ↔ RefusedPair first second n g r
  unfolding given
  refused_means n g r = (there, refusal_is n g r)
    where
      -- an answer has a tile, so it is no refusal, not even with number 0
      some : pair_of first second ≡ refused_with n g r → n ≢ 0
      some e z =
          let a = (number_means first second).0 (ap (λ (a : Answer). a.number) e ∙ z) in
          (some_tile first second a).0 (sym (ap (λ (a : Answer). a.first) (fields_are first second a)) ∙ ap (λ (a : Answer). a.first) e)

      there : pair_of first second ≡ refused_with n g r → RefusedPair first second n g r
      there e = (refusal_means n g r (some e)).0 (rw e (refl, refl, refl))

  pub number_most : (pair_of first second).number ≤ 7
  number_most = ⊎_elim (λ a. omega (arith, (answered_named a).0)) refused answered_or_refused
    where
      low : (n g r : ℕ) → RefusedPair first second n g r → n ≤ 7
      low n g r (inl w) = (broken_number first n r w.1.broken).1
      low n g r (inr w) = (broken_number second n r w.2.broken).1

      refused : (n : ℕ) × (g : ℕ) × (r : ℕ) × RefusedPair first second n g r → (pair_of first second).number ≤ 7
      refused x = rw (refusal_is x.0 x.1 x.2 x.3) (low x.0 x.1 x.2 x.3)

  pub number_not_withheld : (pair_of first second).number ≢ withheld
  number_not_withheld e = omega (arith, number_most, e)
