-- What one look at each number and each ring tells of the rules.
--   outside_means                 some number of the list is out of range exactly where some ring breaks rule 4
--   none_outside, none_faulty     where none is, rule 4 is kept; where no ring is faulty, all rules are
use mathlib.Core.Path.{◌≡◌}
use mathlib.Core.Logic.{◌↔◌, ◌⊎◌, inl, inr, ⊎_elim}
use mathlib.Core.Bool.{true, false, ◌||◌}
use mathlib.Core.List.{List}
use Prim.Native.Nat.{ℕ, ◌+◌, ◌-◌, ◌*◌, ◌/◌, ◌%◌, ◌<◌}
use native.Mathlib.Omega.{arith}
use native.Mathlib.Decide.{ℕ_discrete}
use lib.ListN.{length, get_or}
use lib.IntN.{ℤ, pos}
use Rattle.plane.proofs.Logic.{clash}
use Rattle.region.specs.Region.{Region, start_of}
use Rattle.region.specs.Rules.{Outside, Breaks, Keeps, KeepsRules}
use Rattle.region.specs.Check.{some_outside, breaks_at, faulty_at, some_faulty}
use Rattle.region.proofs.Search.{or_false, none_any}
use Rattle.region.proofs.Ends.{ring_of}
use Rattle.region.proofs.Outside.{some_outside_means}
use Rattle.region.proofs.Keeps.{keeps_more, Sized, sized, ring_room}
use Rattle.region.proofs.Tests.{passes_keeps}

-- ---- rule 4
module _ {R : Region} (whole : Sized R) where
  abbrev xs : List ℤ
  xs = R.coordinates

  -- number i of the list is x or y of vertex i / 2
  of_vertex : (i h : ℕ) → i / 2 ≡ h → Outside (get_or xs i (pos 0)) → Outside (get_or xs (2 * h) (pos 0)) ⊎ Outside (get_or xs (2 * h + 1) (pos 0))
  of_vertex i h e o =
      elim (ℕ_discrete (i % 2) 0) [
        | yes z ↦ (let q : i ≡ 2 * h = omega arith in inl (rw q at o))
        | no z ↦ (let q : i ≡ 2 * h + 1 = omega arith in inr (rw q at o))
      ]

  broken_at : (i : ℕ) → i < length xs → Outside (get_or xs i (pos 0)) → (r : ℕ) × Breaks R 4 r
  broken_at i l o =
      let at = ring_of R.ends (length R.ends) (i / 2) (omega (arith, whole.listed)) in
      let r = at.0 in
      let k = i / 2 - start_of R.ends r in
      (r, (at.1, (k, omega (arith, at.2, at.3), of_vertex i (start_of R.ends r + k) (omega (arith, at.2)) o)))

  pub outside_means : (some_outside xs ≡ true) ↔ ((r : ℕ) × Breaks R 4 r)
  outside_means = (λ e. let o = (some_outside_means xs).0 e in broken_at o.0 o.1 o.2, λ b. (some_outside_means xs).1 (number_at b.0 b.1))
    where
      number_at : (r : ℕ) → Breaks R 4 r → (i : ℕ) × (i < length xs) × Outside (get_or xs i (pos 0))
      number_at r b =
          let room = ring_room whole r b.0 in
          let k = b.1.0 in
          ⊎_elim (λ o. (2 * (start_of R.ends r + k), omega (arith, b.1.1), o)) (λ o. (2 * (start_of R.ends r + k) + 1, omega (arith, b.1.1), o)) b.1.2

pub none_outside : {R : Region} → Keeps 3 R → some_outside R.coordinates ≡ false → Keeps 4 R
none_outside {R} three e = keeps_more three (λ r b. clash (some_outside R.coordinates) ((outside_means (sized three)).1 (r, b)) e)

-- ---- rules 5 to 7
module _ {R : Region} (four : Keeps 4 R) (none : some_faulty R ≡ false) where
  passed : (r : ℕ) → r < length R.ends → ((breaks_at R 5 r ≡ false) × (breaks_at R 6 r ≡ false)) × (breaks_at R 7 r ≡ false)
  unfolding some_faulty faulty_at
  passed r l =
      let p = or_false (breaks_at R 5 r || breaks_at R 6 r) (breaks_at R 7 r) (none_any _ (length R.ends) r none l) in
      (or_false (breaks_at R 5 r) (breaks_at R 6 r) p.0, p.1)

  pub none_faulty : KeepsRules R
  none_faulty =
      let five = passes_keeps R 4 (omega arith) four (λ r l. (passed r l).0.0) in
      let six = passes_keeps R 5 (omega arith) five (λ r l. (passed r l).0.1) in
      passes_keeps R 6 (omega arith) six (λ r l. (passed r l).1)
