-- Lists of tiles as numbers.
--   count_most      five tiles at most
--   count_none, stands_none    none on the empty list
--   Proper v        each digit that counts stands for a tile
--   stands_means    on such a list a tile stands exactly where it is tile i of the list, for some i
--   tile_small      and each of its tiles is one of the nine
--   digit_next, digit_there, digit_set    digit by digit: the digits that are left, whether there are any, and the set of the tile for which
--                   a digit stands
use mathlib.Core.Path.{◌≡◌, refl, sym, ◌∙◌, ap}
use mathlib.Core.Logic.{◌↔◌}
use mathlib.Core.Bool.{true, false}
use Prim.Native.Nat.{ℕ, zero, suc, ◌+◌, ◌-◌, ◌/◌, ◌%◌, ◌^◌, ◌≤◌, ◌<◌}
use native.Mathlib.Omega.{arith}
use native.Mathlib.Decide.{dec_lt}
use native.Mathlib.Nat.{div-eq_of_lt, zero-div, le-div_iff_mul-le, div-div-eq-div-mul}
use borrow.Author.Tests.{le-leb, eqb-true, eq-eqb, ne_eqb}
use lib.Dec.{ltb, leb, eqb}
use lib.Pow.{pow-add}
use Rattle.plane.specs.Folds.{all_to, sum_to}
use Rattle.plane.specs.TileSet.{one_if, set_of}
use Rattle.plane.proofs.Logic.{both, le_means, lt_means, eq_means, iff_join, iff_turn}
use Rattle.plane.proofs.Folds.{any_means, any_none, all_at, sum_le}
use Rattle.plane.proofs.TileSet.{one_le}
use Rattle.edge.specs.TileList.{digit_in, count_in, tile_in, stands_in}

pub count_most : (v : ℕ) → count_in v ≤ 5
unfolding count_in
count_most v = sum_le (λ j. one_if (leb (16 ^ j) v)) 5 1 (λ j l. one_le (leb (16 ^ j) v))

pub count_none : count_in 0 ≡ 0
unfolding count_in sum_to
count_none = refl

pub stands_none : (t : ℕ) → stands_in 0 t ≡ false
unfolding stands_in
stands_none t = any_none (λ j. eqb (digit_in 0 j) (t + 1)) 5 (λ j l. ne_eqb (digit_in 0 j) (t + 1) (λ e. omega (arith, zero-div (16 ^ j), e)))

-- a digit counts where the number reaches it
reached : (v j : ℕ) → j < 5 → 16 ^ j ≤ v → j < count_in v
unfolding count_in sum_to
reached v zero l h = omega (arith, ap one_if (le-leb 1 v h))
reached v (suc zero) l h = omega (arith, ap one_if (le-leb 1 v (omega arith)), ap one_if (le-leb 16 v h))
reached v (suc (suc zero)) l h = omega (arith, ap one_if (le-leb 1 v (omega arith)), ap one_if (le-leb 16 v (omega arith)), ap one_if (le-leb 256 v h))
reached v (suc (suc (suc zero))) l h =
    omega (arith, ap one_if (le-leb 1 v (omega arith)), ap one_if (le-leb 16 v (omega arith)), ap one_if (le-leb 256 v (omega arith)), ap one_if (le-leb 4096 v h))
reached v (suc (suc (suc (suc zero)))) l h =
    omega (
      arith,
      ap one_if (le-leb 1 v (omega arith)),
      ap one_if (le-leb 16 v (omega arith)),
      ap one_if (le-leb 256 v (omega arith)),
      ap one_if (le-leb 4096 v (omega arith)),
      ap one_if (le-leb 65536 v h),
    )
reached v (suc (suc (suc (suc (suc j))))) l h = absurd (omega arith)

counts : (v j : ℕ) → j < 5 → 0 < digit_in v j → j < count_in v
counts v j l h =
    elim (dec_lt v (16 ^ j)) [
      | yes s ↦ absurd (omega (arith, div-eq_of_lt s))
      | no s ↦ reached v j l (omega arith)
    ]

pub record Proper (v : ℕ) : Type 0 where
  pub from_one : (j : ℕ) → j < count_in v → 0 < digit_in v j
  pub to_nine : (j : ℕ) → j < count_in v → digit_in v j ≤ 9

module _ (v : ℕ) (p : Proper v) where
  pub stands_means : (t : ℕ) → (stands_in v t ≡ true) ↔ ((i : ℕ) × (i < count_in v) × (tile_in v i ≡ t))
  unfolding stands_in tile_in
  stands_means t = (there, λ x. back x.0 x.1 x.2)
    where
      there : stands_in v t ≡ true → (i : ℕ) × (i < count_in v) × (tile_in v i ≡ t)
      there h =
          let x = (any_means (λ j. eqb (digit_in v j) (t + 1)) 5).0 h in
          let e : digit_in v x.0 ≡ t + 1 = eqb-true (digit_in v x.0) (t + 1) x.2 in
          let l : x.0 < count_in v = counts v x.0 x.1 (omega arith) in
          let r : count_in v - 1 - (count_in v - 1 - x.0) ≡ x.0 = omega arith in
          (count_in v - 1 - x.0, omega arith, ap (λ (j : ℕ). digit_in v j - 1) r ∙ omega arith)

      back : (i : ℕ) → i < count_in v → tile_in v i ≡ t → stands_in v t ≡ true
      back i l e =
          let j : ℕ = count_in v - 1 - i in
          let m : count_in v - 1 - i < count_in v = omega arith in
          (any_means (λ j. eqb (digit_in v j) (t + 1)) 5).1
          (count_in v - 1 - i, omega (arith, count_most v), eq-eqb (digit_in v (count_in v - 1 - i)) (t + 1) (omega (arith, p.from_one (count_in v - 1 - i) m)))

  pub tile_small : (i : ℕ) → i < count_in v → tile_in v i < 9
  unfolding tile_in
  tile_small i l = let m : count_in v - 1 - i < count_in v = omega arith in omega (arith, p.to_nine (count_in v - 1 - i) m, p.from_one (count_in v - 1 - i) m)

-- ---- digit by digit
sixteens : (j : ℕ) → 0 < 16 ^ j
sixteens zero = omega arith
sixteens (suc j) = omega (arith, pow-add 16 j 1, sixteens j)

pub digit_next : (v j : ℕ) → v / 16 ^ j / 16 ≡ v / 16 ^ (j + 1)
digit_next v j = div-div-eq-div-mul v (16 ^ j) 16 ∙ ap (λ (p : ℕ). v / p) (sym (pow-add 16 j 1))

pub digit_there : (v j : ℕ) → ltb 0 (v / 16 ^ j) ≡ leb (16 ^ j) v
digit_there v j = both (ltb 0 (v / 16 ^ j)) (leb (16 ^ j) v) (iff_join (lt_means 0 (v / 16 ^ j)) (iff_join reaches (iff_turn (le_means (16 ^ j) v))))
  where
    reaches : (0 < v / 16 ^ j) ↔ (16 ^ j ≤ v)
    reaches = let e = le-div_iff_mul-le {k = 16 ^ j} {x = 1} {y = v} (sixteens j) in (λ h. omega (arith, e.0 h), λ h. e.1 (omega arith))

digit_sets : all_to (λ d. eqb (2 ^ d / 2 % 512) (set_of (λ t. eqb d (t + 1)) 9)) 16 ≡ true
unfolding all_to set_of
digit_sets = refl

pub digit_set : (d : ℕ) → d < 16 → 2 ^ d / 2 % 512 ≡ set_of (λ t. eqb d (t + 1)) 9
digit_set d h =
    (eq_means (2 ^ d / 2 % 512) (set_of (λ t. eqb d (t + 1)) 9)).0 (all_at (λ d. eqb (2 ^ d / 2 % 512) (set_of (λ t. eqb d (t + 1)) 9)) 16 d digit_sets h)
