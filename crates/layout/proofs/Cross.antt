-- The row and the column of a slot, written cell by cell.
--   cross_tab     once every slot has had its turn: the table with that row and column replaced
use mathlib.Core.Path.{◌≡◌, refl, sym, ap, ◌∙◌, subst}
use mathlib.Core.Logic.{◌≢◌, ◌⊎◌, inl, inr, ⊎_elim}
use mathlib.Core.Bool.{◌||◌}
use mathlib.Core.List.{List}
use Prim.Native.Nat.{ℕ, zero, suc, ◌+◌, ◌*◌, ◌/◌, ◌%◌, ◌<◌, ◌≤◌}
use native.Mathlib.Omega.{arith}
use native.Mathlib.Nat.{not-suc-le-zero}
use native.Mathlib.Decide.{ℕ_discrete}
use lib.Dec.{eqb}
use lib.ListN.{length, get_or, set, length-set}
use lib.Seq.{get_or-set_same, get_or-set_other}
use borrow.Author.Tests.{eq-eqb, ne_eqb}
use Rattle.plane.specs.Choice.{pick}
use Rattle.plane.specs.Folds.{turns}
use Rattle.plane.specs.Lists.{tab}
use Rattle.plane.proofs.Lists.{tab_all}
use Rattle.layout.specs.Sheet.{slots, relations_length}
use Rattle.layout.specs.Steps.{crossed}

module _ (cell : ℕ → ℕ → ℕ) (i : ℕ) (il : i < slots) where
  length_cross : (m : ℕ) (l : List ℕ) → length (turns (crossed cell i) m l) ≡ length l
  unfolding turns
  length_cross zero l = refl
  length_cross (suc m) l = simp length-set (length_cross m l)

  -- one turn: elsewhere, at the column's place, at the row's
  turn_miss : (l : List ℕ) (m j : ℕ) → j ≢ slots * m + i → j ≢ slots * i + m → get_or (crossed cell i m l) j 0 ≡ get_or l j 0
  turn_miss l m j a b = get_or-set_other (set l (slots * i + m) (cell i m)) (slots * m + i) j (cell m i) 0 a ∙ get_or-set_other l (slots * i + m) j (cell i m) 0 b

  turn_column : (l : List ℕ) (m : ℕ) → length l ≡ relations_length → m < slots → get_or (crossed cell i m l) (slots * m + i) 0 ≡ cell m i
  turn_column l m n ml = get_or-set_same (set l (slots * i + m) (cell i m)) (slots * m + i) (cell m i) 0 (simp length-set (omega arith))

  turn_row : (l : List ℕ) (m : ℕ) → length l ≡ relations_length → m < slots → get_or (crossed cell i m l) (slots * i + m) 0 ≡ cell i m
  turn_row l m n ml =
      elim (ℕ_discrete i m) [
        | yes e ↦ subst (λ (z : ℕ). get_or (crossed cell i z l) (slots * i + z) 0 ≡ cell i z) e (turn_column l i n il)
        | no e ↦
            get_or-set_other (set l (slots * i + m) (cell i m)) (slots * m + i) (slots * i + m) (cell m i) 0 (λ q. e (omega (arith, q)))
            ∙ get_or-set_same l (slots * i + m) (cell i m) 0 (omega arith)
      ]

  -- a cell in neither the row nor the column stays
  cross_miss : (m p q : ℕ) (l : List ℕ) → m ≤ slots → p < slots → q < slots → p ≢ i → q ≢ i
      → get_or (turns (crossed cell i) m l) (slots * p + q) 0 ≡ get_or l (slots * p + q) 0
  unfolding turns
  cross_miss zero p q l ml pl ql a b = refl
  cross_miss (suc m) p q l ml pl ql a b =
      turn_miss (turns (crossed cell i) m l) m (slots * p + q) (λ e. b (omega (arith, e))) (λ e. a (omega (arith, e)))
      ∙ cross_miss m p q l (omega arith) pl ql a b

  -- a cell of the row or the column that has had its turn is right
  cross_hit : (m p q : ℕ) (l : List ℕ) → length l ≡ relations_length → m ≤ slots → p < slots → q < slots → ((p ≡ i) × (q < m)) ⊎ ((q ≡ i) × (p < m))
      → get_or (turns (crossed cell i) m l) (slots * p + q) 0 ≡ cell p q
  unfolding turns
  cross_hit zero p q l n ml pl ql h = absurd (⊎_elim (λ w. not-suc-le-zero w.1) (λ w. not-suc-le-zero w.1) h)
  cross_hit (suc m) p q l n ml pl ql h =
      let r = turns (crossed cell i) m l in
      let k : length r ≡ relations_length = length_cross m l ∙ n in
      let ih = cross_hit m p q l n (omega arith) pl ql in
      elim (ℕ_discrete (slots * p + q) (slots * m + i)) [
        | yes e ↦
            let a : p ≡ m = omega arith in
            let b : q ≡ i = omega arith in
            ap (λ (z : ℕ). get_or (crossed cell i m r) z 0) e ∙ turn_column r m k (omega arith) ∙ ap (λ (z : ℕ). cell z i) (sym a) ∙ ap (cell p) (sym b)
        | no e ↦
            elim (ℕ_discrete (slots * p + q) (slots * i + m)) [
              | yes f ↦
                  let a : p ≡ i = omega arith in
                  let b : q ≡ m = omega arith in
                  ap (λ (z : ℕ). get_or (crossed cell i m r) z 0) f ∙ turn_row r m k (omega arith) ∙ ap (λ (z : ℕ). cell z m) (sym a) ∙ ap (cell p) (sym b)
              | no f ↦
                  turn_miss r m (slots * p + q) e f
                  ∙ ih (⊎_elim
                  (λ w. inl (w.0, (let g : q ≢ m = (λ z. f (omega (arith, z, w.0))) in omega (arith, w.1, g))))
                  (λ w. inr (w.0, (let g : p ≢ m = (λ z. e (omega (arith, z, w.0))) in omega (arith, w.1, g)))) h)
            ]
      ]

  pub cross_tab : (l : List ℕ) → length l ≡ relations_length
      → turns (crossed cell i) slots l ≡ tab (λ k. pick (eqb (k / slots) i || eqb (k % slots) i) (cell (k / slots) (k % slots)) (get_or l k 0)) relations_length
  cross_tab l n =
      tab_all (λ k. pick (eqb (k / slots) i || eqb (k % slots) i) (cell (k / slots) (k % slots)) (get_or l k 0)) 0 relations_length (turns (crossed cell i) slots l) (length_cross slots l ∙ n)
      (λ k b. let e : slots * (k / slots) + k % slots ≡ k = omega arith in
      ap (λ (z : ℕ). get_or (turns (crossed cell i) slots l) z 0) (sym e) ∙ at (k / slots) (k % slots) (omega arith) (omega arith)
      ∙ ap (λ (z : ℕ). pick (eqb (k / slots) i || eqb (k % slots) i) (cell (k / slots) (k % slots)) (get_or l z 0)) e)
    where
      at : (p q : ℕ) → p < slots → q < slots
          → get_or (turns (crossed cell i) slots l) (slots * p + q) 0 ≡ pick (eqb p i || eqb q i) (cell p q) (get_or l (slots * p + q) 0)
      at p q pl ql =
          elim (ℕ_discrete p i) [
            | yes e ↦ cross_hit slots p q l n (omega arith) pl ql (inl (e, ql)) ∙ simp (eq-eqb p i e)
            | no e ↦
                elim (ℕ_discrete q i) [
                  | yes f ↦ cross_hit slots p q l n (omega arith) pl ql (inr (f, pl)) ∙ simp (ne_eqb p i e, eq-eqb q i f)
                  | no f ↦ cross_miss slots p q l (omega arith) pl ql e f ∙ simp (ne_eqb p i e, ne_eqb q i f)
                ]
          ]
