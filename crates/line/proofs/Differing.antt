-- What ` differ` says. That it is never said: lines/proofs/Differ, `never_differs`.
--   differ_means      two answers do not differ exactly where rows, columns and the nine cells are the same
--   differ_is         the test on the lists of cells at once is that on each cell
use mathlib.Core.Path.{◌≡◌, refl, sym, ◌∙◌, ap}
use mathlib.Core.List.{List}
use mathlib.Core.Logic.{◌↔◌}
use mathlib.Core.Bool.{Bool, true, false, not, ◌||◌}
use Prim.Native.Nat.{ℕ, ◌<◌}
use native.Mathlib.Omega.{arith}
use Rattle.std.proofs.Math.Bool.{or_assoc}
use Rattle.std.proofs.lemmas.Grind.{same_number_lists}
use borrow.Author.Tests.{eq-eqb, eqb-true}
use lib.Dec.{eqb}
use lib.ListN.{length, get_or}
use lib.Pointwise.{pointwise}
use Rattle.std.proofs.lemmas.Slice.Eq.{slice_eq-Decides}
use Rattle.std.proofs.lemmas.Bool.Decides.{Decides-eqb}
use Rattle.plane.specs.Folds.{any_to}
use Rattle.plane.proofs.Folds.{any_none, any_means}
use Rattle.plane.proofs.Logic.{never, clash, is_false, is_true}
use Rattle.pair.specs.Answer.{Answer}
use Rattle.drawn.specs.Drawn.{DrawnMatrix}
use Rattle.line.specs.Differ.{differ}

neither : (x y z : Bool) → (x || (y || z) ≡ false) ↔ ((x ≡ false) × (y ≡ false) × (z ≡ false))
neither true y z = (λ h. never (sym h), λ h. never (sym h.0))
neither false true z = (λ h. never (sym h), λ h. never (sym h.1))
neither false false z = (λ h. (refl, refl, h), λ h. h.2)

same_means : (m n : ℕ) → (not (eqb m n) ≡ false) ↔ (m ≡ n)
same_means m n = (λ h. go (eqb m n) refl h, λ e. rw (eq-eqb m n e) refl)
  where
    go : (t : Bool) → eqb m n ≡ t → not t ≡ false → m ≡ n
    go true e h = eqb-true m n e
    go false e h = never (sym h)

abbrev other_at : Answer → DrawnMatrix → ℕ → Bool
other_at a d k = not (eqb (get_or a.cells k 0) (get_or d.cells k 0))

pub differ_means : (a : Answer) (d : DrawnMatrix) → (differ a d ≡ false)
    ↔ ((a.rows ≡ d.rows) × (a.columns ≡ d.columns) × ((k : ℕ) → k < 9 → get_or a.cells k 0 ≡ get_or d.cells k 0))
unfolding differ
differ_means a d =
    let parts = neither (not (eqb a.rows d.rows)) (not (eqb a.columns d.columns)) (any_to (other_at a d) 9) in (
      λ h. let p = parts.0 h in (
        (same_means a.rows d.rows).0 p.0,
        (same_means a.columns d.columns).0 p.1,
        λ k l. (same_means (get_or a.cells k 0) (get_or d.cells k 0)).0 (is_false (other_at a d k) (λ e. clash (any_to (other_at a d) 9) ((any_means (other_at a d) 9).1 (k, l, e)) p.2)),
      ),
      λ h. parts.1 (
        (same_means a.rows d.rows).1 h.0,
        (same_means a.columns d.columns).1 h.1,
        any_none (other_at a d) 9 (λ k l. (same_means (get_or a.cells k 0) (get_or d.cells k 0)).1 (h.2 k l)),
      ),
    )

-- ---- the cells at once
abbrev other : List ℕ → List ℕ → ℕ → Bool
other xs ys k = not (eqb (get_or xs k 0) (get_or ys k 0))

cells_is : (xs ys : List ℕ) → length xs ≡ 9 → length ys ≡ 9 → not (pointwise eqb xs ys) ≡ any_to (other xs ys) 9
cells_is xs ys m n = go (pointwise eqb xs ys) refl
  where
    go : (t : Bool) → pointwise eqb xs ys ≡ t → not t ≡ any_to (other xs ys) 9
    go true e =
        let same : xs ≡ ys = (slice_eq-Decides Decides-eqb xs ys true (sym e)).0 refl in
        sym (any_none (other xs ys) 9 (λ k h. (same_means (get_or xs k 0) (get_or ys k 0)).1 (ap (λ (l : List ℕ). get_or l k 0) same)))
    go false e =
        sym (is_true (any_to (other xs ys) 9) (λ f. never (sym e ∙ (slice_eq-Decides Decides-eqb xs ys (pointwise eqb xs ys) refl).1 (alike f))))
      where
        alike : any_to (other xs ys) 9 ≡ false → xs ≡ ys
        alike f =
            same_number_lists xs ys (m ∙ sym n)
            (λ k h. (same_means (get_or xs k 0) (get_or ys k 0)).0 (is_false (other xs ys k) (λ d. clash (any_to (other xs ys) 9) ((any_means (other xs ys) 9).1 (k, omega (arith, h, m), d)) f)))

pub differ_is : (a : Answer) (d : DrawnMatrix) → length a.cells ≡ 9 → length d.cells ≡ 9 → (t : Bool) → t ≡ not (pointwise eqb a.cells d.cells)
    → ((not (eqb a.rows d.rows) || not (eqb a.columns d.columns)) || t) ≡ differ a d
unfolding differ
differ_is a d m n t e = rw (e, cells_is a.cells d.cells m n) (or_assoc (not (eqb a.rows d.rows)) (not (eqb a.columns d.columns)) _)
