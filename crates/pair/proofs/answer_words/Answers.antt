use mathlib.Core.Path.{◌≡◌, refl, sym, ap}
use mathlib.Core.List.{List, ◌∷◌, ◌++◌}
use Prim.Native.Nat.{ℕ}
use lib.ListN.{length, get_or}
use borrow.Author.Rules.{rules}
use Rattle.plane.specs.Lists.{tab_from}
use Rattle.plane.proofs.Lists.{tab_all}
use Rattle.pair.proofs.answer_words.Goals as goal
use Rattle.pair.proofs.answer_words.Goals.{Start}

-- nine numbers, written out
nine : (l rest : List ℕ) → length l ≡ 9
    → get_or l 0 0 ∷ get_or l 1 0 ∷ get_or l 2 0 ∷ get_or l 3 0 ∷ get_or l 4 0 ∷ get_or l 5 0 ∷ get_or l 6 0 ∷ get_or l 7 0 ∷ get_or l 8 0 ∷ rest ≡ l ++ rest
unfolding tab_from
nine l rest e = ap (λ (m : List ℕ). m ++ rest) (sym (tab_all (λ k. get_or l k 0) 0 9 l e (λ k b. refl)))

-- the array of the cells has nine, as its type says
pub returns : goal.returns
returns c =
    let a = c.args.a in
    let h : length a.matrix.cells ≡ 9 = search rules in
    ap (λ (l : List ℕ). 0 ∷ 0 ∷ 0 ∷ a.first ∷ a.second ∷ a.matrix.rows ∷ a.matrix.columns ∷ l) (nine a.matrix.cells _ h)
