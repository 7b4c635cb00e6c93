use mathlib.Core.Path.{◌≡◌, refl, sym, ap}
use mathlib.Core.List.{List, [], ◌∷◌}
use Prim.Native.Nat.{ℕ}
use lib.ListN.{length, get_or}
use borrow.Author.Rules.{rules}
use Rattle.plane.specs.Lists.{tab_from}
use Rattle.plane.proofs.Lists.{tab_all}
use Rattle.drawn.proofs.matrix_words.Goals as goal

-- nine numbers, written out
nine : (l : List ℕ) → length l ≡ 9
    → get_or l 0 0 ∷ get_or l 1 0 ∷ get_or l 2 0 ∷ get_or l 3 0 ∷ get_or l 4 0 ∷ get_or l 5 0 ∷ get_or l 6 0 ∷ get_or l 7 0 ∷ get_or l 8 0 ∷ [] ≡ l
unfolding tab_from
nine l e = sym (tab_all (λ k. get_or l k 0) 0 9 l e (λ k b. refl))

-- the array of the cells has nine, as its type says
pub returns : goal.returns
returns c =
    let m = c.args.m in
    let h : length m.cells ≡ 9 = search rules in
    ap (λ (l : List ℕ). 0 ∷ 0 ∷ 0 ∷ m.rows ∷ m.columns ∷ l) (nine m.cells h)
