-- That the list never says ` differ`.
--   never_differs     for any two parcels of any card the two engines do not differ: by `same_answer` of agree/proofs/Agree
use mathlib.Core.Path.{◌≡◌, sym, ap}
use mathlib.Core.Bool.{false}
use mathlib.Core.List.{List}
use Prim.Native.Nat.{ℕ}
use lib.ListN.{get_or}
use Rattle.agree.proofs.Agree.{same_answer}
use Rattle.card.specs.Reading.{region_at}
use Rattle.carried.specs.Pairs.{pair_in, drawn_in}
use Rattle.line.specs.Differ.{differ}
use Rattle.line.proofs.Differing.{differ_means}

pub never_differs : (card : List ℕ) (j k : ℕ) → differ (pair_in card j k) (drawn_in card j k) ≡ false
unfolding pair_in drawn_in
never_differs card j k =
    let s = same_answer (region_at card j) (region_at card k) in
    (differ_means (pair_in card j k) (drawn_in card j k)).1 (sym s.3, sym s.4, λ i l. ap (λ (c : List ℕ). get_or c i 0) (sym s.5))
