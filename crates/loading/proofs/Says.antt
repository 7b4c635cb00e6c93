-- Which number loading answers, and what it says: exactly the cases of specs/Says.
--   load_says    the number is n exactly when case n of the call holds
use mathlib.Core.Path.{◌≡◌, refl, sym, ◌∙◌, subst}
use mathlib.Core.Logic.{◌↔◌}
use mathlib.Core.Bool.{Bool, true, false}
use mathlib.Core.List.{List}
use Prim.Native.Nat.{ℕ}
use native.Mathlib.Decide.{ℕ_discrete}
use Rattle.plane.specs.Choice.{pick}
use Rattle.plane.proofs.Logic.{clash, is_true}
use Rattle.region.specs.declared.refusals.Refusal.TheVariants.{SheetLists}
use Rattle.region.specs.Refusals.{number}
use Rattle.layout.specs.Sheet.{Sheet, wrong_lists}
use Rattle.layout.proofs.RightLists.{lists_mean}
use Rattle.card.specs.CardNumber.{card_number}
use Rattle.card.proofs.Good.{good_means}
use Rattle.card.proofs.Says.{card_says}
use Rattle.loading.specs.Load.{load_number}
use Rattle.loading.specs.Says.{LoadSays, load_done, load_lists, load_card}
use Rattle.loading.proofs.Orders.{load_order}

module _ (s : Sheet) (b : List ℕ) where
  load_by : (t : Bool) → wrong_lists s ≡ t → load_number s b ≡ pick t (number SheetLists) (card_number b)
  load_by t e = load_order s b ∙ rw e refl

  load_back : {n : ℕ} → LoadSays s b n → load_number s b ≡ n
  load_back (load_done right good) = load_by false ((lists_mean s).1 right) ∙ (good_means b).1 good
  load_back (load_lists w) = load_by true (is_true _ (λ e. w ((lists_mean s).0 e)))
  load_back (load_card {n} right bad c) = load_by false ((lists_mean s).1 right) ∙ (card_says b n).1 c

  load_case : LoadSays s b (load_number s b)
  load_case = go (wrong_lists s) refl
    where
      comes : {n : ℕ} → LoadSays s b n → LoadSays s b (load_number s b)
      comes c = subst (LoadSays s b) (sym (load_back c)) c

      go : (t : Bool) → wrong_lists s ≡ t → LoadSays s b (load_number s b)
      go true w = comes (load_lists (λ right. clash (wrong_lists s) w ((lists_mean s).1 right)))
      go false w =
          elim (ℕ_discrete (card_number b) 0) [
            | yes z ↦ comes (load_done ((lists_mean s).0 w) ((good_means b).0 z))
            | no z ↦ comes (load_card ((lists_mean s).0 w) (λ good. z ((good_means b).1 good)) ((card_says b (card_number b)).0 refl))
          ]

  pub load_says : (n : ℕ) → (load_number s b ≡ n) ↔ LoadSays s b n
  load_says n = (λ e. subst (LoadSays s b) e load_case, load_back)
