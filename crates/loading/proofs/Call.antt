-- What loading a card answers and leaves, from the call's own contract (`Post`, which the checker generates from the source). Of the call's
-- arguments `before` is the sheet at entry and `after` the sheet at exit.
--   load_means       its number is n exactly when case n of specs/Says holds
--   load_either      so 0, 11 or one of the numbers of a card, and no other
--   load_kept        beside a number that is not 0 the sheet is as it was found
--   load_laid        where it answers 0, the sheet is the layout of the card's parcels
use mathlib.Core.Path.{◌≡◌, refl, sym, ◌∙◌, subst}
use mathlib.Core.Logic.{◌↔◌, ◌⊎◌, ◌≢◌, inl, inr}
use mathlib.Core.List.{List}
use Prim.Native.Nat.{ℕ}
use borrow.Author.Tests.{eq-eqb, ne_eqb}
use Rattle.std.specs.Prelude.{Result}
use Rattle.region.specs.declared.refusals.Refusal.{Refusal}
use Rattle.region.specs.Refusals.{number_in}
use Rattle.layout.specs.Sheet.{Sheet, sheet_of}
use Rattle.layout.specs.Layout.{layout}
use Rattle.card.specs.Reading.{parcel_in}
use Rattle.card.specs.Good.{CardsOwn}
use Rattle.card.proofs.Numbers.{not_good_means}
use Rattle.card.proofs.Says.{card_says}
use Rattle.loading.specs.Load.{load_number, load}
use Rattle.loading.specs.Says.{LoadSays, load_done, load_lists, load_card}
use Rattle.loading.proofs.Says.{load_says}
use Rattle.loading.proofs.load.Reads as load_reads

module _ (κs : _) (a : _) (r : Result (Unit {0}) Refusal) (e : _) (post : load_reads.Post κs a r e) where
  abbrev load_before : Sheet
  load_before = sheet_of a.0.now a.1.0.now a.1.1.0.now

  abbrev load_after : Sheet
  load_after = sheet_of e.0.now e.1.0.now e.1.1.0.now

  abbrev load_card_bytes : List ℕ
  load_card_bytes = a.1.1.1.0.now

  pub load_means : (m : ℕ) → (number_in r ≡ m) ↔ LoadSays load_before load_card_bytes m
  load_means m = rw post.0 (load_says load_before load_card_bytes m)

  pub load_either : (number_in r ≡ 0) ⊎ ((number_in r ≡ 11) ⊎ CardsOwn (number_in r))
  load_either = go ((load_means (number_in r)).0 refl) refl
    where
      go : {m : ℕ} → LoadSays load_before load_card_bytes m → number_in r ≡ m → (number_in r ≡ 0) ⊎ ((number_in r ≡ 11) ⊎ CardsOwn (number_in r))
      go (load_done right good) q = inl q
      go (load_lists w) q = inr (inl q)
      go (load_card {n} right bad c) q = inr (inr (subst CardsOwn ((card_says load_card_bytes n).1 c ∙ sym q) ((not_good_means load_card_bytes).1 bad)))

  pub load_kept : number_in r ≢ 0 → load_after ≡ load_before
  unfolding load
  load_kept some = post.1 ∙ simp (ne_eqb (load_number load_before load_card_bytes) 0 (λ z. some (post.0 ∙ z)))

  pub load_laid : number_in r ≡ 0 → load_after ≡ layout (parcel_in load_card_bytes)
  unfolding load
  load_laid done = post.1 ∙ simp (eq-eqb (load_number load_before load_card_bytes) 0 (sym post.0 ∙ done))
