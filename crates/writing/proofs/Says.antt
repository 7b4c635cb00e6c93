-- Which number writing answers, and what it says: exactly the cases of specs/Says.
--   write_says    the number is n exactly when case n of the call holds
use mathlib.Core.Path.{◌≡◌, refl, sym, ◌∙◌, subst}
use mathlib.Core.Logic.{◌↔◌}
use mathlib.Core.Bool.{Bool, true, false}
use mathlib.Core.List.{List}
use Prim.Native.Nat.{ℕ}
use lib.Dec.{ltb}
use lib.ListN.{length}
use borrow.Author.Tests.{ltb-true, ltb-false, lt-ltb, le-ltb}
use Rattle.plane.specs.Choice.{pick}
use Rattle.plane.proofs.Logic.{clash, is_true}
use Rattle.region.specs.declared.refusals.Refusal.TheVariants.{BufferShort, SheetLists, SheetDamaged}
use Rattle.region.specs.Refusals.{number, number_if}
use Rattle.layout.specs.Sheet.{Sheet, wrong_lists}
use Rattle.layout.specs.Slots.{parcel_at}
use Rattle.layout.specs.Damage.{damaged}
use Rattle.layout.proofs.RightLists.{lists_mean}
use Rattle.layout.proofs.Undamaged.{undamaged_means}
use Rattle.writing.specs.Write.{card_of, write_number}
use Rattle.writing.specs.Says.{WriteSays, write_done, write_lists, write_damage, write_short}
use Rattle.writing.proofs.Orders.{write_order}

module _ (s : Sheet) (buffer : List ℕ) where
  abbrev least : ℕ
  least = length (card_of (parcel_at s))

  write_by : (a d t : Bool) → wrong_lists s ≡ a → damaged s ≡ d → ltb (length buffer) least ≡ t
      → write_number s buffer ≡ pick a (number SheetLists) (pick d (number SheetDamaged) (number_if t BufferShort))
  write_by a d t ea ed et = write_order s buffer ∙ rw (ea, ed, et) refl

  write_back : {n : ℕ} → WriteSays s buffer n → write_number s buffer ≡ n
  write_back (write_done right whole room) = write_by false false false ((lists_mean s).1 right) ((undamaged_means s right).1 whole) (le-ltb (length buffer) least room)
  write_back (write_lists w) = write_by true (damaged s) (ltb (length buffer) least) (is_true _ (λ e. w ((lists_mean s).0 e))) refl refl
  write_back (write_damage right hurt) =
      write_by false true (ltb (length buffer) least) ((lists_mean s).1 right) (is_true _ (λ e. hurt ((undamaged_means s right).0 e))) refl
  write_back (write_short right whole l) = write_by false false true ((lists_mean s).1 right) ((undamaged_means s right).1 whole) (lt-ltb (length buffer) least l)

  write_case : WriteSays s buffer (write_number s buffer)
  write_case = go (wrong_lists s) refl (damaged s) refl (ltb (length buffer) least) refl
    where
      comes : {n : ℕ} → WriteSays s buffer n → WriteSays s buffer (write_number s buffer)
      comes c = subst (WriteSays s buffer) (sym (write_back c)) c

      go : (a : Bool) → wrong_lists s ≡ a → (d : Bool) → damaged s ≡ d → (t : Bool) → ltb (length buffer) least ≡ t → WriteSays s buffer (write_number s buffer)
      go true w d ed t et = comes (write_lists (λ right. clash (wrong_lists s) w ((lists_mean s).1 right)))
      go false w true ed t et =
          let right = (lists_mean s).0 w in
          comes (write_damage right (λ whole. clash (damaged s) ed ((undamaged_means s right).1 whole)))
      go false w false ed true et = let right = (lists_mean s).0 w in comes (write_short right ((undamaged_means s right).0 ed) (ltb-true (length buffer) least et))
      go false w false ed false et = let right = (lists_mean s).0 w in comes (write_done right ((undamaged_means s right).0 ed) (ltb-false (length buffer) least et))

  pub write_says : (n : ℕ) → (write_number s buffer ≡ n) ↔ WriteSays s buffer n
  write_says n = (λ e. subst (WriteSays s buffer) e write_case, write_back)
