-- The refusals 11, 8 and 12.
--   change_means           a change of slot i is not refused exactly where the lists have their lengths, there is such a slot, and the
--                          sheet is undamaged
--   whole_means            a call on the whole sheet is not refused exactly where the lists have their lengths and it is undamaged
--   lists_right            number 11 does not apply exactly where the lists have their lengths
--   whole_first, whole_next, change_first, change_slot, change_next    the two numbers, test after test
--   change_is, whole_is    the two numbers, by the tests that decide them
use mathlib.Core.Path.{◌≡◌, refl, sym, ap, ◌∙◌}
use mathlib.Core.Logic.{◌↔◌, ◌≢◌}
use mathlib.Core.Bool.{Bool}
use Prim.Native.Nat.{ℕ, ◌≤◌, ◌<◌}
use native.Mathlib.Omega.{arith}
use lib.Dec.{ltb}
use borrow.Author.Tests.{ltb-false, le-ltb, lt-ltb}
use Rattle.region.specs.declared.refusals.Refusal.TheVariants.{SlotNumber, SheetLists, SheetDamaged}
use Rattle.region.specs.Refusals.{number, number_if, or_else}
use Rattle.region.proofs.OrElse.{or_else_none, or_else_first, number_if_none}
use Rattle.layout.specs.Sheet.{Sheet, slots, last_slot, RightLists, wrong_lists}
use Rattle.layout.specs.Damage.{Undamaged, damaged}
use Rattle.layout.specs.Changes.{change_number, whole_number, Changeable}
use Rattle.layout.proofs.RightLists.{lists_mean}
use Rattle.layout.proofs.Undamaged.{undamaged_means}

module _ (s : Sheet) where
  pub lists_right : (number_if (wrong_lists s) SheetLists ≡ 0) ↔ RightLists s
  lists_right =
      let a = number_if_none (wrong_lists s) SheetLists in
      let b = lists_mean s in
      (λ h. b.0 (a.0 h), λ h. a.1 (b.1 h))

  no_damage : RightLists s → (number_if (damaged s) SheetDamaged ≡ 0) ↔ Undamaged s
  no_damage right =
      let a = number_if_none (damaged s) SheetDamaged in
      let b = undamaged_means s right in
      (λ h. b.0 (a.0 h), λ h. a.1 (b.1 h))

  slot_there : (i : ℕ) → (number_if (ltb last_slot i) SlotNumber ≡ 0) ↔ (i < slots)
  slot_there i =
      let a = number_if_none (ltb last_slot i) SlotNumber in
      (λ h. let l : i ≤ last_slot = ltb-false last_slot i (a.0 h) in omega arith, λ h. a.1 (le-ltb last_slot i (omega arith)))

  pub whole_means : (whole_number s ≡ 0) ↔ (RightLists s × Undamaged s)
  unfolding whole_number
  whole_means =
      let n = or_else_none (number_if (wrong_lists s) SheetLists) (number_if (damaged s) SheetDamaged) in (
        λ e. let z = n.0 e in let right = lists_right.0 z.0 in (right, (no_damage right).0 z.1),
        λ h. n.1 (lists_right.1 h.0, (no_damage h.0).1 h.1),
      )

  pub change_means : (i : ℕ) → (change_number s i ≡ 0) ↔ Changeable s i
  unfolding change_number
  change_means i =
      let later = or_else (number_if (ltb last_slot i) SlotNumber) (number_if (damaged s) SheetDamaged) in
      let n = or_else_none (number_if (wrong_lists s) SheetLists) later in
      let m = or_else_none (number_if (ltb last_slot i) SlotNumber) (number_if (damaged s) SheetDamaged) in (
        λ e. let z = n.0 e in let y = m.0 z.1 in let right = lists_right.0 z.0 in
            record { lists = right; slot_in = (slot_there i).0 y.0; undamaged = (no_damage right).0 y.1 },
        λ h. n.1 (lists_right.1 h.lists, m.1 ((slot_there i).1 h.slot_in, (no_damage h.lists).1 h.undamaged)),
      )

  -- ---- test after test: number 11, or what comes after it
  pub whole_first : {n : ℕ} → n ≢ 0 → n ≡ number_if (wrong_lists s) SheetLists → n ≡ whole_number s
  unfolding whole_number
  whole_first some e = e ∙ sym (or_else_first _ _ (λ q. some (e ∙ q)))

  pub whole_next : {n : ℕ} → 0 ≡ number_if (wrong_lists s) SheetLists → n ≡ number_if (damaged s) SheetDamaged → n ≡ whole_number s
  unfolding whole_number
  whole_next z e = e ∙ ap (λ (m : ℕ). or_else m (number_if (damaged s) SheetDamaged)) z

  module _ (i : ℕ) where
    abbrev later : ℕ
    later = or_else (number_if (ltb last_slot i) SlotNumber) (number_if (damaged s) SheetDamaged)

    pub change_first : {n : ℕ} → n ≢ 0 → n ≡ number_if (wrong_lists s) SheetLists → n ≡ change_number s i
    unfolding change_number
    change_first some e = e ∙ sym (or_else_first _ _ (λ q. some (e ∙ q)))

    pub change_slot : 0 ≡ number_if (wrong_lists s) SheetLists → last_slot < i → number SlotNumber ≡ change_number s i
    unfolding change_number
    change_slot z h = ap (λ (t : Bool). or_else (number_if t SlotNumber) (number_if (damaged s) SheetDamaged)) (sym (lt-ltb last_slot i h)) ∙ ap (λ (m : ℕ). or_else m later) z

    pub change_next : {n : ℕ} → 0 ≡ number_if (wrong_lists s) SheetLists → i ≤ last_slot → n ≡ number_if (damaged s) SheetDamaged → n ≡ change_number s i
    unfolding change_number
    change_next z h e = e ∙ ap (λ (t : Bool). or_else (number_if t SlotNumber) (number_if (damaged s) SheetDamaged)) (sym (le-ltb last_slot i h)) ∙ ap (λ (m : ℕ). or_else m later) z

  -- ---- by the tests
  pub whole_is : (a d : Bool) → wrong_lists s ≡ a → damaged s ≡ d → whole_number s ≡ or_else (number_if a SheetLists) (number_if d SheetDamaged)
  unfolding whole_number
  whole_is a d ea ed = rw (ea, ed) refl

  pub change_is : (i : ℕ) (a b d : Bool) → wrong_lists s ≡ a → ltb last_slot i ≡ b → damaged s ≡ d
      → change_number s i ≡ or_else (number_if a SheetLists) (or_else (number_if b SlotNumber) (number_if d SheetDamaged))
  unfolding change_number
  change_is i a b d ea eb ed = rw (ea, eb, ed) refl
