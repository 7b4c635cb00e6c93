-- Which number a call answers, and what it says: exactly the cases of specs/Says.
--   unchangeable_is      a number that refuses any change of a slot is the one that comes;  unchangeable_either  it is 11, 8 or 12;  unchangeable_not  so
--                        not 0
--   change_either        a slot may be changed, or the number that comes refuses it
--   put_says, remove_says, clear_says, read_says    the number is n exactly when case n of the call holds
use mathlib.Core.Path.{◌≡◌, refl, sym, ◌∙◌, ap, subst}
use mathlib.Core.Logic.{◌↔◌, ◌⊎◌, ◌≢◌, inl, inr, ⊎_elim}
use mathlib.Core.Bool.{Bool, true, false, ◌||◌}
use mathlib.Core.List.{List}
use Prim.Native.Nat.{ℕ, ◌≤◌, ◌<◌}
use native.Mathlib.Omega.{arith}
use native.Mathlib.Decide.{dec_lt}
use lib.Dec.{ltb}
use borrow.Author.Tests.{ltb-true, ltb-false, lt-ltb, le-ltb}
use Rattle.plane.proofs.Logic.{never, clash, is_false, is_true, or_means, eq_means, iff_join, iff_or}
use Rattle.region.specs.Check.{Checked}
use Rattle.region.specs.Check.{Accepted, Refused}
use Rattle.region.specs.Region.{Region}
use Rattle.region.specs.declared.refusals.Refusal.TheVariants.{SlotNumber, SlotEmpty, SheetLists}
use Rattle.region.specs.Refusals.{number_if, or_else}
use Rattle.region.specs.Check.{check_of, number_of}
use Rattle.region.proofs.Check.{accepted_means, refused_means, accepted_number}
use Rattle.layout.specs.Sheet.{Sheet, slots, last_slot, wrong_tables, wrong_lists}
use Rattle.layout.specs.Standing.{occupied}
use Rattle.layout.specs.Slots.{rings_in, empty_in}
use Rattle.layout.specs.Damage.{damaged}
use Rattle.layout.specs.Changes.{change_number, Changeable}
use Rattle.layout.proofs.RightLists.{tables_mean, lists_mean}
use Rattle.layout.proofs.Undamaged.{undamaged_means}
use Rattle.layout.proofs.Slots.{parcel_empty, parcel_there}
use Rattle.layout.proofs.Refusing.{change_means, change_is}
use Rattle.calls.specs.Changes.{put_number, remove_number, clear_number}
use Rattle.calls.specs.Readings.{read_number}
use Rattle.calls.specs.Says.{Unchangeable, lists_wrong, slot_past, damage_there, PutSays, put_done, put_refused, put_broken, RemoveSays, remove_done, remove_refused, remove_empty, ClearSays, clear_done, clear_refused, ReadSays, read_done, read_lists, read_slot, read_empty}
use Rattle.calls.proofs.Numbers.{put_first, put_next, remove_first, remove_next}
use Rattle.calls.proofs.Readings.{read_means}

-- ---- 11, 8 and 12
module _ (s : Sheet) (i : ℕ) where
  pub unchangeable_is : {n : ℕ} → Unchangeable s i n → change_number s i ≡ n
  unchangeable_is (lists_wrong w) = change_is s i true (ltb last_slot i) (damaged s) (is_true _ (λ e. w ((lists_mean s).0 e))) refl refl
  unchangeable_is (slot_past right l) = change_is s i false true (damaged s) ((lists_mean s).1 right) (lt-ltb last_slot i (omega arith)) refl
  unchangeable_is (damage_there right l hurt) =
      change_is s i false false true ((lists_mean s).1 right) (le-ltb last_slot i (omega arith)) (is_true _ (λ e. hurt ((undamaged_means s right).0 e)))

  pub unchangeable_not : {n : ℕ} → Unchangeable s i n → n ≢ 0
  unchangeable_not (lists_wrong w) e = omega arith
  unchangeable_not (slot_past right l) e = omega arith
  unchangeable_not (damage_there right l hurt) e = omega arith

  pub unchangeable_either : {n : ℕ} → Unchangeable s i n → (n ≡ 11) ⊎ ((n ≡ 8) ⊎ (n ≡ 12))
  unchangeable_either (lists_wrong w) = inl refl
  unchangeable_either (slot_past right l) = inr (inl refl)
  unchangeable_either (damage_there right l hurt) = inr (inr refl)

  unchangeable_some : {n : ℕ} → Unchangeable s i n → change_number s i ≢ 0
  unchangeable_some u z = unchangeable_not u (sym (unchangeable_is u) ∙ z)

  pub change_either : Changeable s i ⊎ Unchangeable s i (change_number s i)
  change_either = go (wrong_lists s) refl (ltb last_slot i) refl (damaged s) refl
    where
      comes : {n : ℕ} → Unchangeable s i n → Changeable s i ⊎ Unchangeable s i (change_number s i)
      comes u = inr (subst (Unchangeable s i) (sym (unchangeable_is u)) u)

      go : (a : Bool) → wrong_lists s ≡ a → (b : Bool) → ltb last_slot i ≡ b → (d : Bool) → damaged s ≡ d → Changeable s i ⊎ Unchangeable s i (change_number s i)
      go true w b eb d ed = comes (lists_wrong (λ right. clash (wrong_lists s) w ((lists_mean s).1 right)))
      go false w true eb d ed = let l : last_slot < i = ltb-true last_slot i eb in comes (slot_past ((lists_mean s).0 w) (omega arith))
      go false w false eb true ed =
          let right = (lists_mean s).0 w in
          let l : i ≤ last_slot = ltb-false last_slot i eb in
          comes (damage_there right (omega arith) (λ u. clash (damaged s) ed ((undamaged_means s right).1 u)))
      go false w false eb false ed = inl ((change_means s i).0 (change_is s i false false false w eb ed))

-- ---- a put
module _ (s : Sheet) (i : ℕ) (R : Region) where
  put_case : PutSays s i R (put_number s i R)
  put_case =
      ⊎_elim
      (λ ok. subst (PutSays s i R) (put_next s i R ((change_means s i).1 ok)) (checked ok (check_of R) refl))
      (λ u. subst (PutSays s i R) (put_first s i R (unchangeable_some s i u)) (put_refused u))
      (change_either s i)
    where
      checked : Changeable s i → (c : Checked) → check_of R ≡ c → PutSays s i R (number_of c)
      checked ok Accepted e = put_done ok ((accepted_means R).0 e)
      checked ok (Refused n r) e = put_broken ok ((refused_means R n r).0 e)

  put_back : {n : ℕ} → PutSays s i R n → put_number s i R ≡ n
  put_back (put_done ok kept) = sym (put_next s i R ((change_means s i).1 ok)) ∙ (accepted_number R).1 kept
  put_back (put_refused u) = sym (put_first s i R (unchangeable_some s i u)) ∙ unchangeable_is s i u
  put_back (put_broken {n} {r} ok w) = sym (put_next s i R ((change_means s i).1 ok)) ∙ ap number_of ((refused_means R n r).1 w)

  pub put_says : (n : ℕ) → (put_number s i R ≡ n) ↔ PutSays s i R n
  put_says n = (λ e. subst (PutSays s i R) e put_case, put_back)

-- ---- a removal
module _ (s : Sheet) (i : ℕ) where
  remove_case : RemoveSays s i (remove_number s i)
  remove_case =
      ⊎_elim (λ ok. look ok (empty_in s.records i) refl) (λ u. subst (RemoveSays s i) (remove_first s i (unchangeable_some s i u)) (remove_refused u)) (change_either s i)
    where
      look : Changeable s i → (t : Bool) → empty_in s.records i ≡ t → RemoveSays s i (remove_number s i)
      look ok true e = subst (RemoveSays s i) (remove_next s i ((change_means s i).1 ok) true e) (remove_empty ok (parcel_empty s.coordinates s.records i e))
      look ok false e = subst (RemoveSays s i) (remove_next s i ((change_means s i).1 ok) false e) (remove_done ok _ (parcel_there s.coordinates s.records i e))

  remove_back : {n : ℕ} → RemoveSays s i n → remove_number s i ≡ n
  remove_back (remove_refused u) = sym (remove_first s i (unchangeable_some s i u)) ∙ unchangeable_is s i u
  remove_back (remove_done ok R e) =
      sym (remove_next s i ((change_means s i).1 ok) false (is_false _ (λ t. never (ap occupied (sym (parcel_empty s.coordinates s.records i t) ∙ e)))))
  remove_back (remove_empty ok e) =
      sym (remove_next s i ((change_means s i).1 ok) true (is_true _ (λ t. never (ap occupied (sym e ∙ parcel_there s.coordinates s.records i t)))))

  pub remove_says : (n : ℕ) → (remove_number s i ≡ n) ↔ RemoveSays s i n
  remove_says n = (λ e. subst (RemoveSays s i) e remove_case, remove_back)

-- ---- a clearing
module _ (s : Sheet) where
  clear_case : ClearSays s (clear_number s)
  unfolding clear_number
  clear_case = go (wrong_lists s) refl
    where
      go : (t : Bool) → wrong_lists s ≡ t → ClearSays s (number_if t SheetLists)
      go true w = clear_refused (λ right. clash (wrong_lists s) w ((lists_mean s).1 right))
      go false w = clear_done ((lists_mean s).0 w)

  clear_back : {n : ℕ} → ClearSays s n → clear_number s ≡ n
  unfolding clear_number
  clear_back (clear_done right) = rw ((lists_mean s).1 right) refl
  clear_back (clear_refused w) = rw (is_true (wrong_lists s) (λ e. w ((lists_mean s).0 e))) refl

  pub clear_says : (n : ℕ) → (clear_number s ≡ n) ↔ ClearSays s n
  clear_says n = (λ e. subst (ClearSays s) e clear_case, clear_back)

-- ---- a reading
module _ (records relations : List ℕ) (i j : ℕ) where
  abbrev past : Bool
  past = ltb last_slot i || ltb last_slot j

  abbrev bare : Bool
  bare = empty_in records i || empty_in records j

  past_means : (past ≡ true) ↔ ((slots ≤ i) ⊎ (slots ≤ j))
  past_means = iff_join (or_means (ltb last_slot i) (ltb last_slot j)) (iff_or (one i) (one j))
    where
      one : (k : ℕ) → (ltb last_slot k ≡ true) ↔ (slots ≤ k)
      one k = (λ e. let l : last_slot < k = ltb-true last_slot k e in omega arith, λ l. lt-ltb last_slot k (omega arith))

  bare_means : (bare ≡ true) ↔ ((rings_in records i ≡ 0) ⊎ (rings_in records j ≡ 0))
  bare_means = iff_join (or_means (empty_in records i) (empty_in records j)) (iff_or (eq_means (rings_in records i) 0) (eq_means (rings_in records j) 0))

  by_tests : (a b d : Bool) → wrong_tables records relations ≡ a → past ≡ b → bare ≡ d
      → read_number records relations i j ≡ or_else (number_if a SheetLists) (or_else (number_if b SlotNumber) (number_if d SlotEmpty))
  unfolding read_number
  by_tests a b d ea eb ed = rw (ea, eb, ed) refl

  read_back : {n : ℕ} → ReadSays records relations i j n → read_number records relations i j ≡ n
  read_back (read_done h) = (read_means records relations i j).1 h
  read_back (read_lists w) = by_tests true past bare (is_true _ (λ e. w ((tables_mean records relations).0 e))) refl refl
  read_back (read_slot right l) = by_tests false true bare ((tables_mean records relations).1 right) (past_means.1 l) refl
  read_back (read_empty right hi hj e) =
      by_tests false false true ((tables_mean records relations).1 right)
      (is_false past (λ t. ⊎_elim (λ l. omega arith) (λ l. omega arith) (past_means.0 t))) (bare_means.1 e)

  read_case : ReadSays records relations i j (read_number records relations i j)
  read_case = go (wrong_tables records relations) refl past refl bare refl
    where
      comes : {n : ℕ} → ReadSays records relations i j n → ReadSays records relations i j (read_number records relations i j)
      comes c = subst (ReadSays records relations i j) (sym (read_back c)) c

      go : (a : Bool) → wrong_tables records relations ≡ a → (b : Bool) → past ≡ b → (d : Bool) → bare ≡ d → ReadSays records relations i j (read_number records relations i j)
      go true w b eb d ed = comes (read_lists (λ right. clash (wrong_tables records relations) w ((tables_mean records relations).1 right)))
      go false w true eb d ed = comes (read_slot ((tables_mean records relations).0 w) (past_means.0 eb))
      go false w false eb true ed =
          let low : (k : ℕ) → (slots ≤ k → past ≡ true) → k < slots = λ k is. inside k (λ l. clash past (is l) eb) in
          comes (read_empty ((tables_mean records relations).0 w) (low i (λ l. past_means.1 (inl l))) (low j (λ l. past_means.1 (inr l))) (bare_means.0 ed))
        where
          inside : (k : ℕ) → (slots ≤ k → ⊥) → k < slots
          inside k h = elim (dec_lt k slots) [ yes l ↦ l | no l ↦ absurd (h (omega arith)) ]
      go false w false eb false ed = comes (read_done ((read_means records relations i j).0 (by_tests false false false w eb ed)))

  pub read_says : (n : ℕ) → (read_number records relations i j ≡ n) ↔ ReadSays records relations i j n
  read_says n = (λ e. subst (ReadSays records relations i j) e read_case, read_back)
