-- Laws of a list of pairs at once.
--   several_is, several_first    the number, by the tests that decide it; 11, where it applies;  several_order  11, then 18, then 10
--   several_says        the number is n exactly when case n of the call holds
--   several_tables      a call that is not refused has lists of their lengths;  several_room  and a place for each pair
--   several_refused, several_written    the results that a refused call leaves, and one that is not
--   several_length      as many results as before
--   several_at          place k has what reading the cell of pair k answers;  several_past  places past the pairs keep their values
--   several_in_order    the results of reading one by one, whatever each reading answered
--   read_small          no number of a reading is above 11, so that a thousand more is a u16
--   result_value, result_number    what is written of a reading, by its number and its value
--   pair_there          of a cell that may be read: what stands there, also 1000 or more on a sheet that others wrote
--   pair_refused        else 1000 and the number;  pair_either  where the call is not refused, that is 1008 or 1009
use mathlib.Core.Path.{◌≡◌, refl, sym, ap, ◌∙◌, subst}
use mathlib.Core.Logic.{◌↔◌, ◌⊎◌, ◌≢◌, inl, inr}
use mathlib.Core.Bool.{Bool, true, false, ◌||◌}
use mathlib.Core.List.{List}
use Prim.Native.Nat.{ℕ, zero, suc, ◌+◌, ◌*◌, ◌%◌, ◌≤◌, ◌<◌}
use native.Mathlib.Omega.{arith}
use native.Mathlib.Nat.{lt_irrefl}
use lib.Dec.{ltb, eqb}
use lib.ListN.{length, get_or, set}
use borrow.Author.Tests.{ltb-true, ltb-false, lt-ltb, le-ltb, eqb-true, eqb-false, eq-eqb, ne_eqb}
use Rattle.plane.specs.Choice.{pick}
use Rattle.plane.specs.Folds.{turns}
use Rattle.plane.specs.Lists.{stores}
use Rattle.plane.proofs.Lists.{length_stores, stores_at, stores_other}
use Rattle.plane.proofs.Logic.{clash, is_true}
use Rattle.region.specs.declared.refusals.Refusal.TheVariants.{BufferShort, SlotNumber, SlotEmpty, SheetLists, PairsOdd}
use Rattle.region.specs.Refusals.{number, number_if, or_else}
use Rattle.region.proofs.OrElse.{or_else_first, or_else_none, number_if_none}
use Rattle.layout.specs.Sheet.{last_slot, RightTables, wrong_tables}
use Rattle.layout.specs.Slots.{empty_in, cell_in}
use Rattle.layout.proofs.RightLists.{tables_mean}
use Rattle.calls.specs.Readings.{Reading, read_number, reading_of, reading_number, reading_value}
use Rattle.calls.specs.Several.{pair_count, odd_pairs, primary_of, reference_of, refused_from, result_of, pair_result, several_number, several}
use Rattle.calls.specs.Says.{Readable, ReadSays, read_done, read_lists, read_slot, read_empty, SeveralSays, several_done, several_lists, several_odd, several_short}
use Rattle.calls.proofs.Readings.{cell_answered, number_answered}
use Rattle.calls.proofs.Says.{read_says}

-- ---- the number
module _ (records relations pairs results : List ℕ) where
  abbrev short : Bool
  short = ltb (length results) (pair_count pairs)

  pub several_is : (a b d : Bool) → wrong_tables records relations ≡ a → odd_pairs pairs ≡ b → short ≡ d
      → several_number records relations pairs results ≡ or_else (number_if a SheetLists) (or_else (number_if b PairsOdd) (number_if d BufferShort))
  unfolding several_number
  several_is a b d ea eb ed = rw (ea, eb, ed) refl

  pub several_first : {n : ℕ} → n ≢ 0 → n ≡ number_if (wrong_tables records relations) SheetLists → n ≡ several_number records relations pairs results
  unfolding several_number
  several_first some e = e ∙ sym (or_else_first _ _ (λ q. some (e ∙ q)))

  pub several_order : several_number records relations pairs results
      ≡ pick (wrong_tables records relations) (number SheetLists) (pick (odd_pairs pairs) (number PairsOdd) (pick short (number BufferShort) 0))
  unfolding several_number
  several_order = go (wrong_tables records relations) (odd_pairs pairs) short
    where
      go : (a b d : Bool) → or_else (number_if a SheetLists) (or_else (number_if b PairsOdd) (number_if d BufferShort)) ≡ pick a (number SheetLists) (pick b (number PairsOdd) (pick d (number BufferShort) 0))
      go true b d = refl
      go false true d = refl
      go false false d = refl

  -- ---- the results
  module _ (z : several_number records relations pairs results ≡ 0) where
    pub several_tables : RightTables records relations
    unfolding several_number
    several_tables = (tables_mean records relations).0 ((number_if_none (wrong_tables records relations) SheetLists).0 ((or_else_none (number_if (wrong_tables records relations) SheetLists) _).0 z).0)

    pub several_room : pair_count pairs ≤ length results
    unfolding several_number
    several_room =
        let p = (or_else_none (number_if (wrong_tables records relations) SheetLists) (or_else (number_if (odd_pairs pairs) PairsOdd) (number_if short BufferShort))).0 z in
        let q = (or_else_none (number_if (odd_pairs pairs) PairsOdd) (number_if short BufferShort)).0 p.1 in
        ltb-false (length results) (pair_count pairs) ((number_if_none short BufferShort).0 q.1)

    pub several_written : several records relations pairs results ≡ stores (λ k. k) (pair_result records relations pairs) (pair_count pairs) results
    unfolding several
    several_written = simp (eq-eqb (several_number records relations pairs results) 0 z)

    pub several_at : (d k : ℕ) → k < pair_count pairs → get_or (several records relations pairs results) k d ≡ pair_result records relations pairs k
    several_at d k l =
        ap (λ (s : List ℕ). get_or s k d) several_written
        ∙ stores_at (λ j. j) (pair_result records relations pairs) d (pair_count pairs) k results l (omega (arith, l, several_room)) (λ m x y e. lt_irrefl k (omega (arith, e, x)))

    pub several_past : (d k : ℕ) → pair_count pairs ≤ k → get_or (several records relations pairs results) k d ≡ get_or results k d
    several_past d k l =
        ap (λ (s : List ℕ). get_or s k d) several_written
        ∙ stores_other (λ j. j) (pair_result records relations pairs) d (pair_count pairs) k results (λ m x e. lt_irrefl m (omega (arith, e, x, l)))

    pub several_in_order : (r : ℕ → Reading) → ((k : ℕ) → k < pair_count pairs → r k ≡ reading_of records relations (primary_of pairs k) (reference_of pairs k))
        → several records relations pairs results ≡ stores (λ k. k) (λ k. result_of (r k)) (pair_count pairs) results
    unfolding turns
    several_in_order r each = several_written ∙ go (pair_count pairs) each
      where
        go : (n : ℕ) → ((k : ℕ) → k < n → r k ≡ reading_of records relations (primary_of pairs k) (reference_of pairs k))
            → stores (λ k. k) (pair_result records relations pairs) n results ≡ stores (λ k. k) (λ k. result_of (r k)) n results
        go zero h = refl
        go (suc n) h =
            ap (λ (l : List ℕ). set l n (pair_result records relations pairs n)) (go n (λ k b. h k (omega arith)))
            ∙ ap (λ (q : Reading). set (stores (λ k. k) (λ k. result_of (r k)) n results) n (result_of q)) (sym (h n (omega arith)))

  pub several_refused : several_number records relations pairs results ≢ 0 → several records relations pairs results ≡ results
  unfolding several
  several_refused z = simp (ne_eqb (several_number records relations pairs results) 0 z)

  pub several_length : length (several records relations pairs results) ≡ length results
  unfolding several
  several_length = go (eqb (several_number records relations pairs results) 0)
    where
      go : (t : Bool) → length (pick t (stores (λ k. k) (pair_result records relations pairs) (pair_count pairs) results) results) ≡ length results
      go true = length_stores (λ k. k) (pair_result records relations pairs) (pair_count pairs) results
      go false = refl

-- ---- what is written of one pair
module _ (records relations : List ℕ) (i j : ℕ) where
  pub read_small : read_number records relations i j ≤ 11
  unfolding read_number
  read_small = go (wrong_tables records relations) (ltb last_slot i || ltb last_slot j) (empty_in records i || empty_in records j)
    where
      go : (a b d : Bool) → or_else (number_if a SheetLists) (or_else (number_if b SlotNumber) (number_if d SlotEmpty)) ≤ 11
      go true b d = omega arith
      go false true d = omega arith
      go false false true = omega arith
      go false false false = omega arith

  abbrev answer : Reading
  answer = reading_of records relations i j

  pub result_value : read_number records relations i j ≡ 0 → result_of answer ≡ reading_value answer
  unfolding reading_of
  result_value z = let t = eq-eqb (read_number records relations i j) 0 z in simp t

  pub result_number : read_number records relations i j ≢ 0 → result_of answer ≡ refused_from + reading_number answer
  unfolding reading_of
  result_number z = let t = ne_eqb (read_number records relations i j) 0 z in simp t

  pub pair_there : Readable records relations i j → result_of answer ≡ cell_in relations i j
  pair_there h = ap result_of (cell_answered records relations i j h)

  pub pair_refused : (n : ℕ) → n ≢ 0 → ReadSays records relations i j n → result_of answer ≡ refused_from + n
  pair_refused n some h = ap result_of (number_answered records relations i j n some ((read_says records relations i j n).1 h))

  pub pair_either : RightTables records relations → (result_of answer ≡ cell_in relations i j) ⊎ ((result_of answer ≡ 1008) ⊎ (result_of answer ≡ 1009))
  pair_either right = go ((read_says records relations i j (read_number records relations i j)).0 refl)
    where
      go : {n : ℕ} → ReadSays records relations i j n → (result_of answer ≡ cell_in relations i j) ⊎ ((result_of answer ≡ 1008) ⊎ (result_of answer ≡ 1009))
      go (read_done h) = inl (pair_there h)
      go (read_lists w) = absurd (w right)
      go (read_slot t l) = inr (inl (pair_refused 8 (λ e. omega arith) (read_slot t l)))
      go (read_empty t hi hj e) = inr (inr (pair_refused 9 (λ e. omega arith) (read_empty t hi hj e)))

-- ---- which number, and what it says
module _ (records relations pairs results : List ℕ) where
  even : (n : ℕ) → length pairs ≡ 2 * n → odd_pairs pairs ≡ false
  even n e = ne_eqb (length pairs % 2) 1 (λ o. omega (arith, e, o))

  half : (n : ℕ) → length pairs ≡ 2 * n → pair_count pairs ≡ n
  half n e = omega (arith, e)

  several_back : {n : ℕ} → SeveralSays records relations pairs results n → several_number records relations pairs results ≡ n
  several_back (several_done right n e l) =
      several_is records relations pairs results false false false ((tables_mean records relations).1 right) (even n e) (le-ltb (length results) (pair_count pairs) (omega (arith, half n e, l)))
  several_back (several_lists w) = several_is records relations pairs results true (odd_pairs pairs) (short records relations pairs results) (is_true _ (λ e. w ((tables_mean records relations).0 e))) refl refl
  several_back (several_odd right n e) =
      several_is records relations pairs results false true (short records relations pairs results) ((tables_mean records relations).1 right) (eq-eqb (length pairs % 2) 1 (omega (arith, e))) refl
  several_back (several_short right n e l) =
      several_is records relations pairs results false false true ((tables_mean records relations).1 right) (even n e) (lt-ltb (length results) (pair_count pairs) (omega (arith, half n e, l)))

  several_case : SeveralSays records relations pairs results (several_number records relations pairs results)
  several_case = go (wrong_tables records relations) refl (odd_pairs pairs) refl (short records relations pairs results) refl
    where
      comes : {n : ℕ} → SeveralSays records relations pairs results n → SeveralSays records relations pairs results (several_number records relations pairs results)
      comes c = subst (SeveralSays records relations pairs results) (sym (several_back c)) c

      whole : odd_pairs pairs ≡ false → length pairs ≡ 2 * pair_count pairs
      whole e = let o : length pairs % 2 ≢ 1 = eqb-false (length pairs % 2) 1 e in omega (arith, o)

      go : (a : Bool) → wrong_tables records relations ≡ a → (b : Bool) → odd_pairs pairs ≡ b → (d : Bool) → (short records relations pairs results) ≡ d
          → SeveralSays records relations pairs results (several_number records relations pairs results)
      go true w b eb d ed = comes (several_lists (λ right. clash (wrong_tables records relations) w ((tables_mean records relations).1 right)))
      go false w true eb d ed =
          let o : length pairs % 2 ≡ 1 = eqb-true (length pairs % 2) 1 eb in
          comes (several_odd ((tables_mean records relations).0 w) (pair_count pairs) (omega (arith, o)))
      go false w false eb true ed =
          comes (several_short ((tables_mean records relations).0 w) (pair_count pairs) (whole eb) (ltb-true (length results) (pair_count pairs) ed))
      go false w false eb false ed =
          comes (several_done ((tables_mean records relations).0 w) (pair_count pairs) (whole eb) (ltb-false (length results) (pair_count pairs) ed))

  pub several_says : (n : ℕ) → (several_number records relations pairs results ≡ n) ↔ SeveralSays records relations pairs results n
  several_says n = (λ e. subst (SeveralSays records relations pairs results) e several_case, several_back)
