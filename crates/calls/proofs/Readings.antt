-- Laws of the readings.
--   read_first, read_is    the number: 11, where it applies; by the tests that decide it
--   read_means      a cell is read exactly where the two lists have their lengths, there are such slots, and neither is empty
--   cell_answered, number_answered    what reading a cell answers: the cell as it stands where it may be read, else the number
--   number_same     the number of a result is that of what it says
--   reading_only    two results that say the same are the same
--   number_read, value_read, number_said    the document's number and value of that answer, and of a result that says it
--   start_full, start_empty    where the row begins
--   row_whole       the row where no number applies
--   row_full, row_cells, row_empty    the row has a cell for each slot where no number applies, its own, and none where one does
--   bits_ones       the set digits of n % 2 ^ w are the bits of n below w
use mathlib.Core.Path.{◌≡◌, refl, sym, ap, ◌∙◌}
use mathlib.Core.Logic.{◌↔◌, ◌≢◌, inl, inr, ⊎_elim}
use mathlib.Core.Bool.{Bool, false, ◌||◌}
use mathlib.Core.List.{List, []}
use Prim.Native.Nat.{ℕ, zero, suc, ◌+◌, ◌/◌, ◌%◌, ◌^◌, ◌<◌, ◌≤◌}
use native.Mathlib.Omega.{arith}
use native.Mathlib.Numerals.{one-add}
use native.Mathlib.Nat.{mod-lt, add_comm, not-suc-le-zero, le_of_suc-le-suc}
use lib.Count.{ones, ones_cat}
use lib.Dec.{ltb, eqb, lit<}
use lib.ListN.{length, get_or}
use lib.Pow.{mod-pow-add, pow_pos}
use borrow.Author.Tests.{ltb-false, le-ltb, eqb-false, eq-eqb, ne_eqb}
use Rattle.std.specs.Prelude.{Result, Ok, Err}
use Rattle.plane.specs.Choice.{pick}
use Rattle.plane.specs.Folds.{sum_to}
use Rattle.plane.specs.TileSet.{bit}
use Rattle.plane.proofs.Logic.{clash, is_false, or_means}
use Rattle.region.specs.declared.refusals.Refusal.TheVariants.{SlotNumber, SlotEmpty, SheetLists}
use Rattle.region.specs.declared.refusals.Refusal.{Refusal}
use Rattle.region.specs.Refusals.{number_in, number_if, or_else}
use Rattle.region.proofs.OrElse.{or_else_first, or_else_none, number_if_none, number_some}
use Rattle.region.proofs.Answers.{number_only}
use Rattle.layout.specs.Sheet.{slots, last_slot, wrong_tables}
use Rattle.layout.specs.Slots.{rings_in, empty_in, cell_in, row_in, row_place}
use Rattle.layout.proofs.RightLists.{tables_mean}
use Rattle.layout.proofs.Rows.{row_length, row_cell}
use Rattle.calls.specs.Readings.{Relation, Refused, read_number, read_value, reading_in, reading_of, reading_number, reading_value, row_of, row_start}
use Rattle.calls.specs.Says.{Readable}

-- ---- the number
neither : (a b : Bool) → (a || b ≡ false) ↔ ((a ≡ false) × (b ≡ false))
neither a b = (
  λ h. (is_false a (λ e. clash (a || b) ((or_means a b).1 (inl e)) h), is_false b (λ e. clash (a || b) ((or_means a b).1 (inr e)) h)),
  λ h. is_false (a || b) (λ e. ⊎_elim (λ p. clash a p h.0) (λ p. clash b p h.1) ((or_means a b).0 e)),
)

slot_in : (i : ℕ) → (ltb last_slot i ≡ false) ↔ (i < slots)
slot_in i = (λ h. let l : i ≤ last_slot = ltb-false last_slot i h in omega arith, λ h. le-ltb last_slot i (omega arith))

module _ (records relations : List ℕ) (i j : ℕ) where
  pub read_means : (read_number records relations i j ≡ 0) ↔ Readable records relations i j
  unfolding read_number
  read_means = (
    λ z. let p = first.0 z in
        let q = second.0 p.1 in
        let low = (neither (ltb last_slot i) (ltb last_slot j)).0 ((number_if_none _ SlotNumber).0 q.0) in
        let there = (neither (empty_in records i) (empty_in records j)).0 ((number_if_none _ SlotEmpty).0 q.1) in
        record {
          tables = (tables_mean records relations).0 ((number_if_none _ SheetLists).0 p.0);
          primary = (slot_in i).0 low.0;
          reference = (slot_in j).0 low.1;
          primary_there = eqb-false (rings_in records i) 0 there.0;
          reference_there = eqb-false (rings_in records j) 0 there.1;
        },
    λ h. first.1 (
      (number_if_none _ SheetLists).1 ((tables_mean records relations).1 h.tables),
      second.1 (
        (number_if_none _ SlotNumber).1 ((neither (ltb last_slot i) (ltb last_slot j)).1 ((slot_in i).1 h.primary, (slot_in j).1 h.reference)),
        (number_if_none _ SlotEmpty).1 ((neither (empty_in records i) (empty_in records j)).1 (ne_eqb (rings_in records i) 0 h.primary_there, ne_eqb (rings_in records j) 0 h.reference_there)),
      ),
    ),
  )
    where
      second : (or_else (number_if (ltb last_slot i || ltb last_slot j) SlotNumber) (number_if (empty_in records i || empty_in records j) SlotEmpty) ≡ 0)
          ↔ ((number_if (ltb last_slot i || ltb last_slot j) SlotNumber ≡ 0) × (number_if (empty_in records i || empty_in records j) SlotEmpty ≡ 0))
      second = or_else_none _ _

      first : (or_else (number_if (wrong_tables records relations) SheetLists) (or_else (number_if (ltb last_slot i || ltb last_slot j) SlotNumber) (number_if (empty_in records i || empty_in records j) SlotEmpty)) ≡ 0)
          ↔ ((number_if (wrong_tables records relations) SheetLists ≡ 0) × (or_else (number_if (ltb last_slot i || ltb last_slot j) SlotNumber) (number_if (empty_in records i || empty_in records j) SlotEmpty) ≡ 0))
      first = or_else_none _ _

  pub read_first : {n : ℕ} → n ≢ 0 → n ≡ number_if (wrong_tables records relations) SheetLists → n ≡ read_number records relations i j
  unfolding read_number
  read_first some e = e ∙ sym (or_else_first _ _ (λ q. some (e ∙ q)))

  pub read_is : (a b d e f : Bool) → wrong_tables records relations ≡ a → ltb last_slot i ≡ b → ltb last_slot j ≡ d → empty_in records i ≡ e → empty_in records j ≡ f
      → read_number records relations i j ≡ or_else (number_if a SheetLists) (or_else (number_if (b || d) SlotNumber) (number_if (e || f) SlotEmpty))
  unfolding read_number
  read_is a b d e f ea eb ed ee ef = rw (ea, eb, ed, ee, ef) refl

-- ---- the answer
-- the number of a result
pub number_same : (r : Result ℕ Refusal) → reading_number (reading_in r) ≡ number_in r
number_same (Ok v) = refl
number_same (Err k) = refl

-- two results that say the same are the same
pub reading_only : (a b : Result ℕ Refusal) → reading_in a ≡ reading_in b → a ≡ b
reading_only (Ok v) (Ok w) e = ap (λ (n : ℕ). Ok n) (ap reading_value e)
reading_only (Ok v) (Err k) e = absurd (number_some k (sym (ap reading_number e)))
reading_only (Err j) (Ok w) e = absurd (number_some j (ap reading_number e))
reading_only (Err j) (Err k) e = ap (λ (r : Refusal). Err r) (number_only j k (ap reading_number e))

module _ (records relations : List ℕ) (i j : ℕ) where
  pub cell_answered : Readable records relations i j → reading_of records relations i j ≡ Relation (cell_in relations i j)
  unfolding reading_of
  cell_answered h = simp (eq-eqb (read_number records relations i j) 0 ((read_means records relations i j).1 h))

  pub number_answered : (n : ℕ) → n ≢ 0 → read_number records relations i j ≡ n → reading_of records relations i j ≡ Refused n
  unfolding reading_of
  number_answered n some z = simp (ne_eqb (read_number records relations i j) 0 (λ q. some (sym z ∙ q))) (ap Refused z)

  -- the document's number and value
  pub number_read : reading_number (reading_of records relations i j) ≡ read_number records relations i j
  unfolding reading_of
  number_read = go (read_number records relations i j)
    where
      go : (n : ℕ) → reading_number (pick (eqb n 0) (Relation (cell_in relations i j)) (Refused n)) ≡ n
      go zero = refl
      go (suc n) = simp (ne_eqb (suc n) 0 (λ e. absurd (omega arith)))

  pub value_read : reading_value (reading_of records relations i j) ≡ read_value records relations i j
  unfolding reading_of read_value
  value_read = go (read_number records relations i j)
    where
      go : (n : ℕ) → reading_value (pick (eqb n 0) (Relation (cell_in relations i j)) (Refused n)) ≡ pick (eqb n 0) (cell_in relations i j) 0
      go zero = refl
      go (suc n) = simp (ne_eqb (suc n) 0 (λ e. absurd (omega arith)))

  pub number_said : (r : Result ℕ Refusal) → reading_in r ≡ reading_of records relations i j → number_in r ≡ read_number records relations i j
  number_said r e = sym (number_same r) ∙ ap reading_number e ∙ number_read

-- ---- the row
module _ (records relations : List ℕ) (i : ℕ) where
  pub row_full : read_number records relations i i ≡ 0 → length (row_of records relations i) ≡ slots
  unfolding row_of
  row_full z =
      let h = (read_means records relations i i).0 z in
      simp (eq-eqb (read_number records relations i i) 0 z) (row_length records relations i ((tables_mean records relations).1 h.tables) h.primary)

  pub row_cells : read_number records relations i i ≡ 0 → (k : ℕ) → k < slots → get_or (row_of records relations i) k 0 ≡ cell_in relations i k
  unfolding row_of
  row_cells z k l = simp (eq-eqb (read_number records relations i i) 0 z) (row_cell relations i k l)

  pub row_empty : (read_number records relations i i ≡ 0 → ⊥) → row_of records relations i ≡ []
  unfolding row_of
  row_empty n = simp (ne_eqb (read_number records relations i i) 0 n)

  pub row_whole : read_number records relations i i ≡ 0 → row_of records relations i ≡ row_in relations i
  unfolding row_of
  row_whole z = simp (eq-eqb (read_number records relations i i) 0 z)

  pub start_full : read_number records relations i i ≡ 0 → row_start records relations i ≡ row_place i
  unfolding row_start
  start_full z = simp (eq-eqb (read_number records relations i i) 0 z)

  pub start_empty : (read_number records relations i i ≡ 0 → ⊥) → row_start records relations i ≡ 0
  unfolding row_start
  start_empty n = simp (ne_eqb (read_number records relations i i) 0 n)

-- ---- how many tiles
-- a number below 2 has itself as many set digits
ones_digit : (a : ℕ) → a < 2 → ones a ≡ a
unfolding ones
ones_digit zero h = refl
ones_digit (suc zero) h = refl
ones_digit (suc (suc a)) h = absurd (not-suc-le-zero (le_of_suc-le-suc (le_of_suc-le-suc h)))

pub bits_ones : (w n : ℕ) → ones (n % 2 ^ w) ≡ sum_to (bit n) w
unfolding sum_to ones
bits_ones zero n = let z : n % 1 ≡ 0 = omega arith in ap ones z
bits_ones (suc w) n =
    ap ones (ap (λ (x : ℕ). n % 2 ^ x) (sym (one-add w)) ∙ mod-pow-add n 1 w)
    ∙ ones_cat w (bit n w) (n % 2 ^ w) (mod-lt n (pow_pos w))
    ∙ ap (λ (x : ℕ). x + ones (n % 2 ^ w)) (ones_digit (bit n w) (mod-lt (n / 2 ^ w) (lit< tt)))
    ∙ add_comm (bit n w) (ones (n % 2 ^ w))
    ∙ ap (λ (x : ℕ). x + bit n w) (bits_ones w n)
