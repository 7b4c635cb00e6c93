-- What each reading of a sheet answers, from the call's own contract (`Post`, which the checker generates from the source). The cases are those of
-- calls/specs/Says.
-- A reading of a cell, of any two lists:
--   reading_means        its number is n exactly when case n holds;  reading_either  which these are
--   reading_there        where that is 0, it answers the cell as it stands;  reading_refused  else the number
-- A row:
--   row_there            where the cell of the slot with itself may be read, number k of the row is the cell of the slot and slot k, for each slot
--   row_refused          else there is none
-- A list of pairs:
--   several_means        its number is n exactly when case n holds;  several_either  which these are
--   several_kept         a refused call leaves the results;  several_as_many  there are as many as before;  several_rest  those past the pairs stay
--   Answered records relations i j r    some call of `read_cell` on these lists for slots i and j met its contract and answered r
--   several_reading      result k is what a reading of pair k answered, as `result_of` writes it
--   several_one_by_one   so the results are those of reading pair after pair, whatever each reading answered
--   several_cell, several_number_lem  of a cell that may be read the cell as it stands; else 1000 and the number, which is 8 or 9: several_eight_or_nine
use mathlib.Core.Path.{◌≡◌, refl, sym, ◌∙◌, ap}
use mathlib.Core.Logic.{◌↔◌, ◌⊎◌, ◌≢◌, inl, inr}
use mathlib.Core.List.{List, []}
use Prim.Native.Nat.{ℕ, ◌+◌, ◌≤◌, ◌<◌}
use lib.ListN.{length, get_or}
use Rattle.std.specs.Prelude.{Result}
use Rattle.plane.specs.Lists.{stores}
use Rattle.region.specs.declared.refusals.Refusal.{Refusal}
use Rattle.region.specs.Refusals.{number_in}
use Rattle.layout.specs.Sheet.{slots}
use Rattle.layout.specs.Slots.{cell_in}
use Rattle.calls.specs.Readings.{Reading, Relation, Refused, reading_in, reading_of}
use Rattle.calls.specs.Several.{pair_count, primary_of, reference_of, refused_from, result_of, pair_result, several_number}
use Rattle.calls.specs.Says.{Readable, ReadSays, read_done, read_lists, read_slot, read_empty, SeveralSays, several_done, several_lists, several_odd, several_short}
use Rattle.calls.proofs.Readings.{read_means, cell_answered, number_answered, row_full, row_cells, row_empty}
use Rattle.calls.proofs.Says.{read_says}
use Rattle.calls.proofs.Several as laws
use Rattle.reading.proofs.read_cell.Reads as read_reads
use Rattle.reading.proofs.row.Reads as row_reads
use Rattle.reading.proofs.several.read_cells.Reads as several_reads

-- ---- a reading
module _ (κs : _) (a : _) (r : Result ℕ Refusal) (e : _) (post : read_reads.Post κs a r e) where
  abbrev read_records : List ℕ
  read_records = a.0.now

  abbrev read_relations : List ℕ
  read_relations = a.1.0.now

  abbrev primary : ℕ
  primary = a.1.1.0

  abbrev reference : ℕ
  reference = a.1.1.1.0

  pub reading_means : (n : ℕ) → (number_in r ≡ n) ↔ ReadSays read_records read_relations primary reference n
  reading_means n = rw post.1.0 (read_says read_records read_relations primary reference n)

  pub reading_either : (number_in r ≡ 0) ⊎ ((number_in r ≡ 11) ⊎ ((number_in r ≡ 8) ⊎ (number_in r ≡ 9)))
  reading_either = go ((reading_means (number_in r)).0 refl)
    where
      go : {m : ℕ} → ReadSays read_records read_relations primary reference m → (m ≡ 0) ⊎ ((m ≡ 11) ⊎ ((m ≡ 8) ⊎ (m ≡ 9)))
      go (read_done h) = inl refl
      go (read_lists w) = inr (inl refl)
      go (read_slot right l) = inr (inr (inl refl))
      go (read_empty right hi hj none) = inr (inr (inr refl))

  pub reading_there : Readable read_records read_relations primary reference → reading_in r ≡ Relation (cell_in read_relations primary reference)
  reading_there h = post.0 ∙ cell_answered read_records read_relations primary reference h

  pub reading_refused : (n : ℕ) → n ≢ 0 → ReadSays read_records read_relations primary reference n → reading_in r ≡ Refused n
  reading_refused n some h = post.0 ∙ number_answered read_records read_relations primary reference n some ((read_says read_records read_relations primary reference n).1 h)

-- ---- a row
module _ (κs : _) (a : _) (r : _) (e : _) (post : row_reads.Post κs a r e) where
  abbrev row_records : List ℕ
  row_records = a.0.now

  abbrev row_relations : List ℕ
  row_relations = a.1.0.now

  abbrev row_slot : ℕ
  row_slot = a.1.1.0

  pub row_there : Readable row_records row_relations row_slot row_slot
      → (length r.now ≡ slots) × ((k : ℕ) → k < slots → get_or r.now k 0 ≡ cell_in row_relations row_slot k)
  row_there h =
      let z = (read_means row_records row_relations row_slot row_slot).1 h in (
        ap length post.0 ∙ row_full row_records row_relations row_slot z,
        λ k l. ap (λ (c : List ℕ). get_or c k 0) post.0 ∙ row_cells row_records row_relations row_slot z k l,
      )

  pub row_refused : (Readable row_records row_relations row_slot row_slot → ⊥) → r.now ≡ []
  row_refused h = post.0 ∙ row_empty row_records row_relations row_slot (λ z. h ((read_means row_records row_relations row_slot row_slot).0 z))

-- ---- a list of pairs
pub data Answered (records relations : List ℕ) (i j : ℕ) : Reading → Type 0 where
  answered : (κs : _) (a : _) (r : Result ℕ Refusal) (e : _) → read_reads.Post κs a r e → a.0.now ≡ records → a.1.0.now ≡ relations → a.1.1.0 ≡ i → a.1.1.1.0 ≡ j
      → Answered records relations i j (reading_in r)

answered_is : {records relations : List ℕ} {i j : ℕ} {r : Reading} → Answered records relations i j r → r ≡ reading_of records relations i j
answered_is (answered κs a r e post er el ei ej) = rw (← er, ← el, ← ei, ← ej) post.0

module _ (κs : _) (a : _) (answer : Result (Unit {0}) Refusal) (e : _) (post : several_reads.Post κs a answer e) where
  abbrev list_records : List ℕ
  list_records = a.0.now

  abbrev list_relations : List ℕ
  list_relations = a.1.0.now

  abbrev pairs : List ℕ
  pairs = a.1.1.0.now

  abbrev before : List ℕ
  before = a.1.1.1.0.now

  abbrev after : List ℕ
  after = e.1.1.1.0.now

  pub several_means : (m : ℕ) → (number_in answer ≡ m) ↔ SeveralSays list_records list_relations pairs before m
  several_means m = rw post.0 (laws.several_says list_records list_relations pairs before m)

  pub several_either : (number_in answer ≡ 0) ⊎ ((number_in answer ≡ 11) ⊎ ((number_in answer ≡ 18) ⊎ (number_in answer ≡ 10)))
  several_either = go ((several_means (number_in answer)).0 refl)
    where
      go : {m : ℕ} → SeveralSays list_records list_relations pairs before m → (m ≡ 0) ⊎ ((m ≡ 11) ⊎ ((m ≡ 18) ⊎ (m ≡ 10)))
      go (several_done right k h l) = inl refl
      go (several_lists w) = inr (inl refl)
      go (several_odd right k h) = inr (inr (inl refl))
      go (several_short right k h l) = inr (inr (inr refl))

  pub several_kept : number_in answer ≢ 0 → after ≡ before
  several_kept some = post.1 ∙ laws.several_refused list_records list_relations pairs before (λ z. some (post.0 ∙ z))

  pub several_as_many : length after ≡ length before
  several_as_many = ap length post.1 ∙ laws.several_length list_records list_relations pairs before

  module _ (done : number_in answer ≡ 0) where
    zero_is : several_number list_records list_relations pairs before ≡ 0
    zero_is = sym post.0 ∙ done

    pub several_rest : (d k : ℕ) → pair_count pairs ≤ k → get_or after k d ≡ get_or before k d
    several_rest d k l = ap (λ (s : List ℕ). get_or s k d) post.1 ∙ laws.several_past list_records list_relations pairs before zero_is d k l

    pub several_one_by_one : (r : ℕ → Reading) → ((k : ℕ) → k < pair_count pairs → Answered list_records list_relations (primary_of pairs k) (reference_of pairs k) (r k))
        → after ≡ stores (λ k. k) (λ k. result_of (r k)) (pair_count pairs) before
    several_one_by_one r each = post.1 ∙ laws.several_in_order list_records list_relations pairs before zero_is r (λ k l. answered_is (each k l))

    module _ (k : ℕ) (l : k < pair_count pairs) where
      pub several_is : get_or after k 0 ≡ pair_result list_records list_relations pairs k
      several_is = ap (λ (s : List ℕ). get_or s k 0) post.1 ∙ laws.several_at list_records list_relations pairs before zero_is 0 k l

      pub several_reading : (r : Reading) → Answered list_records list_relations (primary_of pairs k) (reference_of pairs k) r → get_or after k 0 ≡ result_of r
      several_reading r h = several_is ∙ ap result_of (sym (answered_is h))

      pub several_cell : Readable list_records list_relations (primary_of pairs k) (reference_of pairs k) → get_or after k 0 ≡ cell_in list_relations (primary_of pairs k) (reference_of pairs k)
      several_cell h = several_is ∙ laws.pair_there list_records list_relations (primary_of pairs k) (reference_of pairs k) h

      pub several_number_lem : (m : ℕ) → m ≢ 0 → ReadSays list_records list_relations (primary_of pairs k) (reference_of pairs k) m → get_or after k 0 ≡ refused_from + m
      several_number_lem m some h = several_is ∙ laws.pair_refused list_records list_relations (primary_of pairs k) (reference_of pairs k) m some h

      pub several_eight_or_nine : (get_or after k 0 ≡ cell_in list_relations (primary_of pairs k) (reference_of pairs k)) ⊎ ((get_or after k 0 ≡ 1008) ⊎ (get_or after k 0 ≡ 1009))
      several_eight_or_nine =
          rw several_is (laws.pair_either list_records list_relations (primary_of pairs k) (reference_of pairs k) (laws.several_tables list_records list_relations pairs before zero_is))
