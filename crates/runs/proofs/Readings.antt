-- What reading a cell, handing out a row and a list of pairs answer after any run of the code, from their own contracts. The call is lent the records and the relations
-- of the run's sheet (`lent`).
--   reading_zero       a reading is not refused exactly when a parcel stands in each of the two slots
--   reading_tile       for two parcels that stand in different slots: bit t of its value is 1 exactly when the rule finds the first in tile t of the
--                      second's box
--   reading_self       of one slot: the value 0, which is no refusal: reading_self_read;  reading_empty, reading_past  number 9 where nothing stands in one of the slots, 8 where there is no such slot
--   tiles_self         a count of the tiles of that value: 0
--   row_length         the row of a standing parcel has a cell for each slot;  row_cell  and these are the sheet's
--   row_tile           its number k, where another parcel stands in slot k, by the rule;  row_self  its own, 0;  row_empty  0 where nothing stands
--   row_none           there is no row where nothing stands in the slot, or there is no such slot
--   cells_zero         a list of pairs is not refused exactly when its length is even and there is a result for each pair
--   cells_tile         result k, where parcels stand in the two slots of pair k, which are different, by the rule;  cells_self  of one slot: 0
--   cells_empty, cells_past    1009 where nothing stands in one of the two, 1008 where there is no such slot
use mathlib.Core.Path.{◌≡◌, refl, sym, ◌∙◌, ap}
use mathlib.Core.Logic.{◌↔◌, ◌⊎◌, ◌≢◌, inl, inr, ⊎_elim}
use mathlib.Core.Bool.{not}
use mathlib.Core.List.{List, []}
use Prim.Native.Nat.{ℕ, ◌+◌, ◌*◌, ◌≤◌, ◌<◌}
use native.Mathlib.Omega.{arith}
use lib.ListN.{length, get_or}
use borrow.Author.Tests.{eqb-true, eqb-false}
use Rattle.std.specs.Prelude.{Result}
use Rattle.plane.specs.Folds.{sum_to}
use Rattle.plane.specs.Points.{Lines}
use Rattle.plane.specs.TileSet.{bit}
use Rattle.region.specs.declared.refusals.Refusal.{Refusal}
use Rattle.region.specs.Refusals.{number_in}
use Rattle.region.specs.Region.{Region, Parcel, nothing, outline}
use Rattle.relation.specs.Relation.{RegionBox, RegionHas}
use Rattle.layout.specs.Sheet.{Sheet, slots, RightTables}
use Rattle.layout.specs.Standing.{occupied}
use Rattle.layout.specs.Slots.{rings_in, empty_in, cell_in}
use Rattle.layout.proofs.Standing.{stand_fewer, layout_empty}
use Rattle.calls.specs.Readings.{Relation, Refused, reading_in, reading_number, reading_value, tile_count}
use Rattle.calls.proofs.Readings.{number_same}
use Rattle.calls.specs.Several.{pair_count, primary_of, reference_of}
use Rattle.calls.specs.Says.{Readable, ReadSays, read_done, read_lists, read_slot, read_empty, SeveralSays, several_done, several_lists, several_odd, several_short}
use Rattle.reading.proofs.Call as call
use Rattle.reading.proofs.read_cell.Reads as read_reads
use Rattle.reading.proofs.row.Reads as row_reads
use Rattle.reading.proofs.tiles.Reads as tiles_reads
use Rattle.reading.proofs.several.read_cells.Reads as several_reads
use Rattle.runs.specs.Runs.{Call, after_run, Stands, standing}
use Rattle.runs.specs.Code.{Ran}
use Rattle.runs.proofs.Runs.{standing_together, standing_means, stands_slot}
use Rattle.runs.proofs.Calls.{ran_after, ran_layout, ran_lists}
use Rattle.runs.proofs.Cells.{standing_tile, self_cell_lem, empty_cell}

module _ {cs : List Call} {s : Sheet} (ran : Ran cs s) where
  -- ---- what the records say of a slot
  bare_is : (i : ℕ) → i < slots → empty_in s.records i ≡ not (occupied (standing cs i))
  bare_is i l = ap (λ (t : Sheet). empty_in t.records i) (ran_layout ran) ∙ layout_empty (standing cs) (stand_fewer (omega arith) (standing_together cs)) i l

  bare : (i : ℕ) → i < slots → standing cs i ≡ nothing → rings_in s.records i ≡ 0
  bare i l e = eqb-true (rings_in s.records i) 0 (bare_is i l ∙ ap (λ (p : Parcel). not (occupied p)) e)

  there : (i : ℕ) (R : Region) → Stands cs i R → rings_in s.records i ≢ 0
  there i R h = eqb-false (rings_in s.records i) 0 (bare_is i (stands_slot h) ∙ ap (λ (p : Parcel). not (occupied p)) ((standing_means cs i R).1 h))

  stands_some : (i : ℕ) → i < slots → rings_in s.records i ≢ 0 → (R : Region) × Stands cs i R
  stands_some i l some = go (standing cs i) refl
    where
      go : (p : Parcel) → standing cs i ≡ p → (R : Region) × Stands cs i R
      go nothing e = absurd (some (bare i l e))
      go (outline R) e = (R, (standing_means cs i R).0 e)

  tables : RightTables s.records s.relations
  tables = ((ran_lists ran).record_count, (ran_lists ran).relation_count)

  may_read : (p q : ℕ) (R : Region) → Stands cs p R → (Q : Region) → Stands cs q Q → Readable s.records s.relations p q
  may_read p q R first Q second =
      record { tables = tables; primary = stands_slot first; reference = stands_slot second; primary_there = there p R first; reference_there = there q Q second }

  cell_after : (p q : ℕ) → cell_in s.relations p q ≡ cell_in (after_run cs).relations p q
  cell_after p q = ap (λ (t : Sheet). cell_in t.relations p q) (ran_after ran)

  -- ---- a cell
  module _ (κs : _) (a : _) (r : Result ℕ Refusal) (e : _) (post : read_reads.Post κs a r e) (lent : (a.0.now ≡ s.records) × (a.1.0.now ≡ s.relations)) where
    abbrev p : ℕ
    p = a.1.1.0

    abbrev q : ℕ
    q = a.1.1.1.0

    says : (n : ℕ) → (number_in r ≡ n) ↔ ReadSays s.records s.relations p q n
    says n = rw (← lent.0, ← lent.1) (call.reading_means κs a r e post n)

    value : Readable s.records s.relations p q → reading_in r ≡ Relation (cell_in (after_run cs).relations p q)
    value h = call.reading_there κs a r e post (rw (lent.0, lent.1) h) ∙ ap (λ (l : List ℕ). Relation (cell_in l p q)) lent.1 ∙ ap Relation (cell_after p q)

    refused : (n : ℕ) → n ≢ 0 → ReadSays s.records s.relations p q n → reading_in r ≡ Refused n
    refused n some h = call.reading_refused κs a r e post n some (rw (lent.0, lent.1) h)

    said : (b : Result ℕ Refusal) {v : ℕ} → reading_in b ≡ Relation v → number_in b ≡ 0
    said b x = sym (number_same b) ∙ ap reading_number x

    pub reading_zero : (number_in r ≡ 0) ↔ (((R : Region) × Stands cs p R) × ((Q : Region) × Stands cs q Q))
    reading_zero = (λ z. found ((says 0).0 z) refl, λ h. (says 0).1 (read_done (may_read p q h.0.0 h.0.1 h.1.0 h.1.1)))
      where
        found : {n : ℕ} → ReadSays s.records s.relations p q n → n ≡ 0 → ((R : Region) × Stands cs p R) × ((Q : Region) × Stands cs q Q)
        found (read_done h) z = (stands_some p h.primary h.primary_there, stands_some q h.reference h.reference_there)
        found (read_lists w) z = absurd (omega arith)
        found (read_slot right l) z = absurd (omega arith)
        found (read_empty right hp hq x) z = absurd (omega arith)

    pub reading_past : (slots ≤ p) ⊎ (slots ≤ q) → reading_in r ≡ Refused 8
    reading_past h = refused 8 (λ z. omega arith) (read_slot tables h)

    pub reading_empty : p < slots → q < slots → (standing cs p ≡ nothing) ⊎ (standing cs q ≡ nothing) → reading_in r ≡ Refused 9
    reading_empty hp hq h = refused 9 (λ z. omega arith) (read_empty tables hp hq (⊎_elim (λ x. inl (bare p hp x)) (λ x. inr (bare q hq x)) h))

    module _ (R : Region) (first : Stands cs p R) where
      pub reading_tile : (Q : Region) → Stands cs q Q → p ≢ q → (M : Lines) → RegionBox Q M → (t : ℕ) → t < 9 → (bit (reading_value (reading_in r)) t ≡ 1) ↔ RegionHas M R t
      reading_tile Q second other M is t l = rw (ap reading_value (value (may_read p q R first Q second))) (standing_tile cs p q R first Q second other M is t l)

      pub reading_self : p ≡ q → reading_in r ≡ Relation 0
      reading_self same =
          value (may_read p q R first R (rw (← same) first)) ∙ ap (λ (k : ℕ). Relation (cell_in (after_run cs).relations p k)) (sym same) ∙ ap Relation (self_cell_lem cs p R first)

      pub reading_self_read : p ≡ q → (number_in r ≡ 0) × (reading_value (reading_in r) ≡ 0)
      reading_self_read same = (said r (reading_self same), ap reading_value (reading_self same))

      pub tiles_self : p ≡ q → (κt : _) (b : _) (n : ℕ) (f : _) → tiles_reads.Post κt b n f → b.0 ≡ reading_value (reading_in r) → n ≡ 0
      unfolding tile_count sum_to
      tiles_self same κt b n f counted of-it = counted ∙ ap tile_count (of-it ∙ (reading_self_read same).1)

  -- ---- a row
  module _ (κs : _) (a : _) (r : _) (e : _) (post : row_reads.Post κs a r e) (lent : (a.0.now ≡ s.records) × (a.1.0.now ≡ s.relations)) where
    abbrev slot : ℕ
    slot = a.1.1.0

    pub row_none : (slots ≤ slot) ⊎ ((slot < slots) × (standing cs slot ≡ nothing)) → r.now ≡ []
    row_none h =
        call.row_refused κs a r e post
        (λ x. let y : Readable s.records s.relations slot slot = rw (← lent.0, ← lent.1) x in
        ⊎_elim (λ l. omega (arith, y.primary)) (λ b. y.primary_there (bare slot b.0 b.1)) h)

    module _ (R : Region) (first : Stands cs slot R) where
      row_is : (length r.now ≡ slots) × ((k : ℕ) → k < slots → get_or r.now k 0 ≡ cell_in (after_run cs).relations slot k)
      row_is =
          let x = call.row_there κs a r e post (rw (lent.0, lent.1) (may_read slot slot R first R first)) in
          (x.0, λ k l. x.1 k l ∙ ap (λ (c : List ℕ). cell_in c slot k) lent.1 ∙ cell_after slot k)

      pub row_cell : (k : ℕ) → k < slots → get_or r.now k 0 ≡ cell_in (after_run cs).relations slot k
      row_cell = row_is.1

      pub row_length : length r.now ≡ slots
      row_length = row_is.0

      pub row_self : get_or r.now slot 0 ≡ 0
      row_self = row_is.1 slot (stands_slot first) ∙ self_cell_lem cs slot R first

      pub row_empty : (k : ℕ) → k < slots → standing cs k ≡ nothing → get_or r.now k 0 ≡ 0
      row_empty k hk h = row_is.1 k hk ∙ empty_cell cs slot k (stands_slot first) hk (inr h)

      pub row_tile : (k : ℕ) (Q : Region) → Stands cs k Q → slot ≢ k → (M : Lines) → RegionBox Q M → (t : ℕ) → t < 9 → (bit (get_or r.now k 0) t ≡ 1) ↔ RegionHas M R t
      row_tile k Q second other M is t l = rw (row_is.1 k (stands_slot second)) (standing_tile cs slot k R first Q second other M is t l)

  -- ---- a list of pairs
  module _ (κs : _) (a : _) (answer : Result (Unit {0}) Refusal) (e : _) (post : several_reads.Post κs a answer e) (lent : (a.0.now ≡ s.records) × (a.1.0.now ≡ s.relations)) where
    abbrev pairs : List ℕ
    pairs = a.1.1.0.now

    abbrev results : List ℕ
    results = a.1.1.1.0.now

    list_says : (m : ℕ) → (number_in answer ≡ m) ↔ SeveralSays s.records s.relations pairs results m
    list_says m = rw (← lent.0, ← lent.1) (call.several_means κs a answer e post m)

    pub cells_zero : (number_in answer ≡ 0) ↔ ((m : ℕ) × (length pairs ≡ 2 * m) × (m ≤ length results))
    cells_zero = (λ z. found ((list_says 0).0 z) refl, λ h. (list_says 0).1 (several_done tables h.0 h.1 h.2))
      where
        found : {j : ℕ} → SeveralSays s.records s.relations pairs results j → j ≡ 0 → (m : ℕ) × (length pairs ≡ 2 * m) × (m ≤ length results)
        found (several_done right m h l) z = (m, h, l)
        found (several_lists w) z = absurd (omega arith)
        found (several_odd right m h) z = absurd (omega arith)
        found (several_short right m h l) z = absurd (omega arith)

    module _ (done : number_in answer ≡ 0) (k : ℕ) (l : k < pair_count pairs) where
      abbrev primary : ℕ
      primary = primary_of pairs k

      abbrev reference : ℕ
      reference = reference_of pairs k

      abbrev result : ℕ
      result = get_or e.1.1.1.0.now k 0

      cell_is : Readable s.records s.relations primary reference → result ≡ cell_in (after_run cs).relations primary reference
      cell_is h =
          call.several_cell κs a answer e post done k l (rw (lent.0, lent.1) h) ∙ ap (λ (c : List ℕ). cell_in c primary reference) lent.1 ∙ cell_after primary reference

      number_is : (m : ℕ) → m ≢ 0 → ReadSays s.records s.relations primary reference m → result ≡ 1000 + m
      number_is m some h = call.several_number_lem κs a answer e post done k l m some (rw (lent.0, lent.1) h)

      pub cells_past : (slots ≤ primary) ⊎ (slots ≤ reference) → result ≡ 1008
      cells_past h = number_is 8 (λ z. omega arith) (read_slot tables h)

      pub cells_empty : primary < slots → reference < slots → (standing cs primary ≡ nothing) ⊎ (standing cs reference ≡ nothing) → result ≡ 1009
      cells_empty hp hq h = number_is 9 (λ z. omega arith) (read_empty tables hp hq (⊎_elim (λ x. inl (bare primary hp x)) (λ x. inr (bare reference hq x)) h))

      module _ (R : Region) (first : Stands cs primary R) where
        pub cells_tile : (Q : Region) → Stands cs reference Q → primary ≢ reference → (M : Lines) → RegionBox Q M → (t : ℕ) → t < 9 → (bit result t ≡ 1) ↔ RegionHas M R t
        cells_tile Q second other M is t b = rw (cell_is (may_read primary reference R first Q second)) (standing_tile cs primary reference R first Q second other M is t b)

        pub cells_self : primary ≡ reference → result ≡ 0
        cells_self same =
            cell_is (may_read primary reference R first R (rw (← same) first))
            ∙ ap (λ (j : ℕ). cell_in (after_run cs).relations primary j) (sym same) ∙ self_cell_lem cs primary R first
