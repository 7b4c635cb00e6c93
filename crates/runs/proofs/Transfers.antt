-- Writing a card and loading it, over the two calls' own contracts: `wrote` is the contract of a writing that answered number 0, `loaded` that of a
-- loading.
-- Written, then loaded: the loading is lent the first bytes of the buffer as the writing left it, as many as it answered, and any three lists of the
-- sheet's lengths.
--   written_loads        where the parcels written keep rules 1 to 7, the loading answers 0 and lays out these parcels
--   run_written_loads    where the sheet written is one that a run of calls left, the loading answers 0 and leaves that sheet
-- Loaded, then written: the loading answered 0, and the sheet that it left is written.
--   loaded_writes        the first bytes of the buffer, as many as the writing answers, are the bytes that were loaded
use mathlib.Core.Path.{◌≡◌, sym, ◌∙◌, ap, subst}
use mathlib.Core.List.{List}
use Prim.Native.Nat.{ℕ, ◌<◌}
use lib.ListN.{get_or, take}
use Rattle.std.specs.Prelude.{Result, Ok, Err}
use Rattle.region.specs.declared.refusals.Refusal.{Refusal}
use Rattle.region.specs.Refusals.{number_in}
use Rattle.layout.specs.Sheet.{Sheet, sheet_of, RightLists}
use Rattle.layout.specs.Standing.{StandTogether}
use Rattle.layout.specs.Layout.{layout}
use Rattle.layout.specs.Slots.{parcel_at}
use Rattle.layout.proofs.RightLists.{lists_mean}
use Rattle.layout.proofs.Standing.{stand_same, layout_same}
use Rattle.card.specs.Reading.{parcel_in}
use Rattle.card.specs.Good.{GoodCard}
use Rattle.writing.specs.Write.{written_in, card_of}
use Rattle.loading.specs.Says.{load_done}
use Rattle.loading.proofs.Loads.{loads_exactly}
use Rattle.loading.proofs.Call.{load_means, load_laid}
use Rattle.writing.proofs.Call.{write_bytes}
use Rattle.loading.proofs.load.Reads as load_reads
use Rattle.writing.proofs.write.Reads as write_reads
use Rattle.runs.specs.Runs.{Call, standing}
use Rattle.runs.specs.Code.{Ran}
use Rattle.runs.proofs.RoundTrip.{written_parcel, written_good}
use Rattle.runs.proofs.Runs.{standing_together}
use Rattle.runs.proofs.Calls.{ran_layout, ran_parcel}
use Rattle.runs.proofs.Cards.{load_then_write}

zero_written : (r : Result ℕ Refusal) → number_in r ≡ 0 → (written_in r).number ≡ 0
zero_written (Ok n) e = e
zero_written (Err k) e = e

module _ (κw : _) (aw : _) (r : Result ℕ Refusal) (ew : _) (wrote : write_reads.Post κw aw r ew) (done : number_in r ≡ 0)
    (κl : _) (al : _) (l : Result (Unit {0}) Refusal) (el : _) (loaded : load_reads.Post κl al l el) where
  abbrev sheet_written : Sheet
  sheet_written = sheet_of aw.0.now aw.1.0.now aw.1.1.0.now

  abbrev written_bytes : List ℕ
  written_bytes = take (written_in r).length ew.1.1.1.0.now

  abbrev card : List ℕ
  card = al.1.1.1.0.now

  abbrev sheet_before : Sheet
  sheet_before = sheet_of al.0.now al.1.0.now al.1.1.0.now

  abbrev sheet_after : Sheet
  sheet_after = sheet_of el.0.now el.1.0.now el.1.1.0.now

  -- ---- written, then loaded
  module _ (bytes : card ≡ written_bytes) (right : RightLists sheet_before) where
    card_is : card ≡ card_of (parcel_at sheet_written)
    card_is = bytes ∙ write_bytes κw aw r ew wrote (zero_written r done)

    pub written_loads : StandTogether 7 (parcel_at sheet_written) → (number_in l ≡ 0) × (sheet_after ≡ layout (parcel_at sheet_written))
    written_loads stand =
        let good : GoodCard card = subst GoodCard (sym card_is) (written_good (parcel_at sheet_written) stand) in
        let zero : number_in l ≡ 0 = (load_means κl al l el loaded 0).1 (load_done right good) in (
          zero,
          load_laid κl al l el loaded zero ∙ ap (λ (b : List ℕ). layout (parcel_in b)) card_is
              ∙ layout_same (parcel_in (card_of (parcel_at sheet_written))) (parcel_at sheet_written) (written_parcel (parcel_at sheet_written) stand),
        )

    pub run_written_loads : {cs : List Call} → Ran cs sheet_written → (number_in l ≡ 0) × (sheet_after ≡ sheet_written)
    run_written_loads {cs} ran =
        let x = written_loads (stand_same (standing cs) (parcel_at sheet_written) (λ i h. sym (ran_parcel ran i h)) (standing_together cs)) in
        (x.0, x.1 ∙ layout_same (parcel_at sheet_written) (standing cs) (ran_parcel ran) ∙ sym (ran_layout ran))

  -- ---- loaded, then written
  pub loaded_writes : number_in l ≡ 0 → sheet_written ≡ sheet_after → ((j : ℕ) → get_or card j 0 < 256) → written_bytes ≡ card
  loaded_writes zero same low =
      let x = (loads_exactly sheet_before card).0 (sym loaded.0 ∙ zero) in
      write_bytes κw aw r ew wrote (zero_written r done) ∙ ap (λ (s : Sheet). card_of (parcel_at s)) (same ∙ loaded.1)
      ∙ load_then_write sheet_before card ((lists_mean sheet_before).1 x.0) x.1 low
