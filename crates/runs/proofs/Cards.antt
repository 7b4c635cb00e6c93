-- Cards and the sheet of a run.
--   write_then_load    the card of what stands after a run, loaded into any sheet, gives the run's sheet again
--   load_then_write    writing what a good card laid out gives the card's bytes again
use mathlib.Core.Path.{◌≡◌, refl, sym, ◌∙◌, ap}
use mathlib.Core.Bool.{false}
use mathlib.Core.List.{List}
use Prim.Native.Nat.{ℕ, ◌<◌}
use native.Mathlib.Omega.{arith}
use lib.ListN.{get_or}
use borrow.Author.Tests.{eq-eqb}
use Rattle.region.specs.Region.{Parcel}
use Rattle.layout.specs.Sheet.{Sheet, slots, wrong_lists}
use Rattle.layout.specs.Standing.{StandTogether}
use Rattle.layout.specs.Layout.{layout}
use Rattle.layout.specs.Slots.{parcel_at}
use Rattle.layout.proofs.Standing.{stand_fewer, stand_same, layout_parcel, layout_same}
use Rattle.card.specs.Reading.{parcel_in}
use Rattle.card.specs.CardNumber.{card_number}
use Rattle.card.specs.Good.{GoodCard}
use Rattle.card.proofs.Good.{good_means}
use Rattle.loading.specs.Load as Load
use Rattle.loading.specs.Load.{load_number}
use Rattle.writing.specs.Write.{card_of}
use Rattle.loading.proofs.Loading.{good_stands}
use Rattle.writing.proofs.Lengths.{card_same}
use Rattle.runs.specs.Runs.{Call, after_run, standing}
use Rattle.runs.proofs.RoundTrip.{written_parcel, written_good}
use Rattle.runs.proofs.LoadedCard.{one_form}
use Rattle.runs.proofs.Runs.{standing_together, run_layout}

-- loading a good card lays it out
load_good : (s : Sheet) (b : List ℕ) → wrong_lists s ≡ false → GoodCard b → Load.load s b ≡ layout (parcel_in b)
unfolding Load.load load_number
load_good s b w good = rw (w, eq-eqb (card_number b) 0 ((good_means b).1 good)) refl

-- loading the card of parcels that may stand lays them out
pub load_written : (s : Sheet) (st : ℕ → Parcel) → wrong_lists s ≡ false → StandTogether 7 st → Load.load s (card_of st) ≡ layout st
load_written s st w stand = load_good s (card_of st) w (written_good st stand) ∙ layout_same (parcel_in (card_of st)) st (written_parcel st stand)

module _ (cs : List Call) where
  sheet_parcel : (i : ℕ) → i < slots → parcel_at (after_run cs) i ≡ standing cs i
  sheet_parcel i h = ap (λ (s : Sheet). parcel_at s i) (run_layout cs) ∙ layout_parcel (standing cs) (stand_fewer (omega arith) (standing_together cs)) i h

  pub write_then_load : (s : Sheet) → wrong_lists s ≡ false → Load.load s (card_of (parcel_at (after_run cs))) ≡ after_run cs
  write_then_load s w =
      load_written s (parcel_at (after_run cs)) w (stand_same (standing cs) (parcel_at (after_run cs)) (λ i h. sym (sheet_parcel i h)) (standing_together cs))
      ∙ layout_same (parcel_at (after_run cs)) (standing cs) sheet_parcel ∙ sym (run_layout cs)

pub load_then_write : (s : Sheet) (b : List ℕ) → wrong_lists s ≡ false → GoodCard b → ((j : ℕ) → get_or b j 0 < 256) → card_of (parcel_at (Load.load s b)) ≡ b
load_then_write s b w good low =
    ap (λ (t : Sheet). card_of (parcel_at t)) (load_good s b w good)
    ∙ card_same (parcel_at (layout (parcel_in b))) (parcel_in b) (λ i h. layout_parcel (parcel_in b) (stand_fewer (omega arith) (good_stands b good)) i h) ∙ one_form b good low
