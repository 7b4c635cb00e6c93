use mathlib.Core.Path.{◌≡◌, sym, ap, ap₂, ◌∙◌, subst₂}
use mathlib.Core.List.{List}
use Prim.Native.Nat.{ℕ, ◌<◌}
use native.Mathlib.Omega.{arith}
use lib.IntN.{ℤ}
use Rattle.region.specs.Region.{Region, Parcel, region_of}
use Rattle.region.specs.Rules.{Keeps}
use Rattle.region.proofs.Keeps.{keeps_fewer}
use Rattle.layout.specs.Sheet.{Sheet, sheet_of}
use Rattle.layout.specs.Changes.{with_parcel}
use Rattle.layout.specs.Steps.{Ready, parcel_of}
use Rattle.layout.proofs.Steps.{outline_parcel}
use Rattle.card.specs.Reading.{parcel_count, ends_at, numbers_at, region_at, slot_at}
use Rattle.card.specs.CardNumber.{card_number}
use Rattle.card.proofs.Good.{good_means}
use Rattle.loading.proofs.lay_parcel.Goals as goal
use Rattle.loading.proofs.lay_parcel.Goals.{After-outline}

three : (f : ℕ → Region → Sheet) {i j : ℕ} {xs ys : List ℤ} {es fs : List ℕ} → i ≡ j → xs ≡ ys → es ≡ fs → f i (region_of xs es) ≡ f j (region_of ys fs)
three f p q r = λ d. f (p d) (region_of (q d) (r d))

keeps : (card : List ℕ) (k : ℕ) → card_number card ≡ 0 → k < parcel_count card → Keeps 4 (region_at card k)
keeps card k e h = keeps_fewer (omega arith) (((good_means card).0 e).parcels_keep k h)

-- what was read of the parcel
module _ (c : After-outline) where
  abbrev card : List ℕ
  card = c.args.card.now.bytes.now

  numbers_are : c.outline.result.coordinates.now ≡ numbers_at card c.args.k
  numbers_are = c.outline.ensures.0 ∙ c.parcel-parcel.ensures.numbers

  ends_are : c.outline.result.ends.now ≡ ends_at card c.args.k
  ends_are = c.outline.ensures.1 ∙ c.parcel-parcel.ensures.ends

  kept : Keeps 4 (region_at card c.args.k)
  kept = keeps card c.args.k c.args.card.now.good c.requires.0

pub write_among-requires : goal.write_among-requires
write_among-requires c =
    let a = c.args in
    let r = (goal.at.write_among-requires c).After-outline in (
      subst₂ (λ (i : ℕ) (p : Parcel). Ready (sheet_of a.xs.now a.records.now a.relations.now) i p) (sym c.slot_at-slot.ensures)
          (sym (ap parcel_of (ap₂ region_of (numbers_are r) (ends_are r)) ∙ outline_parcel (region_at (card r) a.k) (kept r)))
          (record { change = c.requires.1; keeps = kept r }),
      c.requires.2,
    )

pub returns : goal.returns
returns c =
    let a = c.args in
    let s : Sheet = sheet_of a.xs.now a.records.now a.relations.now in
    let r = (goal.at.returns c).After-outline in
    record {
      relations_after = c.write_among.ensures.relations_after
          ∙ three (λ (i : ℕ) (R : Region). with_parcel s i (parcel_of R)) c.slot_at-slot.ensures (numbers_are r) (ends_are r)
          ∙ ap (with_parcel s (slot_at (card r) a.k)) (outline_parcel (region_at (card r) a.k) (kept r));
      boxed = c.write_among.ensures.boxed;
    }
