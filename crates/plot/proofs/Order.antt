-- In which order a map draws the parcels of a good card.
--   drawn_slot        what is drawn k-th is the parcel of entry k, under its slot
--   north_up          what lies farther north stands higher, or as high where both fall on one tenth of a pixel
--   drawn_rising      slots rise from one to the next, so each parcel is drawn once, and none twice
use mathlib.Core.Path.{◌≡◌}
use mathlib.Core.List.{List}
use Prim.Native.Nat.{ℕ, ◌<◌}
use native.Mathlib.Omega.{arith}
use Rattle.card.specs.Reading.{parcel_count, slot_at}
use Rattle.card.specs.CardNumber.{card_number}
use Rattle.card.proofs.Good.{good_means, slots_rise}
use Rattle.scale.specs.declared.view.View.{View}
use Rattle.plot.specs.Drawn.{MapInk}

module _ {v : View} {card b c : List ℕ} {at r : ℕ} (m : MapInk v card (parcel_count card) b at r c) where
  pub drawn_slot : (k : ℕ) → k < parcel_count card → (m.shapes k).slot ≡ slot_at card k
  drawn_slot k l = (m.drawn k l).slot

  pub drawn_rising : card_number card ≡ 0 → (j k : ℕ) → j < k → k < parcel_count card → (m.shapes j).slot < (m.shapes k).slot
  drawn_rising e j k h l = omega (arith, drawn_slot j (omega arith), drawn_slot k l, slots_rise card ((good_means card).0 e) j k h l)
