-- The lines of a card.
--   line_none, line_some            the line of two parcels, of one parcel with itself and of different ones
--   line_le, rows_le                81 bytes hold a line, and 82,944 those of a card
--   listed, refused                 the whole text, of a good card and of any other
--   counted, few_parcels            a good card has its count of parcels, at most 32
--   listing_le                      the buffer holds it
use mathlib.Core.Path.{◌≡◌, refl, sym, ap}
use mathlib.Core.Logic.{◌≢◌}
use mathlib.Core.Bool.{Bool, true, false}
use mathlib.Core.List.{List, [], ◌∷◌, ◌++◌}
use Prim.Native.Nat.{ℕ, zero, suc, ◌*◌, ◌≤◌}
use native.Mathlib.Omega.{arith}
use native.Mathlib.Nat.{le_trans, le_of_eq, add-le-add, mul-suc, mul-le-mul_left}
use native.Mathlib.Decide.{ℕ_discrete}
use lib.Dec.{eqb}
use lib.ListN.{length, length-append}
use borrow.Author.Tests.{eq-eqb, ne_eqb}
use Rattle.plane.specs.Choice.{pick}
use Rattle.endian.specs.Bytes.{joined}
use Rattle.card.specs.Reading.{parcel_count, slot_at}
use Rattle.card.specs.CardNumber.{card_number}
use Rattle.card.proofs.Tests.{header_means}
use Rattle.card.proofs.Good.{good_means, good_right}
use Rattle.carried.specs.Pairs.{pair_in, drawn_in}
use Rattle.names.specs.Numbers.{decimal}
use Rattle.line.specs.Line.{line_feed, pair_line}
use Rattle.line.proofs.Line.{word, pair_line_le}
use Rattle.lines.specs.Listing.{parcels_word, refused_word, line_of, listing}
use Rattle.lines.specs.Steps.{row_of}
use Rattle.names.proofs.Decimals.{decimal_le}

module _ (card : List ℕ) (j k : ℕ) where
  pub line_none : j ≡ k → line_of card j k ≡ []
  unfolding line_of
  line_none e = rw (eq-eqb j k e) refl

  pub line_some : j ≢ k → line_of card j k ≡ pair_line (slot_at card j) (slot_at card k) (pair_in card j k) (drawn_in card j k)
  unfolding line_of
  line_some e = rw (ne_eqb j k e) refl

  line_le : length (line_of card j k) ≤ 81
  unfolding line_of
  line_le = go (eqb j k)
    where
      go : (t : Bool) → length (pick t [] (pair_line (slot_at card j) (slot_at card k) (pair_in card j k) (drawn_in card j k))) ≤ 81
      go true = omega arith
      go false = pair_line_le (slot_at card j) (slot_at card k) (pair_in card j k) (drawn_in card j k)

joined_le : (f : ℕ → List ℕ) (c : ℕ) → ((k : ℕ) → length (f k) ≤ c) → (n : ℕ) → length (joined f n) ≤ c * n
unfolding joined
joined_le f c h zero = omega arith
joined_le f c h (suc n) = le_trans (le_of_eq (length-append (joined f n) (f n))) (le_trans (add-le-add (joined_le f c h n) (h n)) (le_of_eq (sym (mul-suc c n))))

-- at most n lists of at most c bytes each
few_le : (f : ℕ → List ℕ) (c n m : ℕ) → ((k : ℕ) → length (f k) ≤ c) → n ≤ m → length (joined f n) ≤ c * m
few_le f c n m h l = le_trans (joined_le f c h n) (mul-le-mul_left c l)

module _ (card : List ℕ) where
  rows_le : parcel_count card ≤ 32 → length (joined (row_of card) (parcel_count card)) ≤ 82944
  rows_le few = few_le (row_of card) 2592 (parcel_count card) 32 (λ j. few_le (line_of card j) 81 (parcel_count card) 32 (line_le card j) few) few

  pub refused : card_number card ≢ 0 → listing card ≡ refused_word ++ (decimal (card_number card) ++ (line_feed ∷ []))
  unfolding listing
  refused e = rw (ne_eqb (card_number card) 0 e) refl

  pub listed : card_number card ≡ 0 → listing card ≡ parcels_word ++ ((decimal (parcel_count card) ++ (line_feed ∷ [])) ++ joined (row_of card) (parcel_count card))
  unfolding listing
  listed e = rw (eq-eqb (card_number card) 0 e) (ap (λ (l : List ℕ). parcels_word ++ l) (word (decimal (parcel_count card)) line_feed _))

  pub counted : card_number card ≡ 0 → 2 ≤ length card
  counted e = omega (arith, (header_means card (good_right card ((good_means card).0 e)).parcels.header).total)

  pub few_parcels : card_number card ≡ 0 → parcel_count card ≤ 32
  few_parcels e = (header_means card (good_right card ((good_means card).0 e)).parcels.header).few_parcels

  pub listing_le : length (listing card) ≤ 131072
  listing_le =
      elim (ℕ_discrete (card_number card) 0) [
        | yes e ↦ omega (
          arith,
          ap length (listed e),
          length-append parcels_word ((decimal (parcel_count card) ++ (line_feed ∷ [])) ++ joined (row_of card) (parcel_count card)),
          length-append (decimal (parcel_count card) ++ (line_feed ∷ [])) (joined (row_of card) (parcel_count card)),
          length-append (decimal (parcel_count card)) (line_feed ∷ []),
          decimal_le (parcel_count card),
          rows_le (few_parcels e),
        )
        | no e ↦ omega (
          arith,
          ap length (refused e),
          length-append refused_word (decimal (card_number card) ++ (line_feed ∷ [])),
          length-append (decimal (card_number card)) (line_feed ∷ []),
          decimal_le (card_number card),
        )
      ]
