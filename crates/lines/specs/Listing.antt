-- SCOPE 10: the list of a card. A card that is refused gives `refused ` and its number. Any other gives `parcels ` and their count, and then a
-- line for every two of its parcels, each as the one that is looked at in turn and with it every other as the one from which: slots, tiles,
-- directions, pieces, and ` differ` where the two engines do not agree on the pair. A line feed ends each line. Letters are the numbers of their
-- ASCII codes.
--   parcels_word, refused_word  the two words with a space behind them
--   line_of card j k           the line of parcels j and k of the card, counted from 0; of a parcel with itself there is none
--   listing card              the whole text
use Rattle.std.specs.Prelude.{List, [], ◌∷◌, ◌++◌, ℕ, eqb}
use Rattle.plane.specs.Choice.{pick}
use Rattle.endian.specs.Bytes.{joined}
use Rattle.card.specs.Reading.{parcel_count, slot_at}
use Rattle.card.specs.CardNumber.{card_number}
use Rattle.carried.specs.Pairs.{pair_in, drawn_in}
use Rattle.names.specs.Numbers.{space, decimal}
use Rattle.line.specs.Line.{line_feed, pair_line}

-- "parcels " and "refused "
abbrev pub parcels_word : List ℕ
parcels_word = 112 ∷ 97 ∷ 114 ∷ 99 ∷ 101 ∷ 108 ∷ 115 ∷ space ∷ []

abbrev pub refused_word : List ℕ
refused_word = 114 ∷ 101 ∷ 102 ∷ 117 ∷ 115 ∷ 101 ∷ 100 ∷ space ∷ []

unfoldable pub line_of : List ℕ → (j k : ℕ) → List ℕ
line_of card j k = pick (eqb j k) [] (pair_line (slot_at card j) (slot_at card k) (pair_in card j k) (drawn_in card j k))

unfoldable pub listing : List ℕ → List ℕ
listing card =
    pick (eqb (card_number card) 0)
    (parcels_word ++ (decimal (parcel_count card) ++ (line_feed ∷ joined (λ j. joined (line_of card j) (parcel_count card)) (parcel_count card))))
    (refused_word ++ (decimal (card_number card) ++ (line_feed ∷ [])))
