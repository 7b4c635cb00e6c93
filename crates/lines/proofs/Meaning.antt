-- What the list says of any card:
--   list_good            a good card gives the count of its parcels, and then the lines (specs/Listing)
--   list_refused         any other gives the one line with its number, which is 2 to 7, 14, 15 or 16
--   list_left            from the contract of `list`: the first r bytes of its buffer at exit are the list, where r is its answer
--   decimal_starts       a number is written with some digit
-- What a line of the list says. The card is good, and j and k are two different of its entries; the line is that of parcel j as seen from parcel k.
--   answered             both parcels keep all rules: their pair answer has no refusal
--   tiles, directions    the numbers of the tiles and of the directions that the line names
--   line_is              the line: both slots; the names of the tiles and those of the directions, a colon between two; the pieces; one line feed
--   tiles_mean           tile t is named exactly when the rule finds parcel j's region in tile t of the box of parcel k's
--   directions_mean      direction t is named exactly when a cell that holds the one lies there from a cell that holds the other
--   tile_printed, direction_printed     so the name of tile t, of direction t, stands between the colons of its word exactly then
--   tiles_rise, directions_rise     both in rising order, so none twice
--   pieces_mean          the last number counts the pieces of parcel j against that box;  pieces_least  it is at least 3
--   tiles_some, directions_some     the words of the tiles and of the directions are not empty
--   fields_start         so no field of the line is
use mathlib.Core.Path.{◌≡◌, refl, sym, ◌∙◌, ap}
use mathlib.Core.Logic.{◌↔◌, ◌≢◌}
use mathlib.Core.Bool.{Bool, true, false}
use mathlib.Core.List.{List, [], ◌∷◌, ◌++◌, map}
use Prim.Native.Nat.{ℕ, suc, ◌/◌, ◌%◌, ◌≤◌, ◌<◌}
use native.Mathlib.Omega.{arith}
use lib.Dec.{ltb}
use lib.ListN.{length, get_or, take, drop}
use lib.Seq.{take-append_seam}
use borrow.Author.Tests.{eq-eqb}
use Rattle.plane.specs.Choice.{pick}
use Rattle.plane.specs.Points.{Lines}
use Rattle.plane.specs.TileSet.{bit}
use Rattle.plane.proofs.Logic.{iff_join}
use Rattle.plane.specs.Lists.{Among}
use Rattle.region.specs.Region.{Region}
use Rattle.region.proofs.Keeps.{keeps_fewer, Sized, sized}
use Rattle.region.proofs.Ends.{start_le}
use Rattle.relation.specs.Relation.{RegionBox, RegionHas, RegionPieces}
use Rattle.pair.specs.Answer.{Answer}
use Rattle.pair.specs.Answer.{given, pair_of}
use Rattle.pair.specs.Meaning.{Answered, Lies}
use Rattle.pair.proofs.Laws.{fields_are, some_tile, tile_means, pieces_between, relation_below}
use Rattle.pair.proofs.Laws as pair
use Rattle.pair.proofs.Compass.{direction_means}
use Rattle.pair.proofs.Somewhere.{direction_some}
use Rattle.endian.specs.Bytes.{joined}
use Rattle.card.specs.Reading.{parcel_count, slot_at, region_at}
use Rattle.card.specs.CardNumber.{card_number}
use Rattle.card.specs.Good.{GoodCard, CardsOwn}
use Rattle.carried.specs.Pairs.{pair_in}
use Rattle.card.proofs.Good.{good_means}
use Rattle.card.proofs.Numbers.{not_good_means}
use Rattle.io.specs.Digits.{hex_digit_ascii, last_digits}
use Rattle.names.specs.Names.{name_of, names_of, B, O}
use Rattle.names.specs.Numbers.{space, decimal}
use Rattle.line.specs.Line.{line_feed, last_words, pair_line}
use Rattle.lines.specs.Listing.{parcels_word, refused_word, line_of, listing}
use Rattle.names.specs.Fields.{Starts, between, set_bits, StandsIn}
use Rattle.names.proofs.NameWords.{set_bits_mean, set_bits_rise, names_are, names_start, some_bit}
use Rattle.names.proofs.NameFields.{tile_named, direction_named}
use Rattle.lines.proofs.Differ.{never_differs}
use Rattle.lines.proofs.PairLines.{line_some, refused}
use Rattle.lines.proofs.list.Reads as list_reads

-- a bit that is below 9 and set, by what a set bit says
nine_mean : (s : ℕ) (Says : ℕ → Type 0) → ((t : ℕ) → t < 9 → (bit s t ≡ 1) ↔ Says t) → (t : ℕ) → Among t (set_bits s 9) ↔ ((t < 9) × Says t)
nine_mean s Says says t = iff_join (set_bits_mean s 9 t) (λ p. (p.0, (says t p.0).0 p.1), λ p. (p.0, (says t p.0).1 p.1))

-- ---- the whole list
module _ (card : List ℕ) where
  pub list_good : GoodCard card
      → listing card ≡ parcels_word ++ (decimal (parcel_count card) ++ (line_feed ∷ joined (λ j. joined (line_of card j) (parcel_count card)) (parcel_count card)))
  unfolding listing
  list_good good = rw (eq-eqb (card_number card) 0 ((good_means card).1 good)) refl

  pub list_refused : (GoodCard card → ⊥) → (listing card ≡ refused_word ++ (decimal (card_number card) ++ (line_feed ∷ []))) × CardsOwn (card_number card)
  list_refused bad = (refused card (λ z. bad ((good_means card).0 z)), (not_good_means card).1 bad)

pub list_left : (κs : _) (a : _) (r : ℕ) (s : _) → list_reads.Post κs a r s → take r s.1.0.now ≡ listing a.0.now
list_left κs a r s post = let l = listing a.0.now in (λ i. take (post.0 i) (post.1 i)) ∙ take-append_seam l (drop (length l) a.1.0.now)

-- ---- a number is not empty
pub decimal_starts : (n : ℕ) → Starts (decimal n)
decimal_starts n = go (ltb n 10) (ltb n 100) (ltb n 1000) (ltb n 10000)
  where
    last : (l : List ℕ) (x : ℕ) → Starts (l ++ (x ∷ []))
    last [] x = (x, [], refl)
    last (y ∷ l) x = (y, l ++ (x ∷ []), refl)

    some_digits : (k : ℕ) → Starts (last_digits 10 (suc k) n)
    some_digits k = last (last_digits 10 k (n / 10)) (hex_digit_ascii (n % 10))

    go : (x y z w : Bool) → Starts (last_digits 10 (pick x 1 (pick y 2 (pick z 3 (pick w 4 5)))) n)
    go true y z w = some_digits 0
    go false true z w = some_digits 1
    go false false true w = some_digits 2
    go false false false true = some_digits 3
    go false false false false = some_digits 4

module _ (card : List ℕ) (good : GoodCard card) (j k : ℕ) (hj : j < parcel_count card) (hk : k < parcel_count card) (other : j ≢ k) where
  abbrev first : Region
  first = region_at card j

  abbrev second : Region
  second = region_at card k

  abbrev answer : Answer
  answer = pair_of first second

  pub answered : Answered first second
  answered = record { first_kept = good.parcels_keep j hj; second_kept = good.parcels_keep k hk }

  abbrev pub tiles : List ℕ
  tiles = set_bits answer.first 9

  abbrev pub directions : List ℕ
  directions = set_bits answer.directions 9

  pub line_is : line_of card j k
      ≡ decimal (slot_at card j) ++ (space ∷ (decimal (slot_at card k) ++ (space ∷ (between (map (name_of B) tiles) ++ (space
      ∷ (between (map (name_of O) directions) ++ (space ∷ (decimal answer.first_pieces ++ (line_feed ∷ [])))))))))
  unfolding pair_line pair_in
  line_is =
      line_some card j k other
      ∙ ap (λ (t : Bool). decimal (slot_at card j) ++ (space ∷ (decimal (slot_at card k) ++ (space ∷ (names_of B answer.first ++ (space
      ∷ (names_of O answer.directions ++ (space ∷ last_words answer.first_pieces t)))))))) (never_differs card j k)
      ∙ ap (λ (w : List ℕ). decimal (slot_at card j) ++ (space ∷ (decimal (slot_at card k) ++ (space ∷ (w ++ (space
      ∷ (names_of O answer.directions ++ (space ∷ (decimal answer.first_pieces ++ (line_feed ∷ [])))))))))) (names_are B answer.first)
      ∙ ap (λ (w : List ℕ). decimal (slot_at card j) ++ (space ∷ (decimal (slot_at card k) ++ (space ∷ (between (map (name_of B) tiles) ++ (space
      ∷ (w ++ (space ∷ (decimal answer.first_pieces ++ (line_feed ∷ [])))))))))) (names_are O answer.directions)

  pub tiles_mean : (M : Lines) → RegionBox second M → (t : ℕ) → Among t tiles ↔ ((t < 9) × RegionHas M first t)
  tiles_mean M is = nine_mean answer.first (RegionHas M first) (tile_means first second answered M is)

  pub tile_printed : (M : Lines) → RegionBox second M → (t : ℕ) → t < 9 → StandsIn (name_of B t) (between (map (name_of B) tiles)) ↔ RegionHas M first t
  tile_printed M is t h = rw (← names_are B answer.first) (iff_join (tile_named answer.first t h) (tile_means first second answered M is t h))

  pub tiles_rise : (i i' : ℕ) → i < i' → i' < length tiles → get_or tiles i 0 < get_or tiles i' 0
  tiles_rise = set_bits_rise answer.first 9

  pub directions_mean : (L M : Lines) (one : RegionBox first L) (two : RegionBox second M) (t : ℕ)
      → Among t directions ↔ ((t < 9) × Lies first second L M t)
  directions_mean L M one two =
      nine_mean answer.directions (Lies first second L M) (direction_means first second answered L M one two)

  pub direction_printed : (L M : Lines) (one : RegionBox first L) (two : RegionBox second M) (t : ℕ) → t < 9
      → StandsIn (name_of O t) (between (map (name_of O) directions)) ↔ Lies first second L M t
  direction_printed L M one two t h =
      rw (← names_are O answer.directions) (iff_join (direction_named answer.directions t h) (direction_means first second answered L M one two t h))

  pub directions_rise : (i i' : ℕ) → i < i' → i' < length directions → get_or directions i 0 < get_or directions i' 0
  directions_rise = set_bits_rise answer.directions 9

  pub pieces_mean : (M : Lines) → RegionBox second M → (m : ℕ) → (answer.first_pieces ≡ m) ↔ RegionPieces M first m
  pieces_mean = pair.pieces_mean first second answered

  pub pieces_least : 3 ≤ answer.first_pieces
  pieces_least =
      let s : Sized first = sized (keeps_fewer (omega arith) (good.parcels_keep j hj)) in
      omega (arith, s.grown 0 s.some, start_le first.ends s.grown 1 (length first.ends) s.some (omega arith), (pieces_between first second answered).0)

  pub tiles_some : Starts (between (map (name_of B) tiles))
  unfolding given
  tiles_some =
      let is : answer.first ≡ _ = ap (λ (a : Answer). a.first) (fields_are first second answered) in
      let b = some_bit answer.first (relation_below first second answered) (λ z. (some_tile first second answered).0 (sym is ∙ z)) in
      rw (← names_are B answer.first) (names_start B answer.first b.0 b.1 b.2)

  pub directions_some : Starts (between (map (name_of O) directions))
  directions_some =
      let (t, h, e) = direction_some first second answered in
      rw (← names_are O answer.directions) (names_start O answer.directions t h e)

  pub fields_start : Starts (decimal (slot_at card j)) × Starts (decimal (slot_at card k)) × Starts (between (map (name_of B) tiles))
      × Starts (between (map (name_of O) directions)) × Starts (decimal answer.first_pieces)
  fields_start = (decimal_starts (slot_at card j), decimal_starts (slot_at card k), tiles_some, directions_some, decimal_starts answer.first_pieces)
