use mathlib.Core.Path.{◌≡◌, sym, ◌∙◌, ap}
use mathlib.Core.List.{List, [], ◌∷◌, ◌++◌}
use Prim.Native.Nat.{ℕ, ◌+◌, ◌≤◌}
use native.Mathlib.Omega.{arith}
use lib.ListN.{length, drop}
use Rattle.endian.specs.Bytes.{joined}
use Rattle.region.specs.declared.refusals.Refusal.{Refusal}
use Rattle.region.specs.Refusals.{number}
use Rattle.region.proofs.OrElse.{number_some}
use Rattle.card.specs.Reading.{parcel_count}
use Rattle.card.specs.CardNumber.{card_number}
use Rattle.names.specs.Numbers.{decimal}
use Rattle.line.specs.Line.{line_feed}
use Rattle.lines.specs.Listing.{parcels_word, refused_word, listing}
use Rattle.names.specs.Steps.{Put}
use Rattle.lines.specs.Steps.{row_of}
use Rattle.names.proofs.Putting.{put_as, put_then, put_whole, room_first, room_next}
use Rattle.lines.proofs.PairLines.{listed, refused, listing_le}
use Rattle.lines.proofs.list.Goals as goal
use Rattle.lines.proofs.list.Goals.{After-parcel_count}

-- the whole text t has room, and is what was put
module _ (card out : List ℕ) {t : List ℕ} (size : length out ≡ 131072) (is : listing card ≡ t) where
  room : 0 + length t ≤ length out
  room = omega (arith, listing_le card, ap length is)

  whole : {r : ℕ} {c : List ℕ} → Put out 0 t r c → (r ≡ length (listing card)) × (c ≡ listing card ++ drop (length (listing card)) out)
  whole p = put_whole (omega (arith, listing_le card)) (put_as (sym is) p)

-- ---- a card that is refused
refusal : (card : List ℕ) (k : Refusal) → number k ≡ card_number card → (n : ℕ) → n ≡ number k → listing card ≡ refused_word ++ (decimal n ++ (line_feed ∷ []))
refusal card k is n e = rw (e, is) (refused card (λ z. number_some k (is ∙ z)))

-- ---- a good card: the word, the count, and then the lines
full : (card : List ℕ) (n : ℕ) → card_number card ≡ 0 → n ≡ parcel_count card
    → listing card ≡ parcels_word ++ ((decimal n ++ (line_feed ∷ [])) ++ joined (row_of card) (parcel_count card))
full card n g e = rw e (listed card g)

module _ (c : After-parcel_count) where
  abbrev card : List ℕ
  card = c.in-Ok.card.bytes.now

  abbrev same : card ≡ c.args.card.now
  same = c.in-Ok.ensures.card

  all : listing card ≡ parcels_word ++ ((decimal c.parcel_count.result ++ (line_feed ∷ [])) ++ joined (row_of card) (parcel_count card))
  all = full card c.parcel_count.result c.in-Ok.card.good c.parcel_count.ensures.0

  behind_word : c.put_text-at.result + length ((decimal c.parcel_count.result ++ (line_feed ∷ [])) ++ joined (row_of card) (parcel_count card)) ≤ length c.put_text-at.new.out
  behind_word =
      room_next parcels_word ((decimal c.parcel_count.result ++ (line_feed ∷ [])) ++ joined (row_of card) (parcel_count card)) c.put_text-at.ensures
      (room card c.args.out.now (omega arith) all)

pub put_number-requires : goal.put_number-requires
put_number-requires c =
    let card = c.args.card.now in
    room_next refused_word (decimal c.from.result ++ (line_feed ∷ [])) c.put_text-at-in-Err.ensures
    (room card c.args.out.now (omega arith) (refusal card c.in-Err.refusal c.in-Err.ensures.refusal c.from.result c.from.ensures))

pub put_number-at-requires : goal.put_number-at-requires
put_number-at-requires c =
    room_first c.put_text-at.result _ (decimal c.parcel_count.result ++ (line_feed ∷ [])) _ (behind_word c)

pub put_rows-requires : goal.put_rows-requires
put_rows-requires c =
    let p = (goal.at.put_rows-requires c).After-parcel_count in
    room_next (decimal c.parcel_count.result ++ (line_feed ∷ [])) (joined (row_of (card p)) (parcel_count (card p))) c.put_number-at.ensures (behind_word p)

pub returns-in-Ok : goal.returns-in-Ok
returns-in-Ok c =
    let p = (goal.at.returns-in-Ok c).After-parcel_count in
    let count = decimal c.parcel_count.result ++ (line_feed ∷ []) in
    let lines = joined (row_of (card p)) (parcel_count (card p)) in
    let k =
    whole (card p) c.args.out.now (omega arith) (all p)
    (put_then parcels_word (count ++ lines) c.put_text-at.ensures (put_then count lines c.put_number-at.ensures c.put_rows.ensures)) in
    rw (← same p) (record { value = k.0; out_after = k.1 })

pub returns-in-Err : goal.returns-in-Err
returns-in-Err c =
    let card = c.args.card.now in
    let k =
    whole card c.args.out.now (omega arith) (refusal card c.in-Err.refusal c.in-Err.ensures.refusal c.from.result c.from.ensures)
    (put_then refused_word (decimal c.from.result ++ (line_feed ∷ [])) c.put_text-at-in-Err.ensures c.put_number.ensures) in
    record { value = k.0; out_after = k.1 }
