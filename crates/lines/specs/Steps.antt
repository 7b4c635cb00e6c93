-- No rule stands here: what the functions behind the listing compute. No promise hangs on this name: proofs/ shows that the steps
-- together are the listing.
--   row_of card j           the lines of parcel j as primary
use Rattle.std.specs.Prelude.{List, ℕ}
use Rattle.endian.specs.Bytes.{joined}
use Rattle.card.specs.Reading.{parcel_count}
use Rattle.lines.specs.Listing.{line_of}

abbrev pub row_of : List ℕ → ℕ → List ℕ
row_of card j = joined (line_of card j) (parcel_count card)
