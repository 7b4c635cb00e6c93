-- SCOPE 9: the call for the C host, of a card's bytes and a report buffer. It answers 10 for a buffer of fewer than 38 bytes, then the card's own
-- number, 17, or 0. The report is the 19 numbers of the pair answer, two bytes each; what the buffer has behind them stays.
--   report_numbers, report_length   how many numbers a report has, and how many bytes
--   report_bytes a                  the bytes of an answer's report
--   host_number card report         the number that the call returns;  host_report card report  the report buffer at exit
use Rattle.std.specs.Prelude.{List, ◌++◌, ℕ, ◌*◌, not, ltb, eqb, length, drop}
use Rattle.plane.specs.Choice.{pick}
use Rattle.region.specs.declared.refusals.Refusal.TheVariants.{BufferShort, NotTwoParcels}
use Rattle.region.specs.Refusals.{number_if, or_else}
use Rattle.pair.specs.Answer.{Answer}
use Rattle.pair.specs.Answer.{report_words}
use Rattle.endian.specs.Placed.{word_bytes}
use Rattle.card.specs.Reading.{parcel_count}
use Rattle.card.specs.CardNumber.{card_number}
use Rattle.carried.specs.Pairs.{pair_in}

abbrev pub report_numbers : ℕ
report_numbers = 19

abbrev pub report_length : ℕ
report_length = 2 * report_numbers

abbrev pub report_bytes : Answer → List ℕ
report_bytes a = word_bytes (report_words a) report_numbers

unfoldable pub host_number : (card report : List ℕ) → ℕ
host_number card report =
    or_else (number_if (ltb (length report) report_length) BufferShort)
    (or_else (card_number card) (number_if (not (eqb (parcel_count card) 2)) NotTwoParcels))

unfoldable pub host_report : (card report : List ℕ) → List ℕ
host_report card report = pick (eqb (host_number card report) 0) (report_bytes (pair_in card 0 1) ++ drop report_length report) report
