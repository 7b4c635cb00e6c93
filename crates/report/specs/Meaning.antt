-- SCOPE 9: what the call for the C host says; notions that the laws in proofs/ state it with.
--   Reported card report    the report has room for 38 bytes, the card is good and has two parcels: a report is written
--   HostSays card report n  what it says that the call answers n: 10, then the number that refuses the card by itself, then 17, else 0
--   HostGives n             n is one of the numbers that the call can answer: 0, 10, those of a card (14, 15, 2, 3, 16, 4 to 7) or 17
--   ReportHas b a           the numbers of the answer a after the first three stand in the bytes b, each with the byte at which it begins
use Rattle.std.specs.Prelude.{◌≡◌, ◌≢◌, ◌⊎◌, List, ℕ, ◌+◌, ◌*◌, ◌≤◌, ◌<◌, length}
use Rattle.region.specs.declared.refusals.Refusal.TheVariants.{BufferShort, NotTwoParcels}
use Rattle.region.specs.Refusals.{number}
use Rattle.pair.specs.Answer.{Answer}
use Rattle.pair.specs.Meaning.{cell_from}
use Rattle.endian.specs.Bytes.{u16_at}
use Rattle.card.specs.Reading.{parcel_count}
use Rattle.card.specs.Good.{GoodCard, CardsOwn}
use Rattle.card.specs.Says.{CardSays}
use Rattle.report.specs.Report.{report_length}

pub record Reported (card report : List ℕ) : Type 0 where
  pub room : report_length ≤ length report
  pub good : GoodCard card
  pub two : parcel_count card ≡ 2

pub data HostSays (card report : List ℕ) : ℕ → Type 0 where
  host_short : length report < report_length → HostSays card report (number BufferShort)
  host_card : {n : ℕ} → report_length ≤ length report → (GoodCard card → ⊥) → CardSays card n → HostSays card report n
  host_count : report_length ≤ length report → GoodCard card → parcel_count card ≢ 2 → HostSays card report (number NotTwoParcels)
  host_done : Reported card report → HostSays card report 0

abbrev pub HostGives : ℕ → Type 0
HostGives n = (n ≡ 0) ⊎ ((n ≡ number BufferShort) ⊎ ((n ≡ number NotTwoParcels) ⊎ CardsOwn n))

pub record ReportHas (b : List ℕ) (a : Answer) : Type 0 where
  pub first : u16_at b 6 ≡ a.first
  pub second : u16_at b 8 ≡ a.second
  pub rows : u16_at b 10 ≡ a.rows
  pub columns : u16_at b 12 ≡ a.columns
  pub cells : (i j : ℕ) → i < 3 → j < 3 → u16_at b (14 + 2 * (3 * i + j)) ≡ cell_from a i j
  pub directions : u16_at b 32 ≡ a.directions
  pub first_pieces : u16_at b 34 ≡ a.first_pieces
  pub second_pieces : u16_at b 36 ≡ a.second_pieces
