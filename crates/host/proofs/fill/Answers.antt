use mathlib.Core.Path.{◌≡◌, sym, ◌∙◌, ap}
use mathlib.Core.List.{List}
use Prim.Native.Nat.{ℕ, ◌≤◌}
use native.Mathlib.Omega.{arith}
use lib.ListN.{length}
use borrow.Author.Rules.{rules}
use Rattle.region.specs.Refusals.{number, number_in}
use Rattle.region.proofs.OrElse.{number_some}
use Rattle.pair.specs.Answer.{Answer}
use Rattle.pair.specs.Answer.{answer_with, report_words}
use Rattle.endian.specs.Placed.{placed, word_bytes}
use Rattle.card.specs.Reading.{parcel_count}
use Rattle.card.specs.CardNumber.{card_number}
use Rattle.report.specs.Report.{report_numbers, report_length, report_bytes}
use Rattle.report.proofs.Report.{report_short, report_card, report_parcels, report_done}
use Rattle.host.proofs.fill.Goals as goal
use Rattle.host.proofs.fill.Goals.{After-report_words, Else-parcel_count-ne2, Else-report-lt-REPORT_LENGTH}

-- ---- the buffer has room;  the card is good;  it has two parcels
room : (c : Else-report-lt-REPORT_LENGTH) → report_length ≤ length c.args.report.now
room c = omega (arith, c.if-report-lt-REPORT_LENGTH.false)

module _ (c : Else-parcel_count-ne2) where
  good : card_number c.args.card.now ≡ 0
  good = sym c.in_ok-good.ensures.refusal

  two : parcel_count c.args.card.now ≡ 2
  two = ap parcel_count (sym c.in_ok-good.ensures.card) ∙ omega (arith, c.parcel_count.ensures, c.if-parcel_count-ne2.false)

written : (report : List ℕ) (a : Answer) {b ws : List ℕ} → b ≡ placed report 0 (word_bytes ws (length ws)) → length ws ≡ report_numbers → ws ≡ report_words a
    → b ≡ placed report 0 (report_bytes a)
written report a e n f = e ∙ (λ i. placed report 0 (word_bytes (f i) (n i)))

pub returns-then-report-lt-REPORT_LENGTH : goal.returns-then-report-lt-REPORT_LENGTH
returns-then-report-lt-REPORT_LENGTH c =
    let k = report_short _ _ c.if-report-lt-REPORT_LENGTH.true in
    record { value = k.0; report_after = k.1 }

pub returns-in_err-good : goal.returns-in_err-good
returns-in_err-good c =
    let e : number_in c.from_residual.result ≡ number c.in_err-good.field-0.0 = search rules in
    let k =
    report_card _ _ (room (goal.at.returns-in_err-good c).Else-report-lt-REPORT_LENGTH) (e ∙ c.in_err-good.ensures.refusal)
    (λ z. number_some c.in_err-good.field-0.0 (sym e ∙ z)) in
    record { value = k.0; report_after = k.1 }

pub returns-then-parcel_count-ne2 : goal.returns-then-parcel_count-ne2
returns-then-parcel_count-ne2 c =
    let at = goal.at.returns-then-parcel_count-ne2 c in
    let k =
    report_parcels _ _ (room at.Else-report-lt-REPORT_LENGTH) (sym c.in_ok-good.ensures.refusal)
    (λ q. c.if-parcel_count-ne2.true (c.parcel_count.ensures.0 ∙ ap parcel_count c.in_ok-good.ensures.card ∙ q)) in
    record { value = k.0; report_after = k.1 }

-- there are 19 words, as their type says
nineteen : (c : After-report_words) → length c.report_words.result ≡ report_numbers
nineteen c = search rules

pub put_all-requires : goal.put_all-requires
put_all-requires c =
    let at = goal.at.put_all-requires c in
    omega (arith, nineteen at.After-report_words, room at.Else-report-lt-REPORT_LENGTH)

pub returns : goal.returns
returns c =
    let at = goal.at.returns c in
    let k =
    report_done _ _ (room at.Else-report-lt-REPORT_LENGTH) (good at.Else-parcel_count-ne2) (two at.Else-parcel_count-ne2) (rw c.in_ok-good.ensures.card at c.pair_in-a.ensures)
    (written _ (answer_with c.pair_in-a.result) c.put_all.ensures (nineteen at.After-report_words) c.report_words.ensures) in
    record { value = k.0; report_after = k.1 }
