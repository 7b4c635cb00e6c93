-- The call's number and report, one refusal after another.
--   report_short, report_card, report_parcels     refused with 10, the card's own number, 17
--   report_none        none of these: the number is 0;  report_done  the 19 numbers are there, and the bytes past them stay
use mathlib.Core.Path.{◌≡◌, refl, sym, ◌∙◌, ap}
use mathlib.Core.Logic.{◌≢◌}
use mathlib.Core.List.{List, ◌++◌}
use Prim.Native.Nat.{ℕ, ◌≤◌, ◌<◌}
use native.Mathlib.Omega.{arith}
use lib.ListN.{length, get_or, drop}
use borrow.Author.Tests.{lt-ltb, le-ltb, eq-eqb, ne_eqb}
use Rattle.region.proofs.OrElse.{or_else_first}
use Rattle.pair.specs.Answer.{Answer}
use Rattle.pair.specs.Answer.{report_words}
use Rattle.endian.specs.Bytes.{u16_bytes}
use Rattle.endian.specs.Placed.{placed}
use Rattle.endian.proofs.Placed.{length_same, placed_whole}
use Rattle.card.specs.Reading.{parcel_count}
use Rattle.card.specs.CardNumber.{card_number}
use Rattle.carried.specs.Pairs.{pair_in}
use Rattle.report.specs.Report.{report_numbers, report_length, report_bytes, host_number, host_report}

report_long : (a : Answer) → length (report_bytes a) ≡ report_length
report_long a = length_same (λ k. u16_bytes (get_or (report_words a) k 0)) 2 (λ k. refl) report_numbers

module _ (card report : List ℕ) where
  -- a refusal leaves the report as it was found
  refused : (n : ℕ) → n ≢ 0 → n ≡ host_number card report → (n ≡ host_number card report) × (report ≡ host_report card report)
  unfolding host_report
  refused n z e = (e, sym (rw (ne_eqb (host_number card report) 0 (λ q. z (e ∙ q))) refl))

  pub report_short : length report < report_length → (10 ≡ host_number card report) × (report ≡ host_report card report)
  unfolding host_number
  report_short h = refused 10 (λ q. omega arith) (sym (rw (lt-ltb (length report) report_length h) refl))

  module _ (room : report_length ≤ length report) where
    pub report_card : {n : ℕ} → n ≡ card_number card → n ≢ 0 → (n ≡ host_number card report) × (report ≡ host_report card report)
    unfolding host_number
    report_card {n} e z = refused n z (rw (le-ltb (length report) report_length room) (e ∙ sym (or_else_first (card_number card) _ (λ q. z (e ∙ q)))))

    module _ (good : card_number card ≡ 0) where
      pub report_parcels : parcel_count card ≢ 2 → (17 ≡ host_number card report) × (report ≡ host_report card report)
      unfolding host_number
      report_parcels z = refused 17 (λ q. omega arith) (rw (le-ltb (length report) report_length room, good, ne_eqb (parcel_count card) 2 z) refl)

      module _ (two : parcel_count card ≡ 2) where
        pub report_none : 0 ≡ host_number card report
        unfolding host_number
        report_none = rw (le-ltb (length report) report_length room, good, eq-eqb (parcel_count card) 2 two) refl

        pub report_done : {a : Answer} → a ≡ pair_in card 0 1 → {b : List ℕ} → b ≡ placed report 0 (report_bytes a)
            → (0 ≡ host_number card report) × (b ≡ host_report card report)
        unfolding host_report
        report_done {a} is e =
            let l = report_long a in (
              report_none,
              e ∙ placed_whole report (report_bytes a) (omega (arith, l, room))
                  ∙ ap (λ (k : ℕ). report_bytes a ++ drop k report) l
                  ∙ ap (λ (x : Answer). report_bytes x ++ drop report_length report) is
                  ∙ sym (rw (eq-eqb (host_number card report) 0 (sym report_none)) refl),
            )
