-- What the call for the C host answers, exactly when. The first region is that of the card's parcel 0, the second that of parcel 1; their pair answer
-- is explained field by field in pair/proofs (Laws, Cells, Directions, Compass).
-- The number:
--   host_says              it is n exactly when case n of specs/Meaning holds
--   number_none_means      the number is 0 exactly when the report has room for 38 bytes, the card is good and has two parcels (`Reported`)
--   number_either          it is 0, 10, one of the numbers of a card, or 17, and no other (`HostGives`; that each of them comes: proofs/Numbers)
--   number_not_withheld    so it is never the number that was taken out
-- The report:
--   report_kept            beside a number that is not 0 it is as it was found
--   report_length_lem      it is always as long as it was
--   report_behind          its bytes past 38 are as they were found
--   report_reads           where the number is 0, number k read from it is number k of the pair answer's 19
--   report_named           the first three, number, region and ring, are 0
--   report_has             the other sixteen, one by one (`ReportHas`)
--   report_tile            bit t of its number 3 is 1 exactly when the first region has tile t of the second's box;  report_back_tile  bit t of number
--                          4 exactly when the second has tile t of the first's
use mathlib.Core.Path.{◌≡◌, refl, sym, ◌∙◌, ap, subst}
use mathlib.Core.Logic.{◌↔◌, ◌≢◌, inl, inr, ⊎_elim}
use mathlib.Core.List.{List, [], ◌∷◌, ◌++◌}
use Prim.Native.Nat.{ℕ, ◌+◌, ◌-◌, ◌*◌, ◌/◌, ◌%◌, ◌≤◌, ◌<◌}
use native.Mathlib.Omega.{arith}
use native.Mathlib.Decide.{dec_lt, ℕ_discrete}
use lib.ListN.{length, get_or, drop, length-append, length-drop, get_or-append, get_or-eq_default}
use lib.Seq.{get_or-append-add, get_or-drop}
use borrow.Author.Tests.{eq-eqb, ne_eqb}
use Rattle.plane.specs.Points.{Lines}
use Rattle.plane.specs.TileSet.{bit}
use Rattle.plane.proofs.Lists.{length_tab}
use Rattle.region.specs.Refusals.{withheld}
use Rattle.region.specs.Region.{Region, last_end}
use Rattle.region.specs.Rules.{KeepsRules}
use Rattle.region.proofs.Keeps.{keeps_fewer, sized}
use Rattle.relation.specs.Relation.{RegionBox, RegionHas}
use Rattle.matrix.specs.Matrix.{flat_of}
use Rattle.pair.specs.Answer.{Answer}
use Rattle.pair.specs.Answer.{given, pair_of, report_words}
use Rattle.pair.specs.Meaning.{Answered}
use Rattle.pair.proofs.Laws.{fields_are, tile_means, back_tile_means, pieces_between, back_pieces_between, relation_below, back_relation_below}
use Rattle.pair.proofs.Refusals.{answered_named}
use Rattle.pair.proofs.Cells.{rows_between, columns_between, cell_most}
use Rattle.pair.proofs.Directions.{directions_below}
use Rattle.endian.specs.Bytes.{u16_at, u16_bytes}
use Rattle.endian.proofs.Placed.{length_same}
use Rattle.card.specs.Reading.{parcel_count, region_at}
use Rattle.card.specs.CardNumber.{card_number}
use Rattle.card.specs.Good.{GoodCard, CardsOwn}
use Rattle.carried.specs.Pairs.{pair_in}
use Rattle.card.proofs.Good.{good_means}
use Rattle.card.proofs.Numbers.{not_good_means}
use Rattle.card.proofs.Says.{card_says}
use Rattle.report.specs.Meaning.{Reported, HostSays, host_short, host_card, host_count, host_done, HostGives, ReportHas}
use Rattle.report.specs.Report.{report_numbers, report_length, report_bytes, host_number, host_report}
use Rattle.report.proofs.Report.{report_short, report_card, report_parcels, report_none}
use Rattle.endian.proofs.Words.{word_read, Small, small_none, small_more, small_append}

module _ (a : Answer) (nine : length a.cells ≡ 9) where
  abbrev last : List ℕ
  last = a.directions ∷ a.first_pieces ∷ a.second_pieces ∷ []

  seven_on : (k : ℕ) → get_or (report_words a) (7 + k) 0 ≡ get_or (a.cells ++ last) k 0
  seven_on k = get_or-append-add (a.number ∷ a.region ∷ a.ring ∷ a.first ∷ a.second ∷ a.rows ∷ a.columns ∷ []) (a.cells ++ last) k 0

  word_cell : (k : ℕ) → k < 9 → get_or (report_words a) (7 + k) 0 ≡ get_or a.cells k 0
  word_cell k l = seven_on k ∙ get_or-append a.cells last 0 k (omega (arith, nine))

  word_last : (k : ℕ) → get_or (report_words a) (16 + k) 0 ≡ get_or last k 0
  word_last k =
      let e : 16 + k ≡ 7 + (length a.cells + k) = omega (arith, nine) in
      ap (λ (n : ℕ). get_or (report_words a) n 0) e ∙ seven_on (length a.cells + k) ∙ get_or-append-add a.cells last k 0

module _ (card report : List ℕ) where
  abbrev first : Region
  first = region_at card 0

  abbrev second : Region
  second = region_at card 1

  abbrev answer : Answer
  answer = pair_of first second

  pub answered : Reported card report → Answered first second
  answered r = record { first_kept = r.good.parcels_keep 0 (omega (arith, r.two)); second_kept = r.good.parcels_keep 1 (omega (arith, r.two)) }

  -- ---- the number, by cases
  accepted : Reported card report → 0 ≡ host_number card report
  accepted r = report_none card report r.room ((good_means card).1 r.good) r.two

  host_back : {n : ℕ} → HostSays card report n → host_number card report ≡ n
  host_back (host_short l) = sym (report_short card report l).0
  host_back (host_card {n} room bad c) = sym (report_card card report room refl (λ z. bad ((good_means card).0 z))).0 ∙ (card_says card n).1 c
  host_back (host_count room good e) = sym (report_parcels card report room ((good_means card).1 good) e).0
  host_back (host_done r) = sym (accepted r)

  host_case : HostSays card report (host_number card report)
  host_case = elim (dec_lt (length report) report_length) [ yes l ↦ comes (host_short l) | no l ↦ roomy (omega arith) ]
    where
      comes : {n : ℕ} → HostSays card report n → HostSays card report (host_number card report)
      comes c = subst (HostSays card report) (sym (host_back c)) c

      counted : report_length ≤ length report → GoodCard card → HostSays card report (host_number card report)
      counted room good = elim (ℕ_discrete (parcel_count card) 2) [ yes e ↦ comes (host_done (record { room = room; good = good; two = e })) | no e ↦ comes (host_count room good e) ]

      roomy : report_length ≤ length report → HostSays card report (host_number card report)
      roomy room =
          elim (ℕ_discrete (card_number card) 0) [
            | yes z ↦ counted room ((good_means card).0 z)
            | no z ↦ comes (host_card room (λ good. z ((good_means card).1 good)) ((card_says card (card_number card)).0 refl))
          ]

  pub host_says : (n : ℕ) → (host_number card report ≡ n) ↔ HostSays card report n
  host_says n = (λ e. subst (HostSays card report) e host_case, host_back)

  pub number_none_means : (host_number card report ≡ 0) ↔ Reported card report
  number_none_means = (λ e. go ((host_says 0).0 e) refl, λ r. host_back (host_done r))
    where
      go : {n : ℕ} → HostSays card report n → n ≡ 0 → Reported card report
      go (host_short l) z = absurd (omega arith)
      go (host_card {n} room bad c) z = absurd (bad ((good_means card).0 ((card_says card n).1 c ∙ z)))
      go (host_count room good e) z = absurd (omega arith)
      go (host_done r) z = r

  pub number_either : HostGives (host_number card report)
  number_either = go host_case
    where
      go : {n : ℕ} → HostSays card report n → HostGives n
      go (host_short l) = inr (inl refl)
      go (host_card {n} room bad c) = inr (inr (inr (subst CardsOwn ((card_says card n).1 c) ((not_good_means card).1 bad))))
      go (host_count room good e) = inr (inr (inl refl))
      go (host_done r) = inl refl

  pub number_not_withheld : host_number card report ≢ withheld
  number_not_withheld e =
      ⊎_elim (λ z. omega (arith, z, e))
      (⊎_elim (λ z. omega (arith, z, e)) (⊎_elim (λ z. omega (arith, z, e)) (⊎_elim (λ p. omega (arith, p.1, e)) (λ p. omega (arith, p.0, e)))))
      number_either

  -- ---- the report
  pub report_kept : host_number card report ≢ 0 → host_report card report ≡ report
  unfolding host_report
  report_kept some = rw (ne_eqb (host_number card report) 0 some) refl

  bytes_long : length (report_bytes answer) ≡ report_length
  bytes_long = length_same (λ k. u16_bytes (get_or (report_words answer) k 0)) 2 (λ k. refl) report_numbers

  report_is : Reported card report → host_report card report ≡ report_bytes answer ++ drop report_length report
  unfolding host_report pair_in
  report_is r = rw (eq-eqb (host_number card report) 0 (sym (accepted r))) refl

  pub report_length_lem : length (host_report card report) ≡ length report
  report_length_lem = elim (ℕ_discrete (host_number card report) 0) [ yes e ↦ whole (number_none_means.0 e) | no e ↦ ap length (report_kept e) ]
    where
      whole : Reported card report → length (host_report card report) ≡ length report
      whole r =
          let e = ap length (report_is r) ∙ length-append (report_bytes answer) (drop report_length report) in
          omega (arith, e, bytes_long, length-drop report_length report, r.room)

  pub report_behind : (i : ℕ) → report_length ≤ i → get_or (host_report card report) i 0 ≡ get_or report i 0
  report_behind i past =
      elim (ℕ_discrete (host_number card report) 0) [
        | yes e ↦ whole (number_none_means.0 e)
        | no e ↦ ap (λ (l : List ℕ). get_or l i 0) (report_kept e)
      ]
    where
      whole : Reported card report → get_or (host_report card report) i 0 ≡ get_or report i 0
      whole r =
          let there : i ≡ length (report_bytes answer) + (i - report_length) = omega (arith, bytes_long) in
          let back : report_length + (i - report_length) ≡ i = omega arith in
          ap (λ (l : List ℕ). get_or l i 0) (report_is r)
          ∙ ap (λ (n : ℕ). get_or (report_bytes answer ++ drop report_length report) n 0) there
          ∙ get_or-append-add (report_bytes answer) (drop report_length report) (i - report_length) 0
          ∙ get_or-drop report_length report (i - report_length) 0
          ∙ ap (λ (n : ℕ). get_or report n 0) back

  module _ (r : Reported card report) where
    cells_long : length answer.cells ≡ 9
    unfolding given flat_of
    cells_long = ap (λ (a : Answer). length a.cells) (fields_are first second (answered r)) ∙ length_tab _ 9

    small_cells : Small answer.cells
    small_cells = record { at = each }
      where
        each : (k : ℕ) → get_or answer.cells k 0 < 65536
        each k =
            let e : 3 * (k / 3) + k % 3 ≡ k = omega arith in
            elim (dec_lt k 9) [
              | yes l ↦ omega (arith, ap (λ (n : ℕ). get_or answer.cells n 0) e, cell_most first second (answered r) (k / 3) (k % 3) (omega arith) (omega arith))
              | no l ↦ omega (arith, get_or-eq_default answer.cells 0 {n = k} (omega (arith, cells_long)))
            ]

    few_pieces : {R : Region} {n : ℕ} → KeepsRules R → n ≤ last_end R.ends * 5 → n < 65536
    few_pieces kept h = omega (arith, h, (sized (keeps_fewer (omega arith) kept)).small)

    small_words : Small (report_words answer)
    small_words =
        let a = answered r in
        let named = answered_named first second a in
        small_more (omega (arith, named.0))
        (small_more (omega (arith, named.1))
        (small_more (omega (arith, named.2))
        (small_more (omega (arith, relation_below first second a))
        (small_more (omega (arith, back_relation_below first second a))
        (small_more (omega (arith, (rows_between first second a).1))
        (small_more (omega (arith, (columns_between first second a).1))
        (small_append answer.cells small_cells
        (small_more (omega (arith, directions_below first second))
        (small_more (few_pieces a.first_kept (pieces_between first second a).1)
        (small_more (few_pieces a.second_kept (back_pieces_between first second a).1) small_none))))))))))

    pub report_reads : (k : ℕ) → k < report_numbers → u16_at (host_report card report) (2 * k) ≡ get_or (report_words answer) k 0
    report_reads k l = ap (λ (b : List ℕ). u16_at b (2 * k)) (report_is r) ∙ word_read (report_words answer) report_numbers k (drop report_length report) l (small_words.at k)

    pub report_named : (u16_at (host_report card report) 0 ≡ 0) × (u16_at (host_report card report) 2 ≡ 0) × (u16_at (host_report card report) 4 ≡ 0)
    report_named =
        let named = answered_named first second (answered r) in
        (report_reads 0 (omega arith) ∙ named.0, report_reads 1 (omega arith) ∙ named.1, report_reads 2 (omega arith) ∙ named.2)

    pub report_has : ReportHas (host_report card report) answer
    report_has =
        record {
          first = report_reads 3 (omega arith);
          second = report_reads 4 (omega arith);
          rows = report_reads 5 (omega arith);
          columns = report_reads 6 (omega arith);
          cells = λ i j hi hj.
              let e : 14 + 2 * (3 * i + j) ≡ 2 * (7 + (3 * i + j)) = omega arith in
              ap (u16_at (host_report card report)) e ∙ report_reads (7 + (3 * i + j)) (omega arith) ∙ word_cell answer cells_long (3 * i + j) (omega arith);
          directions = report_reads 16 (omega arith) ∙ word_last answer cells_long 0;
          first_pieces = report_reads 17 (omega arith) ∙ word_last answer cells_long 1;
          second_pieces = report_reads 18 (omega arith) ∙ word_last answer cells_long 2;
        }

    pub report_tile : (M : Lines) → RegionBox second M → (t : ℕ) → t < 9 → (bit (u16_at (host_report card report) 6) t ≡ 1) ↔ RegionHas M first t
    report_tile M is t l = rw report_has.first (tile_means first second (answered r) M is t l)

    pub report_back_tile : (L : Lines) → RegionBox first L → (t : ℕ) → t < 9 → (bit (u16_at (host_report card report) 8) t ≡ 1) ↔ RegionHas L second t
    report_back_tile L is t l = rw report_has.second (back_tile_means first second (answered r) L is t l)
