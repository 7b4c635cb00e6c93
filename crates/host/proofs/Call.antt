-- What a call of the C host gets back, from the call's own contract: `card` and `report` are the bytes at entry, `after` those of the report at exit.
--   call_means          the number is n exactly when case n of specs/Meaning holds
--   call_none_means     it is 0 exactly when the report has room, the card is good and has two parcels
--   call_either         it is 0, 10, one of the numbers of a card, or 17, and no other (`HostGives`)
--   call_kept           beside a number that is not 0 the report is as it was found
--   call_behind         its bytes past 38 are always so
--   call_has            where the number is 0, the report has the pair answer of the card's two parcels, behind three zeros
--   call_tile           bit t of its number 3 is then 1 exactly when the first parcel has tile t of the second's box
use mathlib.Core.Path.{◌≡◌, ◌∙◌, ap}
use mathlib.Core.Logic.{◌↔◌, ◌≢◌}
use mathlib.Core.List.{List}
use Prim.Native.Nat.{ℕ, ◌≤◌, ◌<◌}
use lib.ListN.{get_or}
use Rattle.plane.specs.Points.{Lines}
use Rattle.plane.specs.TileSet.{bit}
use Rattle.relation.specs.Relation.{RegionBox, RegionHas}
use Rattle.pair.specs.Answer.{pair_of}
use Rattle.endian.specs.Bytes.{u16_at}
use Rattle.card.specs.Reading.{region_at}
use Rattle.report.specs.Report.{report_length}
use Rattle.report.specs.Meaning.{Reported, HostSays, HostGives, ReportHas}
use Rattle.report.proofs.Meaning.{host_says, number_none_means, number_either, report_kept, report_behind, report_named, report_has, report_tile}
use Rattle.host.proofs.direction_report.Reads as reads

module _ (κs : _) (a : _) (r : ℕ) (s : _) (post : reads.Post κs a r s) where
  abbrev card : List ℕ
  card = a.0.now

  abbrev report : List ℕ
  report = a.1.0.now

  abbrev after : List ℕ
  after = s.1.0.now

  pub call_means : (n : ℕ) → (r ≡ n) ↔ HostSays card report n
  call_means n = rw post.0 (host_says card report n)

  pub call_none_means : (r ≡ 0) ↔ Reported card report
  call_none_means = rw post.0 (number_none_means card report)

  pub call_either : HostGives r
  call_either = rw post.0 (number_either card report)

  pub call_kept : r ≢ 0 → after ≡ report
  call_kept some = post.1 ∙ report_kept card report (λ e. some (post.0 ∙ e))

  pub call_behind : (i : ℕ) → report_length ≤ i → get_or after i 0 ≡ get_or report i 0
  call_behind i past = ap (λ (l : List ℕ). get_or l i 0) post.1 ∙ report_behind card report i past

  module _ (done : r ≡ 0) where
    pub call_has : ((u16_at after 0 ≡ 0) × (u16_at after 2 ≡ 0) × (u16_at after 4 ≡ 0)) × ReportHas after (pair_of (region_at card 0) (region_at card 1))
    call_has = let q = call_none_means.0 done in rw post.1 (report_named card report q, report_has card report q)

    pub call_tile : (M : Lines) → RegionBox (region_at card 1) M → (t : ℕ) → t < 9 → (bit (u16_at after 6) t ≡ 1) ↔ RegionHas M (region_at card 0) t
    call_tile M is t l = rw post.1 (report_tile card report (call_none_means.0 done) M is t l)
