use Rattle.std.proofs.Common.{◌≡◌, length, take, IfSome, sym, ap, ◌∙◌, subst}
use Rattle.std.proofs.Math.Seq.{take-append_seam}
use Rattle.lines.specs.Listing.{listing}
use Rattle.listing.proofs.Laws.{listing_read}
use Rattle.listing.proofs.list_input.Goals as goal

pub returns-clause-list : goal.returns-clause-list
returns-clause-list g c = λ whole.
    let said = c.read_card-input.ensures in
    let list = listing (take c.read_card-input.result.count c.read_card-input.new.card) in
    let written : take c.list.result c.list.new.out ≡ list = ap (λ n. take n c.list.new.out) c.list.ensures.value ∙ ap (take (length list)) c.list.ensures.out_after ∙ take-append_seam list _ in
    subst (λ text. IfSome (g.R.Read.remaining c.args.from.now) (λ input. text ≡ listing input)) (sym written) (listing_read _ _ _ _ c.read_card-input.auto.card said.count.0 said.bytes (said.end whole))
