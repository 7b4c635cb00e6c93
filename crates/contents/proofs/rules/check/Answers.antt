use mathlib.Core.Path.{◌≡◌, refl, sym, ◌∙◌, ap}
use mathlib.Core.Logic.{◌≢◌}
use mathlib.Core.Bool.{Bool, true, false}
use mathlib.Core.List.{List}
use Prim.Native.Nat.{ℕ}
use native.Mathlib.Omega.{arith}
use borrow.Author.Rules.{rules}
use borrow.Author.Count.{below_none, below_more}
use Rattle.region.specs.Refusals.{number, number_in, number_if, first_number}
use Rattle.region.specs.declared.refusals.Refusal.{Refusal}
use Rattle.region.specs.declared.refusals.Refusal.TheVariants.{CardHeader}
use Rattle.region.proofs.OrElse.{number_some, zeros_hit, first_number_none, or_else_first}
use Rattle.card.specs.Reading.{parcel_count}
use Rattle.card.specs.CardNumber.{wrong_header, wrong_parcels, sizes_number, wrong_vertices, shape_number, card_number}
use Rattle.card.proofs.Good.{right_vertices, card_header_wrong}
use Rattle.contents.proofs.rules.check.Goals as goal
use Rattle.contents.proofs.rules.check.Goals.{Else-wrong_parcels, After-loop-j, After-wrong_vertices}

-- ---- the card's number, one refusal after another
header_refuses : (b : List ℕ) (k : Refusal) → number k ≡ number_if (wrong_header b) CardHeader → number k ≡ card_number b
header_refuses b k = go (wrong_header b) refl
  where
    go : (t : Bool) → wrong_header b ≡ t → number k ≡ number_if t CardHeader → number k ≡ card_number b
    go true h e = e ∙ card_header_wrong b h
    go false h e = absurd (number_some k e)

module _ (b : List ℕ) (h : wrong_header b ≡ false) where
  parcels_wrong : wrong_parcels b ≡ true → 15 ≡ card_number b
  unfolding card_number
  parcels_wrong p = rw (h, p) refl

  module _ (p : wrong_parcels b ≡ false) where
    sizes_wrong : {n : ℕ} → n ≡ first_number (sizes_number b) (parcel_count b) → n ≢ 0 → n ≡ card_number b
    unfolding card_number
    sizes_wrong e z = rw (h, p) (e ∙ sym (or_else_first (first_number (sizes_number b) (parcel_count b)) _ (λ q. z (e ∙ q))))

    module _ (z : first_number (sizes_number b) (parcel_count b) ≡ 0) where
      vertices_wrong : wrong_vertices b ≡ true → 16 ≡ card_number b
      unfolding card_number
      vertices_wrong v = rw (h, p, z, v) refl

      shapes_left : wrong_vertices b ≡ false → {n : ℕ} → n ≡ first_number (shape_number b) (parcel_count b) → n ≡ card_number b
      unfolding card_number
      shapes_left v e = rw (h, p, z, v) e

-- ---- rule 14 is kept;  and rule 15;  and rules 2 and 3;  and rule 16
one : (c : Else-wrong_parcels) → wrong_header c.args.card.now ≡ false
one c = rw c.in_ok-headed.ensures.card at c.in_ok-headed.headed.header

two : (c : Else-wrong_parcels) → wrong_parcels c.args.card.now ≡ false
two c = sym (rw c.in_ok-headed.ensures.card at c.wrong_parcels.ensures) ∙ c.if-wrong_parcels.false

three : (c : After-loop-j)
    → let b = c.args.card.now in
    first_number (sizes_number b) (parcel_count b) ≡ 0
three c = (first_number_none _ _).1 (λ k l. c.loop-j.invariant k (omega (arith, c.parcel_count-parcels.ensures.0 ∙ ap parcel_count c.in_ok-headed.ensures.card)))

pub returns-in_err-headed : goal.returns-in_err-headed
returns-in_err-headed c =
    let k = c.in_err-headed.field-0.0 in
    let e : number_in c.from_residual.result ≡ number k = search rules in
    e ∙ header_refuses _ k c.in_err-headed.ensures.refusal

pub returns-then-wrong_parcels : goal.returns-then-wrong_parcels
returns-then-wrong_parcels c =
    let e = c.in_ok-headed.ensures.card in
    parcels_wrong _ (rw e at c.in_ok-headed.headed.header) (sym (rw e at c.wrong_parcels.ensures) ∙ c.if-wrong_parcels.true)

pub loop-j-init : goal.loop-j-init
loop-j-init c = below_none _

pub check_sizes-requires : goal.check_sizes-requires
check_sizes-requires c =
    let at = goal.at.check_sizes-requires c in
    (record { header = one at.Else-wrong_parcels; parcels = two at.Else-wrong_parcels }, omega (arith, c.parcel_count-parcels.ensures.0 ∙ ap parcel_count c.in_ok-headed.ensures.card))

pub returns-in_err-check_sizes : goal.returns-in_err-check_sizes
returns-in_err-check_sizes c =
    let at = goal.at.returns-in_err-check_sizes c in
    let b = c.args.card.now in
    let k = c.in_err-check_sizes.field-0.0 in
    let e : number_in c.from_residual-in_err-check_sizes.result ≡ number k = search rules in
    let some = λ (z : sizes_number b c.loop-j.j ≡ 0). number_some k (c.in_err-check_sizes.ensures ∙ z) in
    let first = zeros_hit (sizes_number b) (parcel_count b) c.loop-j.j (omega (arith, c.parcel_count-parcels.ensures.0 ∙ ap parcel_count c.in_ok-headed.ensures.card)) (omega (arith, c.parcel_count-parcels.ensures.0 ∙ ap parcel_count c.in_ok-headed.ensures.card), c.loop-j.invariant) some in
    e ∙ sizes_wrong b (one at.Else-wrong_parcels) (two at.Else-wrong_parcels) (c.in_err-check_sizes.ensures ∙ first) (number_some k)

pub loop-j-preserved : goal.loop-j-preserved
loop-j-preserved c = below_more _ _ c.loop-j.invariant (sym c.in_ok-check_sizes.ensures)

pub wrong_vertices-requires : goal.wrong_vertices-requires
wrong_vertices-requires c = record { header = one (goal.at.wrong_vertices-requires c).Else-wrong_parcels; parcels = two (goal.at.wrong_vertices-requires c).Else-wrong_parcels }

pub returns-then-wrong_vertices : goal.returns-then-wrong_vertices
returns-then-wrong_vertices c =
    let at = goal.at.returns-then-wrong_vertices c in
    vertices_wrong _ (one at.Else-wrong_parcels) (two at.Else-wrong_parcels) (three at.After-loop-j) (sym c.wrong_vertices.ensures ∙ c.if-wrong_vertices.true)

pub loop-k-init : goal.loop-k-init
loop-k-init c = below_none _

pub check_outline-requires : goal.check_outline-requires
check_outline-requires c =
    let at = goal.at.check_outline-requires c in
    (right_vertices _ (one at.Else-wrong_parcels) (two at.Else-wrong_parcels) (three at.After-loop-j) (sym c.wrong_vertices.ensures ∙ c.if-wrong_vertices.false), omega (arith, c.parcel_count-parcels.ensures.0 ∙ ap parcel_count c.in_ok-headed.ensures.card))

pub returns-in_err-check_outline : goal.returns-in_err-check_outline
returns-in_err-check_outline c =
    let at = goal.at.returns-in_err-check_outline c in
    let b = c.args.card.now in
    let k = c.in_err-check_outline.field-0.0 in
    let e : number_in c.from_residual-in_err-check_outline.result ≡ number k = search rules in
    let some = λ (z : shape_number b c.loop-k.k ≡ 0). number_some k (c.in_err-check_outline.ensures ∙ z) in
    let first = zeros_hit (shape_number b) (parcel_count b) c.loop-k.k (omega (arith, c.parcel_count-parcels.ensures.0 ∙ ap parcel_count c.in_ok-headed.ensures.card)) (omega (arith, c.parcel_count-parcels.ensures.0 ∙ ap parcel_count c.in_ok-headed.ensures.card), c.loop-k.invariant) some in
    e ∙ shapes_left b (one at.Else-wrong_parcels) (two at.Else-wrong_parcels) (three at.After-loop-j) (sym c.wrong_vertices.ensures ∙ c.if-wrong_vertices.false) (c.in_err-check_outline.ensures ∙ first)

pub loop-k-preserved : goal.loop-k-preserved
loop-k-preserved c = below_more _ _ c.loop-k.invariant (sym c.in_ok-check_outline.ensures)

pub returns : goal.returns
returns c =
    let at = goal.at.returns c in
    let b = c.args.card.now in
    let none = (first_number_none (shape_number b) (parcel_count b)).1 (λ k l. c.loop-k.invariant k (omega (arith, c.parcel_count-parcels.ensures.0 ∙ ap parcel_count c.in_ok-headed.ensures.card))) in
    shapes_left b (one at.Else-wrong_parcels) (two at.Else-wrong_parcels) (three at.After-loop-j) (sym c.wrong_vertices.ensures ∙ c.if-wrong_vertices.false) (sym none)
