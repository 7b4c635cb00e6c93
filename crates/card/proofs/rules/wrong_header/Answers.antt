use mathlib.Core.Path.{◌≡◌, refl, ◌∙◌}
use mathlib.Core.Bool.{not}
use mathlib.Core.List.{List}
use Prim.Native.Nat.{ℕ}
use native.Mathlib.Omega.{arith}
use lib.Dec.{eqb}
use lib.ListN.{length}
use Rattle.card.specs.Layout.{length_of}
use Rattle.card.specs.Reading.{parcel_count, ring_count, vertex_count}
use Rattle.card.proofs.Tests.{header_wrong, header_last}
use Rattle.card.proofs.rules.wrong_header.Goals as goal
use Rattle.card.proofs.rules.wrong_header.Goals.{Else-vertices-gt-MOST_CARD_VERTICES}

same : (b : List ℕ) {p r v : ℕ} → p ≡ parcel_count b → r ≡ ring_count b → v ≡ vertex_count b
    → not (eqb (length b) (length_of p r v)) ≡ not (eqb (length b) (length_of (parcel_count b) (ring_count b) (vertex_count b)))
same b e f g = rw (e, f, g) refl

-- the counts, as they were read
counts : (c : Else-vertices-gt-MOST_CARD_VERTICES)
    → let b = c.args.card.now in
    (c.read-parcels.result ≡ parcel_count b) × (c.read-rings.result ≡ ring_count b) × (c.read-vertices.result ≡ vertex_count b)
counts c = (c.read-parcels.ensures, c.read-rings.ensures, c.read-vertices.ensures)

pub returns-then-card-lt-PARCELS_AT : goal.returns-then-card-lt-PARCELS_AT
returns-then-card-lt-PARCELS_AT c = header_wrong _ (λ h. omega (arith, c.if-card-lt-PARCELS_AT.true, h.total))

pub returns-then-parcels-gt-MOST_CARD_PARCELS : goal.returns-then-parcels-gt-MOST_CARD_PARCELS
returns-then-parcels-gt-MOST_CARD_PARCELS c = header_wrong _ (λ h. omega (arith, c.if-parcels-gt-MOST_CARD_PARCELS.true, c.read-parcels.ensures, h.few_parcels))

pub returns-then-rings-gt-MOST_CARD_RINGS : goal.returns-then-rings-gt-MOST_CARD_RINGS
returns-then-rings-gt-MOST_CARD_RINGS c = header_wrong _ (λ h. omega (arith, c.if-rings-gt-MOST_CARD_RINGS.true, c.read-rings.ensures, h.few_rings))

pub returns-then-vertices-gt-MOST_CARD_VERTICES : goal.returns-then-vertices-gt-MOST_CARD_VERTICES
returns-then-vertices-gt-MOST_CARD_VERTICES c = header_wrong _ (λ h. omega (arith, c.if-vertices-gt-MOST_CARD_VERTICES.true, c.read-vertices.ensures, h.few_vertices))

pub returns-then-read-ne-PARCELS_AT : goal.returns-then-read-ne-PARCELS_AT
returns-then-read-ne-PARCELS_AT c = header_wrong _ (λ h. omega (arith, c.if-read-ne-PARCELS_AT.true, c.read.ensures, h.first))

pub returns-then-read-rings_at : goal.returns-then-read-rings_at
returns-then-read-rings_at c = header_wrong _ (λ h. omega (arith, c.if-read-rings_at.true, c.read-2.ensures, (counts (goal.at.returns-then-read-rings_at c).Else-vertices-gt-MOST_CARD_VERTICES).0, h.second))

pub returns-then-read-vertices_at : goal.returns-then-read-vertices_at
returns-then-read-vertices_at c =
    let n = counts (goal.at.returns-then-read-vertices_at c).Else-vertices-gt-MOST_CARD_VERTICES in
    header_wrong _ (λ h. omega (arith, c.if-read-vertices_at.true, c.read-3.ensures, n.0, n.1, h.third))

pub returns : goal.returns
returns c =
    let b = c.args.card.now in
    let n = counts (goal.at.returns c).Else-vertices-gt-MOST_CARD_VERTICES in
    same b n.0 n.1 n.2
    ∙ header_last b
    (omega (arith, c.if-parcels-gt-MOST_CARD_PARCELS.false, n.0))
    (omega (arith, c.if-rings-gt-MOST_CARD_RINGS.false, n.1))
    (omega (arith, c.if-vertices-gt-MOST_CARD_VERTICES.false, n.2))
    (omega (arith, c.if-read-ne-PARCELS_AT.false, c.read.ensures))
    (omega (arith, c.if-read-rings_at.false, c.read-2.ensures, n.0))
    (omega (arith, c.if-read-vertices_at.false, c.read-3.ensures, n.0, n.1))
