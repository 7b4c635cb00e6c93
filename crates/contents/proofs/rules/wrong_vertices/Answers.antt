use mathlib.Core.Path.{◌∙◌, ap, ap₂}
use mathlib.Core.Bool.{not}
use Prim.Native.Nat.{ℕ}
use native.Mathlib.Omega.{arith}
use lib.Dec.{eqb}
use Rattle.card.specs.Reading.{first_vertex}
use Rattle.card.specs.CardNumber.{wrong_vertices}
use Rattle.card.proofs.Tests.{header_means}
use Rattle.contents.proofs.rules.wrong_vertices.Goals as goal

pub parcel_count-requires : goal.parcel_count-requires
parcel_count-requires c = omega (arith, (header_means c.args.card.now c.requires.header).total)

pub read-requires : goal.read-requires
read-requires c = omega (arith, (header_means c.args.card.now c.requires.header).total)

pub returns : goal.returns
unfolding wrong_vertices first_vertex
returns c =
    ap₂ (λ (x y : ℕ). not (eqb x y)) (c.first_vertex.ensures ∙ ap (first_vertex c.args.card.now) c.parcel_count.ensures) c.read.ensures
