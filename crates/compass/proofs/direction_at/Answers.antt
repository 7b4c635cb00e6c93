use mathlib.Core.Path.{◌≡◌, sym, ◌∙◌, ap}
use mathlib.Core.Bool.{true, false}
use Prim.Native.Nat.{ℕ}
use lib.Dec.{eqb}
use Rattle.plane.specs.TileSet.{set_of}
use Rattle.compass.specs.Differences.{occurs, place_of}
use Rattle.compass.proofs.DirectionSets.{one_bit, when_not, when_so}
use Rattle.compass.proofs.direction_at.Goals as goal

pub returns-then-not-occurs : goal.returns-then-not-occurs
returns-then-not-occurs c =
    let a = c.args in
    let h = c.occurs in
    let e : occurs a.first a.second a.rows a.columns ≡ false = sym h.ensures ∙ c.if-not-occurs.true in
    when_not (occurs a.first a.second a.rows a.columns) (eqb (place_of a.rows a.columns)) e

pub returns : goal.returns
returns c =
    let a = c.args in
    let h = c.occurs in
    let e : occurs a.first a.second a.rows a.columns ≡ true = sym h.ensures ∙ c.if-not-occurs.false in
    one_bit c.compass_place.result c.compass_place.ensures.1
    ∙ ap (λ (p : ℕ). set_of (eqb p) 9) c.compass_place.ensures.0
    ∙ when_so (occurs a.first a.second a.rows a.columns) (eqb (place_of a.rows a.columns)) e
