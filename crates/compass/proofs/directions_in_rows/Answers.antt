use mathlib.Core.Path.{◌≡◌, ◌∙◌, ap}
use Prim.Native.Nat.{ℕ}
use native.Mathlib.Omega.{arith}
use Rattle.plane.specs.TileSet.{set_of}
use Rattle.compass.specs.Differences.{direction_at}
use Rattle.compass.proofs.DirectionSets.{among, union_none, union_more}
use Rattle.compass.proofs.directions_in_rows.Goals as goal

pub loop-columns-init : goal.loop-columns-init
loop-columns-init c = let a = c.args in (union_none (direction_at a.first a.second a.rows))

pub loop-columns-preserved : goal.loop-columns-preserved
loop-columns-preserved c =
    let p = c.loop-columns in
    let a = c.args in
    (rw (p.invariant, c.direction_at-directions.ensures) (union_more (direction_at a.first a.second a.rows) p.columns))

pub returns : goal.returns
returns c =
    let p = c.loop-columns in
    let a = c.args in
    let n : p.columns ≡ 5 = omega arith in
    p.invariant ∙ ap (λ (n : ℕ). set_of (among (direction_at a.first a.second a.rows) n) 9) n
