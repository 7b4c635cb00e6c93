use mathlib.Core.Path.{◌≡◌, ◌∙◌, ap}
use Prim.Native.Nat.{ℕ}
use native.Mathlib.Omega.{arith}
use Rattle.plane.specs.TileSet.{set_of}
use Rattle.compass.specs.Differences.{squares_of, within_rows}
use Rattle.compass.proofs.DirectionSets.{among, union_none, union_more}
use Rattle.compass.proofs.Differences.{by_differences_lem}
use Rattle.compass.proofs.directions_of.Goals as goal

pub loop-rows-init : goal.loop-rows-init
loop-rows-init c = (union_none (within_rows c.squares-first.result c.squares-second.result))

pub loop-rows-preserved : goal.loop-rows-preserved
loop-rows-preserved c =
    let p = c.loop-rows in
    let one = c.squares-first.result in
    let two = c.squares-second.result in
    (rw (p.invariant, c.directions_in_rows-directions.ensures) (union_more (within_rows one two) p.rows))

pub returns : goal.returns
returns c =
    let p = c.loop-rows in
    let one = c.squares-first in
    let two = c.squares-second in
    let m = c.args.m in
    let n : p.rows ≡ 5 = omega arith in
    p.invariant
    ∙ ap (λ (n : ℕ). set_of (among (within_rows one.result two.result) n) 9) n
    ∙ ap (λ (x : ℕ). set_of (among (within_rows x two.result) 5) 9) one.ensures.0
    ∙ ap (λ (y : ℕ). set_of (among (within_rows (squares_of m 1) y) 5) 9) two.ensures.0
    ∙ by_differences_lem m
