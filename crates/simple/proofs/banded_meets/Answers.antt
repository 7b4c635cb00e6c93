use mathlib.Core.Path.{sym, ◌∙◌}
use mathlib.Core.List.{List}
use Prim.Native.Nat.{ℕ, ◌+◌, ◌<◌}
use native.Mathlib.Omega.{arith}
use lib.IntN.{ℤ}
use Rattle.bands.specs.Bands.{Finds}
use Rattle.bands.proofs.Laid.{near_finds}
use Rattle.simple.proofs.Parts.{meets_found, meets_none}
use Rattle.simple.proofs.Near.{near_candidates}
use Rattle.simple.proofs.banded_meets.Goals as goal
use Rattle.simple.proofs.banded_meets.Goals.{After-found_near-in-loop-i, In-loop-i}

-- edge i has two edges after it
some : (c : In-loop-i) → c.loop-i.i + 2 < c.args.ring.size
some c = omega (arith, c.requires.size.0, c.loop-i-test.true)

pub found_near-requires : goal.found_near-requires
found_near-requires c =
    let b = c.requires.columns.banded in
    let i = c.loop-i.i in
    let low = some c in
    (omega (arith, c.requires.size.1), b.few i (omega arith), b.few (i + 1) (omega arith))

pub found_near-requires-in-loop-i : goal.found_near-requires-in-loop-i
found_near-requires-in-loop-i c =
    let b = c.requires.rows.banded in
    let i = c.loop-i.i in
    let low = some (goal.at.found_near-requires-in-loop-i c).In-loop-i in
    (omega (arith, c.requires.size.1), b.few i (omega arith), b.few (i + 1) (omega arith))

-- the words found for edge i
module _ (c : After-found_near-in-loop-i) where
  abbrev xs : List ℤ
  xs = c.args.ring.outline.now

  abbrev from : ℕ
  from = c.args.ring.from

  abbrev n : ℕ
  n = c.args.ring.size

  abbrev i : ℕ
  i = c.loop-i.i

  low : i + 2 < n
  low = omega (arith, c.requires.size.0, c.loop-i-test.true)

  x_found : Finds xs from n 0 i c.found_near.result
  x_found =
      let b = c.args.columns.now in
      near_finds xs from n 0 i b.ends b.below b.above (omega (arith, low)) c.requires.columns c.found_near.result c.found_near.ensures

  y_found : Finds xs from n 1 i c.found_near-in-loop-i.result
  y_found =
      let b = c.args.rows.now in
      near_finds xs from n 1 i b.ends b.below b.above (omega (arith, low)) c.requires.rows c.found_near-in-loop-i.result c.found_near-in-loop-i.ensures

pub overflow_shr-near : goal.overflow_shr-near
overflow_shr-near c = omega (arith, low c, c.requires.size.1)

pub word_meets-requires : goal.word_meets-requires
word_meets-requires c =
    (omega arith, omega (arith, low c), near_candidates (xs c) (from c) (n c) (i c) c.found_near.result c.found_near-in-loop-i.result (x_found c) (y_found c))

pub returns-then-word_meets : goal.returns-then-word_meets
returns-then-word_meets c =
    let past = (goal.at.returns-then-word_meets c).After-found_near-in-loop-i in
    meets_found (xs past) (from past) (n past) (i past) (omega (arith, low past)) (sym c.word_meets.ensures ∙ c.if-word_meets.true)

pub returns : goal.returns
returns c =
    let r = c.args.ring in
    meets_none r.outline.now r.from r.size (λ k h. c.loop-i.invariant k (omega (arith, c.loop-i-test.false)))
