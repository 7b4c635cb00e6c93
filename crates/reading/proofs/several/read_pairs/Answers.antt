use native.Mathlib.Omega.{arith}
use Rattle.layout.proofs.Stores.{stored_none, stored_more, stored_all}
use Rattle.calls.specs.Several.{pair_count, pair_result}
use Rattle.reading.proofs.several.read_pairs.Goals as goal

pub loop-k-init : goal.loop-k-init
loop-k-init c = stored_none _ _ _ _

pub loop-k-preserved : goal.loop-k-preserved
loop-k-preserved c =
    let p = c.loop-k in
    let a = c.args in
    stored_more (λ j. j) (pair_result a.tables.now.records.now a.tables.now.relations.now a.pairs.now) (pair_count a.pairs.now) a.results.now p.k p.results (omega arith) p.invariant
    c.pair_result.ensures

pub returns : goal.returns
returns c =
    let p = c.loop-k in
    let a = c.args in
    stored_all (λ j. j) (pair_result a.tables.now.records.now a.tables.now.relations.now a.pairs.now) (pair_count a.pairs.now) a.results.now p.k p.results (omega arith) p.invariant
