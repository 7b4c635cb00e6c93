use Rattle.layout.proofs.Stores.{Stored}
use Rattle.calls.specs.Several.{pair_count, pair_result}
use Rattle.reading.proofs.several.read_pairs.Given as goal

abbrev pub invariant-loop-k : goal.invariant-loop-k
invariant-loop-k l = Stored (λ j. j) (pair_result l.tables.records.now l.tables.relations.now l.pairs) (pair_count l.pairs) l.initial.results l.k l.results
