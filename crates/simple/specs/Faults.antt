-- SCOPE 3.1, rules 5, 6 and 7, asked of one ring at once.
--   faults_of xs from n   does the ring repeat a vertex (rule 5), is it tangled (rule 6), is it not clockwise (rule 7)
use Rattle.std.specs.Prelude.{not, List, ℕ, ℤ}
use Rattle.ring.specs.Repeated.{repeated}
use Rattle.ring.specs.Tangled.{tangled}
use Rattle.ring.specs.Turning.{clockwise}
use Rattle.simple.specs.declared.Faults.{Faults}

unfoldable pub faults_of : List ℤ → (from n : ℕ) → Faults
faults_of xs from n = record { repeated = repeated xs from n; tangled = tangled xs from n; turned = not (clockwise xs from n) }
