use Rattle.std.proofs.Common.{◌≡◌, ℕ, ◌+◌, ◌*◌, ◌<◌, get_or}
use Rattle.endian.proofs.read_all.Given as goal

abbrev pub invariant-loop-k : goal.invariant-loop-k
invariant-loop-k g l = let n = g.T.LittleEndian in (j : ℕ) → j < l.k → get_or l.xs j n.none ≡ n.read l.b (l.at + n.SIZE * j)
