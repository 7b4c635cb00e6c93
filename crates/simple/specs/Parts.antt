-- No rule of docs/SCOPE.md stands here: its rule 6 in the two parts in which the code looks at it. That together they are rule 6:
-- proofs/Parts, `tangled_parts`.
--   edge_before n k     the edge before edge k of a ring of n
--   folded xs from n    some edge folds back on the edge before it
--   strangers n i j     edge j comes after edge i and the two are not neighbours
--   past_strangers n i  past the last stranger of edge i: for the first edge the last one, else past the ring
--   meet_pair           edges i and j are strangers and share a point
--   meets_with          edge i shares a point with a stranger after it;  meets  some edge does
--   Scan, scan_of       what one pass over the edges tells: rules 5 and 7, and the folds of rule 6
--   Candidates          bit z of the word stands for edge j + z, and every edge that edge i meets has its bit
use Rattle.std.specs.Prelude.{◌≡◌, Bool, true, not, ◌&&◌, List, ℕ, ◌+◌, ◌-◌, ◌≤◌, ◌<◌, ltb, eqb, ℤ}
use Rattle.plane.specs.Choice.{pick}
use Rattle.plane.specs.Folds.{any_to}
use Rattle.plane.specs.TileSet.{bit}
use Rattle.meet.specs.MeetTest.{shares, folds}
use Rattle.ring.specs.Edges.{ring_edge}
use Rattle.ring.specs.Repeated.{repeated}
use Rattle.ring.specs.Turning.{clockwise}
use Rattle.simple.specs.declared.Scan.{Scan}

unfoldable pub edge_before : (n k : ℕ) → ℕ
edge_before n k = pick (eqb k 0) (n - 1) (k - 1)

unfoldable pub folded : List ℤ → (from n : ℕ) → Bool
folded xs from n = any_to (λ k. folds (ring_edge xs from n (edge_before n k)) (ring_edge xs from n k)) n

unfoldable pub strangers : (n i j : ℕ) → Bool
strangers n i j = ltb (i + 1) j && not (eqb i 0 && eqb (j + 1) n)

abbrev pub past_strangers : (n i : ℕ) → ℕ
past_strangers n i = pick (eqb i 0) (n - 1) n

unfoldable pub meet_pair : List ℤ → (from n i j : ℕ) → Bool
meet_pair xs from n i j = strangers n i j && shares (ring_edge xs from n i) (ring_edge xs from n j)

unfoldable pub meets_with : List ℤ → (from n i : ℕ) → Bool
meets_with xs from n i = any_to (meet_pair xs from n i) n

unfoldable pub meets : List ℤ → (from n : ℕ) → Bool
meets xs from n = any_to (meets_with xs from n) n

unfoldable pub scan_of : List ℤ → (from n : ℕ) → Scan
scan_of xs from n = record { repeated = repeated xs from n; folded = folded xs from n; turned = not (clockwise xs from n) }

pub record Candidates (xs : List ℤ) (from n i j word : ℕ) : Type 0 where
  pub has : (k : ℕ) → k < n → meet_pair xs from n i k ≡ true → (j ≤ k) × (bit word (k - j) ≡ 1)
