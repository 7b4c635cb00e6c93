-- SCOPE 4.4, 4.8, computed: what a pass over a ring answers, the set of its tiles and the sum of its pieces.
--   edges_seen b xs from n   by its edges alone
--   ring_seen b xs from n    by edges and centre
use Rattle.std.specs.Prelude.{List, ℕ, ℤ}
use Rattle.plane.specs.TileSet.{set_of}
use Rattle.plane.specs.declared.Box.{Box}
use Rattle.seen.specs.declared.Seen.{Seen}
use Rattle.ring.specs.RingTiles.{edges_have, ring_has, ring_pieces}

abbrev pub edges_seen : Box → List ℤ → (from n : ℕ) → Seen
edges_seen b xs from n = record { set = set_of (edges_have b xs from n) 9; pieces = ring_pieces b xs from n }

abbrev pub ring_seen : Box → List ℤ → (from n : ℕ) → Seen
ring_seen b xs from n = record { set = set_of (ring_has b xs from n) 9; pieces = ring_pieces b xs from n }
