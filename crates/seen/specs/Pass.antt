-- How the pass over a ring's edges goes. No rule of docs/SCOPE.md stands here: these definitions only carry the proof that it answers
-- `edges_seen` (proofs/Shown, `seen_all`).
--   block                   how many vertices are classed at a time
--   edge_to n k             the edge that ends in vertex k of a ring of n: edge k - 1, and the last one where k is 0
--   nowhere                 a box without inside
--   classing_box b xs from n   the box against which the vertices are classed: `nowhere` where the first edge's ends are equal, so that
--                           every edge is left open
--   corner_class c xs from k   the class of the ring's vertex k against the box c
--   Classes                 the list has the classes of the m vertices from the ring's vertex `at` on
--   list_into b xs from n k  the list of the edge that ends in vertex k: by the classes of its ends where they tell it
--   seen_to b xs from n k   what the edges that end in the first k vertices show
use Rattle.std.specs.Prelude.{◌≡◌, List, ℕ, ◌+◌, ◌-◌, ◌<◌, max, eqb, get_or, ℤ}
use Rattle.plane.specs.Choice.{pick}
use Rattle.plane.specs.Place.{place_of}
use Rattle.plane.specs.Folds.{any_to, sum_to}
use Rattle.plane.specs.TileSet.{set_of}
use Rattle.plane.specs.declared.Box.{Box}
use Rattle.edge.specs.TileList.{count_in, stands_in}
use Rattle.classes.specs.Classes.{vertex_class, list_by}
use Rattle.ring.specs.Edges.{corner, ring_edge}
use Rattle.ring.specs.Repeated.{equal_ends}
use Rattle.seen.specs.declared.Seen.{Seen}

abbrev pub block : ℕ
block = 64

abbrev pub edge_to : (n k : ℕ) → ℕ
edge_to n k = pick (eqb k 0) (n - 1) (k - 1)

abbrev pub nowhere : Box
nowhere = record { west = 0; south = 0; east = 0; north = 0 }

unfoldable pub classing_box : Box → List ℤ → (from n : ℕ) → Box
classing_box b xs from n = pick (equal_ends (ring_edge xs from n 0)) nowhere b

abbrev pub corner_class : Box → List ℤ → (from k : ℕ) → ℕ
corner_class c xs from k = vertex_class c (place_of (corner xs from k).x) (place_of (corner xs from k).y)

pub record Classes (c : Box) (xs : List ℤ) (from at m : ℕ) (list : List ℕ) : Type 0 where
  pub each : (k : ℕ) → k < m → get_or list k 0 ≡ corner_class c xs from (at + k)

unfoldable pub list_into : Box → List ℤ → (from n k : ℕ) → ℕ
list_into b xs from n k =
    let c = classing_box b xs from n in
    list_by b (corner_class c xs from (edge_to n k)) (corner_class c xs from k) (ring_edge xs from n (edge_to n k))

unfoldable pub seen_to : Box → List ℤ → (from n k : ℕ) → Seen
seen_to b xs from n k =
    record {
      set = set_of (λ t. any_to (λ i. stands_in (list_into b xs from n i) t) k) 9;
      pieces = sum_to (λ i. max 1 (count_in (list_into b xs from n i))) k;
    }
