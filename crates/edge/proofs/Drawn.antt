-- What is drawn from an edge's list means what SCOPE 4.3 and 4.8 say, for coordinates in range and a box whose west is at most its east and
-- whose south is at most its north.
--   walk_is        the walk's set and pieces are those of the edge;  walk_none  with equal ends no tile and one piece
--   has_means      the edge has a tile on its list exactly where one of its points belongs to it
--   pieces_mean    it has m pieces exactly where m is one more than its distinct cut points
--   pieces_le      it has 1 to 5
--   some_tile      an edge with different ends has a tile
use mathlib.Core.Path.{◌≡◌, refl, sym, ◌∙◌, ap, subst}
use mathlib.Core.Logic.{◌↔◌}
use mathlib.Core.Bool.{true}
use Prim.Native.Nat.{ℕ, ◌≤◌, ◌<◌, max}
use native.Mathlib.Omega.{arith}
use Rattle.plane.specs.Folds.{any_to, sum_to}
use Rattle.plane.specs.Points.{Point, Lines}
use Rattle.plane.specs.Placed.{PointInRange, LinesInRange, edge_of, box_of, Upright}
use Rattle.plane.specs.TileSet.{set_of}
use Rattle.plane.specs.declared.Box.{Box}
use Rattle.plane.specs.declared.Edge.{Edge}
use Rattle.plane.proofs.Logic.{never}
use Rattle.edge.specs.Clauses.{HasTile}
use Rattle.edge.specs.Cuts.{PiecesOf}
use Rattle.edge.specs.TileList.{count_in, tile_in, stands_in}
use Rattle.edge.specs.Walk.{list_of}
use Rattle.edge.specs.Drawn.{drawn, walk_of, has, pieces}
use Rattle.edge.proofs.Weights.{EqualEnds}
use Rattle.edge.proofs.Belongs.{equal_ends_lem, has_tile_meets}
use Rattle.edge.proofs.CutCount.{cut_pieces, cut_pieces_mean, cut_pieces_one, cut_pieces_some}
use Rattle.edge.proofs.TileList.{count_most, count_none}
use Rattle.edge.proofs.WalkSteps.{list_none}
use Rattle.edge.proofs.WalkPlaces.{has_none, has_meets, has_tiles, list_count, list_small}

pub walk_is : (b : Box) (g : Edge) → walk_of b g ≡ record { list = list_of b g; set = set_of (has b g) 9; pieces = pieces b g }
unfolding walk_of has pieces
walk_is b g = refl

pub walk_none : (b : Box) (g : Edge) → EqualEnds g → walk_of b g ≡ record { list = 0; set = 0; pieces = 1 }
unfolding walk_of set_of stands_in count_in any_to sum_to
walk_none b g q = ap drawn (list_none b g q)

pub has_means : (L : Lines) (A B : Point) (t : ℕ) → LinesInRange L → PointInRange A → PointInRange B → Upright (box_of L) → t < 9
    → (has (box_of L) (edge_of A B) t ≡ true) ↔ HasTile L A B t
has_means L A B t rl ra rb up h = go (equal_ends_lem (edge_of A B))
  where
    go : Dec (EqualEnds (edge_of A B)) → (has (box_of L) (edge_of A B) t ≡ true) ↔ HasTile L A B t
    go (yes q) = (λ h. never (sym (has_none (box_of L) (edge_of A B) q t) ∙ h), λ h. absurd (((has_tile_meets L A B rl ra rb up t).0 h).0 q))
    go (no n) =
        let m = has_meets (box_of L) (edge_of A B) up n t h in
        (λ h. (has_tile_meets L A B rl ra rb up t).1 (n, m.0 h), λ h. m.1 ((has_tile_meets L A B rl ra rb up t).0 h).1)

-- ---- pieces
pub pieces_le : (b : Box) (g : Edge) → (1 ≤ pieces b g) × (pieces b g ≤ 5)
unfolding pieces
pieces_le b g = (omega arith, omega (arith, count_most (list_of b g)))

module _ (b : Box) (g : Edge) (up : Upright b) where
  by_cuts : pieces b g ≡ cut_pieces b g
  unfolding pieces
  by_cuts = elim (equal_ends_lem g) [
    | yes q ↦ ap (λ (v : ℕ). max 1 (count_in v)) (list_none b g q) ∙ ap (max 1) count_none ∙ sym (cut_pieces_one b g q)
    | no n ↦ omega (arith, list_count b g up n, cut_pieces_some b g)
  ]

  pub some_tile : (EqualEnds g → ⊥) → (t : ℕ) × (t < 9) × (has b g t ≡ true)
  some_tile n =
      let l : 0 < count_in (list_of b g) = omega (arith, list_count b g up n, cut_pieces_some b g) in
      (tile_in (list_of b g) 0, list_small b g up 0 l, (has_tiles b g up (tile_in (list_of b g) 0)).1 (0, l, refl))

pub pieces_mean : (L : Lines) (A B : Point) (m : ℕ) → LinesInRange L → PointInRange A → PointInRange B → Upright (box_of L)
    → (pieces (box_of L) (edge_of A B) ≡ m) ↔ PiecesOf L A B m
pieces_mean L A B m rl ra rb up =
    subst (λ (k : ℕ). (k ≡ m) ↔ PiecesOf L A B m) (sym (by_cuts (box_of L) (edge_of A B) up)) (cut_pieces_mean L A B rl ra rb m)
