-- SCOPE 5.2: a cell holds a region where the cell is a part of the region's box and the region has that tile of the other's box in which the cell
-- lies. The grid of 5.1 in places, and this rule as a test.
--   RangeContains c lo hi p q     range c of the lines lo and hi contains everything between p and q
--   HoldsWhere L M Has p q u v    the cell between p, q and u, v lies inside the box L, and the tile of the box M around it is one that `Has` tells of
--   Holds L M relation p q u v    so it holds the region whose box is L and whose relation to the box M is given
--   insert v l                    v put into the rising list l, once
--   lines_of lo hi lo' hi'         the distinct lines of one axis in rising order;  across_lines, up_lines  those of two boxes in x, in y
--   column_count, row_count       how many strips they make
--   Rectangle, cell_at             a cell in places, and the cell in row i and column j
--   range_of lo hi p               how many of the two lines lie at or before p: the range just after p
--   holds a b relation c          the cell c holds the region with box a. Its meaning: proofs/Holding, `holds_means`
use Rattle.std.specs.Prelude.{◌≡◌, Bool, ◌&&◌, List, [], ◌∷◌, ℕ, zero, suc, ◌+◌, ◌-◌, ◌*◌, ◌<◌, leb, ltb, eqb, length, get_or, ℤ, ◌≤ℤ◌}
use Rattle.plane.specs.Choice.{pick}
use Rattle.plane.specs.Points.{Lines}
use Rattle.plane.specs.TileSet.{bit, one_if}
use Rattle.plane.specs.Tiles.{column_of, row_of}
use Rattle.plane.specs.declared.Box.{Box}

abbrev pub RangeContains : (c : ℕ) (lo hi p q : ℤ) → Type 0
RangeContains zero lo hi p q = q ≤ℤ lo
RangeContains (suc zero) lo hi p q = (lo ≤ℤ p) × (q ≤ℤ hi)
RangeContains (suc (suc c)) lo hi p q = hi ≤ℤ p

pub record HoldsWhere (L M : Lines) (Has : ℕ → Type 0) (p q u v : ℤ) : Type 0 where
  pub west : L.west ≤ℤ p
  pub east : q ≤ℤ L.east
  pub south : L.south ≤ℤ u
  pub north : v ≤ℤ L.north
  pub tile : ℕ
  pub is_tile : tile < 9
  pub in_column : RangeContains (column_of tile) M.west M.east p q
  pub in_row : RangeContains (row_of tile) M.south M.north u v
  pub there : Has tile

abbrev pub Holds : (L M : Lines) (relation : ℕ) (p q u v : ℤ) → Type 0
Holds L M relation p q u v = HoldsWhere L M (λ t. bit relation t ≡ 1) p q u v

-- v into a rising list, once
unfoldable pub insert : ℕ → List ℕ → List ℕ
insert v [] = v ∷ []
insert v (u ∷ l) = pick (ltb v u) (v ∷ u ∷ l) (pick (eqb v u) (u ∷ l) (u ∷ insert v l))

unfoldable pub lines_of : (lo hi lo' hi' : ℕ) → List ℕ
lines_of lo hi lo' hi' = insert lo (insert hi (insert lo' (insert hi' [])))

abbrev pub across_lines : Box → Box → List ℕ
across_lines a b = lines_of a.west a.east b.west b.east

abbrev pub up_lines : Box → Box → List ℕ
up_lines a b = lines_of a.south a.north b.south b.north

abbrev pub column_count : Box → Box → ℕ
column_count a b = length (across_lines a b) - 1

abbrev pub row_count : Box → Box → ℕ
row_count a b = length (up_lines a b) - 1

pub record Rectangle : Type 0 where
  pub left : ℕ
  pub right : ℕ
  pub bottom : ℕ
  pub top : ℕ

unfoldable pub cell_at : Box → Box → (i j : ℕ) → Rectangle
cell_at a b i j =
    record {
      left = get_or (across_lines a b) j 0;
      right = get_or (across_lines a b) (j + 1) 0;
      bottom = get_or (up_lines a b) (row_count a b - 1 - i) 0;
      top = get_or (up_lines a b) (row_count a b - i) 0;
    }

unfoldable pub range_of : (lo hi p : ℕ) → ℕ
range_of lo hi p = one_if (leb lo p) + one_if (leb hi p)

unfoldable pub holds : Box → Box → ℕ → Rectangle → Bool
holds a b relation c =
    leb a.west c.left && (leb c.right a.east && (leb a.south c.bottom && (leb c.top a.north
    && eqb (bit relation (3 * (2 - range_of b.south b.north c.bottom) + range_of b.west b.east c.left)) 1)))
