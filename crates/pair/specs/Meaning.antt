-- SCOPE 6 and 5: what the pair answer says, field by field; notions that the laws in proofs/ state it with.
--   Answered first second         both regions keep rules 1 to 7: the answer is no refusal
--   RefusedPair first second n g r    number n, region g and ring r refuse the pair: g is 1 and the first region is refused so; or g is 2, the first
--                                 region keeps all rules, and the second is refused so
--   cell_from a i j               the value in row i from the north and column j from the west: number 3 i + j of the answer's cells
-- Over the lines L and M of the two regions' boxes:
--   FirstAt first L M i j         the grid has a cell in row i and column j, it lies inside the first region's box, and the first region has the tile
--                                 of the second's box around it;  SecondAt second L M i j  the same of the second region
--   Lies first second L M k       some such cell of the first region lies in direction k from some such cell of the second
use Rattle.std.specs.Prelude.{◌≡◌, ◌⊎◌, ℕ, ◌+◌, ◌*◌, ◌/◌, ◌%◌, ℤ, get_or}
use Rattle.plane.specs.Points.{Lines}
use Rattle.region.specs.Region.{Region}
use Rattle.region.specs.Rules.{KeepsRules, RefusedWith}
use Rattle.relation.specs.Relation.{RegionHas}
use Rattle.matrix.specs.Grid.{Cell}
use Rattle.matrix.specs.Holding.{HoldsWhere}
use Rattle.compass.specs.Directions.{Toward}
use Rattle.pair.specs.Answer.{Answer}

pub record Answered (first second : Region) : Type 0 where
  pub first_kept : KeepsRules first
  pub second_kept : KeepsRules second

abbrev pub RefusedPair : (first second : Region) (n g r : ℕ) → Type 0
RefusedPair first second n g r = ((g ≡ 1) × RefusedWith first n r) ⊎ ((g ≡ 2) × KeepsRules first × RefusedWith second n r)

abbrev pub cell_from : Answer → (i j : ℕ) → ℕ
cell_from a i j = get_or a.cells (3 * i + j) 0

abbrev pub FirstAt : (first : Region) (L M : Lines) (i j : ℕ) → Type 0
FirstAt first L M i j = (p : ℤ) × (q : ℤ) × (u : ℤ) × (v : ℤ) × Cell L M i j p q u v × HoldsWhere L M (RegionHas M first) p q u v

abbrev pub SecondAt : (second : Region) (L M : Lines) (i j : ℕ) → Type 0
SecondAt second L M i j = (p : ℤ) × (q : ℤ) × (u : ℤ) × (v : ℤ) × Cell L M i j p q u v × HoldsWhere M L (RegionHas L second) p q u v

pub record Lies (first second : Region) (L M : Lines) (k : ℕ) : Type 0 where
  pub i : ℕ
  pub j : ℕ
  pub i' : ℕ
  pub j' : ℕ
  pub first_holds : FirstAt first L M i j
  pub second_holds : SecondAt second L M i' j'
  pub rows : Toward (k / 3) i i'
  pub columns : Toward (k % 3) j j'
