-- Request L2 of document 02: the two engines give the same matrix for all accepted pairs.
--   first_agrees, second_agrees    a cell is marked for a region exactly where it holds it, as tests
--   value_agrees       so each cell has the same value in both;  cells_agree  and the nine are the same
--   same_matrix        rows, columns and cells of the drawn answer are those of the pair answer
--   same_answer        and so are number, region and ring, and for refused pairs too: all six fields, for any two regions
use mathlib.Core.Path.{◌≡◌, refl, sym, ◌∙◌}
use mathlib.Core.Logic.{◌↔◌}
use mathlib.Core.Bool.{Bool, true, false, ◌&&◌}
use Prim.Native.Nat.{ℕ, ◌+◌, ◌*◌, ◌/◌, ◌%◌, ◌<◌}
use native.Mathlib.Omega.{arith}
use borrow.Author.Tests.{ltb-true}
use lib.Dec.{ltb}
use lib.IntN.{ℤ}
use Rattle.plane.specs.Choice.{pick}
use Rattle.plane.specs.TileSet.{one_if, bit}
use Rattle.plane.specs.Points.{Lines}
use Rattle.plane.specs.Placed.{LinesInRange, box_of, Upright}
use Rattle.plane.specs.declared.Box.{Box}
use Rattle.plane.proofs.Logic.{both, and_means, iff_join, iff_turn}
use Rattle.plane.proofs.Lists.{tab_same}
use Rattle.region.specs.Region.{Region}
use Rattle.region.specs.Rules.{Keeps, KeepsRules}
use Rattle.region.specs.Check.{check_of}
use Rattle.region.specs.Check.{Checked}
use Rattle.region.specs.Check.{Accepted, Refused}
use Rattle.region.proofs.Keeps.{keeps_fewer}
use Rattle.region.proofs.Check.{accepted_means}
use Rattle.relation.specs.Relation.{RegionBox, RegionHas, region_box, relation_of}
use Rattle.relation.proofs.Regions.{region_box_there, region_box_is, region_upright, lines_in_range}
use Rattle.relation.proofs.Relation.{relation_tile}
use Rattle.relation.proofs.Spread.{box_wide, box_high}
use Rattle.matrix.specs.Grid.{Cell}
use Rattle.matrix.specs.Holding.{row_count, column_count, cell_at, holds}
use Rattle.matrix.specs.Kept.{grid_of, cell_in}
use Rattle.matrix.specs.Matrix.{cell_value, matrix_of, flat_of}
use Rattle.matrix.proofs.Cells.{cell_there, cell_same}
use Rattle.matrix.proofs.Holding.{holds_means, holds_second_means}
use Rattle.matrix.proofs.Matrix.{value_at_lem}
use Rattle.matrix.proofs.Meaning.{holds_where}
use Rattle.pair.specs.Answer.{Answer}
use Rattle.pair.specs.Answer.{given, pair_of, answer_of}
use Rattle.pair.specs.Answer as pair
use Rattle.pair.specs.Meaning.{Answered}
use Rattle.pair.proofs.Laws.{fields_are}
use Rattle.drawing.specs.Marks.{RegionMarks}
use Rattle.drawing.specs.Drawing.{region_marks, drawn_value, drawn_cells}
use Rattle.drawing.proofs.Drawing.{Roomy, cell_lines, cell_is, cell_in_range, cell_roomy, region_marks_means}
use Rattle.drawn.specs.Drawn.{DrawnMatrix}
use Rattle.drawn.specs.Drawn.{drawn_for, drawn_of}
use Rattle.drawn.specs.Drawn as drawn
use Rattle.agree.proofs.Cells.{cell_agrees}

roomy : {R : Region} → KeepsRules R → (L : Lines) → RegionBox R L → Roomy L
roomy kept L is = record { wide = box_wide kept L is; high = box_high kept L is }

-- ---- two accepted regions and the lines of their boxes
module _ {first second : Region} (one : KeepsRules first) (two : KeepsRules second) (L M : Lines) (isL : RegionBox first L) (isM : RegionBox second M)
    (i j : ℕ) (hi : i < row_count (box_of L) (box_of M)) (hj : j < column_count (box_of L) (box_of M)) where
  four : Keeps 4 first × Keeps 4 second
  four = (keeps_fewer (omega arith) one, keeps_fewer (omega arith) two)

  l : LinesInRange L
  l = lines_in_range four.0 L isL

  m : LinesInRange M
  m = lines_in_range four.1 M isM

  upright : {R : Region} → Keeps 4 R → (N : Lines) → RegionBox R N → Upright (box_of N)
  upright {R} kept N is = rw (region_box_is kept N is) at (region_upright R)

  at_cell : (p : ℤ) × (q : ℤ) × (u : ℤ) × (v : ℤ) × Cell L M i j p q u v
  at_cell = cell_there L M l m i j hi hj

  first_agrees : region_marks (box_of L) (box_of M) (cell_in (grid_of (box_of L) (box_of M)) i j) first
      ≡ holds (box_of L) (box_of M) (relation_of (box_of M) first) (cell_at (box_of L) (box_of M) i j)
  first_agrees =
      let (p, q, u, v, c) = at_cell in
      both _ _ (iff_join (marked p q u v c) (iff_turn (held p q u v c)))
    where
      relation : (t : ℕ) → t < 9 → (bit (relation_of (box_of M) first) t ≡ 1) ↔ RegionHas M first t
      relation t h = rw (region_box_is four.1 M isM) at (relation_tile four.0 four.1 M isM t h)

      marked : (p q u v : ℤ) → Cell L M i j p q u v → (region_marks (box_of L) (box_of M) (cell_in (grid_of (box_of L) (box_of M)) i j) first ≡ true) ↔ RegionMarks L M (cell_lines p q u v) first
      marked p q u v c =
          rw (cell_is L M l m i j p q u v c)
          (region_marks_means L M (cell_lines p q u v) l m (cell_in_range L M l m i j p q u v c) (roomy one L isL) (cell_roomy L M l m i j p q u v c) four.0)

      held : (p q u v : ℤ) → Cell L M i j p q u v
          → (holds (box_of L) (box_of M) (relation_of (box_of M) first) (cell_at (box_of L) (box_of M) i j) ≡ true) ↔ RegionMarks L M (cell_lines p q u v) first
      held p q u v c =
          iff_join (holds_means L M (relation_of (box_of M) first) i j p q u v l m (upright four.1 M isM) c)
          (iff_join (holds_where L M (relation_of (box_of M) first) (RegionHas M first) relation p q u v)
          (iff_turn (cell_agrees (keeps_fewer (omega arith) one) L M isL m (roomy one L isL) (roomy two M isM) i j p q u v c)))

  second_agrees : region_marks (box_of M) (box_of L) (cell_in (grid_of (box_of L) (box_of M)) i j) second
      ≡ holds (box_of M) (box_of L) (relation_of (box_of L) second) (cell_at (box_of L) (box_of M) i j)
  second_agrees =
      let (p, q, u, v, c) = at_cell in
      both _ _ (iff_join (marked p q u v c) (iff_turn (held p q u v c)))
    where
      relation : (t : ℕ) → t < 9 → (bit (relation_of (box_of L) second) t ≡ 1) ↔ RegionHas L second t
      relation t h = rw (region_box_is four.0 L isL) at (relation_tile four.1 four.0 L isL t h)

      marked : (p q u v : ℤ) → Cell L M i j p q u v → (region_marks (box_of M) (box_of L) (cell_in (grid_of (box_of L) (box_of M)) i j) second ≡ true) ↔ RegionMarks M L (cell_lines p q u v) second
      marked p q u v c =
          rw (cell_is L M l m i j p q u v c)
          (region_marks_means M L (cell_lines p q u v) m l (cell_in_range L M l m i j p q u v c) (roomy two M isM) (cell_roomy L M l m i j p q u v c) four.1)

      held : (p q u v : ℤ) → Cell L M i j p q u v
          → (holds (box_of M) (box_of L) (relation_of (box_of L) second) (cell_at (box_of L) (box_of M) i j) ≡ true) ↔ RegionMarks M L (cell_lines p q u v) second
      held p q u v c =
          iff_join (holds_second_means L M (relation_of (box_of L) second) i j p q u v l m (upright four.0 L isL) c)
          (iff_join (holds_where M L (relation_of (box_of L) second) (RegionHas L second) relation p q u v)
          (iff_turn (cell_agrees (keeps_fewer (omega arith) two) M L isM l (roomy two M isM) (roomy one L isL) i j p q u v (cell_same L M l m i j p q u v c))))

-- ---- the nine cells
module _ {first second : Region} (one : KeepsRules first) (two : KeepsRules second) where
  abbrev a : Box
  a = region_box first

  abbrev b : Box
  b = region_box second

  in_grid : (i j : ℕ) → i < row_count a b → j < column_count a b
      → (region_marks a b (cell_in (grid_of a b) i j) first ≡ holds a b (relation_of b first) (cell_at a b i j))
      × (region_marks b a (cell_in (grid_of a b) i j) second ≡ holds b a (relation_of a second) (cell_at a b i j))
  in_grid i j hi hj =
      let (L, l, isL) = region_box_there (keeps_fewer (omega arith) one) in
      let (M, m, isM) = region_box_there (keeps_fewer (omega arith) two) in
      go L M isL isM (region_box_is (keeps_fewer (omega arith) one) L isL) (region_box_is (keeps_fewer (omega arith) two) M isM) hi hj
    where
      go : (L M : Lines) → RegionBox first L → RegionBox second M → a ≡ box_of L → b ≡ box_of M → i < row_count a b → j < column_count a b
          → (region_marks a b (cell_in (grid_of a b) i j) first ≡ holds a b (relation_of b first) (cell_at a b i j))
          × (region_marks b a (cell_in (grid_of a b) i j) second ≡ holds b a (relation_of a second) (cell_at a b i j))
      go L M isL isM e f hi hj =
          let hi' : i < row_count (box_of L) (box_of M) = rw (e, f) at hi in
          let hj' : j < column_count (box_of L) (box_of M) = rw (e, f) at hj in
          rw (e, f) (first_agrees one two L M isL isM i j hi' hj', second_agrees one two L M isL isM i j hi' hj')

  pub value_agrees : (i j : ℕ) → drawn_value a b first second i j ≡ cell_value a b (relation_of b first) (relation_of a second) i j
  unfolding drawn_value cell_value
  value_agrees i j = go (ltb i (row_count a b) && ltb j (column_count a b)) refl
    where
      go : (t : Bool) → ltb i (row_count a b) && ltb j (column_count a b) ≡ t
          → pick t (one_if (region_marks a b (cell_in (grid_of a b) i j) first) + 2 * one_if (region_marks b a (cell_in (grid_of a b) i j) second)) 0
          ≡ pick t (one_if (holds a b (relation_of b first) (cell_at a b i j)) + 2 * one_if (holds b a (relation_of a second) (cell_at a b i j))) 0
      go false e = refl
      go true e =
          let w = (and_means (ltb i (row_count a b)) (ltb j (column_count a b))).0 e in
          let z = in_grid i j (ltb-true _ _ w.0) (ltb-true _ _ w.1) in
          λ k. one_if (z.0 k) + 2 * one_if (z.1 k)

  pub cells_agree : drawn_cells a b first second ≡ flat_of (matrix_of a b (relation_of b first) (relation_of a second))
  unfolding drawn_cells flat_of
  cells_agree =
      tab_same _ _ 9 (λ k h. value_agrees (k / 3) (k % 3) ∙ sym (value_at_lem a b (relation_of b first) (relation_of a second) (k / 3) (k % 3) (omega arith) (omega arith)))

-- ---- the two answers
module _ (first second : Region) where
  pub same_matrix : Answered first second
      → ((drawn_of first second).rows ≡ (pair_of first second).rows) × ((drawn_of first second).columns ≡ (pair_of first second).columns)
      × ((drawn_of first second).cells ≡ (pair_of first second).cells)
  unfolding drawn_of drawn_for given
  same_matrix ok =
      rw (fields_are first second ok, (accepted_means first).1 ok.first_kept, (accepted_means second).1 ok.second_kept)
      (refl, refl, cells_agree ok.first_kept ok.second_kept)

  abbrev Same : DrawnMatrix → Answer → Type 0
  Same d p =
      (d.number ≡ p.number) × (d.region ≡ p.region) × (d.ring ≡ p.ring) × (d.rows ≡ p.rows) × (d.columns ≡ p.columns) × (d.cells ≡ p.cells)

  accepted_same : check_of first ≡ Accepted → check_of second ≡ Accepted → Same (drawn_for (region_box first) (region_box second) first second) (answer_of first second)
  unfolding drawn_for given answer_of
  accepted_same e f = (refl, refl, refl, refl, refl, cells_agree ((accepted_means first).0 e) ((accepted_means second).0 f))

  pub same_answer : Same (drawn_of first second) (pair_of first second)
  unfolding drawn_of pair_of
  same_answer = go (check_of first) refl (check_of second) refl
    where
      go : (x : Checked) → check_of first ≡ x → (y : Checked) → check_of second ≡ y
          → Same (drawn.or_refused x 1 (drawn.or_refused y 2 (drawn_for (region_box first) (region_box second) first second))) (pair.or_refused x 1 (pair.or_refused y 2 (answer_of first second)))
      go (Refused n r) e y f = (refl, refl, refl, refl, refl, refl)
      go Accepted e (Refused n r) f = (refl, refl, refl, refl, refl, refl)
      go Accepted e Accepted f = accepted_same e f
