-- The directions of an accepted pair are never empty: some cell holds the first region and some cell the second.
--   strip_in         a range that shares room with a side's span has a strip of the grid in it, between the span's ends
--   cell_in          so a tile that shares room with the region's box has a cell of the grid in it, inside that box
--   first_somewhere  a cell holds the first of two regions, by the values of the matrix
--   direction_some   the pair answer of two accepted regions has a direction
use mathlib.Core.Path.{◌≡◌, refl, ◌∙◌, ap}
use mathlib.Core.Logic.{◌⊎◌, inl, inr, ⊎_elim}
use mathlib.Core.Bool.{Bool, true, false}
use mathlib.Core.List.{List}
use Prim.Native.Nat.{ℕ, zero, suc, ◌+◌, ◌-◌, ◌*◌, ◌/◌, ◌%◌, ◌≤◌, ◌<◌}
use native.Mathlib.Omega.{arith}
use native.Mathlib.Decide.{dec_lt, ℕ_discrete}
use lib.Dec.{eqb}
use lib.ListN.{length, get_or}
use borrow.Author.Tests.{le-leb, lt-leb, eq-eqb, eqb-true, eqb-false}
use Rattle.plane.specs.Choice.{pick}
use Rattle.plane.specs.Placed.{Upright}
use Rattle.plane.specs.TileSet.{bit, one_if}
use Rattle.plane.specs.Tiles.{column_of, row_of}
use Rattle.plane.specs.declared.Box.{Box}
use Rattle.plane.proofs.Logic.{and_means}
use Rattle.region.specs.Region.{Region}
use Rattle.relation.specs.Relation.{region_box, relation_of}
use Rattle.relation.proofs.Regions.{region_upright}
use Rattle.relation.proofs.Spread.{wide, high}
use Rattle.relation.proofs.Within.{Shares, tile_within}
use Rattle.matrix.specs.Holding.{lines_of, across_lines, up_lines, column_count, row_count, cell_at, range_of, holds}
use Rattle.matrix.specs.Matrix.{cell_value, matrix_of, exchanged}
use Rattle.compass.specs.Directions.{HoldsFirst, HoldsSecond, Toward, Direction}
use Rattle.matrix.proofs.Lines.{lines_rise, lines_means}
use Rattle.matrix.proofs.Matrix.{value_is, value_at_lem, rows_size, columns_size, matrix_exchanged}
use Rattle.compass.proofs.Directions.{directions_mean}
use Rattle.pair.specs.Answer.{Answer}
use Rattle.pair.specs.Answer.{given, pair_of}
use Rattle.pair.specs.Meaning.{Answered}
use Rattle.pair.proofs.Laws.{fields_are}

-- ---- one axis: the span from w to e, and the lines lo and hi
module _ (w e lo hi : ℕ) (some : w < e) (order : lo ≤ hi) where
  abbrev lines : List ℕ
  lines = lines_of w e lo hi

  strip_from : (p : ℕ) → (p ≡ w) ⊎ ((p ≡ e) ⊎ ((p ≡ lo) ⊎ (p ≡ hi))) → p < e
      → (j : ℕ) × (j + 1 < length lines) × (get_or lines j 0 ≡ p) × (get_or lines (j + 1) 0 ≤ e)
  strip_from p is l =
      let (j, hj, ej) = (lines_means w e lo hi p).1 is in
      let (i, h, ei) = (lines_means w e lo hi e).1 (inr (inl refl)) in
      let rise = lines_rise w e lo hi in
      let later : j < i =
      elim (dec_lt j i) [
        | yes b ↦ b
        | no n ↦ elim (ℕ_discrete i j) [
          | yes q ↦ absurd (omega (arith, l, ei, ej, ap (λ (z : ℕ). get_or lines z 0) q))
          | no q ↦ absurd (omega (arith, l, ei, ej, rise i j (omega arith) hj))
        ]
      ] in
      let next : get_or lines (j + 1) 0 ≤ e =
      elim (ℕ_discrete (j + 1) i) [
        | yes q ↦ omega (arith, ei, ap (λ (z : ℕ). get_or lines z 0) q)
        | no q ↦ omega (arith, ei, rise (j + 1) i (omega arith) h)
      ] in
      (j, omega arith, ej, next)

  record StripIn (c : ℕ) : Type 0 where
    j : ℕ
    there : j + 1 < length lines
    from_in : w ≤ get_or lines j 0
    to_in : get_or lines (j + 1) 0 ≤ e
    range : range_of lo hi (get_or lines j 0) ≡ c

  from_line : (c p : ℕ) → (p ≡ w) ⊎ ((p ≡ e) ⊎ ((p ≡ lo) ⊎ (p ≡ hi))) → w ≤ p → p < e → range_of lo hi p ≡ c → StripIn c
  from_line c p is l h r =
      let (j, there, at, next) = strip_from p is h in
      record { j = j; there = there; from_in = omega (arith, at); to_in = next; range = ap (range_of lo hi) at ∙ r }

  strip_in : (c : ℕ) → c < 3 → Shares c lo hi w e → StripIn c
  unfolding range_of
  strip_in zero l h = from_line 0 w (inl refl) (omega arith) some (rw (lt-leb lo w h, lt-leb hi w (omega arith)) refl)
  strip_in (suc zero) l h =
      elim (dec_lt w lo) [
        | yes b ↦ from_line 1 lo (inr (inr (inl refl))) (omega arith) h.0 (rw (le-leb lo lo (omega arith), lt-leb hi lo h.2) refl)
        | no b ↦ from_line 1 w (inl refl) (omega arith) some (rw (le-leb lo w (omega arith), lt-leb hi w h.1) refl)
      ]
  strip_in (suc (suc zero)) l h =
      elim (dec_lt w hi) [
        | yes b ↦ from_line 2 hi (inr (inr (inr refl))) (omega arith) h (rw (le-leb lo hi order, le-leb hi hi (omega arith)) refl)
        | no b ↦ from_line 2 w (inl refl) (omega arith) some (rw (le-leb lo w (omega arith), le-leb hi w (omega arith)) refl)
      ]
  strip_in (suc (suc (suc c))) l h = absurd (omega arith)

-- ---- a cell
module _ (a b : Box) (broad : a.west < a.east) (tall : a.south < a.north) (up : Upright b) (r : ℕ) where
  cell_in : (t : ℕ) → t < 9 → bit r t ≡ 1 → Shares (column_of t) b.west b.east a.west a.east
      → Shares (row_of t) b.south b.north a.south a.north
      → (i : ℕ) × (j : ℕ) × (i < row_count a b) × (j < column_count a b) × (holds a b r (cell_at a b i j) ≡ true)
  unfolding holds cell_at
  cell_in t h there column row =
      let x = strip_in a.west a.east b.west b.east broad up.x (column_of t) (omega arith) column in
      let y = strip_in a.south a.north b.south b.north tall up.y (row_of t) (omega arith) row in
      let i = row_count a b - 1 - y.j in
      let low : row_count a b - 1 - i ≡ y.j = omega (arith, y.there) in
      let high : row_count a b - i ≡ y.j + 1 = omega (arith, y.there) in
      let tile : 3 * (2 - range_of b.south b.north (get_or (up_lines a b) y.j 0)) + range_of b.west b.east (get_or (across_lines a b) x.j 0) ≡ t =
      omega (arith, x.range, y.range, h) in (
        i,
        x.j,
        omega (arith, y.there),
        omega (arith, x.there),
        rw (low, high)
            ((and_means _ _).1 (
              le-leb _ _ x.from_in,
              (and_means _ _).1 (
                le-leb _ _ x.to_in,
                (and_means _ _).1 (
                  le-leb _ _ y.from_in,
                  (and_means _ _).1 (
                    le-leb _ _ y.to_in,
                    eq-eqb _ 1 (ap (bit r) tile ∙ there),
                  ),
                ),
              ),
            )),
      )

  first_somewhere : (s t : ℕ) → t < 9 → bit r t ≡ 1 → Shares (column_of t) b.west b.east a.west a.east
      → Shares (row_of t) b.south b.north a.south a.north
      → (i : ℕ) × (j : ℕ) × (i < 3) × (j < 3) × ((cell_value a b r s i j ≡ 1) ⊎ (cell_value a b r s i j ≡ 3))
  first_somewhere s t h there column row =
      let (i, j, hi, hj, e) = cell_in t h there column row in (
        i,
        j,
        omega (arith, hi, (rows_size a b tall).1),
        omega (arith, hj, (columns_size a b broad).1),
        go (holds b a s (cell_at a b i j)) (value_is a b r s i j hi hj ∙ ap (λ (x : Bool). one_if x + 2 * one_if (holds b a s (cell_at a b i j))) e),
      )
    where
      go : {v : ℕ} (y : Bool) → v ≡ 1 + 2 * one_if y → (v ≡ 1) ⊎ (v ≡ 3)
      go true e = inr e
      go false e = inl e

-- ---- a direction
first_exchanged : (v : ℕ) → (exchanged v ≡ 1) ⊎ (exchanged v ≡ 3) → (v ≡ 2) ⊎ (v ≡ 3)
first_exchanged v = go (eqb v 1) refl (eqb v 2) refl
  where
    go : (x : Bool) → eqb v 1 ≡ x → (y : Bool) → eqb v 2 ≡ y → (pick x 2 (pick y 1 v) ≡ 1) ⊎ (pick x 2 (pick y 1 v) ≡ 3) → (v ≡ 2) ⊎ (v ≡ 3)
    go true p y q h = absurd (⊎_elim (λ e. omega arith) (λ e. omega arith) h)
    go false p true q h = inl (eqb-true v 2 q)
    go false p false q (inl e) = absurd (eqb-false v 1 p e)
    go false p false q (inr e) = inr e

side : (i i' : ℕ) → (s : ℕ) × (s < 3) × Toward s i i'
side i i' =
    elim (dec_lt i i') [
      | yes l ↦ (0, omega arith, l)
      | no l ↦ elim (ℕ_discrete i i') [ yes e ↦ (1, omega arith, e) | no e ↦ (2, omega arith, omega arith) ]
    ]

some_direction : (m : List (List ℕ)) (i j i' j' : ℕ) → (i < 3) × (j < 3) → (i' < 3) × (j' < 3) → HoldsFirst m i j → HoldsSecond m i' j' → (k : ℕ) × (k < 9) × Direction m k
some_direction m i j i' j' one two f g =
    let (s, hs, rows) = side i i' in
    let (c, hc, columns) = side j j' in
    let row : (3 * s + c) / 3 ≡ s = omega arith in
    let column : (3 * s + c) % 3 ≡ c = omega arith in (
      3 * s + c,
      omega arith,
      record {
        i = i;
        j = j;
        i' = i';
        j' = j';
        first_cell = one;
        second_cell = two;
        first_holds = f;
        second_holds = g;
        rows = rw row rows;
        columns = rw column columns;
      },
    )

pub direction_some : (first second : Region) → Answered first second → (k : ℕ) × (k < 9) × (bit (pair_of first second).directions k ≡ 1)
unfolding given
direction_some first second x =
    let a = region_box first in
    let b = region_box second in
    let r = relation_of b first in
    let s = relation_of a second in
    let (t, ht, et, ct, rt) = tile_within x.first_kept b (region_upright second) in
    let (u, hu, eu, cu, ru) = tile_within x.second_kept a (region_upright first) in
    let (i, j, hi, hj, f) = first_somewhere a b (wide x.first_kept) (high x.first_kept) (region_upright second) r s t ht et ct rt in
    let (i', j', hi', hj', g) = first_somewhere b a (wide x.second_kept) (high x.second_kept) (region_upright first) s r u hu eu cu ru in
    let h = first_exchanged (cell_value a b r s i' j') (rw (matrix_exchanged a b r s i' j') at g) in
    let (k, hk, d) =
    some_direction (matrix_of a b r s) i j i' j' (hi, hj) (hi', hj') (rw (value_at_lem a b r s i j hi hj) f) (rw (value_at_lem a b r s i' j' hi' hj') h) in
    (k, hk, ap (λ (w : Answer). bit w.directions k) (fields_are first second x) ∙ (directions_mean (matrix_of a b r s) k hk).1 d)
