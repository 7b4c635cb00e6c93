-- What a cell holds: the test over places says what the document says over coordinates.
--   range_means           the range that contains a strip is the one just after its first line
--   holds_means           a cell holds the first region exactly where the test says so
--   holds_second_means    and the second region
use mathlib.Core.Path.{◌≡◌, refl, sym, ◌∙◌, ap}
use mathlib.Core.Logic.{◌↔◌, ◌⊎◌, inl, inr}
use mathlib.Core.Bool.{Bool, true, false, ◌&&◌}
use Prim.Native.Nat.{ℕ, zero, suc, ◌+◌, ◌-◌, ◌*◌, ◌≤◌, ◌<◌}
use native.Mathlib.Omega.{arith}
use native.Mathlib.Decide.{dec_le}
use borrow.Author.Tests.{leb-true, leb-false}
use lib.Dec.{leb}
use lib.IntN.{ℤ}
use lib.Signed.{◌<ℤ◌, ◌≤ℤ◌}
use Rattle.plane.specs.Place.{in_range, place_of}
use Rattle.plane.specs.Points.{Lines}
use Rattle.plane.specs.Placed.{LinesInRange, box_of, Upright}
use Rattle.plane.specs.TileSet.{bit, one_if}
use Rattle.plane.specs.Tiles.{column_of, row_of}
use Rattle.plane.proofs.Logic.{and_means, le_means, eq_means, iff_join, iff_turn, iff_and}
use Rattle.plane.proofs.Place.{place_lt, place_at_most}
use Rattle.matrix.specs.Grid.{Cell}
use Rattle.matrix.specs.Holding.{RangeContains, Holds, across_lines, up_lines, cell_at, range_of, holds}
use Rattle.matrix.proofs.Grid.{StripAt}
use Rattle.matrix.proofs.Cells.{placed, across_means, up_means, cell_places, cell_turned, cell_same}

-- ---- the range that contains a strip
-- range r is the one just after p
abbrev After : (lo hi p r : ℕ) → Type 0
After lo hi p r = ((p < lo) × (r ≡ 0)) ⊎ (((lo ≤ p) × (p < hi) × (r ≡ 1)) ⊎ ((hi ≤ p) × (r ≡ 2)))

range_cases : (lo hi p : ℕ) → lo ≤ hi → After lo hi p (range_of lo hi p)
unfolding range_of
range_cases lo hi p h = go (leb lo p) refl (leb hi p) refl
  where
    go : (s : Bool) → leb lo p ≡ s → (t : Bool) → leb hi p ≡ t → After lo hi p (one_if s + one_if t)
    go true x true y = inr (inr (leb-true hi p y, refl))
    go true x false y = inr (inl (leb-true lo p x, leb-false hi p y, refl))
    go false x true y = absurd (omega (arith, leb-false lo p x, leb-true hi p y))
    go false x false y = inl (leb-false lo p x, refl)

range_lt : (lo hi p : ℕ) → lo ≤ hi → range_of lo hi p < 3
range_lt lo hi p h = go (range_cases lo hi p h)
  where
    go : After lo hi p (range_of lo hi p) → range_of lo hi p < 3
    go (inl x) = omega (arith, x.1)
    go (inr (inl x)) = omega (arith, x.2)
    go (inr (inr x)) = omega (arith, x.1)

module _ (lo hi p q : ℤ) (hlo : in_range lo ≡ true) (hhi : in_range hi ≡ true) (hp : in_range p ≡ true) (hq : in_range q ≡ true)
    (order : place_of lo ≤ place_of hi) (rises : p <ℤ q) (lo-out : p <ℤ lo → lo <ℤ q → ⊥) (hi-out : p <ℤ hi → hi <ℤ q → ⊥) where
  past : (l : ℤ) → in_range l ≡ true → (p <ℤ l → l <ℤ q → ⊥) → place_of p < place_of l → q ≤ℤ l
  past l hl out h =
      elim (dec_le (place_of q) (place_of l)) [
        | yes k ↦ (place_at_most q l hq hl).1 k
        | no k ↦ absurd (out ((place_lt p l hp hl).1 h) ((place_lt l q hl hq).1 (omega arith)))
      ]

  pub range_means : (c : ℕ) → c < 3 → (c ≡ range_of (place_of lo) (place_of hi) (place_of p)) ↔ RangeContains c lo hi p q
  range_means c h = go c h (range_cases (place_of lo) (place_of hi) (place_of p) order)
    where
      r : ℕ
      r = range_of (place_of lo) (place_of hi) (place_of p)

      up : place_of p < place_of q
      up = (place_lt p q hp hq).0 rises

      go : (c : ℕ) → c < 3 → After (place_of lo) (place_of hi) (place_of p) r → (c ≡ r) ↔ RangeContains c lo hi p q
      go zero h (inl x) = (λ e. past lo hlo lo-out x.0, λ z. sym x.1)
      go zero h (inr (inl x)) = (λ e. absurd (omega (arith, x.2)), λ z. absurd (omega (arith, up, x.0, (place_at_most q lo hq hlo).0 z)))
      go zero h (inr (inr x)) = (λ e. absurd (omega (arith, x.1)), λ z. absurd (omega (arith, up, x.0, (place_at_most q lo hq hlo).0 z)))
      go (suc zero) h (inl x) = (λ e. absurd (omega (arith, x.1)), λ z. absurd (omega (arith, x.0, (place_at_most lo p hlo hp).0 z.0)))
      go (suc zero) h (inr (inl x)) = (λ e. ((place_at_most lo p hlo hp).1 x.0, past hi hhi hi-out x.1), λ z. sym x.2)
      go (suc zero) h (inr (inr x)) = (λ e. absurd (omega (arith, x.1)), λ z. absurd (omega (arith, up, x.0, (place_at_most q hi hq hhi).0 z.1)))
      go (suc (suc zero)) h (inl x) = (λ e. absurd (omega (arith, x.1)), λ z. absurd (omega (arith, x.0, (place_at_most hi p hhi hp).0 z)))
      go (suc (suc zero)) h (inr (inl x)) = (λ e. absurd (omega (arith, x.2)), λ z. absurd (omega (arith, x.1, (place_at_most hi p hhi hp).0 z)))
      go (suc (suc zero)) h (inr (inr x)) = (λ e. (place_at_most hi p hhi hp).1 x.0, λ z. sym x.1)
      go (suc (suc (suc c))) h x = absurd (omega arith)

-- ---- the tile in a column and a row
tile_lt : (c r : ℕ) → c < 3 → r < 3 → 3 * (2 - r) + c < 9
tile_lt c r hc hr = omega arith

tile_column : (c r : ℕ) → c < 3 → r < 3 → column_of (3 * (2 - r) + c) ≡ c
tile_column c r hc hr = omega arith

tile_row : (c r : ℕ) → c < 3 → r < 3 → row_of (3 * (2 - r) + c) ≡ r
tile_row c r hc hr = omega arith

tile_only : (c r t : ℕ) → t < 9 → column_of t ≡ c → row_of t ≡ r → 3 * (2 - r) + c ≡ t
tile_only c r t h e d = omega arith

-- ---- tests, and what they say of coordinates
test_both : (x y : Bool) {A B : Type 0} → (x ≡ true) ↔ A → (y ≡ true) ↔ B → (x && y ≡ true) ↔ (A × B)
test_both x y e f = iff_join (and_means x y) (iff_and e f)

test_at_most : (a b : ℤ) → in_range a ≡ true → in_range b ≡ true → (leb (place_of a) (place_of b) ≡ true) ↔ (a ≤ℤ b)
test_at_most a b ha hb = iff_join (le_means (place_of a) (place_of b)) (iff_turn (place_at_most a b ha hb))

-- ---- what a cell holds
module _ (L M : Lines) (relation i j : ℕ) (p q u v : ℤ) (hL : LinesInRange L) (hM : LinesInRange M) where
  -- the tile of the second box that contains the cell
  abbrev column : ℕ
  column = range_of (place_of M.west) (place_of M.east) (place_of p)

  abbrev row : ℕ
  row = range_of (place_of M.south) (place_of M.north) (place_of u)

  pub holds_means : Upright (box_of M) → Cell L M i j p q u v
      → (holds (box_of L) (box_of M) relation (cell_at (box_of L) (box_of M) i j) ≡ true) ↔ Holds L M relation p q u v
  unfolding holds
  holds_means upright c = rw (cell_places L M hL hM i j p q u v c) (iff_join parts (there, back))
    where
      s : StripAt (across_lines (box_of L) (box_of M)) j p q
      s = (across_means L M hL hM j p q).0 c.column

      t : StripAt (up_lines (box_of L) (box_of M)) c.from_south u v
      t = (up_means L M hL hM c.from_south u v).0 c.row

      in_column : (n : ℕ) → n < 3 → (n ≡ column) ↔ RangeContains n M.west M.east p q
      in_column =
          range_means M.west M.east p q hM.west hM.east s.from_in s.to_in upright.x c.column.rises
          (c.column.none_between M.west (inr (inr (inl refl)))) (c.column.none_between M.east (inr (inr (inr refl))))

      in_row : (n : ℕ) → n < 3 → (n ≡ row) ↔ RangeContains n M.south M.north u v
      in_row =
          range_means M.south M.north u v hM.south hM.north t.from_in t.to_in upright.y c.row.rises
          (c.row.none_between M.south (inr (inr (inl refl)))) (c.row.none_between M.north (inr (inr (inr refl))))

      Parts : Type 0
      Parts = (L.west ≤ℤ p) × ((q ≤ℤ L.east) × ((L.south ≤ℤ u) × ((v ≤ℤ L.north) × (bit relation (3 * (2 - row) + column) ≡ 1))))

      parts : (holds (box_of L) (box_of M) relation (placed p q u v) ≡ true) ↔ Parts
      parts =
          test_both (leb (place_of L.west) (place_of p)) _ (test_at_most L.west p hL.west s.from_in)
          (test_both (leb (place_of q) (place_of L.east)) _ (test_at_most q L.east s.to_in hL.east)
          (test_both (leb (place_of L.south) (place_of u)) _ (test_at_most L.south u hL.south t.from_in)
          (test_both (leb (place_of v) (place_of L.north)) _ (test_at_most v L.north t.to_in hL.north) (eq_means (bit relation (3 * (2 - row) + column)) 1))))

      there : Parts → Holds L M relation p q u v
      there h =
          let tile = 3 * (2 - row) + column in
          let a : column < 3 = range_lt (place_of M.west) (place_of M.east) (place_of p) upright.x in
          let b : row < 3 = range_lt (place_of M.south) (place_of M.north) (place_of u) upright.y in
          record {
            west = h.0;
            east = h.1.0;
            south = h.1.1.0;
            north = h.1.1.1.0;
            tile = tile;
            is_tile = tile_lt column row a b;
            in_column = (in_column (column_of tile) (omega arith)).0 (tile_column column row a b);
            in_row = (in_row (row_of tile) (omega arith)).0 (tile_row column row a b);
            there = h.1.1.1.1;
          }

      back : Holds L M relation p q u v → Parts
      back h =
          let e = (in_column (column_of h.tile) (omega arith)).1 h.in_column in
          let d = (in_row (row_of h.tile) (omega arith)).1 h.in_row in
          (h.west, (h.east, (h.south, (h.north, ap (bit relation) (tile_only column row h.tile h.is_tile e d) ∙ h.there))))

pub holds_second_means : (L M : Lines) (relation i j : ℕ) (p q u v : ℤ) → LinesInRange L → LinesInRange M → Upright (box_of L) → Cell L M i j p q u v
    → (holds (box_of M) (box_of L) relation (cell_at (box_of L) (box_of M) i j) ≡ true) ↔ Holds M L relation p q u v
holds_second_means L M relation i j p q u v hL hM upright c =
    rw (cell_turned (box_of L) (box_of M) i j) at (holds_means M L relation i j p q u v hM hL upright (cell_same L M hL hM i j p q u v c))
