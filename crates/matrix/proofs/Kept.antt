-- The grid as a struct keeps it: what stands in its places, and one line more.
--   padded_at       the places hold the lines, and 0 past them
--   lines_kept      a struct made of a list stands for that list
--   Made s l n      the struct s is made of the list l, which has at most n lines
--   made_room, made_next      a struct with room for one line more, and that line put in
--   kept_same       a line that stands at its place: the struct stays
--   kept_more       a line that does not: it goes in at its place, and what stands from there on moves up
--   lines_number    one to four lines
--   Size a b g      the grid g has the matrix's size
--   kept_size       a grid has the matrix's size, at most three rows and columns
--   cell_kept       the cell read from the grid is the cell of the two boxes
use mathlib.Core.Path.{◌≡◌, refl, sym, ◌∙◌, ap}
use mathlib.Core.Logic.{inl}
use mathlib.Core.Bool.{Bool, true, false, ◌&&◌}
use mathlib.Core.List.{List, [], ◌∷◌}
use Prim.Native.Nat.{ℕ, zero, suc, ◌+◌, ◌-◌, ◌≤◌, ◌<◌}
use native.Mathlib.Omega.{arith}
use borrow.Author.Tests.{ltb-true, leb-true, leb-false, eqb-true, lt-ltb, le-ltb, eq-eqb, ne_eqb, ltb-false, eqb-false}
use lib.Dec.{leb, ltb, eqb}
use lib.ListN.{length, get_or}
use Rattle.plane.specs.Choice.{pick}
use Rattle.plane.specs.Folds.{first_of}
use Rattle.plane.specs.Lists.{tab_from}
use Rattle.plane.specs.declared.Box.{Box}
use Rattle.plane.proofs.Logic.{clash, and_means}
use Rattle.plane.proofs.Folds.{first_le, first_below, first_passes}
use Rattle.plane.proofs.Lists.{length_tab, get_d_tab, tab_all}
use Rattle.matrix.specs.declared.Rising.{Rising}
use Rattle.matrix.specs.declared.GridLines.{GridLines}
use Rattle.matrix.specs.Holding.{insert, lines_of, across_lines, up_lines, column_count, row_count, cell_at}
use Rattle.matrix.specs.Kept.{padded, rising, lines_in, grid_of, cell_in, rectangle_of}
use Rattle.matrix.proofs.Lines.{insert_most, lines_means, lines_most}

pub padded_at : (l : List ℕ) (k : ℕ) → k < 4 → get_or (padded l) k 0 ≡ get_or l k 0
padded_at l k h = get_d_tab (λ (i : ℕ). get_or l i 0) 0 4 k h

pub lines_kept : (l : List ℕ) → length l ≤ 4 → lines_in (rising l) ≡ l
lines_kept l h = sym (tab_all (λ (i : ℕ). get_or (padded l) i 0) 0 (length l) l refl (λ k b. sym (padded_at l k (omega arith))))

-- s is made of the list l of at most n lines; with room left, what the code that puts in one line more asks for and answers
pub record Made (s : Rising) (l : List ℕ) (n : ℕ) : Type 0 where
  pub stands : s ≡ rising l
  pub few : length l ≤ n

module _ (s : Rising) (l : List ℕ) (n : ℕ) (m : Made s l n) (room : n < 4) where
  stands_for : lines_in s ≡ l
  stands_for = ap lines_in m.stands ∙ lines_kept l (omega (arith, m.few))

  pub made_room : (s.count < 4) × (s ≡ rising (lines_in s))
  made_room = (omega (arith, m.few, ap (λ (t : Rising). t.count) m.stands), m.stands ∙ sym (ap rising stands_for))

  pub made_next : (v : ℕ) (r : Rising) → r ≡ rising (insert v (lines_in s)) → Made r (insert v l) (suc n)
  made_next v r e = record { stands = e ∙ ap (λ (k : List ℕ). rising (insert v k)) stands_for; few = insert_most v l n m.few }

-- ---- where a line goes
module _ (v : ℕ) where
  below_put : (u : ℕ) (l : List ℕ) → u < v → insert v (u ∷ l) ≡ u ∷ insert v l
  unfolding insert
  below_put u l h = simp (le-ltb v u (omega arith), ne_eqb v u (λ e. omega arith))

  there_put : (l : List ℕ) (p : ℕ) → p < length l → ((i : ℕ) → i < p → get_or l i 0 < v) → get_or l p 0 ≡ v → insert v l ≡ l
  unfolding insert
  there_put [] p h b e = absurd (omega arith)
  there_put (u ∷ l) zero h b e = simp (le-ltb v u (omega arith), eq-eqb v u (sym e))
  there_put (u ∷ l) (suc p) h b e =
      below_put u l (b 0 (omega arith)) ∙ ap (λ (m : List ℕ). u ∷ m) (there_put l p (omega arith) (λ i q. b (suc i) (omega arith)) e)

  -- m is l with v put in at place p
  record Put (l m : List ℕ) (p : ℕ) : Type 0 where
    longer : length m ≡ suc (length l)
    before : (k : ℕ) → k < p → get_or m k 0 ≡ get_or l k 0
    here : get_or m p 0 ≡ v
    after : (k : ℕ) → p ≤ k → get_or m (suc k) 0 ≡ get_or l k 0

  first_put : (l : List ℕ) → Put l (v ∷ l) 0
  first_put l = record { longer = refl; before = λ k h. absurd (omega arith); here = refl; after = λ k h. refl }

  next_put : (u : ℕ) (l m : List ℕ) (p : ℕ) → Put l m p → Put (u ∷ l) (u ∷ m) (suc p)
  next_put u l m p x = record { longer = ap suc x.longer; before = low; here = x.here; after = high }
    where
      low : (k : ℕ) → k < suc p → get_or (u ∷ m) k 0 ≡ get_or (u ∷ l) k 0
      low zero h = refl
      low (suc k) h = x.before k (omega arith)

      high : (k : ℕ) → suc p ≤ k → get_or (u ∷ m) (suc k) 0 ≡ get_or (u ∷ l) k 0
      high zero h = absurd (omega arith)
      high (suc k) h = x.after k (omega arith)

  new_put : (l : List ℕ) (p : ℕ) → p ≤ length l → ((i : ℕ) → i < p → get_or l i 0 < v) → (p < length l → v < get_or l p 0) → Put l (insert v l) p
  unfolding insert
  new_put [] zero h b a = first_put []
  new_put [] (suc p) h b a = absurd (omega arith)
  new_put (u ∷ l) zero h b a = rw (lt-ltb v u (a (omega arith))) (first_put (u ∷ l))
  new_put (u ∷ l) (suc p) h b a =
      rw (below_put u l (b 0 (omega arith)))
      (next_put u l (insert v l) p (new_put l p (omega arith) (λ i q. b (suc i) (omega arith)) (λ q. a (omega arith))))

-- ---- one line more
-- line k is not below v
abbrev pub reached : Rising → ℕ → ℕ → Bool
reached l v k = leb v (get_or l.at k 0)

module _ (l : Rising) (v p : ℕ) (room : l.count < 4) (whole : l ≡ rising (lines_in l)) (place : p ≡ first_of (reached l v) l.count) where
  abbrev there : Bool
  there = ltb p l.count && eqb (get_or l.at p 0) v

  -- line k of what is made
  abbrev moved : ℕ → ℕ
  moved k = pick (ltb k p) (get_or l.at k 0) (pick (eqb k p) v (get_or l.at (k - 1) 0))

  long : length (lines_in l) ≡ l.count
  long = length_tab (λ (i : ℕ). get_or l.at i 0) l.count

  line_at : (k : ℕ) → k < 4 → get_or l.at k 0 ≡ get_or (lines_in l) k 0
  line_at k h = ap (λ (r : Rising). get_or r.at k 0) whole ∙ padded_at (lines_in l) k h

  place_le : p ≤ l.count
  place_le = rw place (first_le (reached l v) l.count)

  lower : (i : ℕ) → i < p → get_or (lines_in l) i 0 < v
  lower i h = rw (← line_at i (omega (arith, place_le))) (leb-false v (get_or l.at i 0) (first_below (reached l v) l.count i (rw place at h)))

  pub kept_same : (t : Bool) → t ≡ there → t ≡ true → l ≡ rising (insert v (lines_in l))
  kept_same t e d =
      let w = (and_means (ltb p l.count) (eqb (get_or l.at p 0) v)).0 (sym e ∙ d) in
      let h : p < l.count = ltb-true p l.count w.0 in
      whole
      ∙ ap rising (sym (there_put v (lines_in l) p (omega (arith, long)) lower (sym (line_at p (omega arith)) ∙ eqb-true (get_or l.at p 0) v w.1)))

  upper : there ≡ false → p < l.count → v < get_or (lines_in l) p 0
  upper t h =
      let q = leb-true v (get_or l.at p 0) (rw place (first_passes (reached l v) l.count (rw place at h))) in
      rw (← line_at p (omega arith))
      (apart q (λ e. clash there ((and_means (ltb p l.count) (eqb (get_or l.at p 0) v)).1 (lt-ltb p l.count h, eq-eqb (get_or l.at p 0) v e)) t))
    where
      apart : v ≤ get_or l.at p 0 → (get_or l.at p 0 ≡ v → ⊥) → v < get_or l.at p 0
      apart q d = omega arith

  put : there ≡ false → Put v (lines_in l) (insert v (lines_in l)) p
  put t = new_put v (lines_in l) p (omega (arith, place_le, long)) lower (λ h. upper t (omega (arith, long)))

  moved_is : there ≡ false → (k : ℕ) → k < 4 → moved k ≡ get_or (insert v (lines_in l)) k 0
  moved_is t k h = go (ltb k p) refl (eqb k p) refl
    where
      go : (x : Bool) → ltb k p ≡ x → (y : Bool) → eqb k p ≡ y
          → pick x (get_or l.at k 0) (pick y v (get_or l.at (k - 1) 0)) ≡ get_or (insert v (lines_in l)) k 0
      go true d y e = line_at k h ∙ sym ((put t).before k (ltb-true k p d))
      go false d true e = sym (put t).here ∙ ap (λ (i : ℕ). get_or (insert v (lines_in l)) i 0) (sym (eqb-true k p e))
      go false d false e =
          let q : p < k = omega (arith, ltb-false k p d, eqb-false k p e) in
          line_at (k - 1) (omega arith) ∙ sym ((put t).after (k - 1) (omega arith)) ∙ ap (λ (i : ℕ). get_or (insert v (lines_in l)) i 0) (omega arith)

  pub kept_more : (t : Bool) → t ≡ there → t ≡ false
      → record { count = l.count + 1; at = moved 0 ∷ moved 1 ∷ moved 2 ∷ moved 3 ∷ [] } ≡ rising (insert v (lines_in l))
  unfolding tab_from
  kept_more t e d =
      let q = sym e ∙ d in
      let n : l.count + 1 ≡ length (insert v (lines_in l)) = omega (arith, (put q).longer, long) in
      λ i. record {
        count = n i;
        at = moved_is q 0 (omega arith) i ∷ moved_is q 1 (omega arith) i ∷ moved_is q 2 (omega arith) i ∷ moved_is q 3 (omega arith) i ∷ [];
      }

-- ---- the whole grid
pub lines_number : (s : Rising) (lo hi lo' hi' : ℕ) → s ≡ rising (lines_of lo hi lo' hi') → (1 ≤ s.count) × (s.count ≤ 4)
lines_number s lo hi lo' hi' e =
    omega (arith, ap (λ (t : Rising). t.count) e, ((lines_means lo hi lo' hi' lo).1 (inl refl)).1, lines_most lo hi lo' hi')

grid_size : (a b : Box) → (row_count a b ≤ 3) × (column_count a b ≤ 3)
grid_size a b = omega (arith, lines_most a.west a.east b.west b.east, lines_most a.south a.north b.south b.north)

pub record Size (a b : Box) (g : GridLines) : Type 0 where
  pub rows_are : g.rows ≡ row_count a b
  pub columns_are : g.columns ≡ column_count a b
  pub rows_few : g.rows ≤ 3
  pub columns_few : g.columns ≤ 3

pub kept_size : (a b : Box) (g : GridLines) → g ≡ grid_of a b → Size a b g
unfolding grid_of
kept_size a b g e =
    let r = ap (λ (g : GridLines). g.rows) e in
    let k = ap (λ (g : GridLines). g.columns) e in
    let n = grid_size a b in
    record { rows_are = r; columns_are = k; rows_few = omega arith; columns_few = omega arith }

pub cell_kept : (a b : Box) (i j : ℕ) → i < row_count a b → j < column_count a b → rectangle_of (cell_in (grid_of a b) i j) ≡ cell_at a b i j
unfolding grid_of cell_in cell_at
cell_kept a b i j h k =
    let x = padded_at (across_lines a b) in
    let y = padded_at (up_lines a b) in
    let n = grid_size a b in
    rw (x j (omega arith), x (j + 1) (omega arith), y (row_count a b - 1 - i) (omega arith), y (row_count a b - i) (omega arith))
