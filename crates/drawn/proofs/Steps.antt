-- The steps of specs/Steps are the definitions of drawing/specs/Drawing.
--   row_none            an edge that is never between a row's lines marks none of its cells;  row_past  nor is there a row past the grid's size
--   edge_none, edge_set     an edge without way, and any other by its stays in the three columns and rows
--   near_marked         an edge marks only cells that it comes near;  near_set  these as a set
--   nothing_new, nine   so where all of them are marked already nothing is added; a set of nine is the set of its bits
--   fold_centre         a region marks a cell by an edge, or by the centre clause where the cell is the other's box
--   cells_are           so the nine values are those of the drawn matrix
use mathlib.Core.Path.{◌≡◌, refl, sym, ◌∙◌, ap}
use mathlib.Core.Bool.{Bool, true, false, not, ◌&&◌, ◌||◌}
use Prim.Native.Nat.{ℕ, zero, suc, ◌+◌, ◌-◌, ◌*◌, ◌/◌, ◌%◌, ◌≤◌, ◌<◌, min, max}
use native.Mathlib.Omega.{arith}
use borrow.Author.Tests.{lt-ltb, le-ltb, le-leb, ltb-true, ltb-false}
use native.Mathlib.Decide.{dec_le}
use lib.Bits.{bit_or}
use lib.Dec.{leb, ltb, eqb}
use lib.ListN.{length, get_or}
use Rattle.plane.specs.Choice.{pick}
use Rattle.plane.specs.Folds.{any_to}
use Rattle.plane.specs.Lists.{tab}
use Rattle.plane.specs.TileSet.{one_if, set_of, bit}
use Rattle.plane.specs.declared.Box.{Box}
use Rattle.plane.specs.declared.Edge.{Edge}
use Rattle.plane.proofs.Lists.{tab_same}
use Rattle.plane.proofs.Logic.{never, and_means}
use Rattle.plane.proofs.TileSet.{set_none, set_bit, set_or, set_same}
use Rattle.ring.specs.Edges.{ring_edge}
use Rattle.ring.specs.RingBox.{covers, stretch_box}
use Rattle.ring.specs.Enclosed.{encloses}
use Rattle.ring.specs.Repeated.{equal_ends}
use Rattle.region.specs.Region.{Region, start_of, size_of}
use Rattle.matrix.specs.declared.GridLines.{GridLines}
use Rattle.matrix.specs.Holding.{row_count, column_count}
use Rattle.matrix.specs.Kept.{grid_of, cell_in}
use Rattle.drawing.specs.declared.Stay.{Stay}
use Rattle.drawing.specs.Stays.{gap, across_stay, up_stay, stay_up, stay_down, counted, stay_of, overlaps, marks}
use Rattle.drawing.specs.Drawing.{same_box, ring_marks, region_marks, drawn_value, drawn_cells}
use Rattle.drawn.specs.declared.Marked.{Marked}
use Rattle.drawn.specs.Steps.{row_stay, row_set, near, near_row, near_column, near_cell, edges_mark, ring_centre, region_centre, marked_by, is_marked, value_by}

one_is : (t : Bool) → eqb (one_if t) 1 ≡ t
one_is true = refl
one_is false = refl

-- ---- one row
never_there : (s t : Stay) → t.to ≤ t.from → overlaps s t ≡ false
unfolding overlaps
never_there s t h = rw (le-ltb t.from t.to h) (go (ltb s.from s.to))
  where
    go : (p : Bool) → p && false ≡ false
    go true = refl
    go false = refl

pub row_none : (up west middle east : Stay) → up.to ≤ up.from → 0 ≡ row_set up west middle east
unfolding row_set
row_none up west middle east h = rw (never_there west up h, never_there middle up h, never_there east up h) refl

no_room : (a b l : ℕ) (up : Bool) → (stay_of a b l l up).to ≤ (stay_of a b l l up).from
unfolding stay_of
no_room a b l up = go (ltb a b) (ltb b a) up
  where
    go : (s t up : Bool)
        → (pick s (stay_up a l l (b - a)) (pick t (stay_down a l l (a - b)) (pick up (stay_up a l l 1) (stay_down a l l 1)))).to
        ≤ (pick s (stay_up a l l (b - a)) (pick t (stay_down a l l (a - b)) (pick up (stay_up a l l 1) (stay_down a l l 1)))).from
    go true t up = omega arith
    go false true up = omega arith
    go false false true = omega arith
    go false false false = omega arith

pub row_past : (g : GridLines) (e : Edge) (above : Bool) (i : ℕ) (west middle east : Stay) → g.rows ≤ i → 0 ≡ row_set (row_stay g e above i) west middle east
unfolding row_stay
row_past g e above i west middle east h =
    row_none (row_stay g e above i) west middle east
    (let p : g.rows - 1 - i ≡ 0 = omega arith in
    let q : g.rows - i ≡ 0 = omega arith in
    rw (p, q) (no_room e.ay e.by (get_or g.up 0 0) above))

-- ---- one edge
module _ (own : Box) (g : GridLines) (e : Edge) where
  abbrev column_stay : ℕ → Stay
  column_stay j = stay_of e.ax e.bx (get_or g.across j 0) (get_or g.across (j + 1) 0) (counted own.west own.east e.ax (ltb e.ay e.by))

  abbrev in_row : ℕ → Stay
  in_row i = row_stay g e (counted own.south own.north e.ay (ltb e.bx e.ax)) i

  pub edge_none : equal_ends e ≡ true → 0 ≡ set_of (λ c. marks own (cell_in g (c / 3) (c % 3)) e) 9
  unfolding marks
  edge_none h = sym (set_none (λ c. marks own (cell_in g (c / 3) (c % 3)) e) 9 (λ c k. rw h refl))

  pub edge_set : equal_ends e ≡ false
      → row_set (in_row 0) (column_stay 0) (column_stay 1) (column_stay 2) + 8 * row_set (in_row 1) (column_stay 0) (column_stay 1) (column_stay 2)
      + 64 * row_set (in_row 2) (column_stay 0) (column_stay 1) (column_stay 2)
      ≡ set_of (λ c. marks own (cell_in g (c / 3) (c % 3)) e) 9
  unfolding set_of marks cell_in row_stay row_set
  edge_set h = rw h (omega arith)

  -- the same of what the calls answered
  pub edge_by : {past above : Bool} {west middle east : Stay} {top centre bottom : ℕ} → equal_ends e ≡ false
      → past ≡ counted own.west own.east e.ax (ltb e.ay e.by) → above ≡ counted own.south own.north e.ay (ltb e.bx e.ax)
      → west ≡ stay_of e.ax e.bx (get_or g.across 0 0) (get_or g.across 1 0) past
      → middle ≡ stay_of e.ax e.bx (get_or g.across 1 0) (get_or g.across 2 0) past
      → east ≡ stay_of e.ax e.bx (get_or g.across 2 0) (get_or g.across 3 0) past
      → top ≡ row_set (row_stay g e above 0) west middle east → centre ≡ row_set (row_stay g e above 1) west middle east
      → bottom ≡ row_set (row_stay g e above 2) west middle east → top + 8 * centre + 64 * bottom ≡ set_of (λ c. marks own (cell_in g (c / 3) (c % 3)) e) 9
  edge_by h p a w m x t c b =
      let w' = w ∙ ap (stay_of e.ax e.bx (get_or g.across 0 0) (get_or g.across 1 0)) p in
      let m' = m ∙ ap (stay_of e.ax e.bx (get_or g.across 1 0) (get_or g.across 2 0)) p in
      let x' = x ∙ ap (stay_of e.ax e.bx (get_or g.across 2 0) (get_or g.across 3 0)) p in
      let t' = t ∙ (λ i. row_set (row_stay g e (a i) 0) (w' i) (m' i) (x' i)) in
      let c' = c ∙ (λ i. row_set (row_stay g e (a i) 1) (w' i) (m' i) (x' i)) in
      let b' = b ∙ (λ i. row_set (row_stay g e (a i) 2) (w' i) (m' i) (x' i)) in
      (λ i. t' i + 8 * c' i + 64 * b' i) ∙ edge_set h

-- ---- the cells near an edge
near_there : (a b lo hi : ℕ) (up : Bool) → ltb (stay_of a b lo hi up).from (stay_of a b lo hi up).to ≡ true → near a b lo hi ≡ true
unfolding stay_of near
near_there a b lo hi up h = go (ltb a b) refl (ltb b a) refl up h
  where
    met : min a b ≤ hi → lo ≤ max a b → leb (min a b) hi && leb lo (max a b) ≡ true
    met p q = (and_means (leb (min a b) hi) (leb lo (max a b))).1 (le-leb (min a b) hi p, le-leb lo (max a b) q)

    go : (s : Bool) → ltb a b ≡ s → (t : Bool) → ltb b a ≡ t → (up : Bool)
        → ltb (pick s (stay_up a lo hi (b - a)) (pick t (stay_down a lo hi (a - b)) (pick up (stay_up a lo hi 1) (stay_down a lo hi 1)))).from
        (pick s (stay_up a lo hi (b - a)) (pick t (stay_down a lo hi (a - b)) (pick up (stay_up a lo hi 1) (stay_down a lo hi 1)))).to ≡ true
        → leb (min a b) hi && leb lo (max a b) ≡ true
    go true e t f up h =
        let l : gap a lo (b - a) < gap a hi (b - a) = ltb-true (gap a lo (b - a)) (gap a hi (b - a)) h in
        let m = ltb-true a b e in
        met (omega (arith, l, m)) (omega (arith, l, m))
    go false e true f up h =
        let l : gap hi a (a - b) < gap lo a (a - b) = ltb-true (gap hi a (a - b)) (gap lo a (a - b)) h in
        let m = ltb-true b a f in
        met (omega (arith, l, m)) (omega (arith, l, m))
    go false e false f true h =
        let l : gap a lo 1 < gap a hi 1 = ltb-true (gap a lo 1) (gap a hi 1) h in
        let m = ltb-false a b e in
        let n = ltb-false b a f in
        met (omega (arith, l, m, n)) (omega (arith, l, m, n))
    go false e false f false h =
        let l : gap hi a 1 < gap lo a 1 = ltb-true (gap hi a 1) (gap lo a 1) h in
        let m = ltb-false a b e in
        let n = ltb-false b a f in
        met (omega (arith, l, m, n)) (omega (arith, l, m, n))

stays_there : (own k : Box) (e : Edge) → marks own k e ≡ true
    → (ltb (across_stay own k e).from (across_stay own k e).to ≡ true) × (ltb (up_stay own k e).from (up_stay own k e).to ≡ true)
unfolding marks overlaps
stays_there own k e h =
    let s = across_stay own k e in
    let t = up_stay own k e in
    let both = ltb (s.from * t.of) (t.to * s.of) && ltb (t.from * s.of) (s.to * t.of) in
    let o = ((and_means (not (equal_ends e)) (ltb s.from s.to && (ltb t.from t.to && both))).0 h).1 in
    let p = (and_means (ltb s.from s.to) (ltb t.from t.to && both)).0 o in
    (p.0, ((and_means (ltb t.from t.to) both).0 p.1).0)

in_row_lem : (y x₀ x₁ x₂ : Bool) → pick y (one_if x₀ * 1 + one_if x₁ * 2 + one_if x₂ * 4) 0 ≡ one_if (y && x₀) + 2 * one_if (y && x₁) + 4 * one_if (y && x₂)
in_row_lem true x₀ x₁ x₂ = omega arith
in_row_lem false x₀ x₁ x₂ = refl

module _ (own : Box) (g : GridLines) (e : Edge) where
  row_there : (i : ℕ) (above : Bool) → ltb (row_stay g e above i).from (row_stay g e above i).to ≡ true → i < g.rows
  unfolding row_stay
  row_there i above h =
      elim (dec_le g.rows i) [
        | no n ↦ omega (arith, n)
        | yes l ↦
            let p : g.rows - 1 - i ≡ 0 = omega arith in
            let q : g.rows - i ≡ 0 = omega arith in
            let s = stay_of e.ay e.by (get_or g.up 0 0) (get_or g.up 0 0) above in
            let z : ltb s.from s.to ≡ true = rw (p, q) at h in
            absurd (omega (arith, ltb-true s.from s.to z, no_room e.ay e.by (get_or g.up 0 0) above))
      ]

  pub near_marked : (i j : ℕ) → marks own (cell_in g i j) e ≡ true → near_row g e i && near_column g e j ≡ true
  unfolding cell_in near_row near_column row_stay
  near_marked i j h =
      let s = stays_there own (cell_in g i j) e h in
      let above = counted own.south own.north e.ay (ltb e.bx e.ax) in
      (and_means (near_row g e i) (near_column g e j)).1 (
        (and_means (ltb i g.rows) (near e.ay e.by (get_or g.up (g.rows - 1 - i) 0) (get_or g.up (g.rows - i) 0))).1 (
          lt-ltb i g.rows (row_there i above s.1),
          near_there e.ay e.by (get_or g.up (g.rows - 1 - i) 0) (get_or g.up (g.rows - i) 0) above s.1,
        ),
        near_there e.ax e.bx (get_or g.across j 0) (get_or g.across (j + 1) 0) (counted own.west own.east e.ax (ltb e.ay e.by)) s.0,
      )

module _ (g : GridLines) (e : Edge) where
  pub near_set : (columns top centre bottom : ℕ) → columns ≡ one_if (near_column g e 0) * 1 + one_if (near_column g e 1) * 2 + one_if (near_column g e 2) * 4
      → top ≡ pick (near_row g e 0) columns 0 → centre ≡ pick (near_row g e 1) columns 0 → bottom ≡ pick (near_row g e 2) columns 0
      → top + 8 * centre + 64 * bottom ≡ set_of (near_cell g e) 9
  unfolding set_of
  near_set columns top centre bottom k t c b =
      let row : (i : ℕ) (s : ℕ) → s ≡ pick (near_row g e i) columns 0 → s ≡ _ = (λ i s p. p ∙ ap (λ (n : ℕ). pick (near_row g e i) n 0) k ∙ in_row_lem (near_row g e i) (near_column g e 0) (near_column g e 1) (near_column g e 2)) in
      omega (arith, row 0 top t, row 1 centre c, row 2 bottom b)

-- where f has all of n, and n all of m, m adds nothing to f
pub nothing_new : (f n m : ℕ → Bool) → ((t : ℕ) → t < 9 → m t ≡ true → n t ≡ true) → bit_or (set_of f 9) (set_of n 9) ≡ set_of f 9 → set_of f 9 ≡ bit_or (set_of f 9) (set_of m 9)
nothing_new f n m within e = sym (set_or f m 9 ∙ set_same (λ t. f t || m t) f 9 (λ t h. go (f t) (n t) (m t) (within t h) (had t h)))
  where
    had : (t : ℕ) → t < 9 → one_if (f t || n t) ≡ one_if (f t)
    had t h = sym (set_bit (λ t. f t || n t) 9 t h) ∙ ap (λ (s : ℕ). bit s t) (sym (set_or f n 9) ∙ e) ∙ set_bit f 9 t h

    go : (x y z : Bool) → (z ≡ true → y ≡ true) → one_if (x || y) ≡ one_if x → x || z ≡ x
    go true y z w e = refl
    go false true z w e = absurd (omega (arith, e))
    go false false true w e = never (w refl)
    go false false false w e = refl

pub nine : (f : ℕ → Bool) {s : ℕ} → s ≡ set_of f 9 → s ≡ set_of (λ c. eqb (bit s c) 1) 9
nine f e = rw e (set_same f (λ c. eqb (bit (set_of f 9) c) 1) 9 (λ t h. sym (ap (λ (z : ℕ). eqb z 1) (set_bit f 9 t h) ∙ one_is (f t))))

-- ---- a region: the centre clause at the end
either_way : (x y p q r : Bool) → (x || (p && q)) || (y || (p && r)) ≡ (x || y) || (p && (q || r))
either_way true y p q r = refl
either_way false true false q r = refl
either_way false true true true r = refl
either_way false true true false r = refl
either_way false false false q r = refl
either_way false false true q r = refl

fold_apart : (f h : ℕ → Bool) (p : Bool) (n : ℕ) → any_to (λ r. f r || (p && h r)) n ≡ any_to f n || (p && any_to h n)
unfolding any_to
fold_apart f h true zero = refl
fold_apart f h false zero = refl
fold_apart f h p (suc n) = rw (fold_apart f h p n) (either_way (any_to f n) (f n) p (any_to h n) (h n))

pub fold_centre : (own b k : Box) (R : Region) → edges_mark own k R || (same_box k b && region_centre b R) ≡ region_marks own b k R
unfolding edges_mark region_centre ring_centre region_marks ring_marks
fold_centre own b k R =
    sym (fold_apart (λ r. any_to (λ i. marks own k (ring_edge R.coordinates (start_of R.ends r) (size_of R.ends r) i)) (size_of R.ends r))
    (λ r. covers (stretch_box R.coordinates (start_of R.ends r) (size_of R.ends r)) b && encloses b R.coordinates (start_of R.ends r) (size_of R.ends r))
    (same_box k b) (length R.ends))

-- ---- the nine values
swapped : (p q : Bool) → p && q ≡ q && p
swapped true true = refl
swapped true false = refl
swapped false true = refl
swapped false false = refl

marked_is : (own b : Box) (g : GridLines) (R : Region) (i j : ℕ) → i < 3 → j < 3
    → is_marked (marked_by own b g R) (cell_in g i j) b (3 * i + j) ≡ region_marks own b (cell_in g i j) R
unfolding is_marked
marked_is own b g R i j hi hj =
    let p : (3 * i + j) / 3 ≡ i = omega arith in
    let q : (3 * i + j) % 3 ≡ j = omega arith in
    ap (λ (s : ℕ). eqb s 1 || (region_centre b R && same_box (cell_in g i j) b)) (set_bit (λ c. edges_mark own (cell_in g (c / 3) (c % 3)) R) 9 (3 * i + j) (omega arith))
    ∙ ap (λ (t : Bool). t || (region_centre b R && same_box (cell_in g i j) b))
    (one_is (edges_mark own (cell_in g ((3 * i + j) / 3) ((3 * i + j) % 3)) R) ∙ (λ x. edges_mark own (cell_in g (p x) (q x)) R))
    ∙ ap (λ (t : Bool). edges_mark own (cell_in g i j) R || t) (swapped (region_centre b R) (same_box (cell_in g i j) b))
    ∙ fold_centre own b (cell_in g i j) R

pub cells_are : (a b : Box) (first second : Region) {m n : Marked} → m ≡ marked_by a b (grid_of a b) first → n ≡ marked_by b a (grid_of a b) second
    → tab (λ c. value_by a b m n (c / 3) (c % 3)) 9 ≡ drawn_cells a b first second
unfolding drawn_cells drawn_value value_by
cells_are a b first second e f =
    (λ x. tab (λ c. value_by a b (e x) (f x) (c / 3) (c % 3)) 9)
    ∙ tab_same _ _ 9 (λ c h. λ x. pick (ltb (c / 3) (row_count a b) && ltb (c % 3) (column_count a b))
    (one_if (marked_is a b (grid_of a b) first (c / 3) (c % 3) (omega arith) (omega arith) x) + 2 * one_if (marked_is b a (grid_of a b) second (c / 3) (c % 3) (omega arith) (omega arith) x)) 0)
