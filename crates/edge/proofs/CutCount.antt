-- The pieces of an edge by its cuts: one more than the lines that cut it where no earlier line does, and this counts the distinct cut
-- points. A tool of proofs: the walk has one tile for each of these pieces (proofs/WalkPlaces).
-- The four lines are numbered 0 to 3 in the order west, east, south, north. A line is fresh where it cuts the edge at a point at which no
-- line with a lower number does; the fresh lines' cuts are the distinct cut points, listed once each.
--   nothing            a line that does not cut;  west_of, east_of, south_of, north_of  the four lines of a box across an edge
--   fresh x p q r      1 where x cuts the edge at a point at which none of p, q, r does
--   cut_pieces b g      1 and each fresh line of b
--   cut_pieces_mean    the edge has so many pieces
--   cut_pieces_some    at least one;  cut_pieces_one  and just one where the ends are equal
use mathlib.Core.Path.{◌≡◌, refl, sym, ◌∙◌, ap, subst}
use mathlib.Core.Logic.{◌↔◌, inl, inr}
use mathlib.Core.Bool.{Bool, true, false, not, ◌&&◌}
use Prim.Native.Nat.{ℕ, zero, suc, ◌+◌, ◌*◌, ◌≤◌, ◌<◌}
use native.Mathlib.Omega.{arith}
use native.Mathlib.Decide.{dec_lt}
use borrow.Author.Tests.{lt-ltb, le-ltb}
use lib.Dec.{ltb}
use lib.IntN.{ℤ, pos, ◌*ℤ◌}
use Rattle.plane.specs.Choice.{pick}
use Rattle.plane.specs.Folds.{sum_to, first_of}
use Rattle.plane.specs.TileSet.{one_if}
use Rattle.plane.specs.Counting.{Distinct}
use Rattle.plane.specs.Place.{in_range, place_of}
use Rattle.plane.specs.Points.{Point, Lines, along, Fraction}
use Rattle.plane.specs.Placed.{PointInRange, LinesInRange, edge_of, box_of}
use Rattle.plane.specs.declared.Box.{Box}
use Rattle.plane.specs.declared.Edge.{Edge}
use Rattle.plane.proofs.Logic.{clash, and_means, not_means, is_false, iff_join, iff_turn, iff_and, iff_not}
use Rattle.plane.proofs.Folds.{first_below, first_passes}
use Rattle.plane.proofs.Counting.{Listed, listed, distinct_only, distinct_as}
use Rattle.plane.proofs.Place.{place_eq}
use Rattle.plane.proofs.Points.{on_line}
use Rattle.edge.specs.Clauses.{Apart}
use Rattle.edge.specs.Cuts.{MeetsLine, CutAt, SamePoint, PiecesOf}
use Rattle.edge.proofs.Weights.{rest, rest_sum, EqualEnds}
use Rattle.edge.proofs.Belongs.{apart_places}
use Rattle.edge.proofs.SamePoint.{same_point}
use Rattle.edge.proofs.Crossings.{Crossing, cuts, together, OnLine, Between, between_apart, SameFraction, same_turn, same_join, cuts_means, on_cuts, cut_of, cut_on, on_cut, together_cuts, together_means}

abbrev pub nothing : Crossing
nothing = record { a = 0; l = 0; b = 0 }

abbrev pub west_of : Box → Edge → Crossing
west_of b g = record { a = g.ax; l = b.west; b = g.bx }

abbrev pub east_of : Box → Edge → Crossing
east_of b g = record { a = g.ax; l = b.east; b = g.bx }

abbrev pub south_of : Box → Edge → Crossing
south_of b g = record { a = g.ay; l = b.south; b = g.by }

abbrev pub north_of : Box → Edge → Crossing
north_of b g = record { a = g.ay; l = b.north; b = g.by }

unfoldable pub fresh : (x p q r : Crossing) → ℕ
fresh x p q r = one_if (cuts x && (not (together p x) && (not (together q x) && not (together r x))))

unfoldable pub cut_pieces : Box → Edge → ℕ
cut_pieces b g =
    1 + fresh (west_of b g) nothing nothing nothing + fresh (east_of b g) (west_of b g) nothing nothing
    + fresh (south_of b g) (west_of b g) (east_of b g) nothing + fresh (north_of b g) (west_of b g) (east_of b g) (south_of b g)

-- ---- the lines by number
abbrev line : Box → Edge → ℕ → Crossing
line b g zero = west_of b g
line b g (suc zero) = east_of b g
line b g (suc (suc zero)) = south_of b g
line b g (suc (suc (suc i))) = north_of b g

module _ (b : Box) (g : Edge) where
  abbrev earlier : ℕ → ℕ → Crossing
  earlier i j = pick (ltb j i) (line b g j) nothing

  fresh_at : ℕ → Bool
  fresh_at i =
      cuts (line b g i)
      && (not (together (earlier i 0) (line b g i)) && (not (together (earlier i 1) (line b g i)) && not (together (earlier i 2) (line b g i))))

  fresh_to : ℕ
  fresh_to = sum_to (λ i. one_if (fresh_at i)) 4

  pieces_count : cut_pieces b g ≡ suc fresh_to
  unfolding cut_pieces fresh fresh_at fresh_to sum_to
  pieces_count = one_more (one_if (fresh_at 0)) (one_if (fresh_at 1)) (one_if (fresh_at 2)) (one_if (fresh_at 3))
    where
      one_more : (w e s n : ℕ) → 1 + w + e + s + n ≡ suc (0 + w + e + s + n)
      one_more w e s n = omega arith

  -- ---- a fresh line cuts the edge, and is together with no earlier one
  fresh_parts : (i : ℕ) → (fresh_at i ≡ true)
      ↔ ((cuts (line b g i) ≡ true) × ((not (together (earlier i 0) (line b g i)) ≡ true) × ((not (together (earlier i 1) (line b g i)) ≡ true) × (not (together (earlier i 2) (line b g i)) ≡ true))))
  unfolding fresh_at
  fresh_parts i = iff_join (and_means _ _) (iff_and (λ h. h, λ h. h) (iff_join (and_means _ _) (iff_and (λ h. h, λ h. h) (and_means _ _))))

  fresh_first : (i j : ℕ) → fresh_at i ≡ true → i < 4 → j < i → together (line b g j) (line b g i) ≡ true → ⊥
  fresh_first i j h low l t = go j l t
    where
      clear : (j : ℕ) → j < i → not (together (earlier i j) (line b g i)) ≡ true → together (line b g j) (line b g i) ≡ true → ⊥
      clear j l n t = (not_means (together (earlier i j) (line b g i))).0 n (simp (lt-ltb j i l) t)

      go : (j : ℕ) → j < i → together (line b g j) (line b g i) ≡ true → ⊥
      go zero l t = clear 0 l ((fresh_parts i).0 h).1.0 t
      go (suc zero) l t = clear 1 l ((fresh_parts i).0 h).1.1.0 t
      go (suc (suc zero)) l t = clear 2 l ((fresh_parts i).0 h).1.1.1 t
      go (suc (suc (suc j))) l t = absurd (omega arith)

  fresh_is : (i : ℕ) → cuts (line b g i) ≡ true → ((j : ℕ) → j < i → together (line b g j) (line b g i) ≡ false) → fresh_at i ≡ true
  unfolding together cuts
  fresh_is i c h = (fresh_parts i).1 (c, (clear 0, (clear 1, clear 2)))
    where
      clear : (j : ℕ) → not (together (earlier i j) (line b g i)) ≡ true
      clear j = elim (dec_lt j i) [ yes l ↦ simp (lt-ltb j i l, h j l) | no l ↦ simp (le-ltb j i (omega arith)) ]

  -- the first of the lines that are together with a line that cuts is fresh
  first_fresh : (i : ℕ) → cuts (line b g i) ≡ true → (j : ℕ) × (j ≤ i) × (fresh_at j ≡ true) × SameFraction (cut_of (line b g i)) (cut_of (line b g j))
  first_fresh i c = (j, omega (arith, low), fresh_is j cj alone, same_turn (cut_of (line b g j)) (cut_of (line b g i)) one)
    where
      f : ℕ → Bool
      f j = together (line b g j) (line b g i)

      self : f i ≡ true
      self = (together_means (line b g i) (line b g i) c c).1 refl

      j : ℕ
      j = first_of f (suc i)

      low : j < suc i
      low = elim (dec_lt j (suc i)) [ yes l ↦ l | no l ↦ clash (f i) self (first_below f (suc i) i (omega arith)) ]

      cj : cuts (line b g j) ≡ true
      cj = together_cuts (line b g j) (line b g i) (first_passes f (suc i) low)

      one : SameFraction (cut_of (line b g j)) (cut_of (line b g i))
      one = (together_means (line b g j) (line b g i) cj c).0 (first_passes f (suc i) low)

      joined : (k : ℕ) → together (line b g k) (line b g j) ≡ true → f k ≡ true
      joined k t =
          let ck = together_cuts (line b g k) (line b g j) t in
          (together_means (line b g k) (line b g i) ck c).1
          (same_join (cut_of (line b g k)) (cut_of (line b g j)) (cut_of (line b g i)) ((together_means (line b g k) (line b g j) ck cj).0 t) one)

      alone : (k : ℕ) → k < j → together (line b g k) (line b g j) ≡ false
      alone k l = is_false (together (line b g k) (line b g j)) (λ t. clash (f k) (joined k t) (first_below f (suc i) k l))

  -- ---- the cuts of the fresh lines are the distinct points P, where P are the points on some line
  module _ (P : Fraction → Type 0) (on : (p : Fraction) → P p ↔ ((i : ℕ) × (i < 4) × OnLine (line b g i) p)) where
    counted : Distinct Fraction P SameFraction fresh_to
    unfolding fresh_to
    counted =
        record {
          nth = λ i. cut_of (line b g (l.nth i));
          each = λ i h. (on (cut_of (line b g (l.nth i)))).1 (l.nth i, l.low i h, cut_on (line b g (l.nth i)) (cut i h));
          apart = λ i j q h s.
              fresh_first (l.nth j) (l.nth i) (l.each j h) (l.low j h) (l.rising i j q h)
              ((together_means (line b g (l.nth i)) (line b g (l.nth j)) (cut i (omega arith)) (cut j h)).1 s);
          all = all;
        }
      where
        l : Listed fresh_at 4 (sum_to (λ i. one_if (fresh_at i)) 4)
        l = listed fresh_at 4

        cut : (i : ℕ) → i < sum_to (λ i. one_if (fresh_at i)) 4 → cuts (line b g (l.nth i)) ≡ true
        cut i h = ((fresh_parts (l.nth i)).0 (l.each i h)).0

        all : (p : Fraction) → P p → (i : ℕ) × (i < sum_to (λ i. one_if (fresh_at i)) 4) × SameFraction p (cut_of (line b g (l.nth i)))
        all p h =
            let x = (on p).0 h in
            let y = first_fresh x.0 (on_cuts (line b g x.0) p x.2) in
            let z = l.all y.0 (omega (arith, x.1, y.1)) y.2 in
            let s = same_join p (cut_of (line b g x.0)) (cut_of (line b g y.0)) (on_cut (line b g x.0) p x.2) y.3 in
            (z.0, z.1, subst (λ (n : ℕ). SameFraction p (cut_of (line b g n))) (sym z.2) s)

-- ---- at least one, and just one where the ends are equal
pub cut_pieces_some : (b : Box) (g : Edge) → 0 < cut_pieces b g
cut_pieces_some b g = omega (arith, pieces_count b g)

pub cut_pieces_one : (b : Box) (g : Edge) → EqualEnds g → cut_pieces b g ≡ 1
unfolding cut_pieces fresh
cut_pieces_one b g e = rw (none (west_of b g) e.0, none (east_of b g) e.0, none (south_of b g) e.1, none (north_of b g) e.1) refl
  where
    none : (x : Crossing) → x.a ≡ x.b → cuts x ≡ false
    none x q = is_false (cuts x) (λ h. between_apart x.a x.l x.b ((cuts_means x).0 h) q)

-- ---- the same over coordinates
line_place : (a b l : ℤ) (p : Fraction) → in_range a ≡ true → in_range b ≡ true → in_range l ≡ true
    → MeetsLine l p.n p.k a b ↔ OnLine (record { a = place_of a; l = place_of l; b = place_of b }) p
line_place a b l p ha hb hl =
    iff_and
    (subst (λ (n : ℕ). (along n p.k a b ≡ pos n *ℤ l) ↔ (rest p * place_of a + p.k * place_of b ≡ (rest p + p.k) * place_of l)) (sym (rest_sum p)) (on_line a b l (rest p) p.k ha hb hl))
    (iff_not (iff_and (place_eq a l ha hl) (place_eq b l hb hl)))

module _ (L : Lines) (A B : Point) (rl : LinesInRange L) (ra : PointInRange A) (rb : PointInRange B) where
  cut_lines : (p : Fraction) → CutAt L A B p ↔ ((i : ℕ) × (i < 4) × OnLine (line (box_of L) (edge_of A B) i) p)
  cut_lines p = (there, λ x. back x.0 x.1 x.2)
    where
      upright : (l : ℤ) → in_range l ≡ true → MeetsLine l p.n p.k A.x B.x ↔ OnLine (record { a = place_of A.x; l = place_of l; b = place_of B.x }) p
      upright l h = line_place A.x B.x l p ra.x rb.x h

      level : (l : ℤ) → in_range l ≡ true → MeetsLine l p.n p.k A.y B.y ↔ OnLine (record { a = place_of A.y; l = place_of l; b = place_of B.y }) p
      level l h = line_place A.y B.y l p ra.y rb.y h

      there : CutAt L A B p → (i : ℕ) × (i < 4) × OnLine (line (box_of L) (edge_of A B) i) p
      there (inl h) = (0, omega arith, (upright L.west rl.west).0 h)
      there (inr (inl h)) = (1, omega arith, (upright L.east rl.east).0 h)
      there (inr (inr (inl h))) = (2, omega arith, (level L.south rl.south).0 h)
      there (inr (inr (inr h))) = (3, omega arith, (level L.north rl.north).0 h)

      back : (i : ℕ) → i < 4 → OnLine (line (box_of L) (edge_of A B) i) p → CutAt L A B p
      back zero l h = inl ((upright L.west rl.west).1 h)
      back (suc zero) l h = inr (inl ((upright L.east rl.east).1 h))
      back (suc (suc zero)) l h = inr (inr (inl ((level L.south rl.south).1 h)))
      back (suc (suc (suc i))) l h = inr (inr (inr ((level L.north rl.north).1 h)))

  -- an edge that a line cuts has different ends
  cut_apart : (p : Fraction) → CutAt L A B p → Apart A B
  cut_apart p h = let x = (cut_lines p).0 h in (apart_places A B ra rb).1 (crossed x.0 ((cuts_means (line (box_of L) (edge_of A B) x.0)).0 (on_cuts (line (box_of L) (edge_of A B) x.0) p x.2)))
    where
      crossed : (i : ℕ) → Between (line (box_of L) (edge_of A B) i).a (line (box_of L) (edge_of A B) i).l (line (box_of L) (edge_of A B) i).b → EqualEnds (edge_of A B) → ⊥
      crossed zero h e = between_apart _ _ _ h e.0
      crossed (suc zero) h e = between_apart _ _ _ h e.0
      crossed (suc (suc zero)) h e = between_apart _ _ _ h e.1
      crossed (suc (suc (suc i))) h e = between_apart _ _ _ h e.1

  same : (p q : Fraction) → CutAt L A B p → SameFraction p q ↔ SamePoint A B p q
  same p q h = iff_turn (same_point A B p q (cut_apart p h))

  cut_points : Distinct Fraction (CutAt L A B) SameFraction (fresh_to (box_of L) (edge_of A B))
  cut_points = counted (box_of L) (edge_of A B) (CutAt L A B) cut_lines

  pub cut_pieces_mean : (m : ℕ) → (cut_pieces (box_of L) (edge_of A B) ≡ m) ↔ PiecesOf L A B m
  cut_pieces_mean m = (
    λ e. record {
      cuts = fresh_to (box_of L) (edge_of A B);
      plus_one = sym e ∙ pieces_count (box_of L) (edge_of A B);
      counted = distinct_as Fraction (CutAt L A B) SameFraction (SamePoint A B) _ same cut_points;
    },
    λ h. pieces_count (box_of L) (edge_of A B) ∙ ap suc (as_many h.cuts h.counted) ∙ sym h.plus_one,
  )
    where
      as_many : (m : ℕ) → Distinct Fraction (CutAt L A B) (SamePoint A B) m → fresh_to (box_of L) (edge_of A B) ≡ m
      as_many m d =
          distinct_only Fraction (CutAt L A B) SameFraction same_turn (λ p q r h. same_join p q r) _ m cut_points
          (distinct_as Fraction (CutAt L A B) (SamePoint A B) SameFraction m (λ p q h. iff_turn (same p q h)) d)
