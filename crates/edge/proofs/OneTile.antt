-- An edge with both ends strictly inside one tile meets no line: it is one piece, in that tile.
--   Still x c        the axis x has no line left at its start, where it stands in range c;  still  as between ends in one range
--   tile_lt          column c and row r are those of a tile
--   one_tile         the edge has that tile and no other;  one_piece  and one piece, also where its ends are equal
use mathlib.Core.Path.{◌≡◌, refl, sym, ◌∙◌, ap}
use mathlib.Core.Logic.{⊎_elim}
use mathlib.Core.Bool.{true, false, ◌&&◌}
use Prim.Native.Nat.{ℕ, zero, suc, ◌+◌, ◌≤◌, ◌<◌, max}
use native.Mathlib.Omega.{arith}
use borrow.Author.Tests.{lt-ltb, le-ltb, le-leb, lt-leb}
use lib.Dec.{eqb}
use Rattle.plane.specs.Folds.{any_to, all_to, sum_to}
use Rattle.plane.specs.Placed.{Upright}
use Rattle.plane.specs.declared.Box.{Box}
use Rattle.plane.specs.declared.Edge.{Edge}
use Rattle.plane.proofs.Logic.{and_means, eq_means}
use Rattle.plane.proofs.Folds.{all_at}
use Rattle.edge.specs.declared.Axis.{Axis}
use Rattle.edge.specs.declared.State.{State}
use Rattle.edge.specs.Moments.{rise_of, fall_of, rising_axis, falling_axis, axis_of}
use Rattle.edge.specs.TileList.{count_in, stands_in}
use Rattle.edge.specs.Walk.{axis_x, axis_y, next_moment, lines_at_start, range_after, tile_of, enter_of, left_of, done_of, begin_of, list_of}
use Rattle.edge.specs.Drawn.{has, pieces}
use Rattle.edge.proofs.Weights.{InCol, EqualEnds}
use Rattle.edge.proofs.Belongs.{equal_ends_lem}
use Rattle.edge.proofs.Moments.{axis_cases, reach, axis_x_fits, axis_y_fits}
use Rattle.edge.proofs.AllOrders.{same_as}
use Rattle.edge.proofs.TileList.{count_none}
use Rattle.edge.proofs.WalkSteps.{ended_0, list_none, list_some}
use Rattle.edge.proofs.WalkPlaces.{same_as_lem}

-- ---- one axis
pub record Still (x : Axis) (c : ℕ) : Type 0 where
  pub none_left : left_of (next_moment x (lines_at_start x)) ≡ false
  pub range : range_after x.down (lines_at_start x) ≡ c

module _ (x : Axis) (some : 0 < x.length) where
  still_after : (c : ℕ) → lines_at_start x ≡ c → left_of (next_moment x c) ≡ false → Still x (range_after x.down c)
  still_after c e h = record { none_left = ap (λ z. left_of (next_moment x z)) e ∙ h; range = ap (range_after x.down) e }

  -- no line, one line, or both are behind it at the start, and what is left comes at the end
  still_0 : x.first ≡ x.length → Still x (range_after x.down 0)
  unfolding lines_at_start
  still_0 e = still_after 0 (simp (lt-ltb 0 x.first (omega arith))) (le-ltb x.first x.length (omega arith))

  still_1 : x.first ≡ 0 → x.second ≡ x.length → Still x (range_after x.down 1)
  unfolding lines_at_start
  still_1 e f = still_after 1 (simp (le-ltb 0 x.first (omega arith), lt-ltb 0 x.second (omega arith))) (le-ltb x.second x.length (omega arith))

  still_2 : x.first ≡ 0 → x.second ≡ 0 → Still x (range_after x.down 2)
  unfolding lines_at_start
  still_2 e f = still_after 2 (simp (le-ltb 0 x.first (omega arith), le-ltb 0 x.second (omega arith))) refl

module _ (a b n lo hi : ℕ) (some : 0 < n) (le : lo ≤ hi) where
  still_rising : (c : ℕ) → c < 3 → InCol c lo hi 1 a → InCol c lo hi 1 b → Still (rising_axis a b n lo hi) c
  unfolding rise_of range_after
  still_rising zero l p q = still_0 (rising_axis a b n lo hi) some (simp (lt-leb lo a (omega arith), le-leb b lo (omega arith)))
  still_rising (suc zero) l p q =
      still_1 (rising_axis a b n lo hi) some (simp (le-leb lo a (omega (arith, p.0)))) (simp (lt-leb hi a (omega (arith, p.1)), le-leb b hi (omega (arith, q.1))))
  still_rising (suc (suc zero)) l p q =
      still_2 (rising_axis a b n lo hi) some (simp (le-leb lo a (omega arith))) (simp (le-leb hi a (omega arith)))
  still_rising (suc (suc (suc c))) l p q = absurd (omega arith)

  still_falling : (c : ℕ) → c < 3 → InCol c lo hi 1 a → InCol c lo hi 1 b → Still (falling_axis a b n lo hi) c
  unfolding fall_of range_after
  still_falling zero l p q =
      still_2 (falling_axis a b n lo hi) some (simp (le-leb a hi (omega arith))) (simp (le-leb a lo (omega arith)))
  still_falling (suc zero) l p q =
      still_1 (falling_axis a b n lo hi) some (simp (le-leb a hi (omega (arith, p.1)))) (simp (lt-leb a lo (omega (arith, p.0)), le-leb lo b (omega (arith, q.0))))
  still_falling (suc (suc zero)) l p q = still_0 (falling_axis a b n lo hi) some (simp (lt-leb a hi (omega arith), le-leb hi b (omega arith)))
  still_falling (suc (suc (suc c))) l p q = absurd (omega arith)

still : (a b u v lo hi c : ℕ) → lo ≤ hi → c < 3 → ((a ≡ b) × (u ≡ v) → ⊥) → InCol c lo hi 1 a → InCol c lo hi 1 b → Still (axis_of a b u v lo hi) c
still a b u v lo hi c le l ns p q =
    let r = axis_cases a b u v lo hi ns in
    ⊎_elim
    (λ w. rw w.0 (still_rising a b r.n lo hi (⊎_elim (λ z. omega (arith, z.0, z.1)) (λ z. omega (arith, z.1)) w.1) le c l p q))
    (λ w. rw w.0 (still_falling a b r.n lo hi (⊎_elim (λ z. omega (arith, z.0, z.1)) (λ z. omega (arith, z.1)) w.1) le c l p q))
    r.way

-- ---- the list of one tile
one_listed : all_to (λ t. all_to (λ u. same_as (stands_in (t + 1) u) (eqb u t)) 9 && eqb (count_in (t + 1)) 1) 9 ≡ true
unfolding all_to stands_in count_in any_to sum_to
one_listed = refl

module _ (t : ℕ) (l : t < 9) where
  listed : (all_to (λ u. same_as (stands_in (t + 1) u) (eqb u t)) 9 ≡ true) × (eqb (count_in (t + 1)) 1 ≡ true)
  listed = (and_means _ _).0 (all_at (λ t. all_to (λ u. same_as (stands_in (t + 1) u) (eqb u t)) 9 && eqb (count_in (t + 1)) 1) 9 t one_listed l)

  stands_one : (u : ℕ) → u < 9 → stands_in (t + 1) u ≡ eqb u t
  stands_one u h = same_as_lem _ _ (all_at (λ u. same_as (stands_in (t + 1) u) (eqb u t)) 9 u listed.0 h)

  count_one : count_in (t + 1) ≡ 1
  count_one = (eq_means _ _).0 listed.1

-- ---- the edge
pub tile_lt : (c r : ℕ) → c < 3 → r < 3 → tile_of c r < 9
unfolding tile_of
tile_lt c r cl rl = omega arith

module _ (b : Box) (g : Edge) (up : Upright b) (c r : ℕ) (cl : c < 3) (rl : r < 3)
    (west : InCol c b.west b.east 1 g.ax) (east : InCol c b.west b.east 1 g.bx)
    (south : InCol r b.south b.north 1 g.ay) (north : InCol r b.south b.north 1 g.by) where
  one_list : (EqualEnds g → ⊥) → list_of b g ≡ tile_of c r + 1
  unfolding done_of enter_of
  one_list ns =
      let x = still g.ax g.bx g.ay g.by b.west b.east c up.x cl ns west east in
      let y = still g.ay g.by g.bx g.ax b.south b.north r up.y rl (λ e. ns (sym e.1, e.0)) south north in
      let done : done_of (axis_x b g) (axis_y b g) (begin_of (axis_x b g) (axis_y b g)) ≡ true = simp (x.none_left, y.none_left) in
      list_some b g ns
      ∙ ap (λ (s : State). s.list) (sym (ended_0 (axis_x b g) (axis_y b g) (reach g) (axis_x_fits b g) (axis_y_fits b g) (begin_of (axis_x b g) (axis_y b g)) refl done))
      ∙ rw (x.range, y.range) (omega arith)

  pub one_tile : (EqualEnds g → ⊥) → (t : ℕ) → t < 9 → has b g t ≡ eqb t (tile_of c r)
  unfolding has
  one_tile ns t h = ap (λ (v : ℕ). stands_in v t) (one_list ns) ∙ stands_one (tile_of c r) (tile_lt c r cl rl) t h

  pub one_piece : pieces b g ≡ 1
  unfolding pieces
  one_piece = elim (equal_ends_lem g) [
    | yes q ↦ ap (λ (v : ℕ). max 1 (count_in v)) (list_none b g q) ∙ ap (max 1) count_none
    | no ns ↦ ap (λ (v : ℕ). max 1 (count_in v)) (one_list ns) ∙ ap (max 1) (count_one (tile_of c r) (tile_lt c r cl rl))
  ]
