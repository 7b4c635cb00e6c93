-- Directions: what the computed set says, and that the pair exchanged has the opposite directions.
--   side_means             on which side of a number another lies;  sides_mean  the compass place made of two sides, of rows and of columns
--   either_means           a value that is one of two
--   directions_mean        bit k is set exactly where some cell holding a lies in direction k from some cell holding b
--   Exchanged m m'         m' is m with 1 and 2 exchanged
--   direction_turned       then direction k of m' is direction 8 - k of m
--   directions_opposite    and the set of m' is the opposite of that of m
--   pair_opposite          the directions of (b, a) are the opposite of those of (a, b)
--   opposite_bit           bit k of the opposite is bit 8 - k
use mathlib.Core.Path.{◌≡◌, refl, sym, ◌∙◌, ap}
use mathlib.Core.Logic.{◌↔◌, ◌⊎◌, inl, inr}
use mathlib.Core.Bool.{Bool, true, false, ◌&&◌, ◌||◌}
use mathlib.Core.List.{List}
use Prim.Native.Nat.{ℕ, zero, suc, ◌+◌, ◌-◌, ◌*◌, ◌/◌, ◌%◌, ◌<◌}
use native.Mathlib.Omega.{arith}
use native.Mathlib.Decide.{ℕ_discrete}
use borrow.Author.Tests.{ltb-true, ltb-false, eqb-true, eqb-false, eq-eqb, ne_eqb}
use lib.Dec.{ltb, eqb}
use Rattle.plane.specs.Choice.{pick}
use Rattle.plane.specs.Folds.{any_to}
use Rattle.plane.specs.TileSet.{one_if, bit}
use Rattle.plane.specs.declared.Box.{Box}
use Rattle.plane.proofs.Logic.{and_means, or_means, eq_means, both, iff_join, iff_turn, iff_and, iff_or}
use Rattle.plane.proofs.Folds.{any_means}
use Rattle.plane.proofs.TileSet.{set_means, set_bit, set_same}
use Rattle.matrix.specs.Matrix.{matrix_of, value_at, exchanged}
use Rattle.compass.specs.Directions.{HoldsFirst, HoldsSecond, Toward, Direction, side_of, holds_first, holds_second, compass_place, directed, directions_of, opposite}
use Rattle.matrix.proofs.Matrix.{value_at_lem, matrix_exchanged}

-- ---- sides
pub side_means : (s i i' : ℕ) → s < 3 → (side_of i i' ≡ s) ↔ Toward s i i'
unfolding side_of
side_means s i i' h = go s h (ltb i i') refl (eqb i i') refl
  where
    go : (s : ℕ) → s < 3 → (x : Bool) → ltb i i' ≡ x → (y : Bool) → eqb i i' ≡ y → (pick x 0 (pick y 1 2) ≡ s) ↔ Toward s i i'
    go zero h true p y q = (λ e. ltb-true i i' p, λ l. refl)
    go zero h false p true q = (λ e. absurd (omega arith), λ l. absurd (omega (arith, ltb-false i i' p)))
    go zero h false p false q = (λ e. absurd (omega arith), λ l. absurd (omega (arith, ltb-false i i' p)))
    go (suc zero) h true p y q = (λ e. absurd (omega arith), λ l. absurd (omega (arith, ltb-true i i' p)))
    go (suc zero) h false p true q = (λ e. eqb-true i i' q, λ l. refl)
    go (suc zero) h false p false q = (λ e. absurd (omega arith), λ l. absurd (eqb-false i i' q l))
    go (suc (suc zero)) h true p y q = (λ e. absurd (omega arith), λ l. absurd (omega (arith, ltb-true i i' p)))
    go (suc (suc zero)) h false p true q = (λ e. absurd (omega arith), λ l. absurd (omega (arith, eqb-true i i' q)))
    go (suc (suc zero)) h false p false q = (λ e. omega (arith, ltb-false i i' p, eqb-false i i' q), λ l. refl)
    go (suc (suc (suc s))) h x p y q = absurd (omega arith)

side_lt : (i i' : ℕ) → side_of i i' < 3
unfolding side_of
side_lt i i' = go (ltb i i') (eqb i i')
  where
    go : (x y : Bool) → pick x 0 (pick y 1 2) < 3
    go true y = omega arith
    go false true = omega arith
    go false false = omega arith

pub sides_mean : (i i' j j' k : ℕ) → k < 9 → (3 * side_of i i' + side_of j j' ≡ k) ↔ (Toward (k / 3) i i' × Toward (k % 3) j j')
sides_mean i i' j j' k h =
    iff_join (parts _ _ (side_lt i i') (side_lt j j')) (iff_and (side_means (k / 3) i i' (omega arith)) (side_means (k % 3) j j' (omega arith)))
  where
    parts : (x y : ℕ) → x < 3 → y < 3 → (3 * x + y ≡ k) ↔ ((x ≡ k / 3) × (y ≡ k % 3))
    parts x y hx hy = (λ e. omega arith, λ e. omega arith)

toward_turned : (s i i' : ℕ) → s < 3 → Toward s i i' → Toward (2 - s) i' i
toward_turned zero i i' h t = t
toward_turned (suc zero) i i' h t = sym t
toward_turned (suc (suc zero)) i i' h t = t
toward_turned (suc (suc (suc s))) i i' h t = absurd (omega arith)

-- ---- cells by number
abbrev cell_number : (i j : ℕ) → ℕ
cell_number i j = 3 * i + j

place_means : (c d k : ℕ) → k < 9 → (compass_place c d ≡ k) ↔ (Toward (k / 3) (c / 3) (d / 3) × Toward (k % 3) (c % 3) (d % 3))
unfolding compass_place
place_means c d k h = sides_mean (c / 3) (d / 3) (c % 3) (d % 3) k h

pub either_means : (v n : ℕ) → (eqb v n || eqb v 3 ≡ true) ↔ ((v ≡ n) ⊎ (v ≡ 3))
either_means v n = iff_join (or_means (eqb v n) (eqb v 3)) (iff_or (eq_means v n) (eq_means v 3))

first_means : (m : List (List ℕ)) (c : ℕ) → (holds_first m c ≡ true) ↔ HoldsFirst m (c / 3) (c % 3)
unfolding holds_first
first_means m c = either_means (value_at m (c / 3) (c % 3)) 1

second_means : (m : List (List ℕ)) (c : ℕ) → (holds_second m c ≡ true) ↔ HoldsSecond m (c / 3) (c % 3)
unfolding holds_second
second_means m c = either_means (value_at m (c / 3) (c % 3)) 2

-- ---- the set
module _ (m : List (List ℕ)) (k : ℕ) (h : k < 9) where
  -- cell d holds b, and c lies in direction k from it
  abbrev against : ℕ → ℕ → Bool
  against c d = holds_second m d && eqb (compass_place c d) k

  abbrev starts : ℕ → Bool
  starts c = holds_first m c && any_to (against c) 9

  directed_there : directed m k ≡ true → Direction m k
  unfolding directed
  directed_there t =
      let x = (any_means starts 9).0 t in
      let p = (and_means (holds_first m x.0) (any_to (against x.0) 9)).0 x.2 in
      let y = (any_means (against x.0) 9).0 p.1 in
      let q = (and_means (holds_second m y.0) (eqb (compass_place x.0 y.0) k)).0 y.2 in
      let w = (place_means x.0 y.0 k h).0 (eqb-true (compass_place x.0 y.0) k q.1) in
      record {
        i = x.0 / 3;
        j = x.0 % 3;
        i' = y.0 / 3;
        j' = y.0 % 3;
        first_cell = omega (arith, x.1);
        second_cell = omega (arith, y.1);
        first_holds = (first_means m x.0).0 p.0;
        second_holds = (second_means m y.0).0 q.0;
        rows = w.0;
        columns = w.1;
      }

  directed_back : Direction m k → directed m k ≡ true
  unfolding directed
  directed_back x =
      let c = cell_number x.i x.j in
      let d = cell_number x.i' x.j' in
      let ci : c / 3 ≡ x.i = omega (arith, x.first_cell) in
      let cj : c % 3 ≡ x.j = omega (arith, x.first_cell) in
      let di : d / 3 ≡ x.i' = omega (arith, x.second_cell) in
      let dj : d % 3 ≡ x.j' = omega (arith, x.second_cell) in
      let f = (first_means m c).1 (rw (ci, cj) x.first_holds) in
      let g = (second_means m d).1 (rw (di, dj) x.second_holds) in
      let w = (place_means c d k h).1 (rw (ci, cj, di, dj) (x.rows, x.columns)) in
      (any_means starts 9).1 (
        c,
        omega (arith, x.first_cell),
        (and_means (holds_first m c) (any_to (against c) 9)).1
            (f, (any_means (against c) 9).1 (d, omega (arith, x.second_cell), (and_means (holds_second m d) (eqb (compass_place c d) k)).1 (g, eq-eqb (compass_place c d) k w))),
      )

  pub directions_mean : (bit (directions_of m) k ≡ 1) ↔ Direction m k
  unfolding directions_of
  directions_mean = iff_join (set_means (directed m) 9 k h) (directed_there, directed_back)

-- ---- the opposite
pub opposite_bit : (s k : ℕ) → k < 9 → bit (opposite s) k ≡ bit s (8 - k)
unfolding opposite
opposite_bit s k h = set_bit (λ (k : ℕ). eqb (bit s (8 - k)) 1) 9 k h ∙ go (bit s (8 - k)) (omega arith)
  where
    go : (b : ℕ) → b < 2 → one_if (eqb b 1) ≡ b
    go zero l = refl
    go (suc zero) l = refl
    go (suc (suc b)) l = absurd (omega arith)

exchange_back : (v w : ℕ) → exchanged v ≡ w → v ≡ exchanged w
exchange_back v w e = go (ℕ_discrete v 1) (ℕ_discrete v 2) ∙ ap exchanged e
  where
    go : Dec (v ≡ 1) → Dec (v ≡ 2) → v ≡ exchanged (exchanged v)
    go (yes p) q = rw p
    go (no p) (yes q) = rw q
    go (no p) (no q) = simp (ne_eqb v 1 p, ne_eqb v 2 q)

abbrev pub Exchanged : (m m' : List (List ℕ)) → Type 0
Exchanged m m' = (i j : ℕ) → i < 3 → j < 3 → value_at m' i j ≡ exchanged (value_at m i j)

pub direction_turned : (m m' : List (List ℕ)) (k : ℕ) → k < 9 → Exchanged m m' → Direction m' k → Direction m (8 - k)
direction_turned m m' k h e x =
    record {
      i = x.i';
      j = x.j';
      i' = x.i;
      j' = x.j;
      first_cell = x.second_cell;
      second_cell = x.first_cell;
      first_holds = holding x.i' x.j' 2 x.second_cell x.second_holds;
      second_holds = holding x.i x.j 1 x.first_cell x.first_holds;
      rows = rw (third k h) (toward_turned (k / 3) x.i x.i' (omega arith) x.rows);
      columns = rw (rest k h) (toward_turned (k % 3) x.j x.j' (omega arith) x.columns);
    }
  where
    holding : (i j n : ℕ) → (i < 3) × (j < 3) → (value_at m' i j ≡ n) ⊎ (value_at m' i j ≡ 3) → (value_at m i j ≡ exchanged n) ⊎ (value_at m i j ≡ 3)
    holding i j n h (inl p) = inl (exchange_back (value_at m i j) n (sym (e i j h.0 h.1) ∙ p))
    holding i j n h (inr p) = inr (exchange_back (value_at m i j) 3 (sym (e i j h.0 h.1) ∙ p))

    third : (k : ℕ) → k < 9 → (8 - k) / 3 ≡ 2 - k / 3
    third k h = omega arith

    rest : (k : ℕ) → k < 9 → (8 - k) % 3 ≡ 2 - k % 3
    rest k h = omega arith

pub directions_opposite : (m m' : List (List ℕ)) → Exchanged m m' → directions_of m' ≡ opposite (directions_of m)
unfolding directions_of opposite
directions_opposite m m' e =
    set_same (directed m') (λ (k : ℕ). eqb (bit (directions_of m) (8 - k)) 1) 9
    (λ k h. both (directed m' k) (eqb (bit (directions_of m) (8 - k)) 1)
    (iff_join (directed_there m' k h, directed_back m' k h)
    (iff_join (direction_turned m m' k h e, back k h)
    (iff_join (iff_turn (directions_mean m (8 - k) (omega arith))) (iff_turn (eq_means (bit (directions_of m) (8 - k)) 1))))))
  where
    again : (k : ℕ) → k < 9 → 8 - (8 - k) ≡ k
    again k h = omega arith

    back : (k : ℕ) → k < 9 → Direction m (8 - k) → Direction m' k
    back k h x =
        rw (again k h) at (direction_turned m' m (8 - k) (omega arith) (λ i j hi hj. exchange_back (value_at m i j) (value_at m' i j) (sym (e i j hi hj))) x)

pub pair_opposite : (a b : Box) (r s : ℕ) → directions_of (matrix_of b a s r) ≡ opposite (directions_of (matrix_of a b r s))
pair_opposite a b r s =
    directions_opposite (matrix_of a b r s) (matrix_of b a s r)
    (λ i j hi hj. value_at_lem b a s r i j hi hj ∙ matrix_exchanged a b r s i j ∙ ap exchanged (sym (value_at_lem a b r s i j hi hj)))
