-- A closed ring of vertices (X v, Y v), in numbers that are not negative, and the parity of its edges' crossings of the ray east of a point (px, py).
-- What holds of one axis holds of the other with X and Y exchanged. The laws for pins, over coordinates, are in Laws.
--   cross_at, Odd    edge i crosses the ray strictly east of the point;  an odd number of edges do
--   Beside           a point of an edge that is not level, at the height py;  x_of, m_of  its x, times its denominator
--   Met              edge i has different ends, and a point on the level segment from px to qx at the height py, ends included;  Unmet  no edge has
--   straddles_at     edge i crosses the level py;  straddles_means  one end lies above it, and one does not
--   level_even       the number of edges that cross a level is even
--   east_of_lem      what the test of edge i says
--   on_east, on_west    an odd point has an edge point east of it, and one west of it or at it
--   north            a point on no edge is odd by its ray east exactly where it is by its ray north
--   point_turned     a point on edge i with the axes exchanged;  met_longer  a part of a segment
--   one_point        an edge that is not level has no second point on a level
--   slide, climb     along a level segment, an upright one, that no edge meets, parity stays
--   flip, flip_up    across one edge it turns;  off_ends  and then neither end of the segment lies on an edge
--   end_lo, end_hi    an end of an edge that is not past l, not before it
--   reach_lo, reach_hi, reach_short, reach_past    an edge with a point at or before l, at or past it, before it, past it has an end there
--   Boxed, boxed     an odd point lies within the ring's box, and not on its east or north line
use mathlib.Core.Path.{◌≡◌, refl, sym, ◌∙◌, ap}
use mathlib.Core.Logic.{◌↔◌, ◌⊎◌, inl, inr, ⊎_elim, ◌≢◌}
use mathlib.Core.Bool.{Bool, true, false}
use Prim.Native.Nat.{ℕ, zero, suc, ◌+◌, ◌-◌, ◌*◌, ◌%◌, ◌≤◌, ◌<◌}
use native.Mathlib.Omega.{arith}
use native.Mathlib.Nat.{mul-le-mul_left, mul-lt-mul_of_pos_left}
use native.Mathlib.Decide.{dec_lt, ℕ_discrete}
use borrow.Author.Tests.{eq-eqb, ne_eqb}
use lib.Dec.{ltb}
use Rattle.plane.specs.TileSet.{one_if}
use Rattle.plane.specs.Folds.{sum_to}
use Rattle.plane.proofs.Logic.{never, both, is_false, lt_means, iff_join, iff_turn, iff_not}
use Rattle.meet.proofs.Common.{own_line, same_y}
use Rattle.ring.specs.Edges.{next_of}
use Rattle.ring.specs.Enclosed.{eastward}
use Rattle.ring.proofs.Ray.{East, east_means}
use Rattle.pin.proofs.Closed.{round, odd_some, odd_turns, sum_mod}
use Rattle.pin.proofs.Turned.{passes, turned, corner, westward, west_there, opposite}

abbrev pub cross_at : (X Y : ℕ → ℕ) (from n px py i : ℕ) → Bool
cross_at X Y from n px py i = eastward (X (from + i)) (Y (from + i)) (X (next_of from n i)) (Y (next_of from n i)) px py

abbrev pub Odd : (X Y : ℕ → ℕ) (from n px py : ℕ) → Type 0
Odd X Y from n px py = sum_to (λ i. one_if (cross_at X Y from n px py i)) n % 2 ≡ 1

abbrev pub straddles_at : (Y : ℕ → ℕ) (from n py i : ℕ) → Bool
straddles_at Y from n py i = passes (ltb py (Y (from + i))) (ltb py (Y (next_of from n i))) true true

pub record Beside (X Y : ℕ → ℕ) (from n py : ℕ) : Type 0 where
  pub i : ℕ
  pub low : i < n
  pub ne : Y (from + i) ≢ Y (next_of from n i)
  pub j : ℕ
  pub k : ℕ
  pub some : 0 < j + k
  pub level : j * Y (from + i) + k * Y (next_of from n i) ≡ (j + k) * py

module _ (X Y : ℕ → ℕ) (from n py : ℕ) where
  abbrev pub x_of : Beside X Y from n py → ℕ
  x_of p = p.j * X (from + p.i) + p.k * X (next_of from n p.i)

  abbrev pub m_of : Beside X Y from n py → ℕ
  m_of p = p.j + p.k

pub record Met (X Y : ℕ → ℕ) (from n px qx py i : ℕ) : Type 0 where
  pub apart : (X (from + i) ≡ X (next_of from n i)) × (Y (from + i) ≡ Y (next_of from n i)) → ⊥
  pub j : ℕ
  pub k : ℕ
  pub some : 0 < j + k
  pub level : j * Y (from + i) + k * Y (next_of from n i) ≡ (j + k) * py
  pub past : (j + k) * px ≤ j * X (from + i) + k * X (next_of from n i)
  pub short : j * X (from + i) + k * X (next_of from n i) ≤ (j + k) * qx

abbrev pub Unmet : (X Y : ℕ → ℕ) (from n px qx py : ℕ) → Type 0
Unmet X Y from n px qx py = (i : ℕ) → i < n → Met X Y from n px qx py i → ⊥

-- ---- a level
pub level_even : (Y : ℕ → ℕ) (from n py : ℕ) → sum_to (λ i. one_if (straddles_at Y from n py i)) n % 2 ≡ 0
unfolding sum_to
level_even Y from n py =
    round (λ v. one_if (ltb py (Y v))) from n (λ i. one_if (straddles_at Y from n py i)) (λ i. 0)
    (λ i h. go (ltb py (Y (from + i))) (ltb py (Y (next_of from n i))))
    ∙ none n
  where
    go : (x y : Bool) → (one_if (passes x y true true) + one_if x + one_if y) % 2 ≡ 0 % 2
    go true true = refl
    go true false = refl
    go false true = refl
    go false false = refl

    none : (n : ℕ) → sum_to (λ i. 0) n % 2 ≡ 0
    none zero = refl
    none (suc n) = omega (arith, none n)

pub straddles_means : (Y : ℕ → ℕ) (from n py i : ℕ) → (straddles_at Y from n py i ≡ true)
    ↔ (((Y (from + i) ≤ py) × (py < Y (next_of from n i))) ⊎ ((Y (next_of from n i) ≤ py) × (py < Y (from + i))))
straddles_means Y from n py i = go (ltb py (Y (from + i))) (ltb py (Y (next_of from n i))) (lt_means _ _) (lt_means _ _)
  where
    a : ℕ
    a = Y (from + i)

    b : ℕ
    b = Y (next_of from n i)

    not_above : (z : ℕ) → (false ≡ true) ↔ (py < z) → z ≤ py
    not_above z h = elim (dec_lt py z) [ yes l ↦ never (h.1 l) | no l ↦ omega arith ]

    go : (x y : Bool) → (x ≡ true) ↔ (py < a) → (y ≡ true) ↔ (py < b) → (passes x y true true ≡ true) ↔ (((a ≤ py) × (py < b)) ⊎ ((b ≤ py) × (py < a)))
    go true true h k = (λ e. never e, λ e. absurd (⊎_elim (λ q. omega (arith, q.0, h.0 refl)) (λ q. omega (arith, q.0, k.0 refl)) e))
    go true false h k = (λ e. inr (not_above b k, h.0 refl), λ e. refl)
    go false true h k = (λ e. inl (not_above a h, k.0 refl), λ e. refl)
    go false false h k = (λ e. never e, λ e. ⊎_elim (λ q. k.1 q.1) (λ q. h.1 q.1) e)

module _ (X Y : ℕ → ℕ) (from n px py : ℕ) where
  abbrev EastOf : ℕ → Type 0
  EastOf i = East (X (from + i)) (Y (from + i)) (X (next_of from n i)) (Y (next_of from n i)) px py

  pub east_of_lem : (i : ℕ) → (cross_at X Y from n px py i ≡ true) ↔ EastOf i
  east_of_lem i = east_means (X (from + i)) (Y (from + i)) (X (next_of from n i)) (Y (next_of from n i)) px py

  not_level : (i : ℕ) → EastOf i → Y (from + i) ≢ Y (next_of from n i)
  not_level i e = ⊎_elim (λ h. omega (arith, h.0, h.1)) (λ h. omega (arith, h.0, h.1)) e.heights

  abbrev beside : (i : ℕ) → i < n → EastOf i → Beside X Y from n py
  beside i low e =
      record {
        i = i;
        low = low;
        ne = not_level i e;
        j = e.j;
        k = e.k;
        some = e.some;
        level = e.level;
      }

  pub on_east : Odd X Y from n px py → (p : Beside X Y from n py) × (m_of X Y from n py p * px < x_of X Y from n py p)
  on_east o =
      let x = odd_some (cross_at X Y from n px py) n o in
      let e = (east_of_lem x.0).0 x.2 in
      (beside x.0 x.1 e, e.past)

  pub on_west : Odd X Y from n px py → (p : Beside X Y from n py) × (x_of X Y from n py p ≤ m_of X Y from n py p * px)
  on_west o =
      let W : ℕ → Bool = λ i. westward (X (from + i)) (Y (from + i)) (X (next_of from n i)) (Y (next_of from n i)) px py in
      let r = round (λ v. one_if (ltb py (Y v))) from n (λ i. one_if (cross_at X Y from n px py i)) (λ i. one_if (W i))
      (λ i h. opposite (X (from + i)) (Y (from + i)) (X (next_of from n i)) (Y (next_of from n i)) px py) in
      let x = odd_some W n (sym r ∙ o) in
      let w = west_there (X (from + x.0)) (Y (from + x.0)) (X (next_of from n x.0)) (Y (next_of from n x.0)) px py x.2 in
      (record { i = x.0; low = x.1; ne = w.ne; j = w.j; k = w.k; some = w.some; level = w.level }, w.before)

  pub north : Unmet X Y from n px px py → Odd X Y from n px py ↔ Odd Y X from n py px
  north off =
      let r = round (λ v. corner px py (X v) (Y v)) from n (λ i. one_if (cross_at X Y from n px py i)) (λ i. one_if (cross_at Y X from n py px i))
      (λ i h. turned (X (from + i)) (Y (from + i)) (X (next_of from n i)) (Y (next_of from n i)) px py
      (λ q. off i h (record { apart = λ e. q.ne e.1; j = q.j; k = q.k; some = q.some; level = q.level; past = omega (arith, q.there); short = omega (arith, q.there) }))) in
      (λ o. sym r ∙ o, λ o. r ∙ o)

-- the point itself, seen with the axes exchanged
pub point_turned : (X Y : ℕ → ℕ) (from n px py i : ℕ) → Met Y X from n py py px i → Met X Y from n px px py i
point_turned X Y from n px py i m =
    record {
      apart = λ e. m.apart (e.1, e.0);
      j = m.j;
      k = m.k;
      some = m.some;
      level = omega (arith, m.past, m.short);
      past = omega (arith, m.level);
      short = omega (arith, m.level);
    }

-- a part of a segment
pub met_longer : (X Y : ℕ → ℕ) (from n px qx py ax bx i : ℕ) → px ≤ ax → bx ≤ qx → Met X Y from n ax bx py i → Met X Y from n px qx py i
met_longer X Y from n px qx py ax bx i l r m =
    record {
      apart = m.apart;
      j = m.j;
      k = m.k;
      some = m.some;
      level = m.level;
      past = omega (arith, m.past, mul-le-mul_left (m.j + m.k) l);
      short = omega (arith, m.short, mul-le-mul_left (m.j + m.k) r);
    }

-- an edge that is not level has one point on a level
pub one_point : (ax ay bx by py j k l m : ℕ) → ay ≢ by → j * ay + k * by ≡ (j + k) * py → l * ay + m * by ≡ (l + m) * py
    → (l + m) * (j * ax + k * bx) ≡ (j + k) * (l * ax + m * bx)
one_point ax ay bx by py j k l m ne e f =
    same_y ay ax by bx (j + k) (l + m) (j * ay + k * by) (j * ax + k * bx) (l * ay + m * by) (l * ax + m * bx)
    ne (own_line ay ax by bx j k) (own_line ay ax by bx l m) (rw (e, f) (omega arith))

-- ---- along a level segment
module _ (X Y : ℕ → ℕ) (from n px qx py : ℕ) (le : px ≤ qx) where
  same_test : (i : ℕ) → (Met X Y from n px qx py i → ⊥) → cross_at X Y from n px py i ≡ cross_at X Y from n qx py i
  same_test i none =
      both (cross_at X Y from n px py i) (cross_at X Y from n qx py i)
      (iff_join (east_of_lem X Y from n px py i) (iff_join (there, back) (iff_turn (east_of_lem X Y from n qx py i))))
    where
      there : EastOf X Y from n px py i → EastOf X Y from n qx py i
      there e =
          elim (dec_lt ((e.j + e.k) * qx) (e.j * X (from + i) + e.k * X (next_of from n i))) [
            | yes h ↦ record { heights = e.heights; j = e.j; k = e.k; some = e.some; level = e.level; past = h }
            | no h ↦ absurd (none (record { apart = λ q. not_level X Y from n px py i e q.1; j = e.j; k = e.k; some = e.some; level = e.level; past = omega (arith, e.past); short = omega arith }))
          ]

      back : EastOf X Y from n qx py i → EastOf X Y from n px py i
      back e =
          record {
            heights = e.heights;
            j = e.j;
            k = e.k;
            some = e.some;
            level = e.level;
            past = omega (arith, e.past, mul-le-mul_left (e.j + e.k) le);
          }

  pub slide : Unmet X Y from n px qx py → Odd X Y from n px py ↔ Odd X Y from n qx py
  slide none =
      let s = sum_mod (λ i. one_if (cross_at X Y from n px py i)) (λ i. one_if (cross_at X Y from n qx py i)) n (λ i h. ap (λ b. one_if b % 2) (same_test i (none i h))) in
      (λ o. sym s ∙ o, λ o. s ∙ o)

  -- ---- across edge a, at its point with the weights j and k
  module _ (a j k : ℕ) (low : a < n) (hj : 0 < j) (hk : 0 < k) (slanted : Y (from + a) ≢ Y (next_of from n a))
      (level : j * Y (from + a) + k * Y (next_of from n a) ≡ (j + k) * py)
      (past : (j + k) * px < j * X (from + a) + k * X (next_of from n a)) (short : j * X (from + a) + k * X (next_of from n a) < (j + k) * qx) where
    -- it has no second point on the level
    only : (l m : ℕ) → l * Y (from + a) + m * Y (next_of from n a) ≡ (l + m) * py
        → (l + m) * (j * X (from + a) + k * X (next_of from n a)) ≡ (j + k) * (l * X (from + a) + m * X (next_of from n a))
    only l m e = one_point (X (from + a)) (Y (from + a)) (X (next_of from n a)) (Y (next_of from n a)) py j k l m slanted level e

    east_here : EastOf X Y from n px py a
    east_here = record { j = j; k = k; some = omega arith; level = level; past = past; heights = between (dec_lt (Y (from + a)) (Y (next_of from n a))) }
      where
        up : (u v : ℕ) (l m : ℕ) → 0 < l → 0 < m → u < v → l * u + m * v ≡ (l + m) * py → (u ≤ py) × (py < v)
        up u v l m hl hm h e = (
          elim (dec_lt py u) [ yes q ↦ absurd (omega (arith, e, mul-le-mul_left (l + m) q, mul-le-mul_left m h)) | no q ↦ omega arith ],
          elim (dec_lt py v) [ yes q ↦ q | no q ↦ absurd (omega (arith, e, mul-lt-mul_of_pos_left h hl, mul-le-mul_left (l + m) (at_least v q))) ],
        )
          where
            at_least : (v : ℕ) → (py < v → ⊥) → v ≤ py
            at_least v q = omega arith

        between : Dec (Y (from + a) < Y (next_of from n a)) → ((Y (from + a) ≤ py) × (py < Y (next_of from n a))) ⊎ ((Y (next_of from n a) ≤ py) × (py < Y (from + a)))
        between (yes h) = inl (up (Y (from + a)) (Y (next_of from n a)) j k hj hk h level)
        between (no h) = inr (up (Y (next_of from n a)) (Y (from + a)) k j hk hj (omega arith) (omega (arith, level)))

    not_there : EastOf X Y from n qx py a → ⊥
    not_there e =
        let u = only e.j e.k e.level in
        let jk : 0 < j + k = omega arith in
        omega (arith, u, mul-lt-mul_of_pos_left short e.some, mul-lt-mul_of_pos_left e.past jk)

    pub flip : ((i : ℕ) → i < n → i ≢ a → Met X Y from n px qx py i → ⊥) → Odd X Y from n px py ↔ (Odd X Y from n qx py → ⊥)
    flip others =
        odd_turns (cross_at X Y from n px py) (cross_at X Y from n qx py) a ((east_of_lem X Y from n px py a).1 east_here)
        (is_false (cross_at X Y from n qx py a) (λ h. not_there ((east_of_lem X Y from n qx py a).0 h))) n low (λ i h ne. same_test i (others i h ne))

    -- neither end of the segment lies on an edge
    pub off_ends : ((i : ℕ) → i < n → i ≢ a → Met X Y from n px qx py i → ⊥) → Unmet X Y from n px px py × Unmet X Y from n qx qx py
    off_ends others = (
      λ i h m. elim (ℕ_discrete i a) [
        | yes e ↦ here (rw e at m)
        | no e ↦ others i h e (met_longer X Y from n px qx py px px i (omega arith) le m)
      ],
      λ i h m. elim (ℕ_discrete i a) [
        | yes e ↦ there (rw e at m)
        | no e ↦ others i h e (met_longer X Y from n px qx py qx qx i le (omega arith) m)
      ],
    )
      where
        here : Met X Y from n px px py a → ⊥
        here m = omega (arith, only m.j m.k m.level, mul-lt-mul_of_pos_left past m.some, mul-le-mul_left (j + k) m.short)

        there : Met X Y from n qx qx py a → ⊥
        there m = omega (arith, only m.j m.k m.level, mul-lt-mul_of_pos_left short m.some, mul-le-mul_left (j + k) m.past)

-- ---- along an upright segment
module _ (X Y : ℕ → ℕ) (from n px py qy : ℕ) (le : py ≤ qy) where
  pub climb : Unmet Y X from n py qy px → Odd X Y from n px py ↔ Odd X Y from n px qy
  climb none =
      let p = north X Y from n px py (λ i h m. none i h (met_longer Y X from n py qy px py py i (omega arith) le (point_turned Y X from n py px i m))) in
      let q = north X Y from n px qy (λ i h m. none i h (met_longer Y X from n py qy px qy qy i le (omega arith) (point_turned Y X from n qy px i m))) in
      iff_join p (iff_join (slide Y X from n py qy px le none) (iff_turn q))

  pub flip_up : (a j k : ℕ) → a < n → 0 < j → 0 < k → X (from + a) ≢ X (next_of from n a)
      → j * X (from + a) + k * X (next_of from n a) ≡ (j + k) * px
      → (j + k) * py < j * Y (from + a) + k * Y (next_of from n a) → j * Y (from + a) + k * Y (next_of from n a) < (j + k) * qy
      → ((i : ℕ) → i < n → i ≢ a → Met Y X from n py qy px i → ⊥) → Odd X Y from n px py ↔ (Odd X Y from n px qy → ⊥)
  flip_up a j k low hj hk slanted level past short others =
      let off = off_ends Y X from n py qy px le a j k low hj hk slanted level past short others in
      let p = north X Y from n px py (λ i h m. off.0 i h (point_turned Y X from n py px i m)) in
      let q = north X Y from n px qy (λ i h m. off.1 i h (point_turned Y X from n qy px i m)) in
      iff_join p (iff_join (flip Y X from n py qy px le a j k low hj hk slanted level past short others) (iff_not (iff_turn q)))

-- ---- the ring's box
next_is : (from n i : ℕ) → i < n → (v : ℕ) × (v < n) × (next_of from n i ≡ from + v)
unfolding next_of
next_is from n i h =
    elim (ℕ_discrete (i + 1) n) [
      | yes e ↦ (0, omega arith, rw (eq-eqb (i + 1) n e) (omega arith))
      | no e ↦ (i + 1, omega arith, rw (ne_eqb (i + 1) n e) (omega arith))
    ]

module _ (Z : ℕ → ℕ) (from n i l : ℕ) (low : i < n) where
  -- one of the two ends of an edge is not before l; one is not past it
  pub end_hi : ((Z (from + i) < l) × (Z (next_of from n i) < l) → ⊥) → (v : ℕ) × (v < n) × (l ≤ Z (from + v))
  end_hi no_end =
      let v = next_is from n i low in
      elim (dec_lt (Z (from + i)) l) [
        | no a ↦ (i, low, omega arith)
        | yes a ↦ (v.0, v.1, rw v.2 at (at_least (Z (next_of from n i)) (λ b. no_end (a, b))))
      ]
    where
      at_least : (z : ℕ) → (z < l → ⊥) → l ≤ z
      at_least z h = omega arith

  pub end_lo : ((l < Z (from + i)) × (l < Z (next_of from n i)) → ⊥) → (v : ℕ) × (v < n) × (Z (from + v) ≤ l)
  end_lo no_end =
      let v = next_is from n i low in
      elim (dec_lt l (Z (from + i))) [
        | no a ↦ (i, low, omega arith)
        | yes a ↦ (v.0, v.1, rw v.2 at (at_most (Z (next_of from n i)) (λ b. no_end (a, b))))
      ]
    where
      at_most : (z : ℕ) → (l < z → ⊥) → z ≤ l
      at_most z h = omega arith

module _ (Z : ℕ → ℕ) (from n i j k l : ℕ) (low : i < n) (some : 0 < j + k) where
  pub reach_hi : (j + k) * l ≤ j * Z (from + i) + k * Z (next_of from n i) → (v : ℕ) × (v < n) × (l ≤ Z (from + v))
  reach_hi h = end_hi Z from n i l low (λ q. omega (arith, mul-le-mul_left j q.0, mul-le-mul_left k q.1))

  pub reach_past : (j + k) * l < j * Z (from + i) + k * Z (next_of from n i) → (v : ℕ) × (v < n) × (l < Z (from + v))
  reach_past h = end_hi Z from n i (suc l) low (λ q. absurd (over q.0 q.1))
    where
      over : Z (from + i) < suc l → Z (next_of from n i) < suc l → ⊥
      over a b = let a' : Z (from + i) ≤ l = omega arith in let b' : Z (next_of from n i) ≤ l = omega arith in omega (arith, mul-le-mul_left j a', mul-le-mul_left k b')

  pub reach_short : j * Z (from + i) + k * Z (next_of from n i) < (j + k) * l → (v : ℕ) × (v < n) × (Z (from + v) < l)
  reach_short h =
      let x = end_lo Z from n i (l - 1) low (λ q. absurd (under q.0 q.1)) in
      (x.0, x.1, omega (arith, x.2, above))
    where
      above : 0 < l
      above = elim (dec_lt 0 l) [ yes p ↦ p | no p ↦ absurd (nothing l h (omega arith)) ]
        where
          nothing : (l : ℕ) → j * Z (from + i) + k * Z (next_of from n i) < (j + k) * l → l ≡ 0 → ⊥
          nothing l h e = omega (arith, rw e at h)

      under : l - 1 < Z (from + i) → l - 1 < Z (next_of from n i) → ⊥
      under a b = let a' : l ≤ Z (from + i) = omega arith in let b' : l ≤ Z (next_of from n i) = omega arith in omega (arith, mul-le-mul_left j a', mul-le-mul_left k b')

  pub reach_lo : j * Z (from + i) + k * Z (next_of from n i) ≤ (j + k) * l → (v : ℕ) × (v < n) × (Z (from + v) ≤ l)
  reach_lo h = end_lo Z from n i l low (λ q. omega (arith, mul-le-mul_left j q.0, mul-le-mul_left k q.1))

pub record Boxed (X Y : ℕ → ℕ) (from n px py : ℕ) : Type 0 where
  pub west : (v : ℕ) × (v < n) × (X (from + v) ≤ px)
  pub east : (v : ℕ) × (v < n) × (px < X (from + v))
  pub south : (v : ℕ) × (v < n) × (Y (from + v) ≤ py)
  pub north : (v : ℕ) × (v < n) × (py < Y (from + v))

pub boxed : (X Y : ℕ → ℕ) (from n px py : ℕ) → Odd X Y from n px py → Boxed X Y from n px py
boxed X Y from n px py o =
    let w = on_west X Y from n px py o in
    let x = odd_some (cross_at X Y from n px py) n o in
    let e = (east_of_lem X Y from n px py x.0).0 x.2 in
    record {
      west = reach_lo X from n w.0.i w.0.j w.0.k px w.0.low w.0.some w.1;
      east = reach_past X from n x.0 e.j e.k px x.1 e.some e.past;
      south = end_lo Y from n x.0 py x.1 (λ q. ⊎_elim (λ h. omega (arith, h.0, q.0)) (λ h. omega (arith, h.0, q.1)) e.heights);
      north = end_hi Y from n x.0 (suc py) x.1 (λ q. ⊎_elim (λ h. omega (arith, h.1, q.1)) (λ h. omega (arith, h.1, q.0)) e.heights);
    }
