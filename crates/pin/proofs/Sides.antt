-- One ring beside a side of a box, in places. Where it has the tile there and not B, either it has a point beyond the side, or one of its edges runs
-- along the side's line; and then the ring reaches beyond that line too (proofs/Rim).
--   Field                a ring that keeps rule 6 and has not B: what Rim needs of it, for any denominator;  turned  with the axes exchanged
--   Beside               an edge has a point in the range c of an axis, or runs along the line of that range
--   low_side, high_side  then the ring has a vertex before the first line, past the second
--   upright, level       the clauses of an edge, as either axis sees them;  beside  so an edge that has the tile beside a side is Beside it
--   Sides, sides         a ring that keeps rule 6 and has not B: what bounds its vertices on a side whose tile it has lies beyond that side
use mathlib.Core.Path.{◌≡◌, refl, sym, ◌∙◌, ap, subst}
use mathlib.Core.Logic.{◌⊎◌, inl, inr, ◌≢◌}
use mathlib.Core.Bool.{true}
use mathlib.Core.List.{List}
use Prim.Native.Nat.{ℕ, zero, suc, ◌+◌, ◌*◌, ◌≤◌, ◌<◌}
use native.Mathlib.Omega.{arith}
use native.Mathlib.Nat.{mul-le-mul_left, mul-pos, eq_of_mul-eq-mul_left, one-mul}
use native.Mathlib.Decide.{dec_lt}
use lib.IntN.{ℤ, sub_ℕ}
use lib.Signed.{◌<ℤ◌}
use Rattle.plane.specs.Place.{place_of, in_range}
use Rattle.plane.specs.Points.{Point, Lines, vertex, along, Fraction}
use Rattle.plane.specs.Ray.{Pin}
use Rattle.plane.specs.Placed.{PointInRange, LinesInRange, box_of, Upright}
use Rattle.plane.specs.Tiles.{Inside, column_of, row_of}
use Rattle.plane.proofs.Place.{place_lt, place_eq}
use Rattle.plane.proofs.Difference.{diff_sub}
use Rattle.edge.specs.Clauses.{After, Before, BelongsTo, inside, going_north, going_south, going_east, going_west, InColumn, InRow}
use Rattle.edge.proofs.Weights.{rest, rest_pos, rest_sum, InCol}
use Rattle.ring.specs.Edges.{next_of, corner, after, RingInRange}
use Rattle.ring.specs.Tangled.{Tangled}
use Rattle.ring.specs.RingTiles.{RingHas}
use Rattle.ring.proofs.Edges.{after_in_range}
use Rattle.ring.proofs.Enclosed.{From}
use Rattle.pin.specs.Pins.{InTile, EdgeIn}
use Rattle.pin.proofs.Entered.{inside_place}
use Rattle.pin.proofs.Parity.{reach_short, reach_past}
use Rattle.pin.proofs.Origin.{enclosed_odd, in_range_lem}
use Rattle.pin.proofs.TileLaws.{touch_in}
use Rattle.pin.proofs.Pins.{ring_accounted}
use Rattle.pin.proofs.Alone.{alone}
use Rattle.pin.proofs.Rim.{Clear, clear_turned, Rim, rim_lo, rim_hi}

-- ---- places, m times, from a corner that lies one further off than the range
abbrev far : ℕ → (ℕ → ℕ) → ℕ → ℕ
far m P v = m * (P v + 1)

-- the point with the weights u and v of edge i is that with the weights j and k of edge a, in one axis
abbrev Same : (P : ℕ → ℕ) (from n a i u v j k : ℕ) → Type 0
Same P from n a i u v j k =
    (j + k) * (u * P (from + i) + v * P (next_of from n i)) ≡ (u + v) * (j * P (from + a) + k * P (next_of from n a))

record Field (P Q : ℕ → ℕ) (from n lo hi lo' hi' : ℕ) : Type 0 where
  clear : (m : ℕ) → 0 < m → Clear (far m P) (far m Q) from n (m * (lo + 1)) (m * (hi + 1)) (m * (lo' + 1)) (m * (hi' + 1))
  alone : (a i : ℕ) → a < n → i < n → i ≢ a → ((P (from + a) ≡ P (next_of from n a)) × (Q (from + a) ≡ Q (next_of from n a)) → ⊥)
      → (u v j k : ℕ) → 0 < u + v → 0 < j → 0 < k → Same P from n a i u v j k → Same Q from n a i u v j k → ⊥
  wide : lo < hi
  high : lo' < hi'

turned : (P Q : ℕ → ℕ) (from n lo hi lo' hi' : ℕ) → Field P Q from n lo hi lo' hi' → Field Q P from n lo' hi' lo hi
turned P Q from n lo hi lo' hi' f =
    record {
      clear = λ m some. clear_turned (far m P) (far m Q) from n (m * (lo + 1)) (m * (hi + 1)) (m * (lo' + 1)) (m * (hi' + 1)) (f.clear m some);
      alone = λ a i low h ne apart u v j k some hj hk x y. f.alone a i low h ne (λ q. apart (q.1, q.0)) u v j k some hj hk y x;
      wide = f.high;
      high = f.wide;
    }

-- ---- one axis
abbrev line_of : (c lo hi : ℕ) → ℕ
line_of zero lo hi = lo
line_of (suc c) lo hi = hi

record OnLine (P Q : ℕ → ℕ) (from n l lo' hi' a j k : ℕ) : Type 0 where
  start : P (from + a) ≡ l
  end : P (next_of from n a) ≡ l
  slanted : Q (from + a) ≢ Q (next_of from n a)
  within : InCol 1 lo' hi' (j + k) (j * Q (from + a) + k * Q (next_of from n a))

record Beside (P Q : ℕ → ℕ) (from n lo hi lo' hi' c : ℕ) : Type 0 where
  a : ℕ
  low : a < n
  j : ℕ
  k : ℕ
  j_pos : 0 < j
  k_pos : 0 < k
  where_it_is : InCol c lo hi (j + k) (j * P (from + a) + k * P (next_of from n a)) ⊎ OnLine P Q from n (line_of c lo hi) lo' hi' a j k

module _ (P Q : ℕ → ℕ) (from n lo hi lo' hi' : ℕ) (f : Field P Q from n lo hi lo' hi') where
  module _ (l a j k : ℕ) (low : a < n) (hj : 0 < j) (hk : 0 < k) (on : OnLine P Q from n l lo' hi' a j k) where
    rim : Rim (far (j + k) P) (far (j + k) Q) from n ((j + k) * (l + 1)) ((j + k) * (lo' + 1)) ((j + k) * (hi' + 1)) a
    rim =
        record {
          low = low;
          start = ap (λ z. (j + k) * (z + 1)) on.start;
          end = ap (λ z. (j + k) * (z + 1)) on.end;
          slanted = λ e. on.slanted (same (eq_of_mul-eq-mul_left (j + k) (omega arith) (Q (from + a) + 1) (Q (next_of from n a) + 1) e));
          j = j;
          k = k;
          j_pos = hj;
          k_pos = hk;
          py = j * (Q (from + a) + 1) + k * (Q (next_of from n a) + 1);
          level = omega arith;
          within = (omega (arith, on.within.0), omega (arith, on.within.1));
          alone = λ i h ne u v some x y.
              f.alone a i low h ne (λ q. on.slanted q.1) u v j k some hj hk (rw (on.start, on.end) (omega (arith, x))) (omega (arith, y));
        }
      where
        same : {u v : ℕ} → u + 1 ≡ v + 1 → u ≡ v
        same h = omega arith

    -- two units or more lie between the lines
    room : suc ((j + k) * (lo + 1)) < (j + k) * (hi + 1)
    room = let two : 1 < j + k = omega arith in omega (arith, mul-le-mul_left (j + k) f.wide)

    all_clear : Clear (far (j + k) P) (far (j + k) Q) from n ((j + k) * (lo + 1)) ((j + k) * (hi + 1)) ((j + k) * (lo' + 1)) ((j + k) * (hi' + 1))
    all_clear = f.clear (j + k) (omega arith)

  low_side : Beside P Q from n lo hi lo' hi' 0 → (l : ℕ) → ((v : ℕ) → v < n → l ≤ P (from + v)) → l < lo
  low_side b l least = elim (dec_lt l lo) [ yes h ↦ h | no h ↦ absurd (go (omega arith) b.where_it_is) ]
    where
      go : lo ≤ l → InCol 0 lo hi (b.j + b.k) (b.j * P (from + b.a) + b.k * P (next_of from n b.a)) ⊎ OnLine P Q from n lo lo' hi' b.a b.j b.k → ⊥
      go h (inl x) = let v = reach_short P from n b.a b.j b.k lo b.low (omega (arith, b.j_pos)) x in omega (arith, v.2, least v.0 v.1)
      go h (inr x) =
          let m : ℕ = b.j + b.k in
          let some : 0 < m = omega (arith, b.j_pos) in
          rim_lo (far m P) (far m Q) from n (m * (lo + 1)) (m * (hi + 1)) (m * (lo' + 1)) (m * (hi' + 1))
          (all_clear lo b.a b.j b.k b.low b.j_pos b.k_pos x) (room lo b.a b.j b.k b.low b.j_pos b.k_pos x)
          b.a (rim lo b.a b.j b.k b.low b.j_pos b.k_pos x) (mul-pos some (omega arith))
          (λ v q. mul-le-mul_left m (raised (least v q) h))
        where
          raised : {u v : ℕ} → l ≤ v → u ≤ l → u + 1 ≤ v + 1
          raised p q = omega arith

  high_side : Beside P Q from n lo hi lo' hi' 2 → (g : ℕ) → ((v : ℕ) → v < n → P (from + v) ≤ g) → hi < g
  high_side b g most = elim (dec_lt hi g) [ yes h ↦ h | no h ↦ absurd (go (omega arith) b.where_it_is) ]
    where
      go : g ≤ hi → InCol 2 lo hi (b.j + b.k) (b.j * P (from + b.a) + b.k * P (next_of from n b.a)) ⊎ OnLine P Q from n hi lo' hi' b.a b.j b.k → ⊥
      go h (inl x) = let v = reach_past P from n b.a b.j b.k hi b.low (omega (arith, b.j_pos)) x in omega (arith, v.2, most v.0 v.1)
      go h (inr x) =
          let m : ℕ = b.j + b.k in
          rim_hi (far m P) (far m Q) from n (m * (lo + 1)) (m * (hi + 1)) (m * (lo' + 1)) (m * (hi' + 1))
          (all_clear hi b.a b.j b.k b.low b.j_pos b.k_pos x) (room hi b.a b.j b.k b.low b.j_pos b.k_pos x)
          b.a (rim hi b.a b.j b.k b.low b.j_pos b.k_pos x)
          (λ v q. mul-le-mul_left m (raised (most v q) h))
        where
          raised : {u v : ℕ} → u ≤ g → g ≤ v → u + 1 ≤ v + 1
          raised p q = omega arith

-- ---- the clauses of an edge, in one axis: z and w are the coordinates of the vertices in this axis and in the other
module _ (z w : ℕ → ℤ) (from n : ℕ) (lo hi lo' hi' : ℤ) (hl : in_range lo ≡ true) (hh : in_range hi ≡ true) (hl' : in_range lo' ≡ true) (hh' : in_range hi' ≡ true)
    (a : ℕ) (low : a < n) (az : in_range (z (from + a)) ≡ true) (bz : in_range (z (next_of from n a)) ≡ true)
    (aw : in_range (w (from + a)) ≡ true) (bw : in_range (w (next_of from n a)) ≡ true) (p : Fraction) where
  -- the point lies in the range, or the edge runs along a line beside the range
  abbrev Clause : ℕ → Type 0
  Clause c =
      Inside c lo hi p.n (along p.n p.k (z (from + a)) (z (next_of from n a)))
      ⊎ ((z (from + a) ≡ z (next_of from n a)) × (w (from + a) ≢ w (next_of from n a))
      × Inside 1 lo' hi' p.n (along p.n p.k (w (from + a)) (w (next_of from n a)))
      × (After lo hi (z (from + a)) c ⊎ Before lo hi (z (from + a)) c))

  beside : (c : ℕ) → c ≢ 1 → c < 3 → Clause c → Beside (λ v. place_of (z v)) (λ v. place_of (w v)) from n (place_of lo) (place_of hi) (place_of lo') (place_of hi') c
  beside c not_middle few k = record { a = a; low = low; j = rest p; k = p.k; j_pos = rest_pos p; k_pos = p.above; where_it_is = go c not_middle few k }
    where
      at : (c : ℕ) (lo hi u v : ℤ) → in_range lo ≡ true → in_range hi ≡ true → in_range u ≡ true → in_range v ≡ true
          → Inside c lo hi p.n (along p.n p.k u v) → InCol c (place_of lo) (place_of hi) (rest p + p.k) (rest p * place_of u + p.k * place_of v)
      at c lo hi u v hl hh hu hv i =
          (inside_place lo hi u v hl hh hu hv (rest p) p.k c).0 (subst (λ (m : ℕ). Inside c lo hi m (along m p.k u v)) (rest_sum p) i)

      line : (c : ℕ) → c ≢ 1 → c < 3 → After lo hi (z (from + a)) c ⊎ Before lo hi (z (from + a)) c → place_of (z (from + a)) ≡ line_of c (place_of lo) (place_of hi)
      line zero nm few (inl (inl x)) = absurd (omega (arith, x.2))
      line zero nm few (inl (inr x)) = absurd (omega (arith, x.1))
      line zero nm few (inr (inl x)) = absurd (omega (arith, x.2))
      line zero nm few (inr (inr x)) = ap place_of x.0
      line (suc c) nm few (inl (inl x)) = absurd (nm x.2)
      line (suc c) nm few (inl (inr x)) = ap place_of x.0
      line (suc c) nm few (inr (inl x)) = absurd (nm x.2)
      line (suc c) nm few (inr (inr x)) = absurd (omega (arith, x.1))

      go : (c : ℕ) → c ≢ 1 → c < 3 → Clause c
          → InCol c (place_of lo) (place_of hi) (rest p + p.k) (rest p * place_of (z (from + a)) + p.k * place_of (z (next_of from n a)))
          ⊎ OnLine (λ v. place_of (z v)) (λ v. place_of (w v)) from n (line_of c (place_of lo) (place_of hi)) (place_of lo') (place_of hi') a (rest p) p.k
      go c nm few (inl i) = inl (at c lo hi (z (from + a)) (z (next_of from n a)) hl hh az bz i)
      go c nm few (inr (e, ne, i, s)) =
          inr (
          record {
            start = line c nm few s;
            end = ap place_of (sym e) ∙ line c nm few s;
            slanted = λ q. ne ((place_eq (w (from + a)) (w (next_of from n a)) aw bw).1 q);
            within = at 1 lo' hi' (w (from + a)) (w (next_of from n a)) hl' hh' aw bw i;
          }
          )

-- ---- the two axes
less : (u v : ℤ) → in_range u ≡ true → in_range v ≡ true → u <ℤ v → u ≢ v
less u v hu hv l e = omega (arith, (place_lt u v hu hv).0 l, ap place_of e)

module _ (M : Lines) (A B : Point) (p : Fraction) (t : ℕ) (ra : PointInRange A) (rb : PointInRange B) where
  abbrev UprightClause : Type 0
  UprightClause =
      InColumn M A B p t ⊎ ((A.x ≡ B.x) × (A.y ≢ B.y) × InRow M A B p t × (After M.west M.east A.x (column_of t) ⊎ Before M.west M.east A.x (column_of t)))

  abbrev LevelClause : Type 0
  LevelClause =
      InRow M A B p t ⊎ ((A.y ≡ B.y) × (A.x ≢ B.x) × InColumn M A B p t × (After M.south M.north A.y (row_of t) ⊎ Before M.south M.north A.y (row_of t)))

  upright : BelongsTo M A B p t → UprightClause
  upright (inside d nu nl c r) = inl c
  upright (going_north e l r s) = inr (e, less A.y B.y ra.y rb.y l, r, inl s)
  upright (going_south e l r s) = inr (e, λ q. less B.y A.y rb.y ra.y l (sym q), r, inr s)
  upright (going_east e l c s) = inl c
  upright (going_west e l c s) = inl c

  level : BelongsTo M A B p t → LevelClause
  level (inside d nu nl c r) = inl r
  level (going_north e l r s) = inl r
  level (going_south e l r s) = inl r
  level (going_east e l c s) = inr (e, less A.x B.x ra.x rb.x l, c, inr s)
  level (going_west e l c s) = inr (e, λ q. less B.x A.x rb.x ra.x l (sym q), c, inl s)

-- ---- a ring that keeps rule 6 and has not B: where it has the tile beside a side, no number that bounds its vertices there keeps within the side
pub record Sides (M : Lines) (xs : List ℤ) (from n : ℕ) : Type 0 where
  pub west : RingHas M xs from n 3 → (z : ℕ) → ((v : ℕ) → v < n → z ≤ place_of (vertex xs (from + v)).x) → z < place_of M.west
  pub east : RingHas M xs from n 5 → (z : ℕ) → ((v : ℕ) → v < n → place_of (vertex xs (from + v)).x ≤ z) → place_of M.east < z
  pub south : RingHas M xs from n 7 → (z : ℕ) → ((v : ℕ) → v < n → z ≤ place_of (vertex xs (from + v)).y) → z < place_of M.south
  pub north : RingHas M xs from n 1 → (z : ℕ) → ((v : ℕ) → v < n → place_of (vertex xs (from + v)).y ≤ z) → place_of M.north < z

module _ (M : Lines) (l : LinesInRange M) (wide : M.west <ℤ M.east) (high : M.south <ℤ M.north)
    (xs : List ℤ) (from n : ℕ) (r : RingInRange xs from n) (some : 0 < n) (kept : Tangled xs from n → ⊥) (none : RingHas M xs from n 4 → ⊥) where
  abbrev px : ℕ → ℕ
  px v = place_of (vertex xs v).x

  abbrev py : ℕ → ℕ
  py v = place_of (vertex xs v).y

  wide_in_places : place_of M.west < place_of M.east
  wide_in_places = (place_lt M.west M.east l.west l.east).0 wide

  high_in_places : place_of M.south < place_of M.north
  high_in_places = (place_lt M.south M.north l.south l.north).0 high

  up : Upright (box_of M)
  up = record { x = omega (arith, wide_in_places); y = omega (arith, high_in_places) }

  -- a point in these numbers, as a pin
  abbrev pin_at : (m : ℕ) → 0 < m → (u v : ℕ) → Pin
  pin_at m some u v = record { x = sub_ℕ u (m * (1000000 + 1)); y = sub_ℕ v (m * (1000000 + 1)); n = m; some = some }

  pin_from : (m : ℕ) (h : 0 < m) (u v : ℕ) → From 1 (pin_at m h u v) u v
  pin_from m h u v = record { x = diff_sub u (m * (1000000 + 1)) u (m * (1000000 + 1)) refl; y = diff_sub v (m * (1000000 + 1)) v (m * (1000000 + 1)) refl }

  field : Field px py from n (place_of M.west) (place_of M.east) (place_of M.south) (place_of M.north)
  field =
      record {
        clear = λ m h. record {
          untouched = λ t. none (inl (touch_in M l up xs from n r 1 m 4 t));
          even = λ u v hx hy o.
              none (ring_accounted M l up xs from n r some (pin_at m h u v) 4 (omega arith)
              ((rw (one-mul m, one-mul u, one-mul v) at (enclosed_odd xs from n r 1 1 (omega arith) (pin_at m h u v) u v (pin_from m h u v))).1 o)
              (inner m h u v hx hy));
        };
        alone = λ a i low h ne apart u v j k uv hj hk x y.
            alone xs from n r kept a i low h
            (λ q. apart (ap place_of q.0, ap place_of q.1)) u v j k uv hj hk (x, y) ne;
        wide = wide_in_places;
        high = high_in_places;
      }
    where
      inner : (m : ℕ) (h : 0 < m) (u v : ℕ) → InCol 1 (m * (place_of M.west + 1)) (m * (place_of M.east + 1)) 1 u
          → InCol 1 (m * (place_of M.south + 1)) (m * (place_of M.north + 1)) 1 v → InTile M (pin_at m h u v) 4
      inner m h u v hx hy =
          let f = pin_from m h u v in (
            (in_range_lem 1 m (pin_at m h u v).x u f.x M.west M.east l.west l.east 1).1 (omega (arith, hx.0), omega (arith, hx.1)),
            (in_range_lem 1 m (pin_at m h u v).y v f.y M.south M.north l.south l.north 1).1 (omega (arith, hy.0), omega (arith, hy.1)),
          )

  back : Field py px from n (place_of M.south) (place_of M.north) (place_of M.west) (place_of M.east)
  back = turned px py from n (place_of M.west) (place_of M.east) (place_of M.south) (place_of M.north) field

  -- the edge that has the tile
  module _ (a : ℕ) (low : a < n) (p : Fraction) (t : ℕ) (b : BelongsTo M (corner xs from a) (after xs from n a) p t) where
    ra : PointInRange (corner xs from a)
    ra = r.at a low

    rb : PointInRange (after xs from n a)
    rb = after_in_range xs from n a r low

    across : column_of t ≢ 1 → row_of t ≡ 1 → Beside px py from n (place_of M.west) (place_of M.east) (place_of M.south) (place_of M.north) (column_of t)
    across not_middle row =
        beside (λ v. (vertex xs v).x) (λ v. (vertex xs v).y) from n M.west M.east M.south M.north l.west l.east l.south l.north
        a low ra.x rb.x ra.y rb.y p (column_of t) not_middle (omega arith)
        (rw row at (upright M (corner xs from a) (after xs from n a) p t ra rb b))

    upward : row_of t ≢ 1 → column_of t ≡ 1 → Beside py px from n (place_of M.south) (place_of M.north) (place_of M.west) (place_of M.east) (row_of t)
    upward not_middle column =
        beside (λ v. (vertex xs v).y) (λ v. (vertex xs v).x) from n M.south M.north M.west M.east l.south l.north l.west l.east
        a low ra.y rb.y ra.x rb.x p (row_of t) not_middle (omega arith)
        (rw column at (level M (corner xs from a) (after xs from n a) p t ra rb b))

  by_edge : (t : ℕ) → t ≢ 4 → RingHas M xs from n t → EdgeIn M xs from n t
  by_edge t ne (inl x) = x
  by_edge t ne (inr x) = absurd (ne x.0)

  pub sides : Sides M xs from n
  sides =
      let w = place_of M.west in
      let e = place_of M.east in
      let s = place_of M.south in
      let h = place_of M.north in
      record {
        west = λ has. let (a, low, q) = by_edge 3 (λ x. omega arith) has in low_side px py from n w e s h field (across a low q.0 3 q.1 (λ x. omega arith) refl);
        east = λ has. let (a, low, q) = by_edge 5 (λ x. omega arith) has in high_side px py from n w e s h field (across a low q.0 5 q.1 (λ x. omega arith) refl);
        south = λ has. let (a, low, q) = by_edge 7 (λ x. omega arith) has in low_side py px from n s h w e back (upward a low q.0 7 q.1 (λ x. omega arith) refl);
        north = λ has. let (a, low, q) = by_edge 1 (λ x. omega arith) has in high_side py px from n s h w e back (upward a low q.0 1 q.1 (λ x. omega arith) refl);
      }
