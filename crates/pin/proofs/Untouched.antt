-- A tile that no edge of a ring touches, for the ring of Parity: column c of the lines lo and hi, row r of the lines lo' and hi'.
-- An odd point has an edge point on its east, west, north and south; outside the middle tile one of these four rays never leaves the tile. So an
-- odd point in a tile that no edge touches is in the middle tile, the ring reaches past its four lines, and all its points are odd.
--   Touch       an edge with different ends has a point strictly inside the tile
--   Spans       the ring reaches to both lines of an axis or past them
--   turn        a tile that no edge touches, with the axes exchanged
--   off         a point inside a tile that no edge touches lies on no edge
--   Middle, middle    where no edge touches the tile of an odd point, the tile is the middle one and the ring spans it both ways
--   all_odd     and every point of the tile is odd
use mathlib.Core.Path.{◌≡◌, refl}
use Prim.Native.Nat.{ℕ, zero, suc, ◌+◌, ◌*◌, ◌≤◌, ◌<◌}
use native.Mathlib.Omega.{arith}
use native.Mathlib.Nat.{mul-lt-mul_of_pos_left}
use native.Mathlib.Decide.{dec_lt}
use Rattle.edge.proofs.Weights.{InCol}
use Rattle.ring.specs.Edges.{next_of}
use Rattle.pin.proofs.Parity.{Odd, Beside, x_of, m_of, Unmet, on_east, on_west, north, slide, reach_lo, reach_hi}

pub record Touch (X Y : ℕ → ℕ) (from n c lo hi r lo' hi' : ℕ) : Type 0 where
  pub i : ℕ
  pub low : i < n
  pub apart : (X (from + i) ≡ X (next_of from n i)) × (Y (from + i) ≡ Y (next_of from n i)) → ⊥
  pub j : ℕ
  pub k : ℕ
  pub some : 0 < j + k
  pub column : InCol c lo hi (j + k) (j * X (from + i) + k * X (next_of from n i))
  pub row : InCol r lo' hi' (j + k) (j * Y (from + i) + k * Y (next_of from n i))

pub record Spans (X : ℕ → ℕ) (from n lo hi : ℕ) : Type 0 where
  pub low : (v : ℕ) × (v < n) × (X (from + v) ≤ lo)
  pub high : (v : ℕ) × (v < n) × (hi ≤ X (from + v))

-- ---- one axis: a column in which no edge that is not level has a point at the height of p
module _ (X Y : ℕ → ℕ) (from n lo hi py : ℕ) where
  abbrev Free : ℕ → Type 0
  Free c = (p : Beside X Y from n py) → InCol c lo hi (m_of X Y from n py p) (x_of X Y from n py p) → ⊥

  module _ (px : ℕ) (o : Odd X Y from n px py) where
    spans : (c : ℕ) → InCol c lo hi 1 px → Free c → (c ≡ 1) × Spans X from n lo hi
    spans zero h free =
        let w = on_west X Y from n px py o in
        absurd (free w.0 (omega (arith, w.0.some, w.1, mul-lt-mul_of_pos_left h w.0.some)))
    spans (suc zero) h free = (
      refl,
      record {
        low = reach_lo X from n w.0.i w.0.j w.0.k lo w.0.low w.0.some left;
        high = reach_hi X from n e.0.i e.0.j e.0.k hi e.0.low e.0.some right;
      },
    )
      where
        w : (p : Beside X Y from n py) × (x_of X Y from n py p ≤ m_of X Y from n py p * px)
        w = on_west X Y from n px py o

        e : (p : Beside X Y from n py) × (m_of X Y from n py p * px < x_of X Y from n py p)
        e = on_east X Y from n px py o

        left : x_of X Y from n py w.0 ≤ m_of X Y from n py w.0 * lo
        left =
            elim (dec_lt (m_of X Y from n py w.0 * lo) (x_of X Y from n py w.0)) [
              | yes q ↦ absurd (free w.0 (q, omega (arith, w.1, mul-lt-mul_of_pos_left h.1 w.0.some)))
              | no q ↦ omega arith
            ]

        right : m_of X Y from n py e.0 * hi ≤ x_of X Y from n py e.0
        right =
            elim (dec_lt (x_of X Y from n py e.0) (m_of X Y from n py e.0 * hi)) [
              | yes q ↦ absurd (free e.0 (omega (arith, e.1, mul-lt-mul_of_pos_left h.0 e.0.some), q))
              | no q ↦ omega arith
            ]
    spans (suc (suc c)) h free =
        let e = on_east X Y from n px py o in
        absurd (free e.0 (omega (arith, e.0.some, e.1, mul-lt-mul_of_pos_left h e.0.some)))

-- ---- a whole number in a column, as m/m of it
grow : (c lo hi m p y : ℕ) → 0 < m → y ≡ m * p → InCol c lo hi 1 p → InCol c lo hi m y
grow zero lo hi m p y hm e h = omega (arith, mul-lt-mul_of_pos_left h hm)
grow (suc zero) lo hi m p y hm e h = (omega (arith, mul-lt-mul_of_pos_left h.0 hm), omega (arith, mul-lt-mul_of_pos_left h.1 hm))
grow (suc (suc c)) lo hi m p y hm e h = omega (arith, mul-lt-mul_of_pos_left h hm)

-- ---- both axes
module _ (X Y : ℕ → ℕ) (from n c lo hi r lo' hi' : ℕ) (untouched : Touch X Y from n c lo hi r lo' hi' → ⊥) where
  pub turn : Touch Y X from n r lo' hi' c lo hi → ⊥
  turn t =
      untouched (record { i = t.i; low = t.low; apart = λ e. t.apart (e.1, e.0); j = t.j; k = t.k; some = t.some; column = t.row; row = t.column })

  free : (py : ℕ) → InCol r lo' hi' 1 py → Free X Y from n lo hi py c
  free py h p q =
      untouched (
      record {
        i = p.i;
        low = p.low;
        apart = λ e. p.ne e.1;
        j = p.j;
        k = p.k;
        some = p.some;
        column = q;
        row = grow r lo' hi' (p.j + p.k) py _ p.some p.level h;
      }
      )

  pub off : (px py : ℕ) → InCol c lo hi 1 px → InCol r lo' hi' 1 py → Unmet X Y from n px px py
  off px py hx hy i h m =
      untouched (
      record {
        i = i;
        low = h;
        apart = m.apart;
        j = m.j;
        k = m.k;
        some = m.some;
        column = grow c lo hi (m.j + m.k) px _ m.some (omega (arith, m.past, m.short)) hx;
        row = grow r lo' hi' (m.j + m.k) py _ m.some m.level hy;
      }
      )

module _ (X Y : ℕ → ℕ) (from n c lo hi r lo' hi' : ℕ) (untouched : Touch X Y from n c lo hi r lo' hi' → ⊥) where
  pub record Middle : Type 0 where
    pub column : c ≡ 1
    pub row : r ≡ 1
    pub across : Spans X from n lo hi
    pub up : Spans Y from n lo' hi'

  pub middle : (px py : ℕ) → InCol c lo hi 1 px → InCol r lo' hi' 1 py → Odd X Y from n px py → Middle
  middle px py hx hy o =
      let a = spans X Y from n lo hi py px o c hx (free X Y from n c lo hi r lo' hi' untouched py hy) in
      let o' = (north X Y from n px py (off X Y from n c lo hi r lo' hi' untouched px py hx hy)).0 o in
      let b = spans Y X from n lo' hi' px py o' r hy (free Y X from n r lo' hi' c lo hi (turn X Y from n c lo hi r lo' hi' untouched) px hx) in
      record { column = a.0; row = b.0; across = a.1; up = b.1 }

-- ---- along the middle column
module _ (X Y : ℕ → ℕ) (from n lo hi lo' hi' : ℕ) (untouched : Touch X Y from n 1 lo hi 1 lo' hi' → ⊥) where
  -- the segment from a to b lies in the tile
  segment : (a b py : ℕ) → lo < a → b < hi → InCol 1 lo' hi' 1 py → Unmet X Y from n a b py
  segment a b py l r hy i h m =
      untouched (
      record {
        i = i;
        low = h;
        apart = m.apart;
        j = m.j;
        k = m.k;
        some = m.some;
        column = (omega (arith, m.past, mul-lt-mul_of_pos_left l m.some), omega (arith, m.short, mul-lt-mul_of_pos_left r m.some));
        row = grow 1 lo' hi' (m.j + m.k) py _ m.some m.level hy;
      }
      )

  across : (px qx py : ℕ) → InCol 1 lo hi 1 px → InCol 1 lo hi 1 qx → InCol 1 lo' hi' 1 py → Odd X Y from n px py → Odd X Y from n qx py
  across px qx py hx kx hy o =
      elim (dec_lt px qx) [
        | yes l ↦ (slide X Y from n px qx py (omega arith) (segment px qx py (omega arith) (omega arith) hy)).0 o
        | no l ↦ (slide X Y from n qx px py (omega arith) (segment qx px py (omega arith) (omega arith) hy)).1 o
      ]

module _ (X Y : ℕ → ℕ) (from n lo hi lo' hi' : ℕ) (untouched : Touch X Y from n 1 lo hi 1 lo' hi' → ⊥) where
  -- level, then upright
  pub all_odd : (px py qx qy : ℕ) → InCol 1 lo hi 1 px → InCol 1 lo' hi' 1 py → InCol 1 lo hi 1 qx → InCol 1 lo' hi' 1 qy → Odd X Y from n px py → Odd X Y from n qx qy
  all_odd px py qx qy hx hy kx ky o =
      let a = across X Y from n lo hi lo' hi' untouched px qx py hx kx hy o in
      let b = (north X Y from n qx py (off X Y from n 1 lo hi 1 lo' hi' untouched qx py kx hy)).0 a in
      let c = across Y X from n lo' hi' lo hi (turn X Y from n 1 lo hi 1 lo' hi' untouched) py qy qx hy ky kx b in
      (north X Y from n qx qy (off X Y from n 1 lo hi 1 lo' hi' untouched qx qy kx ky)).1 c
