-- A ring that keeps clear of the middle tile and runs along one of its lines, for the ring of Parity: it reaches beyond that line. Just inside the
-- line and just outside it, beside a point of such an edge, the parity differs; inside it is even, so outside it is odd, and an odd point lies within
-- the ring's box.
--   Clear            no edge touches the middle tile, and no point of it is odd;  clear_turned  the same with the axes exchanged
--   Rim              edge a runs along the line l, and has a point in the middle range of the other axis where it meets no other edge
--   rim_lo, rim_hi    the ring has a vertex before the tile's first line where an edge runs along it, and one past its second
use mathlib.Core.Path.{◌≡◌}
use mathlib.Core.Logic.{◌↔◌, ◌≢◌}
use Prim.Native.Nat.{ℕ, suc, ◌+◌, ◌-◌, ◌*◌, ◌≤◌, ◌<◌}
use native.Mathlib.Omega.{arith}
use native.Mathlib.Nat.{mul-lt-mul_of_pos_left}
use native.Mathlib.Decide.{dec_lt}
use Rattle.edge.proofs.Weights.{InCol}
use Rattle.ring.specs.Edges.{next_of}
use Rattle.pin.proofs.Parity.{Odd, Met, north, flip, reach_short, reach_past, boxed}
use Rattle.pin.proofs.Untouched.{Touch, turn, off}

pub record Clear (X Y : ℕ → ℕ) (from n lo hi lo' hi' : ℕ) : Type 0 where
  pub untouched : Touch X Y from n 1 lo hi 1 lo' hi' → ⊥
  pub even : (px py : ℕ) → InCol 1 lo hi 1 px → InCol 1 lo' hi' 1 py → Odd X Y from n px py → ⊥

pub clear_turned : (X Y : ℕ → ℕ) (from n lo hi lo' hi' : ℕ) → Clear X Y from n lo hi lo' hi' → Clear Y X from n lo' hi' lo hi
clear_turned X Y from n lo hi lo' hi' c =
    record {
      untouched = turn X Y from n 1 lo hi 1 lo' hi' c.untouched;
      even = λ py px hy hx o.
          c.even px py hx hy ((north X Y from n px py (off X Y from n 1 lo hi 1 lo' hi' c.untouched px py hx hy)).1 o);
    }

pub record Rim (X Y : ℕ → ℕ) (from n l lo' hi' a : ℕ) : Type 0 where
  pub low : a < n
  pub start : X (from + a) ≡ l
  pub end : X (next_of from n a) ≡ l
  pub slanted : Y (from + a) ≢ Y (next_of from n a)
  pub j : ℕ
  pub k : ℕ
  pub j_pos : 0 < j
  pub k_pos : 0 < k
  pub py : ℕ
  pub level : j * Y (from + a) + k * Y (next_of from n a) ≡ (j + k) * py
  pub within : InCol 1 lo' hi' 1 py
  pub alone : (i : ℕ) → i < n → i ≢ a → (u v : ℕ) → 0 < u + v
      → u * X (from + i) + v * X (next_of from n i) ≡ (u + v) * l → u * Y (from + i) + v * Y (next_of from n i) ≡ (u + v) * py → ⊥

module _ (X Y : ℕ → ℕ) (from n lo hi lo' hi' : ℕ) (c : Clear X Y from n lo hi lo' hi') (wide : suc lo < hi) where
  -- no edge has a point between px and qx at the height of the rim's, unless on its line: no point before it, and none behind
  module _ (l a : ℕ) (m : Rim X Y from n l lo' hi' a) (px qx : ℕ) (before : px < l) (behind : l < qx) where
    abbrev at : (i : ℕ) → Met X Y from n px qx m.py i → ℕ
    at i p = p.j * X (from + i) + p.k * X (next_of from n i)

    abbrev times : (i : ℕ) → Met X Y from n px qx m.py i → ℕ
    times i p = (p.j + p.k) * l

    across : ((i : ℕ) → i < n → (p : Met X Y from n px qx m.py i) → at i p < times i p → ⊥)
        → ((i : ℕ) → i < n → (p : Met X Y from n px qx m.py i) → times i p < at i p → ⊥)
        → Odd X Y from n px m.py ↔ (Odd X Y from n qx m.py → ⊥)
    across none_before none-behind =
        let jk : 0 < m.j + m.k = omega (arith, m.j_pos) in
        flip X Y from n px qx m.py (omega arith) a m.j m.k m.low m.j_pos m.k_pos m.slanted m.level
        (rw (m.start, m.end) (omega (arith, mul-lt-mul_of_pos_left before jk)))
        (rw (m.start, m.end) (omega (arith, mul-lt-mul_of_pos_left behind jk)))
        (λ i h ne p. elim (dec_lt (at i p) (times i p)) [
          | yes s ↦ none_before i h p s
          | no s ↦ elim (dec_lt (times i p) (at i p)) [
            | yes q ↦ none-behind i h p q
            | no q ↦ m.alone i h ne p.j p.k p.some (omega arith) p.level
          ]
        ])

    -- a point of the segment in the middle column is one of the tile
    touched : (i : ℕ) → i < n → (p : Met X Y from n px qx m.py i) → InCol 1 lo hi (p.j + p.k) (at i p) → ⊥
    touched i h p inside =
        c.untouched (
        record {
          i = i;
          low = h;
          apart = p.apart;
          j = p.j;
          k = p.k;
          some = p.some;
          column = inside;
          row = (
            omega (arith, p.level, mul-lt-mul_of_pos_left m.within.0 p.some),
            omega (arith, p.level, mul-lt-mul_of_pos_left m.within.1 p.some),
          );
        }
        )

  pub rim_lo : (a : ℕ) → Rim X Y from n lo lo' hi' a → 0 < lo → ((v : ℕ) → v < n → lo ≤ X (from + v)) → ⊥
  rim_lo a m some least =
      let px : ℕ = lo - 1 in
      let qx : ℕ = lo + 1 in
      let turns = across lo a m px qx (omega arith) (omega arith)
      (λ i h p s. let x = reach_short X from n i p.j p.k lo h p.some s in omega (arith, x.2, least x.0 x.1))
      (λ i h p s. touched lo a m px qx (omega arith) (omega arith) i h p (s, omega (arith, p.short, mul-lt-mul_of_pos_left wide p.some))) in
      let odd = turns.1 (λ o. c.even qx m.py (omega arith, omega arith) m.within o) in
      let x = (boxed X Y from n px m.py odd).west in
      omega (arith, x.2, least x.0 x.1)

  pub rim_hi : (a : ℕ) → Rim X Y from n hi lo' hi' a → ((v : ℕ) → v < n → X (from + v) ≤ hi) → ⊥
  rim_hi a m most =
      let px : ℕ = hi - 1 in
      let qx : ℕ = hi + 1 in
      let past : lo < px = omega arith in
      let turns = across hi a m px qx (omega arith) (omega arith)
      (λ i h p s. touched hi a m px qx (omega arith) (omega arith) i h p (omega (arith, p.past, mul-lt-mul_of_pos_left past p.some), s))
      (λ i h p s. let x = reach_past X from n i p.j p.k hi h p.some s in omega (arith, x.2, most x.0 x.1)) in
      c.even px m.py (omega arith, omega arith) m.within
      (turns.1 (λ o. let x = (boxed X Y from n qx m.py o).east in omega (arith, x.2, most x.0 x.1)))
