-- The nine cells of two boxes of which the first reaches beyond the second on each side, where the first region has the eight tiles round the second's
-- box and the second has B of the first's.
--   Beyond            one axis: the lines w and e lie beyond lo and hi
--   nine_cells        the second region holds the middle cell, and the first the eight others
--   nine_directions   so the directions are the eight without O
use mathlib.Core.Path.{◌≡◌, refl}
use mathlib.Core.Bool.{true, false}
use mathlib.Core.List.{List, [], ◌∷◌}
use Prim.Native.Nat.{ℕ, ◌<◌}
use native.Mathlib.Omega.{arith}
use lib.Dec.{leb}
use borrow.Author.Tests.{lt-ltb, le-ltb, ne_eqb, le-leb, lt-leb}
use Rattle.plane.specs.Folds.{any_to}
use Rattle.plane.specs.Lists.{tab_from}
use Rattle.plane.specs.TileSet.{set_of}
use Rattle.plane.specs.declared.Box.{Box}
use Rattle.matrix.specs.Holding.{insert, lines_of, cell_at, range_of, holds}
use Rattle.matrix.specs.Matrix.{cell_value, matrix_of}
use Rattle.compass.specs.Directions.{side_of, holds_first, holds_second, compass_place, directed, directions_of}
use Rattle.around.specs.Around.{eight, middle}

pub record Beyond (w e lo hi : ℕ) : Type 0 where
  pub before : w < lo
  pub rises : lo < hi
  pub behind : hi < e

module _ (w e lo hi : ℕ) (h : Beyond w e lo hi) where
  four_lines : lines_of w e lo hi ≡ w ∷ lo ∷ hi ∷ e ∷ []
  unfolding lines_of insert
  four_lines =
      rw (
        lt-ltb lo hi h.rises,
        le-ltb e lo (omega (arith, h.rises, h.behind)),
        ne_eqb e lo (λ q. omega (arith, h.rises, h.behind)),
        le-ltb e hi (omega (arith, h.behind)),
        ne_eqb e hi (λ q. omega (arith, h.behind)),
        lt-ltb w lo h.before,
      ) refl

-- the lines of one axis, each at most itself and those after it, and none at most one before it
record Ordered (w e lo hi : ℕ) : Type 0 where
  ww : leb w w ≡ true
  wl : leb w lo ≡ true
  wh : leb w hi ≡ true
  lw : leb lo w ≡ false
  ll : leb lo lo ≡ true
  lh : leb lo hi ≡ true
  le : leb lo e ≡ true
  hw : leb hi w ≡ false
  hl : leb hi lo ≡ false
  hh : leb hi hi ≡ true
  he : leb hi e ≡ true
  ew : leb e w ≡ false
  el : leb e lo ≡ false
  eh : leb e hi ≡ false
  ee : leb e e ≡ true

ordered : (w e lo hi : ℕ) → Beyond w e lo hi → Ordered w e lo hi
ordered w e lo hi h =
    let x = h.before in
    let y = h.rises in
    let z = h.behind in
    record {
      ww = le-leb w w (omega arith);
      wl = le-leb w lo (omega arith);
      wh = le-leb w hi (omega arith);
      lw = lt-leb lo w (omega arith);
      ll = le-leb lo lo (omega arith);
      lh = le-leb lo hi (omega arith);
      le = le-leb lo e (omega arith);
      hw = lt-leb hi w (omega arith);
      hl = lt-leb hi lo (omega arith);
      hh = le-leb hi hi (omega arith);
      he = le-leb hi e (omega arith);
      ew = lt-leb e w (omega arith);
      el = lt-leb e lo (omega arith);
      eh = lt-leb e hi (omega arith);
      ee = le-leb e e (omega arith);
    }

-- nine cells, the middle one of the second region and the others of the first
abbrev surrounded : List (List ℕ)
surrounded = (1 ∷ 1 ∷ 1 ∷ []) ∷ (1 ∷ 2 ∷ 1 ∷ []) ∷ (1 ∷ 1 ∷ 1 ∷ []) ∷ []

module _ (a b : Box) (across : Beyond a.west a.east b.west b.east) (up : Beyond a.south a.north b.south b.north) where
  nine_cells : matrix_of a b eight middle ≡ surrounded
  unfolding matrix_of tab_from cell_value cell_at holds range_of
  nine_cells =
      let x = ordered a.west a.east b.west b.east across in
      let y = ordered a.south a.north b.south b.north up in
      simp (
        four_lines a.west a.east b.west b.east across,
        four_lines a.south a.north b.south b.north up,
        x.ww,
        x.wl,
        x.wh,
        x.lw,
        x.ll,
        x.lh,
        x.le,
        x.hw,
        x.hl,
        x.hh,
        x.he,
        x.ew,
        x.el,
        x.eh,
        x.ee,
        y.ww,
        y.wl,
        y.wh,
        y.lw,
        y.ll,
        y.lh,
        y.le,
        y.hw,
        y.hl,
        y.hh,
        y.he,
        y.ew,
        y.el,
        y.eh,
        y.ee,
      )

  pub nine_directions : directions_of (matrix_of a b eight middle) ≡ eight
  unfolding directions_of directed holds_first holds_second compass_place side_of any_to set_of
  nine_directions = rw nine_cells refl
