-- Tests of coordinates are those of their places, each a number of at most 1.
use mathlib.Core.Path.{◌≡◌, ◌∙◌, ap₂}
use mathlib.Core.Bool.{true}
use Prim.Native.Nat.{◌+◌, ◌≤◌}
use native.Mathlib.Omega.{arith}
use lib.Dec.{ltb, leb}
use lib.IntN.{ℤ}
use lib.Signed.{lt_z, le_z}
use mir.Syntax.{w32}
use mir.Val.{bool_byte, to_z, of_z}
use Rattle.plane.specs.Place.{place_of, in_range}
use Rattle.plane.proofs.Bytes.{byte_is, byte_le}
use Rattle.plane.proofs.Place.{held, place_leb, place_ltb}
use Rattle.classes.specs.Classes.{class_of}
use Rattle.classes.proofs.class_of.Goals as goal
use Rattle.classes.proofs.class_of.Goals.{After-coordinate_of-h}

bytes : (x lo hi : ℤ) → (bool_byte (le_z lo x) ≤ 1) × (bool_byte (lt_z lo x) ≤ 1) × (bool_byte (le_z hi x) ≤ 1) × (bool_byte (lt_z hi x) ≤ 1)
bytes x lo hi = (byte_le (le_z lo x), byte_le (lt_z lo x), byte_le (le_z hi x), byte_le (lt_z hi x))

-- a coordinate, as the code reads it
abbrev read : ℤ → ℤ
read z = to_z w32 (of_z w32 z)

classed : (x lo hi : ℤ) → in_range x ≡ true → in_range lo ≡ true → in_range hi ≡ true
    → bool_byte (le_z lo x) + bool_byte (lt_z lo x) + bool_byte (le_z hi x) + bool_byte (lt_z hi x) ≡ class_of (place_of x) (place_of lo) (place_of hi)
unfolding class_of
classed x lo hi hx hl hh =
    rw (
      place_leb lo x hl hx,
      place_ltb lo x hl hx,
      place_leb hi x hh hx,
      place_ltb hi x hh hx,
      byte_is (leb (place_of lo) (place_of x)),
      byte_is (ltb (place_of lo) (place_of x)),
      byte_is (leb (place_of hi) (place_of x)),
      byte_is (ltb (place_of hi) (place_of x)),
    )

-- ---- with both lines as coordinates
module _ (c : After-coordinate_of-h) where
  abbrev x : ℤ
  x = c.args.x

  abbrev lo : ℤ
  lo = c.coordinate_of-l.result

  abbrev hi : ℤ
  hi = c.coordinate_of-h.result

  read_x : read x ≡ x
  read_x = held x c.requires.0

  read_lo : read lo ≡ lo
  read_lo = held lo c.coordinate_of-l.ensures.0

  read_hi : read hi ≡ hi
  read_hi = held hi c.coordinate_of-h.ensures.0

pub overflow_add-result : goal.overflow_add-result
overflow_add-result c =
    let s = (goal.at.overflow_add-result c).After-coordinate_of-h in
    record { fits = omega (arith, bytes (read (x s)) (read (lo s)) (read (hi s))) }

pub overflow_add-result-2 : goal.overflow_add-result-2
overflow_add-result-2 c =
    let s = (goal.at.overflow_add-result-2 c).After-coordinate_of-h in
    record { fits = omega (arith, bytes (read (x s)) (read (lo s)) (read (hi s))) }

pub overflow_add-result-3 : goal.overflow_add-result-3
overflow_add-result-3 c =
    let s = (goal.at.overflow_add-result-3 c).After-coordinate_of-h in
    record { fits = omega (arith, bytes (read (x s)) (read (lo s)) (read (hi s))) }

pub returns : goal.returns
returns c =
    let s = (goal.at.returns c).After-coordinate_of-h in
    let l = c.coordinate_of-l.ensures in
    let h = c.coordinate_of-h.ensures in
    simp (read_x s, read_lo s, read_hi s)
    (classed (x s) (lo s) (hi s) c.requires.0 l.0 h.0 ∙ ap₂ (class_of (place_of (x s))) l.1 h.1, omega (arith, bytes (x s) (lo s) (hi s)))
