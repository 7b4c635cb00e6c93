-- A test as a number, as a cast reads it.
--   byte_is    1 where it holds, 0 where not;  byte_le  so at most 1
use mathlib.Core.Path.{◌≡◌, refl}
use mathlib.Core.Bool.{Bool, true, false}
use Prim.Native.Nat.{◌≤◌}
use native.Mathlib.Omega.{arith}
use mir.Val.{bool_byte}
use Rattle.plane.specs.TileSet.{one_if}

pub byte_is : (t : Bool) → bool_byte t ≡ one_if t
byte_is true = refl
byte_is false = refl

pub byte_le : (t : Bool) → bool_byte t ≤ 1
byte_le true = omega arith
byte_le false = omega arith
