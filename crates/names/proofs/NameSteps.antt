-- The names of a set, bit by bit.
--   names_joined     what the bits add, one behind the other
--   joint_is         a colon stands before a name exactly where a text stands before
--   joint_none, joint_some             the two cases
--   name_step_none, name_step_some     what a bit adds
--   names_le         27 bytes hold the names of nine bits
use mathlib.Core.Path.{◌≡◌, refl, sym, ◌∙◌, ap}
use mathlib.Core.Logic.{◌≢◌}
use mathlib.Core.Bool.{Bool, true, false}
use mathlib.Core.List.{List, [], ◌∷◌, ◌++◌, append-nil}
use Prim.Native.Nat.{ℕ, zero, suc, ◌+◌, ◌*◌, ◌≤◌}
use native.Mathlib.Omega.{arith}
use lib.Dec.{eqb}
use lib.ListN.{length, length-append}
use borrow.Author.Tests.{eq-eqb, ne_eqb}
use Rattle.plane.specs.Choice.{pick}
use Rattle.plane.specs.TileSet.{bit}
use Rattle.endian.specs.Bytes.{joined}
use Rattle.names.specs.Names.{colon, name_of, colon_after, names_to, names_of}
use Rattle.names.specs.Steps.{joint, name_step}

pub names_joined : (middle s k : ℕ) → names_to middle s k ≡ joined (name_step middle s) k
unfolding names_to joined name_step
names_joined middle s zero = refl
names_joined middle s (suc k) =
    more (eqb (bit s k) 1) (names_to middle s k) (colon_after (names_to middle s k) ++ name_of middle k)
    ∙ ap (λ (l : List ℕ). l ++ pick (eqb (bit s k) 1) (colon_after (names_to middle s k) ++ name_of middle k) []) (names_joined middle s k)
  where
    more : (t : Bool) (x y : List ℕ) → pick t (x ++ y) x ≡ x ++ pick t y []
    more true x y = refl
    more false x y = sym (append-nil x)

pub joint_none : (from at : ℕ) → at ≡ from → joint from at ≡ []
joint_none from at e = rw (eq-eqb at from e) refl

pub joint_some : (from at : ℕ) → at ≢ from → joint from at ≡ colon ∷ []
joint_some from at e = rw (ne_eqb at from e) refl

pub joint_is : (text : List ℕ) (from at : ℕ) → at ≡ from + length text → joint from at ≡ colon_after text
joint_is [] from at e = joint_none from at (omega (arith, e))
joint_is (x ∷ text) from at e = joint_some from at (λ q. omega (arith, e, q))

pub name_step_some : (middle s k : ℕ) → bit s k ≡ 1 → name_step middle s k ≡ colon_after (names_to middle s k) ++ name_of middle k
unfolding name_step
name_step_some middle s k e = rw (eq-eqb (bit s k) 1 e) refl

pub name_step_none : (middle s k : ℕ) → bit s k ≢ 1 → name_step middle s k ≡ []
unfolding name_step
name_step_none middle s k e = rw (ne_eqb (bit s k) 1 e) refl

colon_le : (text : List ℕ) → length (colon_after text) ≤ 1
colon_le [] = omega arith
colon_le (x ∷ text) = omega arith

name_le : (middle k : ℕ) → length (name_of middle k) ≤ 2
name_le middle zero = omega arith
name_le middle (suc zero) = omega arith
name_le middle (suc (suc zero)) = omega arith
name_le middle (suc (suc (suc zero))) = omega arith
name_le middle (suc (suc (suc (suc zero)))) = omega arith
name_le middle (suc (suc (suc (suc (suc zero))))) = omega arith
name_le middle (suc (suc (suc (suc (suc (suc zero)))))) = omega arith
name_le middle (suc (suc (suc (suc (suc (suc (suc zero))))))) = omega arith
name_le middle (suc (suc (suc (suc (suc (suc (suc (suc zero)))))))) = omega arith
name_le middle (suc (suc (suc (suc (suc (suc (suc (suc (suc k))))))))) = omega arith

names_to_le : (middle s k : ℕ) → length (names_to middle s k) ≤ 3 * k
unfolding names_to
names_to_le middle s zero = omega arith
names_to_le middle s (suc k) = go (eqb (bit s k) 1) (names_to_le middle s k)
  where
    go : (t : Bool) → length (names_to middle s k) ≤ 3 * k → length (pick t (names_to middle s k ++ (colon_after (names_to middle s k) ++ name_of middle k)) (names_to middle s k)) ≤ 3 * suc k
    go true h = omega (arith, length-append (names_to middle s k) (colon_after (names_to middle s k) ++ name_of middle k), length-append (colon_after (names_to middle s k)) (name_of middle k), colon_le (names_to middle s k), name_le middle k)
    go false h = omega arith

pub names_le : (middle s : ℕ) → length (names_of middle s) ≤ 27
names_le middle s = names_to_le middle s 9
