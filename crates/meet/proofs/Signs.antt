-- Signs of whole numbers, and the tests in places that they answer.
--   fits          a difference of two numbers that are small enough fits an i64
--   diff_sub, diff_less, diff_product    a difference of two, of places, and a product of two of them, as differences of naturals
--   plus, minus, diff_side    what the code adds and subtracts for the side of a point
--   side_is       the two products that the code subtracts make the side
--   line_is       an edge that goes on from another is in line with it exactly where the two products are equal
--   not_less, or_false    tests turned
--   apart_is      two points are not both strictly on one side exactly where their sides are not together
use mathlib.Core.Path.{◌≡◌, refl, sym, ◌∙◌, ap}
use mathlib.Core.Logic.{◌↔◌}
use mathlib.Core.Bool.{Bool, true, false, not, ◌||◌}
use Prim.Native.Nat.{ℕ, ◌+◌, ◌-◌, ◌*◌, ◌≤◌, ◌<◌}
use native.Mathlib.Omega.{arith}
use native.Mathlib.Decide.{dec_lt}
use borrow.Author.Tests.{lt-ltb, le-ltb, le-leb, lt-leb}
use lib.Dec.{ltb, leb, eqb}
use lib.IntN.{ℤ, pos, negsuc, neg_ℤ, ◌-ℤ◌}
use lib.Signed.{lt_z}
use mir.Syntax.{w64}
use mir.Val.{SFits, to_z, of_z}
use mir.Facts.{to_z-of_z}
use Rattle.plane.specs.declared.Edge.{Edge}
use Rattle.plane.proofs.Logic.{both, both_ltb, eq_means, iff_join, iff_turn}
use Rattle.plane.proofs.Difference.{Diff, diff_pos, diff_add, diff_neg, diff_mul, diff_negative, diff_lt, diff_move, diff_eq, diff_same}
use Rattle.meet.specs.MeetTest.{leftward, rightward, straddles}
use Rattle.meet.specs.Signs.{product_of, side_of, together, in_line}

pub fits : (z : ℤ) (u v : ℕ) → Diff z u v → u < 9223372036854775808 → v < 9223372036854775808 → SFits w64 z
fits (pos n) u v h p q = record { sfits = omega arith }
fits (negsuc n) u v h p q = record { sfits = omega arith }

-- z - y, where z is a - b and y is c - d
pub diff_sub : (z y : ℤ) (a b c d : ℕ) → Diff z a b → Diff y c d → Diff (z -ℤ y) (a + d) (b + c)
diff_sub z y a b c d h k = diff_add z (neg_ℤ y) a b d c h (diff_neg y c d k)

pub diff_less : (a b : ℕ) → Diff (pos a -ℤ pos b) a b
diff_less a b = diff_move (pos a -ℤ pos b) (a + 0) (0 + b) a b (diff_sub (pos a) (pos b) a 0 b 0 (diff_pos a) (diff_pos b)) (omega arith)

pub diff_product : (a b c d : ℕ) → Diff (product_of a b c d) (a * c + b * d) (a * d + b * c)
unfolding product_of
diff_product a b c d = diff_mul (pos a -ℤ pos b) (pos c -ℤ pos d) a b c d (diff_less a b) (diff_less c d)

module _ (g : Edge) (x y : ℕ) where
  -- the products in which leftward and rightward come out of the code
  abbrev pub plus : ℕ
  plus = g.bx * y + g.ax * g.ay + (g.by * g.ax + g.ay * x)

  abbrev pub minus : ℕ
  minus = g.bx * g.ay + g.ax * y + (g.by * x + g.ay * g.ax)

  pub diff_side : Diff (product_of g.bx g.ax y g.ay -ℤ product_of g.by g.ay x g.ax) plus minus
  diff_side =
      diff_sub (product_of g.bx g.ax y g.ay) (product_of g.by g.ay x g.ax)
      (g.bx * y + g.ax * g.ay) (g.bx * g.ay + g.ax * y) (g.by * x + g.ay * g.ax) (g.by * g.ax + g.ay * x)
      (diff_product g.bx g.ax y g.ay) (diff_product g.by g.ay x g.ax)

  pub side_is : product_of g.bx g.ax y g.ay -ℤ product_of g.by g.ay x g.ax ≡ side_of g x y
  unfolding side_of
  side_is =
      let f = leftward g.ax g.ay g.bx g.by x y in
      let a = rightward g.ax g.ay g.bx g.by x y in
      diff_eq (product_of g.bx g.ax y g.ay -ℤ product_of g.by g.ay x g.ax) (pos f -ℤ pos a) plus minus f a diff_side (diff_less f a) (omega arith)

-- an i64 is known by its bits
same_bits : (p q : ℤ) → SFits w64 p → SFits w64 q → (of_z w64 p ≡ of_z w64 q) ↔ (p ≡ q)
same_bits p q f g = (λ e. sym (to_z-of_z f) ∙ ap (to_z w64) e ∙ to_z-of_z g, λ e. ap (of_z w64) e)

module _ (g h : Edge) (x : h.ax ≡ g.bx) (y : h.ay ≡ g.by) where
  abbrev left : ℤ
  left = product_of g.bx g.ax h.by h.ay

  abbrev right : ℤ
  right = product_of g.by g.ay h.bx h.ax

  flat_is : (left ≡ right) ↔ (leftward g.ax g.ay g.bx g.by h.bx h.by ≡ rightward g.ax g.ay g.bx g.by h.bx h.by)
  flat_is =
      let p = diff_product g.bx g.ax h.by h.ay in
      let q = diff_product g.by g.ay h.bx h.ax in (
        λ e. out (diff_same right _ _ _ _ (rw e at p) q),
        λ e. diff_eq left right _ _ _ _ p q (back e),
      )
    where
      out : g.bx * h.by + g.ax * h.ay + (g.by * h.ax + g.ay * h.bx) ≡ g.by * h.bx + g.ay * h.ax + (g.bx * h.ay + g.ax * h.by)
          → leftward g.ax g.ay g.bx g.by h.bx h.by ≡ rightward g.ax g.ay g.bx g.by h.bx h.by
      out e = omega (arith, rw (x, y) at e)

      back : leftward g.ax g.ay g.bx g.by h.bx h.by ≡ rightward g.ax g.ay g.bx g.by h.bx h.by
          → g.bx * h.by + g.ax * h.ay + (g.by * h.ax + g.ay * h.bx) ≡ g.by * h.bx + g.ay * h.ax + (g.bx * h.ay + g.ax * h.by)
      back e = rw (x, y) (omega arith)

  pub line_is : SFits w64 left → SFits w64 right → eqb (of_z w64 left) (of_z w64 right) ≡ in_line g h
  unfolding in_line
  line_is f k = both _ _ (iff_join (eq_means _ _) (iff_join (same_bits left right f k) (iff_join flat_is (iff_turn (eq_means _ _)))))

below_zero : (l r : ℕ) → lt_z (pos l -ℤ pos r) (pos 0) ≡ ltb l r
below_zero l r = diff_negative (pos l -ℤ pos r) l r (diff_less l r)

above_zero : (l r : ℕ) → lt_z (pos 0) (pos l -ℤ pos r) ≡ ltb r l
above_zero l r = diff_lt (pos 0) (pos l -ℤ pos r) 0 0 l r (diff_pos 0) (diff_less l r) ∙ both_ltb (0 + r) (l + 0) r l (λ p. omega arith) (λ p. omega arith)

pub not_less : (a b : ℕ) → not (ltb a b) ≡ leb b a
not_less a b = elim (dec_lt a b) [ yes p ↦ rw (lt-ltb a b p, lt-leb b a p) | no p ↦ (let q : b ≤ a = omega arith in rw (le-ltb a b q, le-leb b a q)) ]

pub or_false : (x : Bool) → x || false ≡ x
or_false true = refl
or_false false = refl

pub apart_is : (l r l' r' : ℕ) → not (together (pos l -ℤ pos r) (pos l' -ℤ pos r')) ≡ straddles l r l' r'
unfolding together straddles
apart_is l r l' r' =
    rw (above_zero l r, above_zero l' r', below_zero l r, below_zero l' r')
    (elim (dec_lt l r) [
      | yes p ↦ (let q : l ≤ r = omega arith in rw (lt-ltb l r p, le-ltb r l q) (not_less l' r'))
      | no p ↦ (let q : r ≤ l = omega arith in elim (dec_lt r l) [
        | yes s ↦ rw (le-ltb l r q, lt-ltb r l s, or_false (ltb r' l')) (not_less r' l')
        | no s ↦ (let t : l ≤ r = omega arith in rw (le-ltb l r q, le-ltb r l t))
      ])
    ])
