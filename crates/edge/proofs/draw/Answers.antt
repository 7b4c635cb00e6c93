use mathlib.Core.Path.{◌≡◌, sym, ◌∙◌, ap}
use Prim.Native.Nat.{ℕ, ◌+◌, ◌/◌, ◌%◌, ◌^◌, max}
use native.Mathlib.Omega.{arith}
use native.Mathlib.Nat.{div-one}
use lib.Bits.{bit_or}
use lib.Dec.{ltb, eqb}
use mir.Val.{bool_byte}
use Rattle.plane.specs.Folds.{sum_to}
use Rattle.plane.specs.TileSet.{set_of}
use Rattle.plane.proofs.Bytes.{byte_is, byte_le}
use Rattle.plane.proofs.Folds.{sum_step, sum_none}
use Rattle.plane.proofs.TileSet.{any_set, any_set_none, any_set_more}
use Rattle.edge.specs.declared.Walk.{Walk}
use Rattle.edge.specs.TileList.{count_in, stands_in}
use Rattle.edge.specs.Drawn.{drawn}
use Rattle.edge.proofs.TileList.{digit_next, digit_there}
use Rattle.edge.proofs.draw.Goals as goal
use Rattle.edge.proofs.draw.Invariants.{stands_at, there}

-- digit j, where the rest is what is left of v
module _ (v j rest : ℕ) (e : rest ≡ v / 16 ^ j) where
  tiles_next : (set tile : ℕ) → set ≡ any_set (stands_at v) j 9 → tile ≡ set_of (λ t. eqb (rest % 16) (t + 1)) 9 → bit_or set tile ≡ any_set (stands_at v) (j + 1) 9
  tiles_next set tile p q = rw (p, q, e) (any_set_more (stands_at v) 9 j)

  count_next : (count : ℕ) → count ≡ sum_to (there v) j → count + bool_byte (ltb 0 rest) ≡ sum_to (there v) (j + 1)
  count_next count p = rw (p, byte_is (ltb 0 rest), e, digit_there v j) (sum_step (there v) j)

  rest_next : rest / 16 ≡ v / 16 ^ (j + 1)
  rest_next = ap (λ (z : ℕ). z / 16) e ∙ digit_next v j

all_digits : (v set count : ℕ) → set ≡ any_set (stands_at v) 5 9 → count ≡ sum_to (there v) 5 → (pieces : ℕ) → pieces ≡ max 1 count
    → ◌≡◌ {A = Walk} (record { list = v; set = set; pieces = pieces }) (drawn v)
unfolding stands_in count_in
all_digits v set count e f pieces g = let h = g ∙ ap (max 1) f in λ i. record { list = v; set = e i; pieces = h i }

pub loop-digit-init : goal.loop-digit-init
loop-digit-init c = let v = c.args.list in (sym (div-one v), any_set_none (stands_at v) 9, sum_none (there v), omega arith)

pub overflow_add-count : goal.overflow_add-count
overflow_add-count c = let l = c.loop-digit in record { fits = omega (arith, l.invariant.3, l.auto, byte_le (ltb 0 l.rest)) }

pub loop-digit-preserved : goal.loop-digit-preserved
loop-digit-preserved c =
    let v = c.args.list in
    let l = c.loop-digit in (
      rest_next v l._digit l.rest l.invariant.0,
      tiles_next v l._digit l.rest l.invariant.0 l.set c.tile_set-set.result l.invariant.1 c.tile_set-set.ensures,
      count_next v l._digit l.rest l.invariant.0 l.count l.invariant.2,
      omega (arith, l.invariant.3, byte_le (ltb 0 l.rest)),
    )

pub returns : goal.returns
returns c =
    let v = c.args.list in
    let l = c.loop-digit in
    let e : l._digit ≡ 5 = grind (arith, l.auto, c.loop-digit-test) in
    all_digits v l.set l.count (l.invariant.1 ∙ ap (λ (j : ℕ). any_set (stands_at v) j 9) e) (l.invariant.2 ∙ ap (sum_to (there v)) e) c.max.result (c.max.ensures ∙ grind arith)
