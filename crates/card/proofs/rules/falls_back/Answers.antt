use mathlib.Core.Path.{◌≡◌, refl, ap₂, ◌∙◌}
use mathlib.Core.Bool.{Bool, true, false, ◌&&◌}
use native.Mathlib.Omega.{arith}
use Prim.Native.Nat.{ℕ}
use lib.Dec.{leb, ltb}
use borrow.Author.Tests.{lt-ltb}
use Rattle.card.proofs.Bounds.{entry_there}
use Rattle.card.proofs.rules.falls_back.Goals as goal

past : (x : Bool) {y : Bool} → x ≡ true → y ≡ x && y
past x e = rw e refl

front : (k : ℕ) (y : Bool) → k ≡ 0 → false ≡ ltb 0 k && y
front k y e = rw e refl

pub returns-then-k-eq0 : goal.returns-then-k-eq0
returns-then-k-eq0 c = front _ _ c.if-k-eq0.true

pub slot_at-requires : goal.slot_at-requires
slot_at-requires c = entry_there c.args.card.now.bytes.now c.args.card.now.header c.args.k c.requires

pub slot_at-requires-2 : goal.slot_at-requires-2
slot_at-requires-2 c = omega (arith, entry_there c.args.card.now.bytes.now c.args.card.now.header c.args.k c.requires)

pub returns : goal.returns
returns c =
    let e : ltb 0 c.args.k ≡ true = lt-ltb 0 c.args.k (omega (arith, c.if-k-eq0.false)) in
    ap₂ leb c.slot_at.ensures c.slot_at-2.ensures ∙ past (ltb 0 c.args.k) e
