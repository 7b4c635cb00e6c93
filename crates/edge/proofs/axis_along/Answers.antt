use Rattle.std.proofs.Common.{◌≡◌, ℕ, Bool, true, false, sym, ap, ◌∙◌}
use Rattle.plane.specs.Choice.{pick}
use Rattle.edge.specs.declared.Axis.{Axis}
use Rattle.edge.specs.Moments.{rise_of, fall_of, rising_axis, falling_axis}
use Rattle.edge.proofs.axis_along.Goals as goal
use Rattle.edge.proofs.axis_along.Goals.{then-down, else-down}

-- the axis that runs down, or up
abbrev along : Bool → (a b n lo hi : ℕ) → Axis
along down a b n lo hi = pick down (falling_axis a b n lo hi) (rising_axis a b n lo hi)

built : (down : Bool) (a b n lo hi first second near far : ℕ) → ◌≡◌ {A = ℕ × ℕ} (near, far) (pick down (hi, lo) (lo, hi))
    → first ≡ pick down (fall_of a near b n) (rise_of a near b n) → second ≡ pick down (fall_of a far b n) (rise_of a far b n)
    → ◌≡◌ {A = Axis} (record { first = first; second = second; length = n; down = down }) (along down a b n lo hi)
built true a b n lo hi first second near far e f g = let h = ap (λ (p : ℕ × ℕ). p.0) e in let k = ap (λ (p : ℕ × ℕ). p.1) e in simp (f, g, h, k)
built false a b n lo hi first second near far e f g = let h = ap (λ (p : ℕ × ℕ). p.0) e in let k = ap (λ (p : ℕ × ℕ). p.1) e in simp (f, g, h, k)

-- its two lines in order of travel
when_down : (down : Bool) → down ≡ true → (lo hi : ℕ) → pick {A = ℕ × ℕ} down (hi, lo) (lo, hi) ≡ (hi, lo)
when_down down e lo hi = rw e

when_up : (down : Bool) → down ≡ false → (lo hi : ℕ) → pick {A = ℕ × ℕ} down (hi, lo) (lo, hi) ≡ (lo, hi)
when_up down e lo hi = rw e

pub returns : goal.returns
returns c =
    let a = c.args in
    let near : c.if-down.near ≡ pick a.down (a.hi, a.lo) (a.lo, a.hi) =
    elim c.if-down.branch [
      | then-down w ↦ w.near-is ∙ sym (when_down a.down w.if-down.true a.lo a.hi)
      | else-down w ↦ w.near-is ∙ sym (when_up a.down w.if-down.false a.lo a.hi)
    ] in
    built a.down a.a a.b a.n a.lo a.hi _ _ c.if-down.near.0 c.if-down.near.1 near c.parts_until-first.ensures c.parts_until-second.ensures
