use mathlib.Core.Path.{◌≡◌, refl, sym, ◌∙◌, ap}
use mathlib.Core.List.{List}
use Prim.Native.Nat.{ℕ, ◌+◌, ◌*◌, ◌≤◌}
use native.Mathlib.Omega.{arith}
use lib.IntN.{ℤ, pos}
use lib.ListN.{length, get_or}
use Rattle.region.specs.Region.{Region}
use Rattle.layout.specs.Sheet.{slots}
use Rattle.layout.specs.Slots.{coordinates_in}
use Rattle.endian.specs.Bytes.{i32_bytes}
use Rattle.endian.specs.Placed.{placed, number_bytes}
use Rattle.endian.proofs.Placed.{length_same}
use Rattle.endian.proofs.Running.{running_none, running_room, running_more, running_all}
use Rattle.writing.proofs.steps.put_vertices.Goals as goal
use Rattle.writing.proofs.steps.put_vertices.Goals.{After-outline}

abbrev bytes : List ℤ → List ℕ → ℕ → List ℕ
bytes xs records j = number_bytes (coordinates_in xs records j) (length (coordinates_in xs records j))

-- what was read of slot i: its bytes, their number, and room for them
module _ (c : After-outline) where
  abbrev i : ℕ
  i = c.loop-i.i

  abbrev read : List ℤ
  read = c.outline.result.coordinates.now

  are : number_bytes read (length read) ≡ bytes c.args.standing.now.xs.now c.args.standing.now.records.now i
  are = ap (λ (l : List ℤ). number_bytes l (length l)) (ap (λ (r : Region). r.coordinates) c.outline.ensures)

  size : 4 * length read ≡ length (bytes c.args.standing.now.xs.now c.args.standing.now.records.now i)
  size = sym (length_same (λ k. i32_bytes (get_or read k (pos 0))) 4 (λ k. refl) (length read)) ∙ ap length are

  room : c.loop-i.at + 4 * length read ≤ length c.loop-i.b
  room =
      omega (arith, size, running_room (bytes c.args.standing.now.xs.now c.args.standing.now.records.now) c.args.from slots c.args.b.now i c.loop-i.b c.loop-i.at (omega arith) c.requires c.loop-i.invariant)

pub loop-i-init : goal.loop-i-init
loop-i-init c = running_none _ _ _ _

pub put_all-requires : goal.put_all-requires
put_all-requires c = room (goal.at.put_all-requires c).After-outline

pub overflow_add-at : goal.overflow_add-at
overflow_add-at c = record { fits = omega (arith, room (goal.at.overflow_add-at c).After-outline, c.put_all.auto.b) }

pub loop-i-preserved : goal.loop-i-preserved
loop-i-preserved c =
    running_more (bytes c.args.standing.now.xs.now c.args.standing.now.records.now) c.args.from slots c.args.b.now c.loop-i.i c.loop-i.b c.loop-i.at (omega arith) c.loop-i.invariant
    (c.put_all.ensures ∙ ap (placed c.loop-i.b c.loop-i.at) (are (goal.at.loop-i-preserved c).After-outline)) (ap (λ (n : ℕ). c.loop-i.at + n) (size (goal.at.loop-i-preserved c).After-outline))

pub returns : goal.returns
returns c =
    (running_all (bytes c.args.standing.now.xs.now c.args.standing.now.records.now) c.args.from slots c.args.b.now c.loop-i.i c.loop-i.b c.loop-i.at (omega arith) c.loop-i.invariant).0
