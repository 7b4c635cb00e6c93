use mathlib.Core.Path.{◌≡◌, refl, sym, ◌∙◌, ap}
use mathlib.Core.List.{List}
use Prim.Native.Nat.{ℕ, ◌+◌, ◌*◌, ◌≤◌}
use native.Mathlib.Omega.{arith}
use lib.ListN.{length, get_or}
use Rattle.layout.specs.Sheet.{slots}
use Rattle.layout.specs.Slots.{ends_in}
use Rattle.endian.specs.Bytes.{u16_bytes}
use Rattle.endian.specs.Placed.{placed, word_bytes}
use Rattle.endian.proofs.Placed.{length_same}
use Rattle.endian.proofs.Running.{running_none, running_room, running_more, running_all}
use Rattle.writing.proofs.steps.put_ends.Goals as goal
use Rattle.writing.proofs.steps.put_ends.Goals.{After-ends-ends}

abbrev bytes : List ℕ → ℕ → List ℕ
bytes records j = word_bytes (ends_in records j) (length (ends_in records j))

-- what was read of slot i: its bytes, their number, and room for them
module _ (c : After-ends-ends) where
  abbrev i : ℕ
  i = c.loop-i.i

  abbrev read : List ℕ
  read = c.ends-ends.result.now

  are : word_bytes read (length read) ≡ bytes c.args.standing.now.records.now i
  are = ap (λ (l : List ℕ). word_bytes l (length l)) c.ends-ends.ensures

  size : 2 * length read ≡ length (bytes c.args.standing.now.records.now i)
  size = sym (length_same (λ k. u16_bytes (get_or read k 0)) 2 (λ k. refl) (length read)) ∙ ap length are

  room : c.loop-i.at + 2 * length read ≤ length c.loop-i.b
  room =
      omega (arith, size, running_room (bytes c.args.standing.now.records.now) c.args.from slots c.args.b.now i c.loop-i.b c.loop-i.at (omega arith) c.requires c.loop-i.invariant)

pub loop-i-init : goal.loop-i-init
loop-i-init c = running_none _ _ _ _

pub put_all-requires : goal.put_all-requires
put_all-requires c = room (goal.at.put_all-requires c).After-ends-ends

pub overflow_add-at : goal.overflow_add-at
overflow_add-at c = record { fits = omega (arith, room (goal.at.overflow_add-at c).After-ends-ends, c.put_all.auto.b) }

pub loop-i-preserved : goal.loop-i-preserved
loop-i-preserved c =
    running_more (bytes c.args.standing.now.records.now) c.args.from slots c.args.b.now c.loop-i.i c.loop-i.b c.loop-i.at (omega arith) c.loop-i.invariant
    (c.put_all.ensures ∙ ap (placed c.loop-i.b c.loop-i.at) (are (goal.at.loop-i-preserved c).After-ends-ends)) (ap (λ (n : ℕ). c.loop-i.at + n) (size (goal.at.loop-i-preserved c).After-ends-ends))

pub returns : goal.returns
returns c =
    let r = running_all (bytes c.args.standing.now.records.now) c.args.from slots c.args.b.now c.loop-i.i c.loop-i.b c.loop-i.at (omega arith) c.loop-i.invariant in
    record { value = r.1; b_after = r.0 }
