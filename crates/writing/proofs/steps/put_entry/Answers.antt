use mathlib.Core.Path.{◌≡◌, refl, sym, ◌∙◌, ap}
use mathlib.Core.Bool.{not}
use mathlib.Core.List.{List, [], ◌++◌}
use Prim.Native.Nat.{ℕ, ◌+◌, ◌≤◌}
use native.Mathlib.Omega.{arith}
use lib.ListN.{length}
use borrow.Author.Tests.{eq-eqb, ne_eqb}
use Rattle.layout.specs.Slots.{rings_in, empty_in}
use Rattle.endian.specs.Bytes.{u16_bytes}
use Rattle.endian.specs.Placed.{placed}
use Rattle.endian.proofs.Placed.{placed_append}
use Rattle.writing.specs.Write.{entry_bytes}
use Rattle.writing.proofs.Parts.{countable}
use Rattle.writing.proofs.steps.put_entry.Goals as goal
use Rattle.writing.proofs.steps.put_entry.Goals.{Else-n-eq0}

abbrev entry : List ℕ → ℕ → List ℕ
entry records slot = entry_bytes slot (not (empty_in records slot)) (rings_in records slot)

-- the slot is not empty
module _ (c : Else-n-eq0) where
  there : let a = c.args in entry a.standing.now.records.now a.slot ≡ u16_bytes a.slot ++ u16_bytes c.ring_count-n.result
  there =
      let a = c.args in
      rw (ne_eqb (rings_in a.standing.now.records.now a.slot) 0 (λ q. c.if-n-eq0.false (c.ring_count-n.ensures ∙ q)))
      (ap (λ (n : ℕ). u16_bytes a.slot ++ u16_bytes n) (sym c.ring_count-n.ensures))

  room : let a = c.args in a.at + 4 ≤ length a.b.now
  room = omega (arith, c.requires.1, ap length there)

pub returns-then-n-eq0 : goal.returns-then-n-eq0
unfolding placed
returns-then-n-eq0 c =
    let a = c.args in
    let none : entry a.standing.now.records.now a.slot ≡ [] = rw (eq-eqb (rings_in a.standing.now.records.now a.slot) 0 (sym c.ring_count-n.ensures ∙ c.if-n-eq0.true)) refl in
    record { value = omega (arith, ap length none); b_after = ap (placed a.b.now a.at) (sym none) }

pub overflow_cast-slot : goal.overflow_cast-slot
overflow_cast-slot c = record { fits = omega (arith, c.requires.0) }

pub put-requires : goal.put-requires
put-requires c = omega (arith, room (goal.at.put-requires c).Else-n-eq0)

pub overflow_cast-n : goal.overflow_cast-n
overflow_cast-n c =
    record { fits = omega (arith, c.ring_count-n.ensures, ((countable _ _ c.args.standing.now.whole).counted _ c.requires.0).few) }

pub put-requires-2 : goal.put-requires-2
put-requires-2 c = omega (arith, room (goal.at.put-requires-2 c).Else-n-eq0, c.put.auto.b)

pub returns : goal.returns
returns c =
    let a = c.args in
    let n = c.ring_count-n.result in record {
      value = omega (arith, ap length (there (goal.at.returns c).Else-n-eq0));
      b_after = c.put-2.ensures ∙ ap (λ (l : List ℕ). placed l (a.at + 2) (u16_bytes n)) c.put.ensures
          ∙ sym (placed_append a.b.now a.at (u16_bytes a.slot) (u16_bytes n)) ∙ ap (placed a.b.now a.at) (sym (there (goal.at.returns c).Else-n-eq0));
    }
