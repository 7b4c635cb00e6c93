use mathlib.Core.Path.{◌≡◌, refl, sym, ap, ◌∙◌}
use mathlib.Core.List.{List}
use Prim.Native.Nat.{ℕ, ◌≤◌}
use native.Mathlib.Omega.{arith}
use mathlib.Core.Bool.{Bool}
use lib.Dec.{ltb}
use borrow.Author.Tests.{ltb-true, ltb-false}
use lib.ListN.{length}
use Rattle.std.specs.Prelude.{is_some}
use Rattle.plane.specs.Folds.{first_of}
use Rattle.region.specs.Region.{most_vertices, last_end}
use Rattle.region.specs.Check.{short_at, some_outside, first_where}
use Rattle.region.proofs.Search.{where_is_some}
use Rattle.layout.specs.Slots.{rings_in, ends_in}
use Rattle.layout.proofs.Slots.{rings_length}
use Rattle.layout.proofs.SlotTests.{Looked, none, many, counted, short, high, outlined, outside}
use Rattle.storage.proofs.refused.slot_damaged.Goals as goal
use Rattle.storage.proofs.refused.slot_damaged.Goals.{After-first_short, After-last_end, Else-count-gt-MOST_RINGS, Else-last_end-gt-MOST_VERTICES}

pub returns-then-count-eq0 : goal.returns-then-count-eq0
returns-then-count-eq0 c = none _ _ _ (sym c.ring_count-count.ensures ∙ c.if-count-eq0.true)

pub returns-then-count-gt-MOST_RINGS : goal.returns-then-count-gt-MOST_RINGS
returns-then-count-gt-MOST_RINGS c = many _ _ _ (omega (arith, c.ring_count-count.ensures, c.if-count-gt-MOST_RINGS.true))

-- the ring ends may be read
looked : (c : Else-count-gt-MOST_RINGS) → let a = c.args in Looked a.xs.now a.records.now a.slot
looked c =
    record {
      lists = c.requires.0;
      slot_in = c.requires.1;
      some = λ e. c.if-count-eq0.false (c.ring_count-count.ensures ∙ e);
      few = omega (arith, c.ring_count-count.ensures, c.if-count-gt-MOST_RINGS.false);
    }

pub ends_at-ends-requires : goal.ends_at-ends-requires
ends_at-ends-requires c = counted (looked (goal.at.ends_at-ends-requires c).Else-count-gt-MOST_RINGS)

-- the search for a short ring
module _ (c : After-first_short) {t : Bool} (found : is_some c.first_short.result ≡ t) where
  searched : let l = ends_in c.args.records.now c.args.slot in ltb (first_of (short_at l) (length l)) (length l) ≡ t
  searched = sym (where_is_some _ _) ∙ ap (λ (l : List ℕ). is_some (first_where (short_at l) (length l))) (sym c.ends_at-ends.ensures) ∙ ap is_some (sym c.first_short.ensures) ∙ found

pub returns-then-is_some : goal.returns-then-is_some
returns-then-is_some c =
    let see = looked (goal.at.returns-then-is_some c).Else-count-gt-MOST_RINGS in
    let l = ltb-true _ _ (searched (goal.at.returns-then-is_some c).After-first_short (sym c.is_some.ensures ∙ c.if-is_some.true)) in
    short see refl (omega (arith, l, rings_length _ _ (counted see)))

last : (c : After-last_end) → let a = c.args in c.last_end.result ≡ last_end (ends_in a.records.now a.slot)
last c = c.last_end.ensures ∙ ap last_end c.ends_at-ends.ensures

pub returns-then-last_end-gt-MOST_VERTICES : goal.returns-then-last_end-gt-MOST_VERTICES
returns-then-last_end-gt-MOST_VERTICES c =
    high (looked (goal.at.returns-then-last_end-gt-MOST_VERTICES c).Else-count-gt-MOST_RINGS) refl (omega (arith, last (goal.at.returns-then-last_end-gt-MOST_VERTICES c).After-last_end, c.if-last_end-gt-MOST_VERTICES.true))

-- no ring is short, and the last end is low
module _ (c : Else-last_end-gt-MOST_VERTICES) where
  long : let a = c.args in rings_in a.records.now a.slot ≤ first_of (short_at (ends_in a.records.now a.slot)) (length (ends_in a.records.now a.slot))
  long =
      let l = ltb-false _ _ (searched (goal.at.outline_at-requires c).After-first_short (sym c.is_some.ensures ∙ c.if-is_some.false)) in
      omega (arith, l, rings_length _ _ (counted (looked (goal.at.outline_at-requires c).Else-count-gt-MOST_RINGS)))

  low : let a = c.args in last_end (ends_in a.records.now a.slot) ≤ most_vertices
  low = omega (arith, c.last_end.ensures ∙ ap last_end c.ends_at-ends.ensures, c.if-last_end-gt-MOST_VERTICES.false)

pub outline_at-requires : goal.outline_at-requires
outline_at-requires c =
    outlined (looked (goal.at.outline_at-requires c).Else-count-gt-MOST_RINGS) refl (long (goal.at.outline_at-requires c).Else-last_end-gt-MOST_VERTICES) (low (goal.at.outline_at-requires c).Else-last_end-gt-MOST_VERTICES)

pub returns : goal.returns
returns c =
    c.some_outside.ensures ∙ ap some_outside c.outline_at.ensures ∙ outside (looked (goal.at.returns c).Else-count-gt-MOST_RINGS) refl (long (goal.at.returns c).Else-last_end-gt-MOST_VERTICES) (low (goal.at.returns c).Else-last_end-gt-MOST_VERTICES)
