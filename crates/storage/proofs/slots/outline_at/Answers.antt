use mathlib.Core.Path.{◌≡◌, ap, ◌∙◌}
use native.Mathlib.Omega.{arith}
use native.Mathlib.Nat.{add-sub_cancel_left}
use Rattle.region.specs.Region.{last_end}
use Rattle.layout.specs.Slots.{ends_in, coordinates_in}
use borrow.Author.Rules.{rules}
use Rattle.storage.proofs.slots.outline_at.Goals as goal
use Rattle.storage.proofs.slots.outline_at.Goals.{After-last_end}

-- the last end that was read
last : (c : After-last_end) → let a = c.args in c.last_end.result ≡ last_end (ends_in a.records.now a.slot)
last c = c.last_end.ensures ∙ ap last_end c.ends_at.ensures

pub overflow_mul-to : goal.overflow_mul-to
overflow_mul-to c = record { fits = omega (arith, last (goal.at.overflow_mul-to c).After-last_end, c.requires.low) }

pub overflow_add-to : goal.overflow_add-to
overflow_add-to c = let pre = c.requires in record { fits = omega (arith, last (goal.at.overflow_add-to c).After-last_end, pre.low, pre.counted.slot_in) }

pub slice_bounds-result-end : goal.slice_bounds-result-end
slice_bounds-result-end c = let pre = c.requires in search (rules, last (goal.at.slice_bounds-result-end c).After-last_end, pre.low, pre.coordinate_count, pre.counted.slot_in)

pub returns : goal.returns
unfolding coordinates_in
returns c = simp (add-sub_cancel_left, last (goal.at.returns c).After-last_end)
