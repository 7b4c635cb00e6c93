use native.Mathlib.Nat.{add-sub_cancel_left}
use Rattle.layout.specs.Slots.{ends_in}
use Rattle.storage.proofs.slots.ends_at.Goals as goal

pub returns : goal.returns
unfolding ends_in
returns c = simp (add-sub_cancel_left, c.ring_count.ensures)
