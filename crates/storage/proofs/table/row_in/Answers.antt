use mathlib.Core.Path.{refl}
use native.Mathlib.Nat.{add-sub_cancel_left}
use Rattle.layout.specs.Slots.{row_in, row_place}
use Rattle.storage.proofs.table.row_in.Goals as goal

pub returns : goal.returns
unfolding row_in row_place
returns c = record { result_value = simp add-sub_cancel_left; ref_ptr_value = refl }
