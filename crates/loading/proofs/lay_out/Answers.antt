use native.Mathlib.Omega.{arith}
use Rattle.loading.proofs.Loading.{blank_boxed}
use Rattle.loading.proofs.lay_out.Goals as goal

pub lay_parcels-requires : goal.lay_parcels-requires
lay_parcels-requires c = (c.clear_lists.ensures, blank_boxed _ (omega arith) c.clear_lists.ensures)

pub returns : goal.returns
returns c = c.lay_parcels.ensures
