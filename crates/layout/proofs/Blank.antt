-- The empty sheet.
--   blank_layout    it is the layout of nothing
--   blank_zeros     and what a sheet of the right lengths becomes where every number is set to 0
use mathlib.Core.Path.{◌≡◌, refl, ◌∙◌}
use mathlib.Core.List.{[]}
use Prim.Native.Nat.{ℕ, zero, suc, ◌%◌}
use lib.IntN.{pos}
use lib.ListN.{length, replicate, length-replicate, get_or-replicate}
use Rattle.plane.specs.Lists.{tab}
use Rattle.plane.proofs.Lists.{tab_all, tab_same}
use Rattle.region.specs.Region.{nothing}
use Rattle.layout.specs.Sheet.{Sheet, sheet_of, record_length, coordinates_length, records_length, relations_length, RightLists}
use Rattle.layout.specs.Layout.{record_number, layout, blank}

fill_tab : {A : Type 0} (a : A) (n : ℕ) → replicate n a ≡ tab (λ k. a) n
fill_tab a n = tab_all (λ k. a) a n (replicate n a) (length-replicate n a) (λ k l. get_or-replicate n k a a l)

-- the record of a slot without rings
no_rings : (k : ℕ) → 0 ≡ record_number [] k
no_rings zero = refl
no_rings (suc k) = refl

pub blank_layout : blank ≡ layout (λ i. nothing)
unfolding blank layout
blank_layout = λ j. sheet_of
    (fill_tab (pos 0) coordinates_length j)
    ((fill_tab 0 records_length ∙ tab_same (λ k. 0) (λ k. record_number [] (k % record_length)) records_length (λ k l. no_rings (k % record_length))) j)
    (fill_tab 0 relations_length j)

pub blank_zeros : (s : Sheet) → RightLists s → sheet_of (replicate (length s.coordinates) (pos 0)) (replicate (length s.records) 0) (replicate (length s.relations) 0) ≡ blank
unfolding blank
blank_zeros s right = rw (right.coordinate_count, right.record_count, right.relation_count) refl
