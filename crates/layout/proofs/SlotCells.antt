-- The cell of two slots of an undamaged sheet, as the function answers it.
--   there_keeps    the region in a slot that is not empty keeps rules 1 to 4
--   first_empty, second_empty, self, between    the four answers
use mathlib.Core.Path.{◌≡◌, refl, sym, ap, ◌∙◌, subst}
use mathlib.Core.Logic.{◌≢◌}
use mathlib.Core.Bool.{Bool, true, false}
use mathlib.Core.List.{List}
use Prim.Native.Nat.{ℕ, ◌<◌}
use lib.Dec.{eqb}
use lib.IntN.{ℤ}
use borrow.Author.Tests.{eq-eqb, ne_eqb}
use Rattle.region.specs.Region.{Parcel, nothing, outline}
use Rattle.region.specs.Rules.{Keeps}
use Rattle.relation.specs.Relation.{region_box, relation_of}
use Rattle.layout.specs.Sheet.{slots}
use Rattle.layout.specs.Standing.{ParcelKeeps}
use Rattle.layout.specs.Layout.{self_cell, cell_of}
use Rattle.layout.specs.Slots.{empty_in, region_in, in_slot}
use Rattle.layout.specs.Steps.{Whole, cell_for}
use Rattle.layout.proofs.Slots.{parcel_empty, parcel_there}

module _ (xs : List ℤ) (records : List ℕ) where
  pub there_keeps : Whole xs records → (i : ℕ) → i < slots → empty_in records i ≡ false → Keeps 4 (region_in xs records i)
  there_keeps whole i il e = subst (ParcelKeeps 4) (parcel_there xs records i e) (whole.keeps i il)

  module _ (p q : ℕ) where
    pub first_empty : empty_in records p ≡ true → 0 ≡ cell_for xs records p q
    first_empty e = ap (λ (x : Parcel). cell_of x (in_slot xs records q) (eqb p q)) (sym (parcel_empty xs records p e))

    pub second_empty : empty_in records q ≡ true → 0 ≡ cell_for xs records p q
    second_empty e = none (in_slot xs records p) (eqb p q) ∙ ap (λ (x : Parcel). cell_of (in_slot xs records p) x (eqb p q)) (sym (parcel_empty xs records q e))
      where
        none : (x : Parcel) (b : Bool) → 0 ≡ cell_of x nothing b
        none nothing b = refl
        none (outline R) b = refl

    module _ (there : empty_in records p ≡ false) (there' : empty_in records q ≡ false) where
      both_there : (b : Bool) → eqb p q ≡ b → cell_of (outline (region_in xs records p)) (outline (region_in xs records q)) b ≡ cell_for xs records p q
      both_there b e = sym (rw (parcel_there xs records p there, parcel_there xs records q there', e) refl)

      pub self : p ≡ q → self_cell ≡ cell_for xs records p q
      self e = both_there true (eq-eqb p q e)

      pub between : p ≢ q → relation_of (region_box (region_in xs records q)) (region_in xs records p) ≡ cell_for xs records p q
      between ne = both_there false (ne_eqb p q ne)
