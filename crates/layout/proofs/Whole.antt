-- That every slot may be read and keeps rules 1 to 4 is one fact, so that a value may carry it.
--   whole_prop    it has one proof at most
use denote.Struct.Props.{props}
use mathlib.Core.List.{List}
use Prim.Native.Nat.{ℕ, ◌<◌}
use lib.IntN.{ℤ}
use Rattle.region.specs.Region.{Parcel, nothing, outline}
use Rattle.layout.specs.Sheet.{slots}
use Rattle.layout.specs.Standing.{ParcelKeeps}
use Rattle.layout.specs.Slots.{in_slot}
use Rattle.layout.specs.Steps.{Outlined, Whole}

keeps_prop : (n : ℕ) (p : Parcel) → IsProp (ParcelKeeps n p)
keeps_prop n nothing = Prim.hlevel props
keeps_prop n (outline R) = Prim.hlevel props

outlined_prop : (xs : List ℤ) (records : List ℕ) → IsProp ((i : ℕ) → i < slots → Outlined xs records i)
outlined_prop xs records = Prim.hlevel props

pub whole_prop : (xs : List ℤ) (records : List ℕ) → IsProp (Whole xs records)
whole_prop xs records a b =
    λ j. record {
      outlined = outlined_prop xs records a.outlined b.outlined j;
      keeps = λ i l. keeps_prop 4 (in_slot xs records i) (a.keeps i l) (b.keeps i l) j;
    }
