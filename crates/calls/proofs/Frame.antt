-- What a put or a removal can change.
--   put_touches, remove_touches    nothing but what belongs to its slot, whatever the lists hold
use mathlib.Core.Path.{◌≡◌, refl}
use mathlib.Core.Bool.{Bool, true, false}
use Prim.Native.Nat.{ℕ}
use lib.Dec.{eqb}
use borrow.Author.Tests.{eqb-true}
use Rattle.plane.specs.Choice.{pick}
use Rattle.region.specs.Region.{Region, Parcel, nothing, outline}
use Rattle.layout.specs.Sheet.{Sheet}
use Rattle.layout.specs.Changes.{with_parcel, TouchesOnly}
use Rattle.layout.specs.Steps.{Ready}
use Rattle.layout.proofs.Written.{touches_none, with_touches}
use Rattle.calls.specs.Changes.{put_number, put, remove_number, remove}
use Rattle.calls.proofs.Numbers.{put_ready, remove_ready}

module _ (s : Sheet) (i : ℕ) where
  -- a call that writes the parcel p where its number is 0
  call_touches : (n : ℕ) (p : Parcel) → (n ≡ 0 → Ready s i p) → TouchesOnly i s (pick (eqb n 0) (with_parcel s i p) s)
  call_touches n p ready = go (eqb n 0) refl
    where
      go : (b : Bool) → eqb n 0 ≡ b → TouchesOnly i s (pick b (with_parcel s i p) s)
      go true e = with_touches s i p (ready (eqb-true _ _ e))
      go false e = touches_none s i

  pub put_touches : (R : Region) → TouchesOnly i s (put s i R)
  unfolding put
  put_touches R = call_touches (put_number s i R) (outline R) (put_ready s i R)

  pub remove_touches : TouchesOnly i s (remove s i)
  unfolding remove
  remove_touches = call_touches (remove_number s i) nothing (remove_ready s i)
