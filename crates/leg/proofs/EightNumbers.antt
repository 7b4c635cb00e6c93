-- Eight numbers of which none is out of range.
--   each_in          each is in range
--   edge_placed, box_placed    what they say is in places
use mathlib.Core.Path.{◌≡◌, ap}
use mathlib.Core.Bool.{true, false, not}
use mathlib.Core.List.{List}
use Prim.Native.Nat.{ℕ, ◌<◌}
use native.Mathlib.Omega.{arith}
use lib.IntN.{ℤ, pos}
use lib.ListN.{length, get_or}
use Rattle.plane.specs.Place.{in_range}
use Rattle.plane.specs.Placed.{BoxInPlaces, EdgeInPlaces}
use Rattle.plane.proofs.Logic.{clash, is_true}
use Rattle.plane.proofs.Place.{place_le}
use Rattle.plane.proofs.Folds.{any_means}
use Rattle.region.specs.Check.{some_outside}
use Rattle.leg.specs.Asked.{edge_in, box_in}

module _ (xs : List ℤ) (l : length xs ≡ 8) (e : some_outside xs ≡ false) where
  pub each_in : (i : ℕ) → i < 8 → in_range (get_or xs i (pos 0)) ≡ true
  unfolding some_outside
  each_in i h =
      is_true (in_range (get_or xs i (pos 0)))
      (λ q. clash (some_outside xs) ((any_means (λ k. not (in_range (get_or xs k (pos 0)))) (length xs)).1 (i, omega (arith, h, l), ap not q)) e)

  pub edge_placed : EdgeInPlaces (edge_in xs)
  edge_placed =
      record {
        ax = place_le _ (each_in 0 (omega arith));
        ay = place_le _ (each_in 1 (omega arith));
        bx = place_le _ (each_in 2 (omega arith));
        by = place_le _ (each_in 3 (omega arith));
      }

  pub box_placed : BoxInPlaces (box_in xs)
  box_placed =
      record {
        west = place_le _ (each_in 4 (omega arith));
        south = place_le _ (each_in 5 (omega arith));
        east = place_le _ (each_in 6 (omega arith));
        north = place_le _ (each_in 7 (omega arith));
      }
