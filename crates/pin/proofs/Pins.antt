-- Every enclosed point is accounted for. A pin that a ring encloses, strictly inside a tile of the box: either an edge of the ring has the
-- tile, or no edge has it; then all pins of the tile are enclosed alike, so the tile is B, the ring's box covers the box, and its centre is enclosed.
--   ring_accounted       the ring has the tile: for any ring in range, whatever its shape, and any box in range
--   accounted_for        so has the region: both regions keep rules 1 to 4; rules 5 to 7 are not needed
use mathlib.Core.Path.{◌≡◌, refl}
use mathlib.Core.Logic.{inl, inr}
use mathlib.Core.Bool.{Bool, true, false}
use mathlib.Core.List.{List}
use Prim.Native.Nat.{ℕ, ◌<◌}
use native.Mathlib.Omega.{arith}
use lib.IntN.{ℤ}
use Rattle.plane.specs.Points.{Lines}
use Rattle.plane.specs.Ray.{Pin}
use Rattle.plane.specs.Placed.{LinesInRange, box_of, Upright}
use Rattle.plane.proofs.Logic.{clash}
use Rattle.ring.specs.Edges.{RingInRange}
use Rattle.ring.specs.Enclosed.{Enclosed, centre}
use Rattle.ring.specs.RingTiles.{RingHas, ring_has}
use Rattle.ring.proofs.RingBox.{box_there}
use Rattle.ring.proofs.RingTiles.{ring_means}
use Rattle.region.specs.Region.{Region, start_of, size_of}
use Rattle.region.specs.Rules.{Keeps}
use Rattle.region.proofs.Ends.{size_least}
use Rattle.region.proofs.Keeps.{keeps_fewer, sized, in_range_lem}
use Rattle.relation.specs.Relation.{RegionBox}
use Rattle.relation.proofs.Regions.{lines_in_range, region_box_is, region_upright}
use Rattle.pin.specs.Pins.{InTile, AccountedFor, EdgeIn}
use Rattle.pin.proofs.TileLaws.{middle_wide, centre_in, same_in_tile, only_middle}

module _ (L : Lines) (l : LinesInRange L) (up : Upright (box_of L)) where
  pub ring_accounted : (xs : List ℤ) (from n : ℕ) → RingInRange xs from n → 0 < n → (P : Pin) (t : ℕ) → t < 9
      → Enclosed P xs from n → InTile L P t → RingHas L xs from n t
  ring_accounted xs from n r some P t ht e i = go (ring_has (box_of L) xs from n t) refl
    where
      no_edge : (EdgeIn L xs from n t → ⊥) → RingHas L xs from n t
      no_edge none =
          let m = only_middle L l up xs from n r t ht none P i e in
          let w = middle_wide L l P (rw m.0 at i) in
          let (K, k, is) = box_there xs from n r some in
          let c : InTile L (centre L) t = rw m.0 (centre_in L l w.0 w.1) in
          inr (m.0, record { own_box = K; is_box = is; covering = m.1 K is; enclosed = same_in_tile L l up xs from n r t ht none P (centre L) i c e })

      go : (z : Bool) → ring_has (box_of L) xs from n t ≡ z → RingHas L xs from n t
      go true h = (ring_means L l xs from n r t some up ht).0 h
      go false h = no_edge (λ x. clash (ring_has (box_of L) xs from n t) ((ring_means L l xs from n r t some up ht).1 (inl x)) h)

pub accounted_for : {R Q : Region} → Keeps 4 R → Keeps 4 Q → (L : Lines) → RegionBox Q L → AccountedFor L R
accounted_for {R} {Q} one two L is P r t hr ht e i =
    let up : Upright (box_of L) = rw (region_box_is two L is) at (region_upright Q) in
    let some : 0 < size_of R.ends r = omega (arith, size_least R.ends (sized (keeps_fewer (omega arith) one)).grown r hr) in
    (r, hr, ring_accounted L (lines_in_range two L is) up R.coordinates (start_of R.ends r) (size_of R.ends r) ((in_range_lem one).at r hr) some P t ht e i)
