-- The covering sentence of document 01. A ring that encloses the centre of a box and does not enclose all of B has an edge in B; if it has none, its
-- own box covers the box. So the covering condition takes away no tile from a box with width and height.
--   covering_dropped      without it, a ring has the same tiles
--   region_dropped        so has a region that keeps rules 1 to 4;  accepted_dropped  of the box of an accepted region always
--   shows_an_edge         a ring that encloses the centre and leaves out a pin of B has an edge in B
--   whole_middle          where a ring has B and no edge in it, it encloses every pin of B
--   region_whole_middle   where a region has B and no edge in it, one of its rings does
use mathlib.Core.Path.{◌≡◌, refl}
use mathlib.Core.Logic.{◌↔◌, inl, inr, ⊎_elim}
use mathlib.Core.Bool.{Bool, true, false}
use mathlib.Core.List.{List}
use Prim.Native.Nat.{ℕ, ◌<◌}
use native.Mathlib.Omega.{arith}
use lib.ListN.{length}
use lib.IntN.{ℤ}
use lib.Signed.{◌<ℤ◌}
use Rattle.plane.specs.Points.{Lines}
use Rattle.plane.specs.Ray.{Pin}
use Rattle.plane.specs.Placed.{LinesInRange, box_of, Upright}
use Rattle.plane.proofs.Logic.{clash}
use Rattle.plane.proofs.Place.{place_lt}
use Rattle.ring.specs.Edges.{RingInRange}
use Rattle.ring.specs.Enclosed.{Enclosed, centre}
use Rattle.ring.specs.RingTiles.{RingHas, edges_have}
use Rattle.ring.proofs.RingTiles.{edges_mean}
use Rattle.region.specs.Region.{Region, start_of, size_of}
use Rattle.region.specs.Rules.{Keeps, KeepsRules}
use Rattle.region.proofs.Ends.{size_least}
use Rattle.region.proofs.Keeps.{keeps_fewer, sized, in_range_lem}
use Rattle.relation.specs.Relation.{RegionBox, RegionHas}
use Rattle.relation.proofs.Regions.{lines_in_range, region_box_is, region_upright}
use Rattle.relation.proofs.Spread.{box_wide, box_high}
use Rattle.pin.specs.Pins.{InTile, EdgeIn}
use Rattle.pin.specs.Covering.{RingHasCentre, RegionHasCentre}
use Rattle.pin.proofs.TileLaws.{middle_wide, centre_in, same_in_tile}
use Rattle.pin.proofs.Pins.{ring_accounted}

module _ (L : Lines) (l : LinesInRange L) (up : Upright (box_of L)) where
  centre_inside : L.west <ℤ L.east → L.south <ℤ L.north → InTile L (centre L) 4
  centre_inside we sn =
      centre_in L l ((place_lt L.west L.east l.west l.east).0 we) ((place_lt L.south L.north l.south l.north).0 sn)

  -- ---- one ring
  module _ (xs : List ℤ) (from n : ℕ) (r : RingInRange xs from n) where
    pub covering_dropped : 0 < n → L.west <ℤ L.east → L.south <ℤ L.north → (t : ℕ) → t < 9 → RingHas L xs from n t ↔ RingHasCentre L xs from n t
    covering_dropped some we sn t ht = (
      λ h. ⊎_elim (λ x. inl x) (λ x. inr (x.0, x.1.enclosed)) h,
      λ h. ⊎_elim (λ x. inl x) (λ x. ring_accounted L l up xs from n r some (centre L) t ht x.1 (rw x.0 (centre_inside we sn))) h,
    )

    pub shows_an_edge : L.west <ℤ L.east → L.south <ℤ L.north → Enclosed (centre L) xs from n
        → (P : Pin) → InTile L P 4 → (Enclosed P xs from n → ⊥) → EdgeIn L xs from n 4
    shows_an_edge we sn c P i out = go (edges_have (box_of L) xs from n 4) refl
      where
        edges : (edges_have (box_of L) xs from n 4 ≡ true) ↔ EdgeIn L xs from n 4
        edges = edges_mean L l xs from n r 4 up (omega arith)

        go : (z : Bool) → edges_have (box_of L) xs from n 4 ≡ z → EdgeIn L xs from n 4
        go true h = edges.0 h
        go false h =
            absurd (out (same_in_tile L l up xs from n r 4 (omega arith) (λ x. clash (edges_have (box_of L) xs from n 4) (edges.1 x) h) (centre L) P (centre_inside we sn) i c))

    pub whole_middle : RingHas L xs from n 4 → (EdgeIn L xs from n 4 → ⊥) → (P : Pin) → InTile L P 4 → Enclosed P xs from n
    whole_middle has none P i =
        let w = middle_wide L l P i in
        ⊎_elim (λ x. absurd (none x)) (λ x. same_in_tile L l up xs from n r 4 (omega arith) none (centre L) P (centre_in L l w.0 w.1) i x.1.enclosed) has

-- ---- regions
module _ {R Q : Region} (one : Keeps 4 R) (two : Keeps 4 Q) (L : Lines) (is : RegionBox Q L) where
  range : LinesInRange L
  range = lines_in_range two L is

  up : Upright (box_of L)
  up = rw (region_box_is two L is) at (region_upright Q)

  pub region_dropped : L.west <ℤ L.east → L.south <ℤ L.north → (t : ℕ) → t < 9 → RegionHas L R t ↔ RegionHasCentre L R t
  region_dropped we sn t ht = (λ h. (h.0, h.1, (each h.0 h.1).0 h.2), λ h. (h.0, h.1, (each h.0 h.1).1 h.2))
    where
      each : (r : ℕ) → r < length R.ends
          → RingHas L R.coordinates (start_of R.ends r) (size_of R.ends r) t ↔ RingHasCentre L R.coordinates (start_of R.ends r) (size_of R.ends r) t
      each r hr =
          covering_dropped L range up R.coordinates (start_of R.ends r) (size_of R.ends r) ((in_range_lem one).at r hr)
          (omega (arith, size_least R.ends (sized (keeps_fewer (omega arith) one)).grown r hr)) we sn t ht

  pub region_whole_middle : RegionHas L R 4 → ((r : ℕ) → r < length R.ends → EdgeIn L R.coordinates (start_of R.ends r) (size_of R.ends r) 4 → ⊥)
      → (r : ℕ) × (r < length R.ends) × ((P : Pin) → InTile L P 4 → Enclosed P R.coordinates (start_of R.ends r) (size_of R.ends r))
  region_whole_middle has none =
      let r = has.0 in
      let hr = has.1 in
      (r, hr, whole_middle L range up R.coordinates (start_of R.ends r) (size_of R.ends r) ((in_range_lem one).at r hr) has.2 (none r hr))

pub accepted_dropped : {R Q : Region} → Keeps 4 R → KeepsRules Q → (L : Lines) → RegionBox Q L → (t : ℕ) → t < 9 → RegionHas L R t ↔ RegionHasCentre L R t
accepted_dropped one two L is t ht = region_dropped one (keeps_fewer (omega arith) two) L is (box_wide two L is) (box_high two L is) t ht
