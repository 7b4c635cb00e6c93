-- Condition 3, cell by cell: what any run of calls leaves in the relations.
--   standing_cell     the cell of two standing parcels is the relation of the first to the second
--   standing_tile     so a tile is in it exactly when the document's rule finds the first parcel there
--   self_cell_lem     a parcel with itself: 0;  standing_some  two parcels in different slots: never 0
--   empty_cell        any other cell is 0
--   opposite_ways     for two standing parcels the directions one way are the opposites of those the other way
use mathlib.Core.Path.{◌≡◌, refl, sym, ◌∙◌, ap}
use mathlib.Core.Logic.{◌↔◌, ◌⊎◌, ◌≢◌, ⊎_elim}
use mathlib.Core.List.{List}
use Prim.Native.Nat.{ℕ, ◌<◌}
use native.Mathlib.Omega.{arith}
use lib.Dec.{eqb}
use borrow.Author.Tests.{eq-eqb, ne_eqb}
use Rattle.plane.specs.Points.{Lines}
use Rattle.plane.specs.TileSet.{bit}
use Rattle.region.specs.Region.{Region, Parcel, nothing, outline}
use Rattle.region.specs.Rules.{KeepsRules}
use Rattle.region.proofs.Keeps.{keeps_fewer}
use Rattle.relation.specs.Relation.{RegionBox, RegionHas, region_box, relation_of}
use Rattle.relation.proofs.Regions.{region_upright}
use Rattle.relation.proofs.Relation.{relation_tile}
use Rattle.relation.proofs.Never.{relation_some}
use Rattle.compass.specs.Directions.{opposite}
use Rattle.pair.specs.Answer.{pair_of}
use Rattle.pair.proofs.Directions.{directions_turned}
use Rattle.layout.specs.Sheet.{Sheet, slots}
use Rattle.layout.specs.Layout.{cell_of}
use Rattle.layout.specs.Slots.{cell_in}
use Rattle.layout.proofs.Standing.{layout_cell}
use Rattle.runs.specs.Runs.{Call, after_run, Stands, standing}
use Rattle.runs.proofs.Runs.{standing_together, run_layout, standing_means, stands_slot}

module _ (cs : List Call) (p q : ℕ) (hp : p < slots) (hq : q < slots) where
  run_cell : cell_in (after_run cs).relations p q ≡ cell_of (standing cs p) (standing cs q) (eqb p q)
  run_cell = ap (λ (s : Sheet). cell_in s.relations p q) (run_layout cs) ∙ layout_cell (standing cs) p q hp hq

  pub empty_cell : (standing cs p ≡ nothing) ⊎ (standing cs q ≡ nothing) → cell_in (after_run cs).relations p q ≡ 0
  empty_cell h = run_cell ∙ ⊎_elim (λ e. rw e refl) (λ e. rw e (no_second (standing cs p))) h
    where
      no_second : (r : Parcel) → cell_of r nothing (eqb p q) ≡ 0
      no_second nothing = refl
      no_second (outline R) = refl

pub self_cell_lem : (cs : List Call) (p : ℕ) (R : Region) → Stands cs p R → cell_in (after_run cs).relations p p ≡ 0
self_cell_lem cs p R s = run_cell cs p p (stands_slot s) (stands_slot s) ∙ rw ((standing_means cs p R).1 s, eq-eqb p p refl) refl

-- a standing parcel keeps the rules
kept : (cs : List Call) (p : ℕ) (R : Region) → Stands cs p R → KeepsRules R
kept cs p R s = rw ((standing_means cs p R).1 s) at ((standing_together cs).each p (stands_slot s))

module _ (cs : List Call) (p q : ℕ) (R : Region) (first : Stands cs p R) (Q : Region) (second : Stands cs q Q) where
  module _ (other : p ≢ q) where
    pub standing_cell : cell_in (after_run cs).relations p q ≡ relation_of (region_box Q) R
    standing_cell = run_cell cs p q (stands_slot first) (stands_slot second) ∙ rw ((standing_means cs p R).1 first, (standing_means cs q Q).1 second, ne_eqb p q other) refl

    pub standing_some : cell_in (after_run cs).relations p q ≢ 0
    standing_some z = relation_some (region_box Q) (region_upright Q) (keeps_fewer (omega arith) (kept cs p R first)) (sym standing_cell ∙ z)

    pub standing_tile : (M : Lines) → RegionBox Q M → (t : ℕ) → t < 9 → (bit (cell_in (after_run cs).relations p q) t ≡ 1) ↔ RegionHas M R t
    standing_tile M is t h = rw standing_cell (relation_tile (keeps_fewer (omega arith) (kept cs p R first)) (keeps_fewer (omega arith) (kept cs q Q second)) M is t h)

  pub opposite_ways : (pair_of Q R).directions ≡ opposite (pair_of R Q).directions
  opposite_ways = directions_turned R Q (record { first_kept = kept cs p R first; second_kept = kept cs q Q second })
