-- SCOPE 7.5, number 12: a sheet is damaged where a slot of it has a ring count above 8, or holds an outline with a ring too short (rule 2), too
-- high a last end (rule 3) or a coordinate out of range (rule 4).
--   Undamaged s             rule 12 is kept
--   breaks_rule R n         some ring of the region breaks rule n, tested
--   damaged_at xs records i  slot i is damaged, tested;  damaged s  some slot is. Its meaning: proofs/Undamaged, `undamaged_means`
use Rattle.std.specs.Prelude.{◌≡◌, Bool, not, ◌&&◌, ◌||◌, List, ℕ, ◌≤◌, ◌<◌, ltb, ℤ, length}
use Rattle.plane.specs.Folds.{any_to}
use Rattle.region.specs.Region.{Region, outline, most_rings, most_vertices, last_end}
use Rattle.region.specs.Rules.{Breaks}
use Rattle.region.specs.Check.{breaks_at}
use Rattle.layout.specs.Sheet.{Sheet, slots}
use Rattle.layout.specs.Slots.{rings_in, empty_in, region_in, parcel_at}

pub record Undamaged (s : Sheet) : Type 0 where
  pub few_rings : (i : ℕ) → i < slots → rings_in s.records i ≤ most_rings
  pub none_short : (i : ℕ) (R : Region) → i < slots → parcel_at s i ≡ outline R → (r : ℕ) → Breaks R 2 r → ⊥
  pub low_end : (i : ℕ) (R : Region) → i < slots → parcel_at s i ≡ outline R → last_end R.ends ≤ most_vertices
  pub none_outside : (i : ℕ) (R : Region) → i < slots → parcel_at s i ≡ outline R → (r : ℕ) → Breaks R 4 r → ⊥

abbrev pub breaks_rule : Region → ℕ → Bool
breaks_rule R n = any_to (breaks_at R n) (length R.ends)

unfoldable pub damaged_at : List ℤ → List ℕ → ℕ → Bool
damaged_at xs records i =
    let R = region_in xs records i in
    ltb most_rings (rings_in records i) || (not (empty_in records i) && (breaks_rule R 2 || (ltb most_vertices (last_end R.ends) || breaks_rule R 4)))

unfoldable pub damaged : Sheet → Bool
damaged s = any_to (damaged_at s.coordinates s.records) slots
