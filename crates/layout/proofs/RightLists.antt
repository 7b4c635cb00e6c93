-- Rule 11.
--   lists_mean     the lists are not wrong exactly where each has its length
--   tables_mean    the same of the two lists that a reading is lent
use mathlib.Core.Path.{◌≡◌, refl, sym}
use mathlib.Core.Logic.{◌↔◌}
use mathlib.Core.Bool.{Bool, true, false, not, ◌||◌}
use mathlib.Core.List.{List}
use Prim.Native.Nat.{ℕ}
use lib.Dec.{eqb}
use lib.ListN.{length}
use borrow.Author.Tests.{eqb-true, eq-eqb}
use Rattle.plane.proofs.Logic.{never}
use Rattle.layout.specs.Sheet.{Sheet, coordinates_length, records_length, relations_length, RightLists, wrong_tables, wrong_lists}

-- a list of the right length, and another test
and_then : (n m : ℕ) (t : Bool) → (not (eqb n m) || t ≡ false) ↔ ((n ≡ m) × (t ≡ false))
and_then n m t = (λ h. go (eqb n m) refl h, λ h. rw (eq-eqb n m h.0) h.1)
  where
    go : (b : Bool) → eqb n m ≡ b → not b || t ≡ false → (n ≡ m) × (t ≡ false)
    go true e h = (eqb-true n m e, h)
    go false e h = never (sym h)

pub tables_mean : (records relations : List ℕ) → (wrong_tables records relations ≡ false) ↔ ((length records ≡ records_length) × (length relations ≡ relations_length))
unfolding wrong_tables
tables_mean records relations = (
  λ h. let a = (and_then (length records) records_length _).0 h in (a.0, last.0 a.1),
  λ h. (and_then (length records) records_length _).1 (h.0, last.1 h.1),
)
  where
    last : (not (eqb (length relations) relations_length) ≡ false) ↔ (length relations ≡ relations_length)
    last = (λ h. go (eqb (length relations) relations_length) refl h, λ h. rw (eq-eqb (length relations) relations_length h) refl)
      where
        go : (b : Bool) → eqb (length relations) relations_length ≡ b → not b ≡ false → length relations ≡ relations_length
        go true e h = eqb-true _ _ e
        go false e h = never (sym h)

pub lists_mean : (s : Sheet) → (wrong_lists s ≡ false) ↔ RightLists s
unfolding wrong_lists
lists_mean s = (
  λ h. let a = (and_then (length s.coordinates) coordinates_length _).0 h in
      let b = (tables_mean s.records s.relations).0 a.1 in
      record { coordinate_count = a.0; record_count = b.0; relation_count = b.1 },
  λ h. (and_then (length s.coordinates) coordinates_length _).1 (h.coordinate_count, (tables_mean s.records s.relations).1 (h.record_count, h.relation_count)),
)
