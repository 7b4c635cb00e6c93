-- The rules that ring r breaks, by its faults.
--   faults_are    ring r is faulty exactly where one of its faults is found
use mathlib.Core.Path.{◌≡◌, refl}
use mathlib.Core.Bool.{◌||◌}
use Prim.Native.Nat.{ℕ, ◌<◌}
use lib.ListN.{length}
use borrow.Author.Tests.{lt-ltb}
use Rattle.simple.specs.declared.Faults.{Faults}
use Rattle.simple.specs.Faults.{faults_of}
use Rattle.region.specs.Region.{Region, start_of, size_of}
use Rattle.region.specs.Check.{breaks_at, faulty_at}

pub faults_are : (R : Region) (r : ℕ) → r < length R.ends → (f : Faults) → f ≡ faults_of R.coordinates (start_of R.ends r) (size_of R.ends r)
    → (f.repeated || f.tangled) || f.turned ≡ faulty_at R r
unfolding breaks_at faults_of faulty_at
faults_are R r l f e = rw (e, lt-ltb r (length R.ends) l) refl
