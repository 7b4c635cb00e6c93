-- Laws of what an answer says in numbers.
--   number_only        two refusals of one number are the same
--   number_in_only     two answers without a value that say the same are the same
--   refused_region_only    two refusals of two regions that say the same are the same
--   checked_only       two answers of the check that say the same are the same
use mathlib.Core.Path.{◌≡◌, refl, sym, ◌∙◌, ap}
use Prim.Native.Nat.{ℕ}
use Rattle.std.specs.Prelude.{Result, Ok, Err, eqb}
use Rattle.plane.specs.Choice.{pick}
use Rattle.region.specs.declared.refusals.Refusal.{Refusal}
use Rattle.region.specs.declared.refusals.Refusal.TheVariants.{RingCount, RingLength, ListSize, CoordinateRange, VertexRepeated, EdgesMeet, NotClockwise, SlotNumber, SlotEmpty, BufferShort, SheetLists, SheetDamaged, CardHeader, CardParcels, CardVertices, NotTwoParcels, PairsOdd}
use Rattle.region.specs.declared.Broken.{Broken}
use Rattle.region.specs.declared.RefusedRegion.{RefusedRegion}
use Rattle.region.specs.Refusals.{number, number_in}
use Rattle.region.specs.Check.{checked_in, number_of, ring_of}
use Rattle.region.proofs.OrElse.{number_some}

-- The refusal of a number; the last one where there is none.
named : ℕ → Refusal
named n =
    pick (eqb n 1) RingCount (
    pick (eqb n 2) RingLength (
    pick (eqb n 3) ListSize (
    pick (eqb n 4) CoordinateRange (
    pick (eqb n 5) VertexRepeated (
    pick (eqb n 6) EdgesMeet (
    pick (eqb n 7) NotClockwise (
    pick (eqb n 8) SlotNumber (
    pick (eqb n 9) SlotEmpty (
    pick (eqb n 10) BufferShort (
    pick (eqb n 11) SheetLists (
    pick (eqb n 12) SheetDamaged (
    pick (eqb n 14) CardHeader (
    pick (eqb n 15) CardParcels (
    pick (eqb n 16) CardVertices (
    pick (eqb n 17) NotTwoParcels (PairsOdd))))))))))))))))

named_number : (k : Refusal) → named (number k) ≡ k
unfolding named
named_number RingCount = refl
named_number RingLength = refl
named_number ListSize = refl
named_number CoordinateRange = refl
named_number VertexRepeated = refl
named_number EdgesMeet = refl
named_number NotClockwise = refl
named_number SlotNumber = refl
named_number SlotEmpty = refl
named_number BufferShort = refl
named_number SheetLists = refl
named_number SheetDamaged = refl
named_number CardHeader = refl
named_number CardParcels = refl
named_number CardVertices = refl
named_number NotTwoParcels = refl
named_number PairsOdd = refl

pub number_only : (j k : Refusal) → number j ≡ number k → j ≡ k
number_only j k e = sym (named_number j) ∙ (ap named e ∙ named_number k)

pub number_in_only : (a b : Result (Unit {0}) Refusal) → number_in a ≡ number_in b → a ≡ b
number_in_only (Ok u) (Ok v) e = refl
number_in_only (Ok u) (Err k) e = absurd (number_some k (sym e))
number_in_only (Err j) (Ok v) e = absurd (number_some j e)
number_in_only (Err j) (Err k) e = ap (λ (n : Refusal). Err n) (number_only j k e)

pub checked_only : (a b : Result (Unit {0}) Broken) → checked_in a ≡ checked_in b → a ≡ b
checked_only (Ok u) (Ok v) e = refl
checked_only (Ok u) (Err d) e = absurd (number_some d.rule (sym (ap number_of e)))
checked_only (Err c) (Ok v) e = absurd (number_some c.rule (ap number_of e))
checked_only (Err c) (Err d) e = ap (λ (x : Broken). Err x) (λ i. record { rule = number_only c.rule d.rule (ap number_of e) i; ring = ap ring_of e i })

pub refused_region_only : (f g : RefusedRegion) → number f.broken.rule ≡ number g.broken.rule → f.region ≡ g.region → f.broken.ring ≡ g.broken.ring → f ≡ g
refused_region_only f g n r k = λ i. record { region = r i; broken = record { rule = number_only f.broken.rule g.broken.rule n i; ring = k i } }
