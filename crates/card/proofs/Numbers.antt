-- Which numbers a card can be refused with.
--   card_number_either   a card's number is 0 or one of those that refuse a card by itself (`CardsOwn`), and no other
--   not_good_means       it is one of them exactly when the card is not good
--   shape_number_either  a parcel's number by rules 4 to 7 is 0 or one of 4 to 7
use mathlib.Core.Path.{◌≡◌, refl}
use mathlib.Core.Logic.{◌↔◌, ◌⊎◌, inl, inr, ⊎_elim}
use mathlib.Core.Bool.{Bool, true, false}
use mathlib.Core.List.{List}
use Prim.Native.Nat.{ℕ, zero, suc, ◌≤◌}
use native.Mathlib.Omega.{arith}
use lib.Dec.{ltb}
use lib.ListN.{length}
use Rattle.plane.specs.Choice.{pick}
use Rattle.plane.specs.Folds.{any_to, first_of}
use Rattle.region.specs.Check.{Checked}
use Rattle.region.specs.Check.{Accepted, Refused}
use Rattle.region.specs.declared.refusals.Refusal.{Refusal}
use Rattle.region.specs.declared.refusals.Refusal.TheVariants.{RingLength, ListSize, CardHeader, CardParcels, CardVertices}
use Rattle.region.specs.Refusals.{number, number_if, or_else, first_number}
use Rattle.region.specs.Region.{Region, most_rings, most_vertices, last_end}
use Rattle.region.specs.Check.{short_at, breaks_at, first_breaking, shape_of, number_of}
use Rattle.card.specs.Reading.{parcel_count, ends_at, region_at}
use Rattle.card.specs.CardNumber.{wrong_header, wrong_parcels, wrong_vertices, sizes_number, shape_number, card_number}
use Rattle.card.specs.Good.{GoodCard, CardsOwn}
use Rattle.card.proofs.Good.{good_means}

-- ---- what holds of every number that can come, holds of the one that comes
module _ (Can : ℕ → Type 0) (none : Can 0) where
  if_can : (t : Bool) (k : Refusal) → Can (number k) → Can (number_if t k)
  if_can true k c = c
  if_can false k c = none

  else_can : (a b : ℕ) → Can a → Can b → Can (or_else a b)
  else_can zero b c d = d
  else_can (suc a) b c d = c

  first_can : (f : ℕ → ℕ) (n : ℕ) → ((k : ℕ) → Can (f k)) → Can (first_number f n)
  unfolding first_number
  first_can f zero each = none
  first_can f (suc n) each = else_can (first_number f n) (f n) (first_can f n each) (each n)

  breaking_can : (R : Region) (n : ℕ) (c : Checked) → Can n → Can (number_of c) → Can (number_of (first_breaking R n c))
  unfolding first_breaking
  breaking_can R n c one other = go (ltb (first_of (breaks_at R n) most_rings) most_rings)
    where
      go : (t : Bool) → Can (number_of (pick t (Refused n (first_of (breaks_at R n) most_rings)) c))
      go true = one
      go false = other

  shape_can : (R : Region) → ((n : ℕ) → 4 ≤ n → n ≤ 7 → Can n) → Can (number_of (shape_of R))
  unfolding shape_of
  shape_can R each =
      breaking_can R 4 _ (each 4 (omega arith) (omega arith))
      (breaking_can R 5 _ (each 5 (omega arith) (omega arith))
      (breaking_can R 6 _ (each 6 (omega arith) (omega arith))
      (breaking_can R 7 Accepted (each 7 (omega arith) (omega arith)) none)))

  -- rules 2 and 3 of one parcel
  sizes_can : (b : List ℕ) (k : ℕ) → Can 2 → Can 3 → Can (sizes_number b k)
  unfolding sizes_number
  sizes_can b k two three =
      else_can (number_if short RingLength) (number_if long ListSize) (if_can short RingLength two) (if_can long ListSize three)
    where
      short : Bool
      short = any_to (short_at (ends_at b k)) (length (ends_at b k))

      long : Bool
      long = ltb most_vertices (last_end (ends_at b k))

module _ (b : List ℕ) where
  pub shape_number_either : (k : ℕ) → (shape_number b k ≡ 0) ⊎ ((4 ≤ shape_number b k) × (shape_number b k ≤ 7))
  unfolding shape_number
  shape_number_either k = shape_can (λ n. (n ≡ 0) ⊎ ((4 ≤ n) × (n ≤ 7))) (inl refl) (region_at b k) (λ n l h. inr (l, h))

  pub card_number_either : (card_number b ≡ 0) ⊎ CardsOwn (card_number b)
  unfolding card_number shape_number
  card_number_either =
      let Can : ℕ → Type 0 = λ n. (n ≡ 0) ⊎ CardsOwn n in
      let none : Can 0 = inl refl in
      let rule : (n : ℕ) → 2 ≤ n → n ≤ 7 → Can n = λ n l h. inr (inl (l, h)) in
      let whole : (n : ℕ) → 14 ≤ n → n ≤ 16 → Can n = λ n l h. inr (inr (l, h)) in
      else_can Can none _ _ (if_can Can none (wrong_header b) CardHeader (whole 14 (omega arith) (omega arith)))
      (else_can Can none _ _ (if_can Can none (wrong_parcels b) CardParcels (whole 15 (omega arith) (omega arith)))
      (else_can Can none _ _ (first_can Can none (sizes_number b) (parcel_count b) (λ k. sizes_can Can none b k (rule 2 (omega arith) (omega arith)) (rule 3 (omega arith) (omega arith))))
      (else_can Can none _ _ (if_can Can none (wrong_vertices b) CardVertices (whole 16 (omega arith) (omega arith)))
      (first_can Can none (shape_number b) (parcel_count b) (λ k. shape_can Can none (region_at b k) (λ n l h. rule n (omega arith) h))))))

  pub not_good_means : CardsOwn (card_number b) ↔ (GoodCard b → ⊥)
  not_good_means = (
    λ own good. let z = (good_means b).1 good in ⊎_elim (λ p. omega (arith, p.0, z)) (λ p. omega (arith, p.0, z)) own,
    λ bad. ⊎_elim (λ z. absurd (bad ((good_means b).0 z))) (λ own. own) card_number_either,
  )
