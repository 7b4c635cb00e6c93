-- What the bands of a ring tell.
--   fits          a ring that lies between two lines lies in the bands that hold the width between them
--   laid          marked and joined, the words of the bands have every edge by its ends
--   near_finds    the word made for edge i has every edge that overlaps it: a band is no earlier than another whose places are lower
use mathlib.Core.Path.{◌≡◌}
use mathlib.Core.Bool.{true}
use mathlib.Core.List.{List}
use Prim.Native.Nat.{ℕ, ◌+◌, ◌-◌, ◌/◌, ◌^◌, ◌≤◌, ◌<◌, min, max}
use native.Mathlib.Omega.{arith}
use native.Mathlib.Decide.{dec_le}
use borrow.Author.Tests.{leb-true}
use lib.Dec.{leb}
use lib.Pow.{shr_mono}
use lib.ListN.{length, get_or}
use lib.Bits.{bit_or}
use lib.IntN.{ℤ}
use Rattle.plane.specs.TileSet.{bit}
use Rattle.plane.proofs.Logic.{and_means}
use Rattle.meet.specs.MeetTest.{overlap}
use Rattle.ring.specs.Edges.{corner, after}
use Rattle.bands.specs.Axis.{place_in}
use Rattle.bands.specs.Bands.{bands, most_edges, band_of, shift_for, bands_of, marks_of, below_of, above_of, Within, Fitting, Banded, Laid, near_of, Finds}
use Rattle.bands.proofs.Bits.{or_left, or_right, and_both}
use Rattle.bands.proofs.Shift.{shift_holds}
use Rattle.bands.proofs.Banded.{banded}
use Rattle.bands.proofs.Marks.{marked}
use Rattle.bands.proofs.Gather.{below_has, above_has}

band_mono : (low shift a b : ℕ) → a ≤ b → band_of low shift a ≤ band_of low shift b
band_mono low shift a b h = shr_mono {a = a - low} {b = b - low} shift (omega arith)

fitting : {xs : List ℤ} {from n axis low high : ℕ} (shift : ℕ) → Within xs from n axis low high → (high - low) / 2 ^ shift < bands → Fitting xs from n axis low shift
fitting {xs} {from} {axis = axis} {low} {high} shift w h =
    record { least = w.least; few = λ k l. omega (arith, h, band_mono low shift (place_in axis (corner xs from k)) high (w.most k l)) }

module _ {xs : List ℤ} {from n axis low high : ℕ} (some : 0 < n) (most : n ≤ most_edges) (within : Within xs from n axis low high) (top : high ≤ 2000000) where
  pub fits : Fitting xs from n axis low (shift_for (high - low))
  fits = fitting (shift_for (high - low)) within (shift_holds (high - low) (omega arith)).0

  pub laid : (s t : List ℕ) {s' below above : List ℕ} → n < length s → length t ≡ bands → s' ≡ bands_of xs from n axis low (shift_for (high - low)) s
      → below ≡ below_of (marks_of s' n t) → above ≡ above_of (marks_of s' n t) → Laid xs from n axis s' below above
  laid s t {s'} {below} {above} room words es eb ea =
      record { low = low; shift = shift_for (high - low); banded = bands_here; lower = record { has = lower }; upper = record { has = upper } }
    where
      bands_here : Banded xs from n axis low (shift_for (high - low)) s'
      bands_here = rw es (banded xs from n axis low (shift_for (high - low)) s some room fits)

      marks : (e v : ℕ) → e < n → e ≤ v → v ≤ e + 1 → bit (get_or (marks_of s' n t) (get_or s' v 0) 0) e ≡ 1
      marks = marked s' n most bands_here.few t words

      lower : (e v b : ℕ) → e < n → e ≤ v → v ≤ e + 1 → get_or s' v 0 ≤ b → b < bands → bit (get_or below b 0) e ≡ 1
      lower e v b h p q r few = rw eb (below_has (marks_of s' n t) b (get_or s' v 0) e r few (marks e v h p q))

      upper : (e v b : ℕ) → e < n → e ≤ v → v ≤ e + 1 → b ≤ get_or s' v 0 → bit (get_or above b 0) e ≡ 1
      upper e v b h p q r = rw ea (above_has (marks_of s' n t) b (get_or s' v 0) e r (bands_here.few v (omega arith)) (marks e v h p q))

-- of two ends and two ends, one of the first lies no further than one of the others
some_pair : {Z : Type 0} (x y u v : ℕ) → min x y ≤ max u v → (x ≤ u → Z) → (x ≤ v → Z) → (y ≤ u → Z) → (y ≤ v → Z) → Z
some_pair x y u v h xu xv yu yv =
    elim (dec_le x u) [
      | yes p ↦ xu p
      | no p ↦ elim (dec_le x v) [ yes q ↦ xv q | no q ↦ elim (dec_le y u) [ yes r ↦ yu r | no r ↦ yv (omega arith) ] ]
    ]

-- ranges that overlap do so in bands too
module _ (low shift a b c d : ℕ) where
  abbrev band : ℕ → ℕ
  band v = band_of low shift v

  overlap_bands : overlap a b c d ≡ true → (min (band c) (band d) ≤ max (band a) (band b)) × (min (band a) (band b) ≤ max (band c) (band d))
  unfolding overlap
  overlap_bands h =
      let t = (and_means (leb (min a b) (max c d)) (leb (min c d) (max a b))).0 h in
      (reach c d a b (leb-true _ _ t.1), reach a b c d (leb-true _ _ t.0))
    where
      reach : (x y u v : ℕ) → min x y ≤ max u v → min (band x) (band y) ≤ max (band u) (band v)
      reach x y u v h =
          some_pair x y u v h
          (λ l. omega (arith, band_mono low shift x u l)) (λ l. omega (arith, band_mono low shift x v l))
          (λ l. omega (arith, band_mono low shift y u l)) (λ l. omega (arith, band_mono low shift y v l))

module _ (xs : List ℤ) (from n axis i : ℕ) (s below above : List ℕ) (hi : i < n) (l : Laid xs from n axis s below above) where
  abbrev place : ℕ → ℕ
  place v = get_or s v 0

  module _ (j : ℕ) (hj : j < n) where
    abbrev a : ℕ
    a = place i

    abbrev b : ℕ
    b = place (i + 1)

    abbrev c : ℕ
    c = place j

    abbrev d : ℕ
    d = place (j + 1)

    in_lower : min c d ≤ max a b → bit (bit_or (get_or below a 0) (get_or below b 0)) j ≡ 1
    in_lower h =
        let few-a = l.banded.few i (omega arith) in
        let few-b = l.banded.few (i + 1) (omega arith) in
        some_pair c d a b h
        (λ p. or_left (get_or below a 0) (get_or below b 0) j (l.lower.has j j a hj (omega arith) (omega arith) p few-a))
        (λ p. or_right (get_or below a 0) (get_or below b 0) j (l.lower.has j j b hj (omega arith) (omega arith) p few-b))
        (λ p. or_left (get_or below a 0) (get_or below b 0) j (l.lower.has j (j + 1) a hj (omega arith) (omega arith) p few-a))
        (λ p. or_right (get_or below a 0) (get_or below b 0) j (l.lower.has j (j + 1) b hj (omega arith) (omega arith) p few-b))

    in_upper : min a b ≤ max c d → bit (bit_or (get_or above a 0) (get_or above b 0)) j ≡ 1
    in_upper h =
        some_pair a b c d h
        (λ p. or_left (get_or above a 0) (get_or above b 0) j (l.upper.has j j a hj (omega arith) (omega arith) p))
        (λ p. or_left (get_or above a 0) (get_or above b 0) j (l.upper.has j (j + 1) a hj (omega arith) (omega arith) p))
        (λ p. or_right (get_or above a 0) (get_or above b 0) j (l.upper.has j j b hj (omega arith) (omega arith) p))
        (λ p. or_right (get_or above a 0) (get_or above b 0) j (l.upper.has j (j + 1) b hj (omega arith) (omega arith) p))

    near_has : overlap (place_in axis (corner xs from i)) (place_in axis (after xs from n i)) (place_in axis (corner xs from j)) (place_in axis (after xs from n j)) ≡ true
        → bit (near_of s below above i) j ≡ 1
    unfolding near_of
    near_has o =
        let t = l.banded in
        let r = overlap_bands l.low l.shift (place_in axis (corner xs from i)) (place_in axis (after xs from n i)) (place_in axis (corner xs from j)) (place_in axis (after xs from n j)) o in
        let p : (min c d ≤ max a b) × (min a b ≤ max c d) = rw (t.starts i hi, t.ends i hi, t.starts j hj, t.ends j hj) r in
        and_both (bit_or (get_or below a 0) (get_or below b 0)) (bit_or (get_or above a 0) (get_or above b 0)) j (in_lower p.0) (in_upper p.1)

  pub near_finds : (word : ℕ) → word ≡ near_of s below above i → Finds xs from n axis i word
  near_finds word e = rw e (record { has = near_has })
