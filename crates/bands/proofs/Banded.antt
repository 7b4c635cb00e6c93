-- The bands of a ring's ends, from those of its vertices: behind the last vertex the first stands once more.
--   length_bands    the list so made is as long as it was
--   banded    the list so made has the bands of each edge's ends
use mathlib.Core.Path.{◌≡◌, sym, ◌∙◌, ap}
use mathlib.Core.List.{List}
use Prim.Native.Nat.{ℕ, ◌+◌, ◌≤◌, ◌<◌}
use native.Mathlib.Omega.{arith}
use native.Mathlib.Nat.{lt_irrefl}
use native.Mathlib.Decide.{ℕ_discrete}
use lib.ListN.{length, get_or, set, length-set}
use lib.Seq.{get_or-set_same, get_or-set_other}
use lib.IntN.{ℤ}
use Rattle.plane.specs.Points.{Point}
use Rattle.plane.specs.Lists.{stores}
use Rattle.plane.proofs.Lists.{length_stores, stores_at}
use Rattle.ring.specs.Edges.{corner, after}
use Rattle.ring.proofs.Edges.{after_inner, after_last}
use Rattle.bands.specs.Axis.{place_in}
use Rattle.bands.specs.Bands.{bands, band_of, bands_of, Fitting, Banded}

module _ (xs : List ℤ) (from n axis low shift : ℕ) (l : List ℕ) (some : 0 < n) (room : n < length l) where
  abbrev band : Point → ℕ
  band P = band_of low shift (place_in axis P)

  abbrev closed : List ℕ
  closed = set l n (get_or l 0 0)

  closed_bands : Fitting xs from n axis low shift → ((k : ℕ) → k < n → get_or l k 0 ≡ band (corner xs from k)) → Banded xs from n axis low shift closed
  closed_bands fit h = record { starts = inner; ends = ends; few = few }
    where
      inner : (k : ℕ) → k < n → get_or closed k 0 ≡ band (corner xs from k)
      inner k p = get_or-set_other l n k (get_or l 0 0) 0 (λ q. lt_irrefl k (omega arith)) ∙ h k p

      last : get_or closed n 0 ≡ band (corner xs from 0)
      last = get_or-set_same l n (get_or l 0 0) 0 room ∙ h 0 some

      ends : (k : ℕ) → k < n → get_or closed (k + 1) 0 ≡ band (after xs from n k)
      ends k p =
          elim (ℕ_discrete (k + 1) n) [
            | yes e ↦ rw e last ∙ ap band (sym (after_last xs from n k e))
            | no e ↦ (let q : k + 1 < n = omega arith in inner (k + 1) q ∙ ap band (sym (after_inner xs from n k q)))
          ]

      few : (v : ℕ) → v ≤ n → get_or closed v 0 < bands
      few v p =
          elim (ℕ_discrete v n) [
            | yes e ↦ omega (arith, ap (λ (z : ℕ). get_or closed z 0) e, last, fit.few 0 some)
            | no e ↦ (let q : v < n = omega arith in omega (arith, inner v q, fit.few v q))
          ]

module _ (xs : List ℤ) (from n axis low shift : ℕ) (s : List ℕ) where
  abbrev band_at : ℕ → ℕ
  band_at k = band_of low shift (place_in axis (corner xs from k))

  pub length_bands : length (bands_of xs from n axis low shift s) ≡ length s
  unfolding bands_of
  length_bands = let t = stores (λ k. k) band_at n s in length-set t n (get_or t 0 0) ∙ length_stores (λ k. k) band_at n s

  pub banded : 0 < n → n < length s → Fitting xs from n axis low shift → Banded xs from n axis low shift (bands_of xs from n axis low shift s)
  unfolding bands_of
  banded some room fit =
      closed_bands xs from n axis low shift (stores (λ k. k) band_at n s) some (omega (arith, length_stores (λ k. k) band_at n s)) fit
      (λ k h. stores_at (λ k. k) band_at 0 n k s h (omega arith) (λ m x y z. lt_irrefl k (omega arith)))
