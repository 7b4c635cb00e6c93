use mathlib.Core.Path.{◌≡◌, refl, ◌∙◌, ap, ap₂}
use mathlib.Core.List.{List}
use Prim.Native.Nat.{ℕ}
use native.Mathlib.Omega.{arith}
use lib.ListN.{get_or, set, length-set}
use Rattle.plane.specs.Lists.{stores}
use Rattle.plane.proofs.Folds.{turns_none, turns_more}
use Rattle.ring.specs.Edges.{corner}
use Rattle.bands.specs.Axis.{place_in, number_of}
use Rattle.bands.specs.Bands.{band_of, bands_of}
use Rattle.bands.proofs.band_ends.Goals as goal
use Rattle.bands.proofs.band_ends.Goals.{Start}

pub loop-k-init : goal.loop-k-init
loop-k-init c = (refl, turns_none _ _)

-- the band of vertex k
band_at : (c : Start) → ℕ → ℕ
band_at c k = let a = c.args in band_of a.low a.shift (place_in (number_of a.axis) (corner a.ring.outline.now a.ring.from k))

pub loop-k-preserved : goal.loop-k-preserved
loop-k-preserved c =
    let l = c.loop-k in
    let a = c.args in (
      length-set l.ends l.k c.band_of.result ∙ l.invariant.0,
      ap₂ (λ (u : List ℕ) (v : ℕ). set u l.k v) l.invariant.1 c.band_of.ensures
          ∙ turns_more (λ (k : ℕ) (u : List ℕ). set u k (band_of a.low a.shift (place_in (number_of a.axis) (corner a.ring.outline.now a.ring.from k)))) l.k a.ends.now,
    )

pub returns : goal.returns
unfolding bands_of
returns c =
    let l = c.loop-k in
    let a = c.args in
    let e : l.k ≡ a.ring.size = omega (arith, l.auto.k-end, c.loop-k-test.false) in
    ap (λ (u : List ℕ). set u a.ring.size (get_or u 0 0))
    (l.invariant.1 ∙ ap (λ (k : ℕ). stores (λ k. k) (λ k. band_of a.low a.shift (place_in (number_of a.axis) (corner a.ring.outline.now a.ring.from k))) k a.ends.now) e)
