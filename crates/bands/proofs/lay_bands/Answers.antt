use mathlib.Core.Path.{◌≡◌, ◌∙◌, ap}
use mathlib.Core.List.{List}
use native.Mathlib.Omega.{arith}
use Prim.Native.Nat.{ℕ, ◌-◌, ◌≤◌, ◌<◌}
use lib.ListN.{get_or}
use Rattle.bands.specs.Axis.{number_of}
use Rattle.bands.specs.Bands.{bands, shift_for, bands_of, below_of, above_of, Fitting}
use Rattle.bands.proofs.Shift.{shift_holds}
use Rattle.bands.proofs.Banded.{banded}
use Rattle.bands.proofs.Laid.{fits}
use borrow.Author.Rules.{rules}
use Rattle.bands.proofs.lay_bands.Goals as goal
use Rattle.bands.proofs.lay_bands.Goals.{Start, After-band_ends}

-- the first vertex lies between the two lines
module _ (c : Start) where
  upright : c.args.low ≤ c.args.high
  upright = let p = c.requires.ring in omega (arith, p.2.least 0 p.0, p.2.most 0 p.0)

  fit : Fitting c.args.ring.outline.now c.args.ring.from c.args.ring.size (number_of c.args.axis) c.args.low (shift_for (c.args.high - c.args.low))
  fit = let p = c.requires.ring in fits p.0 p.1 p.2 p.3

pub overflow_sub-high : goal.overflow_sub-high
overflow_sub-high c = upright (goal.at.overflow_sub-high c).Start

pub overflow_cast-low : goal.overflow_cast-low
overflow_cast-low c = omega (arith, upright (goal.at.overflow_cast-low c).Start, c.requires.ring.3)

pub band_ends-requires : goal.band_ends-requires
band_ends-requires c =
    let p = c.requires.ring in
    let e = c.shift_for-shift.ensures in
    (p.0, c.requires.room.0, rw e (shift_holds (c.args.high - c.args.low) (omega (arith, p.3))).1, rw e (fit (goal.at.band_ends-requires c).Start))

-- the list with the bands of the ring's ends
module _ (c : After-band_ends) where
  abbrev listed : ℕ → List ℕ
  listed shift = let a = c.args in bands_of a.ring.outline.now a.ring.from a.ring.size (number_of a.axis) a.low shift a.ends.now

  shifted : listed c.shift_for-shift.result ≡ listed (shift_for (c.args.high - c.args.low))
  shifted = ap listed c.shift_for-shift.ensures

  few : (v : ℕ) → v ≤ c.args.ring.size → get_or (listed c.shift_for-shift.result) v 0 < bands
  few v h =
      let a = c.args in
      let r = a.ring in
      let p = c.requires.ring in
      rw shifted ((banded r.outline.now r.from r.size (number_of a.axis) a.low (shift_for (a.high - a.low)) a.ends.now p.0 c.requires.room.0 (fits p.0 p.1 p.2 p.3)).few v h)

pub mark-requires : goal.mark-requires
mark-requires c =
    let b = (goal.at.mark-requires c).After-band_ends in
    (c.requires.ring.1, search rules, c.requires.room.1, λ v h. rw c.band_ends.ensures (few b v h))

pub returns : goal.returns
returns c = record {
  ends_after = c.band_ends.ensures ∙ shifted (goal.at.returns c).After-band_ends;
  below_after = c.gather_below.ensures ∙ ap below_of c.mark.ensures;
  above_after = c.gather_above.ensures ∙ ap above_of c.mark.ensures;
}
