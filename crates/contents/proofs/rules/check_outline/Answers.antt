use mathlib.Core.Path.{◌≡◌, sym, ◌∙◌, ap, ap₂, subst₂}
use Prim.Native.Nat.{◌-◌, ◌≤◌}
use native.Mathlib.Omega.{arith}
use lib.IntN.{ℤ}
use lib.ListN.{length, take, drop}
use mathlib.Core.List.{List}
use Prim.Native.Nat.{ℕ}
use Rattle.region.specs.Region.{region_of}
use Rattle.region.specs.Rules.{Keeps}
use borrow.Author.Rules.{rules}
use Rattle.region.specs.Refusals.{number_in}
use Rattle.region.specs.Check.{checked_in, shape_of, number_of}
use Rattle.card.specs.Reading.{ends_at, numbers_at}
use Rattle.card.specs.CardNumber.{shape_number}
use Rattle.card.proofs.Bounds.{ends_read, numbers_read, entry_few, vertices_there, parcel_keeps}
use Rattle.contents.proofs.rules.check_outline.Goals as goal
use Rattle.contents.proofs.rules.check_outline.Goals.{After-read_ends-rings, After-read_numbers-n}

-- the two lists that were read: long enough, and the parcel's
module _ (c : After-read_ends-rings) where
  ends_within : c.read_ends-rings.result ≤ length c.read_ends-rings.new.ends
  ends_within = omega (arith, c.read_ends-rings.ensures.value, (entry_few c.args.card.now c.requires.0.parcels c.args.k c.requires.1).1, c.read_ends-rings.auto.ends)

  ends_are : take (c.read_ends-rings.result - 0) (drop 0 c.read_ends-rings.new.ends) ≡ ends_at c.args.card.now c.args.k
  ends_are = ends_read c.args.card.now c.args.k _ c.read_ends-rings.ensures.value c.read_ends-rings.ensures.ends_after

module _ (c : After-read_numbers-n) where
  numbers_within : c.read_numbers-n.result ≤ length c.read_numbers-n.new.numbers
  numbers_within =
      omega (arith, c.read_numbers-n.ensures.value, (vertices_there c.args.card.now c.requires.0 c.args.k c.requires.1).few, c.read_numbers-n.auto.numbers)

  numbers_are : take (c.read_numbers-n.result - 0) (drop 0 c.read_numbers-n.new.numbers) ≡ numbers_at c.args.card.now c.args.k
  numbers_are = numbers_read c.args.card.now c.args.k _ c.read_numbers-n.ensures.value c.read_numbers-n.ensures.numbers_after

pub slice_bounds-outline-end : goal.slice_bounds-outline-end
slice_bounds-outline-end c = numbers_within (goal.at.slice_bounds-outline-end c).After-read_numbers-n

pub slice_bounds-outline-end-2 : goal.slice_bounds-outline-end-2
slice_bounds-outline-end-2 c = ends_within (goal.at.slice_bounds-outline-end-2 c).After-read_ends-rings

pub check_shape-requires : goal.check_shape-requires
check_shape-requires c =
    subst₂ (λ (xs : List ℤ) (es : List ℕ). Keeps 3 (region_of xs es)) (sym (numbers_are (goal.at.check_shape-requires c).After-read_numbers-n)) (sym (ends_are (goal.at.check_shape-requires c).After-read_ends-rings))
    (parcel_keeps c.args.card.now c.requires.0 c.args.k c.requires.1)

pub returns : goal.returns
unfolding shape_number
returns c =
    let told : number_in c.map_err.result ≡ number_of (checked_in c.check_shape.result) = search rules in
    told
    ∙ ap number_of (c.check_shape.ensures ∙ ap₂ (λ (xs : List ℤ) (es : List ℕ). shape_of (region_of xs es)) (numbers_are (goal.at.returns c).After-read_numbers-n) (ends_are (goal.at.returns c).After-read_ends-rings))
