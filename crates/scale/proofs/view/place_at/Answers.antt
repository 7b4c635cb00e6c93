use mathlib.Core.Path.{◌≡◌, refl}
use lib.ListN.{get_or}
use lib.IntN.{pos}
use native.Mathlib.Omega.{arith}
use borrow.Author.Tests.{lt-ltb, le-ltb}
use Rattle.scale.specs.Places.{place_in, number_place}
use borrow.Author.Rules.{rules}
use Rattle.scale.proofs.view.place_at.Goals as goal

pub returns-then-i-ge-MOST_NUMBERS : goal.returns-then-i-ge-MOST_NUMBERS
unfolding number_place
returns-then-i-ge-MOST_NUMBERS c = rw (le-ltb c.args.i 128 (omega arith)) refl

pub returns : goal.returns
unfolding number_place
returns c =
    let a = c.args in
    let e : c.place.result ≡ place_in (get_or a.numbers a.i (pos 0)) = search (rules, c.place.ensures) in
    rw (lt-ltb a.i 128 (omega arith)) e
