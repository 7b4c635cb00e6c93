use native.Mathlib.Omega.{arith}
use mathlib.Core.List.{[], ◌∷◌, ◌++◌}
use mathlib.Core.Path.{sym}
use Prim.Native.Nat.{ℕ, ◌≤◌}
use lib.ListN.{length, length-append}
use Rattle.std.proofs.lemmas.List.{length-take-le}
use Rattle.names.specs.Names.{names_of}
use Rattle.names.specs.Numbers.{space}
use Rattle.names.proofs.NameSteps.{names_le}
use Rattle.caption.proofs.put_words_of.Goals as goal

room : (middle set : ℕ) → length (names_of middle set ++ (space ∷ [])) ≤ 28
room middle set = omega (arith, names_le middle set, length-append (names_of middle set) (space ∷ []))

pub put_set-end-requires : goal.put_set-end-requires
put_set-end-requires c = omega (arith, room c.args.middle c.args.set)

pub slice_bounds-words-end : goal.slice_bounds-words-end
slice_bounds-words-end c = omega (arith, room c.args.middle c.args.set, c.put_set-end.ensures.place, c.put_set-end.auto.out)

pub slice_bounds-text-end : goal.slice_bounds-text-end
slice_bounds-text-end c = sym (length-take-le c.put_set-end.result c.put_set-end.new.out (omega (arith, room c.args.middle c.args.set, c.put_set-end.ensures.place, c.put_set-end.auto.out)))
