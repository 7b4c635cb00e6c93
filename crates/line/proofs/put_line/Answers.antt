use mathlib.Core.Path.{sym, ap}
use mathlib.Core.List.{List, [], ◌∷◌, ◌++◌}
use Prim.Native.Nat.{ℕ, ◌+◌, ◌≤◌}
use native.Mathlib.Omega.{arith}
use lib.ListN.{length}
use Rattle.names.specs.Names.{names_of, B, O}
use Rattle.names.specs.Numbers.{space, decimal}
use Rattle.line.specs.Line.{last_words}
use Rattle.names.proofs.Putting.{put_as, put_then, room_first, room_next}
use Rattle.line.proofs.Line.{behind1, behind2, behind3, behind4, line_is}
use Rattle.line.proofs.put_line.Goals as goal
use Rattle.line.proofs.put_line.Goals.{After-put_number-at, After-put_number-at-2, After-put_set-at, After-put_set-at-2, Start}
use Rattle.pair.specs.Answer.{answer_with}
use Rattle.drawn.specs.Drawn.{drawn_with}

-- there is room for the five words, and behind each for the rest
abbrev Room : (from : ℕ) (l out : List ℕ) → Type 0
Room from l out = from + length l ≤ length out

room0 : (c : Start) → let a = c.args in Room a.from ((decimal a.primary ++ (space ∷ [])) ++ behind1 a.primary a.reference (answer_with a.a) (drawn_with a.d)) a.out.now
room0 c = let a = c.args in omega (arith, c.requires, ap length (line_is a.primary a.reference (answer_with a.a) (drawn_with a.d)))

room1 : (c : After-put_number-at)
    → let a = c.args in
    Room a.from ((decimal a.primary ++ (space ∷ [])) ++ behind1 a.primary a.reference (answer_with a.a) (drawn_with a.d)) a.out.now
    → Room c.put_number-at.result (behind1 a.primary a.reference (answer_with a.a) (drawn_with a.d)) c.put_number-at.new.out
room1 c room = let a = c.args in room_next (decimal a.primary ++ (space ∷ [])) (behind1 a.primary a.reference (answer_with a.a) (drawn_with a.d)) c.put_number-at.ensures room

room2 : (c : After-put_number-at-2)
    → let a = c.args in
    Room c.put_number-at.result (behind1 a.primary a.reference (answer_with a.a) (drawn_with a.d)) c.put_number-at.new.out
    → Room c.put_number-at-2.result (behind2 a.primary a.reference (answer_with a.a) (drawn_with a.d)) c.put_number-at-2.new.out
room2 c room = let a = c.args in room_next (decimal a.reference ++ (space ∷ [])) (behind2 a.primary a.reference (answer_with a.a) (drawn_with a.d)) c.put_number-at-2.ensures room

room3 : (c : After-put_set-at)
    → let a = c.args in
    Room c.put_number-at-2.result (behind2 a.primary a.reference (answer_with a.a) (drawn_with a.d)) c.put_number-at-2.new.out
    → Room c.put_set-at.result (behind3 a.primary a.reference (answer_with a.a) (drawn_with a.d)) c.put_set-at.new.out
room3 c room = let a = c.args in room_next (names_of B a.a.first ++ (space ∷ [])) (behind3 a.primary a.reference (answer_with a.a) (drawn_with a.d)) c.put_set-at.ensures room

room4 : (c : After-put_set-at-2)
    → let a = c.args in
    Room c.put_set-at.result (behind3 a.primary a.reference (answer_with a.a) (drawn_with a.d)) c.put_set-at.new.out
    → Room c.put_set-at-2.result (behind4 a.primary a.reference (answer_with a.a) (drawn_with a.d)) c.put_set-at-2.new.out
room4 c room = let a = c.args in room_next (names_of O a.a.directions ++ (space ∷ [])) (behind4 a.primary a.reference (answer_with a.a) (drawn_with a.d)) c.put_set-at-2.ensures room

pub put_number-at-requires : goal.put_number-at-requires
put_number-at-requires c =
    let a = c.args in
    room_first a.from _ (decimal a.primary ++ (space ∷ [])) (behind1 a.primary a.reference (answer_with a.a) (drawn_with a.d)) (room0 (goal.at.put_number-at-requires c).Start)

pub put_number-at-requires-2 : goal.put_number-at-requires-2
put_number-at-requires-2 c =
    let a = c.args in
    let at = goal.at.put_number-at-requires-2 c in
    room_first c.put_number-at.result _ (decimal a.reference ++ (space ∷ [])) (behind2 a.primary a.reference (answer_with a.a) (drawn_with a.d)) (room1 at.After-put_number-at (room0 at.Start))

pub put_set-at-requires : goal.put_set-at-requires
put_set-at-requires c =
    let a = c.args in
    let at = goal.at.put_set-at-requires c in
    room_first c.put_number-at-2.result _ (names_of B a.a.first ++ (space ∷ [])) (behind3 a.primary a.reference (answer_with a.a) (drawn_with a.d)) (room2 at.After-put_number-at-2 (room1 at.After-put_number-at (room0 at.Start)))

pub put_set-at-requires-2 : goal.put_set-at-requires-2
put_set-at-requires-2 c =
    let a = c.args in
    let at = goal.at.put_set-at-requires-2 c in
    room_first c.put_set-at.result _ (names_of O a.a.directions ++ (space ∷ [])) (behind4 a.primary a.reference (answer_with a.a) (drawn_with a.d)) (room3 at.After-put_set-at (room2 at.After-put_number-at-2 (room1 at.After-put_number-at (room0 at.Start))))

pub put_last-requires : goal.put_last-requires
put_last-requires c =
    let at = goal.at.put_last-requires c in
    rw c.differ.ensures (room4 at.After-put_set-at-2 (room3 at.After-put_set-at (room2 at.After-put_number-at-2 (room1 at.After-put_number-at (room0 at.Start)))))

pub returns : goal.returns
returns c =
    let a = c.args in
    put_as (sym (line_is a.primary a.reference (answer_with a.a) (drawn_with a.d)))
    (put_then (decimal a.primary ++ (space ∷ [])) (behind1 a.primary a.reference (answer_with a.a) (drawn_with a.d)) c.put_number-at.ensures
    (put_then (decimal a.reference ++ (space ∷ [])) (behind2 a.primary a.reference (answer_with a.a) (drawn_with a.d)) c.put_number-at-2.ensures
    (put_then (names_of B a.a.first ++ (space ∷ [])) (behind3 a.primary a.reference (answer_with a.a) (drawn_with a.d)) c.put_set-at.ensures
    (put_then (names_of O a.a.directions ++ (space ∷ [])) (behind4 a.primary a.reference (answer_with a.a) (drawn_with a.d)) c.put_set-at-2.ensures
    (put_as (ap (last_words a.a.first_pieces) c.differ.ensures) c.put_last.ensures)))))
