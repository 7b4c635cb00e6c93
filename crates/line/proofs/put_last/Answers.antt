use mathlib.Core.Path.{◌≡◌, sym, ◌∙◌, ap}
use mathlib.Core.Bool.{Bool, true, false}
use mathlib.Core.List.{List, [], ◌∷◌, ◌++◌, append_assoc}
use Prim.Native.Nat.{ℕ, ◌+◌, ◌≤◌}
use native.Mathlib.Omega.{arith}
use lib.ListN.{length}
use Rattle.names.specs.Numbers.{space, decimal}
use Rattle.names.proofs.Putting.{put_as, put_then, room_first, room_next}
use Rattle.line.specs.Line.{line_feed, last_words}
use Rattle.line.proofs.put_last.Goals as goal
use Rattle.line.proofs.put_last.Goals.{Then-differs}

-- "differ" and the line feed
abbrev word : List ℕ
word = 100 ∷ 105 ∷ 102 ∷ 102 ∷ 101 ∷ 114 ∷ line_feed ∷ []

with_word : (n : ℕ) {t : Bool} → t ≡ true → (decimal n ++ (space ∷ [])) ++ word ≡ last_words n t
with_word n e = append_assoc (decimal n) (space ∷ []) word ∙ ap (last_words n) (sym e)

without : (n : ℕ) {t : Bool} → t ≡ false → decimal n ++ (line_feed ∷ []) ≡ last_words n t
without n e = ap (last_words n) (sym e)

room : (c : Then-differs) → let a = c.args in a.from + length ((decimal a.pieces ++ (space ∷ [])) ++ word) ≤ length a.out.now
room c = omega (arith, c.requires, ap length (with_word c.args.pieces c.if-differs.true))

pub put_number-at-requires : goal.put_number-at-requires
put_number-at-requires c =
    let a = c.args in
    room_first a.from _ (decimal a.pieces ++ (space ∷ [])) word (room (goal.at.put_number-at-requires c).Then-differs)

pub put_text-requires : goal.put_text-requires
put_text-requires c =
    room_next (decimal c.args.pieces ++ (space ∷ [])) word c.put_number-at.ensures (room (goal.at.put_text-requires c).Then-differs)

pub returns-then-differs : goal.returns-then-differs
returns-then-differs c =
    let a = c.args in
    put_as (with_word a.pieces c.if-differs.true) (put_then (decimal a.pieces ++ (space ∷ [])) word c.put_number-at.ensures c.put_text.ensures)

pub put_number-requires : goal.put_number-requires
put_number-requires c =
    omega (arith, c.requires, ap length (without c.args.pieces c.if-differs.false))

pub returns : goal.returns
returns c =
    put_as (without c.args.pieces c.if-differs.false) c.put_number.ensures
