use Rattle.std.proofs.Common.{◌≡◌, ◌≢◌, length, false, true, arith, rules, ℕ, ◌<◌, sym, ◌∙◌, get_or, pos}
use mir.Syntax.{w32}
use mir.Val.{to_z, of_z}
use borrow.Author.Tests.{eq-eqb, ne_eqb}
use Rattle.plane.specs.Place.{in_range, place_of}
use Rattle.plane.proofs.Place.{held}
use Rattle.region.specs.Check.{some_outside}
use Rattle.leg.specs.Asked.{asked_list}
use Rattle.leg.proofs.EightNumbers.{each_in, edge_placed, box_placed}
use Rattle.leg.proofs.asked_walk.Goals as goal
use Rattle.leg.proofs.asked_walk.Goals.{in_default-via-then-xs-lt8, in_default-via-else-xs-lt8+else-xs-lt9, Else-some_outside}

pub returns-in_default : goal.returns-in_default
unfolding asked_list
returns-in_default c =
    let xs = c.args.xs.now in
    let n : length xs ≢ 8 = elim c.in_default.branch [ in_default-via-then-xs-lt8 w ↦ grind arith | in_default-via-else-xs-lt8+else-xs-lt9 w ↦ search rules ] in
    let e = ne_eqb _ _ n in
    c.no_walk.ensures ∙ simp e

pub returns-then-some_outside : goal.returns-then-some_outside
unfolding asked_list
returns-then-some_outside c =
    let xs = c.args.xs.now in
    let l : length xs ≡ 8 = omega arith in
    let n = eq-eqb (length xs) 8 l in
    let e = sym c.some_outside.ensures ∙ c.if-some_outside.true in
    c.no_walk-then-some_outside.ensures ∙ simp (n, e)

-- where they are eight numbers in range
module _ (c : Else-some_outside) where
  eight : length c.args.xs.now ≡ 8
  eight = omega arith

  inside : some_outside c.args.xs.now ≡ false
  inside = sym c.some_outside.ensures ∙ c.if-some_outside.false

  ranged : (i : ℕ) → i < 8 → in_range (get_or c.args.xs.now i (pos 0)) ≡ true
  ranged = each_in c.args.xs.now eight inside

  -- a number that was read is the list's
  kept : (i : ℕ) → i < 8 → to_z w32 (of_z w32 (get_or c.args.xs.now i (pos 0))) ≡ get_or c.args.xs.now i (pos 0)
  kept i h = held (get_or c.args.xs.now i (pos 0)) (ranged i h)

  read_in : (i : ℕ) → i < 8 → in_range (to_z w32 (of_z w32 (get_or c.args.xs.now i (pos 0)))) ≡ true
  read_in i h = rw (kept i h) (ranged i h)

  placed : (i : ℕ) → i < 8 → (p : ℕ) → p ≡ place_of (to_z w32 (of_z w32 (get_or c.args.xs.now i (pos 0)))) → p ≡ place_of (get_or c.args.xs.now i (pos 0))
  placed i h p e = e ∙ rw (kept i h)

pub place_of-requires : goal.place_of-requires
place_of-requires c = read_in (goal.at.place_of-requires c).Else-some_outside 0 (omega arith)

pub place_of-requires-2 : goal.place_of-requires-2
place_of-requires-2 c = read_in (goal.at.place_of-requires-2 c).Else-some_outside 1 (omega arith)

pub place_of-requires-3 : goal.place_of-requires-3
place_of-requires-3 c = read_in (goal.at.place_of-requires-3 c).Else-some_outside 2 (omega arith)

pub place_of-requires-4 : goal.place_of-requires-4
place_of-requires-4 c = read_in (goal.at.place_of-requires-4 c).Else-some_outside 3 (omega arith)

pub place_of-requires-5 : goal.place_of-requires-5
place_of-requires-5 c = read_in (goal.at.place_of-requires-5 c).Else-some_outside 4 (omega arith)

pub place_of-requires-6 : goal.place_of-requires-6
place_of-requires-6 c = read_in (goal.at.place_of-requires-6 c).Else-some_outside 5 (omega arith)

pub place_of-requires-7 : goal.place_of-requires-7
place_of-requires-7 c = read_in (goal.at.place_of-requires-7 c).Else-some_outside 6 (omega arith)

pub place_of-requires-8 : goal.place_of-requires-8
place_of-requires-8 c = read_in (goal.at.place_of-requires-8 c).Else-some_outside 7 (omega arith)

pub upright_walk-requires : goal.upright_walk-requires
upright_walk-requires c =
    let s = (goal.at.upright_walk-requires c).Else-some_outside in
    let l = eight s in
    let e = inside s in
    rw (placed s 0 (omega arith) _ c.place_of.ensures, placed s 1 (omega arith) _ c.place_of-2.ensures, placed s 2 (omega arith) _ c.place_of-3.ensures, placed s 3 (omega arith) _ c.place_of-4.ensures, placed s 4 (omega arith) _ c.place_of-5.ensures, placed s 5 (omega arith) _ c.place_of-6.ensures, placed s 6 (omega arith) _ c.place_of-7.ensures, placed s 7 (omega arith) _ c.place_of-8.ensures) (box_placed _ l e, edge_placed _ l e)

pub returns : goal.returns
unfolding asked_list
returns c =
    let s = (goal.at.returns c).Else-some_outside in
    let n = eq-eqb _ _ (eight s) in
    let e = inside s in
    c.upright_walk.ensures ∙ rw (placed s 0 (omega arith) _ c.place_of.ensures, placed s 1 (omega arith) _ c.place_of-2.ensures, placed s 2 (omega arith) _ c.place_of-3.ensures, placed s 3 (omega arith) _ c.place_of-4.ensures, placed s 4 (omega arith) _ c.place_of-5.ensures, placed s 5 (omega arith) _ c.place_of-6.ensures, placed s 6 (omega arith) _ c.place_of-7.ensures, placed s 7 (omega arith) _ c.place_of-8.ensures) (simp (n, e))
