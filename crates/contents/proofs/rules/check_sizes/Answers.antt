use mathlib.Core.Path.{◌≡◌, refl, sym, ◌∙◌, ap}
use mathlib.Core.Bool.{Bool, true, false}
use mathlib.Core.List.{List}
use Prim.Native.Nat.{ℕ, ◌-◌, ◌≤◌, ◌<◌}
use native.Mathlib.Omega.{arith}
use lib.ListN.{length, take, drop}
use borrow.Author.Tests.{lt-ltb, le-ltb}
use Rattle.std.specs.Prelude.{Option, is_some}
use Rattle.plane.specs.Folds.{any_to}
use Rattle.region.specs.Region.{most_vertices, last_end}
use Rattle.region.specs.Check.{short_at, first_where}
use Rattle.region.proofs.Search.{where_any}
use Rattle.card.specs.Reading.{ends_at}
use Rattle.card.specs.CardNumber.{sizes_number}
use Rattle.card.proofs.Bounds.{ends_read, entry_few}
use Rattle.contents.proofs.rules.check_sizes.Goals as goal
use Rattle.contents.proofs.rules.check_sizes.Goals.{After-read_ends-n}

-- rules 2 and 3 of parcel k, whose ring ends are the list l and whose first short ring is o
module _ (b : List ℕ) (k : ℕ) {l : List ℕ} (is : l ≡ ends_at b k) {o : Option ℕ} (first : o ≡ first_where (short_at l) (length l)) where
  some_short : {t : Bool} → is_some o ≡ t → any_to (short_at (ends_at b k)) (length (ends_at b k)) ≡ t
  some_short e = rw (← is) (sym (where_any (short_at l) (length l)) ∙ ap is_some (sym first) ∙ e)

  ring_short : is_some o ≡ true → 2 ≡ sizes_number b k
  unfolding sizes_number
  ring_short e = sym (rw (some_short e) refl)

  module _ (e : is_some o ≡ false) {v : ℕ} (last : v ≡ last_end l) where
    many_vertices : most_vertices < v → 3 ≡ sizes_number b k
    unfolding sizes_number
    many_vertices h = sym (rw (some_short e, lt-ltb most_vertices (last_end (ends_at b k)) (rw (last ∙ ap last_end is) at h)) refl)

    sizes_right : v ≤ most_vertices → 0 ≡ sizes_number b k
    unfolding sizes_number
    sizes_right h = sym (rw (some_short e, le-ltb most_vertices (last_end (ends_at b k)) (rw (last ∙ ap last_end is) at h)) refl)

-- the list that was read: long enough, and the parcel's
module _ (c : After-read_ends-n) where
  within : c.read_ends-n.result ≤ length c.read_ends-n.new.ends
  within = omega (arith, c.read_ends-n.ensures.value, (entry_few c.args.card.now c.requires.0 c.args.k c.requires.1).1, c.read_ends-n.auto.ends)

  read : take (c.read_ends-n.result - 0) (drop 0 c.read_ends-n.new.ends) ≡ ends_at c.args.card.now c.args.k
  read = ends_read c.args.card.now c.args.k _ c.read_ends-n.ensures.value c.read_ends-n.ensures.ends_after

pub slice_bounds-first_short-end : goal.slice_bounds-first_short-end
slice_bounds-first_short-end c = within (goal.at.slice_bounds-first_short-end c).After-read_ends-n

pub returns-then-is_some : goal.returns-then-is_some
returns-then-is_some c =
    ring_short _ _ (read (goal.at.returns-then-is_some c).After-read_ends-n) c.first_short.ensures (sym c.is_some.ensures ∙ c.if-is_some.true)

pub slice_bounds-last_end-end : goal.slice_bounds-last_end-end
slice_bounds-last_end-end c = within (goal.at.slice_bounds-last_end-end c).After-read_ends-n

pub returns-then-last_end-gt-MOST_VERTICES : goal.returns-then-last_end-gt-MOST_VERTICES
returns-then-last_end-gt-MOST_VERTICES c =
    many_vertices _ _ (read (goal.at.returns-then-last_end-gt-MOST_VERTICES c).After-read_ends-n) c.first_short.ensures (sym c.is_some.ensures ∙ c.if-is_some.false) c.last_end.ensures c.if-last_end-gt-MOST_VERTICES.true

pub returns : goal.returns
returns c =
    sizes_right _ _ (read (goal.at.returns c).After-read_ends-n) c.first_short.ensures (sym c.is_some.ensures ∙ c.if-is_some.false) c.last_end.ensures c.if-last_end-gt-MOST_VERTICES.false
