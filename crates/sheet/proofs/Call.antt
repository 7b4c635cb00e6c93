-- What each call that changes a sheet answers and leaves, from the call's own contract (`Post`, which the checker generates from the source). Of a
-- call's arguments `before` is the sheet at entry and `after` the sheet at exit. The cases are those of calls/specs/Says.
-- A put of the region R into a slot:
--   put_means            its number is n exactly when case n holds;  put_either  which numbers these are, and no others
--   put_kept             beside a number that is not 0 the sheet is as it was found
--   put_stands           where it answers 0, R stands in the slot, and in every other slot what stood there, whoever wrote it
--   put_row, put_column  a tile is then in the cell of the slot and another one, and the other way round, exactly when the rule finds it
--   put_bare, put_self   the cells with an empty slot are 0, and so is that with itself;  put_touched  nothing else has changed
-- A removal from a slot:
--   remove_means, remove_either, remove_kept, remove_touched    the same
--   remove_stands, remove_cells    where it answers 0, nothing stands in the slot, and its cells are 0
-- A clearing:
--   clear_means, clear_either, clear_kept    the same;  clear_blank  where it answers 0, every number is 0
use mathlib.Core.Path.{◌≡◌, refl, sym, ◌∙◌, ap}
use mathlib.Core.Logic.{◌↔◌, ◌⊎◌, ◌≢◌, inl, inr}
use Prim.Native.Nat.{ℕ, ◌≤◌, ◌<◌}
use borrow.Author.Tests.{eq-eqb, ne_eqb}
use Rattle.std.specs.Prelude.{Result}
use Rattle.plane.specs.Points.{Lines}
use Rattle.plane.specs.TileSet.{bit}
use Rattle.region.specs.declared.refusals.Refusal.{Refusal}
use Rattle.region.specs.Refusals.{number_in}
use Rattle.region.specs.Region.{Region, nothing, outline}
use Rattle.region.specs.Outline.{drawn_by}
use Rattle.region.proofs.Keeps.{broken_number}
use Rattle.relation.specs.Relation.{RegionBox, RegionHas}
use Rattle.layout.specs.Sheet.{Sheet, sheet_of, slots}
use Rattle.layout.specs.Standing.{instead}
use Rattle.layout.specs.Layout.{blank}
use Rattle.layout.specs.Slots.{parcel_at, cell_in}
use Rattle.layout.specs.Changes.{with_parcel, TouchesOnly}
use Rattle.layout.specs.Steps.{Ready}
use Rattle.layout.proofs.Written.{parcel_standing}
use Rattle.layout.proofs.Renewed.{row_tile, column_tile, row_bare, column_bare, self_renewed, row_removed, column_removed}
use Rattle.calls.specs.Changes.{put_number, remove_number, clear_number, clear}
use Rattle.calls.specs.Says.{PutSays, put_done, put_refused, put_broken, RemoveSays, remove_done, remove_refused, remove_empty, ClearSays, clear_done, clear_refused}
use Rattle.calls.proofs.Numbers as numbers
use Rattle.calls.proofs.Numbers.{put_ready, put_is, remove_ready}
use Rattle.calls.proofs.Frame.{put_touches, remove_touches}
use Rattle.calls.proofs.Says.{unchangeable_either, put_says, remove_says, clear_says}
use Rattle.sheet.proofs.put.Reads as put_reads
use Rattle.sheet.proofs.remove.Reads as remove_reads
use Rattle.sheet.proofs.clear.Reads as clear_reads

-- ---- a put
module _ (κs : _) (a : _) (r : Result (Unit {0}) Refusal) (e : _) (post : put_reads.Post κs a r e) where
  abbrev put_before : Sheet
  put_before = sheet_of a.0.now a.1.0.now a.1.1.0.now

  abbrev put_after : Sheet
  put_after = sheet_of e.0.now e.1.0.now e.1.1.0.now

  abbrev put_slot : ℕ
  put_slot = a.1.1.1.0

  abbrev put_region : Region
  put_region = drawn_by a.1.1.1.1.0

  pub put_means : (m : ℕ) → (number_in r ≡ m) ↔ PutSays put_before put_slot put_region m
  put_means m = rw post.0 (put_says put_before put_slot put_region m)

  pub put_either : (number_in r ≡ 0) ⊎ (((number_in r ≡ 11) ⊎ ((number_in r ≡ 8) ⊎ (number_in r ≡ 12))) ⊎ ((1 ≤ number_in r) × (number_in r ≤ 7)))
  put_either = go ((put_means (number_in r)).0 refl)
    where
      go : {m : ℕ} → PutSays put_before put_slot put_region m → (m ≡ 0) ⊎ (((m ≡ 11) ⊎ ((m ≡ 8) ⊎ (m ≡ 12))) ⊎ ((1 ≤ m) × (m ≤ 7)))
      go (put_done ok kept) = inl refl
      go (put_refused u) = inr (inl (unchangeable_either put_before put_slot u))
      go (put_broken {n} {r} ok w) = inr (inr (broken_number put_region n r w.broken))

  pub put_kept : number_in r ≢ 0 → put_after ≡ put_before
  put_kept some = post.1 ∙ sym (numbers.put_refused put_before put_slot put_region (λ z. some (post.0 ∙ z)))

  pub put_touched : TouchesOnly put_slot put_before put_after
  put_touched = rw post.1 (put_touches put_before put_slot put_region)

  module _ (done : number_in r ≡ 0) where
    put_zero : put_number put_before put_slot put_region ≡ 0
    put_zero = sym post.0 ∙ done

    put_may : Ready put_before put_slot (outline put_region)
    put_may = put_ready put_before put_slot put_region put_zero

    put_written : put_after ≡ with_parcel put_before put_slot (outline put_region)
    put_written = post.1 ∙ put_is put_before put_slot put_region put_zero

    put_cell : (p q : ℕ) → cell_in put_after.relations p q ≡ cell_in (with_parcel put_before put_slot (outline put_region)).relations p q
    put_cell p q = ap (λ (s : Sheet). cell_in s.relations p q) put_written

    pub put_stands : (k : ℕ) → k < slots → parcel_at put_after k ≡ instead (parcel_at put_before) put_slot (outline put_region) k
    put_stands k h = ap (λ (s : Sheet). parcel_at s k) put_written ∙ parcel_standing put_before put_slot (outline put_region) put_may k h

    pub put_self : cell_in put_after.relations put_slot put_slot ≡ 0
    put_self = put_cell put_slot put_slot ∙ self_renewed put_before put_slot put_region put_may.change.slot_in

    module _ (k : ℕ) (h : k < slots) (other : k ≢ put_slot) where
      pub put_bare : parcel_at put_before k ≡ nothing → (cell_in put_after.relations put_slot k ≡ 0) × (cell_in put_after.relations k put_slot ≡ 0)
      put_bare none = (
        put_cell put_slot k ∙ row_bare put_before put_slot put_region put_may.change.slot_in k h other none,
        put_cell k put_slot ∙ column_bare put_before put_slot put_region put_may.change.slot_in k h other none,
      )

      module _ (Q : Region) (there : parcel_at put_before k ≡ outline Q) where
        pub put_row : (M : Lines) → RegionBox Q M → (t : ℕ) → t < 9 → (bit (cell_in put_after.relations put_slot k) t ≡ 1) ↔ RegionHas M put_region t
        put_row M is t l = rw (put_cell put_slot k) (row_tile put_before put_slot put_region put_may.change.slot_in k h other put_may Q there M is t l)

        pub put_column : (L : Lines) → RegionBox put_region L → (t : ℕ) → t < 9 → (bit (cell_in put_after.relations k put_slot) t ≡ 1) ↔ RegionHas L Q t
        put_column L is t l = rw (put_cell k put_slot) (column_tile put_before put_slot put_region put_may.change.slot_in k h other put_may Q there L is t l)

-- ---- a removal
module _ (κs : _) (a : _) (r : Result (Unit {0}) Refusal) (e : _) (post : remove_reads.Post κs a r e) where
  abbrev remove_before : Sheet
  remove_before = sheet_of a.0.now a.1.0.now a.1.1.0.now

  abbrev remove_after : Sheet
  remove_after = sheet_of e.0.now e.1.0.now e.1.1.0.now

  abbrev remove_slot : ℕ
  remove_slot = a.1.1.1.0

  pub remove_means : (m : ℕ) → (number_in r ≡ m) ↔ RemoveSays remove_before remove_slot m
  remove_means m = rw post.0 (remove_says remove_before remove_slot m)

  pub remove_either : (number_in r ≡ 0) ⊎ (((number_in r ≡ 11) ⊎ ((number_in r ≡ 8) ⊎ (number_in r ≡ 12))) ⊎ (number_in r ≡ 9))
  remove_either = go ((remove_means (number_in r)).0 refl)
    where
      go : {m : ℕ} → RemoveSays remove_before remove_slot m → (m ≡ 0) ⊎ (((m ≡ 11) ⊎ ((m ≡ 8) ⊎ (m ≡ 12))) ⊎ (m ≡ 9))
      go (remove_done ok R there) = inl refl
      go (remove_refused u) = inr (inl (unchangeable_either remove_before remove_slot u))
      go (remove_empty ok none) = inr (inr refl)

  pub remove_kept : number_in r ≢ 0 → remove_after ≡ remove_before
  remove_kept some = post.1 ∙ sym (numbers.remove_refused remove_before remove_slot (λ z. some (post.0 ∙ z)))

  pub remove_touched : TouchesOnly remove_slot remove_before remove_after
  remove_touched = rw post.1 (remove_touches remove_before remove_slot)

  module _ (done : number_in r ≡ 0) where
    remove_zero : remove_number remove_before remove_slot ≡ 0
    remove_zero = sym post.0 ∙ done

    remove_may : Ready remove_before remove_slot nothing
    remove_may = remove_ready remove_before remove_slot remove_zero

    remove_written : remove_after ≡ with_parcel remove_before remove_slot nothing
    remove_written = post.1 ∙ sym (numbers.remove_done remove_before remove_slot remove_zero refl)

    pub remove_stands : (k : ℕ) → k < slots → parcel_at remove_after k ≡ instead (parcel_at remove_before) remove_slot nothing k
    remove_stands k h = ap (λ (s : Sheet). parcel_at s k) remove_written ∙ parcel_standing remove_before remove_slot nothing remove_may k h

    pub remove_cells : (k : ℕ) → k < slots → (cell_in remove_after.relations remove_slot k ≡ 0) × (cell_in remove_after.relations k remove_slot ≡ 0)
    remove_cells k h = (
      ap (λ (s : Sheet). cell_in s.relations remove_slot k) remove_written ∙ row_removed remove_before remove_slot remove_may.change.slot_in k h,
      ap (λ (s : Sheet). cell_in s.relations k remove_slot) remove_written ∙ column_removed remove_before remove_slot remove_may.change.slot_in k h,
    )

-- ---- a clearing
module _ (κs : _) (a : _) (r : Result (Unit {0}) Refusal) (e : _) (post : clear_reads.Post κs a r e) where
  abbrev clear_before : Sheet
  clear_before = sheet_of a.0.now a.1.0.now a.1.1.0.now

  abbrev clear_after : Sheet
  clear_after = sheet_of e.0.now e.1.0.now e.1.1.0.now

  pub clear_means : (m : ℕ) → (number_in r ≡ m) ↔ ClearSays clear_before m
  clear_means m = rw post.0 (clear_says clear_before m)

  pub clear_either : (number_in r ≡ 0) ⊎ (number_in r ≡ 11)
  clear_either = go ((clear_means (number_in r)).0 refl)
    where
      go : {m : ℕ} → ClearSays clear_before m → (m ≡ 0) ⊎ (m ≡ 11)
      go (clear_done right) = inl refl
      go (clear_refused wrong) = inr refl

  pub clear_kept : number_in r ≢ 0 → clear_after ≡ clear_before
  unfolding clear
  clear_kept some = post.1 ∙ simp (ne_eqb (clear_number clear_before) 0 (λ z. some (post.0 ∙ z)))

  pub clear_blank : number_in r ≡ 0 → clear_after ≡ blank
  unfolding clear
  clear_blank done = post.1 ∙ simp (eq-eqb (clear_number clear_before) 0 (sym post.0 ∙ done))
