use mathlib.Core.Path.{◌≡◌, sym, ap, ap₂, ◌∙◌}
use Prim.Native.Nat.{ℕ, ◌≤◌}
use native.Mathlib.Omega.{arith}
use lib.ListN.{length}
use Rattle.std.proofs.lemmas.Result.{err_from_is_err_and}
use Rattle.region.specs.Region.{Parcel}
use Rattle.region.proofs.OrElse.{number_some}
use Rattle.layout.specs.Sheet.{Sheet, sheet_of}
use Rattle.layout.specs.Slots.{in_slot, parcel_at}
use Rattle.layout.specs.Changes.{whole_number}
use Rattle.endian.specs.Placed.{placed}
use Rattle.card.specs.Layout.{most_card_parcels, most_card_rings, most_card_vertices, length_of}
use Rattle.writing.specs.declared.Totals.{Totals}
use Rattle.writing.specs.Write.{card_of}
use Rattle.writing.proofs.WholeCard.{totals_le, card_size, write_refused, write_short, write_done}
use Rattle.writing.proofs.write.Goals as goal
use Rattle.writing.proofs.write.Goals.{After-count_all-t}

pub returns-in_err-standing : goal.returns-in_err-standing
returns-in_err-standing c =
    let a = c.args in
    let p = err_from_is_err_and c.from_residual.result c.from_residual.ensures.1 in
    let w = write_refused (sheet_of a.xs.now a.records.now a.relations.now) a.buffer.now c.in_err-standing.ensures.refusal (number_some c.in_err-standing.field-0.0) in
    record { value = rw (p.1, p.2) w.0; buffer_after = w.1 }

-- what stands is what the lent lists say, and the length that is computed is that of its card
module _ (c : After-count_all-t) where
  abbrev sheet : Sheet
  sheet =
      let a = c.args in
      sheet_of a.xs.now a.records.now a.relations.now

  abbrev st : ℕ → Parcel
  st =
      let s = c.in_ok-standing.standing in
      in_slot s.xs.now s.records.now

  stands : st ≡ parcel_at sheet
  stands = ap₂ in_slot c.in_ok-standing.ensures.standing.0 c.in_ok-standing.ensures.standing.1

  accepted : whole_number sheet ≡ 0
  accepted = sym c.in_ok-standing.ensures.refusal

  abbrev total : Totals
  total = c.count_all-t.result

  own_size : length_of total.parcels total.rings total.vertices ≡ length (card_of st)
  own_size = card_size _ _ c.in_ok-standing.standing.whole total c.count_all-t.ensures

  size : length_of total.parcels total.rings total.vertices ≡ length (card_of (parcel_at sheet))
  size = own_size ∙ ap (λ (p : ℕ → Parcel). length (card_of p)) stands

  small : length_of total.parcels total.rings total.vertices ≤ length_of most_card_parcels most_card_rings most_card_vertices
  small =
      let le = totals_le _ _ c.in_ok-standing.standing.whole total c.count_all-t.ensures in
      omega (arith, le.0, le.1, le.2)

pub overflow_mul-length : goal.overflow_mul-length
overflow_mul-length c = record { fits = omega (arith, small (goal.at.overflow_mul-length c).After-count_all-t) }

pub overflow_add-length : goal.overflow_add-length
overflow_add-length c = record { fits = omega (arith, small (goal.at.overflow_add-length c).After-count_all-t) }

pub overflow_mul-length-2 : goal.overflow_mul-length-2
overflow_mul-length-2 c = record { fits = omega (arith, small (goal.at.overflow_mul-length-2 c).After-count_all-t) }

pub overflow_add-length-2 : goal.overflow_add-length-2
overflow_add-length-2 c = record { fits = omega (arith, small (goal.at.overflow_add-length-2 c).After-count_all-t) }

pub overflow_mul-length-3 : goal.overflow_mul-length-3
overflow_mul-length-3 c = record { fits = omega (arith, small (goal.at.overflow_mul-length-3 c).After-count_all-t) }

pub overflow_add-length-3 : goal.overflow_add-length-3
overflow_add-length-3 c = record { fits = omega (arith, small (goal.at.overflow_add-length-3 c).After-count_all-t) }

pub returns-then-buffer-length : goal.returns-then-buffer-length
returns-then-buffer-length c =
    let t = (goal.at.returns-then-buffer-length c).After-count_all-t in
    let w = write_short (sheet t) c.args.buffer.now (accepted t) (size t) c.if-buffer-length.true in
    record { value = w.0; buffer_after = w.1 }

pub put_card-requires : goal.put_card-requires
put_card-requires c =
    let t = (goal.at.put_card-requires c).After-count_all-t in
    (c.count_all-t.ensures, omega (arith, own_size t, c.if-buffer-length.false))

pub returns : goal.returns
returns c =
    let t = (goal.at.returns c).After-count_all-t in
    let w = write_done (sheet t) c.args.buffer.now (accepted t) (size t) c.if-buffer-length.false
    (c.put_card.ensures ∙ ap (λ (p : ℕ → Parcel). placed c.args.buffer.now 0 (card_of p)) (stands t)) in
    record { value = w.0; buffer_after = w.1 }
