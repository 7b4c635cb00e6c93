-- A card, written part after part, and the call that writes it.
--   totals_le       the totals are those that a header may count
--   card_size       the card's length, by the totals;  card_room  and by its parts
--   card_steps      the header, the entries, the ring ends and the vertices, stored one after the other: the card
--   written_only    two results that say the same are the same
--   write_refused, write_short, write_done     what writing answers, and the buffer at exit
use mathlib.Core.Path.{◌≡◌, refl, sym, ◌∙◌, ap}
use mathlib.Core.Logic.{◌≢◌}
use mathlib.Core.Bool.{Bool}
use mathlib.Core.List.{List, ◌++◌}
use Prim.Native.Nat.{ℕ, ◌+◌, ◌≤◌, ◌<◌}
use native.Mathlib.Omega.{arith}
use lib.Dec.{ltb}
use lib.IntN.{ℤ}
use lib.ListN.{length}
use borrow.Author.Tests.{lt-ltb, le-ltb, ne_eqb}
use Rattle.region.specs.Region.{Parcel}
use Rattle.std.specs.Prelude.{Result, Ok, Err}
use Rattle.region.specs.declared.refusals.Refusal.{Refusal}
use Rattle.region.specs.declared.refusals.Refusal.TheVariants.{BufferShort}
use Rattle.region.specs.Refusals.{number_if}
use Rattle.region.proofs.OrElse.{or_else_first, or_else_next, number_some}
use Rattle.region.proofs.Answers.{number_only}
use Rattle.layout.specs.Sheet.{Sheet, slots}
use Rattle.layout.specs.Standing.{StandTogether, parcels_below, rings_below, vertices_below}
use Rattle.layout.specs.Slots.{in_slot, parcel_at}
use Rattle.layout.specs.Changes.{whole_number}
use Rattle.layout.specs.Steps.{Whole}
use Rattle.layout.proofs.Standing.{parcels_fit, rings_fit, vertices_fit}
use Rattle.endian.specs.Bytes.{joined}
use Rattle.endian.specs.Placed.{placed, word_bytes}
use Rattle.endian.proofs.Placed.{placed_append, placed_whole}
use Rattle.card.specs.Layout.{most_card_parcels, most_card_rings, most_card_vertices, parcels_at, length_of}
use Rattle.writing.specs.declared.Totals.{Totals}
use Rattle.writing.specs.Write.{Written, written_in, header_of, entry_part, end_part, vertex_part, card_of, write_number, written, write}
use Rattle.writing.specs.Steps.{totals_of, entries_of, ends_of, vertices_of}
use Rattle.writing.proofs.Lengths.{entries_length, ends_length, vertices_length, written_length}
use Rattle.writing.proofs.Parts.{TotalsAre, totals_are, entries_are, ends_are, vertices_are}

module _ (xs : List ℤ) (records : List ℕ) (whole : Whole xs records) where
  abbrev st : ℕ → Parcel
  st = in_slot xs records

  stand : StandTogether 4 st
  stand = record { each = whole.keeps }

  module _ (t : Totals) (counted : t ≡ totals_of records) where
    are : TotalsAre xs records whole t
    are = totals_are xs records whole counted

    pub totals_le : (t.parcels ≤ most_card_parcels) × (t.rings ≤ most_card_rings) × (t.vertices ≤ most_card_vertices)
    totals_le = (
      omega (arith, are.parcels_are, parcels_fit st stand),
      omega (arith, are.rings_are, rings_fit st stand),
      omega (arith, are.vertices_are, vertices_fit st stand),
    )

    pub card_size : length_of t.parcels t.rings t.vertices ≡ length (card_of st)
    card_size = (λ d. length_of (are.parcels_are d) (are.rings_are d) (are.vertices_are d)) ∙ sym (written_length st)

    pub card_steps : (b : List ℕ) {b1 b2 b3 b4 : List ℕ} {r v : ℕ} → b1 ≡ placed b 0 (word_bytes (header_of t.parcels t.rings t.vertices) 6)
        → r ≡ parcels_at + length (entries_of records) → b2 ≡ placed b1 parcels_at (entries_of records)
        → v ≡ r + length (ends_of records) → b3 ≡ placed b2 r (ends_of records)
        → b4 ≡ placed b3 v (vertices_of xs records) → b4 ≡ placed b 0 (card_of st)
    unfolding card_of joined
    card_steps b {b1} {b2} {b3} {b4} {r} {v} e1 er e2 ev e3 e4 =
        let h = word_bytes (header_of (parcels_below st slots) (rings_below st slots) (vertices_below st slots)) 6 in
        let e = entry_part st slots in
        let n = end_part st slots in
        let x = vertex_part st slots in
        let q1 : b1 ≡ placed b 0 h = e1 ∙ λ d. placed b 0 (word_bytes (header_of (are.parcels_are d) (are.rings_are d) (are.vertices_are d)) 6) in
        let q2 : b2 ≡ placed (placed b 0 h) parcels_at e = e2 ∙ λ d. placed (q1 d) parcels_at (entries_are xs records whole d) in
        let qr : r ≡ parcels_at + length e = er ∙ λ d. parcels_at + length (entries_are xs records whole d) in
        let q3 : b3 ≡ placed (placed (placed b 0 h) parcels_at e) (parcels_at + length e) n = e3 ∙ λ d. placed (q2 d) (qr d) (ends_are xs records whole d) in
        let qv : v ≡ parcels_at + length e + length n = ev ∙ λ d. qr d + length (ends_are xs records whole d) in
        let q4 : b4 ≡ placed (placed (placed (placed b 0 h) parcels_at e) (parcels_at + length e) n) (parcels_at + length e + length n) x = e4 ∙ λ d. placed (q3 d) (qv d) (vertices_are xs records whole d) in
        q4 ∙ sym (placed_append (placed (placed b 0 h) parcels_at e) (parcels_at + length e) n x) ∙ sym (placed_append (placed b 0 h) parcels_at e (n ++ x)) ∙ sym (placed_append b 0 h (e ++ (n ++ x)))

  pub card_room : length (card_of st) ≡ parcels_at + length (entries_of records) + length (ends_of records) + length (vertices_of xs records)
  card_room =
      omega (
        arith,
        written_length st,
        entries_length st slots,
        ends_length st slots,
        vertices_length st slots,
        ap length (entries_are xs records whole),
        ap length (ends_are xs records whole),
        ap length (vertices_are xs records whole),
      )

-- ---- the call
-- two results that say the same are the same
pub written_only : (a b : Result ℕ Refusal) → written_in a ≡ written_in b → a ≡ b
written_only (Ok v) (Ok w) e = ap (λ (n : ℕ). Ok n) (ap (λ (x : Written). x.length) e)
written_only (Ok v) (Err k) e = absurd (number_some k (sym (ap (λ (x : Written). x.number) e)))
written_only (Err j) (Ok w) e = absurd (number_some j (ap (λ (x : Written). x.number) e))
written_only (Err j) (Err k) e = ap (λ (r : Refusal). Err r) (number_only j k (ap (λ (x : Written). x.number) e))

module _ (s : Sheet) (buffer : List ℕ) where
  abbrev answer : (number length : ℕ) → Written
  answer number length = record { number = number; length = length }

  abbrev size : ℕ
  size = length (card_of (parcel_at s))

  abbrev short : Bool
  short = ltb (length buffer) size

  refused : {n : ℕ} → n ≡ write_number s buffer → n ≢ 0 → (answer n 0 ≡ written s buffer) × (buffer ≡ write s buffer)
  unfolding written write
  refused {n} e z =
      let t = ne_eqb (write_number s buffer) 0 (λ q. z (e ∙ q)) in
      (rw t (ap (λ (m : ℕ). answer m 0) e), rw t refl)

  pub write_refused : {n : ℕ} → n ≡ whole_number s → n ≢ 0 → (answer n 0 ≡ written s buffer) × (buffer ≡ write s buffer)
  unfolding write_number
  write_refused {n} e z = refused (e ∙ sym (or_else_first (whole_number s) (number_if short BufferShort) (λ q. z (e ∙ q)))) z

  module _ (whole : whole_number s ≡ 0) where
    next : write_number s buffer ≡ number_if short BufferShort
    unfolding write_number
    next = or_else_next (whole_number s) (number_if short BufferShort) whole

    pub write_short : {n : ℕ} → n ≡ size → length buffer < n → (answer 10 0 ≡ written s buffer) × (buffer ≡ write s buffer)
    write_short e h = refused (sym (next ∙ rw (lt-ltb (length buffer) size (omega arith)) refl)) (λ q. omega arith)

    pub write_done : {n : ℕ} → n ≡ size → n ≤ length buffer → {b : List ℕ} → b ≡ placed buffer 0 (card_of (parcel_at s)) → (answer 0 n ≡ written s buffer) × (b ≡ write s buffer)
    unfolding written write
    write_done e h q =
        let z : write_number s buffer ≡ 0 = next ∙ rw (le-ltb (length buffer) size (omega arith)) refl in
        (rw z (ap (answer 0) e), rw z (q ∙ placed_whole buffer (card_of (parcel_at s)) (omega arith)))
