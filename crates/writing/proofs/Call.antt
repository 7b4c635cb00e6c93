-- What writing a card answers and leaves, from the call's own contract (`Post`, which the checker generates from the source).
--   write_means      its number is n exactly when case n of specs/Says holds;  write_either  so 0, 11, 12 or 10, and no other
--   write_kept       beside a number that is not 0 the length is 0 and the buffer is as it was found
--   write_length     where the number is 0, the length is that of the card of what stands
--   write_bytes      and the first so many bytes of the buffer are that card;  write_behind  the bytes behind it are as they were found
use mathlib.Core.Path.{◌≡◌, refl, sym, ◌∙◌, ap}
use mathlib.Core.Logic.{◌↔◌, ◌⊎◌, ◌≢◌, inl, inr}
use mathlib.Core.List.{List, ◌++◌}
use Prim.Native.Nat.{ℕ, ◌+◌, ◌-◌, ◌≤◌}
use native.Mathlib.Omega.{arith}
use lib.ListN.{length, get_or, take, drop}
use lib.Seq.{take-append_seam, get_or-append-add, get_or-drop}
use borrow.Author.Tests.{eq-eqb, ne_eqb}
use Rattle.std.specs.Prelude.{Result}
use Rattle.region.specs.declared.refusals.Refusal.{Refusal}
use Rattle.layout.specs.Sheet.{Sheet, sheet_of}
use Rattle.layout.specs.Slots.{parcel_at}
use Rattle.writing.specs.Write.{Written, written_in, card_of, write_number, written, write}
use Rattle.writing.specs.Says.{WriteSays, write_done, write_lists, write_damage, write_short}
use Rattle.writing.proofs.Says.{write_says}
use Rattle.writing.proofs.write.Reads as write_reads

-- what stands behind the list that was written
behind : (l m : List ℕ) (j : ℕ) → length l ≤ j → get_or (l ++ drop (length l) m) j 0 ≡ get_or m j 0
behind l m j past =
    let q : length l + (j - length l) ≡ j = omega arith in
    ap (λ (k : ℕ). get_or (l ++ drop (length l) m) k 0) (sym q) ∙ get_or-append-add l (drop (length l) m) (j - length l) 0 ∙ get_or-drop (length l) m (j - length l) 0
    ∙ ap (λ (k : ℕ). get_or m k 0) q

module _ (κs : _) (a : _) (answer : Result ℕ Refusal) (e : _) (post : write_reads.Post κs a answer e) where
  abbrev r : Written
  r = written_in answer

  abbrev write_sheet : Sheet
  write_sheet = sheet_of a.0.now a.1.0.now a.1.1.0.now

  abbrev buffer : List ℕ
  buffer = a.1.1.1.0.now

  abbrev buffer_after : List ℕ
  buffer_after = e.1.1.1.0.now

  abbrev card : List ℕ
  card = card_of (parcel_at write_sheet)

  write_number_lem : r.number ≡ write_number write_sheet buffer
  unfolding written
  write_number_lem = ap (λ (w : Written). w.number) post.0

  pub write_means : (m : ℕ) → (r.number ≡ m) ↔ WriteSays write_sheet buffer m
  write_means m = rw write_number_lem (write_says write_sheet buffer m)

  pub write_either : (r.number ≡ 0) ⊎ ((r.number ≡ 11) ⊎ ((r.number ≡ 12) ⊎ (r.number ≡ 10)))
  write_either = go ((write_means r.number).0 refl)
    where
      go : {m : ℕ} → WriteSays write_sheet buffer m → (m ≡ 0) ⊎ ((m ≡ 11) ⊎ ((m ≡ 12) ⊎ (m ≡ 10)))
      go (write_done right whole room) = inl refl
      go (write_lists w) = inr (inl refl)
      go (write_damage right hurt) = inr (inr (inl refl))
      go (write_short right whole l) = inr (inr (inr refl))

  pub write_kept : r.number ≢ 0 → (r.length ≡ 0) × (buffer_after ≡ buffer)
  unfolding written write
  write_kept some =
      let f = ne_eqb (write_number write_sheet buffer) 0 (λ z. some (write_number_lem ∙ z)) in
      (ap (λ (w : Written). w.length) post.0 ∙ simp f, post.1 ∙ simp f)

  module _ (done : r.number ≡ 0) where
    pub write_length : r.length ≡ length card
    unfolding written
    write_length = ap (λ (w : Written). w.length) post.0 ∙ simp (eq-eqb (write_number write_sheet buffer) 0 (sym write_number_lem ∙ done))

    written_is : buffer_after ≡ card ++ drop (length card) buffer
    unfolding write
    written_is = post.1 ∙ simp (eq-eqb (write_number write_sheet buffer) 0 (sym write_number_lem ∙ done))

    pub write_bytes : take r.length buffer_after ≡ card
    write_bytes = rw (write_length, written_is) (take-append_seam card (drop (length card) buffer))

    pub write_behind : (j : ℕ) → r.length ≤ j → get_or buffer_after j 0 ≡ get_or buffer j 0
    write_behind j past = ap (λ (l : List ℕ). get_or l j 0) written_is ∙ behind card buffer j (rw write_length at past)
