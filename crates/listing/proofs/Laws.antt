-- What the program's reading rests on.
--   long_refused     an input of more bytes than a card can have is refused by its length
--   listing_cut      so an input and its first 17,037 bytes have the same list
--   listing_read     so what was read has the list of the whole input, where it was read to its end or is as long as the buffer
use mathlib.Core.Path.{◌≡◌, refl, sym, ap, ◌∙◌}
use mathlib.Core.Bool.{Bool, true, false}
use mathlib.Core.List.{List}
use Prim.Native.Nat.{ℕ, ◌<◌}
use native.Mathlib.Omega.{arith}
use native.Mathlib.Decide.{dec_lt}
use lib.ListN.{length, take}
use Rattle.std.specs.Prelude.{Option, None, Some, IfSome, ◌≤◌, ◌++◌}
use Rattle.std.specs.Io.KnownBytes.{Consumes, IsAtEnd}
use lib.Seq.{take_all, length-take-le}
use Rattle.std.proofs.lemmas.List.{append-nil}
use Rattle.std.proofs.Math.Seq.{take-append_seam}
use Rattle.card.specs.CardNumber.{wrong_header, card_number}
use Rattle.card.proofs.Tests.{header_means}
use Rattle.card.proofs.Good.{card_header_wrong}
use Rattle.lines.specs.Listing.{listing}

pub long_refused : (b : List ℕ) → 17036 < length b → card_number b ≡ 14
long_refused b l = sym (card_header_wrong b (go (wrong_header b) refl))
  where
    go : (t : Bool) → wrong_header b ≡ t → wrong_header b ≡ true
    go true e = e
    go false e = let h = header_means b e in absurd (omega (arith, h.few_parcels, h.few_rings, h.few_vertices, h.total))

same : (c d : List ℕ) → card_number c ≡ 14 → card_number d ≡ 14 → listing c ≡ listing d
unfolding listing
same c d e f = rw (e, f) refl

pub listing_cut : (b : List ℕ) → listing (take 17037 b) ≡ listing b
listing_cut b =
    elim (dec_lt 17037 (length b)) [
      | yes l ↦ same (take 17037 b) b (long_refused (take 17037 b) (omega (arith, length-take-le 17037 b (omega arith)))) (long_refused b (omega arith))
      | no h ↦ ap listing (take_all 17037 b (omega arith))
    ]

pub listing_read : (old new : Option (List ℕ)) (card : List ℕ) (count : ℕ) → length card ≡ 17037 → count ≤ length card → Consumes old new (take count card) → (count < length card → IsAtEnd new) → IfSome old (λ input. listing (take count card) ≡ listing input)
listing_read None new card count size h read end = tt
listing_read (Some input) None card count size h read end = absurd read
listing_read (Some input) (Some rest) card count size h read end =
    elim (dec_lt count (length card)) [
      | yes l ↦ ap listing (sym (read ∙ ap (λ r. take count card ++ r) (end l) ∙ append-nil (take count card)))
      | no m ↦
          let full : length (take count card) ≡ 17037 = omega (arith, length-take-le count card h) in
          ap listing (sym (ap (take 17037) read ∙ ap (λ n. take n (take count card ++ rest)) (sym full) ∙ take-append_seam (take count card) rest)) ∙ listing_cut input
    ]
