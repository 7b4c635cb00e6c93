-- How long a card is, part by part, and that it hangs on the slots alone.
--   entries_length, ends_length, vertices_length     the three parts of a card, as far as the slots below n
--   written_length              the length of a card, by what stands
--   card_same                   parcels that are the same in every slot have the same card
use mathlib.Core.Path.{◌≡◌, refl, ◌∙◌, ap}
use mathlib.Core.Bool.{Bool, true, false}
use mathlib.Core.List.{◌++◌}
use Prim.Native.Nat.{ℕ, zero, suc, ◌*◌, ◌<◌}
use native.Mathlib.Omega.{arith}
use lib.ListN.{length, get_or, length-append}
use lib.IntN.{pos}
use Rattle.plane.specs.Folds.{sum_to}
use Rattle.plane.specs.TileSet.{one_if}
use Rattle.plane.proofs.Folds.{sum_same}
use Rattle.region.specs.Region.{Parcel, last_end}
use Rattle.layout.specs.Sheet.{slots}
use Rattle.layout.specs.Standing.{occupied, end_list, coordinate_list, parcels_below, rings_below, vertices_below}
use Rattle.endian.specs.Bytes.{u16_bytes, i32_bytes}
use Rattle.endian.specs.Placed.{word_bytes, number_bytes}
use Rattle.endian.proofs.Joined.{length_joined, joined_same}
use Rattle.endian.proofs.Placed.{length_same}
use Rattle.card.specs.Layout.{length_of}
use Rattle.writing.specs.Write.{header_of, entry_bytes, entry_part, end_part, vertex_part, card_of}

-- a sum of multiples
sum_times : (c : ℕ) (f g : ℕ → ℕ) (n : ℕ) → ((i : ℕ) → i < n → f i ≡ c * g i) → sum_to f n ≡ c * sum_to g n
unfolding sum_to
sum_times c f g zero h = omega arith
sum_times c f g (suc n) h = omega (arith, sum_times c f g n (λ i l. h i (omega arith)), h n (omega arith))

entry_length : (i : ℕ) (there : Bool) (n : ℕ) → length (entry_bytes i there n) ≡ 4 * one_if there
entry_length i true n = refl
entry_length i false n = refl

module _ (st : ℕ → Parcel) where
  pub entries_length : (n : ℕ) → length (entry_part st n) ≡ 4 * parcels_below st n
  unfolding parcels_below
  entries_length n = length_joined _ n ∙ sum_times 4 _ _ n (λ i l. entry_length i (occupied (st i)) (length (end_list (st i))))

  pub ends_length : (n : ℕ) → length (end_part st n) ≡ 2 * rings_below st n
  unfolding rings_below
  ends_length n = length_joined _ n ∙ sum_times 2 _ _ n (λ i l. length_same (λ r. u16_bytes (get_or (end_list (st i)) r 0)) 2 (λ r. refl) (length (end_list (st i))))

  pub vertices_length : (n : ℕ) → length (vertex_part st n) ≡ 8 * vertices_below st n
  unfolding vertices_below
  vertices_length n =
      length_joined _ n
      ∙ sum_times 8 _ _ n (λ i l. omega (arith, length_same (λ k. i32_bytes (get_or (coordinate_list (st i)) k (pos 0))) 4 (λ k. refl) (2 * last_end (end_list (st i)))))

  pub written_length : length (card_of st) ≡ length_of (parcels_below st slots) (rings_below st slots) (vertices_below st slots)
  unfolding card_of
  written_length =
      omega (
        arith,
        entries_length slots,
        ends_length slots,
        vertices_length slots,
        length_same (λ k. u16_bytes (get_or (header_of (parcels_below st slots) (rings_below st slots) (vertices_below st slots)) k 0)) 2 (λ k. refl) 6,
        length-append (end_part st slots) (vertex_part st slots),
        length-append (entry_part st slots) (end_part st slots ++ vertex_part st slots),
        length-append (word_bytes (header_of (parcels_below st slots) (rings_below st slots) (vertices_below st slots)) 6) (entry_part st slots ++ (end_part st slots ++ vertex_part st slots)),
      )

-- ---- a card hangs on what stands in the slots alone
pub card_same : (st su : ℕ → Parcel) → ((i : ℕ) → i < slots → st i ≡ su i) → card_of st ≡ card_of su
unfolding card_of parcels_below rings_below vertices_below
card_same st su h =
    let p = sum_same (λ i. one_if (occupied (st i))) (λ i. one_if (occupied (su i))) slots (λ i l. ap (λ (q : Parcel). one_if (occupied q)) (h i l)) in
    let r = sum_same (λ i. length (end_list (st i))) (λ i. length (end_list (su i))) slots (λ i l. ap (λ (q : Parcel). length (end_list q)) (h i l)) in
    let v = sum_same (λ i. last_end (end_list (st i))) (λ i. last_end (end_list (su i))) slots (λ i l. ap (λ (q : Parcel). last_end (end_list q)) (h i l)) in
    let e = joined_same _ _ slots (λ i l. ap (λ (q : Parcel). entry_bytes i (occupied q) (length (end_list q))) (h i l)) in
    let n = joined_same _ _ slots (λ i l. ap (λ (q : Parcel). word_bytes (end_list q) (length (end_list q))) (h i l)) in
    let x = joined_same _ _ slots (λ i l. ap (λ (q : Parcel). number_bytes (coordinate_list q) (2 * last_end (end_list q))) (h i l)) in
    λ d. word_bytes (header_of (p d) (r d) (v d)) 6 ++ (e d ++ (n d ++ x d))
