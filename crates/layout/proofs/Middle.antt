-- A part of a list that is written over, and the writing of a whole block in two parts: what is at hand from the front, and one value after it.
--   middle_length, middle_before, middle_in, middle_behind    the list after it: its length, and what stands before the part, in it and behind it
--   block_stored    a list that differs in one block only is what stores over that block leave
--   two_length ..   the same where a second part, right behind the first, is written over after it
--   room_written    a list from the front of a block, and one value to its end
--   record_written  a count, a list behind it, and zeros to the block's end
use mathlib.Core.Path.{◌≡◌, sym, ap, ◌∙◌}
use mathlib.Core.List.{List}
use Prim.Native.Nat.{ℕ, zero, suc, ◌+◌, ◌-◌, ◌<◌, ◌≤◌}
use native.Mathlib.Omega.{arith}
use native.Mathlib.Decide.{dec_lt}
use lib.ListN.{length, take, drop, get_or, set, length-set, length-replicate, replicate, get_or-replicate, get_or-eq_default}
use lib.Seq.{ext_get_or, get_or-set_same, get_or-set_other}
use borrow.Rule.Slice.PartMut.{put_mid}
use Rattle.std.proofs.lemmas.List.{places}
use Rattle.plane.specs.Lists.{stores}
use Rattle.layout.specs.Layout.{record_number}
use Rattle.plane.proofs.Lists.{length_stores, stores_at, stores_other}
use Rattle.layout.proofs.Blocks.{part_length}

module _ {A : Type 0} (a k : ℕ) (xs ys : List A) (within : a + k ≤ length xs) (size : length ys ≡ k) where
  pub middle_length : length (put_mid a k xs ys) ≡ length xs
  middle_length = grind (arith, places)

  pub middle_before : (d : A) (j : ℕ) → j < a → get_or (put_mid a k xs ys) j d ≡ get_or xs j d
  middle_before d j h = grind (arith, places)

  pub middle_in : (d : A) (j i : ℕ) → j ≡ a + i → i < k → get_or (put_mid a k xs ys) j d ≡ get_or ys i d
  middle_in d j i e h = grind (arith, places)

  pub middle_behind : (d : A) (j : ℕ) → a + k ≤ j → get_or (put_mid a k xs ys) j d ≡ get_or xs j d
  middle_behind d j h = grind (arith, places)

module _ {A : Type 0} (d : A) (a n : ℕ) (f : ℕ → A) (l m : List A) where
  pub block_stored : length m ≡ length l → a + n ≤ length l
      → ((j i : ℕ) → j ≡ a + i → i < n → get_or m j d ≡ f i)
      → ((j : ℕ) → j < a → get_or m j d ≡ get_or l j d)
      → ((j : ℕ) → a + n ≤ j → get_or m j d ≡ get_or l j d)
      → m ≡ stores (λ k. a + k) f n l
  block_stored e h inside before behind = ext_get_or d m (stores place f n l) (e ∙ sym (length_stores place f n l)) each
    where
      place : ℕ → ℕ
      place k = a + k

      each : (j : ℕ) → j < length m → get_or m j d ≡ get_or (stores place f n l) j d
      each j b =
          elim (dec_lt j a) [
            | yes p ↦ before j p ∙ sym (stores_other place f d n j l (λ k q z. omega arith))
            | no p ↦ elim (dec_lt j (a + n)) [
              | yes q ↦ (
                  let z : j ≡ a + (j - a) = omega arith in
                  let s : get_or (stores place f n l) (place (j - a)) d ≡ f (j - a) = stores_at place f d n (j - a) l (omega arith) (omega arith) (λ m x y w. omega arith) in
                  inside j (j - a) z (omega arith) ∙ sym s ∙ ap (λ (i : ℕ). get_or (stores place f n l) i d) (sym z))
              | no q ↦ behind j (omega arith) ∙ sym (stores_other place f d n j l (λ k r z. omega arith))
            ]
          ]

module _ {A : Type 0} (a b p q : ℕ) (xs ys zs : List A) (meets : b ≡ a + p) (within : b + q ≤ length xs) (size : length ys ≡ p) (rest : length zs ≡ q) where
  abbrev first : List A
  first = put_mid a p xs ys

  long : length first ≡ length xs
  long = middle_length a p xs ys (omega arith) size

  inside : b + q ≤ length first
  inside = omega (arith, long)

  pub two_length : length (put_mid b q first zs) ≡ length xs
  two_length = middle_length b q first zs inside rest ∙ long

  pub two_before : (d : A) (j : ℕ) → j < a → get_or (put_mid b q first zs) j d ≡ get_or xs j d
  two_before d j h = middle_before b q first zs inside rest d j (omega arith) ∙ middle_before a p xs ys (omega arith) size d j h

  pub two_first : (d : A) (j i : ℕ) → j ≡ a + i → i < p → get_or (put_mid b q first zs) j d ≡ get_or ys i d
  two_first d j i e h = middle_before b q first zs inside rest d j (omega arith) ∙ middle_in a p xs ys (omega arith) size d j i e h

  pub two_second : (d : A) (j i : ℕ) → j ≡ b + i → i < q → get_or (put_mid b q first zs) j d ≡ get_or zs i d
  two_second d j i e h = middle_in b q first zs inside rest d j i e h

  pub two_behind : (d : A) (j : ℕ) → b + q ≤ j → get_or (put_mid b q first zs) j d ≡ get_or xs j d
  two_behind d j h = middle_behind b q first zs inside rest d j h ∙ middle_behind a p xs ys (omega arith) size d j (omega arith)

pub room_written : {A : Type 0} (d : A) (a b p q n : ℕ) (xs o ys zs : List A) → b ≡ a + p → p + q ≡ n → a + n ≤ length xs → length o ≡ p → ys ≡ o
    → zs ≡ replicate (length (take q (drop b (put_mid a p xs ys)))) d → put_mid b q (put_mid a p xs ys) zs ≡ stores (λ k. a + k) (λ k. get_or o k d) n xs
room_written {A} d a b p q n xs o ys zs e whole within short at filled =
    block_stored d a n (λ k. get_or o k d) xs (put_mid b q (put_mid a p xs ys) zs)
    (two_length a b p q xs ys zs e (omega arith) size fill)
    within
    (λ j i z h. elim (dec_lt i p) [
      | yes m ↦ two_first a b p q xs ys zs e (omega arith) size fill d j i z m ∙ ap (λ (l : List A). get_or l i d) at
      | no m ↦ two_second a b p q xs ys zs e (omega arith) size fill d j (i - p) (omega arith) (omega arith)
          ∙ ap (λ (l : List A). get_or l (i - p) d) rest ∙ get_or-replicate q (i - p) d d (omega arith)
          ∙ sym (get_or-eq_default o d (omega arith))
    ])
    (λ j h. two_before a b p q xs ys zs e (omega arith) size fill d j h)
    (λ j h. two_behind a b p q xs ys zs e (omega arith) size fill d j (omega arith))
  where
    size : length ys ≡ p
    size = ap length at ∙ short

    rest : zs ≡ replicate q d
    rest = filled ∙ ap (λ (k : ℕ). replicate k d) (part_length b q (put_mid a p xs ys) (omega (arith, middle_length a p xs ys (omega arith) size)))

    fill : length zs ≡ q
    fill = ap length rest ∙ length-replicate q d

pub record_written : (at a b p q n : ℕ) (l ends ys zs : List ℕ) → a ≡ at + 1 → b ≡ a + p → 1 + p + q ≡ n → at + n ≤ length l → length ends ≡ p → ys ≡ ends
    → zs ≡ replicate (length (take q (drop b (put_mid a p (set l at (length ends)) ys)))) 0 → put_mid b q (put_mid a p (set l at (length ends)) ys) zs ≡ stores (λ k. at + k) (record_number ends) n l
record_written at a b p q n l ends ys zs s e whole within short front filled =
    block_stored 0 at n (record_number ends) l (put_mid b q (put_mid a p counted ys) zs)
    (two_length a b p q counted ys zs e room size fill ∙ length-set l at (length ends))
    within
    inner
    (λ j h. two_before a b p q counted ys zs e room size fill 0 j (omega arith) ∙ get_or-set_other l at j (length ends) 0 (λ z. omega arith))
    (λ j h. two_behind a b p q counted ys zs e room size fill 0 j (omega arith) ∙ get_or-set_other l at j (length ends) 0 (λ z. omega arith))
  where
    counted : List ℕ
    counted = set l at (length ends)

    room : b + q ≤ length counted
    room = omega (arith, length-set l at (length ends))

    size : length ys ≡ p
    size = ap length front ∙ short

    rest : zs ≡ replicate q 0
    rest = filled ∙ ap (λ (k : ℕ). replicate k 0) (part_length b q (put_mid a p counted ys) (omega (arith, room, middle_length a p counted ys (omega (arith, room)) size)))

    fill : length zs ≡ q
    fill = ap length rest ∙ length-replicate q 0

    inner : (j i : ℕ) → j ≡ at + i → i < n → get_or (put_mid b q (put_mid a p counted ys) zs) j 0 ≡ record_number ends i
    inner j zero z h =
        two_before a b p q counted ys zs e room size fill 0 j (omega arith)
        ∙ (let m : j ≡ at = omega arith in ap (λ (k : ℕ). get_or counted k 0) m) ∙ get_or-set_same l at (length ends) 0 (omega arith)
    inner j (suc i) z h =
        elim (dec_lt i p) [
          | yes m ↦ two_first a b p q counted ys zs e room size fill 0 j i (omega arith) m ∙ ap (λ (k : List ℕ). get_or k i 0) front
          | no m ↦ two_second a b p q counted ys zs e room size fill 0 j (i - p) (omega arith) (omega arith)
              ∙ ap (λ (k : List ℕ). get_or k (i - p) 0) rest ∙ get_or-replicate q (i - p) 0 0 (omega arith)
              ∙ sym (get_or-eq_default ends 0 (omega arith))
        ]
