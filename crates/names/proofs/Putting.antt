-- A text that is put into a buffer, at once or piece by piece.
--   put_none, put_one       nothing, and one byte
--   put_then                a text behind a text;  put_as  a text under another name
--   room_first, room_next   where the whole has room, so has the first text, and the next behind it
--   put_wrote               what the crate words writes where there is room
--   put_whole               a text from the front of the buffer: behind it stand the bytes that were there
use mathlib.Core.Path.{◌≡◌, refl, sym, ◌∙◌, ap}
use mathlib.Core.List.{List, [], ◌∷◌, ◌++◌}
use Prim.Native.Nat.{ℕ, zero, suc, ◌+◌, ◌≤◌}
use native.Mathlib.Omega.{arith}
use lib.ListN.{length, set, drop, take, length-append}
use lib.Seq.{paste, take_all}
use borrow.Author.Tests.{le-leb}
use Rattle.words.specs.Texts.{Wrote}
use Rattle.endian.specs.Placed.{placed}
use Rattle.endian.proofs.Placed.{length_placed, placed_append, placed_whole}
use Rattle.names.specs.Steps.{Put}

pub put_none : (b : List ℕ) (at : ℕ) → Put b at [] at b
unfolding placed
put_none b at = record { place = omega arith; buffer = refl }

pub put_one : (b : List ℕ) (at x : ℕ) → Put b at (x ∷ []) (at + 1) (set b at x)
unfolding placed
put_one b at x = record { place = omega arith; buffer = refl }

pub put_as : {b c t u : List ℕ} {at r : ℕ} → t ≡ u → Put b at t r c → Put b at u r c
put_as {b} {c} {t} {u} {at} {r} e p =
    record { place = p.place ∙ ap (λ (l : List ℕ). at + length l) e; buffer = p.buffer ∙ ap (placed b at) e }

module _ {b c : List ℕ} {at r : ℕ} (t u : List ℕ) (p : Put b at t r c) where
  pub put_then : {s : ℕ} {d : List ℕ} → Put c r u s d → Put b at (t ++ u) s d
  put_then {s} {d} q =
      record {
        place = omega (arith, p.place, q.place, length-append t u);
        buffer = q.buffer ∙ ap (λ (l : List ℕ). placed l r u) p.buffer ∙ ap (λ (z : ℕ). placed (placed b at t) z u) p.place ∙ sym (placed_append b at t u);
      }

  pub room_next : at + length (t ++ u) ≤ length b → r + length u ≤ length c
  room_next h = omega (arith, p.place, length-append t u, ap length p.buffer ∙ length_placed b at t)

pub room_first : (at n : ℕ) (t u : List ℕ) → at + length (t ++ u) ≤ n → at + length t ≤ n
room_first at n t u h = omega (arith, length-append t u)

-- ---- the crate words
behind : (x : ℕ) (b : List ℕ) (at : ℕ) (l : List ℕ) → placed (x ∷ b) (suc at) l ≡ x ∷ placed b at l
unfolding placed
behind x b at [] = refl
behind x b at (y ∷ l) = behind x (set b at y) (suc at) l

pasted : (b : List ℕ) (at : ℕ) (l : List ℕ) → at + length l ≤ length b → paste b at l (length l) ≡ placed b at l
pasted b zero l h = both (take_all (length l) l (omega arith)) (zero_plus (length l)) ∙ sym (placed_whole b l (omega arith))
  where
    zero_plus : (n : ℕ) → zero + n ≡ n
    zero_plus n = omega arith

    both : {m : List ℕ} {n k : ℕ} → take (length l) l ≡ m → n ≡ k → take (length l) l ++ drop n b ≡ m ++ drop k b
    both e f = λ i. e i ++ drop (f i) b
pasted [] (suc at) l h = absurd (omega arith)
pasted (x ∷ b) (suc at) l h =
    ap (λ (n : ℕ). (x ∷ (take at b ++ take (length l) l)) ++ drop n (x ∷ b)) (suc_plus at (length l))
    ∙ ap (λ (m : List ℕ). x ∷ m) (pasted b at l (omega arith)) ∙ sym (behind x b at l)
  where
    suc_plus : (a n : ℕ) → suc a + n ≡ suc (a + n)
    suc_plus a n = omega arith

pub put_wrote : {b c t : List ℕ} {at r : ℕ} → at + length t ≤ length b → Wrote b at t r c → Put b at t r c
put_wrote {b} {c} {t} {at} {r} h w =
    record { place = w.place ∙ rw (le-leb _ _ h) refl; buffer = w.buffer ∙ rw (le-leb _ _ h) (pasted b at t h) }

pub put_whole : {b c t : List ℕ} {r : ℕ} → length t ≤ length b → Put b 0 t r c → (r ≡ length t) × (c ≡ t ++ drop (length t) b)
put_whole {b} {c} {t} {r} h p = (omega (arith, p.place), p.buffer ∙ placed_whole b t h)
