-- A set as a word.
--   set_bits_mean      bit t is among the set bits below k exactly when it is below k and set;  set_bits_rise  they do rise
--   names_are          the word of a set: the names of its set bits in rising order, with a colon between two
--   name_starts        no name is empty
--   names_start        the word is not empty where one of the nine bits is set;  some_bit  as it is in a number below 512 that is not 0
use mathlib.Core.Path.{◌≡◌, refl, sym, ◌∙◌, ap}
use mathlib.Core.Logic.{◌↔◌, ◌⊎◌, ◌≢◌, inl, inr, ⊎_elim}
use mathlib.Core.Bool.{Bool, true, false}
use mathlib.Core.List.{List, [], ◌∷◌, ◌++◌, map, append-nil, append_assoc}
use Prim.Native.Nat.{ℕ, zero, suc, ◌+◌, ◌-◌, ◌≤◌, ◌<◌}
use native.Mathlib.Omega.{arith}
use native.Mathlib.Decide.{dec_lt, ℕ_discrete}
use lib.Dec.{eqb}
use lib.ListN.{length, get_or, length-append, get_or-append}
use lib.Seq.{get_or-append-add, get_or-append_seam}
use borrow.Author.Tests.{eqb-true, eqb-false, eq-eqb}
use Rattle.plane.specs.Choice.{pick}
use Rattle.plane.specs.Folds.{any_to}
use Rattle.plane.specs.TileSet.{bit}
use Rattle.plane.proofs.Logic.{clash, is_false}
use Rattle.plane.proofs.Folds.{any_means}
use Rattle.plane.specs.Lists.{Among}
use Rattle.names.specs.Names.{N, S, W, E, colon, name_of, colon_after, names_to, names_of}
use Rattle.names.specs.Fields.{Starts, between, set_bits}

starts_append : (w v : List ℕ) → Starts w → Starts (w ++ v)
starts_append w v (x, rest, e) = (x, rest ++ v, rw e refl)

colon_after_some : (w : List ℕ) → Starts w → colon_after w ≡ colon ∷ []
colon_after_some w (x, rest, e) = rw e refl

-- ---- among two lists one behind the other
module _ (t : ℕ) (l m : List ℕ) where
  among_either : Among t (l ++ m) → Among t l ⊎ Among t m
  among_either (i, h, e) =
      elim (dec_lt i (length l)) [
        | yes b ↦ inl (i, b, sym (get_or-append l m 0 i b) ∙ e)
        | no b ↦
            let p : length l + (i - length l) ≡ i = omega arith in
            inr (i - length l, omega (arith, length-append l m, h), sym (get_or-append-add l m (i - length l) 0) ∙ ap (λ (n : ℕ). get_or (l ++ m) n 0) p ∙ e)
      ]

  among_left : Among t l → Among t (l ++ m)
  among_left (i, h, e) = (i, omega (arith, length-append l m, h), get_or-append l m 0 i h ∙ e)

  among_right : Among t m → Among t (l ++ m)
  among_right (i, h, e) = (length l + i, omega (arith, length-append l m, h), get_or-append-add l m i 0 ∙ e)

-- ---- words with colons
module _ (f : ℕ → List ℕ) where
  between_starts : (t : ℕ) (l : List ℕ) → Starts (f t) → Starts (between (map f (t ∷ l)))
  between_starts t [] s = s
  between_starts t (u ∷ l) s = starts_append (f t) _ s

  between_more : (l : List ℕ) (k : ℕ) → ((t : ℕ) → Among t l → Starts (f t))
      → between (map f (l ++ (k ∷ []))) ≡ between (map f l) ++ (colon_after (between (map f l)) ++ f k)
  between_more [] k all = refl
  between_more (t ∷ []) k all = ap (λ (c : List ℕ). f t ++ (c ++ f k)) (sym (colon_after_some (f t) (all t (0, omega arith, refl))))
  between_more (t ∷ (u ∷ l)) k all =
      let word = between (map f (u ∷ l)) in
      let start = all t (0, omega arith, refl) in
      let next = between_starts u l (all u (1, omega arith, refl)) in
      ap (λ (w : List ℕ). f t ++ (colon ∷ w)) (between_more (u ∷ l) k (λ v a. all v (suc a.0, omega (arith, a.1), a.2)))
      ∙ ap (λ (c : List ℕ). f t ++ (colon ∷ (word ++ (c ++ f k)))) (colon_after_some word next)
      ∙ sym (append_assoc (f t) (colon ∷ word) (colon ∷ f k))
      ∙ ap (λ (c : List ℕ). (f t ++ (colon ∷ word)) ++ (c ++ f k)) (sym (colon_after_some (f t ++ (colon ∷ word)) (starts_append (f t) _ start)))

-- ---- the set bits
module _ (s : ℕ) where
  bits_there : (k t : ℕ) → Among t (set_bits s k) → (t < k) × (bit s t ≡ 1)
  unfolding set_bits
  bits_there zero t (i, h, e) = absurd (omega arith)
  bits_there (suc k) t a = ⊎_elim (λ x. (let y = bits_there k t x in (omega (arith, y.0), y.1))) (go (eqb (bit s k) 1) refl) (among_either t (set_bits s k) _ a)
    where
      go : (c : Bool) → eqb (bit s k) 1 ≡ c → Among t (pick c (k ∷ []) []) → (t < suc k) × (bit s t ≡ 1)
      go true q (zero, h, e) = (omega arith, ap (bit s) (sym e) ∙ eqb-true (bit s k) 1 q)
      go true q (suc i, h, e) = absurd (omega arith)
      go false q (i, h, e) = absurd (omega arith)

  bits_back : (k t : ℕ) → t < k → bit s t ≡ 1 → Among t (set_bits s k)
  unfolding set_bits
  bits_back zero t h e = absurd (omega arith)
  bits_back (suc k) t h e =
      elim (ℕ_discrete t k) [
        | yes q ↦ among_right t (set_bits s k) _ (rw (eq-eqb (bit s k) 1 (ap (bit s) (sym q) ∙ e)) (0, omega arith, sym q))
        | no q ↦ among_left t (set_bits s k) _ (bits_back k t (omega arith) e)
      ]

  pub set_bits_mean : (k t : ℕ) → Among t (set_bits s k) ↔ ((t < k) × (bit s t ≡ 1))
  set_bits_mean k t = (bits_there k t, λ p. bits_back k t p.0 p.1)

  pub set_bits_rise : (k i j : ℕ) → i < j → j < length (set_bits s k) → get_or (set_bits s k) i 0 < get_or (set_bits s k) j 0
  unfolding set_bits
  set_bits_rise zero i j l h = absurd (omega arith)
  set_bits_rise (suc k) i j l h = go (eqb (bit s k) 1) (set_bits_rise k) h
    where
      bits : List ℕ
      bits = set_bits s k

      go : (c : Bool) → ((i j : ℕ) → i < j → j < length bits → get_or bits i 0 < get_or bits j 0)
          → j < length (bits ++ pick c (k ∷ []) []) → get_or (bits ++ pick c (k ∷ []) []) i 0 < get_or (bits ++ pick c (k ∷ []) []) j 0
      go false ih b = rw (append-nil bits) (ih i j l (rw (append-nil bits) at b))
      go true ih b =
          elim (dec_lt j (length bits)) [
            | yes q ↦
                omega (arith, ih i j l q, get_or-append bits (k ∷ []) 0 i (omega arith), get_or-append bits (k ∷ []) 0 j q)
            | no q ↦
                let last : j ≡ length bits = omega (arith, length-append bits (k ∷ []), b) in
                let at : get_or (bits ++ (k ∷ [])) j 0 ≡ k = ap (λ (n : ℕ). get_or (bits ++ (k ∷ [])) n 0) last ∙ get_or-append_seam bits k [] 0 in
                omega (arith, at, get_or-append bits (k ∷ []) 0 i (omega arith), (bits_there k (get_or bits i 0) (i, omega arith, refl)).0)
          ]

-- ---- the word of a set
pub name_starts : (middle t : ℕ) → t < 9 → Starts (name_of middle t)
name_starts middle zero h = (N, W ∷ [], refl)
name_starts middle (suc zero) h = (N, [], refl)
name_starts middle (suc (suc zero)) h = (N, E ∷ [], refl)
name_starts middle (suc (suc (suc zero))) h = (W, [], refl)
name_starts middle (suc (suc (suc (suc zero)))) h = (middle, [], refl)
name_starts middle (suc (suc (suc (suc (suc zero))))) h = (E, [], refl)
name_starts middle (suc (suc (suc (suc (suc (suc zero)))))) h = (S, W ∷ [], refl)
name_starts middle (suc (suc (suc (suc (suc (suc (suc zero))))))) h = (S, [], refl)
name_starts middle (suc (suc (suc (suc (suc (suc (suc (suc zero)))))))) h = (S, E ∷ [], refl)
name_starts middle (suc (suc (suc (suc (suc (suc (suc (suc (suc t))))))))) h = absurd (omega arith)

module _ (middle s : ℕ) where
  names_to_are : (k : ℕ) → k ≤ 9 → names_to middle s k ≡ between (map (name_of middle) (set_bits s k))
  unfolding names_to set_bits
  names_to_are zero h = refl
  names_to_are (suc k) h = go (eqb (bit s k) 1) (names_to_are k (omega arith))
    where
      bits : List ℕ
      bits = set_bits s k

      go : (c : Bool) → names_to middle s k ≡ between (map (name_of middle) bits)
          → pick c (names_to middle s k ++ (colon_after (names_to middle s k) ++ name_of middle k)) (names_to middle s k)
          ≡ between (map (name_of middle) (bits ++ pick c (k ∷ []) []))
      go true ih =
          ap (λ (w : List ℕ). w ++ (colon_after w ++ name_of middle k)) ih
          ∙ sym (between_more (name_of middle) bits k (λ t a. name_starts middle t (omega (arith, (bits_there s k t a).0))))
      go false ih = ih ∙ ap (λ (l : List ℕ). between (map (name_of middle) l)) (sym (append-nil bits))

  pub names_are : names_of middle s ≡ between (map (name_of middle) (set_bits s 9))
  names_are = names_to_are 9 (omega arith)

  pub names_start : (t : ℕ) → t < 9 → bit s t ≡ 1 → Starts (names_of middle s)
  names_start t h e = rw names_are (go (set_bits s 9) (λ u a. (bits_there s 9 u a).0) (bits_back s 9 t h e))
    where
      go : (l : List ℕ) → ((u : ℕ) → Among u l → u < 9) → Among t l → Starts (between (map (name_of middle) l))
      go [] low (i, b, q) = absurd (omega arith)
      go (u ∷ l) low a = between_starts (name_of middle) u l (name_starts middle u (low u (0, omega arith, refl)))

pub some_bit : (s : ℕ) → s < 512 → s ≢ 0 → (t : ℕ) × (t < 9) × (bit s t ≡ 1)
some_bit s h some = go (any_to (λ t. eqb (bit s t) 1) 9) refl
  where
    each : (t : ℕ) → eqb (bit s t) 1 ≡ false → bit s t ≡ 0
    each t e = let ne : bit s t ≢ 1 = eqb-false (bit s t) 1 e in omega arith

    none : ((t : ℕ) → t < 9 → bit s t ≡ 0) → s ≡ 0
    none z =
        let b8 : s < 256 = omega (arith, h, z 8 (omega arith)) in
        let b7 : s < 128 = omega (arith, b8, z 7 (omega arith)) in
        let b6 : s < 64 = omega (arith, b7, z 6 (omega arith)) in
        let b5 : s < 32 = omega (arith, b6, z 5 (omega arith)) in
        let b4 : s < 16 = omega (arith, b5, z 4 (omega arith)) in
        let b3 : s < 8 = omega (arith, b4, z 3 (omega arith)) in
        let b2 : s < 4 = omega (arith, b3, z 2 (omega arith)) in
        let b1 : s < 2 = omega (arith, b2, z 1 (omega arith)) in
        omega (arith, b1, z 0 (omega arith))

    go : (c : Bool) → any_to (λ t. eqb (bit s t) 1) 9 ≡ c → (t : ℕ) × (t < 9) × (bit s t ≡ 1)
    go true e = let x = (any_means (λ t. eqb (bit s t) 1) 9).0 e in (x.0, x.1, eqb-true (bit s x.0) 1 x.2)
    go false e =
        absurd (some (none (λ t l. each t (is_false (eqb (bit s t) 1) (λ q. clash (any_to (λ u. eqb (bit s u) 1) 9) ((any_means (λ u. eqb (bit s u) 1) 9).1 (t, l, q)) e)))))
