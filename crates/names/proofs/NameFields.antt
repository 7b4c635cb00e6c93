-- The word of a set, read back: cut at its colons it is the names of its bits again, and a name tells its bit.
--   names_cut          the word of a set that has a bit, cut at its colons, is the list of the names of its bits
--   tile_named         the name of tile t stands in the word of a set of tiles exactly when bit t is set;  direction_named  of directions
use mathlib.Core.Path.{◌≡◌, refl, sym, ◌∙◌, ap}
use mathlib.Core.Logic.{◌↔◌, ◌≢◌}
use mathlib.Core.List.{List, [], ◌∷◌, ◌++◌, map}
use Prim.Native.Nat.{ℕ, zero, suc, ◌+◌, ◌*◌, ◌<◌}
use native.Mathlib.Omega.{arith}
use lib.Dec.{eqb}
use lib.ListN.{length, get_or, length-map}
use borrow.Author.Tests.{ne_eqb}
use Rattle.plane.specs.Folds.{first_of}
use Rattle.plane.specs.TileSet.{bit}
use Rattle.plane.specs.Lists.{Among}
use Rattle.names.specs.Names.{N, S, W, E, B, O, colon, name_of, names_of}
use Rattle.names.specs.Fields.{between, set_bits, grow, fields_of, StandsIn}
use Rattle.names.proofs.NameWords.{set_bits_mean, names_are, name_starts}

-- ---- words without a colon
abbrev Free : List ℕ → Type 0
Free w = (i : ℕ) → i < length w → get_or w i 0 ≢ colon

cut_free : (w : List ℕ) → Free w → fields_of w ≡ w ∷ []
unfolding fields_of
cut_free [] free = refl
cut_free (x ∷ w) free = rw (ne_eqb x colon (free 0 (omega arith))) (ap (grow x) (cut_free w (λ i h. free (suc i) (omega arith))))

cut_colon : (w v : List ℕ) → Free w → fields_of (w ++ (colon ∷ v)) ≡ w ∷ fields_of v
unfolding fields_of
cut_colon [] v free = refl
cut_colon (x ∷ w) v free = rw (ne_eqb x colon (free 0 (omega arith))) (ap (grow x) (cut_colon w v (λ i h. free (suc i) (omega arith))))

cut_between : (f : ℕ → List ℕ) (t : ℕ) (l : List ℕ) → ((u : ℕ) → Among u (t ∷ l) → Free (f u)) → fields_of (between (map f (t ∷ l))) ≡ map f (t ∷ l)
cut_between f t [] free = cut_free (f t) (free t (0, omega arith, refl))
cut_between f t (u ∷ l) free =
    cut_colon (f t) (between (map f (u ∷ l))) (free t (0, omega arith, refl))
    ∙ ap (λ (ws : List (List ℕ)). f t ∷ ws) (cut_between f u l (λ v a. free v (suc a.0, omega (arith, a.1), a.2)))

one_free : (x : ℕ) → x ≢ colon → Free (x ∷ [])
one_free x p zero h = p
one_free x p (suc i) h = absurd (omega arith)

two_free : (x y : ℕ) → x ≢ colon → y ≢ colon → Free (x ∷ (y ∷ []))
two_free x y p q zero h = p
two_free x y p q (suc zero) h = q
two_free x y p q (suc (suc i)) h = absurd (omega arith)

name_free : (middle t : ℕ) → middle ≢ colon → t < 9 → Free (name_of middle t)
name_free middle zero m h = two_free N W (λ e. omega arith) (λ e. omega arith)
name_free middle (suc zero) m h = one_free N (λ e. omega arith)
name_free middle (suc (suc zero)) m h = two_free N E (λ e. omega arith) (λ e. omega arith)
name_free middle (suc (suc (suc zero))) m h = one_free W (λ e. omega arith)
name_free middle (suc (suc (suc (suc zero)))) m h = one_free middle m
name_free middle (suc (suc (suc (suc (suc zero))))) m h = one_free E (λ e. omega arith)
name_free middle (suc (suc (suc (suc (suc (suc zero)))))) m h = two_free S W (λ e. omega arith) (λ e. omega arith)
name_free middle (suc (suc (suc (suc (suc (suc (suc zero))))))) m h = one_free S (λ e. omega arith)
name_free middle (suc (suc (suc (suc (suc (suc (suc (suc zero)))))))) m h = two_free S E (λ e. omega arith) (λ e. omega arith)
name_free middle (suc (suc (suc (suc (suc (suc (suc (suc (suc t))))))))) m h = absurd (omega arith)

map_at : (f : ℕ → List ℕ) (l : List ℕ) (i : ℕ) → i < length l → get_or (map f l) i [] ≡ f (get_or l i 0)
map_at f [] i h = absurd (omega arith)
map_at f (t ∷ l) zero h = refl
map_at f (t ∷ l) (suc i) h = map_at f l i (omega arith)

-- ---- a name tells its bit: by its two letters, as a number
abbrev letters : List ℕ → ℕ
letters w = get_or w 0 0 * 256 + get_or w 1 0

abbrev bit_of : (middle : ℕ) → List ℕ → ℕ
bit_of middle w = first_of (λ u. eqb (letters w) (letters (name_of middle u))) 9

abbrev Told : ℕ → Type 0
Told middle = (t : ℕ) → t < 9 → bit_of middle (name_of middle t) ≡ t

tiles_told : Told B
unfolding first_of
tiles_told zero h = refl
tiles_told (suc zero) h = refl
tiles_told (suc (suc zero)) h = refl
tiles_told (suc (suc (suc zero))) h = refl
tiles_told (suc (suc (suc (suc zero)))) h = refl
tiles_told (suc (suc (suc (suc (suc zero))))) h = refl
tiles_told (suc (suc (suc (suc (suc (suc zero)))))) h = refl
tiles_told (suc (suc (suc (suc (suc (suc (suc zero))))))) h = refl
tiles_told (suc (suc (suc (suc (suc (suc (suc (suc zero)))))))) h = refl
tiles_told (suc (suc (suc (suc (suc (suc (suc (suc (suc t))))))))) h = absurd (omega arith)

directions_told : Told O
unfolding first_of
directions_told zero h = refl
directions_told (suc zero) h = refl
directions_told (suc (suc zero)) h = refl
directions_told (suc (suc (suc zero))) h = refl
directions_told (suc (suc (suc (suc zero)))) h = refl
directions_told (suc (suc (suc (suc (suc zero))))) h = refl
directions_told (suc (suc (suc (suc (suc (suc zero)))))) h = refl
directions_told (suc (suc (suc (suc (suc (suc (suc zero))))))) h = refl
directions_told (suc (suc (suc (suc (suc (suc (suc (suc zero)))))))) h = refl
directions_told (suc (suc (suc (suc (suc (suc (suc (suc (suc t))))))))) h = absurd (omega arith)

-- ---- the word of a set
module _ (middle : ℕ) (letter : middle ≢ colon) (s : ℕ) where
  abbrev names : List ℕ → List (List ℕ)
  names l = map (name_of middle) l

  below_nine : (l : List ℕ) → set_bits s 9 ≡ l → (u : ℕ) → Among u l → u < 9
  below_nine l e u a = ((set_bits_mean s 9 u).0 (rw e a)).0

  cut_some : (u : ℕ) (l : List ℕ) → set_bits s 9 ≡ u ∷ l → fields_of (names_of middle s) ≡ names (u ∷ l)
  cut_some u l e =
      ap fields_of (names_are middle s ∙ ap (λ (k : List ℕ). between (names k)) e)
      ∙ cut_between (name_of middle) u l (λ v a. name_free middle v letter (below_nine (u ∷ l) e v a))

  pub names_cut : (t : ℕ) → t < 9 → bit s t ≡ 1 → fields_of (names_of middle s) ≡ names (set_bits s 9)
  names_cut t h e = go (set_bits s 9) refl ((set_bits_mean s 9 t).1 (h, e))
    where
      go : (l : List ℕ) → set_bits s 9 ≡ l → Among t l → fields_of (names_of middle s) ≡ names (set_bits s 9)
      go [] q a = absurd (omega (arith, a.1))
      go (u ∷ l) q a = cut_some u l q ∙ ap names (sym q)

  module _ (told : Told middle) (t : ℕ) (h : t < 9) where
    named_there : StandsIn (name_of middle t) (names_of middle s) → bit s t ≡ 1
    unfolding fields_of
    named_there x = go (set_bits s 9) refl
      where
        go : (l : List ℕ) → set_bits s 9 ≡ l → bit s t ≡ 1
        go [] q = empty x.0 (rw (ap fields_of (names_are middle s ∙ ap (λ (k : List ℕ). between (names k)) q)) at x.1) (rw (ap fields_of (names_are middle s ∙ ap (λ (k : List ℕ). between (names k)) q)) at x.2)
          where
            empty : (i : ℕ) → i < 1 → get_or ([] ∷ []) i [] ≡ name_of middle t → bit s t ≡ 1
            empty zero b e = let (y, rest, f) = name_starts middle t h in absurd (omega (arith, ap length (e ∙ f)))
            empty (suc i) b e = absurd (omega arith)
        go (u ∷ l) q =
            let cut = cut_some u l q in
            let i = x.0 in
            let b : i < length (u ∷ l) = omega (arith, x.1, ap length cut, length-map (u ∷ l) (name_of middle)) in
            let v = get_or (u ∷ l) i 0 in
            let among : Among v (u ∷ l) = (i, b, refl) in
            let e : name_of middle v ≡ name_of middle t = sym (map_at (name_of middle) (u ∷ l) i b) ∙ ap (λ (ws : List (List ℕ)). get_or ws i []) (sym cut) ∙ x.2 in
            let same : v ≡ t = sym (told v (below_nine (u ∷ l) q v among)) ∙ ap (bit_of middle) e ∙ told t h in
            ap (bit s) (sym same) ∙ ((set_bits_mean s 9 v).0 (rw q among)).1

    named_back : bit s t ≡ 1 → StandsIn (name_of middle t) (names_of middle s)
    named_back e =
        let cut = names_cut t h e in
        let (i, b, q) = (set_bits_mean s 9 t).1 (h, e) in (
          i,
          omega (arith, b, ap length cut, length-map (set_bits s 9) (name_of middle)),
          ap (λ (ws : List (List ℕ)). get_or ws i []) cut ∙ map_at (name_of middle) (set_bits s 9) i b ∙ ap (name_of middle) q,
        )

pub tile_named : (s t : ℕ) → t < 9 → StandsIn (name_of B t) (names_of B s) ↔ (bit s t ≡ 1)
tile_named s t h = (named_there B (λ e. omega arith) s tiles_told t h, named_back B (λ e. omega arith) s tiles_told t h)

pub direction_named : (s t : ℕ) → t < 9 → StandsIn (name_of O t) (names_of O s) ↔ (bit s t ≡ 1)
direction_named s t h = (named_there O (λ e. omega arith) s directions_told t h, named_back O (λ e. omega arith) s directions_told t h)
