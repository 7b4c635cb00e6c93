-- The grid over coordinates is the list of lines over places: as many strips, and strip i between lines i and i + 1.
-- For four coordinates in range:
--   strips_means    the list is one longer than the number of strips
--   StripAt l i p q    p and q are in range, and their places stand at i and i + 1 of the list l
--   strip_means     strip i lies between p and q exactly there
--   strip_there     every i that leaves room for i + 1 has a strip
--   strips_turned, strip_turned    the two boxes exchanged have the same strips
use mathlib.Core.Path.{◌≡◌, refl, sym, ◌∙◌, ap, subst}
use mathlib.Core.Logic.{◌↔◌, ◌⊎◌, inl, inr}
use mathlib.Core.Bool.{Bool, true, false, cond}
use mathlib.Core.List.{List}
use Prim.Native.Nat.{ℕ, suc, ◌+◌, ◌-◌, ◌≤◌, ◌<◌}
use native.Mathlib.Omega.{arith}
use native.Mathlib.Decide.{ℕ_discrete, dec_lt}
use borrow.Author.Tests.{ltb-true, ltb-false}
use lib.Dec.{ltb}
use lib.ListN.{length, get_or}
use lib.IntN.{ℤ, pos, negsuc, sub_ℕ}
use lib.Signed.{◌<ℤ◌}
use Rattle.plane.specs.Lists.{Among}
use Rattle.plane.specs.Place.{in_range, place_of}
use Rattle.plane.specs.Counting.{Distinct}
use Rattle.plane.proofs.Logic.{iff_join, iff_turn, iff_or}
use Rattle.plane.proofs.Place.{place_lt, place_eq}
use Rattle.plane.proofs.Difference.{diff_sub, diff_place, diff_eq}
use Rattle.plane.proofs.Counting.{distinct_only}
use Rattle.matrix.specs.Grid.{IsLine, Strips, Strip}
use Rattle.matrix.specs.Holding.{lines_of}
use Rattle.matrix.proofs.Lines.{Rises, lines_rise, lines_means, lines_turned}

-- ---- the coordinate at a place
coordinate_of : ℕ → ℤ
coordinate_of p = sub_ℕ p 1000000

place_there : (p : ℕ) → place_of (coordinate_of p) ≡ p
unfolding coordinate_of place_of
place_there p = go (ltb p 1000000) refl
  where
    go : (t : Bool) → ltb p 1000000 ≡ t → place_of (cond t (negsuc (1000000 - suc p)) (pos (p - 1000000))) ≡ p
    go true e = omega (arith, ltb-true p 1000000 e)
    go false e = omega (arith, ltb-false p 1000000 e)

place_back : (z : ℤ) → in_range z ≡ true → coordinate_of (place_of z) ≡ z
unfolding coordinate_of
place_back z h =
    diff_eq (sub_ℕ (place_of z) 1000000) z (place_of z) 1000000 (place_of z) 1000000 (diff_sub (place_of z) 1000000 (place_of z) 1000000 refl) (diff_place z h) refl

-- ---- a rising list: the greater number stands later
later : (l : List ℕ) (i j : ℕ) → Rises l → i < length l → get_or l i 0 < get_or l j 0 → i < j
later l i j r h p =
    elim (dec_lt i j) [
      | yes k ↦ k
      | no k ↦ elim (ℕ_discrete i j) [
        | yes e ↦ absurd (omega (arith, ap (λ (x : ℕ). get_or l x 0) e))
        | no e ↦ absurd (omega (arith, r j i (omega arith) h))
      ]
    ]

-- ---- strips
same_count : (P : ℤ → Type 0) (m k : ℕ) → Distinct ℤ P (λ v w. v ≡ w) m → Distinct ℤ P (λ v w. v ≡ w) k → m ≡ k
same_count P = distinct_only ℤ P (λ v w. v ≡ w) (λ v w e. sym e) (λ u v w x d e. d ∙ e)

pub record StripAt (l : List ℕ) (i : ℕ) (p q : ℤ) : Type 0 where
  pub room : i + 1 < length l
  pub from_in : in_range p ≡ true
  pub to_in : in_range q ≡ true
  pub from_at : place_of p ≡ get_or l i 0
  pub to_at : place_of q ≡ get_or l (i + 1) 0

-- ---- one axis
module _ (lo hi lo' hi' : ℤ) (hlo : in_range lo ≡ true) (hhi : in_range hi ≡ true) (hlo' : in_range lo' ≡ true) (hhi' : in_range hi' ≡ true) where
  abbrev lines : List ℕ
  lines = lines_of (place_of lo) (place_of hi) (place_of lo') (place_of hi')

  rising : Rises lines
  rising = lines_rise (place_of lo) (place_of hi) (place_of lo') (place_of hi')

  abbrev nth_line : ℕ → ℤ
  nth_line i = coordinate_of (get_or lines i 0)

  line_in : (v : ℤ) → IsLine lo hi lo' hi' v → in_range v ≡ true
  line_in v (inl e) = ap in_range e ∙ hlo
  line_in v (inr (inl e)) = ap in_range e ∙ hhi
  line_in v (inr (inr (inl e))) = ap in_range e ∙ hlo'
  line_in v (inr (inr (inr e))) = ap in_range e ∙ hhi'

  line_means : (v : ℤ) → in_range v ≡ true → IsLine lo hi lo' hi' v ↔ Among (place_of v) lines
  line_means v h =
      iff_join (iff_or (place_eq v lo h hlo) (iff_or (place_eq v hi h hhi) (iff_or (place_eq v lo' h hlo') (place_eq v hi' h hhi'))))
      (iff_turn (lines_means (place_of lo) (place_of hi) (place_of lo') (place_of hi') (place_of v)))

  line_place : (v : ℤ) → IsLine lo hi lo' hi' v → Among (place_of v) lines
  line_place v x = (line_means v (line_in v x)).0 x

  nth_is_line : (i : ℕ) → i < length lines → IsLine lo hi lo' hi' (nth_line i)
  nth_is_line i h = go ((lines_means (place_of lo) (place_of hi) (place_of lo') (place_of hi') (get_or lines i 0)).0 (i, h, refl))
    where
      go : (get_or lines i 0 ≡ place_of lo) ⊎ ((get_or lines i 0 ≡ place_of hi) ⊎ ((get_or lines i 0 ≡ place_of lo') ⊎ (get_or lines i 0 ≡ place_of hi')))
          → IsLine lo hi lo' hi' (nth_line i)
      go (inl e) = inl (ap coordinate_of e ∙ place_back lo hlo)
      go (inr (inl e)) = inr (inl (ap coordinate_of e ∙ place_back hi hhi))
      go (inr (inr (inl e))) = inr (inr (inl (ap coordinate_of e ∙ place_back lo' hlo')))
      go (inr (inr (inr e))) = inr (inr (inr (ap coordinate_of e ∙ place_back hi' hhi')))

  nth_in : (i : ℕ) → i < length lines → in_range (nth_line i) ≡ true
  nth_in i h = line_in (nth_line i) (nth_is_line i h)

  -- the first k lines are k distinct ones, and are all that a property picks out where it picks out just them
  first_lines : (P : ℤ → Type 0) (k : ℕ) → k ≤ length lines → ((i : ℕ) → i < k → P (nth_line i))
      → ((v : ℤ) → P v → (i : ℕ) × (i < k) × (get_or lines i 0 ≡ place_of v) × (in_range v ≡ true)) → Distinct ℤ P (λ v w. v ≡ w) k
  first_lines P k h each all =
      record {
        nth = nth_line;
        each = each;
        apart = λ i j p q e. different (get_or lines i 0) (get_or lines j 0) (rising i j p (omega arith)) e;
        all = λ v x. let y = all v x in (y.0, y.1, sym (place_back v y.3) ∙ ap coordinate_of (sym y.2));
      }
    where
      different : (x y : ℕ) → x < y → coordinate_of x ≡ coordinate_of y → ⊥
      different x y p e = omega (arith, sym (place_there x) ∙ ap place_of e ∙ place_there y)

  all_lines : Distinct ℤ (IsLine lo hi lo' hi') (λ v w. v ≡ w) (length lines)
  all_lines =
      first_lines (IsLine lo hi lo' hi') (length lines) (omega arith) nth_is_line
      (λ v x. let y = line_place v x in (y.0, y.1, y.2, line_in v x))

  pub strips_means : (m : ℕ) → (length lines ≡ suc m) ↔ Strips lo hi lo' hi' m
  strips_means m = (
    λ e. subst (Distinct ℤ (IsLine lo hi lo' hi') (λ v w. v ≡ w)) e all_lines,
    λ d. same_count (IsLine lo hi lo' hi') (length lines) (suc m) all_lines d,
  )

  -- a line's place against the line at i
  before_nth : (v : ℤ) (i : ℕ) → in_range v ≡ true → i < length lines → (v <ℤ nth_line i) ↔ (place_of v < get_or lines i 0)
  before_nth v i hv h = let e = place_there (get_or lines i 0) in rw e at (place_lt v (nth_line i) hv (nth_in i h))

  after_nth : (v : ℤ) (i : ℕ) → in_range v ≡ true → i < length lines → (nth_line i <ℤ v) ↔ (get_or lines i 0 < place_of v)
  after_nth v i hv h = let e = place_there (get_or lines i 0) in rw e at (place_lt (nth_line i) v (nth_in i h) hv)

  -- the lines below the one at i
  lines_below : (i : ℕ) (p : ℤ) → in_range p ≡ true → i < length lines → place_of p ≡ get_or lines i 0
      → Distinct ℤ (λ v. IsLine lo hi lo' hi' v × (v <ℤ p)) (λ v w. v ≡ w) i
  lines_below i p hp h e =
      first_lines (λ v. IsLine lo hi lo' hi' v × (v <ℤ p)) i (omega arith)
      (λ k b. (nth_is_line k (omega arith), (after_nth p k hp (omega arith)).1 (omega (arith, rising k i b h))))
      (λ v x. let y = line_place v x.0 in let hv = line_in v x.0 in (y.0, low v hv y.0 y.1 y.2 x.1, y.2, hv))
    where
      low : (v : ℤ) → in_range v ≡ true → (k : ℕ) → k < length lines → get_or lines k 0 ≡ place_of v → v <ℤ p → k < i
      low v hv k b d x = later lines k i rising b (omega (arith, (place_lt v p hv hp).0 x))

  strip_places : (i : ℕ) (p q : ℤ) → Strip lo hi lo' hi' i p q → StripAt lines i p q
  strip_places i p q s = go (line_place p s.from_line) (line_place q s.to_line)
    where
      hp : in_range p ≡ true
      hp = line_in p s.from_line

      hq : in_range q ≡ true
      hq = line_in q s.to_line

      next : (a b : ℕ) → a < length lines → b < length lines → get_or lines a 0 ≡ place_of p → get_or lines b 0 ≡ place_of q → b ≡ a + 1
      next a b ha hb ea eb =
          let up : a < b = later lines a b rising ha (omega (arith, (place_lt p q hp hq).0 s.rises)) in
          elim (dec_lt (a + 1) b) [
            | yes k ↦
                absurd (s.none_between (nth_line (a + 1)) (nth_is_line (a + 1) (omega arith))
                ((before_nth p (a + 1) hp (omega arith)).1 (omega (arith, rising a (a + 1) (omega arith) (omega arith))))
                ((after_nth q (a + 1) hq (omega arith)).1 (omega (arith, rising (a + 1) b k hb))))
            | no k ↦ omega arith
          ]

      go : Among (place_of p) lines → Among (place_of q) lines → StripAt lines i p q
      go x y =
          let e : i ≡ x.0 = same_count (λ v. IsLine lo hi lo' hi' v × (v <ℤ p)) i x.0 s.below (lines_below x.0 p hp x.1 (sym x.2)) in
          let d : y.0 ≡ x.0 + 1 = next x.0 y.0 x.1 y.1 x.2 y.2 in
          let f : y.0 ≡ i + 1 = omega arith in
          record {
            room = omega (arith, y.1);
            from_in = hp;
            to_in = hq;
            from_at = sym x.2 ∙ ap (λ (z : ℕ). get_or lines z 0) (sym e);
            to_at = sym y.2 ∙ ap (λ (z : ℕ). get_or lines z 0) f;
          }

  strip_back : (i : ℕ) (p q : ℤ) → StripAt lines i p q → Strip lo hi lo' hi' i p q
  strip_back i p q s =
      let h : i < length lines = omega (arith, s.room) in
      record {
        from_line = (line_means p s.from_in).1 (i, h, sym s.from_at);
        to_line = (line_means q s.to_in).1 (i + 1, s.room, sym s.to_at);
        rises = (place_lt p q s.from_in s.to_in).1 (omega (arith, s.from_at, s.to_at, rising i (i + 1) (omega arith) s.room));
        none_between = λ v x a b. between v (line_in v x) a b (line_place v x);
        below = lines_below i p s.from_in h s.from_at;
      }
    where
      between : (v : ℤ) → in_range v ≡ true → p <ℤ v → v <ℤ q → Among (place_of v) lines → ⊥
      between v hv a b y =
          let l : i < y.0 = later lines i y.0 rising (omega (arith, s.room)) (omega (arith, s.from_at, y.2, (place_lt p v s.from_in hv).0 a)) in
          let m : y.0 < i + 1 = later lines y.0 (i + 1) rising y.1 (omega (arith, s.to_at, y.2, (place_lt v q hv s.to_in).0 b)) in
          omega arith

  pub strip_means : (i : ℕ) (p q : ℤ) → Strip lo hi lo' hi' i p q ↔ StripAt lines i p q
  strip_means i p q = (strip_places i p q, strip_back i p q)

  pub strip_there : (i : ℕ) → i + 1 < length lines → (p : ℤ) × (q : ℤ) × Strip lo hi lo' hi' i p q
  strip_there i h = (
    nth_line i,
    nth_line (i + 1),
    strip_back i (nth_line i) (nth_line (i + 1)) (record {
      room = h;
      from_in = nth_in i (omega arith);
      to_in = nth_in (i + 1) h;
      from_at = place_there (get_or lines i 0);
      to_at = place_there (get_or lines (i + 1) 0);
    }),
  )

-- ---- the two boxes exchanged
module _ (lo hi lo' hi' : ℤ) (hlo : in_range lo ≡ true) (hhi : in_range hi ≡ true) (hlo' : in_range lo' ≡ true) (hhi' : in_range hi' ≡ true) where
  turned : lines_of (place_of lo) (place_of hi) (place_of lo') (place_of hi') ≡ lines_of (place_of lo') (place_of hi') (place_of lo) (place_of hi)
  turned = lines_turned (place_of lo) (place_of hi) (place_of lo') (place_of hi')

  pub strips_turned : (m : ℕ) → Strips lo hi lo' hi' m → Strips lo' hi' lo hi m
  strips_turned m d = (strips_means lo' hi' lo hi hlo' hhi' hlo hhi m).0 (rw turned at ((strips_means lo hi lo' hi' hlo hhi hlo' hhi' m).1 d))

  pub strip_turned : (i : ℕ) (p q : ℤ) → Strip lo hi lo' hi' i p q → Strip lo' hi' lo hi i p q
  strip_turned i p q s = (strip_means lo' hi' lo hi hlo' hhi' hlo hhi i p q).1 (rw turned at ((strip_means lo hi lo' hi' hlo hhi hlo' hhi' i p q).0 s))
