-- The list of lines in places: it rises, it holds exactly the four lines, and no second list does both.
--   Rises l               l is strictly rising
--   rising_only           two rising lists with the same members are one
--   lines_rise            the list of lines is strictly rising
--   lines_means           its members are exactly the four lines
--   lines_turned          the two boxes exchanged give the same list
--   insert_most           one line put in makes the list longer by at most one
--   lines_most, lines_least    at most four lines; at least two where a box has room between its lines
use mathlib.Core.Path.{◌≡◌, refl, sym, ◌∙◌, ap, subst}
use mathlib.Core.Logic.{◌↔◌, ◌⊎◌, inl, inr}
use mathlib.Core.Bool.{Bool, true, false}
use mathlib.Core.List.{List, [], ◌∷◌}
use Prim.Native.Nat.{ℕ, zero, suc, ◌≤◌, ◌<◌, zero-le}
use native.Mathlib.Omega.{arith}
use native.Mathlib.Decide.{ℕ_discrete}
use borrow.Author.Tests.{ltb-true, ltb-false, eqb-true, eqb-false}
use lib.Dec.{ltb, eqb}
use lib.ListN.{length, get_or}
use Rattle.plane.specs.Choice.{pick}
use Rattle.plane.specs.Lists.{Among}
use Rattle.plane.proofs.Logic.{iff_turn, iff_join, iff_or}
use Rattle.matrix.specs.Holding.{insert, lines_of}

abbrev pub Rises : List ℕ → Type 0
Rises l = (i j : ℕ) → i < j → j < length l → get_or l i 0 < get_or l j 0

or_right : {A B C : Type 0} → B ↔ C → (A ⊎ B) ↔ (A ⊎ C)
or_right e = iff_or (λ a. a, λ a. a) e

-- ---- members, one at a time
among_cons : (w u : ℕ) (l : List ℕ) → Among w (u ∷ l) ↔ ((w ≡ u) ⊎ Among w l)
among_cons w u l = (λ x. there x.0 x.1 x.2, back)
  where
    there : (i : ℕ) → i < suc (length l) → get_or (u ∷ l) i 0 ≡ w → (w ≡ u) ⊎ Among w l
    there zero h e = inl (sym e)
    there (suc i) h e = inr (i, omega arith, e)

    back : (w ≡ u) ⊎ Among w l → Among w (u ∷ l)
    back (inl e) = (0, omega arith, sym e)
    back (inr x) = (suc x.0, omega (arith, x.1), x.2)

tail_rises : (u : ℕ) (l : List ℕ) → Rises (u ∷ l) → Rises l
tail_rises u l r i j p h = r (suc i) (suc j) (omega arith) (omega arith)

head_below : (u w : ℕ) (l : List ℕ) → Rises (u ∷ l) → Among w l → u < w
head_below u w l r x = subst (λ (z : ℕ). u < z) x.2 (r 0 (suc x.0) (omega arith) (omega (arith, x.1)))

head_least : (u w : ℕ) (l : List ℕ) → Rises (u ∷ l) → Among w (u ∷ l) → u ≤ w
head_least u w l r x = go ((among_cons w u l).0 x)
  where
    go : (w ≡ u) ⊎ Among w l → u ≤ w
    go (inl e) = omega arith
    go (inr y) = omega (arith, head_below u w l r y)

-- a member other than the head is one of the tail
in_tail : (u w : ℕ) (l : List ℕ) → u < w → Among w (u ∷ l) → Among w l
in_tail u w l h x = go ((among_cons w u l).0 x)
  where
    go : (w ≡ u) ⊎ Among w l → Among w l
    go (inl e) = absurd (omega arith)
    go (inr y) = y

-- ---- no second list
pub rising_only : (l m : List ℕ) → Rises l → Rises m → ((v : ℕ) → Among v l ↔ Among v m) → l ≡ m
rising_only [] [] p q e = refl
rising_only [] (w ∷ m) p q e = absurd (omega (arith, ((e w).1 (0, omega arith, refl)).1))
rising_only (u ∷ l) [] p q e = absurd (omega (arith, ((e u).0 (0, omega arith, refl)).1))
rising_only (u ∷ l) (w ∷ m) p q e =
    let a : w ≤ u = head_least w u m q ((e u).0 (0, omega arith, refl)) in
    let b : u ≤ w = head_least u w l p ((e w).1 (0, omega arith, refl)) in
    let s : u ≡ w = omega arith in
    join s (rising_only l m (tail_rises u l p) (tail_rises w m q) (λ v. (there s v, back s v)))
  where
    there : u ≡ w → (v : ℕ) → Among v l → Among v m
    there s v x =
        let h : u < v = head_below u v l p x in
        in_tail w v m (omega arith) ((e v).0 ((among_cons v u l).1 (inr x)))

    back : u ≡ w → (v : ℕ) → Among v m → Among v l
    back s v x =
        let h : w < v = head_below w v m q x in
        in_tail u v l (omega arith) ((e v).1 ((among_cons v w m).1 (inr x)))

    join : u ≡ w → l ≡ m → u ∷ l ≡ w ∷ m
    join s t = λ k. s k ∷ t k

-- ---- one more line put in
-- a rising list whose members are b or more
abbrev From : ℕ → List ℕ → Type 0
From b [] = Unit {0}
From b (u ∷ l) = (b ≤ u) × From (suc u) l

from_low : (b : ℕ) (l : List ℕ) (i : ℕ) → From b l → i < length l → b ≤ get_or l i 0
from_low b [] i f h = absurd (omega arith)
from_low b (u ∷ l) zero f h = f.0
from_low b (u ∷ l) (suc i) f h = omega (arith, f.0, from_low (suc u) l i f.1 (omega arith))

from_rises : (b : ℕ) (l : List ℕ) → From b l → Rises l
from_rises b [] f i j p h = absurd (omega arith)
from_rises b (u ∷ l) f zero zero p h = absurd (omega arith)
from_rises b (u ∷ l) f zero (suc j) p h = from_low (suc u) l j f.1 (omega arith)
from_rises b (u ∷ l) f (suc i) zero p h = absurd (omega arith)
from_rises b (u ∷ l) f (suc i) (suc j) p h = from_rises (suc u) l f.1 i j (omega arith) (omega arith)

insert_from : (b v : ℕ) (l : List ℕ) → b ≤ v → From b l → From b (insert v l)
unfolding insert
insert_from b v [] h f = (h, tt)
insert_from b v (u ∷ l) h f = go (ltb v u) refl (eqb v u) refl (λ k. insert_from (suc u) v l k f.1)
  where
    go : (s : Bool) → ltb v u ≡ s → (t : Bool) → eqb v u ≡ t → (u < v → From (suc u) (insert v l))
        → From b (pick s (v ∷ u ∷ l) (pick t (u ∷ l) (u ∷ insert v l)))
    go true p t q r = (h, (ltb-true v u p, f.1))
    go false p true q r = f
    go false p false q r = (f.0, r (omega (arith, ltb-false v u p, eqb-false v u q)))

insert_means : (w v : ℕ) (l : List ℕ) → Among w (insert v l) ↔ ((w ≡ v) ⊎ Among w l)
unfolding insert
insert_means w v [] = among_cons w v []
insert_means w v (u ∷ l) = go (ltb v u) (eqb v u) refl (insert_means w v l)
  where
    swap : (A B C : Type 0) → A ⊎ (B ⊎ C) → B ⊎ (A ⊎ C)
    swap A B C (inl a) = inr (inl a)
    swap A B C (inr (inl b)) = inl b
    swap A B C (inr (inr c)) = inr (inr c)

    only : v ≡ u → (w ≡ v) ⊎ Among w (u ∷ l) → Among w (u ∷ l)
    only e (inl d) = (0, omega arith, sym e ∙ sym d)
    only e (inr x) = x

    go : (s t : Bool) → eqb v u ≡ t → Among w (insert v l) ↔ ((w ≡ v) ⊎ Among w l)
        → Among w (pick s (v ∷ u ∷ l) (pick t (u ∷ l) (u ∷ insert v l))) ↔ ((w ≡ v) ⊎ Among w (u ∷ l))
    go true t q r = among_cons w v (u ∷ l)
    go false true q r = (inr, only (eqb-true v u q))
    go false false q r =
        iff_join (among_cons w u (insert v l))
        (iff_join (or_right r)
        (iff_join (swap (w ≡ u) (w ≡ v) (Among w l), swap (w ≡ v) (w ≡ u) (Among w l)) (or_right (iff_turn (among_cons w u l)))))

insert_first : (w v : ℕ) → Among w (insert v []) ↔ (w ≡ v)
insert_first w v = iff_join (insert_means w v []) (last, inl)
  where
    last : (w ≡ v) ⊎ Among w [] → w ≡ v
    last (inl e) = e
    last (inr x) = absurd (omega (arith, x.1))

pub insert_most : (v : ℕ) (l : List ℕ) (n : ℕ) → length l ≤ n → length (insert v l) ≤ suc n
unfolding insert
insert_most v [] n h = omega arith
insert_most v (u ∷ l) zero h = absurd (omega arith)
insert_most v (u ∷ l) (suc n) h = go (ltb v u) (eqb v u) (insert_most v l n (omega arith))
  where
    go : (s t : Bool) → length (insert v l) ≤ suc n → length (pick s (v ∷ u ∷ l) (pick t (u ∷ l) (u ∷ insert v l))) ≤ suc (suc n)
    go true t r = omega arith
    go false true r = omega arith
    go false false r = omega arith

-- ---- the four lines
module _ (lo hi lo' hi' : ℕ) where
  pub lines_rise : Rises (lines_of lo hi lo' hi')
  unfolding lines_of
  lines_rise =
      from_rises 0 (lines_of lo hi lo' hi')
      (insert_from 0 _ _ zero-le (insert_from 0 _ _ zero-le (insert_from 0 _ _ zero-le (insert_from 0 _ _ zero-le tt))))

  pub lines_means : (v : ℕ) → Among v (lines_of lo hi lo' hi') ↔ ((v ≡ lo) ⊎ ((v ≡ hi) ⊎ ((v ≡ lo') ⊎ (v ≡ hi'))))
  unfolding lines_of
  lines_means v =
      iff_join (insert_means v _ _) (or_right
      (iff_join (insert_means v _ _) (or_right
      (iff_join (insert_means v _ _) (or_right (insert_first v _))))))

  pub lines_most : length (lines_of lo hi lo' hi') ≤ 4
  unfolding lines_of
  lines_most = insert_most _ _ 3 (insert_most _ _ 2 (insert_most _ _ 1 (insert_most _ [] 0 zero-le)))

  pub lines_least : lo < hi → 2 ≤ length (lines_of lo hi lo' hi')
  lines_least h = go ((lines_means lo).1 (inl refl)) ((lines_means hi).1 (inr (inl refl)))
    where
      go : Among lo (lines_of lo hi lo' hi') → Among hi (lines_of lo hi lo' hi') → 2 ≤ length (lines_of lo hi lo' hi')
      go x y =
          elim (ℕ_discrete x.0 y.0) [
            | yes e ↦ absurd (omega (arith, sym x.2 ∙ ap (λ (i : ℕ). get_or (lines_of lo hi lo' hi') i 0) e ∙ y.2))
            | no e ↦ omega (arith, x.1, y.1)
          ]

pub lines_turned : (lo hi lo' hi' : ℕ) → lines_of lo hi lo' hi' ≡ lines_of lo' hi' lo hi
lines_turned lo hi lo' hi' =
    rising_only (lines_of lo hi lo' hi') (lines_of lo' hi' lo hi) (lines_rise lo hi lo' hi') (lines_rise lo' hi' lo hi)
    (λ v. iff_join (lines_means lo hi lo' hi' v)
    (iff_join (swap (v ≡ lo) (v ≡ hi) (v ≡ lo') (v ≡ hi'), swap (v ≡ lo') (v ≡ hi') (v ≡ lo) (v ≡ hi)) (iff_turn (lines_means lo' hi' lo hi v))))
  where
    swap : (A B C D : Type 0) → A ⊎ (B ⊎ (C ⊎ D)) → C ⊎ (D ⊎ (A ⊎ B))
    swap A B C D (inl a) = inr (inr (inl a))
    swap A B C D (inr (inl b)) = inr (inr (inr b))
    swap A B C D (inr (inr (inl c))) = inl c
    swap A B C D (inr (inr (inr d))) = inr (inl d)
