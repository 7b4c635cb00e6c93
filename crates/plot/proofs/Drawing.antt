-- The texts of a map, one after the other.
--   stretch_none, stretch_more      no vertex of a ring, and one more
--   rings_none, rings_more          no ring, and one more
--   vertex_is, number_is            a vertex of a shape's list, and the place of a coordinate of which it is made
--   map_none, map_more              no parcel, and one more: those that were drawn stay
use mathlib.Core.Path.{◌≡◌, refl, sym, ◌∙◌, ap}
use mathlib.Core.List.{List, [], ◌++◌}
use Prim.Native.Nat.{ℕ, zero, suc, ◌+◌, ◌≤◌, ◌<◌}
use native.Mathlib.Omega.{arith}
use native.Mathlib.Decide.{dec_lt}
use lib.Dec.{ltb}
use lib.IntN.{ℤ, pos}
use lib.ListN.{get_or, take}
use lib.Seq.{get_or-take}
use borrow.Author.Tests.{lt-ltb, le-ltb}
use Rattle.plane.specs.Choice.{pick}
use Rattle.svg.specs.declared.page.Page.{Page}
use Rattle.svg.specs.Ink.{Inked, InkedOn, inked_to}
use Rattle.svg.proofs.Inking.{inked_none, inked_then, inked_as, on_none, on_then, on_as}
use Rattle.plane.specs.Lists.{tab}
use Rattle.plane.proofs.Lists.{get_d_tab}
use Rattle.scale.specs.declared.view.View.{View}
use Rattle.scale.specs.Places.{place_in, number_place}
use Rattle.scale.specs.declared.shape.Shape.{Shape}
use Rattle.scale.specs.declared.shape.Vertex.{Vertex}
use Rattle.scale.specs.Shapes.{corner, vertex_at, ring_of}
use Rattle.plot.specs.Drawn.{vertex_ink, stretch_ink, ring_ink, rings_ink, parcel_ink, Drawn, MapInk}

to_none : (f : ℕ → List (List ℕ)) → inked_to f 0 ≡ []
unfolding inked_to
to_none f = refl

to_more : (f : ℕ → List (List ℕ)) (n : ℕ) → inked_to f (suc n) ≡ inked_to f n ++ f n
unfolding inked_to
to_more f n = refl

plus_one : (n : ℕ) → n + 1 ≡ suc n
plus_one n = omega arith

to_same : (f g : ℕ → List (List ℕ)) (n : ℕ) → ((k : ℕ) → k < n → f k ≡ g k) → inked_to f n ≡ inked_to g n
unfolding inked_to
to_same f g zero h = refl
to_same f g (suc n) h = λ i. to_same f g n (λ k b. h k (omega arith)) i ++ h n (omega arith) i

module _ (vs : List Vertex) where
  pub stretch_none : (p : Page) → InkedOn p (stretch_ink vs 0) p
  unfolding stretch_ink
  stretch_none p = on_as (sym (to_none _)) (on_none p)

  pub stretch_more : {p m q : Page} (n : ℕ) → InkedOn p (stretch_ink vs n) m → InkedOn m (vertex_ink (get_or vs n corner)) q → InkedOn p (stretch_ink vs (n + 1)) q
  unfolding stretch_ink
  stretch_more n i j = on_as (sym (ap (inked_to _) (plus_one n) ∙ to_more _ n)) (on_then _ _ i j)

module _ (s : Shape) where
  pub rings_none : (p : Page) → InkedOn p (rings_ink s 0) p
  unfolding rings_ink
  rings_none p = on_as (sym (to_none _)) (on_none p)

  pub rings_more : {p m q : Page} (n : ℕ) → InkedOn p (rings_ink s n) m → InkedOn m (ring_ink (ring_of s.vertices s.ends n)) q → InkedOn p (rings_ink s (n + 1)) q
  unfolding rings_ink
  rings_more n i j = on_as (sym (ap (inked_to _) (plus_one n) ∙ to_more _ n)) (on_then _ _ i j)

-- a vertex of a shape's list, and the place of a coordinate of which it is made
pub vertex_is : (f : ℕ → Vertex) {l : List Vertex} → l ≡ tab f 64 → (i : ℕ) → i < 64 → vertex_at l i ≡ f i
unfolding vertex_at
vertex_is f {l} e i h = rw (lt-ltb i 64 h) (ap (λ (m : List Vertex). get_or m i corner) e ∙ get_d_tab f corner 64 i h)

pub number_is : (numbers : List ℤ) {l : List ℤ} (n j : ℕ) → take n numbers ≡ l → j < n → n ≤ 128 → number_place numbers j ≡ place_in (get_or l j (pos 0))
unfolding number_place
number_is numbers {l} n j e h k = rw (lt-ltb j 128 (omega arith)) (ap place_in (sym (get_or-take n numbers j (pos 0) h) ∙ ap (λ (m : List ℤ). get_or m j (pos 0)) e))

module _ (v : View) (card : List ℕ) where
  pub map_none : (b : List ℕ) (at : ℕ) → MapInk v card 0 b at at b
  map_none b at = record { shapes = λ k. record { slot = 0; rings = 0; ends = []; vertices = [] }; drawn = λ k l. absurd (omega (arith, l)); inked = inked_as (sym (to_none _)) (inked_none b at) }

  pub map_as : {b c : List ℕ} {at r n m : ℕ} → n ≡ m → MapInk v card n b at r c → MapInk v card m b at r c
  map_as {b} {c} {at} {r} e p = rw⁻¹ e p

  pub map_more : {b d c : List ℕ} {at m r : ℕ} (n : ℕ) (s : Shape) → Drawn v card n s → MapInk v card n b at m d → Inked d m (parcel_ink s) r c → MapInk v card (n + 1) b at r c
  map_more {b} {d} {c} {at} {m} {r} n s e p q =
      record {
        shapes = both;
        drawn = λ k l. all k l;
        inked = inked_as ((λ i. to_same _ (λ k. parcel_ink (both k)) n (λ k l. ap parcel_ink (sym (before k l))) i ++ parcel_ink (sym last i)) ∙ sym (ap (inked_to _) (plus_one n) ∙ to_more _ n)) (inked_then _ _ p.inked q);
      }
    where
      both : ℕ → Shape
      both k = pick (ltb k n) (p.shapes k) s

      before : (k : ℕ) → k < n → both k ≡ p.shapes k
      before k l = rw (lt-ltb k n l) refl

      last : both n ≡ s
      last = rw (le-ltb n n (omega arith)) refl

      all : (k : ℕ) → k < n + 1 → Drawn v card k (both k)
      all k l =
          elim (dec_lt k n) [
            | yes h ↦ rw (before k h) (p.drawn k h)
            | no h ↦ (let z : k ≡ n = omega arith in rw (z) (rw last e))
          ]
