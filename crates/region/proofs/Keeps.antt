-- Laws of the rules that a region keeps.
--   keeps_none, keeps_more, keeps_fewer    rules 1 to 0; one rule more; fewer rules
--   Sized R           what rules 1 to 3 come to, for a pass over the rings;  sized, sized_keeps  from them and back
--   counted_keeps, listed_keeps            rule 1, and rule 3 after 2, from what they ask
--   RegionInRange R   every ring's coordinates are in range;  in_range_lem  as rule 4 asks
--   broken_number     a broken rule is one of 1 to 7;  broken_ring  past rule 1, what breaks it is one of the rings
-- Of ring r of a region that keeps rules 1 to 3:
--   ring_order        it starts before it ends
--   ring_room         its vertices stand in the list of coordinates
--   ring_stretch      where rule 4 is kept too, it may be read in places
--   end_small         it ends within the vertices that a region may have
use mathlib.Core.Path.{◌≡◌, refl}
use mathlib.Core.Logic.{inl, inr, ⊎_elim}
use Prim.Native.Nat.{ℕ, zero, suc, ◌+◌, ◌*◌, ◌≤◌, ◌<◌}
use native.Mathlib.Omega.{arith}
use native.Mathlib.Decide.{ℕ_discrete}
use lib.ListN.{length, get_or}
use Rattle.ring.specs.Edges.{RingInRange}
use Rattle.ring.specs.Stretch.{Stretch}
use Rattle.region.specs.Region.{Region, most_rings, most_vertices, start_of, size_of, last_end}
use Rattle.region.specs.Rules.{Breaks, Keeps}
use Rattle.region.proofs.Ends.{Grown, start_le, ring_in_last}
use Rattle.region.proofs.Outside.{ring_in_range}

pub record Sized (R : Region) : Type 0 where
  pub some : 0 < length R.ends
  pub few : length R.ends ≤ most_rings
  pub grown : Grown R.ends
  pub small : last_end R.ends ≤ most_vertices
  pub listed : length R.coordinates ≡ 2 * last_end R.ends

pub record RegionInRange (R : Region) : Type 0 where
  pub at : (r : ℕ) → r < length R.ends → RingInRange R.coordinates (start_of R.ends r) (size_of R.ends r)

at_most : (a b : ℕ) → (b < a → ⊥) → a ≤ b
at_most a b h = omega arith

pub broken_number : (R : Region) (n r : ℕ) → Breaks R n r → (1 ≤ n) × (n ≤ 7)
broken_number R zero r b = absurd b
broken_number R (suc zero) r b = (omega arith, omega arith)
broken_number R (suc (suc zero)) r b = (omega arith, omega arith)
broken_number R (suc (suc (suc zero))) r b = (omega arith, omega arith)
broken_number R (suc (suc (suc (suc zero)))) r b = (omega arith, omega arith)
broken_number R (suc (suc (suc (suc (suc zero))))) r b = (omega arith, omega arith)
broken_number R (suc (suc (suc (suc (suc (suc zero)))))) r b = (omega arith, omega arith)
broken_number R (suc (suc (suc (suc (suc (suc (suc zero))))))) r b = (omega arith, omega arith)
broken_number R (suc (suc (suc (suc (suc (suc (suc (suc n)))))))) r b = absurd b

module _ {R : Region} where
  pub keeps_none : Keeps 0 R
  keeps_none = record { keeps = none }
    where
      none : (m r : ℕ) → m ≤ 0 → Breaks R m r → ⊥
      none zero r l b = b
      none (suc m) r l b = omega arith

  pub keeps_more : {n : ℕ} → Keeps n R → ((r : ℕ) → Breaks R (suc n) r → ⊥) → Keeps (suc n) R
  keeps_more {n} kept next =
      record { keeps = λ m r l b. elim (ℕ_discrete m (suc n)) [ yes e ↦ next r (rw e at b) | no e ↦ kept.keeps m r (omega arith) b ] }

  pub keeps_fewer : {m n : ℕ} → m ≤ n → Keeps n R → Keeps m R
  keeps_fewer l kept = record { keeps = λ k r h b. kept.keeps k r (omega arith) b }

  -- ---- rules 1 to 3
  pub sized : Keeps 3 R → Sized R
  sized kept =
      record {
        some = at_most 1 (length R.ends) (λ h. kept.keeps 1 0 (omega arith) (refl, inl (omega arith)));
        few = at_most (length R.ends) most_rings (λ h. kept.keeps 1 0 (omega arith) (refl, inr h));
        grown = λ r h. at_most (start_of R.ends r + 3) (get_or R.ends r 0) (λ q. kept.keeps 2 r (omega arith) (h, q));
        small = at_most (last_end R.ends) most_vertices (λ h. kept.keeps 3 0 (omega arith) (refl, inl h));
        listed = elim (ℕ_discrete (length R.coordinates) (2 * last_end R.ends)) [ yes e ↦ e | no e ↦ absurd (kept.keeps 3 0 (omega arith) (refl, inr e)) ];
      }

  pub sized_keeps : Sized R → Keeps 3 R
  sized_keeps s = record { keeps = go }
    where
      go : (m r : ℕ) → m ≤ 3 → Breaks R m r → ⊥
      go zero r l b = b
      go (suc zero) r l b = ⊎_elim (λ p. omega (arith, s.some)) (λ p. omega (arith, s.few)) b.1
      go (suc (suc zero)) r l b = omega (arith, b.1, s.grown r b.0)
      go (suc (suc (suc zero))) r l b = ⊎_elim (λ p. omega (arith, s.small)) (λ p. p s.listed) b.1
      go (suc (suc (suc (suc m)))) r l b = omega arith

  pub counted_keeps : 0 < length R.ends → length R.ends ≤ most_rings → Keeps 1 R
  counted_keeps some few = keeps_more keeps_none (λ r b. ⊎_elim (λ p. omega arith) (λ p. omega arith) b.1)

  pub listed_keeps : Keeps 2 R → last_end R.ends ≤ most_vertices → length R.coordinates ≡ 2 * last_end R.ends → Keeps 3 R
  listed_keeps two small listed = keeps_more two (λ r b. ⊎_elim (λ p. omega arith) (λ p. p listed) b.1)

  -- ---- rule 4
  pub in_range_lem : Keeps 4 R → RegionInRange R
  in_range_lem kept = record { at = λ r l. ring_in_range R.coordinates (start_of R.ends r) (size_of R.ends r) (λ o. kept.keeps 4 r (omega arith) (l, o)) }

  pub broken_ring : (n r : ℕ) → 0 < n → Keeps n R → Breaks R (suc n) r → r < length R.ends
  broken_ring zero r l kept b = absurd (omega arith)
  broken_ring (suc zero) r l kept b = b.0
  broken_ring (suc (suc zero)) r l kept b = at_most (suc r) (length R.ends) (λ h. kept.keeps 1 0 (omega arith) (refl, inl (omega (arith, b.0))))
  broken_ring (suc (suc (suc zero))) r l kept b = b.0
  broken_ring (suc (suc (suc (suc zero)))) r l kept b = b.0
  broken_ring (suc (suc (suc (suc (suc zero))))) r l kept b = b.0
  broken_ring (suc (suc (suc (suc (suc (suc zero)))))) r l kept b = b.0
  broken_ring (suc (suc (suc (suc (suc (suc (suc n))))))) r l kept b = absurd b

-- ---- ring r
module _ {R : Region} (sized : Sized R) (r : ℕ) (h : r < length R.ends) where
  pub ring_order : start_of R.ends r ≤ get_or R.ends r 0
  ring_order = omega (arith, sized.grown r h)

  pub ring_room : 2 * (start_of R.ends r + size_of R.ends r) ≤ length R.coordinates
  ring_room = omega (arith, sized.listed, ring_in_last R.ends sized.grown r h)

  pub ring_stretch : RegionInRange R → Stretch R.coordinates (start_of R.ends r) (size_of R.ends r)
  ring_stretch range = record { range = range.at r h; room = ring_room; few = omega (arith, sized.small, ring_in_last R.ends sized.grown r h) }

  pub end_small : get_or R.ends r 0 ≤ most_vertices
  end_small = omega (arith, start_le R.ends sized.grown (suc r) (length R.ends) h (omega arith), sized.small)
