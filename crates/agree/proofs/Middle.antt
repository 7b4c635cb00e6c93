-- A ring that marks a cell has the middle tile of that cell, seen as a box. Only a piece on the own box's outer line whose inside is not right of travel
-- needs more than the point itself: the ring has then the tile beyond the cell's line, and as nothing of it lies beyond that line, it has the middle one
-- too (pin's Sides, which rests on rule 6).
--   Held L xs from n    every vertex of the ring lies in the box with the lines L
--   point_in            a point strictly between two lines, by its weights in places
--   edge_middle         an edge that marks the cell gives the ring its middle tile
use mathlib.Core.Path.{◌≡◌, refl, sym, ◌∙◌, ap}
use mathlib.Core.Logic.{◌↔◌, ◌⊎◌, inl, inr, ◌≢◌}
use mathlib.Core.Bool.{Bool, true, false}
use mathlib.Core.List.{List}
use Prim.Native.Nat.{ℕ, ◌+◌, ◌*◌, ◌≤◌, ◌<◌}
use native.Mathlib.Omega.{arith}
use native.Mathlib.Decide.{dec_lt}
use lib.IntN.{ℤ}
use lib.Signed.{◌<ℤ◌}
use Rattle.plane.specs.Place.{place_of, in_range}
use Rattle.plane.specs.Points.{Point, Lines, vertex, along, Fraction}
use Rattle.plane.specs.Placed.{PointInRange, LinesInRange, box_of, Upright}
use Rattle.plane.proofs.Logic.{clash}
use Rattle.plane.proofs.Place.{place_lt, place_eq}
use Rattle.edge.specs.Clauses.{going_north, going_south, going_east, going_west, HasTile}
use Rattle.edge.proofs.Weights.{rest, rest_sum, InCol}
use Rattle.ring.specs.Edges.{corner, after, RingInRange}
use Rattle.ring.specs.Tangled.{Tangled}
use Rattle.ring.specs.RingTiles.{RingHas, ring_has}
use Rattle.ring.proofs.Edges.{after_in_range}
use Rattle.ring.proofs.RingTiles.{ring_means}
use Rattle.pin.proofs.Entered.{inside_place, entered_has}
use Rattle.pin.proofs.Sides.{Sides, sides}
use Rattle.drawing.specs.Marks.{Between, inside, east_of_it, west_of_it, north_of_it, south_of_it, Marks, ToEast, ToWest, ToNorth, ToSouth}
use Rattle.drawing.proofs.Drawing.{Roomy}

pub record Held (L : Lines) (xs : List ℤ) (from n : ℕ) : Type 0 where
  pub west : (v : ℕ) → v < n → place_of L.west ≤ place_of (vertex xs (from + v)).x
  pub east : (v : ℕ) → v < n → place_of (vertex xs (from + v)).x ≤ place_of L.east
  pub south : (v : ℕ) → v < n → place_of L.south ≤ place_of (vertex xs (from + v)).y
  pub north : (v : ℕ) → v < n → place_of (vertex xs (from + v)).y ≤ place_of L.north

ordered : (u v : ℤ) → in_range u ≡ true → in_range v ≡ true → u ≢ v → (u <ℤ v) ⊎ (v <ℤ u)
ordered u v hu hv ne = go (dec_lt (place_of u) (place_of v)) (dec_lt (place_of v) (place_of u))
  where
    go : Dec (place_of u < place_of v) → Dec (place_of v < place_of u) → (u <ℤ v) ⊎ (v <ℤ u)
    go (yes h) d = inl ((place_lt u v hu hv).1 h)
    go (no h) (yes q) = inr ((place_lt v u hv hu).1 q)
    go (no h) (no q) = absurd (ne ((place_eq u v hu hv).1 (omega arith)))

pub point_in : (lo hi a b : ℤ) → in_range lo ≡ true → in_range hi ≡ true → in_range a ≡ true → in_range b ≡ true → (p : Fraction) (j : ℕ) → p.n ≡ j + p.k
    → Between lo hi p.n (along p.n p.k a b) → InCol 1 (place_of lo) (place_of hi) (j + p.k) (j * place_of a + p.k * place_of b)
point_in lo hi a b hl hh ha hb p j e x = (inside_place lo hi a b hl hh ha hb j p.k 1).0 (rw e at x)

module _ (L K : Lines) (l : LinesInRange L) (k : LinesInRange K) (room : Roomy K)
    (xs : List ℤ) (from n : ℕ) (r : RingInRange xs from n) (some : 0 < n) (kept : Tangled xs from n → ⊥) (held : Held L xs from n) where
  upright : Upright (box_of K)
  upright =
      let w = (place_lt K.west K.east k.west k.east).0 room.wide in
      let h = (place_lt K.south K.north k.south k.north).0 room.high in
      record { x = omega (arith, w); y = omega (arith, h) }

  -- it has the tile, unless that is absurd
  decide : ((RingHas K xs from n 4 → ⊥) → ⊥) → RingHas K xs from n 4
  decide f = go (ring_has (box_of K) xs from n 4) refl
    where
      means : (ring_has (box_of K) xs from n 4 ≡ true) ↔ RingHas K xs from n 4
      means = ring_means K k xs from n r 4 some upright (omega arith)

      go : (z : Bool) → ring_has (box_of K) xs from n 4 ≡ z → RingHas K xs from n 4
      go true h = means.0 h
      go false h = absurd (f (λ x. clash (ring_has (box_of K) xs from n 4) (means.1 x) h))

  beyond : (RingHas K xs from n 4 → ⊥) → Sides K xs from n
  beyond none = sides K k room.wide room.high xs from n r some kept none

  module _ (i : ℕ) (h : i < n) where
    abbrev A : Point
    A = corner xs from i

    abbrev B : Point
    B = after xs from n i

    a : PointInRange A
    a = r.at i h

    b : PointInRange B
    b = after_in_range xs from n i r h

    edge : (t : ℕ) → HasTile K A B t → RingHas K xs from n t
    edge t x = inl (i, h, x)

    pub edge_middle : Marks L K A B → RingHas K xs from n 4
    edge_middle (p, inside apart x y) =
        edge 4 (entered_has K A B 4 k a b upright apart (rest p) p.k
        (point_in K.west K.east A.x B.x k.west k.east a.x b.x p (rest p) (rest_sum p) x)
        (point_in K.south K.north A.y B.y k.south k.north a.y b.y p (rest p) (rest_sum p) y))
    edge_middle (p, east_of_it apart e x s y) = go s (ordered A.y B.y a.y b.y (λ f. apart (e, f)))
      where
        go : ToEast L A B → (A.y <ℤ B.y) ⊎ (B.y <ℤ A.y) → RingHas K xs from n 4
        go t (inl u) = edge 4 (p, going_north e u y (inl (x, room.wide, refl)))
        go (inr t) (inr u) = edge 4 (p, going_north e t.2 y (inl (x, room.wide, refl)))
        go (inl t) (inr u) =
            decide (λ none. let q = (beyond none).west (edge 3 (p, going_south e u y (inr (x, refl)))) (place_of L.west) held.west in
            omega (arith, q, ap place_of (sym x ∙ t)))
    edge_middle (p, west_of_it apart e x s y) = go s (ordered A.y B.y a.y b.y (λ f. apart (e, f)))
      where
        go : ToWest L A B → (A.y <ℤ B.y) ⊎ (B.y <ℤ A.y) → RingHas K xs from n 4
        go t (inr u) = edge 4 (p, going_south e u y (inl (x, room.wide, refl)))
        go (inr t) (inl u) = edge 4 (p, going_south e t.2 y (inl (x, room.wide, refl)))
        go (inl t) (inl u) =
            decide (λ none. let q = (beyond none).east (edge 5 (p, going_north e u y (inr (x, refl)))) (place_of L.east) held.east in
            omega (arith, q, ap place_of (sym x ∙ t)))
    edge_middle (p, north_of_it apart e y s x) = go s (ordered A.x B.x a.x b.x (λ f. apart (f, e)))
      where
        go : ToNorth L A B → (A.x <ℤ B.x) ⊎ (B.x <ℤ A.x) → RingHas K xs from n 4
        go t (inr u) = edge 4 (p, going_west e u x (inl (y, room.high, refl)))
        go (inr t) (inl u) = edge 4 (p, going_west e t.2 x (inl (y, room.high, refl)))
        go (inl t) (inl u) =
            decide (λ none. let q = (beyond none).south (edge 7 (p, going_east e u x (inr (y, refl)))) (place_of L.south) held.south in
            omega (arith, q, ap place_of (sym y ∙ t)))
    edge_middle (p, south_of_it apart e y s x) = go s (ordered A.x B.x a.x b.x (λ f. apart (f, e)))
      where
        go : ToSouth L A B → (A.x <ℤ B.x) ⊎ (B.x <ℤ A.x) → RingHas K xs from n 4
        go t (inl u) = edge 4 (p, going_east e u x (inl (y, room.high, refl)))
        go (inr t) (inr u) = edge 4 (p, going_east e t.2 x (inl (y, room.high, refl)))
        go (inl t) (inr u) =
            decide (λ none. let q = (beyond none).north (edge 1 (p, going_west e u x (inr (y, refl)))) (place_of L.north) held.north in
            omega (arith, q, ap place_of (sym y ∙ t)))
