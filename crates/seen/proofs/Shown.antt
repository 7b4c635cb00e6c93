-- What the pass shows by classes is what the ring's edges show.
--   seen_none, seen_step    before the first edge, and with one edge more;  seen_few  no edge has more than five pieces
--   seen_set                the set is one of nine tiles
--   class_few               a class is one of 25
--   classing_in_places      the lines of the classing box are places
--   seen_all                after all edges
use mathlib.Core.Path.{◌≡◌, refl, sym, ◌∙◌, ap, ap₂}
use mathlib.Core.Bool.{Bool, true, false}
use mathlib.Core.List.{List}
use Prim.Native.Nat.{ℕ, zero, suc, ◌+◌, ◌-◌, ◌*◌, ◌≤◌, ◌<◌, max}
use native.Mathlib.Omega.{arith}
use native.Mathlib.Decide.{ℕ_discrete}
use borrow.Author.Tests.{eq-eqb}
use lib.Bits.{bit_or}
use lib.Dec.{eqb}
use lib.IntN.{ℤ}
use Rattle.plane.specs.Choice.{pick}
use Rattle.plane.specs.Folds.{any_to, sum_to}
use Rattle.plane.specs.Place.{place_of}
use Rattle.plane.specs.Placed.{BoxInPlaces, Upright}
use Rattle.plane.specs.Points.{Point}
use Rattle.plane.specs.declared.Box.{Box}
use Rattle.plane.specs.declared.Edge.{Edge}
use Rattle.plane.proofs.Logic.{both, never, is_false, and_means, eq_means}
use Rattle.plane.proofs.Folds.{any_means, sum_none, sum_step, sum_le, sum_same}
use Rattle.plane.proofs.TileSet.{set_lt, set_same, any_set_none, any_set_more}
use Rattle.edge.specs.TileList.{count_in, stands_in}
use Rattle.edge.specs.declared.Walk.{Walk}
use Rattle.edge.specs.Walk.{list_of}
use Rattle.edge.specs.Drawn.{has, pieces, drawn}
use Rattle.edge.proofs.Weights.{EqualEnds}
use Rattle.edge.proofs.Belongs.{equal_ends_lem}
use Rattle.edge.proofs.TileList.{count_most, count_none}
use Rattle.edge.proofs.WalkSteps.{list_none}
use Rattle.edge.proofs.WalkPlaces.{has_none}
use Rattle.classes.specs.Classes.{vertex_class, start_class, end_class, list_by}
use Rattle.classes.proofs.Classes.{vertex_class_le}
use Rattle.classes.proofs.Told.{list_open, list_by_lem, one_by, start_by}
use Rattle.classes.proofs.Starts.{starts_in}
use Rattle.ring.specs.Edges.{corner, after, ring_edge}
use Rattle.ring.specs.Stretch.{Stretch}
use Rattle.ring.specs.Repeated.{equal_ends}
use Rattle.ring.specs.RingTiles.{edges_have, ring_pieces}
use Rattle.seen.specs.RingSeen.{edges_seen}
use Rattle.seen.specs.Pass.{edge_to, nowhere, classing_box, corner_class, list_into, seen_to}
use Rattle.seen.specs.declared.Seen.{Seen}
use Rattle.ring.proofs.Edges.{after_inner, after_last}
use Rattle.ring.proofs.Stretch.{edge_in_places}
use Rattle.seen.proofs.Pass.{edge_to_low, edge_to_ends, sum_round, any_round}

-- ---- edge by edge
module _ (b : Box) (xs : List ℤ) (from n : ℕ) where
  abbrev tiles : ℕ → ℕ → Bool
  tiles k t = stands_in (list_into b xs from n k) t

  abbrev count : ℕ → ℕ
  count k = max 1 (count_in (list_into b xs from n k))

  pub seen_none : ◌≡◌ {A = Seen} (record { set = 0; pieces = 0 }) (seen_to b xs from n 0)
  unfolding seen_to
  seen_none = λ i. record { set = any_set_none tiles 9 i; pieces = sum_none count i }

  seen_more : (k : ℕ) → ◌≡◌ {A = Seen}
      (record {
        set = bit_or (seen_to b xs from n k).set (drawn (list_into b xs from n k)).set;
        pieces = (seen_to b xs from n k).pieces + (drawn (list_into b xs from n k)).pieces;
      }) (seen_to b xs from n (k + 1))
  unfolding seen_to
  seen_more k = λ i. record { set = any_set_more tiles 9 k i; pieces = sum_step count k i }

  -- with the walk of that edge, by the classes of its ends
  pub seen_step : (k set sum first last : ℕ) (w : Walk)
      → first ≡ corner_class (classing_box b xs from n) xs from (edge_to n k) → last ≡ corner_class (classing_box b xs from n) xs from k
      → w ≡ drawn (list_by b first last (ring_edge xs from n (edge_to n k)))
      → set ≡ (seen_to b xs from n k).set → sum ≡ (seen_to b xs from n k).pieces
      → (bit_or set w.set ≡ (seen_to b xs from n (k + 1)).set) × (sum + w.pieces ≡ (seen_to b xs from n (k + 1)).pieces)
  unfolding list_into
  seen_step k set sum first last w ef el ew es ep =
      let v = ew ∙ ap₂ (λ (f l : ℕ). drawn (list_by b f l (ring_edge xs from n (edge_to n k)))) ef el in (
        ap₂ bit_or es (ap (λ (w : Walk). w.set) v) ∙ ap (λ (s : Seen). s.set) (seen_more k),
        ap₂ ◌+◌ ep (ap (λ (w : Walk). w.pieces) v) ∙ ap (λ (s : Seen). s.pieces) (seen_more k),
      )

  pub seen_few : (k : ℕ) → (seen_to b xs from n k).pieces ≤ k * 5
  unfolding seen_to
  seen_few k = sum_le count k 5 (λ i l. omega (arith, count_most (list_into b xs from n i)))

  pub seen_set : (k : ℕ) → (seen_to b xs from n k).set < 512
  unfolding seen_to
  seen_set k = set_lt (λ t. any_to (λ i. tiles i t) k) 9

pub class_few : (c : Box) (xs : List ℤ) (from k : ℕ) → corner_class c xs from k ≤ 24
class_few c xs from k = vertex_class_le c (place_of (corner xs from k).x) (place_of (corner xs from k).y)

pub classing_in_places : (b : Box) (xs : List ℤ) (from n : ℕ) → BoxInPlaces b → BoxInPlaces (classing_box b xs from n)
unfolding classing_box
classing_in_places b xs from n h = go (equal_ends (ring_edge xs from n 0))
  where
    go : (t : Bool) → BoxInPlaces (pick t nowhere b)
    go true = record { west = omega arith; south = omega arith; east = omega arith; north = omega arith }
    go false = h

-- ---- a ring whose first edge has different ends
equal_test : (g : Edge) → equal_ends g ≡ true → EqualEnds g
unfolding equal_ends
equal_test g h = let p = (and_means (eqb g.ax g.bx) (eqb g.ay g.by)).0 h in ((eq_means g.ax g.bx).0 p.0, (eq_means g.ay g.by).0 p.1)

abbrev SameStart : Edge → Edge → Type 0
SameStart g h = (g.ax ≡ h.ax) × (g.ay ≡ h.ay)

test_equal : (g : Edge) → EqualEnds g → equal_ends g ≡ true
unfolding equal_ends
test_equal g q = simp (eq-eqb g.ax g.bx q.0, eq-eqb g.ay g.by q.1)

module _ (b : Box) (xs : List ℤ) (from n : ℕ) (hb : BoxInPlaces b) (up : Upright b) (stretch : Stretch xs from n) where
  abbrev edge : ℕ → Edge
  edge k = ring_edge xs from n k

  -- an edge goes on from where the edge before it ends
  starts_at : (k : ℕ) (A : Point) → after xs from n k ≡ A → EqualEnds (edge k) → (j : ℕ) → corner xs from j ≡ A → SameStart (edge j) (edge k)
  unfolding ring_edge
  starts_at k A e q j f =
      let p = f ∙ sym e in
      (ap (λ (P : Point). place_of P.x) p ∙ sym q.0, ap (λ (P : Point). place_of P.y) p ∙ sym q.1)

  module _ (first : EqualEnds (edge 0) → ⊥) where
    abbrev MovesOn : ℕ → Type 0
    MovesOn k = (j : ℕ) × (j < n) × (EqualEnds (edge j) → ⊥) × SameStart (edge j) (edge k)

    -- going on from vertex k, some edge leaves its place
    moves_on : (d k : ℕ) → k + d ≡ n → k < n → MovesOn k
    moves_on zero k e h = absurd (omega arith)
    moves_on (suc d) k e h =
        elim (equal_ends_lem (edge k)) [
          | no q ↦ (k, h, q, (refl, refl))
          | yes q ↦ elim (ℕ_discrete (k + 1) n) [
            | yes p ↦ (0, omega arith, first, starts_at k (corner xs from 0) (after_last xs from n k p) q 0 refl)
            | no p ↦
                let m = moves_on d (k + 1) (omega arith) (omega arith) in
                let s = starts_at k (corner xs from (k + 1)) (after_inner xs from n k (omega arith)) q (k + 1) refl in
                (m.0, m.1, m.2, (m.3.0 ∙ s.0, m.3.1 ∙ s.1))
          ]
        ]

    module _ (k : ℕ) (h : k < n) where
      abbrev g : Edge
      g = edge (edge_to n k)

      low : edge_to n k < n
      low = edge_to_low n k h

      abbrev by : ℕ
      by = list_by b (start_class b g) (end_class b g) g

      into : list_into b xs from n k ≡ by
      unfolding list_into classing_box ring_edge
      into =
          rw (is_false (equal_ends (edge 0)) (λ e. first (equal_test (edge 0) e)))
          (ap (λ (A : Point). list_by b (corner_class b xs from (edge_to n k)) (vertex_class b (place_of A.x) (place_of A.y)) g) (sym (edge_to_ends xs from n k h)))

      count_by : max 1 (count_in by) ≡ pieces b g
      unfolding pieces
      count_by =
          elim (equal_ends_lem g) [
            | yes q ↦ one_by b g q ∙ sym (ap (λ (v : ℕ). max 1 (count_in v)) (list_none b g q) ∙ ap (max 1) count_none)
            | no q ↦ ap (λ (v : ℕ). max 1 (count_in v)) (list_by_lem b g q)
          ]

      -- a tile that is shown is a tile of some edge
      shown : (t : ℕ) → t < 9 → stands_in by t ≡ true → (j : ℕ) × (j < n) × (has b (edge j) t ≡ true)
      unfolding has
      shown t l s =
          elim (equal_ends_lem g) [
            | yes q ↦
                let p = start_by b g q t l s in
                let m = moves_on (n - edge_to n k) (edge_to n k) (omega (arith, low)) low in
                (m.0, m.1, starts_in b (edge m.0) hb (edge_in_places stretch m.1) up m.2 t l (rw m.3.0 p.0) (rw m.3.1 p.1))
            | no q ↦ (edge_to n k, low, ap (λ (v : ℕ). stands_in v t) (sym (list_by_lem b g q)) ∙ s)
          ]

      -- and each tile of the edge is shown
      had : (t : ℕ) → has b g t ≡ true → stands_in by t ≡ true
      unfolding has
      had t s =
          elim (equal_ends_lem g) [
            | yes q ↦ never (sym (has_none b g q t) ∙ s)
            | no q ↦ ap (λ (v : ℕ). stands_in v t) (list_by_lem b g q) ∙ s
          ]

    seen_told : seen_to b xs from n n ≡ edges_seen b xs from n
    unfolding seen_to edges_have ring_pieces
    seen_told = λ i. record { set = set_same _ _ 9 tile i; pieces = count_all i }
      where
        tile : (t : ℕ) → t < 9 → any_to (λ k. stands_in (list_into b xs from n k) t) n ≡ any_to (λ k. has b (edge k) t) n
        tile t l =
            both _ _ (
              λ e.
                  let x = (any_means (λ k. stands_in (list_into b xs from n k) t) n).0 e in
                  (any_means (λ k. has b (edge k) t) n).1 (shown x.0 x.1 t l (ap (λ (v : ℕ). stands_in v t) (sym (into x.0 x.1)) ∙ x.2)),
              λ e.
                  let x = (any_means (λ k. has b (edge (edge_to n k)) t) n).0 (any_round (λ k. has b (edge k) t) n ∙ e) in
                  (any_means (λ k. stands_in (list_into b xs from n k) t) n).1 (x.0, x.1, ap (λ (v : ℕ). stands_in v t) (into x.0 x.1) ∙ had x.0 x.1 t x.2),
            )

        count_all : sum_to (λ k. max 1 (count_in (list_into b xs from n k))) n ≡ sum_to (λ k. pieces b (edge k)) n
        count_all =
            sum_same _ (λ k. pieces b (edge (edge_to n k))) n (λ k l. ap (λ (v : ℕ). max 1 (count_in v)) (into k l) ∙ count_by k l)
            ∙ sum_round (λ k. pieces b (edge k)) n

-- ---- any ring
module _ (b : Box) (xs : List ℤ) (from n : ℕ) where
  -- the first edge has equal ends: every edge is left open
  list_walked : equal_ends (ring_edge xs from n 0) ≡ true → (k : ℕ) → list_into b xs from n k ≡ list_of b (ring_edge xs from n (edge_to n k))
  unfolding list_into classing_box vertex_class
  list_walked q k = rw q (list_open b (ring_edge xs from n (edge_to n k)))

  seen_walked : equal_ends (ring_edge xs from n 0) ≡ true → seen_to b xs from n n ≡ edges_seen b xs from n
  unfolding seen_to edges_have ring_pieces has pieces
  seen_walked q =
      λ i. record {
        set = set_same _ _ 9 (λ t l. ap (λ (f : ℕ → ℕ). any_to (λ k. stands_in (f k) t) n) lists ∙ any_round (λ k. has b (ring_edge xs from n k) t) n) i;
        pieces = (ap (λ (f : ℕ → ℕ). sum_to (λ k. max 1 (count_in (f k))) n) lists ∙ sum_round (λ k. pieces b (ring_edge xs from n k)) n) i;
      }
    where
      lists : list_into b xs from n ≡ (λ k. list_of b (ring_edge xs from n (edge_to n k)))
      lists = λ i k. list_walked q k i

  pub seen_all : BoxInPlaces b → Upright b → Stretch xs from n → seen_to b xs from n n ≡ edges_seen b xs from n
  seen_all hb up stretch = go (equal_ends (ring_edge xs from n 0)) refl
    where
      go : (t : Bool) → equal_ends (ring_edge xs from n 0) ≡ t → seen_to b xs from n n ≡ edges_seen b xs from n
      go true e = seen_walked e
      go false e = seen_told b xs from n hb up stretch (λ q. never (sym e ∙ test_equal (ring_edge xs from n 0) q))
