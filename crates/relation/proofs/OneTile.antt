-- A region whose box one tile holds, where its first edge runs at all: it has that tile and no other, and each of its edges is one piece.
--   told_none, told_flat, told_tile    the three answers of the search for that tile
--   held_answer    so its relation and its pieces are known, as code answers them
use mathlib.Core.Path.{◌≡◌, refl, sym, ◌∙◌, ap, ap₂}
use mathlib.Core.Logic.{◌≢◌}
use mathlib.Core.Bool.{Bool, true, false}
use Prim.Native.Nat.{ℕ, zero, suc, ◌+◌, ◌-◌, ◌*◌, ◌%◌, ◌^◌, ◌≤◌, ◌<◌}
use native.Mathlib.Omega.{arith}
use native.Mathlib.Nat.{zero-add}
use native.Mathlib.Decide.{dec_lt}
use lib.Dec.{ltb, leb, eqb}
use lib.ListN.{length}
use borrow.Author.Tests.{lt-ltb, le-ltb, le-leb, lt-leb, eqb-true, eq-eqb}
use Rattle.plane.specs.Choice.{pick}
use Rattle.plane.specs.Place.{place_of}
use Rattle.plane.specs.Points.{vertex}
use Rattle.plane.specs.Placed.{Upright}
use Rattle.plane.specs.Folds.{all_to, sum_to}
use Rattle.plane.specs.TileSet.{one_if, set_of}
use Rattle.plane.specs.declared.Box.{Box}
use Rattle.plane.specs.declared.Edge.{Edge}
use Rattle.plane.proofs.Logic.{clash, and_means, both, eq_means}
use Rattle.plane.proofs.Folds.{all_at, any_means, least_le, greatest_ge}
use Rattle.plane.proofs.TileSet.{one_le, bit_le, set_same}
use Rattle.edge.specs.Walk.{tile_of}
use Rattle.edge.proofs.Weights.{InCol, EqualEnds}
use Rattle.edge.proofs.OneTile.{tile_lt}
use Rattle.seen.specs.declared.Seen.{Seen}
use Rattle.ring.specs.Edges.{ring_edge}
use Rattle.ring.specs.RingBox.{stretch_box}
use Rattle.ring.specs.Repeated.{equal_ends}
use Rattle.ring.specs.RingTiles.{ring_has, ring_pieces}
use Rattle.ring.proofs.OneTile.{RingIn, in_tile_has, in_tile_only, in_tile_pieces}
use Rattle.region.specs.Region.{Region, start_of, size_of, last_end}
use Rattle.region.specs.Rules.{Keeps}
use Rattle.region.proofs.Ends.{size_least, ring_in_last}
use Rattle.region.proofs.Keeps.{keeps_fewer, Sized, sized}
use Rattle.relation.specs.Relation.{region_box, region_has, relation_of, region_pieces, region_seen}
use Rattle.relation.specs.OneTile.{lines_before, lines_up_to, tile_around, tile_holding}

-- ---- one axis
before_le : (lo hi x : ℕ) → lines_before lo hi x ≤ 2
unfolding lines_before
before_le lo hi x = omega (arith, one_le (ltb lo x), one_le (ltb hi x))

up_to_le : (lo hi x : ℕ) → lines_up_to lo hi x ≤ 2
unfolding lines_up_to
up_to_le lo hi x = omega (arith, one_le (leb lo x), one_le (leb hi x))

-- every line comes before all from `least` to `greatest`, or after
holds : (lo hi least greatest : ℕ) → lo ≤ hi → lines_before lo hi least ≡ lines_up_to lo hi greatest → (x : ℕ) → least ≤ x → x ≤ greatest → InCol (lines_before lo hi least) lo hi 1 x
unfolding lines_before lines_up_to
holds lo hi least greatest le same x p q = go (dec_lt lo least) (dec_lt hi least) (dec_lt greatest lo) (dec_lt greatest hi)
  where
    told : (s t u v : Bool) → ltb lo least ≡ s → ltb hi least ≡ t → leb lo greatest ≡ u → leb hi greatest ≡ v
        → (one_if s + one_if t ≡ one_if u + one_if v → InCol (one_if s + one_if t) lo hi 1 x) → InCol (one_if (ltb lo least) + one_if (ltb hi least)) lo hi 1 x
    told s t u v d e f g h = rw (d, e) (h (ap₂ (λ (m n : Bool). one_if m + one_if n) (sym d) (sym e) ∙ same ∙ ap₂ (λ (m n : Bool). one_if m + one_if n) f g))

    go : Dec (lo < least) → Dec (hi < least) → Dec (greatest < lo) → Dec (greatest < hi) → InCol (one_if (ltb lo least) + one_if (ltb hi least)) lo hi 1 x
    go (yes a) (yes b) (yes c) d = absurd (omega arith)
    go (yes a) (yes b) (no c) (yes d) = absurd (omega arith)
    go (yes a) (yes b) (no c) (no d) = told true true true true (lt-ltb lo least a) (lt-ltb hi least b) (le-leb lo greatest (omega arith)) (le-leb hi greatest (omega arith)) (λ e. omega arith)
    go (yes a) (no b) (yes c) d = absurd (omega arith)
    go (yes a) (no b) (no c) (yes d) = told true false true false (lt-ltb lo least a) (le-ltb hi least (omega arith)) (le-leb lo greatest (omega arith)) (lt-leb hi greatest d) (λ e. (omega arith, omega arith))
    go (yes a) (no b) (no c) (no d) = told true false true true (lt-ltb lo least a) (le-ltb hi least (omega arith)) (le-leb lo greatest (omega arith)) (le-leb hi greatest (omega arith)) (λ e. absurd (omega (arith, e)))
    go (no a) (yes b) c d = absurd (omega arith)
    go (no a) (no b) (yes c) (yes d) = told false false false false (le-ltb lo least (omega arith)) (le-ltb hi least (omega arith)) (lt-leb lo greatest c) (lt-leb hi greatest d) (λ e. omega arith)
    go (no a) (no b) (yes c) (no d) = absurd (omega arith)
    go (no a) (no b) (no c) (yes d) = told false false true false (le-ltb lo least (omega arith)) (le-ltb hi least (omega arith)) (le-leb lo greatest (omega arith)) (lt-leb hi greatest d) (λ e. absurd (omega (arith, e)))
    go (no a) (no b) (no c) (no d) = told false false true true (le-ltb lo least (omega arith)) (le-ltb hi least (omega arith)) (le-leb lo greatest (omega arith)) (le-leb hi greatest (omega arith)) (λ e. absurd (omega (arith, e)))

-- ---- the set of one tile
lone_sets : all_to (λ t. eqb (2 ^ t) (set_of (λ u. eqb u t) 9)) 9 ≡ true
unfolding all_to set_of
lone_sets = refl

lone_set : (t : ℕ) → t < 9 → 2 ^ t ≡ set_of (λ u. eqb u t) 9
lone_set t h = (eq_means _ _).0 (all_at (λ t. eqb (2 ^ t) (set_of (λ u. eqb u t) 9)) 9 t lone_sets h)

-- ---- the region
module _ {R : Region} (kept : Keeps 4 R) (b : Box) (up : Upright b) where
  sizes : Sized R
  sizes = sized (keeps_fewer (omega arith) kept)

  abbrev own : Box
  own = region_box R

  abbrev column : ℕ
  column = lines_before b.west b.east own.west

  abbrev row : ℕ
  row = lines_before b.south b.north own.south

  abbrev to_column : ℕ
  to_column = lines_up_to b.west b.east own.east

  abbrev to_row : ℕ
  to_row = lines_up_to b.south b.north own.north

  cl : column < 3
  cl = omega (arith, before_le b.west b.east own.west)

  rl : row < 3
  rl = omega (arith, before_le b.south b.north own.south)

  abbrev tile : ℕ
  tile = tile_of column row

  module _ (one-column : column ≡ to_column) (one-row : row ≡ to_row) where
    in_column : (i : ℕ) → i < last_end R.ends → InCol column b.west b.east 1 (place_of (vertex R.coordinates i).x)
    unfolding region_box stretch_box
    in_column i l =
        let f : ℕ → ℕ = λ j. place_of (vertex R.coordinates (0 + j)).x in
        let z = ap (λ (j : ℕ). place_of (vertex R.coordinates j).x) (zero-add i) in
        holds b.west b.east own.west own.east up.x one-column _
        (rw z at (least_le f (last_end R.ends - 1) i (omega arith))) (rw z at (greatest_ge f (last_end R.ends - 1) i (omega arith)))

    in_row : (i : ℕ) → i < last_end R.ends → InCol row b.south b.north 1 (place_of (vertex R.coordinates i).y)
    unfolding region_box stretch_box
    in_row i l =
        let f : ℕ → ℕ = λ j. place_of (vertex R.coordinates (0 + j)).y in
        let z = ap (λ (j : ℕ). place_of (vertex R.coordinates j).y) (zero-add i) in
        holds b.south b.north own.south own.north up.y one-row _
        (rw z at (least_le f (last_end R.ends - 1) i (omega arith))) (rw z at (greatest_ge f (last_end R.ends - 1) i (omega arith)))

    -- ---- its rings
    module _ (r : ℕ) (l : r < length R.ends) where
      abbrev from : ℕ
      from = start_of R.ends r

      abbrev size : ℕ
      size = size_of R.ends r

      ring_in : RingIn b column row R.coordinates from size
      ring_in =
          let e = ring_in_last R.ends sizes.grown r l in
          record { column = λ i h m. in_column i (omega arith); row = λ i h m. in_row i (omega arith) }

      ring_some : 0 < size
      ring_some = omega (arith, size_least R.ends sizes.grown r l)

      ring_only : (t : ℕ) → t < 9 → ring_has b R.coordinates from size t ≡ true → t ≡ tile
      ring_only = in_tile_only b up column row cl rl R.coordinates from size ring_some ring_in

      ring_pieces_lem : ring_pieces b R.coordinates from size ≡ size
      ring_pieces_lem = in_tile_pieces b up column row cl rl R.coordinates from size ring_some ring_in

    pieces_so_far : (n : ℕ) → n ≤ length R.ends → sum_to (λ r. ring_pieces b R.coordinates (start_of R.ends r) (size_of R.ends r)) n ≡ start_of R.ends n
    unfolding sum_to
    pieces_so_far zero h = refl
    pieces_so_far (suc n) h = omega (arith, pieces_so_far n (omega arith), ring_pieces_lem n h, sizes.grown n h)

    held_pieces : last_end R.ends ≡ region_pieces b R
    unfolding region_pieces
    held_pieces = sym (pieces_so_far (length R.ends) (omega arith))

    -- ---- its first edge runs
    module _ (runs : EqualEnds (ring_edge R.coordinates 0 (size_of R.ends 0) 0) → ⊥) where
      held_has : (t : ℕ) → t < 9 → region_has b R t ≡ eqb t tile
      unfolding region_has
      held_has t h =
          both (region_has b R t) (eqb t tile) (
            λ e. let x = (any_means (rings t) (length R.ends)).0 e in eq-eqb t tile (ring_only x.0 x.1 t h x.2),
            λ e. (any_means (rings t) (length R.ends)).1 (0, sizes.some, rw (eqb-true t tile e) (in_tile_has b up column row cl rl R.coordinates 0 (size_of R.ends 0) (ring_some 0 sizes.some) (ring_in 0 sizes.some) 0 (ring_some 0 sizes.some) runs)),
          )
        where
          rings : ℕ → ℕ → Bool
          rings t r = ring_has b R.coordinates (start_of R.ends r) (size_of R.ends r) t

      held_relation : 2 ^ tile ≡ relation_of b R
      unfolding relation_of
      held_relation = lone_set tile (tile_lt column row cl rl) ∙ sym (set_same (region_has b R) (λ u. eqb u tile) 9 held_has)

  -- ---- as the code asks
  module _ (none : tile_around b own ≢ 9) where
    held : (column ≡ to_column) × (row ≡ to_row) × (tile_around b own ≡ tile)
    unfolding tile_around
    held = go (eqb (3 * column + row) (3 * to_column + to_row)) refl none
      where
        apart : (c r d s : ℕ) → c ≤ 2 → r ≤ 2 → d ≤ 2 → s ≤ 2 → 3 * c + r ≡ 3 * d + s → (c ≡ d) × (r ≡ s)
        apart c r d s hc hr hd hs e = (omega arith, omega arith)

        go : (t : Bool) → eqb (3 * column + row) (3 * to_column + to_row) ≡ t → pick t tile 9 ≢ 9 → (column ≡ to_column) × (row ≡ to_row) × (pick t tile 9 ≡ tile)
        go true e n =
            let p = apart column row to_column to_row (before_le _ _ _) (before_le _ _ _) (up_to_le _ _ _) (up_to_le _ _ _) (eqb-true _ _ e) in
            (p.0, p.1, refl)
        go false e n = absurd (n refl)

    held_tile : tile_around b own < 9
    held_tile = omega (arith, held.2, tile_lt column row cl rl)

    held_seen : (EqualEnds (ring_edge R.coordinates 0 (size_of R.ends 0) 0) → ⊥)
        → ◌≡◌ {A = Seen} (record { set = 2 ^ tile_around b own; pieces = last_end R.ends }) (region_seen b R)
    held_seen runs =
        let h = held in
        λ i. record { set = (ap (λ (t : ℕ). 2 ^ t) h.2 ∙ held_relation h.0 h.1 runs) i; pieces = held_pieces h.0 h.1 i }

-- the set of one tile as code makes it
one_bit : (t : ℕ) → t < 9 → 1 * 2 ^ t % 65536 ≡ 2 ^ t
one_bit t h = small (2 ^ t) (bit_le t h)
  where
    small : (s : ℕ) → s ≤ 256 → 1 * s % 65536 ≡ s
    small s l = omega arith

apart : (g : Edge) → equal_ends g ≡ false → EqualEnds g → ⊥
unfolding equal_ends
apart g e q = clash _ ((and_means (eqb g.ax g.bx) (eqb g.ay g.by)).1 (eq-eqb _ _ q.0, eq-eqb _ _ q.1)) e

-- ---- as the code tells it
module _ (b own : Box) (R : Region) where
  abbrev flat : Bool
  flat = equal_ends (ring_edge R.coordinates 0 (size_of R.ends 0) 0)

  pub told_none : tile_around b own ≡ 9 → 9 ≡ tile_holding b own R
  unfolding tile_holding
  told_none e = go flat
    where
      go : (t : Bool) → 9 ≡ pick t 9 (tile_around b own)
      go true = refl
      go false = sym e

  pub told_flat : flat ≡ true → 9 ≡ tile_holding b own R
  unfolding tile_holding
  told_flat e = simp e

  pub told_tile : flat ≡ false → tile_around b own ≡ tile_holding b own R
  unfolding tile_holding
  told_tile e = simp e

  told : tile_holding b own R ≢ 9 → (flat ≡ false) × (tile_holding b own R ≡ tile_around b own)
  unfolding tile_holding
  told n = go flat refl n
    where
      go : (t : Bool) → flat ≡ t → pick t 9 (tile_around b own) ≢ 9 → (t ≡ false) × (pick t 9 (tile_around b own) ≡ tile_around b own)
      go true e m = absurd (m refl)
      go false e m = (refl, refl)

pub held_answer : {R : Region} → Keeps 4 R → (b : Box) → Upright b → (own : Box) → own ≡ region_box R → (tile : ℕ) → tile ≡ tile_holding b own R → tile ≢ 9
    → (last : ℕ) → last ≡ last_end R.ends → ◌≡◌ {A = Seen} (record { set = 1 * 2 ^ tile % 65536; pieces = last }) (region_seen b R)
held_answer {R} kept b up own e tile t some last l =
    let h = told b own R (λ q. some (t ∙ q)) in
    let is : tile ≡ tile_around b (region_box R) = t ∙ h.1 ∙ ap (tile_around b) e in
    let none : tile_around b (region_box R) ≢ 9 = λ q. some (is ∙ q) in
    (λ i. record { set = (ap (λ (u : ℕ). 1 * 2 ^ u % 65536) is ∙ one_bit (tile_around b (region_box R)) (held_tile kept b up none)) i; pieces = l i })
    ∙ held_seen kept b up none (apart (ring_edge R.coordinates 0 (size_of R.ends 0) 0) h.0)
