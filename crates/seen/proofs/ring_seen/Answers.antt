-- The third clause adds B where the ring covers the box and encloses its centre, and nothing where it does not or B is there already.
use mathlib.Core.Path.{◌≡◌, refl, sym, ◌∙◌, ap}
use mathlib.Core.Bool.{true, false}
use mathlib.Core.List.{List}
use Prim.Native.Nat.{ℕ}
use native.Mathlib.Omega.{arith}
use lib.Bits.{bit_or}
use lib.IntN.{ℤ}
use Rattle.plane.specs.declared.Box.{Box}
use Rattle.plane.specs.TileSet.{set_of, bit}
use Rattle.plane.proofs.Logic.{clash, is_false}
use Rattle.plane.proofs.TileSet.{set_means}
use Rattle.seen.specs.declared.Seen.{Seen}
use Rattle.ring.specs.RingBox.{stretch_box, covers}
use Rattle.ring.specs.Enclosed.{encloses}
use Rattle.ring.specs.RingTiles.{edges_have, ring_has}
use Rattle.seen.specs.RingSeen.{edges_seen, ring_seen}
use Rattle.ring.proofs.RingBox.{covers_through}
use Rattle.seen.proofs.Pass.{without_centre, there_already, with_centre}
use Rattle.seen.proofs.ring_seen.Goals as goal
use Rattle.seen.proofs.ring_seen.Goals.{After-covers_box-2, After-edges_seen-s, After-encloses}

-- ---- with what the edges show
module _ (c : After-edges_seen-s) where
  abbrev b : Box
  b = c.args.b

  abbrev xs : List ℤ
  xs = c.args.ring.now.outline.now

  abbrev from : ℕ
  from = c.args.ring.now.from

  abbrev n : ℕ
  n = c.args.ring.now.size

  abbrev Answer : Seen → Type 0
  Answer s = s ≡ ring_seen b xs from n

  -- nothing is added
  same_set : set_of (edges_have b xs from n) 9 ≡ set_of (ring_has b xs from n) 9 → Answer c.edges_seen-s.result
  same_set q = c.edges_seen-s.ensures ∙ (λ i. record { set = q i; pieces = (edges_seen b xs from n).pieces })

  already : bit c.edges_seen-s.result.set 4 ≡ 1 → Answer c.edges_seen-s.result
  already h =
      same_set (there_already b xs from n ((set_means (edges_have b xs from n) 9 4 (omega arith)).0 (ap (λ (s : Seen). bit s.set 4) (sym c.edges_seen-s.ensures) ∙ h)))

  -- B is added
  with_b : covers (stretch_box xs from n) b ≡ true → encloses b xs from n ≡ true → Answer (record { set = bit_or c.edges_seen-s.result.set 16; pieces = c.edges_seen-s.result.pieces })
  with_b h i =
      ap (λ (s : Seen). record { set = bit_or s.set 16; pieces = s.pieces }) c.edges_seen-s.ensures
      ∙ (λ j. record { set = with_centre b xs from n (rw (h, i) refl) j; pieces = (edges_seen b xs from n).pieces })

pub returns-then-s-eq1 : goal.returns-then-s-eq1
returns-then-s-eq1 c = already (goal.at.returns-then-s-eq1 c).After-edges_seen-s c.if-s-eq1.true

-- where the box handed over does not cover b, the ring's own does not
pub returns-then-not-covers_box : goal.returns-then-not-covers_box
returns-then-not-covers_box c =
    let s = (goal.at.returns-then-not-covers_box c).After-edges_seen-s in
    let far : covers c.args.own (b s) ≡ false = sym c.covers_box.ensures ∙ c.if-not-covers_box.true in
    let none : covers (stretch_box (xs s) (from s) (n s)) (b s) ≡ false =
    is_false _ (λ h. clash _ (covers_through c.args.own (stretch_box (xs s) (from s) (n s)) (b s) c.requires.3 h) far) in
    same_set s (without_centre (b s) (xs s) (from s) (n s) (rw none refl))

-- ---- with whether the ring covers the box
module _ (c : After-covers_box-2) where
  abbrev edges : After-edges_seen-s
  edges = (goal.at.After-covers_box-2 c).After-edges_seen-s

  covering : c.covers_box-2.result ≡ covers (stretch_box (xs edges) (from edges) (n edges)) (b edges)
  covering = c.covers_box-2.ensures ∙ ap (λ (k : Box). covers k (b edges)) c.own_box.ensures

pub returns-then-not-covers_box-2 : goal.returns-then-not-covers_box-2
returns-then-not-covers_box-2 c =
    let s = (goal.at.returns-then-not-covers_box-2 c).After-covers_box-2 in
    let e = edges s in
    same_set e (without_centre (b e) (xs e) (from e) (n e) (rw (sym (covering s) ∙ c.if-not-covers_box-2.true) refl))

-- ---- with whether it encloses the centre
module _ (c : After-encloses) where
  covered : let e = edges (goal.at.After-encloses c).After-covers_box-2 in covers (stretch_box (xs e) (from e) (n e)) (b e) ≡ true
  covered = sym (covering (goal.at.After-encloses c).After-covers_box-2) ∙ c.if-not-covers_box-2.false

pub returns-then-not-encloses : goal.returns-then-not-encloses
returns-then-not-encloses c =
    let e = edges (goal.at.returns-then-not-encloses c).After-covers_box-2 in
    same_set e (without_centre (b e) (xs e) (from e) (n e) (rw (covered (goal.at.returns-then-not-encloses c).After-encloses, sym c.encloses.ensures ∙ c.if-not-encloses.true) refl))

pub returns : goal.returns
returns c =
    with_b (edges (goal.at.returns c).After-covers_box-2) (covered (goal.at.returns c).After-encloses) (sym c.encloses.ensures ∙ c.if-not-encloses.false)
