-- An edge with different ends has the tile that its start lies strictly inside: a point of it close to the start lies in it too.
--   starts_in    so
use mathlib.Core.Path.{◌≡◌}
use mathlib.Core.Bool.{Bool, true, false}
use Prim.Native.Nat.{ℕ, zero, suc, ◌+◌, ◌*◌, ◌≤◌, ◌<◌}
use native.Mathlib.Omega.{arith}
use lib.Dec.{ltb, eqb}
use Rattle.plane.specs.Choice.{pick}
use Rattle.plane.specs.Placed.{EdgeInPlaces, BoxInPlaces, Upright}
use Rattle.plane.specs.Tiles.{column_of, row_of}
use Rattle.plane.specs.declared.Box.{Box}
use Rattle.plane.specs.declared.Edge.{Edge}
use Rattle.edge.specs.Drawn.{has}
use Rattle.edge.proofs.MovedEdge.{moved, doubled_box, moved_edge}
use Rattle.edge.proofs.Weights.{InCol, EqualEnds}
use Rattle.edge.proofs.WalkPlaces.{has_meets}
use Rattle.classes.proofs.Classes.{Strictly}

moved_le : (p q u v : ℕ) → moved p q u v ≤ 2
unfolding moved
moved_le p q u v = go (eqb p q) (ltb u v) (ltb v u)
  where
    go : (r s t : Bool) → pick {A = ℕ} r (pick {A = ℕ} s 2 (pick {A = ℕ} t 0 1)) 1 ≤ 2
    go true true t = omega arith
    go true false true = omega arith
    go true false false = omega arith
    go false s t = omega arith

-- a 5,000,001st of the way along the doubled edge, which is moved by m
near : (c lo hi a b m : ℕ) → Strictly c lo hi a → lo ≤ 2000000 → hi ≤ 2000000 → b ≤ 2000000 → m ≤ 2
    → InCol c (2 * lo + 1) (2 * hi + 1) (5000000 + 1) (5000000 * (2 * a + m) + 1 * (2 * b + m))
near zero lo hi a b m s hl hh hb hm = omega arith
near (suc zero) lo hi a b m s hl hh hb hm = (omega (arith, s.0), omega (arith, s.1))
near (suc (suc c)) lo hi a b m s hl hh hb hm = omega arith

pub starts_in : (b : Box) (g : Edge) → BoxInPlaces b → EdgeInPlaces g → Upright b → (EqualEnds g → ⊥) → (t : ℕ) → t < 9
    → Strictly (column_of t) b.west b.east g.ax → Strictly (row_of t) b.south b.north g.ay → has b g t ≡ true
unfolding doubled_box moved_edge
starts_in b g hb hg up ns t l x y =
    (has_meets b g up ns t l).1
    (record {
      j = 5000000;
      k = 1;
      j_pos = omega arith;
      k_pos = omega arith;
      column = near (column_of t) b.west b.east g.ax g.bx (moved g.ax g.bx g.ay g.by) x hb.west hb.east hg.bx (moved_le _ _ _ _);
      row = near (row_of t) b.south b.north g.ay g.by (moved g.ay g.by g.bx g.ax) y hb.south hb.north hg.by (moved_le _ _ _ _);
    })
