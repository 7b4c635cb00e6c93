use mathlib.Core.Path.{◌≡◌, sym, ◌∙◌, ap₂, subst}
use mathlib.Core.Bool.{true}
use lib.IntN.{ℤ}
use mir.Syntax.{w32}
use mir.Val.{to_z, of_z}
use Rattle.plane.specs.Place.{place_of, in_range}
use Rattle.plane.specs.Points.{Point}
use Rattle.plane.specs.Placed.{BoxInPlaces}
use Rattle.plane.proofs.Place.{held}
use Rattle.seen.proofs.Shown.{classing_in_places}
use Rattle.classes.specs.Classes.{vertex_class}
use Rattle.ring.specs.Edges.{corner}
use Rattle.ring.proofs.Stretch.{corner_readable}
use Rattle.seen.proofs.RingPass.corner_class.Goals as goal
use Rattle.seen.proofs.RingPass.corner_class.Goals.{After-y_of}

read_of : (z w : ℤ) → z ≡ w → in_range w ≡ true → to_z w32 (of_z w32 z) ≡ w
read_of z w e h = rw e (held w h)

module _ (c : After-y_of) where
  abbrev A : Point
  A = corner c.args.self.now.ring.outline.now c.args.self.now.ring.from c.args.k

  x_is : to_z w32 (of_z w32 c.x_of.result) ≡ A.x
  x_is = read_of _ _ c.x_of.ensures (corner_readable c.args.self.now.ring.stretch c.requires).range.x

  y_is : to_z w32 (of_z w32 c.y_of.result) ≡ A.y
  y_is = read_of _ _ c.y_of.ensures (corner_readable c.args.self.now.ring.stretch c.requires).range.y

pub vertex_class-requires : goal.vertex_class-requires
vertex_class-requires c =
    let s = (goal.at.vertex_class-requires c).After-y_of in
    let r = (corner_readable c.args.self.now.ring.stretch c.requires).range in
    let p = c.args.self.now in
    (subst BoxInPlaces (sym p.against) (classing_in_places p.b p.ring.outline.now p.ring.from p.ring.size p.placed), rw (x_is s) r.x, rw (y_is s) r.y)

pub returns : goal.returns
returns c =
    let s = (goal.at.returns c).After-y_of in
    c.vertex_class.ensures ∙ ap₂ (λ (x y : ℤ). vertex_class c.args.self.now.classing (place_of x) (place_of y)) (x_is s) (y_is s)
