-- No rule stands here: how what is drawn of a parcel is read from its lists.
--   vertex_of v c            the vertex of the picture that the vertex c of the map is drawn as
--   vertex_at list i         number i of a list of 64
--   end_before ends r        how many vertices the rings before r have, at most 64
--   ring_of list ends r      those of a list of 64 that are ring r
use Rattle.std.specs.Prelude.{List, ℕ, ◌+◌, ◌-◌, min, ltb, eqb, get_or, take, drop}
use Rattle.plane.specs.Choice.{pick}
use Rattle.scale.specs.declared.view.View.{View}
use Rattle.scale.specs.declared.view.Corner.{Corner}
use Rattle.scale.specs.declared.shape.Vertex.{Vertex}
use Rattle.scale.specs.Places.{x_of, y_of}

abbrev pub vertex_of : View → Corner → Vertex
vertex_of v c = record { x = x_of v c.x; y = y_of v c.y }

abbrev pub corner : Vertex
corner = record { x = 0; y = 0 }

unfoldable pub vertex_at : List Vertex → ℕ → Vertex
vertex_at list i = pick (ltb i 64) (get_or list i corner) corner

unfoldable pub end_before : List ℕ → ℕ → ℕ
end_before ends r = pick (eqb r 0) 0 (pick (ltb 8 r) 0 (min (get_or ends (r - 1) 0) 64))

unfoldable pub ring_of {ℓ} : {A : Type ℓ} → List A → List ℕ → ℕ → List A
ring_of list ends r = take (end_before ends (r + 1) - end_before ends r) (drop (end_before ends r) list)
