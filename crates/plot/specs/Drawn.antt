-- No rule stands here: the texts of which the map of a card draws its parcels. Letters are the numbers of their ASCII codes.
--   move_text .. idEnd      the words between the numbers
--   fill_at k               the k-th of eight fills; a slot has that of its remainder by 8
--   vertex_ink v            a vertex;  stretch_ink vs n  the first n of the vertices vs;  ring_ink vs  the ring of these vertices
--   parcel_ink s            the path of a shape: its rings in order, its fill, its slot
--   Drawn v card k s        s is what the map draws of parcel k of the card: its slot, its rings, where they end, and where its vertices stand
--                           in its list of 64
--   MapInk v card n         what a call that draws the first n parcels ensures: each is drawn once, in the order of the card, and so by rising slots
use Rattle.std.specs.Prelude.{◌≡◌, List, [], ◌∷◌, ◌++◌, ℕ, ◌+◌, ◌*◌, ◌%◌, ◌<◌, length, get_or, take, pos}
use Rattle.scale.specs.declared.view.View.{View}
use Rattle.scale.specs.Places.{x_of, y_of, place_in}
use Rattle.region.specs.Region.{last_end}
use Rattle.scale.specs.declared.shape.Shape.{Shape}
use Rattle.scale.specs.declared.shape.Vertex.{Vertex}
use Rattle.scale.specs.Shapes.{corner, vertex_at, ring_of}
use Rattle.card.specs.Reading.{slot_at, count_at, ends_at, numbers_at}
use Rattle.names.specs.Numbers.{decimal}
use Rattle.svg.specs.Ink.{Inked, inked_to}

-- 'M'
abbrev pub move_text : List ℕ
move_text = 77 ∷ []

-- 'z'
abbrev pub close_text : List ℕ
close_text = 122 ∷ []

-- ''
abbrev pub space_text : List ℕ
space_text = 32 ∷ []

-- "<path d='"
abbrev pub path_start_text : List ℕ
path_start_text = 60 ∷ 112 ∷ 97 ∷ 116 ∷ 104 ∷ 32 ∷ 100 ∷ 61 ∷ 39 ∷ []

-- "'"
abbrev pub path_end_text : List ℕ
path_end_text = 39 ∷ 32 ∷ []

-- "' id='parcel-"
abbrev pub id_start_text : List ℕ
id_start_text = 39 ∷ 32 ∷ 105 ∷ 100 ∷ 61 ∷ 39 ∷ 112 ∷ 97 ∷ 114 ∷ 99 ∷ 101 ∷ 108 ∷ 45 ∷ []

-- "'/>"
abbrev pub id_end_text : List ℕ
id_end_text = 39 ∷ 47 ∷ 62 ∷ 10 ∷ []

-- fill='#f0e08a and so on
abbrev pub fill_at : ℕ → List ℕ
fill_at k =
    get_or
    ((102 ∷ 105 ∷ 108 ∷ 108 ∷ 61 ∷ 39 ∷ 35 ∷ 102 ∷ 48 ∷ 101 ∷ 48 ∷ 56 ∷ 97 ∷ [])
    ∷ (102 ∷ 105 ∷ 108 ∷ 108 ∷ 61 ∷ 39 ∷ 35 ∷ 55 ∷ 100 ∷ 98 ∷ 52 ∷ 100 ∷ 56 ∷ [])
    ∷ (102 ∷ 105 ∷ 108 ∷ 108 ∷ 61 ∷ 39 ∷ 35 ∷ 102 ∷ 54 ∷ 99 ∷ 54 ∷ 97 ∷ 52 ∷ [])
    ∷ (102 ∷ 105 ∷ 108 ∷ 108 ∷ 61 ∷ 39 ∷ 35 ∷ 56 ∷ 102 ∷ 98 ∷ 102 ∷ 56 ∷ 102 ∷ [])
    ∷ (102 ∷ 105 ∷ 108 ∷ 108 ∷ 61 ∷ 39 ∷ 35 ∷ 100 ∷ 57 ∷ 100 ∷ 57 ∷ 101 ∷ 56 ∷ [])
    ∷ (102 ∷ 105 ∷ 108 ∷ 108 ∷ 61 ∷ 39 ∷ 35 ∷ 100 ∷ 57 ∷ 57 ∷ 97 ∷ 53 ∷ 98 ∷ [])
    ∷ (102 ∷ 105 ∷ 108 ∷ 108 ∷ 61 ∷ 39 ∷ 35 ∷ 99 ∷ 100 ∷ 101 ∷ 98 ∷ 101 ∷ 48 ∷ [])
    ∷ (102 ∷ 105 ∷ 108 ∷ 108 ∷ 61 ∷ 39 ∷ 35 ∷ 99 ∷ 51 ∷ 57 ∷ 98 ∷ 99 ∷ 57 ∷ [])
    ∷ [])
    k
    []

abbrev pub vertex_ink : Vertex → List (List ℕ)
vertex_ink v = decimal v.x ∷ space_text ∷ decimal v.y ∷ space_text ∷ []

unfoldable pub stretch_ink : (vs : List Vertex) (n : ℕ) → List (List ℕ)
stretch_ink vs n = inked_to (λ i. vertex_ink (get_or vs i corner)) n

unfoldable pub ring_ink : List Vertex → List (List ℕ)
ring_ink vs = move_text ∷ (stretch_ink vs (length vs) ++ (close_text ∷ []))

unfoldable pub rings_ink : Shape → ℕ → List (List ℕ)
rings_ink s n = inked_to (λ r. ring_ink (ring_of s.vertices s.ends r)) n

unfoldable pub parcel_ink : Shape → List (List ℕ)
parcel_ink s =
    (path_start_text ∷ (rings_ink s s.rings ++ (path_end_text ∷ []))) ++ (fill_at (s.slot % 8) ∷ id_start_text ∷ decimal s.slot ∷ id_end_text ∷ [])

pub record Drawn (v : View) (card : List ℕ) (k : ℕ) (s : Shape) : Type 0 where
  pub slot : s.slot ≡ slot_at card k
  pub rings : s.rings ≡ count_at card k
  pub ends : take s.rings s.ends ≡ ends_at card k
  pub vertices : length s.vertices ≡ 64
  pub xs : (i : ℕ) → i < last_end (ends_at card k) → (vertex_at s.vertices i).x ≡ x_of v (place_in (get_or (numbers_at card k) (2 * i) (pos 0)))
  pub ys : (i : ℕ) → i < last_end (ends_at card k) → (vertex_at s.vertices i).y ≡ y_of v (place_in (get_or (numbers_at card k) (2 * i + 1) (pos 0)))

pub record MapInk (v : View) (card : List ℕ) (n : ℕ) (b : List ℕ) (at r : ℕ) (c : List ℕ) : Type 0 where
  pub shapes : ℕ → Shape
  pub drawn : (k : ℕ) → k < n → Drawn v card k (shapes k)
  pub inked : Inked b at (inked_to (λ k. parcel_ink (shapes k)) n) r c
