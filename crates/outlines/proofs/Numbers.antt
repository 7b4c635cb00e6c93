-- Which numbers the two calls give that answered 13 before it was taken out: these, each for some input, and no others.
--   pair_gives       the pair call: 0 to 7
--   host_gives       the host's call: 0, 10, the card's own (14, 15, 2, 3, 16, 4 to 7) and 17 (`HostGives`)
use mathlib.Core.Path.{◌≡◌, refl, sym, subst}
use mathlib.Core.Logic.{◌↔◌, inl, inr}
use mathlib.Core.List.{List, [], ◌∷◌, ◌++◌}
use Prim.Native.Nat.{ℕ, suc, ◌/◌, ◌%◌, ◌≤◌}
use native.Mathlib.Omega.{arith}
use native.Mathlib.Decide.{ℕ_discrete}
use lib.ListN.{replicate}
use lib.IntN.{pos}
use Rattle.plane.specs.Place.{place_of, in_range}
use Rattle.plane.specs.Folds.{any_to, sum_to, first_of}
use Rattle.plane.specs.Lists.{tab_from}
use Rattle.meet.specs.MeetTest.{straddles, overlap, ends_apart, shares, one_side, folds}
use Rattle.ring.specs.Edges.{next_of, ring_edge}
use Rattle.ring.specs.Repeated.{equal_ends, repeated}
use Rattle.ring.specs.Tangled.{tangled_pair, tangled}
use Rattle.ring.specs.Turning.{clockwise}
use Rattle.region.specs.Refusals.{first_number}
use Rattle.region.specs.Region.{Region, region_of}
use Rattle.region.specs.Check.{short_at, outside_in, breaks_at, first_breaking, shape_of, check_of}
use Rattle.pair.specs.Answer.{pair_of, answer_of, given}
use Rattle.pair.proofs.Refusals.{number_most}
use Rattle.endian.specs.Bytes.{u16_bytes}
use Rattle.card.specs.Reading.{first_ring, ends_at, first_vertex, numbers_at}
use Rattle.card.specs.CardNumber.{wrong_header, wrong_entry, wrong_parcels, sizes_number, wrong_vertices, shape_number, card_number}
use Rattle.report.specs.Report.{report_length, host_number}
use Rattle.report.specs.Meaning.{HostGives}
use Rattle.report.proofs.Meaning.{number_either}
use Rattle.outlines.specs.Rows.{square, two_vertices, too_far, bow_tie, reversed}

-- what holds of a number and of those above it, holds of all from it on
from : (P : ℕ → Type 0) (low high : ℕ) → P low → ((n : ℕ) → suc low ≤ n → n ≤ high → P n) → (n : ℕ) → low ≤ n → n ≤ high → P n
from P low high p more n l h = elim (ℕ_discrete n low) [ yes e ↦ subst P (sym e) p | no e ↦ more n (omega arith) h ]

-- ---- the pair call
abbrev PairGives : ℕ → Type 0
PairGives n = (first : Region) × (second : Region) × ((pair_of first second).number ≡ n)

abbrev no_ring : Region
no_ring = region_of [] []

abbrev list_longer : Region
list_longer = region_of (pos 0 ∷ pos 0 ∷ pos 0 ∷ pos 10 ∷ pos 10 ∷ pos 0 ∷ pos 10 ∷ []) (3 ∷ [])

abbrev vertex_twice : Region
vertex_twice = region_of (pos 0 ∷ pos 0 ∷ pos 0 ∷ pos 0 ∷ pos 10 ∷ pos 0 ∷ []) (3 ∷ [])

pair_given : (n : ℕ) → n ≤ 7 → PairGives n
unfolding place_of in_range any_to sum_to first_of straddles overlap ends_apart shares one_side folds next_of ring_edge equal_ends repeated tangled_pair tangled clockwise short_at outside_in breaks_at first_breaking shape_of check_of pair_of answer_of given
pair_given n h =
    from PairGives 0 7 (square, square, refl)
    (from PairGives 1 7 (no_ring, square, refl)
    (from PairGives 2 7 (two_vertices, square, refl)
    (from PairGives 3 7 (list_longer, square, refl)
    (from PairGives 4 7 (too_far, square, refl)
    (from PairGives 5 7 (vertex_twice, square, refl)
    (from PairGives 6 7 (bow_tie, square, refl)
    (from PairGives 7 7 (reversed, square, refl) (λ m l u. absurd (omega arith)))))))))
    n (omega arith) h

pub pair_gives : (n : ℕ) → ((first : Region) × (second : Region) × ((pair_of first second).number ≡ n)) ↔ (n ≤ 7)
pair_gives n = (λ x. rw x.2 at (number_most x.0 x.1), pair_given n)

-- ---- the host's call
abbrev Comes : ℕ → Type 0
Comes n = (card : List ℕ) × (report : List ℕ) × (host_number card report ≡ n)

words : List ℕ → List ℕ
words [] = []
words (v ∷ l) = u16_bytes v ++ words l

-- coordinates from 0 on
places : List ℕ → List ℕ
places [] = []
places (v ∷ l) = u16_bytes (v % 65536) ++ (u16_bytes (v / 65536) ++ places l)

-- a card of one parcel in this slot, with one ring that ends here, of so many vertices
abbrev one : (slot end vertices : ℕ) → List ℕ → List ℕ
one slot end vertices l = words (1 ∷ 1 ∷ vertices ∷ 12 ∷ 16 ∷ 18 ∷ slot ∷ 1 ∷ end ∷ []) ++ places l

-- a triangle, once and twice
abbrev corners : List ℕ
corners = 0 ∷ 0 ∷ 0 ∷ 10 ∷ 10 ∷ 0 ∷ []

abbrev twice : List ℕ
twice = words (2 ∷ 2 ∷ 6 ∷ 12 ∷ 20 ∷ 24 ∷ 0 ∷ 1 ∷ 1 ∷ 1 ∷ 3 ∷ 3 ∷ []) ++ places (corners ++ corners)

abbrev room : List ℕ
room = replicate report_length 0

host_given : (n : ℕ) → HostGives n → Comes n
unfolding words places place_of in_range any_to sum_to first_of tab_from straddles overlap ends_apart shares one_side folds next_of ring_edge equal_ends repeated tangled_pair tangled clockwise first_number short_at outside_in breaks_at first_breaking shape_of first_ring ends_at first_vertex numbers_at wrong_header wrong_entry wrong_parcels sizes_number wrong_vertices shape_number card_number host_number
host_given n (inl z) = subst Comes (sym z) (twice, room, refl)
host_given n (inr (inl z)) = subst Comes (sym z) ([], [], refl)
host_given n (inr (inr (inl z))) = subst Comes (sym z) (one 0 3 3 corners, room, refl)
host_given n (inr (inr (inr (inl (l, h))))) =
    from Comes 2 7 (one 0 2 2 (0 ∷ 0 ∷ 0 ∷ 10 ∷ []), room, refl)
    (from Comes 3 7 (one 0 65 0 [], room, refl)
    (from Comes 4 7 (one 0 3 3 (0 ∷ 0 ∷ 0 ∷ 10 ∷ 1000001 ∷ 0 ∷ []), room, refl)
    (from Comes 5 7 (one 0 3 3 (0 ∷ 0 ∷ 0 ∷ 0 ∷ 10 ∷ 0 ∷ []), room, refl)
    (from Comes 6 7 (one 0 3 3 (0 ∷ 0 ∷ 5 ∷ 5 ∷ 10 ∷ 10 ∷ []), room, refl)
    (from Comes 7 7 (one 0 3 3 (0 ∷ 0 ∷ 10 ∷ 0 ∷ 0 ∷ 10 ∷ []), room, refl) (λ m l u. absurd (omega arith)))))))
    n l h
host_given n (inr (inr (inr (inr (l, h))))) =
    from Comes 14 16 ([], room, refl)
    (from Comes 15 16 (one 32 3 3 corners, room, refl)
    (from Comes 16 16 (one 0 3 0 [], room, refl) (λ m l u. absurd (omega arith))))
    n l h

pub host_gives : (n : ℕ) → ((card : List ℕ) × (report : List ℕ) × (host_number card report ≡ n)) ↔ HostGives n
host_gives n = (λ x. subst HostGives x.2 (number_either x.0 x.1), host_given n)
