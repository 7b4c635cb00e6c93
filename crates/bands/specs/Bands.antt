-- No rule of docs/SCOPE.md stands here: these definitions only carry the proof that no pair of edges is missed.
-- A ring's box is cut in one axis into bands of 2 ^ shift places. Bit e of a word stands for edge e, whose ends are vertices e and e + 1.
--   bands, most_edges      how many bands there are; how many edges a word has a bit for
--   band_of low shift v    the band of the place v, where the first band begins at `low`
--   shift_for width        how wide bands must be, as a power of two, for `bands` of them to hold the width
--   bands_of               a list that begins with the bands of the ring's vertices, the first once more behind the last
--   mark_at s k t          words t with edges k and k + 1 marked in the band of vertex k + 1, an end of both;  marks_of s n t  all n edges
--   joined_to f n          the words f 0 .. f (n - 1) joined
--   below_of t, above_of t  each word joined with all before it, and with all past it
--   Within                 the ring lies between `low` and `high`;  Fitting  and so in `bands` bands
--   Banded                 s has the band of each end of each edge
--   Below s n t            word t(b) has every edge with an end in band b or in one before it;  Above  or in one past it
--   Laid                   the bands of a ring's ends, and the two words of each band
--   near_of s below above i the edges with an end in a band of edge i or before it, and one in a band of edge i or past it
--   Finds                  a word has every edge that overlaps edge i
use Rattle.std.specs.Prelude.{◌≡◌, true, List, ℕ, zero, suc, ◌+◌, ◌-◌, ◌*◌, ◌/◌, ◌%◌, ◌^◌, ◌≤◌, ◌<◌, ltb, get_or, set, ℤ}
use Rattle.std.specs.Int.Bits.{bit_and, bit_or}
use Rattle.std.specs.Int.Count.{count_leading_zeros}
use Rattle.plane.specs.Choice.{pick}
use Rattle.plane.specs.Folds.{turns}
use Rattle.plane.specs.Lists.{tab, stores}
use Rattle.plane.specs.TileSet.{bit}
use Rattle.meet.specs.MeetTest.{overlap}
use Rattle.ring.specs.Edges.{corner, after}
use Rattle.bands.specs.Axis.{place_in}

abbrev pub bands : ℕ
bands = 32

-- a word has a bit for each
abbrev pub most_edges : ℕ
most_edges = 64

abbrev pub band_of : (low shift v : ℕ) → ℕ
band_of low shift v = (v - low) / 2 ^ shift

unfoldable pub shift_for : ℕ → ℕ
shift_for width = let zeros = count_leading_zeros 32 width in pick (ltb zeros 27) (27 - zeros) 0

unfoldable pub bands_of : List ℤ → (from n axis low shift : ℕ) → List ℕ → List ℕ
bands_of xs from n axis low shift s = let t = stores (λ k. k) (λ k. band_of low shift (place_in axis (corner xs from k))) n s in set t n (get_or t 0 0)

abbrev pub mark_at : List ℕ → ℕ → List ℕ → List ℕ
mark_at s k t = let b = get_or s (suc k) 0 in set t b (bit_or (get_or t b 0) (3 * 2 ^ k % 2 ^ 64))

unfoldable pub marks_of : List ℕ → ℕ → List ℕ → List ℕ
marks_of s n t = turns (mark_at s) n (set t (get_or s 0 0) 1)

unfoldable pub joined_to : (ℕ → ℕ) → ℕ → ℕ
joined_to f zero = 0
joined_to f (suc n) = bit_or (joined_to f n) (f n)

unfoldable pub below_of : List ℕ → List ℕ
below_of t = tab (λ b. joined_to (λ c. get_or t c 0) (suc b)) bands

unfoldable pub above_of : List ℕ → List ℕ
above_of t = tab (λ b. joined_to (λ k. get_or t (bands - suc k) 0) (bands - b)) bands

pub record Within (xs : List ℤ) (from n axis low high : ℕ) : Type 0 where
  pub least : (k : ℕ) → k < n → low ≤ place_in axis (corner xs from k)
  pub most : (k : ℕ) → k < n → place_in axis (corner xs from k) ≤ high

pub record Fitting (xs : List ℤ) (from n axis low shift : ℕ) : Type 0 where
  pub least : (k : ℕ) → k < n → low ≤ place_in axis (corner xs from k)
  pub few : (k : ℕ) → k < n → band_of low shift (place_in axis (corner xs from k)) < bands

pub record Banded (xs : List ℤ) (from n axis low shift : ℕ) (s : List ℕ) : Type 0 where
  pub starts : (k : ℕ) → k < n → get_or s k 0 ≡ band_of low shift (place_in axis (corner xs from k))
  pub ends : (k : ℕ) → k < n → get_or s (k + 1) 0 ≡ band_of low shift (place_in axis (after xs from n k))
  pub few : (v : ℕ) → v ≤ n → get_or s v 0 < bands

pub record Below (s : List ℕ) (n : ℕ) (t : List ℕ) : Type 0 where
  pub has : (e v b : ℕ) → e < n → e ≤ v → v ≤ e + 1 → get_or s v 0 ≤ b → b < bands → bit (get_or t b 0) e ≡ 1

pub record Above (s : List ℕ) (n : ℕ) (t : List ℕ) : Type 0 where
  pub has : (e v b : ℕ) → e < n → e ≤ v → v ≤ e + 1 → b ≤ get_or s v 0 → bit (get_or t b 0) e ≡ 1

pub record Laid (xs : List ℤ) (from n axis : ℕ) (s below above : List ℕ) : Type 0 where
  pub low : ℕ
  pub shift : ℕ
  pub banded : Banded xs from n axis low shift s
  pub lower : Below s n below
  pub upper : Above s n above

unfoldable pub near_of : (s below above : List ℕ) (i : ℕ) → ℕ
near_of s below above i =
    let a = get_or s i 0 in
    let b = get_or s (i + 1) 0 in
    bit_and (bit_or (get_or below a 0) (get_or below b 0)) (bit_or (get_or above a 0) (get_or above b 0))

pub record Finds (xs : List ℤ) (from n axis i word : ℕ) : Type 0 where
  pub has : (j : ℕ) → j < n
      → overlap (place_in axis (corner xs from i)) (place_in axis (after xs from n i)) (place_in axis (corner xs from j)) (place_in axis (after xs from n j)) ≡ true
      → bit word j ≡ 1
