-- The layout of what stands, where it may stand together.
--   layout_lists       its lists have their lengths
--   layout_parcel      what stands in a slot is read back;  layout_empty  and whether anything does
--   layout_undamaged   it is undamaged
--   layout_with        a parcel that comes into slot i of a layout gives the layout with that parcel in slot i
--   layout_same        a layout hangs on the slots alone
--   layout_cell        a cell of a layout is that of the two parcels;  layout_self  the cell of a slot with itself is 0, whatever stands
--   stand_fewer, stand_instead, stand_same    what may stand together still may, with fewer rules, one parcel replaced, the same in each slot
--   parcels_fit, rings_fit, vertices_fit    how many parcels and rings can stand, and that the list has room for all their vertices
use mathlib.Core.Path.{◌≡◌, refl, sym, ap, ap₂, ◌∙◌, subst}
use mathlib.Core.Bool.{Bool, true, false, not, ◌||◌}
use Prim.Native.Nat.{ℕ, ◌+◌, ◌*◌, ◌/◌, ◌%◌, ◌<◌, ◌≤◌}
use native.Mathlib.Omega.{arith}
use lib.Dec.{eqb}
use lib.IntN.{pos}
use lib.ListN.{length, get_or}
use borrow.Author.Tests.{eq-eqb}
use Rattle.plane.specs.Choice.{pick}
use Rattle.plane.specs.TileSet.{one_if}
use Rattle.plane.proofs.Folds.{sum_le}
use Rattle.plane.proofs.Lists.{length_tab, get_d_tab, tab_same}
use Rattle.region.specs.Region.{Parcel, nothing, outline, most_rings, most_vertices, last_end}
use Rattle.region.proofs.Keeps.{keeps_fewer}
use Rattle.layout.specs.Sheet.{sheet_of, slots, room, record_length, coordinates_length, records_length, relations_length, RightLists}
use Rattle.layout.specs.Standing.{occupied, end_list, coordinate_list, instead, ParcelKeeps, StandTogether, parcels_below, rings_below, vertices_below}
use Rattle.layout.specs.Layout.{record_number, cell_of, layout}
use Rattle.layout.specs.Slots.{empty_in, parcel_at, cell_in}
use Rattle.layout.specs.Damage.{Undamaged}
use Rattle.layout.specs.Changes.{with_parcel}
use Rattle.layout.proofs.Blocks.{block_read}
use Rattle.layout.proofs.Slots.{few_rings, few_vertices, occupied_in, Lies, rings_read, parcel_read}
use Rattle.layout.proofs.Undamaged.{stand_undamaged, slot_lists}

-- ---- what stands together
keeps_less : {m n : ℕ} → m ≤ n → (p : Parcel) → ParcelKeeps n p → ParcelKeeps m p
keeps_less l nothing kept = tt
keeps_less l (outline R) kept = keeps_fewer l kept

pub stand_fewer : {m n : ℕ} {st : ℕ → Parcel} → m ≤ n → StandTogether n st → StandTogether m st
stand_fewer {m} {n} {st} l stand = record { each = λ i h. keeps_less l (st i) (stand.each i h) }

pub stand_instead : {n : ℕ} {st : ℕ → Parcel} (i : ℕ) (p : Parcel) → ParcelKeeps n p → StandTogether n st → StandTogether n (instead st i p)
stand_instead {n} {st} i p kept stand = record { each = λ k h. go k h (eqb k i) }
  where
    go : (k : ℕ) → k < slots → (t : Bool) → ParcelKeeps n (pick t p (st k))
    go k h true = kept
    go k h false = stand.each k h

pub stand_same : {n : ℕ} (st su : ℕ → Parcel) → ((i : ℕ) → i < slots → st i ≡ su i) → StandTogether n st → StandTogether n su
stand_same {n} st su h stand = record { each = λ i l. subst (ParcelKeeps n) (h i l) (stand.each i l) }

module _ (st : ℕ → Parcel) (stand : StandTogether 4 st) where
  pub parcels_fit : parcels_below st slots ≤ slots
  unfolding parcels_below
  parcels_fit = omega (arith, sum_le (λ k. one_if (occupied (st k))) slots 1 (λ k l. one (occupied (st k))))
    where
      one : (t : Bool) → one_if t ≤ 1
      one true = omega arith
      one false = omega arith

  pub rings_fit : rings_below st slots ≤ slots * most_rings
  unfolding rings_below
  rings_fit = sum_le (λ k. length (end_list (st k))) slots most_rings (λ k l. few_rings (st k) (stand.each k l))

  pub vertices_fit : 2 * vertices_below st slots ≤ coordinates_length
  unfolding vertices_below
  vertices_fit = omega (arith, sum_le (λ k. last_end (end_list (st k))) slots most_vertices (λ k l. few_vertices (st k) (stand.each k l)))

-- ---- the layout
pub layout_same : (st su : ℕ → Parcel) → ((i : ℕ) → i < slots → st i ≡ su i) → layout st ≡ layout su
unfolding layout
layout_same st su h = λ j. sheet_of
    (tab_same _ _ coordinates_length (λ k l. ap (λ (q : Parcel). get_or (coordinate_list q) (k % room) (pos 0)) (h (k / room) (omega arith))) j)
    (tab_same _ _ records_length (λ k l. ap (λ (q : Parcel). record_number (end_list q) (k % record_length)) (h (k / record_length) (omega arith))) j)
    (tab_same _ _ relations_length (λ k l. ap₂ (λ (q r : Parcel). cell_of q r (eqb (k / slots) (k % slots))) (h (k / slots) (omega arith)) (h (k % slots) (omega arith))) j)

pub layout_cell : (st : ℕ → Parcel) (p q : ℕ) → p < slots → q < slots → cell_in (layout st).relations p q ≡ cell_of (st p) (st q) (eqb p q)
unfolding layout cell_in
layout_cell st p q hp hq =
    let d : (slots * p + q) / slots ≡ p = omega arith in
    let r : (slots * p + q) % slots ≡ q = omega arith in
    get_d_tab _ 0 relations_length (slots * p + q) (omega arith) ∙ rw (d, r) refl

pub layout_self : (st : ℕ → Parcel) (p : ℕ) → p < slots → cell_in (layout st).relations p p ≡ 0
layout_self st p hp = layout_cell st p p hp hp ∙ ap (λ (t : Bool). cell_of (st p) (st p) t) (eq-eqb p p refl) ∙ go (st p)
  where
    go : (q : Parcel) → cell_of q q true ≡ 0
    go nothing = refl
    go (outline R) = refl

module _ (st : ℕ → Parcel) (stand : StandTogether 4 st) where
  pub layout_lists : RightLists (layout st)
  unfolding layout
  layout_lists = record { coordinate_count = length_tab _ coordinates_length; record_count = length_tab _ records_length; relation_count = length_tab _ relations_length }

  lies : (i : ℕ) → i < slots → Lies (layout st) i (st i)
  unfolding layout
  lies i il =
      record {
        number = λ k l. block_read room (omega arith) (pos 0) (λ j m. get_or (coordinate_list (st j)) m (pos 0)) slots i k il l;
        entry = λ k l. block_read record_length (omega arith) 0 (λ j m. record_number (end_list (st j)) m) slots i k il l;
      }

  pub layout_parcel : (i : ℕ) → i < slots → parcel_at (layout st) i ≡ st i
  layout_parcel i il = parcel_read (layout st) i (slot_lists (layout st) layout_lists) il (st i) (stand.each i il) (lies i il)

  pub layout_empty : (i : ℕ) → i < slots → empty_in (layout st).records i ≡ not (occupied (st i))
  layout_empty i il =
      twice (empty_in (layout st).records i) ∙ ap not (sym (occupied_in (layout st).coordinates (layout st).records i) ∙ ap occupied (layout_parcel i il))
    where
      twice : (t : Bool) → t ≡ not (not t)
      twice true = refl
      twice false = refl

  pub layout_undamaged : Undamaged (layout st)
  layout_undamaged =
      stand_undamaged (layout st) (λ i il. rw (rings_read (layout st) i (st i) (lies i il)) (few_rings (st i) (stand.each i il)))
      (λ i il. subst (ParcelKeeps 4) (sym (layout_parcel i il)) (stand.each i il))

  module _ (i : ℕ) (p : Parcel) where
    standing_is : (k : ℕ) → k < slots → instead (parcel_at (layout st)) i p k ≡ instead st i p k
    standing_is k kl = ap (λ (q : Parcel). pick (eqb k i) p q) (layout_parcel k kl)

    pub layout_with : with_parcel (layout st) i p ≡ layout (instead st i p)
    unfolding with_parcel layout
    layout_with = λ j. sheet_of (tab_same _ _ coordinates_length numbers j) (tab_same _ _ records_length entries j) (tab_same _ _ relations_length cells j)
      where
        numbers : (k : ℕ) → k < coordinates_length
            → pick (eqb (k / room) i) (get_or (coordinate_list p) (k % room) (pos 0)) (get_or (layout st).coordinates k (pos 0)) ≡ get_or (coordinate_list (instead st i p (k / room))) (k % room) (pos 0)
        numbers k l = go (eqb (k / room) i)
          where
            go : (b : Bool) → pick b (get_or (coordinate_list p) (k % room) (pos 0)) (get_or (layout st).coordinates k (pos 0)) ≡ get_or (coordinate_list (pick b p (st (k / room)))) (k % room) (pos 0)
            go true = refl
            go false = get_d_tab _ (pos 0) coordinates_length k l

        entries : (k : ℕ) → k < records_length
            → pick (eqb (k / record_length) i) (record_number (end_list p) (k % record_length)) (get_or (layout st).records k 0) ≡ record_number (end_list (instead st i p (k / record_length))) (k % record_length)
        entries k l = go (eqb (k / record_length) i)
          where
            go : (b : Bool) → pick b (record_number (end_list p) (k % record_length)) (get_or (layout st).records k 0) ≡ record_number (end_list (pick b p (st (k / record_length)))) (k % record_length)
            go true = refl
            go false = get_d_tab _ 0 records_length k l

        cells : (k : ℕ) → k < relations_length
            → pick (eqb (k / slots) i || eqb (k % slots) i) (cell_of (instead (parcel_at (layout st)) i p (k / slots)) (instead (parcel_at (layout st)) i p (k % slots)) (eqb (k / slots) (k % slots))) (get_or (layout st).relations k 0)
            ≡ cell_of (instead st i p (k / slots)) (instead st i p (k % slots)) (eqb (k / slots) (k % slots))
        cells k l =
            rw (standing_is (k / slots) (omega arith), standing_is (k % slots) (omega arith)) (go (eqb (k / slots) i) (eqb (k % slots) i))
          where
            go : (a b : Bool)
                → pick (a || b) (cell_of (pick a p (st (k / slots))) (pick b p (st (k % slots))) (eqb (k / slots) (k % slots))) (get_or (layout st).relations k 0)
                ≡ cell_of (pick a p (st (k / slots))) (pick b p (st (k % slots))) (eqb (k / slots) (k % slots))
            go true b = refl
            go false true = refl
            go false false = get_d_tab _ 0 relations_length k l
