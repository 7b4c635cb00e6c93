-- A good card, laid out parcel by parcel.
--   loaded b n i            what the first n parcels of the card b put into slot i
--   loaded_none, loaded_all     none of the parcels are laid out, and all
--   with_loaded             one more: parcel k takes the layout of the first k to that of the first k + 1
--   changeable              the layout of the first k may be changed
--   good_stands             what a good card puts into the slots may stand together
--   from_blank, blank_boxed    an empty sheet is the layout of no parcel, and any list has its boxes
--   same_lists              no list changes its length
--   load_refused, load_wrong, load_done    what loading answers, and the sheet at exit
use mathlib.Core.Path.{◌≡◌, refl, sym, ◌∙◌, ap, subst}
use mathlib.Core.Logic.{◌≢◌}
use mathlib.Core.Bool.{Bool, true, false}
use mathlib.Core.List.{List}
use Prim.Native.Nat.{ℕ, ◌+◌, ◌≤◌, ◌<◌}
use native.Mathlib.Omega.{arith}
use native.Mathlib.Decide.{dec_lt, ℕ_discrete}
use lib.Dec.{ltb, eqb}
use lib.ListN.{length}
use borrow.Author.Tests.{ltb-true, lt-ltb, le-ltb, eqb-true, eq-eqb, ne_eqb}
use Rattle.plane.specs.Choice.{pick}
use Rattle.plane.proofs.Folds.{first_hit, first_passes}
use Rattle.region.specs.declared.refusals.Refusal.TheVariants.{SheetLists}
use Rattle.region.specs.Refusals.{number_if, or_else}
use Rattle.region.proofs.OrElse.{or_else_first}
use Rattle.region.specs.Region.{Parcel, nothing, outline}
use Rattle.plane.specs.declared.Box.{Box}
use Rattle.layout.specs.Sheet.{Sheet, slots, wrong_lists}
use Rattle.layout.specs.Standing.{instead, ParcelKeeps, StandTogether}
use Rattle.layout.specs.Layout.{layout, blank}
use Rattle.layout.specs.Slots.{parcel_at}
use Rattle.layout.specs.Changes.{with_parcel, Changeable}
use Rattle.layout.specs.BoxList.{Boxed}
use Rattle.layout.proofs.Standing.{stand_fewer, layout_lists, layout_same, layout_parcel, layout_undamaged, layout_with}
use Rattle.layout.proofs.Blank.{blank_layout}
use Rattle.layout.proofs.BoxList.{boxed_empty}
use Rattle.card.specs.Reading.{parcel_count, slot_at, region_at, entry_of, parcel_in}
use Rattle.card.specs.CardNumber.{card_number}
use Rattle.card.specs.Good.{GoodCard}
use Rattle.card.proofs.Good.{slots_rise}
use Rattle.loading.specs.Load.{load_number, load}

unfoldable pub loaded : List ℕ → ℕ → ℕ → Parcel
loaded b n i = pick (ltb (entry_of b i) n) (outline (region_at b (entry_of b i))) nothing

loaded_none : (b : List ℕ) → layout (λ i. nothing) ≡ layout (loaded b 0)
unfolding loaded
loaded_none b = layout_same (λ i. nothing) (loaded b 0) (λ i l. rw (le-ltb (entry_of b i) 0 (omega arith)) refl)

pub loaded_all : (b : List ℕ) → layout (loaded b (parcel_count b)) ≡ layout (parcel_in b)
unfolding loaded parcel_in
loaded_all b = refl

module _ (b : List ℕ) (good : GoodCard b) where
  pub loaded_stand : (n : ℕ) → n ≤ parcel_count b → StandTogether 7 (loaded b n)
  unfolding loaded
  loaded_stand n h = record { each = λ i l. go i (ltb (entry_of b i) n) refl }
    where
      go : (i : ℕ) (t : Bool) → ltb (entry_of b i) n ≡ t → ParcelKeeps 7 (pick t (outline (region_at b (entry_of b i))) nothing)
      go i true e = let l : entry_of b i < n = ltb-true _ _ e in good.parcels_keep (entry_of b i) (omega arith)
      go i false e = tt

  pub good_stands : StandTogether 7 (parcel_in b)
  unfolding loaded parcel_in
  good_stands = loaded_stand (parcel_count b) (omega arith)

  module _ (k : ℕ) (l : k < parcel_count b) where
    -- the entry of the slot that entry k names is entry k
    own : entry_of b (slot_at b k) ≡ k
    unfolding entry_of
    own = first_hit (λ j. eqb (slot_at b j) (slot_at b k)) k (parcel_count b) l (λ j m. ne_eqb (slot_at b j) (slot_at b k) (λ e. absurd (omega (arith, slots_rise b good j k m l, e)))) (eq-eqb (slot_at b k) (slot_at b k) refl)

    other : (i : ℕ) → i ≢ slot_at b k → entry_of b i ≢ k
    unfolding entry_of
    other i n e =
        let m : entry_of b i < parcel_count b = omega (arith, l, e) in
        n (sym (eqb-true (slot_at b (entry_of b i)) i (first_passes (λ j. eqb (slot_at b j) i) (parcel_count b) m)) ∙ ap (slot_at b) e)

    one_more : (i : ℕ) → instead (loaded b k) (slot_at b k) (outline (region_at b k)) i ≡ loaded b (k + 1) i
    unfolding loaded
    one_more i =
        elim (ℕ_discrete i (slot_at b k)) [
          | yes e ↦ rw (e, eq-eqb (slot_at b k) (slot_at b k) refl, own, lt-ltb k (k + 1) (omega arith)) refl
          | no e ↦ rw (ne_eqb i (slot_at b k) e) (ap (λ (t : Bool). pick t (outline (region_at b (entry_of b i))) nothing) (next i e))
        ]
      where
        next : (i : ℕ) → i ≢ slot_at b k → ltb (entry_of b i) k ≡ ltb (entry_of b i) (k + 1)
        next i n =
            elim (dec_lt (entry_of b i) k) [
              | yes m ↦ lt-ltb (entry_of b i) k m ∙ sym (lt-ltb (entry_of b i) (k + 1) (omega arith))
              | no m ↦ le-ltb (entry_of b i) k (omega arith) ∙ sym (le-ltb (entry_of b i) (k + 1) (omega (arith, other i n)))
            ]

    stand : StandTogether 4 (loaded b k)
    stand = stand_fewer (omega arith) (loaded_stand k (omega arith))

    pub changeable : {t : Sheet} → t ≡ layout (loaded b k) → Changeable t (slot_at b k)
    changeable e =
        subst (λ (t : Sheet). Changeable t (slot_at b k)) (sym e)
        (record { lists = layout_lists (loaded b k) stand; slot_in = omega (arith, good.slots_low k l); undamaged = layout_undamaged (loaded b k) stand })

    pub with_loaded : with_parcel (layout (loaded b k)) (slot_at b k) (outline (region_at b k)) ≡ layout (loaded b (k + 1))
    with_loaded = layout_with (loaded b k) stand (slot_at b k) (outline (region_at b k)) ∙ layout_same _ _ (λ i h. one_more i)

-- ---- an empty sheet
pub from_blank : (b : List ℕ) {t : Sheet} → t ≡ blank → t ≡ layout (loaded b 0)
from_blank b e = e ∙ blank_layout ∙ loaded_none b

pub blank_boxed : (boxes : List Box) → length boxes ≡ slots → {t : Sheet} → t ≡ blank → Boxed boxes t.coordinates t.records
blank_boxed boxes h {t} e =
    boxed_empty t.coordinates t.records boxes h
    (λ i l. ap (λ (s : Sheet). parcel_at s i) (e ∙ blank_layout) ∙ layout_parcel (λ k. nothing) (record { each = λ k m. tt }) i l)

-- ---- the call
module _ (s : Sheet) (b : List ℕ) where
  refused : {n : ℕ} → n ≢ 0 → n ≡ load_number s b → (n ≡ load_number s b) × (s ≡ load s b)
  unfolding load
  refused some e = (e, simp (ne_eqb (load_number s b) 0 (λ q. some (e ∙ q))))

  pub load_refused : {n : ℕ} → n ≢ 0 → n ≡ number_if (wrong_lists s) SheetLists → (n ≡ load_number s b) × (s ≡ load s b)
  unfolding load_number
  load_refused some e = refused some (e ∙ sym (or_else_first _ _ (λ q. some (e ∙ q))))

  module _ (right : 0 ≡ number_if (wrong_lists s) SheetLists) where
    next : {n : ℕ} → n ≡ card_number b → n ≡ load_number s b
    unfolding load_number
    next e = e ∙ ap (λ (m : ℕ). or_else m (card_number b)) right

    pub load_wrong : {n : ℕ} → n ≢ 0 → n ≡ card_number b → (n ≡ load_number s b) × (s ≡ load s b)
    load_wrong some e = refused some (next e)

    pub load_done : 0 ≡ card_number b → {t : Sheet} → t ≡ layout (parcel_in b) → (0 ≡ load_number s b) × (t ≡ load s b)
    unfolding load
    load_done g e = (next g, simp (eq-eqb (load_number s b) 0 (sym (next g))) e)

-- ---- two layouts have the same lengths
pub same_lists : (st su : ℕ → Parcel) → StandTogether 4 st → StandTogether 4 su → {s t : Sheet} → s ≡ layout st → t ≡ layout su
    → (length t.coordinates ≡ length s.coordinates) × (length t.records ≡ length s.records) × (length t.relations ≡ length s.relations)
same_lists st su stand stand' d e =
    let a = layout_lists st stand in
    let c = layout_lists su stand' in (
      ap (λ (x : Sheet). length x.coordinates) e ∙ c.coordinate_count ∙ sym (ap (λ (x : Sheet). length x.coordinates) d ∙ a.coordinate_count),
      ap (λ (x : Sheet). length x.records) e ∙ c.record_count ∙ sym (ap (λ (x : Sheet). length x.records) d ∙ a.record_count),
      ap (λ (x : Sheet). length x.relations) e ∙ c.relation_count ∙ sym (ap (λ (x : Sheet). length x.relations) d ∙ a.relation_count),
    )
