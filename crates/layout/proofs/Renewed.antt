-- An error that a trained hand makes: on replacement the row is renewed and the column left old. On any sheet, also on one that
-- others have written, both are renewed.
--   row_renewed, column_renewed    the cells of slot i, once p has come there, are those of what then stands
-- Where the outline R has come into slot i of an undamaged sheet, and k is another slot:
--   row_tile, column_tile    a tile is in the cell of i and k, of k and i, exactly when the rule finds R in that tile of the box of what stands in k, and
--                            that in the tile of R's box
--   row_bare, column_bare    where nothing stands in k, the cells are 0;  self_renewed  the cell of i with itself
--   row_removed, column_removed    where slot i was emptied, all its cells are 0
use mathlib.Core.Path.{◌≡◌, refl, sym, ap, ◌∙◌, subst}
use mathlib.Core.Logic.{◌↔◌, ◌≢◌, inl, inr}
use mathlib.Core.Bool.{Bool, true, ◌||◌}
use mathlib.Core.List.{List}
use Prim.Native.Nat.{ℕ, ◌+◌, ◌*◌, ◌/◌, ◌%◌, ◌<◌}
use native.Mathlib.Omega.{arith}
use lib.Dec.{eqb}
use borrow.Author.Tests.{eq-eqb, ne_eqb}
use Rattle.plane.specs.Points.{Lines}
use Rattle.plane.specs.TileSet.{bit}
use Rattle.plane.proofs.Logic.{or_means}
use Rattle.plane.proofs.Lists.{get_d_tab}
use Rattle.region.specs.Region.{Region, Parcel, nothing, outline}
use Rattle.region.specs.Rules.{Keeps}
use Rattle.relation.specs.Relation.{RegionBox, RegionHas, region_box, relation_of}
use Rattle.relation.proofs.Relation.{relation_tile}
use Rattle.layout.specs.Sheet.{Sheet, slots, relations_length}
use Rattle.layout.specs.Standing.{instead, ParcelKeeps}
use Rattle.layout.specs.Layout.{cell_of}
use Rattle.layout.specs.Slots.{parcel_at, cell_in}
use Rattle.layout.specs.Changes.{with_parcel}
use Rattle.layout.specs.Steps.{Ready}
use Rattle.layout.proofs.Undamaged.{undamaged_stand}

module _ (s : Sheet) (i : ℕ) (p : Parcel) where
  cell_renewed : (m n : ℕ) → m < slots → n < slots → eqb m i || eqb n i ≡ true
      → cell_in (with_parcel s i p).relations m n ≡ cell_of (instead (parcel_at s) i p m) (instead (parcel_at s) i p n) (eqb m n)
  unfolding with_parcel cell_in
  cell_renewed m n hm hn t =
      let d : (slots * m + n) / slots ≡ m = omega arith in
      let r : (slots * m + n) % slots ≡ n = omega arith in
      get_d_tab _ 0 relations_length (slots * m + n) (omega arith) ∙ rw (d, r, t) refl

  own : instead (parcel_at s) i p i ≡ p
  own = simp (eq-eqb i i refl)

  pub row_renewed : (k : ℕ) → i < slots → k < slots → cell_in (with_parcel s i p).relations i k ≡ cell_of p (instead (parcel_at s) i p k) (eqb i k)
  row_renewed k il kl =
      cell_renewed i k il kl ((or_means (eqb i i) (eqb k i)).1 (inl (eq-eqb i i refl))) ∙ ap (λ (q : Parcel). cell_of q (instead (parcel_at s) i p k) (eqb i k)) own

  pub column_renewed : (k : ℕ) → i < slots → k < slots → cell_in (with_parcel s i p).relations k i ≡ cell_of (instead (parcel_at s) i p k) p (eqb k i)
  column_renewed k il kl =
      cell_renewed k i kl il ((or_means (eqb k i) (eqb i i)).1 (inr (eq-eqb i i refl))) ∙ ap (λ (q : Parcel). cell_of (instead (parcel_at s) i p k) q (eqb k i)) own

-- nothing has no cell but 0
no_cell : (p : Parcel) (t : Bool) → cell_of p nothing t ≡ 0
no_cell nothing t = refl
no_cell (outline R) t = refl

-- ---- an outline, tile by tile
module _ (s : Sheet) (i : ℕ) (R : Region) (il : i < slots) where
  abbrev relations : List ℕ
  relations = (with_parcel s i (outline R)).relations

  pub self_renewed : cell_in relations i i ≡ 0
  self_renewed =
      row_renewed s i (outline R) i il il ∙ ap (λ (q : Parcel). cell_of (outline R) q (eqb i i)) (own s i (outline R))
      ∙ ap (λ (t : Bool). cell_of (outline R) (outline R) t) (eq-eqb i i refl)

  module _ (k : ℕ) (kl : k < slots) (other : k ≢ i) where
    stays : instead (parcel_at s) i (outline R) k ≡ parcel_at s k
    stays = simp (ne_eqb k i other)

    pub row_bare : parcel_at s k ≡ nothing → cell_in relations i k ≡ 0
    row_bare e = row_renewed s i (outline R) k il kl ∙ ap (λ (q : Parcel). cell_of (outline R) q (eqb i k)) (stays ∙ e)

    pub column_bare : parcel_at s k ≡ nothing → cell_in relations k i ≡ 0
    column_bare e = column_renewed s i (outline R) k il kl ∙ ap (λ (q : Parcel). cell_of q (outline R) (eqb k i)) (stays ∙ e)

    module _ (ready : Ready s i (outline R)) (Q : Region) (e : parcel_at s k ≡ outline Q) where
      other_keeps : Keeps 4 Q
      other_keeps = subst (ParcelKeeps 4) e ((undamaged_stand s ready.change.lists ready.change.undamaged).each k kl)

      row_is : cell_in relations i k ≡ relation_of (region_box Q) R
      row_is =
          row_renewed s i (outline R) k il kl ∙ ap (λ (q : Parcel). cell_of (outline R) q (eqb i k)) (stays ∙ e)
          ∙ ap (λ (t : Bool). cell_of (outline R) (outline Q) t) (ne_eqb i k (λ z. other (sym z)))

      column_is : cell_in relations k i ≡ relation_of (region_box R) Q
      column_is =
          column_renewed s i (outline R) k il kl ∙ ap (λ (q : Parcel). cell_of q (outline R) (eqb k i)) (stays ∙ e)
          ∙ ap (λ (t : Bool). cell_of (outline Q) (outline R) t) (ne_eqb k i other)

      pub row_tile : (M : Lines) → RegionBox Q M → (t : ℕ) → t < 9 → (bit (cell_in relations i k) t ≡ 1) ↔ RegionHas M R t
      row_tile M is t h = rw row_is (relation_tile ready.keeps other_keeps M is t h)

      pub column_tile : (L : Lines) → RegionBox R L → (t : ℕ) → t < 9 → (bit (cell_in relations k i) t ≡ 1) ↔ RegionHas L Q t
      column_tile L is t h = rw column_is (relation_tile other_keeps ready.keeps L is t h)

-- ---- an emptied slot
module _ (s : Sheet) (i : ℕ) (il : i < slots) (k : ℕ) (kl : k < slots) where
  pub row_removed : cell_in (with_parcel s i nothing).relations i k ≡ 0
  row_removed = row_renewed s i nothing k il kl

  pub column_removed : cell_in (with_parcel s i nothing).relations k i ≡ 0
  column_removed = column_renewed s i nothing k il kl ∙ no_cell (instead (parcel_at s) i nothing k) (eqb k i)
