-- The calls on the layout of what stands, where it may stand together.
--   put_layout        a put that leaves what may stand together: it stands in its slot
--   put_layout_refused    a put that no slot or no rule allows leaves the layout
--   remove_layout     a removal: nothing stands in its slot, as may have been before
--   clear_layout      a clearing: nothing stands
use mathlib.Core.Path.{◌≡◌, refl, sym, ap, ◌∙◌, subst}
use mathlib.Core.Bool.{not}
use Prim.Native.Nat.{ℕ, ◌<◌}
use native.Mathlib.Decide.{ℕ_discrete, dec_lt}
use borrow.Author.Tests.{eq-eqb, ne_eqb}
use Rattle.region.specs.Region.{Region, Parcel, nothing, outline}
use Rattle.region.specs.Rules.{KeepsRules}
use Rattle.region.specs.declared.refusals.Refusal.TheVariants.{SlotEmpty}
use Rattle.region.specs.Refusals.{number_if}
use Rattle.region.proofs.Check.{accepted_number}
use Rattle.region.proofs.OrElse.{number_some}
use Rattle.layout.specs.Sheet.{slots}
use Rattle.layout.specs.Standing.{occupied, instead, ParcelKeeps, StandTogether}
use Rattle.layout.specs.Layout.{layout}
use Rattle.layout.specs.Changes.{change_number, Changeable}
use Rattle.layout.proofs.RightLists.{lists_mean}
use Rattle.layout.proofs.Refusing.{change_means}
use Rattle.layout.proofs.Standing.{layout_lists, layout_empty, layout_undamaged, layout_with, layout_same}
use Rattle.layout.proofs.Blank.{blank_layout}
use Rattle.calls.specs.Changes.{put_number, put, remove_number, remove, clear}
use Rattle.calls.proofs.Numbers.{put_next, put_keeps, put_ready, put_is, put_refused, remove_next, remove_ready, remove_refused, remove_done, clear_done}

module _ (st : ℕ → Parcel) (stand : StandTogether 4 st) where
  -- ---- 11, 8 and 12
  allowed : (i : ℕ) → i < slots → change_number (layout st) i ≡ 0
  allowed i l = (change_means (layout st) i).1 (record { lists = layout_lists st stand; slot_in = l; undamaged = layout_undamaged st stand })

  no_slot : (i : ℕ) → (i < slots → ⊥) → Changeable (layout st) i → ⊥
  no_slot i l c = l c.slot_in

  -- ---- a put
  module _ (i : ℕ) (R : Region) where
    own : instead st i (outline R) i ≡ outline R
    own = simp (eq-eqb i i refl)

    pub put_layout : i < slots → StandTogether 7 (instead st i (outline R)) → put (layout st) i R ≡ layout (instead st i (outline R))
    put_layout l after =
        let kept : KeepsRules R = subst (ParcelKeeps 7) own (after.each i l) in
        put_is (layout st) i R (sym (put_next (layout st) i R (allowed i l)) ∙ (accepted_number R).1 kept) ∙ layout_with st stand i (outline R)

    pub put_layout_refused : ((i < slots) × KeepsRules R → ⊥) → put (layout st) i R ≡ layout st
    put_layout_refused refused = sym (put_refused (layout st) i R (λ z. look z (dec_lt i slots)))
      where
        look : put_number (layout st) i R ≡ 0 → Dec (i < slots) → ⊥
        look z (yes l) = refused (l, put_keeps (layout st) i R z)
        look z (no l) = no_slot i l (put_ready (layout st) i R z).change

  -- ---- a removal
  -- what stands nowhere is taken out for nothing
  gone : (i : ℕ) → (i < slots → st i ≡ nothing) → layout st ≡ layout (instead st i nothing)
  gone i h =
      layout_same st (instead st i nothing)
      (λ k l. elim (ℕ_discrete k i) [ yes e ↦ ap st e ∙ h (rw e at l) ∙ sym (simp (eq-eqb k i e)) | no e ↦ sym (simp (ne_eqb k i e)) ])

  pub remove_layout : (i : ℕ) → remove (layout st) i ≡ layout (instead st i nothing)
  remove_layout i =
      elim (dec_lt i slots) [
        | yes l ↦ look l (st i) refl
        | no l ↦ sym (remove_refused (layout st) i (λ z. no_slot i l (remove_ready (layout st) i z).change)) ∙ gone i (λ h. absurd (l h))
      ]
    where
      number : (l : i < slots) (p : Parcel) → st i ≡ p → number_if (not (occupied p)) SlotEmpty ≡ remove_number (layout st) i
      number l p e = remove_next (layout st) i (allowed i l) (not (occupied p)) (layout_empty st stand i l ∙ ap (λ (q : Parcel). not (occupied q)) e)

      look : i < slots → (p : Parcel) → st i ≡ p → remove (layout st) i ≡ layout (instead st i nothing)
      look l nothing e = sym (remove_refused (layout st) i (λ z. number_some SlotEmpty (number l nothing e ∙ z))) ∙ gone i (λ h. e)
      look l (outline R) e = sym (remove_done (layout st) i (sym (number l (outline R) e)) refl) ∙ layout_with st stand i nothing

  pub clear_layout : clear (layout st) ≡ layout (λ k. nothing)
  clear_layout = sym (clear_done (layout st) ((lists_mean (layout st)).1 (layout_lists st stand)) refl).1 ∙ blank_layout
