-- The contracts leave one answer.
--   place_in_only, found_near_only, bands_found_near_only    two answers that meet the contract for the same arguments are equal
--   lay_bands_only                    so are the three lists at exit
--   bands_lay_only                    so are the bands at exit
use mathlib.Core.Path.{◌≡◌, sym, ◌∙◌}
use Prim.Native.Nat.{ℕ}
use Rattle.bands.proofs.place_in.Reads as place_in
use Rattle.bands.proofs.found_near.Reads as found_near
use Rattle.bands.proofs.lay_bands.Reads as lay_bands
use Rattle.bands.proofs.Bands.found_near.Reads as bands_found_near
use Rattle.bands.proofs.Bands.lay.Reads as bands_lay

pub place_in_only : (κs : _) (a : _) (r r' : ℕ) (s s' : _) → place_in.Post κs a r s → place_in.Post κs a r' s' → r ≡ r'
place_in_only κs a r r' s s' p q = p ∙ sym q

pub found_near_only : (κs : _) (a : _) (r r' : ℕ) (s s' : _) → found_near.Post κs a r s → found_near.Post κs a r' s' → r ≡ r'
found_near_only κs a r r' s s' p q = p ∙ sym q

pub bands_found_near_only : (κs : _) (a : _) (r r' : ℕ) (s s' : _) → bands_found_near.Post κs a r s → bands_found_near.Post κs a r' s' → r ≡ r'
bands_found_near_only κs a r r' s s' p q = p ∙ sym q

pub lay_bands_only : (κs : _) (a : _) (r r' : _) (s s' : _) → lay_bands.Post κs a r s → lay_bands.Post κs a r' s'
    → (s.1.1.1.1.0.now ≡ s'.1.1.1.1.0.now)
    × (s.1.1.1.1.1.0.now ≡ s'.1.1.1.1.1.0.now)
    × (s.1.1.1.1.1.1.0.now ≡ s'.1.1.1.1.1.1.0.now)
lay_bands_only κs a r r' s s' p q =
    let e = p.0 ∙ sym q.0 in
    (e, p.1.0 ∙ rw e (sym q.1.0), p.1.1 ∙ rw e (sym q.1.1))

pub bands_lay_only : (κs : _) (a : _) (r r' : _) (s s' : _) → bands_lay.Post κs a r s → bands_lay.Post κs a r' s' → s.0.now ≡ s'.0.now
bands_lay_only κs a r r' s s' p q =
    let ends = p.0 ∙ sym q.0 in
    let below = p.1.0 ∙ rw ends (sym q.1.0) in
    let above = p.1.1 ∙ rw ends (sym q.1.1) in
    λ i. record { ends = ends i; below = below i; above = above i }
