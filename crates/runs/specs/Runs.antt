-- SCOPE 1.3: a sheet that began empty, and any run of our calls on it, refused ones among them. What stands is, slot by slot, the last parcel
-- that was accepted there, unless a later call took it out. The sheet is then, number for number, a fresh one into which what stands is put
-- once each, lowest slot first.
--   Call                     a call with its arguments
--   after_call c s            the sheet at the call's exit, by the definitions that the contracts cite;  call_number c s  what the call answers
--   after_run cs             the sheet after a run of calls on an empty one, the newest call first
--   AcceptedPut i R          a put that is accepted on such a sheet: there is such a slot, and the outline keeps rules 1 to 7
--   Spares i c               the call c takes nothing out of slot i and puts nothing into it
--   Stands cs i R            the outline R stands in slot i after the run cs
--   accepts i R              the test of an accepted put
--   standing cs i            what stands in slot i, computed. Its meaning: proofs/Runs, `standing_means`
--   put_parcel s i p         the sheet s once the parcel p is put into slot i
--   fresh st                 a fresh sheet into which the parcels st are put once each in rising slot order
use Rattle.std.specs.Prelude.{◌≡◌, ◌≢◌, Bool, ◌&&◌, List, [], ◌∷◌, ℕ, ◌<◌, ltb, eqb}
use Rattle.plane.specs.Choice.{pick}
use Rattle.plane.specs.Folds.{turns}
use Rattle.region.specs.Region.{Region, Parcel, nothing, outline}
use Rattle.region.specs.Rules.{KeepsRules}
use Rattle.region.specs.Check.{check_of, number_of}
use Rattle.layout.specs.Sheet.{Sheet, slots}
use Rattle.layout.specs.Standing.{instead}
use Rattle.layout.specs.Layout.{blank}
use Rattle.calls.specs.Changes as Changes
use Rattle.card.specs.Reading.{parcel_in}
use Rattle.card.specs.Good.{GoodCard}
use Rattle.card.specs.CardNumber.{card_number}
use Rattle.loading.specs.Load as Load

pub data Call : Type 0 where
  put : ℕ → Region → Call
  remove : ℕ → Call
  clear : Call
  load : List ℕ → Call

abbrev pub after_call : Call → Sheet → Sheet
after_call (put i R) s = Changes.put s i R
after_call (remove i) s = Changes.remove s i
after_call clear s = Changes.clear s
after_call (load card) s = Load.load s card

abbrev pub call_number : Call → Sheet → ℕ
call_number (put i R) s = Changes.put_number s i R
call_number (remove i) s = Changes.remove_number s i
call_number clear s = Changes.clear_number s
call_number (load card) s = Load.load_number s card

abbrev pub after_run : List Call → Sheet
after_run [] = blank
after_run (c ∷ cs) = after_call c (after_run cs)

abbrev pub AcceptedPut : ℕ → Region → Type 0
AcceptedPut i R = (i < slots) × KeepsRules R

pub data Spares (i : ℕ) : Call → Type 0 where
  put_elsewhere : (j : ℕ) (R : Region) → j ≢ i → Spares i (put j R)
  put_refused : (j : ℕ) (R : Region) → (AcceptedPut j R → ⊥) → Spares i (put j R)
  removed_elsewhere : (j : ℕ) → j ≢ i → Spares i (remove j)
  load_refused : (card : List ℕ) → (GoodCard card → ⊥) → Spares i (load card)

pub data Stands : List Call → ℕ → Region → Type 0 where
  just_put : (cs : List Call) (i : ℕ) (R : Region) → AcceptedPut i R → Stands (put i R ∷ cs) i R
  just_loaded : (cs : List Call) (card : List ℕ) (i : ℕ) (R : Region) → GoodCard card → parcel_in card i ≡ outline R → Stands (load card ∷ cs) i R
  still : (cs : List Call) (c : Call) (i : ℕ) (R : Region) → Spares i c → Stands cs i R → Stands (c ∷ cs) i R

abbrev pub accepts : ℕ → Region → Bool
accepts i R = ltb i slots && eqb (number_of (check_of R)) 0

abbrev pub standing : List Call → ℕ → Parcel
standing [] = λ k. nothing
standing (put i R ∷ cs) = pick (accepts i R) (instead (standing cs) i (outline R)) (standing cs)
standing (remove i ∷ cs) = instead (standing cs) i nothing
standing (clear ∷ cs) = λ k. nothing
standing (load card ∷ cs) = pick (eqb (card_number card) 0) (parcel_in card) (standing cs)

abbrev pub put_parcel : Sheet → ℕ → Parcel → Sheet
put_parcel s i nothing = s
put_parcel s i (outline R) = Changes.put s i R

abbrev pub fresh : (ℕ → Parcel) → Sheet
fresh st = turns (λ i s. put_parcel s i (st i)) slots blank
