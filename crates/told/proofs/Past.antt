-- Past the end of the table.
--   past_end      past its end a list has nothing
--   entry_past    past the last entry there is 0
use mathlib.Core.Path.{◌≡◌, refl, ◌∙◌, ap}
use mathlib.Core.List.{List, [], ◌∷◌}
use Prim.Native.Nat.{ℕ, zero, suc, ◌*◌, ◌/◌, ◌%◌, ◌^◌, ◌≤◌, ◌<◌}
use native.Mathlib.Omega.{arith}
use native.Mathlib.Decide.{ℕ_discrete}
use native.Mathlib.Nat.{zero-div}
use lib.ListN.{length, get_or}
use Rattle.told.specs.Entries.{two_entries, entry_at}

pub past_end : (l : List ℕ) (k : ℕ) → length l ≤ k → get_or l k 0 ≡ 0
past_end [] k h = refl
past_end (x ∷ l) zero h = absurd (omega arith)
past_end (x ∷ l) (suc k) h = past_end l k (omega arith)

pub entry_past : (i : ℕ) → 624 < i → entry_at i ≡ 0
unfolding entry_at
entry_past i h =
    elim (ℕ_discrete i 625) [
      | yes e ↦ ap (λ (i : ℕ). get_or two_entries (i / 2) 0 / 2 ^ (32 * (i % 2)) % 4294967296) e
      | no e ↦ (let l : 313 ≤ i / 2 = omega arith in ap (λ (w : ℕ). w / 2 ^ (32 * (i % 2)) % 4294967296) (past_end two_entries (i / 2) l) ∙ ap (λ (w : ℕ). w % 4294967296) (zero-div (2 ^ (32 * (i % 2)))))
    ]
