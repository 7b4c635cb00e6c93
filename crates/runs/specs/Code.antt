-- SCOPE 1.3: what a run of the code itself is; calls of the functions, each of which met its contract. `Post` is a function's contract as the checker
-- generates it from the source: of the arguments a at entry, the answer r and the arguments e at exit.
--   Called c s n t     a call c that found the sheet s, answered in numbers n and left the sheet t, as the contract of the function that was called has it
--   Ran cs s           the sheet s after a run of such calls, the newest first, each of which found what the one before it left. The first found
--                      an empty sheet: every number was 0, or a clearing had answered 0
use Rattle.std.specs.Prelude.{List, [], ◌∷◌, ℕ, Result}
use Rattle.region.specs.declared.refusals.Refusal.{Refusal}
use Rattle.region.specs.Refusals.{number_in}
use Rattle.region.specs.Outline.{drawn_by}
use Rattle.layout.specs.Sheet.{Sheet, sheet_of}
use Rattle.layout.specs.Layout.{blank}
use Rattle.sheet.proofs.put.Reads as put_reads
use Rattle.sheet.proofs.remove.Reads as remove_reads
use Rattle.sheet.proofs.clear.Reads as clear_reads
use Rattle.loading.proofs.load.Reads as load_reads
use Rattle.runs.specs.Runs.{Call, put, remove, clear, load}

pub data Called : Call → Sheet → ℕ → Sheet → Type 0 where
  put_called : (κs : _) (a : _) (r : Result (Unit {0}) Refusal) (e : _) → put_reads.Post κs a r e
      → Called (put a.1.1.1.0 (drawn_by a.1.1.1.1.0)) (sheet_of a.0.now a.1.0.now a.1.1.0.now) (number_in r) (sheet_of e.0.now e.1.0.now e.1.1.0.now)
  remove_called : (κs : _) (a : _) (r : Result (Unit {0}) Refusal) (e : _) → remove_reads.Post κs a r e
      → Called (remove a.1.1.1.0) (sheet_of a.0.now a.1.0.now a.1.1.0.now) (number_in r) (sheet_of e.0.now e.1.0.now e.1.1.0.now)
  clear_called : (κs : _) (a : _) (r : Result (Unit {0}) Refusal) (e : _) → clear_reads.Post κs a r e
      → Called clear (sheet_of a.0.now a.1.0.now a.1.1.0.now) (number_in r) (sheet_of e.0.now e.1.0.now e.1.1.0.now)
  load_called : (κs : _) (a : _) (r : Result (Unit {0}) Refusal) (e : _) → load_reads.Post κs a r e
      → Called (load a.1.1.1.0.now) (sheet_of a.0.now a.1.0.now a.1.1.0.now) (number_in r) (sheet_of e.0.now e.1.0.now e.1.1.0.now)

pub data Ran : List Call → Sheet → Type 0 where
  all_zero : Ran [] blank
  cleared : {s t : Sheet} → Called clear s 0 t → Ran [] t
  and_then : {cs : List Call} {c : Call} {s t : Sheet} {n : ℕ} → Ran cs s → Called c s n t → Ran (c ∷ cs) t
