use mathlib.Core.Path.{◌≡◌, sym, ◌∙◌, ap}
use mathlib.Core.Bool.{Bool, true, false, ◌||◌}
use mathlib.Core.List.{List}
use Prim.Native.Nat.{ℕ, ◌≤◌}
use lib.IntN.{ℤ}
use Rattle.simple.specs.declared.Scan.{Scan}
use Rattle.simple.specs.declared.Faults.{Faults}
use Rattle.simple.specs.Faults.{faults_of}
use Rattle.simple.specs.Parts.{folded, meets, scan_of}
use Rattle.simple.proofs.Parts.{tangled_parts}
use Rattle.simple.proofs.ring_faults.Goals as goal

module _ (xs : List ℤ) (from n : ℕ) (three : 3 ≤ n) (s : Scan) (e : s ≡ scan_of xs from n) where
  made : (t : Bool) → t ≡ folded xs from n || meets xs from n
      → ◌≡◌ {A = Faults} (record { repeated = s.repeated; tangled = t; turned = s.turned }) (faults_of xs from n)
  unfolding faults_of scan_of
  made t p = let q = p ∙ sym (tangled_parts xs from n three) in λ i. record { repeated = (e i).repeated; tangled = q i; turned = (e i).turned }

  folds_decide : s.folded ≡ true → true ≡ folded xs from n || meets xs from n
  unfolding scan_of
  folds_decide t = rw (sym (ap (λ (s : Scan). s.folded) e) ∙ t)

  search_decides : (t : Bool) → s.folded ≡ false → t ≡ meets xs from n → t ≡ folded xs from n || meets xs from n
  unfolding scan_of
  search_decides t f p = rw (sym (ap (λ (s : Scan). s.folded) e) ∙ f) p

pub returns-then-s : goal.returns-then-s
returns-then-s c =
    let a = c.args in
    let p = c.requires in
    let s = c.ring_scan-s in
    made a.ring.outline.now a.ring.from a.ring.size p.0 s.result s.ensures true
    (folds_decide a.ring.outline.now a.ring.from a.ring.size p.0 s.result s.ensures c.if-s.true)

pub returns : goal.returns
returns c =
    let a = c.args in
    let p = c.requires in
    let s = c.ring_scan-s in
    made a.ring.outline.now a.ring.from a.ring.size p.0 s.result s.ensures c.ring_meets-tangled.result
    (search_decides a.ring.outline.now a.ring.from a.ring.size p.0 s.result s.ensures c.ring_meets-tangled.result c.if-s.false c.ring_meets-tangled.ensures)
