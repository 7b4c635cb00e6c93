use native.Mathlib.Omega.{arith}
use borrow.Author.Tests.{le-leb, lt-leb}
use Prim.Native.Nat.{◌+◌, ◌-◌, ◌≤◌, ◌<◌}
use lib.ListN.{length}
use mathlib.Core.Path.{◌≡◌, refl}
use Rattle.std.proofs.lemmas.Slice.{put_mid-paste}
use Rattle.words.proofs.write.put_text.Goals as goal

pub returns-then-out-text : goal.returns-then-out-text
returns-then-out-text c =
    let a = c.args in
    let h : length a.out.now < a.at + length a.text.now = omega arith in
    record { place = simp (lt-leb _ _ h); buffer = simp (lt-leb _ _ h) }

pub returns-then-out-text-2 : goal.returns-then-out-text-2
returns-then-out-text-2 c =
    let a = c.args in
    let h : length a.out.now < a.at + length a.text.now = omega arith in
    record { place = simp (lt-leb _ _ h); buffer = simp (lt-leb _ _ h) }

pub returns : goal.returns
returns c =
    let a = c.args in
    let h : a.at + length a.text.now ≤ length a.out.now = omega arith in
    let e : length a.text.now ≡ a.at + length a.text.now - a.at = omega arith in
    record { place = simp (le-leb _ _ h); buffer = simp (le-leb _ _ h) (put_mid-paste _ _ _ _ _ _ c.copy_from_slice.ensures.after e refl) }
