use Rattle.std.proofs.Common.{◌≡◌, [], ◌∷◌, ℕ, ◌/◌, ◌%◌, ℤ, pos, negsuc, refl, ap, ◌∙◌, w32, of_z, arith}
use Rattle.std.proofs.Math.Facts.{to_z-of_z}
use Rattle.endian.specs.Bytes.{unsigned, i32_bytes}
use Rattle.endian.proofs.Placed.{placed_part}
use Rattle.endian.proofs.I32LittleEndian.put.Goals as goal

bits : (z : ℤ) → of_z w32 z ≡ unsigned z
bits (pos n) = refl
bits (negsuc n) = omega arith

four : (u v : ℕ) → u ≡ v
    → u % 256 ∷ u / 256 % 256 ∷ u / 65536 % 256 ∷ u / 16777216 % 256 ∷ [] ≡ v % 65536 % 256 ∷ v % 65536 / 256 % 256 ∷ v / 65536 % 256 ∷ v / 65536 / 256 % 256 ∷ []
four u v e =
    let a : u % 256 ≡ v % 65536 % 256 = omega arith in
    let b : u / 256 % 256 ≡ v % 65536 / 256 % 256 = omega arith in
    let c : u / 65536 % 256 ≡ v / 65536 % 256 = omega arith in
    let d : u / 16777216 % 256 ≡ v / 65536 / 256 % 256 = omega arith in
    cc

pub returns : goal.returns
returns c =
    placed_part c.args.b.now (i32_bytes c.args.self) c.args.at (omega arith)
    (c.copy_from_slice.ensures.after ∙ c.to_le_bytes.ensures ∙ four _ _ (ap (of_z w32) (to_z-of_z c.ranges.self) ∙ bits c.args.self)) (omega arith)
