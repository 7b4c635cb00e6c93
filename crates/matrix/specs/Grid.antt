-- SCOPE 5.1: the lines of the two boxes, those that fall together counted once, cut the plane between the outermost of them into strips.
-- One axis at a time: the lines lo and hi of the first box, lo' and hi' of the second. The strips between neighbouring lines
-- are numbered from the low end, so columns are the strips in x, and rows the strips in y counted from the other end.
--   IsLine lo hi lo' hi' v        v is one of the four lines
--   Strips lo hi lo' hi' m        the distinct lines leave m strips
--   Strip lo hi lo' hi' i p q     strip i lies between the lines p and q: they are neighbours, and i distinct lines lie below p
--   Cell L M i j p q u v          the cell in row i from the north and column j from the west lies between p and q in x and u and v in y
use Rattle.std.specs.Prelude.{◌≡◌, ◌⊎◌, ℕ, suc, ◌+◌, ℤ, ◌<ℤ◌}
use Rattle.plane.specs.Points.{Lines}
use Rattle.plane.specs.Counting.{Distinct}

abbrev pub IsLine : (lo hi lo' hi' v : ℤ) → Type 0
IsLine lo hi lo' hi' v = (v ≡ lo) ⊎ ((v ≡ hi) ⊎ ((v ≡ lo') ⊎ (v ≡ hi')))

abbrev pub Strips : (lo hi lo' hi' : ℤ) → ℕ → Type 0
Strips lo hi lo' hi' m = Distinct ℤ (IsLine lo hi lo' hi') (λ v w. v ≡ w) (suc m)

pub record Strip (lo hi lo' hi' : ℤ) (i : ℕ) (p q : ℤ) : Type 0 where
  pub from_line : IsLine lo hi lo' hi' p
  pub to_line : IsLine lo hi lo' hi' q
  pub rises : p <ℤ q
  pub none_between : (v : ℤ) → IsLine lo hi lo' hi' v → p <ℤ v → v <ℤ q → ⊥
  pub below : Distinct ℤ (λ v. IsLine lo hi lo' hi' v × (v <ℤ p)) (λ v w. v ≡ w) i

pub record Cell (L M : Lines) (i j : ℕ) (p q u v : ℤ) : Type 0 where
  pub rows : ℕ
  pub row_count : Strips L.south L.north M.south M.north rows
  pub from_south : ℕ
  pub from_north : from_south + suc i ≡ rows
  pub column : Strip L.west L.east M.west M.east j p q
  pub row : Strip L.south L.north M.south M.north from_south u v
