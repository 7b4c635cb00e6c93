-- One edge and one point, in numbers that are not negative: the ray east of the point against the ray north of it, which is the ray east with x and y
-- exchanged, and against the ray west of it. It only carries the proofs of Parity.
--   passes         whether an edge counts, by which of its ends are above and on which side of it the point lies
--   On             the point lies on the edge, and the edge is not level
--   corner         whether a vertex lies strictly north-east of the point
--   turned         where the point does not lie on the edge, east and north count alike, but for ends that lie north-east
--   westward       the edge crosses the point's level west of it, or at it;  West  at such a point;  west_there  where the test holds there is one
--   west_means     it does where it crosses the level and not east of the point
--   opposite       east and west count alike, but for ends that lie above
use mathlib.Core.Path.{◌≡◌, refl, sym, ◌∙◌, ap}
use mathlib.Core.Logic.{◌↔◌, ◌≢◌}
use mathlib.Core.Bool.{Bool, true, false, not, ◌&&◌, cond}
use Prim.Native.Nat.{ℕ, ◌+◌, ◌-◌, ◌*◌, ◌%◌, ◌≤◌, ◌<◌}
use native.Mathlib.Omega.{arith}
use native.Mathlib.Nat.{mul-pos}
use native.Mathlib.Decide.{dec_lt}
use borrow.Author.Tests.{ltb-true, ltb-false, lt-ltb, le-ltb, le-leb, lt-leb, not-true}
use lib.Dec.{ltb, leb}
use Rattle.plane.specs.TileSet.{one_if}
use Rattle.plane.proofs.Logic.{never}
use Rattle.meet.specs.MeetTest.{leftward, rightward}
use Rattle.ring.specs.Enclosed.{eastward}

-- ---- which side of a rising edge
module _ (ax ay bx by px py u v g h : ℕ) (eg : g + py ≡ by) (eh : h + ay ≡ py) where
  west_is : u + ax ≡ px → v + bx ≡ px → u * g + v * h + leftward ax ay bx by px py ≡ rightward ax ay bx by px py
  west_is eu ev = omega (arith, ap (λ z. by * z) eu, ap (λ z. py * z) eu, ap (λ z. py * z) ev, ap (λ z. ay * z) ev, ap (λ z. u * z) eg, ap (λ z. v * z) eh)

  east_is : u + px ≡ ax → v + px ≡ bx → u * g + v * h + rightward ax ay bx by px py ≡ leftward ax ay bx by px py
  east_is eu ev = omega (arith, ap (λ z. by * z) eu, ap (λ z. py * z) eu, ap (λ z. py * z) ev, ap (λ z. ay * z) ev, ap (λ z. u * z) eg, ap (λ z. v * z) eh)

-- both ends west of p or at it; both ends strictly east of it
west_of_lem : (ax ay bx by px py : ℕ) → ax ≤ px → bx ≤ px → ay ≤ py → py < by → leftward ax ay bx by px py ≤ rightward ax ay bx by px py
west_of_lem ax ay bx by px py a b c d =
    omega (arith, west_is ax ay bx by px py (px - ax) (px - bx) (by - py) (py - ay) (omega arith) (omega arith) (omega arith) (omega arith))

east_of_lem : (ax ay bx by px py : ℕ) → px < ax → px < bx → ay ≤ py → py < by → rightward ax ay bx by px py < leftward ax ay bx by px py
east_of_lem ax ay bx by px py a b c d =
    let p : 0 < (ax - px) * (by - py) = mul-pos {m = ax - px} {n = by - py} (omega arith) (omega arith) in
    omega (arith, p, east_is ax ay bx by px py (ax - px) (bx - px) (by - py) (py - ay) (omega arith) (omega arith) (omega arith) (omega arith))

-- ---- the count of an edge, by where its ends are: x and y say which ends are above, l and r on which side the point is
abbrev pub passes : (x y l r : Bool) → Bool
passes false false l r = false
passes false true l r = l
passes true false l r = r
passes true true l r = false

module _ (ax ay bx by px py : ℕ) where
  abbrev L : Bool
  L = ltb (rightward ax ay bx by px py) (leftward ax ay bx by px py)

  abbrev R : Bool
  R = ltb (leftward ax ay bx by px py) (rightward ax ay bx by px py)

  leb_not : (a b : ℕ) → leb a b ≡ not (ltb b a)
  leb_not a b = go (ltb b a) refl
    where
      go : (t : Bool) → ltb b a ≡ t → leb a b ≡ not t
      go true e = lt-leb a b (ltb-true b a e)
      go false e = le-leb a b (ltb-false b a e)

  east_form : eastward ax ay bx by px py ≡ passes (ltb py ay) (ltb py by) L R
  unfolding eastward
  east_form = rw (leb_not ay py, leb_not by py) (go (ltb py ay) (ltb py by))
    where
      go : (x y : Bool) → cond (not x) (cond y L false) (cond (not y) R false) ≡ passes x y L R
      go false false = refl
      go false true = refl
      go true false = refl
      go true true = refl

-- the other axis: left and right change places
north_form : (ax ay bx by px py : ℕ) → eastward ay ax by bx py px ≡ passes (ltb px ax) (ltb px bx) (R ax ay bx by px py) (L ax ay bx by px py)
north_form ax ay bx by px py =
    let f : leftward ay ax by bx py px ≡ rightward ax ay bx by px py = omega arith in
    let a : rightward ay ax by bx py px ≡ leftward ax ay bx by px py = omega arith in
    east_form ay ax by bx py px ∙ ap (λ z. passes (ltb px ax) (ltb px bx) (ltb z (leftward ay ax by bx py px)) (ltb (leftward ay ax by bx py px) z)) a
    ∙ ap (λ z. passes (ltb px ax) (ltb px bx) (ltb (leftward ax ay bx by px py) z) (ltb z (leftward ax ay bx by px py))) f

-- p is a point of the edge, and the edge is not level
pub record On (ax ay bx by px py : ℕ) : Type 0 where
  pub ne : ay ≢ by
  pub j : ℕ
  pub k : ℕ
  pub some : 0 < j + k
  pub level : j * ay + k * by ≡ (j + k) * py
  pub there : j * ax + k * bx ≡ (j + k) * px

-- on the line of a rising edge, at its height
rising : (ax ay bx by px py : ℕ) → ay ≤ py → py < by → leftward ax ay bx by px py ≡ rightward ax ay bx by px py → On ax ay bx by px py
rising ax ay bx by px py a b e = go (by - py) (py - ay) (omega arith) (omega arith)
  where
    go : (j k : ℕ) → j + py ≡ by → k + ay ≡ py → On ax ay bx by px py
    go j k u v = record {
      ne = omega arith;
      j = j;
      k = k;
      some = omega arith;
      level = omega (arith, ap (λ z. k * z) u, ap (λ z. j * z) v, ap (λ z. k * z) v);
      there = omega (arith, ap (λ z. ax * z) u, ap (λ z. px * z) u, ap (λ z. bx * z) v, ap (λ z. px * z) v);
    }

flip : (ax ay bx by px py : ℕ) → On bx by ax ay px py → On ax ay bx by px py
flip ax ay bx by px py o = record { ne = λ e. o.ne (sym e); j = o.k; k = o.j; some = omega (arith, o.some); level = omega (arith, o.level); there = omega (arith, o.there) }

-- v is north-east of p
abbrev pub corner : (px py x y : ℕ) → ℕ
corner px py x y = one_if (ltb px x && ltb py y)

-- east and north together: even, but for the ends that are north-east
module _ (ax ay bx by px py : ℕ) (off : On ax ay bx by px py → ⊥) where
  abbrev F : ℕ
  F = leftward ax ay bx by px py

  abbrev G : ℕ
  G = rightward ax ay bx by px py

  -- from corner to corner through p's sides
  diagonal : (F ≡ G → ⊥) → (one_if (ltb G F) + one_if (ltb F G)) % 2 ≡ 1
  diagonal ne = go (dec_lt F G) (dec_lt G F)
    where
      go : Dec (F < G) → Dec (G < F) → (one_if (ltb G F) + one_if (ltb F G)) % 2 ≡ 1
      go (yes p) q = rw (lt-ltb F G p, le-ltb G F (omega arith)) refl
      go (no p) (yes q) = rw (lt-ltb G F q, le-ltb F G (omega arith)) refl
      go (no p) (no q) = absurd (ne (omega arith))

  twice : (x : Bool) → (one_if x + one_if x + 0 + 0) % 2 ≡ 0
  twice true = refl
  twice false = refl

  even : (x y a b : Bool) → ltb px ax ≡ x → ltb py ay ≡ y → ltb px bx ≡ a → ltb py by ≡ b
      → (one_if (passes y b (ltb G F) (ltb F G)) + one_if (passes x a (ltb F G) (ltb G F)) + one_if (x && y) + one_if (a && b)) % 2 ≡ 0
  even false false false false ex ey ea eb = refl
  even true false true false ex ey ea eb = refl
  even false true false true ex ey ea eb = refl
  even true true true true ex ey ea eb = refl
  even false false true true ex ey ea eb =
      let a : ay ≤ py = ltb-false py ay ey in
      let d : py < by = ltb-true py by eb in
      omega (arith, diagonal (λ e. off (rising ax ay bx by px py a d e)))
  even true true false false ex ey ea eb =
      let a : by ≤ py = ltb-false py by eb in
      let d : py < ay = ltb-true py ay ey in
      omega (arith, diagonal (λ e. off (flip ax ay bx by px py (rising bx by ax ay px py a d (omega arith)))))
  even true false false true ex ey ea eb = twice (ltb G F)
  even false true true false ex ey ea eb = twice (ltb F G)
  even false false false true ex ey ea eb = rw (le-ltb G F (west_of_lem ax ay bx by px py (ltb-false px ax ex) (ltb-false px bx ea) (ltb-false py ay ey) (ltb-true py by eb))) refl
  even false true false false ex ey ea eb =
      let w = west_of_lem bx by ax ay px py (ltb-false px bx ea) (ltb-false px ax ex) (ltb-false py by eb) (ltb-true py ay ey) in rw (le-ltb F G (omega arith)) refl
  even true false true true ex ey ea eb = rw (lt-ltb G F (east_of_lem ax ay bx by px py (ltb-true px ax ex) (ltb-true px bx ea) (ltb-false py ay ey) (ltb-true py by eb))) refl
  even true true true false ex ey ea eb =
      let w = east_of_lem bx by ax ay px py (ltb-true px bx ea) (ltb-true px ax ex) (ltb-false py by eb) (ltb-true py ay ey) in rw (lt-ltb F G (omega arith)) refl
  even false false true false ex ey ea eb =
      let w = west_of_lem ay ax by bx py px (ltb-false py ay ey) (ltb-false py by eb) (ltb-false px ax ex) (ltb-true px bx ea) in rw (le-ltb F G (omega arith)) refl
  even true false false false ex ey ea eb =
      let w = west_of_lem by bx ay ax py px (ltb-false py by eb) (ltb-false py ay ey) (ltb-false px bx ea) (ltb-true px ax ex) in rw (le-ltb G F (omega arith)) refl
  even false true true true ex ey ea eb =
      let w = east_of_lem ay ax by bx py px (ltb-true py ay ey) (ltb-true py by eb) (ltb-false px ax ex) (ltb-true px bx ea) in rw (lt-ltb F G (omega arith)) refl
  even true true false true ex ey ea eb =
      let w = east_of_lem by bx ay ax py px (ltb-true py by eb) (ltb-true py ay ey) (ltb-false px bx ea) (ltb-true px ax ex) in rw (lt-ltb G F (omega arith)) refl

  pub turned : (one_if (eastward ax ay bx by px py) + corner px py ax ay + corner px py bx by) % 2 ≡ one_if (eastward ay ax by bx py px) % 2
  turned = rw (east_form ax ay bx by px py, north_form ax ay bx by px py)
      (omega (arith, even (ltb px ax) (ltb py ay) (ltb px bx) (ltb py by) refl refl refl refl))

-- ---- the ray west of p, p itself counted
abbrev pub westward : (ax ay bx by px py : ℕ) → Bool
westward ax ay bx by px py = passes (ltb py ay) (ltb py by) (not (L ax ay bx by px py)) (not (R ax ay bx by px py))

pub opposite : (ax ay bx by px py : ℕ) → (one_if (eastward ax ay bx by px py) + one_if (ltb py ay) + one_if (ltb py by)) % 2 ≡ one_if (westward ax ay bx by px py) % 2
opposite ax ay bx by px py = rw (east_form ax ay bx by px py) (go (ltb py ay) (ltb py by) (L ax ay bx by px py) (R ax ay bx by px py))
  where
    go : (x y l r : Bool) → (one_if (passes x y l r) + one_if x + one_if y) % 2 ≡ one_if (passes x y (not l) (not r)) % 2
    go false false l r = refl
    go true true l r = refl
    go false true true r = refl
    go false true false r = refl
    go true false l true = refl
    go true false l false = refl

-- a point of an edge that is not level, at the height of p and west of it, or at it
pub record West (ax ay bx by px py : ℕ) : Type 0 where
  pub ne : ay ≢ by
  pub j : ℕ
  pub k : ℕ
  pub some : 0 < j + k
  pub level : j * ay + k * by ≡ (j + k) * py
  pub before : j * ax + k * bx ≤ (j + k) * px

up_west : (ax ay bx by px py : ℕ) → ay ≤ py → py < by → leftward ax ay bx by px py ≤ rightward ax ay bx by px py → West ax ay bx by px py
up_west ax ay bx by px py a b e = go (by - py) (py - ay) (omega arith) (omega arith)
  where
    go : (j k : ℕ) → j + py ≡ by → k + ay ≡ py → West ax ay bx by px py
    go j k u v = record {
      ne = omega arith;
      j = j;
      k = k;
      some = omega arith;
      level = omega (arith, ap (λ z. k * z) u, ap (λ z. j * z) v, ap (λ z. k * z) v);
      before = omega (arith, ap (λ z. ax * z) u, ap (λ z. px * z) u, ap (λ z. bx * z) v, ap (λ z. px * z) v);
    }

pub west_there : (ax ay bx by px py : ℕ) → westward ax ay bx by px py ≡ true → West ax ay bx by px py
west_there ax ay bx by px py h = go (ltb py ay) refl (ltb py by) refl h
  where
    F : ℕ
    F = leftward ax ay bx by px py

    G : ℕ
    G = rightward ax ay bx by px py

    go : (x : Bool) → ltb py ay ≡ x → (y : Bool) → ltb py by ≡ y → passes x y (not (ltb G F)) (not (ltb F G)) ≡ true → West ax ay bx by px py
    go false ex false ey h = never h
    go true ex true ey h = never h
    go false ex true ey h = up_west ax ay bx by px py (ltb-false py ay ex) (ltb-true py by ey) (ltb-false G F (not-true (ltb G F) h))
    go true ex false ey h =
        let le : G ≤ F = ltb-false F G (not-true (ltb F G) h) in
        let w = up_west bx by ax ay px py (ltb-false py by ey) (ltb-true py ay ex) (omega arith) in
        record { ne = λ e. w.ne (sym e); j = w.k; k = w.j; some = omega (arith, w.some); level = omega (arith, w.level); before = omega (arith, w.before) }

-- the edge crosses the level, and not east of p
pub west_means : (ax ay bx by px py : ℕ) → (westward ax ay bx by px py ≡ true) ↔ ((passes (ltb py ay) (ltb py by) true true ≡ true) × (eastward ax ay bx by px py ≡ false))
west_means ax ay bx by px py = rw (east_form ax ay bx by px py) (go (ltb py ay) (ltb py by) (L ax ay bx by px py) (R ax ay bx by px py))
  where
    go : (x y l r : Bool) → (passes x y (not l) (not r) ≡ true) ↔ ((passes x y true true ≡ true) × (passes x y l r ≡ false))
    go false false l r = (λ h. never h, λ h. never h.0)
    go true true l r = (λ h. never h, λ h. never h.0)
    go false true true r = (λ h. never h, λ h. never (sym h.1))
    go false true false r = (λ h. (refl, refl), λ h. refl)
    go true false l true = (λ h. never h, λ h. never (sym h.1))
    go true false l false = (λ h. (refl, refl), λ h. refl)
