-- Rule 6 in two parts: edges that fold back on the edge before, and strangers that share a point.
--   pair_is         for two strangers, what is asked is whether they share a point
--   pair_means      what it says of two edges that they meet
--   before_past, after_past    the strangers of edge i end where `past_strangers` says
--   with_found, with_none      a search for an edge that edge i meets, and what it has found
--   meets_found, meets_none    a search over the edges i: the last two have no stranger after them
--   three_none      in a ring of three there are no strangers;  four_first, four_second  in a ring of four there are two pairs
--   tangled_parts   together the two parts are rule 6
use mathlib.Core.Path.{◌≡◌, sym, ◌∙◌, ap}
use mathlib.Core.Logic.{◌⊎◌, inl, inr, ⊎_elim}
use mathlib.Core.Bool.{Bool, true, false, not, ◌&&◌, ◌||◌}
use mathlib.Core.List.{List}
use Prim.Native.Nat.{ℕ, ◌+◌, ◌-◌, ◌≤◌, ◌<◌}
use native.Mathlib.Omega.{arith}
use native.Mathlib.Decide.{ℕ_discrete, dec_lt}
use borrow.Author.Tests.{lt-ltb, eq-eqb, ne_eqb, ltb-true}
use lib.Dec.{ltb, eqb}
use lib.IntN.{ℤ}
use Rattle.plane.specs.declared.Edge.{Edge}
use Rattle.plane.specs.Folds.{any_to}
use Rattle.plane.proofs.Folds.{any_means, any_none}
use Rattle.plane.proofs.Logic.{and_means, or_means, clash, is_false, both, never}
use Rattle.meet.specs.MeetTest.{shares, folds}
use Rattle.ring.specs.Edges.{ring_edge}
use Rattle.ring.specs.Tangled.{tangled_pair, tangled}
use Rattle.simple.specs.Parts.{edge_before, folded, strangers, past_strangers, meet_pair, meets_with, meets}
use Rattle.simple.proofs.Round.{before_first, before_next}

-- edges i and j are the first and the last
abbrev pub Round : (n i j : ℕ) → Type 0
Round n i j = (i ≡ 0) × (j + 1 ≡ n)

dec_round : (n i j : ℕ) → Dec (Round n i j)
dec_round n i j =
    elim (ℕ_discrete i 0) [
      | yes p ↦ elim (ℕ_discrete (j + 1) n) [ yes q ↦ yes (p, q) | no q ↦ no (λ r. q r.1) ]
      | no p ↦ no (λ r. p r.0)
    ]

round_true : (n i j : ℕ) → Round n i j → eqb i 0 && eqb (j + 1) n ≡ true
round_true n i j r = rw (eq-eqb i 0 r.0, eq-eqb (j + 1) n r.1)

round_false : (n i j : ℕ) → (Round n i j → ⊥) → eqb i 0 && eqb (j + 1) n ≡ false
round_false n i j r =
    elim (ℕ_discrete i 0) [
      | yes p ↦ rw (eq-eqb i 0 p, ne_eqb (j + 1) n (λ q. r (p, q)))
      | no p ↦ rw (ne_eqb i 0 p)
    ]

pub before_past : (n i j : ℕ) → 0 < n → j < past_strangers n i → (j < n) × (Round n i j → ⊥)
before_past n i j some h =
    elim (ℕ_discrete i 0) [
      | yes e ↦ (let q = rw (eq-eqb i 0 e) at h in (omega arith, λ r. absurd (omega (arith, r.1))))
      | no e ↦ (let q = rw (ne_eqb i 0 e) at h in (q, λ r. e r.0))
    ]

pub after_past : (n i j : ℕ) → j < n → past_strangers n i ≤ j → Round n i j
after_past n i j h l =
    elim (ℕ_discrete i 0) [
      | yes e ↦ (let q = rw (eq-eqb i 0 e) at l in (e, omega arith))
      | no e ↦ (let q = rw (ne_eqb i 0 e) at l in absurd (omega arith))
    ]

module _ (xs : List ℤ) (from n : ℕ) where
  abbrev edge : ℕ → Edge
  edge k = ring_edge xs from n k

  pub pair_is : (i j : ℕ) → i + 1 < j → (Round n i j → ⊥) → meet_pair xs from n i j ≡ shares (edge i) (edge j)
  unfolding meet_pair strangers
  pair_is i j h r = rw (lt-ltb (i + 1) j h, round_false n i j r)

  pub pair_round : (i j : ℕ) → Round n i j → meet_pair xs from n i j ≡ false
  unfolding meet_pair strangers
  pair_round i j r =
      is_false ((ltb (i + 1) j && not (eqb i 0 && eqb (j + 1) n)) && shares (edge i) (edge j))
      (λ t. let s = (and_means (ltb (i + 1) j) (not (eqb i 0 && eqb (j + 1) n))).0 ((and_means (ltb (i + 1) j && not (eqb i 0 && eqb (j + 1) n)) (shares (edge i) (edge j))).0 t).0 in
      never (sym (ap not (round_true n i j r)) ∙ s.1))

  pub pair_means : (i j : ℕ) → meet_pair xs from n i j ≡ true → (i + 1 < j) × (Round n i j → ⊥) × (shares (edge i) (edge j) ≡ true)
  unfolding meet_pair strangers
  pair_means i j t =
      let p = (and_means (ltb (i + 1) j && not (eqb i 0 && eqb (j + 1) n)) (shares (edge i) (edge j))).0 t in
      let q = (and_means (ltb (i + 1) j) (not (eqb i 0 && eqb (j + 1) n))).0 p.0 in
      (ltb-true (i + 1) j q.0, λ r. never (sym (ap not (round_true n i j r)) ∙ q.1), p.1)

  pub with_found : (i j : ℕ) → j < n → meet_pair xs from n i j ≡ true → true ≡ meets_with xs from n i
  unfolding meets_with
  with_found i j h t = sym ((any_means (meet_pair xs from n i) n).1 (j, h, t))

  pub with_none : (i : ℕ) → ((j : ℕ) → j < n → meet_pair xs from n i j ≡ true → ⊥) → false ≡ meets_with xs from n i
  unfolding meets_with
  with_none i h = sym (any_none (meet_pair xs from n i) n (λ j l. is_false (meet_pair xs from n i j) (h j l)))

  late : (i : ℕ) → n ≤ i + 2 → meets_with xs from n i ≡ false
  late i h = sym (with_none i (λ j l t. let p = (pair_means i j t).0 in absurd (omega arith)))

  pub meets_found : (i : ℕ) → i < n → meets_with xs from n i ≡ true → true ≡ meets xs from n
  unfolding meets
  meets_found i h t = sym ((any_means (meets_with xs from n) n).1 (i, h, t))

  pub meets_none : ((i : ℕ) → i + 2 < n → meets_with xs from n i ≡ false) → false ≡ meets xs from n
  unfolding meets
  meets_none h = sym (any_none (meets_with xs from n) n (λ i l. elim (dec_lt (i + 2) n) [ yes p ↦ h i p | no p ↦ late i (omega arith) ]))

  pub three_none : n ≡ 3 → false ≡ meets xs from n
  three_none e = meets_none (λ i h. sym (with_none i (λ j l t. let p = pair_means i j t in p.1 (omega (arith, p.0), omega (arith, p.0)))))

  four_found : (i j : ℕ) → n ≡ 4 → i < 2 → j ≡ i + 2 → shares (edge i) (edge j) ≡ true → true ≡ meets xs from n
  four_found i j e h q t =
      meets_found i (omega arith) (sym (with_found i j (omega arith) (pair_is i j (omega arith) (λ r. absurd (omega (arith, r.0, r.1))) ∙ t)))

  pub four_first : n ≡ 4 → shares (edge 0) (edge 2) ≡ true → true ≡ meets xs from n
  four_first e t = four_found 0 2 e (omega arith) (omega arith) t

  met : meets xs from n ≡ true → (i : ℕ) × (j : ℕ) × (j < n) × (meet_pair xs from n i j ≡ true)
  unfolding meets meets_with
  met t =
      let x = (any_means (meets_with xs from n) n).0 t in
      let y = (any_means (meet_pair xs from n x.0) n).0 x.2 in
      (x.0, y.0, y.1, y.2)

  -- of the pairs of a ring of four only these two are strangers
  four_pairs : (i j : ℕ) → n ≡ 4 → j < n → i + 1 < j → (Round n i j → ⊥) → ((i ≡ 0) × (j ≡ 2)) ⊎ ((i ≡ 1) × (j ≡ 3))
  four_pairs i j e h l r =
      elim (ℕ_discrete j 2) [
        | yes p ↦ inl (omega arith, p)
        | no p ↦ elim (ℕ_discrete i 0) [ yes q ↦ absurd (r (q, omega arith)) | no q ↦ inr (omega arith, omega arith) ]
      ]

  pub four_second : n ≡ 4 → shares (edge 0) (edge 2) ≡ false → shares (edge 1) (edge 3) ≡ meets xs from n
  four_second e f =
      both (shares (edge 1) (edge 3)) (meets xs from n) (
        λ t. sym (four_found 1 3 e (omega arith) (omega arith) t),
        λ t. let m = met t in
            let p = pair_means m.0 m.1 m.3 in
            ⊎_elim
            (λ q. clash (shares (edge 0) (edge 2)) (rw (q.0, q.1) at p.2) f)
            (λ q. rw (q.0, q.1) at p.2)
            (four_pairs m.0 m.1 e m.2 p.0 p.1),
      )

  -- ---- the two parts of rule 6
  pair_follows : (i j : ℕ) → j ≡ i + 1 → tangled_pair xs from n i j ≡ folds (edge i) (edge j)
  unfolding tangled_pair
  pair_follows i j e = rw (eq-eqb j (i + 1) e)

  pair_closes : (i j : ℕ) → (j ≡ i + 1 → ⊥) → Round n i j → tangled_pair xs from n i j ≡ folds (edge j) (edge i)
  unfolding tangled_pair
  pair_closes i j e r = rw (ne_eqb j (i + 1) e, round_true n i j r)

  pair_strange : (i j : ℕ) → (j ≡ i + 1 → ⊥) → (Round n i j → ⊥) → tangled_pair xs from n i j ≡ shares (edge i) (edge j)
  unfolding tangled_pair
  pair_strange i j e r = rw (ne_eqb j (i + 1) e, round_false n i j r)

  abbrev Pair : Type 0
  Pair = (j : ℕ) × (j < n) × ((i : ℕ) × (i < j) × (tangled_pair xs from n i j ≡ true))

  tangled_pair_lem : tangled xs from n ≡ true → Pair
  unfolding tangled
  tangled_pair_lem t =
      let x = (any_means (λ j. any_to (λ i. tangled_pair xs from n i j) j) n).0 t in
      (x.0, x.1, (any_means (λ i. tangled_pair xs from n i x.0) x.0).0 x.2)

  pair_tangled : Pair → tangled xs from n ≡ true
  unfolding tangled
  pair_tangled x = (any_means (λ j. any_to (λ i. tangled_pair xs from n i j) j) n).1 (x.0, x.1, (any_means (λ i. tangled_pair xs from n i x.0) x.0).1 x.2)

  abbrev fold_at : ℕ → Bool
  fold_at k = folds (edge (edge_before n k)) (edge k)

  fold_found : (k : ℕ) → k < n → fold_at k ≡ true → folded xs from n || meets xs from n ≡ true
  unfolding folded
  fold_found k h t = (or_means (any_to fold_at n) (meets xs from n)).1 (inl ((any_means fold_at n).1 (k, h, t)))

  parts_of : Pair → folded xs from n || meets xs from n ≡ true
  parts_of x =
      let j = x.0 in
      let i = x.2.0 in
      let l = x.1 in
      let r = x.2.1 in
      let t = x.2.2 in
      elim (ℕ_discrete j (i + 1)) [
        | yes e ↦ fold_found j l (rw (ap (edge_before n) e ∙ before_next n i) (sym (pair_follows i j e) ∙ t))
        | no e ↦ elim (dec_round n i j) [
          | yes q ↦
              let b : edge_before n i ≡ j = ap (edge_before n) q.0 ∙ before_first n ∙ omega (arith, q.1) in
              fold_found i (omega arith) (rw b (sym (pair_closes i j e q) ∙ t))
          | no q ↦
              let s = pair_is i j (omega arith) q ∙ sym (pair_strange i j e q) ∙ t in
              (or_means (folded xs from n) (meets xs from n)).1 (inr (sym (meets_found i (omega arith) (sym (with_found i j l s)))))
        ]
      ]

  fold_pair : 3 ≤ n → (k : ℕ) → k < n → fold_at k ≡ true → Pair
  fold_pair three k h t =
      elim (ℕ_discrete k 0) [
        | yes e ↦
            let j = n - 1 in
            let b : edge_before n k ≡ j = ap (edge_before n) e ∙ before_first n in
            (j, omega arith, (k, omega arith, pair_closes k j (λ q. absurd (omega arith)) (e, omega arith) ∙ rw b at t))
        | no e ↦
            let i = k - 1 in
            let p : k ≡ i + 1 = omega arith in
            let b : edge_before n k ≡ i = ap (edge_before n) p ∙ before_next n i in
            (k, h, (i, omega arith, pair_follows i k p ∙ rw b at t))
      ]

  meet_pair_lem : (i : ℕ) → meets_with xs from n i ≡ true → Pair
  unfolding meets_with
  meet_pair_lem i t =
      let x = (any_means (meet_pair xs from n i) n).0 t in
      let p = pair_means i x.0 x.2 in
      (x.0, x.1, (i, omega (arith, p.0), pair_strange i x.0 (λ q. absurd (omega (arith, p.0))) p.1 ∙ p.2))

  pub tangled_parts : 3 ≤ n → tangled xs from n ≡ folded xs from n || meets xs from n
  unfolding folded meets
  tangled_parts three =
      both (tangled xs from n) (folded xs from n || meets xs from n) (
        λ t. parts_of (tangled_pair_lem t),
        λ t. pair_tangled (⊎_elim
            (λ p. let x = (any_means fold_at n).0 p in fold_pair three x.0 x.1 x.2)
            (λ p. let x = (any_means (meets_with xs from n) n).0 p in meet_pair_lem x.0 x.2)
            ((or_means (any_to fold_at n) (any_to (meets_with xs from n) n)).0 t)),
      )
