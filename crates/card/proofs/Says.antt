-- Which number refuses a card by itself, and what it says: exactly the cases of specs/Says.
--   card_says            the card's number is n exactly when case n holds
use mathlib.Core.Path.{◌≡◌, refl, sym, ◌∙◌, ap, subst}
use mathlib.Core.Logic.{◌↔◌, ◌≢◌}
use mathlib.Core.Bool.{Bool, true, false}
use mathlib.Core.List.{List}
use Prim.Native.Nat.{ℕ, zero, suc, ◌<◌}
use native.Mathlib.Omega.{arith}
use native.Mathlib.Decide.{ℕ_discrete}
use lib.Dec.{ltb}
use lib.ListN.{length}
use borrow.Author.Tests.{ltb-true, ltb-false, lt-ltb, le-ltb}
use Rattle.plane.specs.Folds.{any_to}
use Rattle.plane.proofs.Logic.{clash, is_false, is_true}
use Rattle.plane.proofs.Folds.{any_means}
use Rattle.region.specs.Check.{Checked}
use Rattle.region.specs.Check.{Accepted, Refused}
use Rattle.region.specs.declared.refusals.Refusal.TheVariants.{RingLength, ListSize, CardHeader, CardParcels, CardVertices}
use Rattle.region.specs.Refusals.{number_if, or_else, first_number}
use Rattle.region.specs.Region.{most_vertices, last_end}
use Rattle.region.specs.Rules.{Breaks, Keeps}
use Rattle.region.specs.Check.{short_at, shape_of, number_of}
use Rattle.region.proofs.Keeps.{broken_number}
use Rattle.region.proofs.Check.{shape_refused, shape_number_none}
use Rattle.region.proofs.OrElse.{or_else_none, first_number_none, zeros_hit}
use Rattle.card.specs.Reading.{parcel_count, ends_at, region_at}
use Rattle.card.specs.CardNumber.{wrong_header, wrong_parcels, sizes_number, shape_number, wrong_vertices, card_number}
use Rattle.card.specs.Right.{RightVertices}
use Rattle.card.specs.Says.{Header, Entries, Sizes, VerticesAdd, CardSays, says_good, says_header, says_entries, says_short, says_long, says_vertices, says_shape}
use Rattle.card.proofs.Tests.{header_means, header_right, entry_means, entry_right_lem, parcels_mean, vertices_mean}
use Rattle.card.proofs.Bounds.{parcel_keeps}
use Rattle.card.proofs.Good.{right_vertices, good_means}

-- the first of many numbers that is not 0
first_some : (f : ℕ → ℕ) (n : ℕ) → first_number f n ≢ 0 → (k : ℕ) × (k < n) × ((j : ℕ) → j < k → f j ≡ 0) × (f k ≢ 0)
unfolding first_number
first_some f zero h = absurd (h refl)
first_some f (suc n) h =
    elim (ℕ_discrete (first_number f n) 0) [
      | yes z ↦ (n, omega arith, (first_number_none f n).0 z, λ q. h ((or_else_none (first_number f n) (f n)).1 (z, q)))
      | no z ↦ (let x = first_some f n z in (x.0, omega (arith, x.1), x.2, x.3))
    ]

module _ (b : List ℕ) where
  entries_means : (wrong_parcels b ≡ false) ↔ Entries b
  entries_means = (
    λ h. let x = (parcels_mean b).0 h in record { each = λ k l. entry_means b k (x.0 k l); rings_add = x.1 },
    λ e. (parcels_mean b).1 (λ k l. entry_right_lem b k (e.each k l), e.rings_add),
  )

  -- ---- rules 2 and 3 of one parcel
  module _ (k : ℕ) where
    abbrev short : Bool
    short = any_to (short_at (ends_at b k)) (length (ends_at b k))

    abbrev long : Bool
    long = ltb most_vertices (last_end (ends_at b k))

    short_means : (short ≡ true) ↔ ((r : ℕ) × Breaks (region_at b k) 2 r)
    unfolding short_at
    short_means = (
      λ h. let x = (any_means (short_at (ends_at b k)) (length (ends_at b k))).0 h in (x.0, (x.1, ltb-true _ _ x.2)),
      λ x. (any_means (short_at (ends_at b k)) (length (ends_at b k))).1 (x.0, x.1.0, lt-ltb _ _ x.1.1),
    )

    sizes_by : (s l : Bool) → short ≡ s → long ≡ l → sizes_number b k ≡ or_else (number_if s RingLength) (number_if l ListSize)
    unfolding sizes_number
    sizes_by s l es el = rw (es, el) refl

    none_short : ((r : ℕ) → Breaks (region_at b k) 2 r → ⊥) → short ≡ false
    none_short h = is_false short (λ e. let x = short_means.0 e in h x.0 x.1)

    sizes_kept : Sizes b k → sizes_number b k ≡ 0
    sizes_kept h = sizes_by false false (none_short h.none_short) (le-ltb _ _ h.low_end)

    sizes_say : sizes_number b k ≡ 0 → Sizes b k
    sizes_say z = go short refl long refl
      where
        go : (s : Bool) → short ≡ s → (l : Bool) → long ≡ l → Sizes b k
        go true es l el = absurd (omega (arith, sizes_by true l es el, z))
        go false es true el = absurd (omega (arith, sizes_by false true es el, z))
        go false es false el = record { none_short = λ r h. clash short (short_means.1 (r, h)) es; low_end = ltb-false _ _ el }

  -- ---- the card's number, by what decides it
  card_by : (h p : Bool) (z : ℕ) (v : Bool) (s : ℕ) → wrong_header b ≡ h → wrong_parcels b ≡ p → first_number (sizes_number b) (parcel_count b) ≡ z → wrong_vertices b ≡ v
      → first_number (shape_number b) (parcel_count b) ≡ s
      → card_number b ≡ or_else (number_if h CardHeader) (or_else (number_if p CardParcels) (or_else z (or_else (number_if v CardVertices) s)))
  unfolding card_number
  card_by h p z v s eh ep ez ev es = rw (eh, ep, ez, ev, es) refl

  module _ (header : Header b) (entries : Entries b) where
    sized : ((k : ℕ) → k < parcel_count b → Sizes b k) → first_number (sizes_number b) (parcel_count b) ≡ 0
    sized all = (first_number_none (sizes_number b) (parcel_count b)).1 (λ k l. sizes_kept k (all k l))

    -- the first parcel that breaks rule 2 or 3 decides
    first_sizes : (n k : ℕ) → k < parcel_count b → ((j : ℕ) → j < k → Sizes b j) → sizes_number b k ≡ suc n → card_number b ≡ suc n
    first_sizes n k l before e =
        card_by false false (suc n) (wrong_vertices b) (first_number (shape_number b) (parcel_count b)) (header_right b header) (entries_means.1 entries)
        (sym (zeros_hit (sizes_number b) (parcel_count b) k l (omega arith, λ j h. sizes_kept j (before j h)) (λ z. omega (arith, e, z))) ∙ e) refl refl

    module _ (all : (k : ℕ) → k < parcel_count b → Sizes b k) (add : VerticesAdd b) where
      right : RightVertices b
      right = right_vertices b (header_right b header) (entries_means.1 entries) (sized all) ((vertices_mean b).1 add)

      three : (k : ℕ) → k < parcel_count b → Keeps 3 (region_at b k)
      three k l = parcel_keeps b right k l

      shapes : (s : ℕ) → first_number (shape_number b) (parcel_count b) ≡ s → card_number b ≡ s
      shapes s e = card_by false false 0 false s (header_right b header) (entries_means.1 entries) (sized all) ((vertices_mean b).1 add) e

  card_back : {n : ℕ} → CardSays b n → card_number b ≡ n
  unfolding shape_number
  card_back (says_good good) = (good_means b).1 good
  card_back (says_header w) = card_by true (wrong_parcels b) _ (wrong_vertices b) _ (is_true _ (λ e. w (header_means b e))) refl refl refl refl
  card_back (says_entries h w) = card_by false true _ (wrong_vertices b) _ (header_right b h) (is_true _ (λ e. w (entries_means.0 e))) refl refl refl
  card_back (says_short h e k l before r short-ring) = first_sizes h e 1 k l before (sizes_by k true (long k) ((short_means k).1 (r, short-ring)) refl)
  card_back (says_long h e k l before none high) = first_sizes h e 2 k l before (sizes_by k false true (none_short k none) (lt-ltb _ _ high))
  card_back (says_vertices h e all w) =
      card_by false false 0 true _ (header_right b h) (entries_means.1 e) (sized h e all) (is_true _ (λ q. w ((vertices_mean b).0 q))) refl
  card_back (says_shape h e all add k l before n r w) =
      let is : shape_number b k ≡ n = ap number_of ((shape_refused (region_at b k) (three h e all add k l) n r).1 w) in
      let zeros : (j : ℕ) → j < k → shape_number b j ≡ 0 = λ j m. (shape_number_none (region_at b j) (three h e all add j (omega arith))).1 (before j m) in
      let some : shape_number b k ≢ 0 = λ z. ((shape_number_none (region_at b k) (three h e all add k l)).0 z).keeps n r (broken_number (region_at b k) n r w.broken).1 w.broken in
      shapes h e all add n (sym (zeros_hit (shape_number b) (parcel_count b) k l (omega arith, zeros) some) ∙ is)

  comes : {n : ℕ} → CardSays b n → CardSays b (card_number b)
  comes c = subst (CardSays b) (sym (card_back c)) c

  module _ (header : Header b) (entries : Entries b) where
    module _ (all : (k : ℕ) → k < parcel_count b → Sizes b k) where
      module _ (add : VerticesAdd b) where
        shape_case : (k : ℕ) → k < parcel_count b → ((j : ℕ) → j < k → shape_number b j ≡ 0) → shape_number b k ≢ 0 → CardSays b (card_number b)
        unfolding shape_number
        shape_case k l before some = go (shape_of (region_at b k)) refl some
          where
            go : (c : Checked) → shape_of (region_at b k) ≡ c → number_of c ≢ 0 → CardSays b (card_number b)
            go Accepted q h = absurd (h refl)
            go (Refused n r) q h =
                comes (says_shape header entries all add k l
                (λ j m. (shape_number_none (region_at b j) (three header entries all add j (omega arith))).0 (before j m)) n r
                ((shape_refused (region_at b k) (three header entries all add k l) n r).0 q))

        shapes_case : CardSays b (card_number b)
        shapes_case =
            elim (ℕ_discrete (first_number (shape_number b) (parcel_count b)) 0) [
              | yes z ↦ comes (says_good ((good_means b).0 (shapes header entries all add 0 z)))
              | no z ↦ (let x = first_some (shape_number b) (parcel_count b) z in shape_case x.0 x.1 x.2 x.3)
            ]

      vertices_case : (t : Bool) → wrong_vertices b ≡ t → CardSays b (card_number b)
      vertices_case true w = comes (says_vertices header entries all (λ add. clash (wrong_vertices b) w ((vertices_mean b).1 add)))
      vertices_case false w = shapes_case ((vertices_mean b).0 w)

    size_case : (k : ℕ) → k < parcel_count b → ((j : ℕ) → j < k → Sizes b j) → sizes_number b k ≢ 0 → (s : Bool) → short k ≡ s → (l : Bool) → long k ≡ l → CardSays b (card_number b)
    size_case k h before some true es l el = let x = (short_means k).0 es in comes (says_short header entries k h before x.0 x.1)
    size_case k h before some false es true el =
        comes (says_long header entries k h before (λ r broken. clash (short k) ((short_means k).1 (r, broken)) es) (ltb-true _ _ el))
    size_case k h before some false es false el = absurd (some (sizes_by k false false es el))

    sizes_case : CardSays b (card_number b)
    sizes_case =
        elim (ℕ_discrete (first_number (sizes_number b) (parcel_count b)) 0) [
          | yes z ↦ vertices_case (λ k l. sizes_say k ((first_number_none (sizes_number b) (parcel_count b)).0 z k l)) (wrong_vertices b) refl
          | no z ↦
              let x = first_some (sizes_number b) (parcel_count b) z in
              size_case x.0 x.1 (λ j l. sizes_say j (x.2 j l)) x.3 (short x.0) refl (long x.0) refl
        ]

  card_case : (h : Bool) → wrong_header b ≡ h → (p : Bool) → wrong_parcels b ≡ p → CardSays b (card_number b)
  card_case true eh p ep = comes (says_header (λ h. clash (wrong_header b) eh (header_right b h)))
  card_case false eh true ep = comes (says_entries (header_means b eh) (λ e. clash (wrong_parcels b) ep (entries_means.1 e)))
  card_case false eh false ep = sizes_case (header_means b eh) (entries_means.0 ep)

  pub card_says : (n : ℕ) → (card_number b ≡ n) ↔ CardSays b n
  card_says n = (λ e. subst (CardSays b) e (card_case (wrong_header b) refl (wrong_parcels b) refl), card_back)
