-- Texts written one after the other.
--   inked_none, inked_text, inked_number      no text, one text, a number below 100,000
--   inked_then                                texts, and then texts
--   inked_as                                  the same texts under another name
--   on_none, on_then, on_as                   the same on a page
--   inked_put                                 where all of them have room, they stand in the buffer one behind the other, and nothing else has changed
use mathlib.Core.Path.{◌≡◌, refl, sym, ◌∙◌, ap}
use mathlib.Core.List.{List, [], ◌∷◌, ◌++◌}
use Prim.Native.Nat.{ℕ, ◌+◌, ◌≤◌, ◌<◌}
use lib.ListN.{length}
use Rattle.words.specs.Texts.{wrote, past, Wrote, WroteNatural}
use Rattle.io.specs.Digits.{last_digits}
use Rattle.names.specs.Numbers.{decimal}
use Rattle.names.specs.Steps.{Put}
use Rattle.names.proofs.Decimals.{places_are}
use Rattle.names.proofs.Putting.{put_none, put_then, put_wrote, room_first, room_next}
use Rattle.svg.specs.declared.page.Page.{Page}
use Rattle.svg.specs.Ink.{ink_page, ink_place, ink_text, Inked, InkedOn}

pub inked_none : (b : List ℕ) (at : ℕ) → Inked b at [] at b
unfolding ink_page ink_place
inked_none b at = record { place = refl; page = refl }

pub inked_text : {b c : List ℕ} {at r : ℕ} {t : List ℕ} → Wrote b at t r c → Inked b at (t ∷ []) r c
unfolding ink_page ink_place
inked_text w = record { place = w.place; page = w.buffer }

pub inked_as : {b c : List ℕ} {at r : ℕ} {ts us : List (List ℕ)} → ts ≡ us → Inked b at ts r c → Inked b at us r c
inked_as {b} {c} {at} {r} e i = record { place = i.place ∙ ap (ink_place b at) e; page = i.page ∙ ap (ink_page b at) e }

pub inked_number : {b c : List ℕ} {at r n : ℕ} → n < 100000 → WroteNatural b at n r c → Inked b at (decimal n ∷ []) r c
inked_number {n = n} l w = inked_as (ap (λ (k : ℕ). last_digits 10 k n ∷ []) (places_are n w.places l w.fewest)) (inked_text w.wrote)

place_then : (b : List ℕ) (at : ℕ) (ts us : List (List ℕ)) → ink_place b at (ts ++ us) ≡ ink_place (ink_page b at ts) (ink_place b at ts) us
unfolding ink_page ink_place
place_then b at [] us = refl
place_then b at (t ∷ ts) us = place_then (wrote b at t) (past b at t) ts us

page_then : (b : List ℕ) (at : ℕ) (ts us : List (List ℕ)) → ink_page b at (ts ++ us) ≡ ink_page (ink_page b at ts) (ink_place b at ts) us
unfolding ink_page ink_place
page_then b at [] us = refl
page_then b at (t ∷ ts) us = page_then (wrote b at t) (past b at t) ts us

pub inked_then : {b d c : List ℕ} {at m r : ℕ} (ts us : List (List ℕ)) → Inked b at ts m d → Inked d m us r c → Inked b at (ts ++ us) r c
inked_then {b} {d} {c} {at} {m} {r} ts us i j =
    record {
      place = j.place ∙ (λ k. ink_place (i.page k) (i.place k) us) ∙ sym (place_then b at ts us);
      page = j.page ∙ (λ k. ink_page (i.page k) (i.place k) us) ∙ sym (page_then b at ts us);
    }

pub on_none : (p : Page) → InkedOn p [] p
on_none p = record { buffer = refl; inked = inked_none p.out.now p.at }

pub on_as : {p q : Page} {ts us : List (List ℕ)} → ts ≡ us → InkedOn p ts q → InkedOn p us q
on_as e i = record { buffer = i.buffer; inked = inked_as e i.inked }

pub on_then : {p m q : Page} (ts us : List (List ℕ)) → InkedOn p ts m → InkedOn m us q → InkedOn p (ts ++ us) q
on_then ts us i j = record { buffer = j.buffer ∙ i.buffer; inked = inked_then ts us i.inked j.inked }

pub inked_put : {c : List ℕ} {r : ℕ} (b : List ℕ) (at : ℕ) (ts : List (List ℕ)) → at + length (ink_text ts) ≤ length b → Inked b at ts r c → Put b at (ink_text ts) r c
unfolding ink_page ink_place ink_text
inked_put b at [] h i = record { place = i.place ∙ (put_none b at).place; buffer = i.page ∙ (put_none b at).buffer }
inked_put b at (t ∷ ts) h i =
    let first : Put b at t (past b at t) (wrote b at t) = put_wrote (room_first at (length b) t (ink_text ts) h) (record { place = refl; buffer = refl }) in
    put_then t (ink_text ts) first (inked_put (wrote b at t) (past b at t) ts (room_next t (ink_text ts) first h) (record { place = i.place; page = i.page }))
