-- No rule stands here: texts written one after the other into a buffer, each whole where it has room and not at all where it has not.
--   ink_page b at ts     the buffer b behind the texts ts, written from the place `at` on;  ink_place  the place behind them
--   Inked                both: what a call that writes these texts ensures of the place it answers and of the buffer
--   InkedOn p ts q       a call that writes these texts onto the page p leaves it as q, over the same buffer
--   ink_text ts          the texts, one behind the other
--   inked_to f n         the texts f 0 .. f (n - 1), one row behind the other
use Rattle.std.specs.Prelude.{◌≡◌, List, [], ◌∷◌, ◌++◌, ℕ, zero, suc}
use Rattle.words.specs.Texts.{wrote, past}
use Rattle.svg.specs.declared.page.Page.{Page}

unfoldable pub ink_page : List ℕ → ℕ → List (List ℕ) → List ℕ
ink_page b at [] = b
ink_page b at (t ∷ ts) = ink_page (wrote b at t) (past b at t) ts

unfoldable pub ink_place : List ℕ → ℕ → List (List ℕ) → ℕ
ink_place b at [] = at
ink_place b at (t ∷ ts) = ink_place (wrote b at t) (past b at t) ts

pub record Inked (b : List ℕ) (at : ℕ) (ts : List (List ℕ)) (r : ℕ) (c : List ℕ) : Type 0 where
  pub place : r ≡ ink_place b at ts
  pub page : c ≡ ink_page b at ts

pub record InkedOn (p : Page) (ts : List (List ℕ)) (q : Page) : Type 0 where
  pub buffer : q.out.ghost_name ≡ p.out.ghost_name
  pub inked : Inked p.out.now p.at ts q.at q.out.now

unfoldable pub ink_text : List (List ℕ) → List ℕ
ink_text [] = []
ink_text (t ∷ ts) = t ++ ink_text ts

unfoldable pub inked_to : (ℕ → List (List ℕ)) → ℕ → List (List ℕ)
inked_to f zero = []
inked_to f (suc n) = inked_to f n ++ f n
