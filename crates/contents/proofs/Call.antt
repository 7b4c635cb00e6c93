-- What the number says that refuses a card by itself: exactly the cases of card/specs/Says.
--   card_number_means    so it is of the answer of `check`, by its own contract
use mathlib.Core.Path.{◌≡◌}
use mathlib.Core.Logic.{◌↔◌}
use Prim.Native.Nat.{ℕ}
use Rattle.std.specs.Prelude.{Result}
use Rattle.region.specs.declared.refusals.Refusal.{Refusal}
use Rattle.region.specs.Refusals.{number_in}
use Rattle.card.specs.Says.{CardSays}
use Rattle.card.proofs.Says.{card_says}
use Rattle.contents.proofs.rules.check.Reads as check_reads

pub card_number_means : (κs : _) (a : _) (r : Result (Unit {0}) Refusal) (s : _) → check_reads.Post κs a r s → (n : ℕ) → (number_in r ≡ n) ↔ CardSays a.0.now n
card_number_means κs a r s post n = rw post (card_says a.0.now n)
