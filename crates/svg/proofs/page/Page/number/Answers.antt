use native.Mathlib.Omega.{arith}
use mathlib.Core.List.{[], ◌∷◌}
use mathlib.Core.Path.{refl}
use Rattle.names.specs.Numbers.{decimal}
use Rattle.svg.proofs.Inking.{inked_number, inked_as}
use Rattle.svg.proofs.page.Page.number.Goals as goal

pub returns : goal.returns
returns c =
    let e = c.from.ensures in
    record { buffer = refl; inked = inked_as (λ i. decimal (e i) ∷ []) (inked_number (omega (arith, e)) c.put_natural-self.ensures) }
