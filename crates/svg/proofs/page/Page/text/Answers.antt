use mathlib.Core.Path.{refl}
use Rattle.svg.proofs.Inking.{inked_text}
use Rattle.svg.proofs.page.Page.text.Goals as goal

pub returns : goal.returns
returns c = record { buffer = refl; inked = inked_text c.put_text-self.ensures }
