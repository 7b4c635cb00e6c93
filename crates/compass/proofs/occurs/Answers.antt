use Rattle.compass.proofs.Moved.{occurs_is}
use Rattle.compass.proofs.occurs.Goals as goal

pub returns : goal.returns
returns c =
    let a = c.args in
    let p = c.requires in
    occurs_is a.first a.second a.rows a.columns p.0 p.1 p.2 p.3
