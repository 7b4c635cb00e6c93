use mathlib.Core.Path.{sym, subst}
use Rattle.plane.specs.Placed.{BoxInPlaces, Upright}
use Rattle.relation.proofs.Regions.{region_box_in_places, region_upright}
use Rattle.trial.proofs.trial_relation.Goals as goal

pub region_seen-seen-requires : goal.region_seen-seen-requires
region_seen-seen-requires c =
    let e = sym c.region_box-b.ensures in
    (subst BoxInPlaces e (region_box_in_places c.requires.1), subst Upright e (region_upright _), c.requires.0, c.region_box-own.ensures)
