use mathlib.Core.Path.{◌∙◌, ap, ap₂}
use mathlib.Core.Bool.{not}
use mir.Syntax.{w64}
use mir.Val.{SFits}
use mir.Facts.{to_z-of_z}
use Rattle.meet.specs.MeetTest.{ends_apart}
use Rattle.meet.specs.Signs.{side_of, together}
use Rattle.meet.proofs.Signs.{apart_is}
use borrow.Author.Rules.{rules}
use Rattle.meet.proofs.ends_apart.Goals as goal

pub returns : goal.returns
unfolding ends_apart side_of
returns c =
    let g = c.args.g in
    let h = c.args.h in
    let p : SFits w64 c.side.result = record { sfits = c.side.type_inv } in
    let q : SFits w64 c.side-2.result = record { sfits = c.side-2.type_inv } in
    ap not (c.together.ensures ∙ ap₂ together (to_z-of_z p ∙ c.side.ensures) (to_z-of_z q ∙ c.side-2.ensures))
    ∙ apart_is _ _ _ _
