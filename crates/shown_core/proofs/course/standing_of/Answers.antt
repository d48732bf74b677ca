use Rattle.std.proofs.Common.{sym, subst}
use Rattle.std.specs.Prelude.{Option, IfSome}
use Rattle.plane_core.specs.declared.part.Part.{Part}
use Rattle.plane_core.specs.Places.{point_of}
use Rattle.edge_index_core.proofs.TreeLemmas.{place_wide}
use Rattle.shown_core.specs.Lying.{LiesIn}
use Rattle.shown_core.proofs.course.standing_of.Goals as goal

pub returns-in-Some-clause-part : goal.returns-in-Some-clause-part
returns-in-Some-clause-part c =
    let lies = subst (λ (s : Option Part). IfSome s (LiesIn c.args.other.now c.args.course.now.edge)) c.in-Some.is c.requires.known in
    sym (lies.on (point_of c.args.p.now) (place_wide c.args.p.now) c.requires.on)

pub returns-in-Some-clause-above : goal.returns-in-Some-clause-above
returns-in-Some-clause-above c =
    let lies = subst (λ (s : Option Part). IfSome s (LiesIn c.args.other.now c.args.course.now.edge)) c.in-Some.is c.requires.known in
    sym (lies.above (point_of c.args.p.now) (place_wide c.args.p.now) c.requires.on)
