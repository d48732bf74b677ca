use Rattle.shown_core.proofs.ShownLemmas.{faces_outer, faces_both, outer_of, outer_of_lines}
use Rattle.shown_core.proofs.shown.are_faces_shown.Goals as goal

pub returns-in-Areas : goal.returns-in-Areas
returns-in-Areas c = faces_both c.args.matrix.now c.args.own c.args.other _ _ _ c.in-Areas.is c.parts_above-above.ensures c.are_shown-outer.ensures c.are_shown-inner.ensures

pub returns-in-Points : goal.returns-in-Points
returns-in-Points c =
    let is = outer_of c.args.own c.in-Points.is in
    faces_outer c.args.matrix.now c.args.own c.args.other _ _ is.0 is.1 c.parts_above-above.ensures c.are_shown-outer.ensures

pub returns-in-Lines : goal.returns-in-Lines
returns-in-Lines c =
    let is = outer_of_lines c.args.own c.in-Lines.is in
    faces_outer c.args.matrix.now c.args.own c.args.other _ _ is.0 is.1 c.parts_above-above.ensures c.are_shown-outer.ensures
