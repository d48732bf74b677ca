use Rattle.std.proofs.Common.{List, ◌++◌, rules, sym, subst}
use Rattle.geom_core.specs.declared.shape.Shape.{Shape}
use Rattle.edge_index_core.specs.Runs.{AreRunBoxes}
use Rattle.edge_index_core.proofs.RunLemmas.{boxes_more, boxes_all, none_left}
use Rattle.edge_index_core.proofs.runs.run_boxes.Goals as goal

pub loop-rest-init : goal.loop-rest-init
loop-rest-init c = λ more h. subst (λ (ss : List Shape). AreRunBoxes c.args.edges.now (ss ++ more)) (sym c.in_ok-boxes.ensures.items) h

pub loop-rest-preserved : goal.loop-rest-preserved
loop-rest-preserved c =
    boxes_more c.args.edges.now c.loop-rest.rest.now _ _ _ _ c.bounds_of_run-bounds.result c.first_run.ensures.run c.first_run.ensures.after c.bounds_of_run-bounds.ensures
    c.in_ok-push.ensures.items c.loop-rest.invariant

pub returns : goal.returns
returns c = boxes_all c.args.edges.now c.loop-rest.rest.now _ (none_left c.loop-rest.rest.now (search rules)) c.loop-rest.invariant
