use Rattle.std.proofs.Common.{rules, All, subst}
use Rattle.std.proofs.lemmas.List.{take_all}
use Rattle.noding_core.specs.Gathered.{HasVertex}
use Rattle.noding_core.proofs.GatherLemmas.{extends-trans, vertices_more}
use Rattle.noding_core.proofs.nodes.push_vertices.Goals as goal

pub loop-v-preserved : goal.loop-v-preserved
loop-v-preserved c = record {
  kept = extends-trans _ _ _ c.loop-v.invariant.kept c.in_ok-push_vertex.ensures.kept;
  on = c.in_ok-push_vertex.ensures.on;
  here = vertices_more _ _ _ _ _ _ (search rules) (search rules) c.in_ok-push_vertex.ensures.kept c.loop-v.invariant.here c.in_ok-push_vertex.ensures.here;
}

pub returns-clause-here : goal.returns-clause-here
returns-clause-here c = subst (All (HasVertex _ _)) (take_all c.loop-v.v-index c.args.vertices.now (search rules)) c.loop-v.invariant.here
