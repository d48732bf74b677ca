use Rattle.std.proofs.Common.{refl, subst, ◌∙◌}
use Rattle.std.proofs.lemmas.List.{get_or_default}
use Rattle.plane_core.specs.declared.edge.Edge.{Edge}
use Rattle.edge_index_core.specs.Bounds.{IsBoxOf}
use Rattle.edge_index_core.proofs.EntryLemmas.{none_first, one_more, all_entries}
use Rattle.edge_index_core.proofs.entries.entries_of.Goals as goal

pub loop-i-init : goal.loop-i-init
loop-i-init c = none_first c.args.edges.now _ c.in_ok-entries.ensures.items

pub loop-i-preserved : goal.loop-i-preserved
loop-i-preserved c = rw c.in_ok-push.ensures.items
    (one_more c.args.edges.now c.loop-i.i c.loop-i.entries.items _ c.index-edges-i.result
    (λ d. record {
      number_is = refl;
      box_is = subst (λ (e : Edge). IsBoxOf e c.bounds_of-shape.result) (c.index-edges-i.is ∙ get_or_default c.args.edges.now c.loop-i.i c.index-edges-i.result d c.loop-i-test.true) c.bounds_of-shape.ensures;
    }) c.loop-i.invariant)

pub returns-clause-entries : goal.returns-clause-entries
returns-clause-entries c = all_entries c.args.edges.now c.loop-i.i c.loop-i.entries.items c.loop-i.auto.i-end c.loop-i-test.false c.loop-i.invariant

pub returns-clause-distinct : goal.returns-clause-distinct
returns-clause-distinct c = c.loop-i.invariant.distinct
