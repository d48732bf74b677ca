use Rattle.std.proofs.Common.{◌≡◌, ℕ, List, map, get_or, subst}
use Rattle.std.proofs.lemmas.List.{take_all}
use Rattle.plane_core.specs.declared.edge.Edge.{Edge}
use Rattle.edge_index_core.proofs.AroundLemmas.{item_more}
use Rattle.edge_index_core.proofs.around.edges_at.Goals as goal

pub loop-k-preserved : goal.loop-k-preserved
loop-k-preserved c = λ d.
    item_more c.args.edges.now c.args.indexes.now _ _ c.loop-k.k-index _ d c.loop-k-test.true (c.requires c.loop-k.k-index 0 c.loop-k-test.true)
    c.index-edges-k.is c.in_ok-push.ensures.items (c.loop-k.invariant d)

pub returns : goal.returns
returns c = λ d.
    subst (λ (ks : List ℕ). c.loop-k.found.items ≡ map {A = ℕ} {B = Edge} (λ k. get_or c.args.edges.now k d) ks) (take_all c.loop-k.k-index c.args.indexes.now c.loop-k-test.false) (c.loop-k.invariant d)
