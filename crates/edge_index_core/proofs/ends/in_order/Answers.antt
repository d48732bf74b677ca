use Rattle.std.proofs.Common.{ap, is_lt, rules}
use Rattle.std.proofs.lemmas.List.Sorted.{answers_always}
use Rattle.edge_index_core.proofs.EndLemmas.{vertices_ranked}
use Rattle.edge_index_core.proofs.ends.in_order.Goals as goal

pub returns : goal.returns
returns c = record {
  same = search rules;
  order = c.sort_unstable_by.ensures.sorted _ vertices_ranked (answers_always _ _ _ (λ f a r k h. ap is_lt (search rules)));
}
