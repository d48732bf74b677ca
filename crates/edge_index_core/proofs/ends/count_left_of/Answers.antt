use Rattle.std.proofs.Common.{rules}
use Rattle.std.proofs.lemmas.List.Sorted.{IsPartitionPoint-from_clause}
use Rattle.edge_index_core.specs.Ends.{is_left_of}
use Rattle.edge_index_core.proofs.EndLemmas.{left_of_parts}
use Rattle.edge_index_core.proofs.ends.count_left_of.Goals as goal

pub returns-clause-parted : goal.returns-clause-parted
returns-clause-parted c =
    IsPartitionPoint-from_clause (is_left_of c.args.e.now) _ _ c.partition_point.ensures.partitioned (left_of_parts c.args.e.now _ c.requires) (λ a r q k. search rules)
