use Rattle.std.proofs.Common.{rules}
use Rattle.std.proofs.lemmas.List.Sorted.{IsPartitionPoint-from_clause}
use Rattle.plane_core.specs.Places.{point_of}
use Rattle.edge_index_core.proofs.TreeLemmas.{place_wide}
use Rattle.edge_index_core.specs.Ends.{is_up_to}
use Rattle.edge_index_core.proofs.EndLemmas.{up_to_parts}
use Rattle.edge_index_core.proofs.ends.count_up_to.Goals as goal

pub returns-clause-parted : goal.returns-clause-parted
returns-clause-parted c =
    IsPartitionPoint-from_clause (is_up_to (point_of c.args.p.now)) _ _ c.partition_point.ensures.partitioned (up_to_parts (point_of c.args.p.now) _ (place_wide c.args.p.now) c.requires) (λ a r q k. search rules)
