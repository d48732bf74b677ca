use Rattle.std.proofs.Common.{rules}
use Rattle.std.proofs.lemmas.List.Sorted.{IsPartitionPoint-from_clause}
use Rattle.plane_core.specs.Places.{point_of}
use Rattle.edge_index_core.proofs.TreeLemmas.{place_wide}
use Rattle.edge_index_core.specs.Ends.{is_before}
use Rattle.edge_index_core.proofs.EndLemmas.{before_parts}
use Rattle.edge_index_core.proofs.ends.count_before.Goals as goal

pub returns-clause-parted : goal.returns-clause-parted
returns-clause-parted c =
    IsPartitionPoint-from_clause (is_before (point_of c.args.p.now)) _ _ c.partition_point.ensures.partitioned (before_parts (point_of c.args.p.now) _ (place_wide c.args.p.now) c.requires) (λ a r q k. search rules)
