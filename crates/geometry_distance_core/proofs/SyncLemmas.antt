-- Indexes of geometries may be shared by threads. Proved type by type, since one search over them all runs out of steps.
-- `knot` is the module of the cycle of types of a tree's nodes.
use denote.Param.Send.{IsSync, sendable}
use Rattle.std.proofs.Crossing.{crosses}
use Rattle.rtree_core.proofs.node.Below.TheLaws.TheKnot as knot
use Rattle.rtree_core.specs.contracts.tree.RTree as RTree
use Rattle.edge_index_core.specs.contracts.indexed.IndexedOutline as IndexedOutline
use Rattle.geometry_distance_core.specs.contracts.index.GeometryIndex as GeometryIndex

tree_sync : IsSync RTree.the_row
tree_sync = search (sendable, crosses, knot.crosses) depth 60 fits 20000

indexed_sync : IsSync IndexedOutline.the_row
indexed_sync = search (sendable, crosses, tree_sync) depth 60 fits 20000

pub index_sync : IsSync GeometryIndex.the_row
index_sync = search (sendable, crosses, indexed_sync) depth 60 fits 20000
