-- Layers with prepared geometries may be shared by threads. Proved type by type, since one search over them all runs out
-- of steps. `knot` is the module of the cycle of types of a tree's nodes.
use denote.Ref.{NamedLft}
use denote.Param.Send.{IsSync, sendable}
use Rattle.std.proofs.Crossing.{crosses}
use Rattle.rtree_core.proofs.node.Below.TheLaws.TheKnot as knot
use Rattle.rtree_core.specs.contracts.tree.RTree as RTree
use Rattle.edge_index_core.specs.contracts.indexed.IndexedOutline as IndexedOutline
use Rattle.arrangement_core.specs.contracts.prepared.PreparedGeometry as PreparedGeometry
use Rattle.any_geometry_core.specs.contracts.geometry.AnyGeometry as AnyGeometry
use Rattle.prepared_core.proofs.SyncLemmas.{layer_sync}
use Rattle.any_join_core.specs.contracts.features.RelatedFeatures as RelatedFeatures
use Rattle.any_join_core.specs.contracts.pairs.RelatedPairs as RelatedPairs

tree_sync : IsSync RTree.the_row
tree_sync = search (sendable, crosses, knot.crosses) depth 60 fits 20000

indexed_sync : IsSync IndexedOutline.the_row
indexed_sync = search (sendable, crosses, tree_sync) depth 60 fits 20000

prepared_sync : (κ : NamedLft) → IsSync (PreparedGeometry.the_row κ)
prepared_sync κ = search (sendable, crosses, indexed_sync) depth 60 fits 20000

geometry_sync : IsSync AnyGeometry.the_row
geometry_sync = search (sendable, crosses) depth 60 fits 20000

pub related_sync : (κ : NamedLft) → IsSync (RelatedFeatures.the_row κ)
related_sync κ = search (sendable, crosses, layer_sync, prepared_sync, geometry_sync) depth 60 fits 20000

pub pairs_sync : (κ : NamedLft) → IsSync (RelatedPairs.the_row κ)
pairs_sync κ = search (sendable, crosses, layer_sync, prepared_sync, geometry_sync) depth 60 fits 20000
