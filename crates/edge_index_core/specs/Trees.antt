-- A tree over the boxes of edges.
use Rattle.std.specs.Prelude.{◌<◌, List, length}
use Rattle.std.specs.List.{slice_index_or}
use Rattle.plane_core.specs.declared.edge.Edge.{Edge}
use Rattle.rtree_core.specs.declared.node.Entry.{Entry}
use Rattle.rtree_core.specs.declared.node.Node.{Node}
use Rattle.rtree_core.specs.Collections.{HasSame}
use Rattle.rtree_core.specs.Nodes.{entries_of, IsLawful}
use Rattle.edge_index_core.specs.Bounds.{IsBoxOf}
use Rattle.edge_index_core.specs.Entries.{AreEntriesOf}

-- the number of an edge, with the edge's box
pub record IsEntryIn (es : List Edge) (x : Entry) : Type 0 where
  pub within : x.number < length es
  pub box_is : (d : Edge) → IsBoxOf (slice_index_or es x.number d) x.shape

-- entries in any order, exactly one for each edge
pub record HoldsEdges (es : List Edge) (held : List Entry) : Type 0 where
  pub entries : List Entry
  pub are : AreEntriesOf es entries
  pub same : HasSame entries held

-- the root of a tree over the boxes of edges
pub record IsTreeOf (es : List Edge) (root : Node) : Type 0 where
  pub lawful : IsLawful root
  pub holds : HoldsEdges es (entries_of root)
