-- How the edges of an outline are found.
use Rattle.std.specs.Prelude.{List}
use Rattle.plane_core.specs.declared.edge.Edge.{Edge}
use Rattle.rtree_core.specs.Trees.{entries_in}
use Rattle.edge_index_core.specs.declared.indexed.EdgeIndex.{EdgeIndex}
use Rattle.edge_index_core.specs.declared.indexed.EdgeIndex.TheVariants.{None as OneByOne}
use Rattle.edge_index_core.specs.declared.indexed.EdgeIndex.TheVariants.{Runs, Tree}
use Rattle.edge_index_core.specs.Runs.{AreRunBoxes}
use Rattle.edge_index_core.specs.Trees.{HoldsEdges}

-- the boxes are those of the runs, and the tree is one of the boxes of all edges
abbrev pub IsIndexOf : List Edge → EdgeIndex → Type 0
IsIndexOf es OneByOne = Unit {0}
IsIndexOf es (Runs boxes) = AreRunBoxes es boxes.items
IsIndexOf es (Tree root) = HoldsEdges es (entries_in root)
