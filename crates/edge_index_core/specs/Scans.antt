-- Scanning the edges of a tree at a point.
use Rattle.std.specs.Prelude.{List, ◌++◌, map}
use Rattle.std.specs.List.{slice_index_or}
use Rattle.plane_core.specs.declared.edge.Edge.{Edge}
use Rattle.plane_core.specs.declared.outline.Scan.{Scan}
use Rattle.plane_core.specs.Points.{Point}
use Rattle.plane_core.specs.Outlines.{IsScan}
use Rattle.rtree_core.specs.declared.node.Entry.{Entry}

-- the edges with the entries' numbers, or the given one if there is none
abbrev pub edges_at : List Edge → Edge → List Entry → List Edge
edges_at es d xs = map (λ x. slice_index_or es x.number d) xs

-- a scan of some edges becomes one of these and of those with the entries' numbers
pub record AddsScan (es : List Edge) (p : Point) (xs : List Entry) (old new : Scan) : Type 0 where
  pub added : (d : Edge) (done : List Edge) → IsScan done p old
      → IsScan (done ++ edges_at es d xs) p new
