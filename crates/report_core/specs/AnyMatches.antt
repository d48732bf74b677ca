-- Matches of layers of any geometry.
use Rattle.relation_core.specs.declared.matrix.Matrix.{Matrix}
use Rattle.plane_core.specs.PlaneMatrices.{IsPlaneMatrix}
use Rattle.layer_core.specs.Layers.{Contents}
use Rattle.refine_core.specs.declared.refined.Refined.{Refined}
use Rattle.any_geometry_core.specs.declared.geometry.AnyGeometry.{AnyGeometry}
use Rattle.any_geometry_core.specs.AnyGeometries.{figure_of}
use Rattle.report_core.specs.Reports.{HasMatrix}

-- the matrix of two geometries, by points of the plane
abbrev pub IsAnyMatrix : AnyGeometry → AnyGeometry → Matrix → Type 0
IsAnyMatrix g h matrix = IsPlaneMatrix (figure_of g) (figure_of h) matrix

-- the pair and the matrix of two features
abbrev pub IsAnyMatch : Contents AnyGeometry → Contents AnyGeometry → Refined Matrix → Type 0
IsAnyMatch left right found = HasMatrix IsAnyMatrix left right found.pair found.answer
