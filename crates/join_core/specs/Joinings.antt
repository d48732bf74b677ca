-- What a join asks of two geometries, and how it shows them.
use Rattle.geom_core.specs.declared.shape.Shape.{Shape}
use Rattle.relation_core.specs.declared.join_relation.JoinRelation.{JoinRelation}
use Rattle.relation_core.specs.declared.matrix.Matrix.{Matrix}
use Rattle.relation_core.specs.JoinRelations.{relation_of}
use Rattle.relation_core.specs.Matrices.{IsMatrix}
use Rattle.relation_core.specs.Relations.{Holds}
use Rattle.draw_core.specs.Drawings.{Drawing}
use Rattle.draw_core.specs.Outlines.{box_drawing}

-- which two geometries are a pair, which matrix is theirs, and how each is drawn
pub record Joining (G : Type 0) : Type 1 where
  pub stands : G → G → Type 0
  pub is_matrix : G → G → Matrix → Type 0
  pub drawing : Drawing G

abbrev pub joining_by : {G : Type 0} → (G → G → Type 0) → (G → G → Matrix → Type 0) → Drawing G
    → Joining G
joining_by stands is_matrix drawing =
    record { stands = stands; is_matrix = is_matrix; drawing = drawing }

-- boxes that stand in a relation, with the matrix by cells
abbrev pub box_joining : JoinRelation → Joining Shape
box_joining relation = joining_by (Holds (relation_of relation)) IsMatrix box_drawing
