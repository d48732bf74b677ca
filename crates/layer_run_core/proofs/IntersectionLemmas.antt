-- Geometries that share a point have boxes that meet.
use Rattle.std.proofs.Common.{◌≡◌}
use Rattle.std.proofs.Math.Logic.{∥∥₁_elim}
use Rattle.geom_core.specs.Cells.{Meets}
use Rattle.any_geometry_core.specs.declared.geometry.AnyGeometry.{AnyGeometry}
use Rattle.any_geometry_core.specs.AnyGeometries.{figure_of, box_of, is_geometry, holds_vertices}
use Rattle.any_relation_core.proofs.FilterLemmas.{meet_or_apart, disjoint_apart}
use Rattle.any_relation_core.specs.PlaneSets.{Intersect}

no_two : (a b : ⊥) → a ≡ b
no_two a b = absurd a

-- geometries that share a point have boxes that meet
pub boxes_meet : (g h : AnyGeometry) → Intersect (figure_of g) (figure_of h) → Meets (box_of g) (box_of h)
boxes_meet g h (p, wide, in_g, in_h) = meet_or_apart (box_of g) (box_of h) (λ apart.
    ∥∥₁_elim (is_geometry g) no_two (λ is_g.
    ∥∥₁_elim (is_geometry h) no_two (λ is_h.
    ∥∥₁_elim (holds_vertices g) no_two (λ holds_g.
    ∥∥₁_elim (holds_vertices h) no_two (λ holds_h.
    disjoint_apart (figure_of g) (figure_of h) (box_of g) (box_of h) is_g.0 is_h.0 holds_g holds_h apart p wide in_g in_h)))))
