-- The box that has the ends of two grown intervals is the grown box.
use Rattle.std.proofs.Common.{◌≡◌, of_z, to_z, w64, ap, ◌∙◌}
use Rattle.geom_core.specs.declared.span.Span.{Span}
use Rattle.geom_core.specs.declared.shape.Shape.{Shape}
use Rattle.geom_core.specs.Joined.{same_corners}
use Rattle.geom_core.specs.Shapes.{HasCorners}
use Rattle.geom_core.proofs.HeldLemmas.{held_lo, held_hi}
use Rattle.distance_core.specs.declared.distance.Distance.{Distance}
use Rattle.near_core.specs.Growth.{grown, grown_shape, growth_of}

lo_of : (s t : Span) → s ≡ t → to_z w64 (of_z w64 s.lo) ≡ t.lo
lo_of s t is = held_lo s ∙ ap (λ (r : Span). r.lo) is

hi_of : (s t : Span) → s ≡ t → to_z w64 (of_z w64 s.hi) ≡ t.hi
hi_of s t is = held_hi s ∙ ap (λ (r : Span). r.hi) is

pub box_of_ends : (distance : Distance) (s : Shape) (x y : Span) (box : Shape) → x ≡ grown (growth_of distance) s.x → y ≡ grown (growth_of distance) s.y
    → HasCorners (to_z w64 (of_z w64 x.lo)) (to_z w64 (of_z w64 y.lo)) (to_z w64 (of_z w64 x.hi)) (to_z w64 (of_z w64 y.hi)) box → box ≡ grown_shape distance s
box_of_ends distance s x y box is_x is_y corners =
    same_corners box (grown_shape distance s) (corners.first_x ∙ lo_of x _ is_x) (corners.first_y ∙ lo_of y _ is_y) (corners.second_x ∙ hi_of x _ is_x)
    (corners.second_y ∙ hi_of y _ is_y)
