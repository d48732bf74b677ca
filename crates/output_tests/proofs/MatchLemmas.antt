-- Features that were found by their numbers, and lists of matches that grow.
use Rattle.std.proofs.Common.{◌≡◌, ◌∙◌, sym, ap, subst, All, List, [], ◌∷◌, ◌++◌}
use Rattle.std.proofs.lemmas.List.Elements.{All-push}
use Rattle.std.specs.Prelude.{ℕ, Option, Some}
use Rattle.std.specs.Borrow.{Bor}
use Rattle.relation_core.specs.declared.matrix.Matrix.{Matrix}
use Rattle.plane_core.specs.PlaneMatrices.{IsPlaneMatrix}
use Rattle.plane_core.specs.Figures.{Figure}
use Rattle.layer_core.specs.Layers.{Contents, ShapeIs, with_number}
use Rattle.refine_core.specs.declared.refined.Refined.{Refined}
use Rattle.any_geometry_core.specs.declared.geometry.AnyGeometry.{AnyGeometry}
use Rattle.any_geometry_core.specs.AnyGeometries.{figure_of}
use Rattle.report_core.specs.AnyMatches.{IsAnyMatch}
use Rattle.report_core.proofs.ReportLemmas.{shape_held}

-- a pair of features with the matrix of their geometries is a match
pub is_match : (left right : Contents AnyGeometry) (pair : ℕ × ℕ) (p q : Option (Bor AnyGeometry)) (g h : Bor AnyGeometry) (f s : Figure)
    (m : Matrix) → ShapeIs p (with_number pair.0 left) → p ≡ Some g → ShapeIs q (with_number pair.1 right) → q ≡ Some h
    → f ≡ figure_of g.now → s ≡ figure_of h.now → IsPlaneMatrix f s m
    → IsAnyMatch left right (record { pair = pair; answer = m })
is_match left right pair p q g h f s m is_g p_is is_h q_is f_is s_is related =
    let first = shape_held (with_number pair.0 left) p g is_g p_is in
    let second = shape_held (with_number pair.1 right) q h is_h q_is in
    record {
      first = first.feature;
      second = second.feature;
      first_held = first.held;
      second_held = second.held;
      related = subst (λ (x : Figure). IsPlaneMatrix x (figure_of second.feature.shape) m) (f_is ∙ ap figure_of first.its_shape)
          (subst (λ (y : Figure). IsPlaneMatrix f y m) (s_is ∙ ap figure_of second.its_shape) related);
    }

-- one match more
pub pushed : (left right : Contents AnyGeometry) (old new : List (Refined Matrix)) (found : Refined Matrix) → new ≡ old ++ found ∷ []
    → All (IsAnyMatch left right) old → IsAnyMatch left right found → All (IsAnyMatch left right) new
pushed left right old new found is all more =
    subst (All (IsAnyMatch left right)) (sym is) (All-push (IsAnyMatch left right) old found all more)
