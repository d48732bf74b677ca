-- The distance of two geometries of any kind, by their figures and by their envelopes.
use Rattle.std.proofs.Common.{◌≡◌, ◌↔◌, ℕ, sym, subst}
use Rattle.std.specs.Prelude.{Bool, false, IsTrue, Option, IsSome, IfSome, Result, IfOk}
use Rattle.geom_core.specs.declared.shape.Shape.{Shape}
use Rattle.plane_core.specs.Figures.{Figure}
use Rattle.noding_core.proofs.TestLemmas.{clash}
use Rattle.distance_core.specs.Distances.{AreWithin}
use Rattle.distance_core.specs.ShapePoints.{HasPoint, IsPointOf}
use Rattle.distance_core.specs.declared.fraction.SquaredFraction.{SquaredFraction}
use Rattle.distance_core.specs.Fractions.{IsSquareOf}
use Rattle.geometry_distance_core.specs.declared.index.GeometryIndex.{GeometryIndex}
use Rattle.geometry_distance_core.specs.Measured.{IsIndexOf}
use Rattle.any_geometry_core.specs.declared.geometry.AnyGeometry.{AnyGeometry}
use Rattle.any_geometry_core.specs.AnyGeometries.{figure_of, box_of}
use Rattle.planar_core.specs.declared.forms.Forms.{Forms}
use Rattle.planar_core.specs.Forms.{AreFormsOf}
use Rattle.planar_core.specs.AnyPoints.{HasPlace, HasIndex, within_envelopes}

module _ (g h : AnyGeometry) where
  -- geometries whose envelopes are further apart
  pub far_envelopes : (s t : Shape) (k : ℕ) (test : Bool) → s ≡ box_of g → t ≡ box_of h → IsTrue test ↔ AreWithin k (HasPoint s) (HasPoint t) → test ≡ false
      → ¬ (AreWithin k (HasPlace g) (HasPlace h))
  far_envelopes s t k test is_s is_t tells far within =
      let w = within_envelopes g h k within in
      clash test (tells.1 (subst (λ (x : Shape). AreWithin k (HasPoint x) (HasPoint t)) (sym is_s)
      (subst (λ (y : Shape). AreWithin k (HasPoint (box_of g)) (HasPoint y)) (sym is_t) w))) far

  module _ (a b : Figure) (is_a : a ≡ figure_of g) (is_b : b ≡ figure_of h) where
    -- the indexes are of the figures
    pub forms_of : (forms : Forms GeometryIndex) → AreFormsOf HasIndex g h forms → AreFormsOf IsIndexOf a b forms
    forms_of forms are = record {
      first = subst (λ (x : Figure). IfSome forms.first (λ f. IsIndexOf x f.now)) (sym is_a) are.first;
      second = subst (λ (x : Figure). IfSome forms.second (λ f. IsIndexOf x f.now)) (sym is_b) are.second;
    }

    of_figures : (P : Figure → Figure → Type 0) → P a b → P (figure_of g) (figure_of h)
    of_figures P is = subst (λ (x : Figure). P x (figure_of h)) is_a (subst (λ (y : Figure). P a y) is_b is)

    -- what was found of the figures
    pub found_if : {E : Type 0} (k : ℕ) (out : Result (Option SquaredFraction) E) → IfOk out (λ found. IsSome found ↔ AreWithin k (IsPointOf a) (IsPointOf b))
        → IfOk out (λ found. IsSome found ↔ AreWithin k (HasPlace g) (HasPlace h))
    found_if k out is = of_figures (λ x y. IfOk out (λ found. IsSome found ↔ AreWithin k (IsPointOf x) (IsPointOf y))) is

    pub square_if : {E : Type 0} (out : Result (Option SquaredFraction) E) → IfOk out (λ found. IfSome found (λ s. IsSquareOf s (IsPointOf a) (IsPointOf b)))
        → IfOk out (λ found. IfSome found (λ s. IsSquareOf s (HasPlace g) (HasPlace h)))
    square_if out is = of_figures (λ x y. IfOk out (λ found. IfSome found (λ s. IsSquareOf s (IsPointOf x) (IsPointOf y)))) is
