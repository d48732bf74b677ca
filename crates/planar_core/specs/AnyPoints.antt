-- Geometries of any kind as sets of points of the plane.
use Rattle.std.proofs.Common.{arith}
use native.Mathlib.Decide.{dec_lt}
use Rattle.std.specs.Prelude.{◌≡◌, ℕ, ◌*◌, ◌≤◌, ◌<◌, pos, ◌*ℤ◌}
use Rattle.std.proofs.Common.{◌∙◌}
use Rattle.std.proofs.Math.Logic.{∥∥₁_elim}
use Rattle.std.proofs.lemmas.Int.{by_lt_z}
use Rattle.geom_core.specs.Shapes.{x1, y1, x2, y2}
use Rattle.plane_core.specs.Points.{Point, IsSamePlace}
use Rattle.plane_core.proofs.PartScaleLemmas.{part_of-same_place}
use Rattle.shown_core.proofs.BeyondLemmas.{holds_all, IsAside, aside_part}
use Rattle.shown_core.proofs.BeyondLemmas.IsAside.{Left, Right, Low, High}
use Rattle.distance_core.specs.Limits.{greatest_distance}
use Rattle.distance_core.specs.Distances.{AreWithin}
use Rattle.distance_core.specs.ShapePoints.{HasPoint, IsPointOf}
use Rattle.distance_core.proofs.MeetingLemmas.{within_by_fraction}
use Rattle.geometry_distance_core.specs.declared.index.GeometryIndex.{GeometryIndex}
use Rattle.geometry_distance_core.specs.Measured.{IsIndexOf}
use Rattle.geometry_distance_core.proofs.RangeLemmas.{within_greatest}
use Rattle.any_geometry_core.specs.declared.geometry.AnyGeometry.{AnyGeometry}
use Rattle.any_geometry_core.specs.AnyGeometries.{figure_of, is_geometry, holds_vertices, box_of}
use Rattle.planar_core.specs.Squares.{IsSquareOf}

-- the points in the interior or on the boundary
abbrev pub HasPlace : AnyGeometry → Point → Type 0
HasPlace g = IsPointOf (figure_of g)

-- the index is of the geometry's edges and single points
abbrev pub HasIndex : AnyGeometry → GeometryIndex → Type 0
HasIndex g = IsIndexOf (figure_of g)

never_is_one : (a b : ⊥) → a ≡ b
never_is_one a b = absurd a

-- no point of a geometry is beside its envelope
not_aside : (g : AnyGeometry) (p : Point) → 0 < p.w → HasPlace g p → ¬ (IsAside (box_of g) p)
not_aside g p wide in_ aside =
    ∥∥₁_elim (is_geometry g) never_is_one (λ is.
    ∥∥₁_elim (holds_vertices g) never_is_one (λ held.
    in_ (aside_part (figure_of g) (box_of g) p is.0 wide
    (holds_all (box_of g) (figure_of g) held) aside)))

-- so the envelope has all points of the geometry
pub in_envelope : (g : AnyGeometry) (p : Point) → 0 < p.w → HasPlace g p → HasPoint (box_of g) p
in_envelope g p wide in_ =
    let none = not_aside g p wide in_ in (
      (
        by_lt_z p.x (pos p.w *ℤ x1 (box_of g)) (λ less. absurd (none (Left less))) (λ no. no),
        by_lt_z (pos p.w *ℤ x2 (box_of g)) p.x (λ more. absurd (none (Right more))) (λ no. no),
      ),
      (
        by_lt_z p.y (pos p.w *ℤ y1 (box_of g)) (λ less. absurd (none (Low less))) (λ no. no),
        by_lt_z (pos p.w *ℤ y2 (box_of g)) p.y (λ more. absurd (none (High more))) (λ no. no),
      ),
    )

-- geometries that are near have envelopes that are near
pub within_envelopes : (g h : AnyGeometry) (d : ℕ) → AreWithin d (HasPlace g) (HasPlace h)
    → AreWithin d (HasPoint (box_of g)) (HasPoint (box_of h))
within_envelopes g h d w = record {
  first = w.first;
  second = w.second;
  first_wide = w.first_wide;
  second_wide = w.second_wide;
  first_in = in_envelope g w.first w.first_wide w.first_in;
  second_in = in_envelope h w.second w.second_wide w.second_in;
  near = w.near;
}

-- whether a place is in a geometry doesn't depend on the fractions by which it is given
pub any_at_place : (g : AnyGeometry) (p q : Point) → 0 < p.w → 0 < q.w → IsSamePlace p q
    → HasPlace g p → HasPlace g q
any_at_place g p q wide_p wide_q same in_ out =
    in_ (part_of-same_place (figure_of g) p q wide_p wide_q same ∙ out)

-- two geometries are in the plane
pub any_in_range : (g h : AnyGeometry) (f : ℕ × ℕ) → 0 < f.1
    → IsSquareOf f (HasPlace g) (HasPlace h) → f.0 ≤ (greatest_distance * greatest_distance) * f.1
any_in_range g h f positive is =
    elim (dec_lt ((greatest_distance * greatest_distance) * f.1) f.0) [
      | yes more ↦ absurd (∥∥₁_elim (is_geometry g) never_is_one (λ good_g.
          ∥∥₁_elim (is_geometry h) never_is_one (λ good_h.
          let few = (within_by_fraction (HasPlace g) (HasPlace h) f.0 f.1 greatest_distance
          positive is).1
          (within_greatest (figure_of g) (figure_of h) good_g.0 good_h.0) in
          omega (arith, few, more))))
      | no le ↦ omega (arith, le)
    ]

-- and no two are beyond the greatest distance
pub any_in_plane : (g h : AnyGeometry)
    → ¬ (¬ (AreWithin greatest_distance (HasPlace g) (HasPlace h)))
any_in_plane g h beyond =
    ∥∥₁_elim (is_geometry g) never_is_one (λ good_g.
    ∥∥₁_elim (is_geometry h) never_is_one (λ good_h.
    beyond (within_greatest (figure_of g) (figure_of h) good_g.0 good_h.0)))
