-- When two features of layers are near.
use Rattle.std.specs.Prelude.{◌≡◌, ℕ, Option, None, Some}
use Rattle.geom_core.specs.declared.shape.Shape.{Shape}
use Rattle.plane_core.specs.Points.{Point}
use Rattle.distance_core.specs.Units.{units_of}
use Rattle.distance_core.specs.Distances.{AreWithin}
use Rattle.distance_core.specs.declared.nearness.Nearness.{Nearness}
use Rattle.distance_core.specs.declared.nearness.Nearness.TheVariants.{Within, Apart}
use Rattle.layer_core.specs.Layers.{Contents}
use Rattle.filter_core.specs.Joins.{StandIn, BoxesMeet as BoxesMeetBy}
use Rattle.refine_core.specs.declared.refined.Refined.{Refined}
use Rattle.planar_core.specs.Squares.{AreApart, IsSquareOf}
use Rattle.near_core.specs.declared.grown.Grown.{Grown}
use Rattle.near_core.specs.Growth.{grown_box}

-- the boxes of the two features, grown by half of their distances, share a cell
abbrev pub BoxesMeet : {G : Type 0} → (G → Shape) → Grown G → Grown G → Type 0
BoxesMeet box_of g h = BoxesMeetBy (grown_box box_of) g h

-- the closed geometries of the two features, which have these points, are at most the distance of
-- each apart
pub record AreNear {G : Type 0} (has_point : G → Point → Type 0) (g h : Grown G) : Type 0 where
  pub by_first : AreWithin (units_of g.distance) (has_point g.geometry) (has_point h.geometry)
  pub by_second : AreWithin (units_of h.distance) (has_point g.geometry) (has_point h.geometry)

-- the two features are near, their closed geometries at most the distance of each apart; where
-- pairs that are apart are wanted, the geometries also share no point
abbrev pub AreWanted : {G : Type 0} → (G → Point → Type 0) → Nearness → Grown G → Grown G → Type 0
AreWanted has_point Within g h = AreNear has_point g h
AreWanted has_point Apart g h =
    AreNear has_point g h × AreApart (has_point g.geometry) (has_point h.geometry)

-- the squared distance of the two geometries, which is this fraction
abbrev pub HaveSquare : {G S : Type 0} → (S → ℕ × ℕ) → (G → Point → Type 0) → S → Grown G → Grown G
    → Type 0
HaveSquare fraction has_point square g h =
    IsSquareOf (fraction square) (has_point g.geometry) (has_point h.geometry)

-- a square was found, and it is 0
abbrev pub IsZeroIn : {S : Type 0} → (S → ℕ × ℕ) → Option S → Type 0
IsZeroIn fraction None = ⊥
IsZeroIn fraction (Some square) = (fraction square).0 ≡ 0

-- the answer is the squared distance of the two features' geometries
abbrev pub HasSquare : {G S : Type 0} → (S → ℕ × ℕ) → (G → Point → Type 0) → Contents (Grown G)
    → Contents (Grown G) → Refined S → Type 0
HasSquare fraction has_point left right found =
    StandIn (HaveSquare fraction has_point found.answer) left right found.pair
