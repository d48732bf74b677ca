-- The meeting of two intervals of an axis, and the intersections of their inner parts, ends and
-- outsides.
use Rattle.std.specs.Prelude.{◌≡◌, ◌<ℤ◌, ◌⊎◌}
use Rattle.geom_core.specs.declared.span.Span.{Span}
use Rattle.relation_core.specs.declared.part.Parts.{Parts}
use Rattle.relation_core.specs.declared.meeting.Shared.{Shared}
use Rattle.relation_core.specs.declared.meeting.Shared.TheVariants.{Nothing, Point, Interval}
use Rattle.relation_core.specs.declared.meeting.Meeting.{Meeting}
use Rattle.relation_core.specs.declared.meeting.Meeting.TheVariants.{Disjoint, Meet, Overlap}
use Rattle.relation_core.specs.declared.meeting.Meeting.TheVariants.{Inside, CoveredBy, Contains}
use Rattle.relation_core.specs.declared.meeting.Meeting.TheVariants.{Covers, Equal}
use Rattle.relation_core.specs.declared.meeting.Meeting.TheVariants.{PointDisjoint, PointAtEnd}
use Rattle.relation_core.specs.declared.meeting.Meeting.TheVariants.{PointInside, DisjointPoint}
use Rattle.relation_core.specs.declared.meeting.Meeting.TheVariants.{EndAtPoint, ContainsPoint}
use Rattle.relation_core.specs.declared.meeting.Meeting.TheVariants.{PointsDisjoint, PointsEqual}

-- the order of the four ends, from left to right or from right to left
abbrev pub IsMeeting : Meeting → Span → Span → Type 0
IsMeeting Disjoint a b =
    ((a.lo <ℤ a.hi) × (a.hi <ℤ b.lo) × (b.lo <ℤ b.hi))
    ⊎ ((b.lo <ℤ b.hi) × (b.hi <ℤ a.lo) × (a.lo <ℤ a.hi))
IsMeeting Meet a b =
    ((a.lo <ℤ a.hi) × (a.hi ≡ b.lo) × (b.lo <ℤ b.hi))
    ⊎ ((b.lo <ℤ a.lo) × (a.lo ≡ b.hi) × (b.hi <ℤ a.hi))
IsMeeting Overlap a b =
    ((a.lo <ℤ b.lo) × (b.lo <ℤ a.hi) × (a.hi <ℤ b.hi))
    ⊎ ((b.lo <ℤ a.lo) × (a.lo <ℤ b.hi) × (b.hi <ℤ a.hi))
IsMeeting Inside a b = (b.lo <ℤ a.lo) × (a.lo <ℤ a.hi) × (a.hi <ℤ b.hi)
IsMeeting CoveredBy a b =
    ((a.lo ≡ b.lo) × (b.lo <ℤ a.hi) × (a.hi <ℤ b.hi))
    ⊎ ((b.lo <ℤ a.lo) × (a.lo <ℤ a.hi) × (a.hi ≡ b.hi))
IsMeeting Contains a b = (a.lo <ℤ b.lo) × (b.lo <ℤ b.hi) × (b.hi <ℤ a.hi)
IsMeeting Covers a b =
    ((a.lo ≡ b.lo) × (b.lo <ℤ b.hi) × (b.hi <ℤ a.hi))
    ⊎ ((a.lo <ℤ b.lo) × (b.lo <ℤ a.hi) × (a.hi ≡ b.hi))
IsMeeting Equal a b = (a.lo ≡ b.lo) × (b.lo <ℤ a.hi) × (a.hi ≡ b.hi)
IsMeeting PointDisjoint a b =
    ((a.lo ≡ a.hi) × (a.hi <ℤ b.lo) × (b.lo <ℤ b.hi))
    ⊎ ((b.lo <ℤ b.hi) × (b.hi <ℤ a.lo) × (a.lo ≡ a.hi))
IsMeeting PointAtEnd a b =
    ((a.lo ≡ a.hi) × (a.hi ≡ b.lo) × (b.lo <ℤ b.hi))
    ⊎ ((b.lo <ℤ a.lo) × (a.lo ≡ a.hi) × (a.hi ≡ b.hi))
IsMeeting PointInside a b = (b.lo <ℤ a.lo) × (a.lo ≡ a.hi) × (a.hi <ℤ b.hi)
IsMeeting DisjointPoint a b =
    ((b.lo ≡ b.hi) × (b.hi <ℤ a.lo) × (a.lo <ℤ a.hi))
    ⊎ ((a.lo <ℤ a.hi) × (a.hi <ℤ b.lo) × (b.lo ≡ b.hi))
IsMeeting EndAtPoint a b =
    ((a.lo ≡ b.lo) × (b.lo ≡ b.hi) × (b.hi <ℤ a.hi))
    ⊎ ((a.lo <ℤ a.hi) × (a.hi ≡ b.lo) × (b.lo ≡ b.hi))
IsMeeting ContainsPoint a b = (a.lo <ℤ b.lo) × (b.lo ≡ b.hi) × (b.hi <ℤ a.hi)
IsMeeting PointsDisjoint a b =
    ((a.lo ≡ a.hi) × (a.hi <ℤ b.lo) × (b.lo ≡ b.hi))
    ⊎ ((b.lo ≡ b.hi) × (b.hi <ℤ a.lo) × (a.lo ≡ a.hi))
IsMeeting PointsEqual a b = (a.lo ≡ a.hi) × (a.hi ≡ b.lo) × (b.lo ≡ b.hi)

-- the intersections with the inner part, the ends and the outside of the second interval
abbrev pub shares : Shared → Shared → Shared → Parts Shared
shares i b e = record { interior = i; boundary = b; exterior = e }

-- the intersections of the inner part of the first interval
abbrev pub interior_of : Meeting → Parts Shared
interior_of Disjoint = shares Nothing Nothing Interval
interior_of Meet = shares Nothing Nothing Interval
interior_of Overlap = shares Interval Point Interval
interior_of Inside = shares Interval Nothing Nothing
interior_of CoveredBy = shares Interval Nothing Nothing
interior_of Contains = shares Interval Point Interval
interior_of Covers = shares Interval Point Interval
interior_of Equal = shares Interval Nothing Nothing
interior_of PointDisjoint = shares Nothing Nothing Point
interior_of PointAtEnd = shares Nothing Point Nothing
interior_of PointInside = shares Point Nothing Nothing
interior_of DisjointPoint = shares Nothing Nothing Interval
interior_of EndAtPoint = shares Nothing Nothing Interval
interior_of ContainsPoint = shares Point Nothing Interval
interior_of PointsDisjoint = shares Nothing Nothing Point
interior_of PointsEqual = shares Point Nothing Nothing

-- the intersections of the ends of the first interval
abbrev pub boundary_of : Meeting → Parts Shared
boundary_of Disjoint = shares Nothing Nothing Point
boundary_of Meet = shares Nothing Point Point
boundary_of Overlap = shares Point Nothing Point
boundary_of Inside = shares Point Nothing Nothing
boundary_of CoveredBy = shares Point Point Nothing
boundary_of Contains = shares Nothing Nothing Point
boundary_of Covers = shares Nothing Point Point
boundary_of Equal = shares Nothing Point Nothing
boundary_of PointDisjoint = shares Nothing Nothing Nothing
boundary_of PointAtEnd = shares Nothing Nothing Nothing
boundary_of PointInside = shares Nothing Nothing Nothing
boundary_of DisjointPoint = shares Nothing Nothing Point
boundary_of EndAtPoint = shares Point Nothing Point
boundary_of ContainsPoint = shares Nothing Nothing Point
boundary_of PointsDisjoint = shares Nothing Nothing Nothing
boundary_of PointsEqual = shares Nothing Nothing Nothing

-- the intersections of the outside of the first interval
abbrev pub exterior_of : Meeting → Parts Shared
exterior_of Disjoint = shares Interval Point Interval
exterior_of Meet = shares Interval Point Interval
exterior_of Overlap = shares Interval Point Interval
exterior_of Inside = shares Interval Point Interval
exterior_of CoveredBy = shares Interval Point Interval
exterior_of Contains = shares Nothing Nothing Interval
exterior_of Covers = shares Nothing Nothing Interval
exterior_of Equal = shares Nothing Nothing Interval
exterior_of PointDisjoint = shares Interval Point Interval
exterior_of PointAtEnd = shares Interval Point Interval
exterior_of PointInside = shares Interval Point Interval
exterior_of DisjointPoint = shares Point Nothing Interval
exterior_of EndAtPoint = shares Nothing Nothing Interval
exterior_of ContainsPoint = shares Nothing Nothing Interval
exterior_of PointsDisjoint = shares Point Nothing Interval
exterior_of PointsEqual = shares Nothing Nothing Interval
