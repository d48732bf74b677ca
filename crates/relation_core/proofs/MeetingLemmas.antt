-- The intersections of the inner parts, the ends and the outsides of two intervals, for each
-- meeting.
use Rattle.std.proofs.Common.{arith, ◌≡◌, sym, ◌∙◌, inl, inr}
use Rattle.std.specs.Prelude.{ℤ, pos, ◌+ℤ◌, ◌<ℤ◌}
use Rattle.std.proofs.lemmas.Int.{ints}
use Rattle.geom_core.specs.declared.span.Span.{Span}
use Rattle.relation_core.specs.declared.part.Parts.{Parts}
use Rattle.relation_core.specs.declared.meeting.Shared.{Shared}
use Rattle.relation_core.specs.declared.meeting.Shared.TheVariants.{Nothing, Point, Interval}
use Rattle.relation_core.specs.declared.meeting.Meeting.{Meeting}
use Rattle.relation_core.specs.declared.meeting.Meeting.TheVariants.{Disjoint, Meet, Overlap, Inside, CoveredBy, Contains, Covers, Equal, PointDisjoint, PointAtEnd}
use Rattle.relation_core.specs.declared.meeting.Meeting.TheVariants.{PointInside, DisjointPoint, EndAtPoint, ContainsPoint, PointsDisjoint, PointsEqual}
use Rattle.geom_core.specs.Cells.{line, IsInner}
use Rattle.relation_core.specs.Meetings.{IsMeeting, shares, interior_of, boundary_of, exterior_of}
use Rattle.relation_core.proofs.Zones.{IsEnd, IsOutside, IsShared, gap_right, end_is_line, point_is_line}

-- the intersections of a zone of the first interval with each zone of the second
pub record IsAxisRow (Z : ℤ → Type 0) (b : Span) (row : Parts Shared) : Type 0 where
  pub interior : IsShared Z (IsInner b) row.interior
  pub boundary : IsShared Z (IsEnd b) row.boundary
  pub exterior : IsShared Z (IsOutside b) row.exterior

-- the intersections of the zones of two intervals are those of the rows of the meeting
pub record IsTable (a b : Span) (m : Meeting) : Type 0 where
  pub interior : IsAxisRow (IsInner a) b (interior_of m)
  pub boundary : IsAxisRow (IsEnd a) b (boundary_of m)
  pub exterior : IsAxisRow (IsOutside a) b (exterior_of m)

-- the intersection doesn't depend on which of two zones is named first
swapped : (S T : ℤ → Type 0) (e : Shared) → IsShared S T e → IsShared T S e
swapped S T Nothing h = λ u t s. h u s t
swapped S T Point ((u, s, t), even) = ((u, t, s), λ v q p. even v p q)
swapped S T Interval (u, s, t, odd) = (u, t, s, odd)

-- the table of the second interval with the first, turned over
record IsTurned (a b : Span) (m : Meeting) : Type 0 where
  interior : IsAxisRow (IsInner a) b (shares (interior_of m).interior (boundary_of m).interior (exterior_of m).interior)
  boundary : IsAxisRow (IsEnd a) b (shares (interior_of m).boundary (boundary_of m).boundary (exterior_of m).boundary)
  exterior : IsAxisRow (IsOutside a) b (shares (interior_of m).exterior (boundary_of m).exterior (exterior_of m).exterior)

turned : (a b : Span) (m : Meeting) → IsTable b a m → IsTurned a b m
turned a b m t = record {
  interior = record {
    interior = swapped (IsInner b) (IsInner a) (interior_of m).interior t.interior.interior;
    boundary = swapped (IsEnd b) (IsInner a) (boundary_of m).interior t.boundary.interior;
    exterior = swapped (IsOutside b) (IsInner a) (exterior_of m).interior t.exterior.interior;
  };
  boundary = record {
    interior = swapped (IsInner b) (IsEnd a) (interior_of m).boundary t.interior.boundary;
    boundary = swapped (IsEnd b) (IsEnd a) (boundary_of m).boundary t.boundary.boundary;
    exterior = swapped (IsOutside b) (IsEnd a) (exterior_of m).boundary t.exterior.boundary;
  };
  exterior = record {
    interior = swapped (IsInner b) (IsOutside a) (interior_of m).exterior t.interior.exterior;
    boundary = swapped (IsEnd b) (IsOutside a) (boundary_of m).exterior t.boundary.exterior;
    exterior = swapped (IsOutside b) (IsOutside a) (exterior_of m).exterior t.exterior.exterior;
  };
}

disjoint_left : (a b : Span) → a.lo <ℤ a.hi → a.hi <ℤ b.lo → b.lo <ℤ b.hi → IsTable a b Disjoint
disjoint_left a b p q r = record {
  interior = record {
    interior = λ u s t. grind (arith, ints);
    boundary = λ u s t. grind (arith, ints);
    exterior = (line a.lo +ℤ pos 1, inl (omega (arith, ints), omega (arith, ints)), inl (omega (arith, ints)), gap_right a.lo);
  };
  boundary = record {
    interior = λ u s t. grind (arith, ints);
    boundary = λ u s t. grind (arith, ints);
    exterior = ((line a.lo, (omega (arith, ints), inl (omega (arith, ints))), inl (omega (arith, ints))), λ u s t. end_is_line a u s);
  };
  exterior = record {
    interior = (line b.lo +ℤ pos 1, inr (omega (arith, ints)), inl (omega (arith, ints), omega (arith, ints)), gap_right b.lo);
    boundary = ((line b.lo, inr (omega (arith, ints)), (omega (arith, ints), inl (omega (arith, ints)))), λ u s t. end_is_line b u t);
    exterior = (line a.hi +ℤ pos 1, inr (omega (arith, ints)), inl (omega (arith, ints)), gap_right a.hi);
  };
}

meet_left : (a b : Span) → a.lo <ℤ a.hi → a.hi ≡ b.lo → b.lo <ℤ b.hi → IsTable a b Meet
meet_left a b p q r = record {
  interior = record {
    interior = λ u s t. grind (arith, ints);
    boundary = λ u s t. grind (arith, ints);
    exterior = (line a.lo +ℤ pos 1, inl (omega (arith, ints), omega (arith, ints)), inl (omega (arith, ints)), gap_right a.lo);
  };
  boundary = record {
    interior = λ u s t. grind (arith, ints);
    boundary = ((line a.hi, (omega (arith, ints), inr (omega (arith, ints))), (omega (arith, ints), inl (omega (arith, ints)))), λ u s t. end_is_line a u s);
    exterior = ((line a.lo, (omega (arith, ints), inl (omega (arith, ints))), inl (omega (arith, ints))), λ u s t. end_is_line a u s);
  };
  exterior = record {
    interior = (line a.hi +ℤ pos 1, inr (omega (arith, ints)), inl (omega (arith, ints), omega (arith, ints)), gap_right a.hi);
    boundary = ((line b.hi, inr (omega (arith, ints)), (omega (arith, ints), inr (omega (arith, ints)))), λ u s t. end_is_line b u t);
    exterior = (line b.hi +ℤ pos 1, inr (omega (arith, ints)), inr (omega (arith, ints)), gap_right b.hi);
  };
}

overlap_left : (a b : Span) → a.lo <ℤ b.lo → b.lo <ℤ a.hi → a.hi <ℤ b.hi → IsTable a b Overlap
overlap_left a b p q r = record {
  interior = record {
    interior = (line b.lo +ℤ pos 1, inl (omega (arith, ints), omega (arith, ints)), inl (omega (arith, ints), omega (arith, ints)), gap_right b.lo);
    boundary = ((line b.lo, inl (omega (arith, ints), omega (arith, ints)), (omega (arith, ints), inl (omega (arith, ints)))), λ u s t. end_is_line b u t);
    exterior = (line a.lo +ℤ pos 1, inl (omega (arith, ints), omega (arith, ints)), inl (omega (arith, ints)), gap_right a.lo);
  };
  boundary = record {
    interior = ((line a.hi, (omega (arith, ints), inr (omega (arith, ints))), inl (omega (arith, ints), omega (arith, ints))), λ u s t. end_is_line a u s);
    boundary = λ u s t. grind (arith, ints);
    exterior = ((line a.lo, (omega (arith, ints), inl (omega (arith, ints))), inl (omega (arith, ints))), λ u s t. end_is_line a u s);
  };
  exterior = record {
    interior = (line a.hi +ℤ pos 1, inr (omega (arith, ints)), inl (omega (arith, ints), omega (arith, ints)), gap_right a.hi);
    boundary = ((line b.hi, inr (omega (arith, ints)), (omega (arith, ints), inr (omega (arith, ints)))), λ u s t. end_is_line b u t);
    exterior = (line b.hi +ℤ pos 1, inr (omega (arith, ints)), inr (omega (arith, ints)), gap_right b.hi);
  };
}

inside : (a b : Span) → b.lo <ℤ a.lo → a.lo <ℤ a.hi → a.hi <ℤ b.hi → IsTable a b Inside
inside a b p q r = record {
  interior = record {
    interior = (line a.lo +ℤ pos 1, inl (omega (arith, ints), omega (arith, ints)), inl (omega (arith, ints), omega (arith, ints)), gap_right a.lo);
    boundary = λ u s t. grind (arith, ints);
    exterior = λ u s t. grind (arith, ints);
  };
  boundary = record {
    interior = ((line a.lo, (omega (arith, ints), inl (omega (arith, ints))), inl (omega (arith, ints), omega (arith, ints))), λ u s t. end_is_line a u s);
    boundary = λ u s t. grind (arith, ints);
    exterior = λ u s t. grind (arith, ints);
  };
  exterior = record {
    interior = (line a.hi +ℤ pos 1, inr (omega (arith, ints)), inl (omega (arith, ints), omega (arith, ints)), gap_right a.hi);
    boundary = ((line b.lo, inl (omega (arith, ints)), (omega (arith, ints), inl (omega (arith, ints)))), λ u s t. end_is_line b u t);
    exterior = (line b.hi +ℤ pos 1, inr (omega (arith, ints)), inr (omega (arith, ints)), gap_right b.hi);
  };
}

covered_by_left : (a b : Span) → a.lo ≡ b.lo → b.lo <ℤ a.hi → a.hi <ℤ b.hi → IsTable a b CoveredBy
covered_by_left a b p q r = record {
  interior = record {
    interior = (line a.lo +ℤ pos 1, inl (omega (arith, ints), omega (arith, ints)), inl (omega (arith, ints), omega (arith, ints)), gap_right a.lo);
    boundary = λ u s t. grind (arith, ints);
    exterior = λ u s t. grind (arith, ints);
  };
  boundary = record {
    interior = ((line a.hi, (omega (arith, ints), inr (omega (arith, ints))), inl (omega (arith, ints), omega (arith, ints))), λ u s t. end_is_line a u s);
    boundary = ((line a.lo, (omega (arith, ints), inl (omega (arith, ints))), (omega (arith, ints), inl (omega (arith, ints)))), λ u s t. end_is_line a u s);
    exterior = λ u s t. grind (arith, ints);
  };
  exterior = record {
    interior = (line a.hi +ℤ pos 1, inr (omega (arith, ints)), inl (omega (arith, ints), omega (arith, ints)), gap_right a.hi);
    boundary = ((line b.hi, inr (omega (arith, ints)), (omega (arith, ints), inr (omega (arith, ints)))), λ u s t. end_is_line b u t);
    exterior = (line b.hi +ℤ pos 1, inr (omega (arith, ints)), inr (omega (arith, ints)), gap_right b.hi);
  };
}

covered_by_right : (a b : Span) → b.lo <ℤ a.lo → a.lo <ℤ a.hi → a.hi ≡ b.hi → IsTable a b CoveredBy
covered_by_right a b p q r = record {
  interior = record {
    interior = (line a.lo +ℤ pos 1, inl (omega (arith, ints), omega (arith, ints)), inl (omega (arith, ints), omega (arith, ints)), gap_right a.lo);
    boundary = λ u s t. grind (arith, ints);
    exterior = λ u s t. grind (arith, ints);
  };
  boundary = record {
    interior = ((line a.lo, (omega (arith, ints), inl (omega (arith, ints))), inl (omega (arith, ints), omega (arith, ints))), λ u s t. end_is_line a u s);
    boundary = ((line a.hi, (omega (arith, ints), inr (omega (arith, ints))), (omega (arith, ints), inr (omega (arith, ints)))), λ u s t. end_is_line a u s);
    exterior = λ u s t. grind (arith, ints);
  };
  exterior = record {
    interior = (line b.lo +ℤ pos 1, inl (omega (arith, ints)), inl (omega (arith, ints), omega (arith, ints)), gap_right b.lo);
    boundary = ((line b.lo, inl (omega (arith, ints)), (omega (arith, ints), inl (omega (arith, ints)))), λ u s t. end_is_line b u t);
    exterior = (line a.hi +ℤ pos 1, inr (omega (arith, ints)), inr (omega (arith, ints)), gap_right a.hi);
  };
}

equal : (a b : Span) → a.lo ≡ b.lo → b.lo <ℤ a.hi → a.hi ≡ b.hi → IsTable a b Equal
equal a b p q r = record {
  interior = record {
    interior = (line a.lo +ℤ pos 1, inl (omega (arith, ints), omega (arith, ints)), inl (omega (arith, ints), omega (arith, ints)), gap_right a.lo);
    boundary = λ u s t. grind (arith, ints);
    exterior = λ u s t. grind (arith, ints);
  };
  boundary = record {
    interior = λ u s t. grind (arith, ints);
    boundary = ((line a.lo, (omega (arith, ints), inl (omega (arith, ints))), (omega (arith, ints), inl (omega (arith, ints)))), λ u s t. end_is_line a u s);
    exterior = λ u s t. grind (arith, ints);
  };
  exterior = record {
    interior = λ u s t. grind (arith, ints);
    boundary = λ u s t. grind (arith, ints);
    exterior = (line a.hi +ℤ pos 1, inr (omega (arith, ints)), inr (omega (arith, ints)), gap_right a.hi);
  };
}

point_disjoint_left : (a b : Span) → a.lo ≡ a.hi → a.hi <ℤ b.lo → b.lo <ℤ b.hi → IsTable a b PointDisjoint
point_disjoint_left a b p q r = record {
  interior = record {
    interior = λ u s t. grind (arith, ints);
    boundary = λ u s t. grind (arith, ints);
    exterior = ((line a.lo, inr (omega (arith, ints), omega (arith, ints)), inl (omega (arith, ints))), λ u s t. point_is_line a u (omega (arith, ints)) s);
  };
  boundary = record {
    interior = λ u s t. grind (arith, ints);
    boundary = λ u s t. grind (arith, ints);
    exterior = λ u s t. grind (arith, ints);
  };
  exterior = record {
    interior = (line b.lo +ℤ pos 1, inr (omega (arith, ints)), inl (omega (arith, ints), omega (arith, ints)), gap_right b.lo);
    boundary = ((line b.lo, inr (omega (arith, ints)), (omega (arith, ints), inl (omega (arith, ints)))), λ u s t. end_is_line b u t);
    exterior = (line a.lo +ℤ pos 1, inr (omega (arith, ints)), inl (omega (arith, ints)), gap_right a.lo);
  };
}

point_disjoint_right : (a b : Span) → b.lo <ℤ b.hi → b.hi <ℤ a.lo → a.lo ≡ a.hi → IsTable a b PointDisjoint
point_disjoint_right a b p q r = record {
  interior = record {
    interior = λ u s t. grind (arith, ints);
    boundary = λ u s t. grind (arith, ints);
    exterior = ((line a.lo, inr (omega (arith, ints), omega (arith, ints)), inr (omega (arith, ints))), λ u s t. point_is_line a u (omega (arith, ints)) s);
  };
  boundary = record {
    interior = λ u s t. grind (arith, ints);
    boundary = λ u s t. grind (arith, ints);
    exterior = λ u s t. grind (arith, ints);
  };
  exterior = record {
    interior = (line b.lo +ℤ pos 1, inl (omega (arith, ints)), inl (omega (arith, ints), omega (arith, ints)), gap_right b.lo);
    boundary = ((line b.lo, inl (omega (arith, ints)), (omega (arith, ints), inl (omega (arith, ints)))), λ u s t. end_is_line b u t);
    exterior = (line a.lo +ℤ pos 1, inr (omega (arith, ints)), inr (omega (arith, ints)), gap_right a.lo);
  };
}

point_at_end_left : (a b : Span) → a.lo ≡ a.hi → a.hi ≡ b.lo → b.lo <ℤ b.hi → IsTable a b PointAtEnd
point_at_end_left a b p q r = record {
  interior = record {
    interior = λ u s t. grind (arith, ints);
    boundary = ((line a.lo, inr (omega (arith, ints), omega (arith, ints)), (omega (arith, ints), inl (omega (arith, ints)))), λ u s t. end_is_line b u t);
    exterior = λ u s t. grind (arith, ints);
  };
  boundary = record {
    interior = λ u s t. grind (arith, ints);
    boundary = λ u s t. grind (arith, ints);
    exterior = λ u s t. grind (arith, ints);
  };
  exterior = record {
    interior = (line a.lo +ℤ pos 1, inr (omega (arith, ints)), inl (omega (arith, ints), omega (arith, ints)), gap_right a.lo);
    boundary = ((line b.hi, inr (omega (arith, ints)), (omega (arith, ints), inr (omega (arith, ints)))), λ u s t. end_is_line b u t);
    exterior = (line b.hi +ℤ pos 1, inr (omega (arith, ints)), inr (omega (arith, ints)), gap_right b.hi);
  };
}

point_at_end_right : (a b : Span) → b.lo <ℤ a.lo → a.lo ≡ a.hi → a.hi ≡ b.hi → IsTable a b PointAtEnd
point_at_end_right a b p q r = record {
  interior = record {
    interior = λ u s t. grind (arith, ints);
    boundary = ((line a.lo, inr (omega (arith, ints), omega (arith, ints)), (omega (arith, ints), inr (omega (arith, ints)))), λ u s t. end_is_line b u t);
    exterior = λ u s t. grind (arith, ints);
  };
  boundary = record {
    interior = λ u s t. grind (arith, ints);
    boundary = λ u s t. grind (arith, ints);
    exterior = λ u s t. grind (arith, ints);
  };
  exterior = record {
    interior = (line b.lo +ℤ pos 1, inl (omega (arith, ints)), inl (omega (arith, ints), omega (arith, ints)), gap_right b.lo);
    boundary = ((line b.lo, inl (omega (arith, ints)), (omega (arith, ints), inl (omega (arith, ints)))), λ u s t. end_is_line b u t);
    exterior = (line a.lo +ℤ pos 1, inr (omega (arith, ints)), inr (omega (arith, ints)), gap_right a.lo);
  };
}

point_inside : (a b : Span) → b.lo <ℤ a.lo → a.lo ≡ a.hi → a.hi <ℤ b.hi → IsTable a b PointInside
point_inside a b p q r = record {
  interior = record {
    interior = (
      (line a.lo, inr (omega (arith, ints), omega (arith, ints)), inl (omega (arith, ints), omega (arith, ints))),
      λ u s t. point_is_line a u (omega (arith, ints)) s,
    );
    boundary = λ u s t. grind (arith, ints);
    exterior = λ u s t. grind (arith, ints);
  };
  boundary = record {
    interior = λ u s t. grind (arith, ints);
    boundary = λ u s t. grind (arith, ints);
    exterior = λ u s t. grind (arith, ints);
  };
  exterior = record {
    interior = (line a.lo +ℤ pos 1, inr (omega (arith, ints)), inl (omega (arith, ints), omega (arith, ints)), gap_right a.lo);
    boundary = ((line b.lo, inl (omega (arith, ints)), (omega (arith, ints), inl (omega (arith, ints)))), λ u s t. end_is_line b u t);
    exterior = (line b.hi +ℤ pos 1, inr (omega (arith, ints)), inr (omega (arith, ints)), gap_right b.hi);
  };
}

points_disjoint_left : (a b : Span) → a.lo ≡ a.hi → a.hi <ℤ b.lo → b.lo ≡ b.hi → IsTable a b PointsDisjoint
points_disjoint_left a b p q r = record {
  interior = record {
    interior = λ u s t. grind (arith, ints);
    boundary = λ u s t. grind (arith, ints);
    exterior = ((line a.lo, inr (omega (arith, ints), omega (arith, ints)), inl (omega (arith, ints))), λ u s t. point_is_line a u (omega (arith, ints)) s);
  };
  boundary = record {
    interior = λ u s t. grind (arith, ints);
    boundary = λ u s t. grind (arith, ints);
    exterior = λ u s t. grind (arith, ints);
  };
  exterior = record {
    interior = ((line b.lo, inr (omega (arith, ints)), inr (omega (arith, ints), omega (arith, ints))), λ u s t. point_is_line b u (omega (arith, ints)) t);
    boundary = λ u s t. grind (arith, ints);
    exterior = (line a.lo +ℤ pos 1, inr (omega (arith, ints)), inl (omega (arith, ints)), gap_right a.lo);
  };
}

points_equal : (a b : Span) → a.lo ≡ a.hi → a.hi ≡ b.lo → b.lo ≡ b.hi → IsTable a b PointsEqual
points_equal a b p q r = record {
  interior = record {
    interior = (
      (line a.lo, inr (omega (arith, ints), omega (arith, ints)), inr (omega (arith, ints), omega (arith, ints))),
      λ u s t. point_is_line a u (omega (arith, ints)) s,
    );
    boundary = λ u s t. grind (arith, ints);
    exterior = λ u s t. grind (arith, ints);
  };
  boundary = record {
    interior = λ u s t. grind (arith, ints);
    boundary = λ u s t. grind (arith, ints);
    exterior = λ u s t. grind (arith, ints);
  };
  exterior = record {
    interior = λ u s t. grind (arith, ints);
    boundary = λ u s t. grind (arith, ints);
    exterior = (line a.lo +ℤ pos 1, inr (omega (arith, ints)), inr (omega (arith, ints)), gap_right a.lo);
  };
}

-- ---- the same from the other interval

disjoint_right : (a b : Span) → b.lo <ℤ b.hi → b.hi <ℤ a.lo → a.lo <ℤ a.hi → IsTable a b Disjoint
disjoint_right a b p q r = let t = turned a b Disjoint (disjoint_left b a p q r) in record { interior = t.interior; boundary = t.boundary; exterior = t.exterior }

meet_right : (a b : Span) → b.lo <ℤ a.lo → a.lo ≡ b.hi → b.hi <ℤ a.hi → IsTable a b Meet
meet_right a b p q r = let t = turned a b Meet (meet_left b a (omega (arith, ints)) (sym q) (omega (arith, ints))) in record { interior = t.interior; boundary = t.boundary; exterior = t.exterior }

overlap_right : (a b : Span) → b.lo <ℤ a.lo → a.lo <ℤ b.hi → b.hi <ℤ a.hi → IsTable a b Overlap
overlap_right a b p q r = let t = turned a b Overlap (overlap_left b a p q r) in record { interior = t.interior; boundary = t.boundary; exterior = t.exterior }

contains : (a b : Span) → a.lo <ℤ b.lo → b.lo <ℤ b.hi → b.hi <ℤ a.hi → IsTable a b Contains
contains a b p q r = let t = turned a b Inside (inside b a p q r) in record { interior = t.interior; boundary = t.boundary; exterior = t.exterior }

covers_left : (a b : Span) → a.lo ≡ b.lo → b.lo <ℤ b.hi → b.hi <ℤ a.hi → IsTable a b Covers
covers_left a b p q r = let t = turned a b CoveredBy (covered_by_left b a (sym p) (omega (arith, ints)) r) in record { interior = t.interior; boundary = t.boundary; exterior = t.exterior }

covers_right : (a b : Span) → a.lo <ℤ b.lo → b.lo <ℤ a.hi → a.hi ≡ b.hi → IsTable a b Covers
covers_right a b p q r = let t = turned a b CoveredBy (covered_by_right b a p (omega (arith, ints)) (sym r)) in record { interior = t.interior; boundary = t.boundary; exterior = t.exterior }

disjoint_point_left : (a b : Span) → b.lo ≡ b.hi → b.hi <ℤ a.lo → a.lo <ℤ a.hi → IsTable a b DisjointPoint
disjoint_point_left a b p q r = let t = turned a b PointDisjoint (point_disjoint_left b a p q r) in record { interior = t.interior; boundary = t.boundary; exterior = t.exterior }

disjoint_point_right : (a b : Span) → a.lo <ℤ a.hi → a.hi <ℤ b.lo → b.lo ≡ b.hi → IsTable a b DisjointPoint
disjoint_point_right a b p q r = let t = turned a b PointDisjoint (point_disjoint_right b a p q r) in record { interior = t.interior; boundary = t.boundary; exterior = t.exterior }

end_at_point_left : (a b : Span) → a.lo ≡ b.lo → b.lo ≡ b.hi → b.hi <ℤ a.hi → IsTable a b EndAtPoint
end_at_point_left a b p q r = let t = turned a b PointAtEnd (point_at_end_left b a q (sym (p ∙ q)) (omega (arith, ints))) in record { interior = t.interior; boundary = t.boundary; exterior = t.exterior }

end_at_point_right : (a b : Span) → a.lo <ℤ a.hi → a.hi ≡ b.lo → b.lo ≡ b.hi → IsTable a b EndAtPoint
end_at_point_right a b p q r = let t = turned a b PointAtEnd (point_at_end_right b a (omega (arith, ints)) r (sym (q ∙ r))) in record { interior = t.interior; boundary = t.boundary; exterior = t.exterior }

contains_point : (a b : Span) → a.lo <ℤ b.lo → b.lo ≡ b.hi → b.hi <ℤ a.hi → IsTable a b ContainsPoint
contains_point a b p q r = let t = turned a b PointInside (point_inside b a p q r) in record { interior = t.interior; boundary = t.boundary; exterior = t.exterior }

points_disjoint_right : (a b : Span) → b.lo ≡ b.hi → b.hi <ℤ a.lo → a.lo ≡ a.hi → IsTable a b PointsDisjoint
points_disjoint_right a b p q r = let t = turned a b PointsDisjoint (points_disjoint_left b a p q r) in record { interior = t.interior; boundary = t.boundary; exterior = t.exterior }

pub table_holds : (m : Meeting) (a b : Span) → IsMeeting m a b → IsTable a b m
table_holds Disjoint a b m = elim m [ inl (p, q, r) ↦ disjoint_left a b p q r | inr (p, q, r) ↦ disjoint_right a b p q r ]
table_holds Meet a b m = elim m [ inl (p, q, r) ↦ meet_left a b p q r | inr (p, q, r) ↦ meet_right a b p q r ]
table_holds Overlap a b m = elim m [ inl (p, q, r) ↦ overlap_left a b p q r | inr (p, q, r) ↦ overlap_right a b p q r ]
table_holds Inside a b (p, q, r) = inside a b p q r
table_holds CoveredBy a b m = elim m [ inl (p, q, r) ↦ covered_by_left a b p q r | inr (p, q, r) ↦ covered_by_right a b p q r ]
table_holds Contains a b (p, q, r) = contains a b p q r
table_holds Covers a b m = elim m [ inl (p, q, r) ↦ covers_left a b p q r | inr (p, q, r) ↦ covers_right a b p q r ]
table_holds Equal a b (p, q, r) = equal a b p q r
table_holds PointDisjoint a b m = elim m [ inl (p, q, r) ↦ point_disjoint_left a b p q r | inr (p, q, r) ↦ point_disjoint_right a b p q r ]
table_holds PointAtEnd a b m = elim m [ inl (p, q, r) ↦ point_at_end_left a b p q r | inr (p, q, r) ↦ point_at_end_right a b p q r ]
table_holds PointInside a b (p, q, r) = point_inside a b p q r
table_holds DisjointPoint a b m = elim m [ inl (p, q, r) ↦ disjoint_point_left a b p q r | inr (p, q, r) ↦ disjoint_point_right a b p q r ]
table_holds EndAtPoint a b m = elim m [ inl (p, q, r) ↦ end_at_point_left a b p q r | inr (p, q, r) ↦ end_at_point_right a b p q r ]
table_holds ContainsPoint a b (p, q, r) = contains_point a b p q r
table_holds PointsDisjoint a b m = elim m [ inl (p, q, r) ↦ points_disjoint_left a b p q r | inr (p, q, r) ↦ points_disjoint_right a b p q r ]
table_holds PointsEqual a b (p, q, r) = points_equal a b p q r
