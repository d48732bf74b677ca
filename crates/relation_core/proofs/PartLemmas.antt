-- The parts of a shape as products of zones, and so the matrix of two shapes from their meetings
-- along the axes.
use Rattle.std.proofs.Common.{arith, inl, inr}
use Rattle.std.specs.Prelude.{ℤ}
use Rattle.std.proofs.lemmas.Int.{ints, by_lt_z}
use Rattle.geom_core.specs.declared.span.Span.{Span}
use Rattle.geom_core.specs.declared.shape.Shape.{Shape}
use Rattle.relation_core.specs.declared.part.Parts.{Parts}
use Rattle.relation_core.specs.declared.meeting.Shared.{Shared}
use Rattle.relation_core.specs.declared.meeting.Meeting.{Meeting}
use Rattle.relation_core.specs.declared.axis.ZonePairs.{ZonePairs}
use Rattle.geom_core.specs.Cells.{line, IsWithin, IsInner}
use Rattle.relation_core.specs.Meetings.{IsMeeting, interior_of, boundary_of}
use Rattle.geom_core.specs.Cells.{IsInterior}
use Rattle.relation_core.specs.Matrices.{IsBoundary, IsExterior, IsRow, IsMatrix}
use Rattle.relation_core.specs.Axes.{larger_of, joined_row, pairs_of, axis_of, entries_of, matrix_by}
use Rattle.relation_core.proofs.Zones.{IsEnd, IsOutside, IsShared}
use Rattle.relation_core.proofs.MeetingLemmas.{IsAxisRow, table_holds}
use Rattle.relation_core.proofs.Products.{Either, shared_left, shared_right, IsPairs, IsMadeOf, entry_extent}

-- the wide zones
abbrev Within : Span → ℤ → Type 0
Within s = Either (IsInner s) (IsEnd s)

abbrev Whole : Span → ℤ → Type 0
Whole s = Either (Within s) (IsOutside s)

within_closed : (s : Span) (u : ℤ) → Within s u → IsWithin s u
within_closed s u h = (grind (arith, ints), grind (arith, ints))

not_inner_end : (s : Span) (u : ℤ) → IsInner s u → IsEnd s u → ⊥
not_inner_end s u h k = grind (arith, ints)

not_within_outside : (s : Span) (u : ℤ) → IsWithin s u → IsOutside s u → ⊥
not_within_outside s u h k = grind (arith, ints)

within_zones : (s : Span) (u : ℤ) → IsWithin s u → Within s u
within_zones s u h =
    by_lt_z s.lo s.hi
    (λ long. by_lt_z (line s.lo) u
    (λ above. by_lt_z u (line s.hi)
    (λ below. inl (inl (above, below)))
    (λ top. inr (long, inr (omega (arith, ints)))))
    (λ bottom. inr (long, inl (omega (arith, ints)))))
    (λ short. inl (inr (omega (arith, ints), omega (arith, ints))))

whole_zones : (s : Span) (u : ℤ) → Whole s u
whole_zones s u =
    by_lt_z u (line s.lo)
    (λ below. inr (inl below))
    (λ from. by_lt_z (line s.hi) u
    (λ above. inr (inr above))
    (λ to. inl (within_zones s u (from, to))))

interior_made : (s : Shape) → IsMadeOf (IsInterior s) (IsInner s.x) (IsInner s.x) (IsInner s.y) (IsInner s.y)
interior_made s = record {
  splits = λ u v h. inl h;
  first = λ u v n x. (n, x);
  second = λ u v n x. (n, x);
}

boundary_made : (s : Shape) → IsMadeOf (IsBoundary s) (IsEnd s.x) (Within s.x) (IsEnd s.y) (Within s.y)
boundary_made s = record {
  splits = λ u v h. elim (within_zones s.x u h.0.0) [
    | inl inner ↦ elim (within_zones s.y v h.0.1) [
      | inl inner' ↦ absurd (h.1 (inner, inner'))
      | inr at_end ↦ inr (inl inner, at_end)
    ]
    | inr at_end ↦ inl (at_end, within_zones s.y v h.0.1)
  ];
  first = λ u v n x. ((within_closed s.x u (inr n), within_closed s.y v x), λ i. not_inner_end s.x u i.0 n);
  second = λ u v w o. ((within_closed s.x u w, within_closed s.y v (inr o)), λ i. not_inner_end s.y v i.1 o);
}

exterior_made : (s : Shape) → IsMadeOf (IsExterior s) (IsOutside s.x) (Whole s.x) (IsOutside s.y) (Whole s.y)
exterior_made s = record {
  splits = λ u v h. elim (whole_zones s.x u) [
    | inr out ↦ inl (out, whole_zones s.y v)
    | inl within ↦ elim (whole_zones s.y v) [
      | inr out' ↦ inr (inl within, out')
      | inl within' ↦ absurd (h (within_closed s.x u within, within_closed s.y v within'))
    ]
  ];
  first = λ u v n x h. not_within_outside s.x u h.0 n;
  second = λ u v w o h. not_within_outside s.y v h.1 o;
}

-- the intersections of the zones N and W of an interval with the zones of each part of b
record IsPairsRow (N W : ℤ → Type 0) (b : Span) (r : Parts ZonePairs) : Type 0 where
  interior : IsPairs N W (IsInner b) (IsInner b) r.interior
  boundary : IsPairs N W (IsEnd b) (Within b) r.boundary
  exterior : IsPairs N W (IsOutside b) (Whole b) r.exterior

pairs_hold : (N W : ℤ → Type 0) (b : Span) (n w : Parts Shared) → IsAxisRow N b n → IsAxisRow W b w → IsPairsRow N W b (pairs_of n w)
pairs_hold N W b n w h k =
    let within : (Z : ℤ → Type 0) (z : Parts Shared) → IsAxisRow Z b z → IsShared Z (Within b) (larger_of z.interior z.boundary) =
    λ Z z r. shared_right Z (IsInner b) (IsEnd b) _ _ r.interior r.boundary in
    let whole : (Z : ℤ → Type 0) (z : Parts Shared) → IsAxisRow Z b z → IsShared Z (Whole b) (larger_of (larger_of z.interior z.boundary) z.exterior) =
    λ Z z r. shared_right Z (Within b) (IsOutside b) _ _ (within Z z r) r.exterior in
    record {
      interior = record { narrow_narrow = h.interior; narrow_wide = h.interior; wide_narrow = k.interior; wide_wide = k.interior };
      boundary = record { narrow_narrow = h.boundary; narrow_wide = within N n h; wide_narrow = k.boundary; wide_wide = within W w k };
      exterior = record { narrow_narrow = h.exterior; narrow_wide = whole N n h; wide_narrow = k.exterior; wide_wide = whole W w k };
    }

joined_holds : (S T : ℤ → Type 0) (b : Span) (r q : Parts Shared) → IsAxisRow S b r → IsAxisRow T b q → IsAxisRow (Either S T) b (joined_row r q)
joined_holds S T b r q h k = record {
  interior = shared_left S T (IsInner b) _ _ h.interior k.interior;
  boundary = shared_left S T (IsEnd b) _ _ h.boundary k.boundary;
  exterior = shared_left S T (IsOutside b) _ _ h.exterior k.exterior;
}

-- the intersections of the parts of two intervals
record IsAxis (a b : Span) (t : Parts (Parts ZonePairs)) : Type 0 where
  interior : IsPairsRow (IsInner a) (IsInner a) b t.interior
  boundary : IsPairsRow (IsEnd a) (Within a) b t.boundary
  exterior : IsPairsRow (IsOutside a) (Whole a) b t.exterior

axis_holds : (m : Meeting) (a b : Span) → IsMeeting m a b → IsAxis a b (axis_of m)
axis_holds m a b h =
    let t = table_holds m a b h in
    let within = joined_holds (IsInner a) (IsEnd a) b (interior_of m) (boundary_of m) t.interior t.boundary in
    record {
      interior = pairs_hold (IsInner a) (IsInner a) b _ _ t.interior t.interior;
      boundary = pairs_hold (IsEnd a) (Within a) b _ _ t.boundary within;
      exterior = pairs_hold (IsOutside a) (Whole a) b _ _ t.exterior (joined_holds (Within a) (IsOutside a) b _ _ within t.exterior);
    }

row_holds : (P : ℤ → ℤ → Type 0) (N W O X : ℤ → Type 0) (b : Shape) (x y : Parts ZonePairs) →
    IsMadeOf P N W O X → IsPairsRow N W b.x x → IsPairsRow O X b.y y → IsRow P b (entries_of x y)
row_holds P N W O X b x y f h k = record {
  interior = entry_extent P (IsInterior b) N W O X (IsInner b.x) (IsInner b.x) (IsInner b.y) (IsInner b.y) _ _ f (interior_made b) h.interior k.interior;
  boundary = entry_extent P (IsBoundary b) N W O X (IsEnd b.x) (Within b.x) (IsEnd b.y) (Within b.y) _ _ f (boundary_made b) h.boundary k.boundary;
  exterior = entry_extent P (IsExterior b) N W O X (IsOutside b.x) (Whole b.x) (IsOutside b.y) (Whole b.y) _ _ f (exterior_made b) h.exterior k.exterior;
}

-- the matrix of two shapes, from how they lie along each axis
pub matrix_holds : (a b : Shape) (m n : Meeting) → IsMeeting m a.x b.x → IsMeeting n a.y b.y → IsMatrix a b (matrix_by m n)
matrix_holds a b m n h k =
    let p = axis_holds m a.x b.x h in
    let q = axis_holds n a.y b.y k in
    record {
      interior = row_holds (IsInterior a) _ _ _ _ b _ _ (interior_made a) p.interior q.interior;
      boundary = row_holds (IsBoundary a) _ _ _ _ b _ _ (boundary_made a) p.boundary q.boundary;
      exterior = row_holds (IsExterior a) _ _ _ _ b _ _ (exterior_made a) p.exterior q.exterior;
    }
