-- The results of the private steps of `relate`: the intersections of the narrow and wide zones of
-- two intervals, and the products of two axes. The contract of `relate` says that this is the
-- matrix of the two sets of cells.
use Rattle.relation_core.specs.declared.part.Parts.{Parts}
use Rattle.relation_core.specs.declared.extent.Extent.{Extent}
use Rattle.relation_core.specs.declared.extent.Extent.TheVariants as extents
use Rattle.relation_core.specs.declared.matrix.Matrix.{Matrix}
use Rattle.relation_core.specs.declared.meeting.Shared.{Shared}
use Rattle.relation_core.specs.declared.meeting.Shared.TheVariants.{Nothing, Point, Interval}
use Rattle.relation_core.specs.declared.meeting.Meeting.{Meeting}
use Rattle.relation_core.specs.declared.axis.ZonePairs.{ZonePairs}
use Rattle.relation_core.specs.Meetings.{interior_of, boundary_of, exterior_of}

abbrev pub larger_of : Shared → Shared → Shared
larger_of Interval b = Interval
larger_of Point Interval = Interval
larger_of Point Point = Point
larger_of Point Nothing = Point
larger_of Nothing b = b

abbrev pub joined_row : Parts Shared → Parts Shared → Parts Shared
joined_row a b = record {
  interior = larger_of a.interior b.interior;
  boundary = larger_of a.boundary b.boundary;
  exterior = larger_of a.exterior b.exterior;
}

abbrev pub widened : Parts Shared → Parts Shared
widened r = record {
  interior = r.interior;
  boundary = larger_of r.interior r.boundary;
  exterior = larger_of (larger_of r.interior r.boundary) r.exterior;
}

-- the intersections of the narrow and the wide zone of the first with those of a part of the second
abbrev pub zone_pairs : Shared → Shared → Shared → Shared → ZonePairs
zone_pairs nn nw wn ww = record {
  narrow_narrow = nn;
  narrow_wide = nw;
  wide_narrow = wn;
  wide_wide = ww;
}

abbrev pub pairs_of : Parts Shared → Parts Shared → Parts ZonePairs
pairs_of n w = record {
  interior = zone_pairs n.interior (widened n).interior w.interior (widened w).interior;
  boundary = zone_pairs n.boundary (widened n).boundary w.boundary (widened w).boundary;
  exterior = zone_pairs n.exterior (widened n).exterior w.exterior (widened w).exterior;
}

-- the wide zones: inner part, inner part and ends, the whole axis
abbrev pub axis_of : Meeting → Parts (Parts ZonePairs)
axis_of m =
    let within = joined_row (interior_of m) (boundary_of m) in record {
      interior = pairs_of (interior_of m) (interior_of m);
      boundary = pairs_of (boundary_of m) within;
      exterior = pairs_of (exterior_of m) (joined_row within (exterior_of m));
    }

-- the intersection of two products of zones
abbrev pub product_of : Shared → Shared → Extent
product_of Nothing b = extents.Empty
product_of Point Nothing = extents.Empty
product_of Point Point = extents.Point
product_of Point Interval = extents.Line
product_of Interval Nothing = extents.Empty
product_of Interval Point = extents.Line
product_of Interval Interval = extents.Area

abbrev pub larger_extent : Extent → Extent → Extent
larger_extent extents.Area b = extents.Area
larger_extent extents.Line extents.Area = extents.Area
larger_extent extents.Line extents.Line = extents.Line
larger_extent extents.Line extents.Point = extents.Line
larger_extent extents.Line extents.Empty = extents.Line
larger_extent extents.Point extents.Area = extents.Area
larger_extent extents.Point extents.Line = extents.Line
larger_extent extents.Point extents.Point = extents.Point
larger_extent extents.Point extents.Empty = extents.Point
larger_extent extents.Empty b = b

-- a part is the narrow zone of one axis by the wide zone of the other, either way round
abbrev pub entry_of : ZonePairs → ZonePairs → Extent
entry_of x y = larger_extent
    (larger_extent
    (product_of x.narrow_narrow y.wide_wide)
    (product_of x.narrow_wide y.wide_narrow))
    (larger_extent
    (product_of x.wide_narrow y.narrow_wide)
    (product_of x.wide_wide y.narrow_narrow))

abbrev pub entries_of : Parts ZonePairs → Parts ZonePairs → Parts Extent
entries_of x y = record {
  interior = entry_of x.interior y.interior;
  boundary = entry_of x.boundary y.boundary;
  exterior = entry_of x.exterior y.exterior;
}

-- the matrix of two shapes with these meetings along the two axes
abbrev pub matrix_by : Meeting → Meeting → Matrix
matrix_by x y =
    let rows : Parts (Parts Extent) = record {
      interior = entries_of (axis_of x).interior (axis_of y).interior;
      boundary = entries_of (axis_of x).boundary (axis_of y).boundary;
      exterior = entries_of (axis_of x).exterior (axis_of y).exterior;
    } in record { rows = rows }
