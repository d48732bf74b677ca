-- Near features have boxes that meet.
use Rattle.std.proofs.Common.{arith}
use native.Mathlib.Decide.{dec_lt}
use Rattle.std.specs.Prelude.{ℕ, ◌<◌, ◌≤◌, ◌+◌, ◌/◌, ℤ, pos, ◌+ℤ◌, ◌≤ℤ◌}
use Rattle.std.proofs.lemmas.Int.{ints, clamps}
use Rattle.geom_core.specs.declared.span.Span.{Span}
use Rattle.geom_core.specs.declared.shape.Shape.{Shape}
use Rattle.geom_core.specs.Cells.{IsWithin}
use Rattle.geom_core.proofs.SpanLemmas.{common_line}
use Rattle.plane_core.specs.Points.{Point}
use Rattle.layer_core.specs.Layers.{Contents}
use Rattle.filter_core.specs.Joins.{StandIn}
use Rattle.distance_core.specs.Units.{units_of}
use Rattle.distance_core.specs.Distances.{AreWithin}
use Rattle.distance_core.specs.ShapePoints.{HasPoint}
use Rattle.distance_core.specs.declared.nearness.Nearness.{Nearness}
use Rattle.distance_core.specs.declared.nearness.Nearness.TheVariants.{Within, Apart}
use Rattle.distance_core.proofs.GapLemmas.{AreClose, within_is_close}
use Rattle.near_core.specs.declared.grown.Grown.{Grown}
use Rattle.near_core.specs.Growth.{grown, growth_of, lower, upper}
use Rattle.near_core.specs.Near.{BoxesMeet, AreNear, AreWanted}

-- of two intervals that are at most d apart, grown by m and n, each begins before the other ends
begins : (a b : Span) (m n d : ℕ) → d ≤ m + n → a.lo ≤ℤ (b.hi +ℤ pos d) → lower m a ≤ℤ upper n b
begins a b m n d h k = omega (arith, ints, clamps, h, k)

grown_meet : (a b : Span) (m n d : ℕ) → d ≤ m + n → AreClose d a b
    → (u : ℤ) × IsWithin (grown m a) u × IsWithin (grown n b) u
grown_meet a b m n d h close =
    common_line (grown m a) (grown n b) (begins a b m n d h close.first)
    (begins b a n m d (omega (arith, h)) close.second)

-- half of each of two distances, rounded up, together are at least the lesser
halves : (m n : ℕ) → m ≤ n → m ≤ (m + 1) / 2 + (n + 1) / 2
halves m n h = omega (arith, h)

other_halves : (m n : ℕ) → n ≤ m → n ≤ (m + 1) / 2 + (n + 1) / 2
other_halves m n h = omega (arith, h)

-- of geometries that have these boxes and these points, where the box of each has its points
module _ {G : Type 0} (box_of : G → Shape) (has_point : G → Point → Type 0)
    (in_box : (g : G) (p : Point) → 0 < p.w → has_point g p → HasPoint (box_of g) p) where
  -- geometries that are near have boxes that are near
  pub within_boxes : (g h : G) (d : ℕ) → AreWithin d (has_point g) (has_point h)
      → AreWithin d (HasPoint (box_of g)) (HasPoint (box_of h))
  within_boxes g h d w = record {
    first = w.first;
    second = w.second;
    first_wide = w.first_wide;
    second_wide = w.second_wide;
    first_in = in_box g w.first w.first_wide w.first_in;
    second_in = in_box h w.second w.second_wide w.second_in;
    near = w.near;
  }

  boxes_meet : (g h : Grown G) (d : ℕ) → d ≤ growth_of g.distance + growth_of h.distance
      → AreWithin d (has_point g.geometry) (has_point h.geometry) → BoxesMeet box_of g h
  boxes_meet g h d enough within =
      let a = box_of g.geometry in
      let b = box_of h.geometry in
      let close = within_is_close d a b (within_boxes g.geometry h.geometry d within) in
      let m = growth_of g.distance in
      let n = growth_of h.distance in
      let along_x = grown_meet a.x b.x m n d enough close.0 in
      let along_y = grown_meet a.y b.y m n d enough close.1 in
      (along_x.0, along_y.0, (along_x.1, along_y.1), (along_x.2, along_y.2))

  near_boxes : (g h : Grown G) → AreNear has_point g h → BoxesMeet box_of g h
  near_boxes g h near =
      let m = units_of g.distance in
      let n = units_of h.distance in
      elim (dec_lt n m) [
        | yes less ↦ boxes_meet g h n (other_halves m n (omega (arith, less))) near.by_second
        | no more ↦ boxes_meet g h m (halves m n (omega (arith, more))) near.by_first
      ]

  -- the pairs that are asked for are near
  wanted_near : (nearness : Nearness) (g h : Grown G) → AreWanted has_point nearness g h
      → AreNear has_point g h
  wanted_near Within g h near = near
  wanted_near Apart g h both = both.0

  pub standing_near : (nearness : Nearness) (left right : Contents (Grown G)) (i j : ℕ)
      → StandIn (AreWanted has_point nearness) left right (i, j)
      → StandIn (BoxesMeet box_of) left right (i, j)
  standing_near nearness left right i j both = record {
    first = both.first;
    second = both.second;
    first_held = both.first_held;
    second_held = both.second_held;
    holds = near_boxes both.first.shape both.second.shape
        (wanted_near nearness both.first.shape both.second.shape both.holds);
  }
