-- Beyond the limit of coordinates all is exterior.
use Rattle.std.proofs.Common.{◌≡◌, ◌+◌, arith, subst, ◌∙◌, false}
use Rattle.std.specs.Prelude.{ℤ, pos, ◌*ℤ◌, ◌<ℤ◌, int_lt, int_le, ◌&&◌, ◌||◌}
use Rattle.std.proofs.lemmas.Int.{ints}
use Rattle.geom_core.specs.Limits.{greatest_coordinate, IsCoordinate}
use Rattle.plane_core.specs.declared.vertex.Vertex.{Vertex}
use Rattle.plane_core.specs.declared.edge.Edge.{Edge}
use Rattle.plane_core.specs.declared.part.Part.{Part}
use Rattle.plane_core.specs.declared.part.Part.TheVariants.{Exterior}
use Rattle.plane_core.specs.Points.{Point, side, is_on, is_below, is_at}
use Rattle.plane_core.specs.Figures.{Figure, part_of, IsGeometry}
use Rattle.plane_core.specs.PlaneMatrices.{IsInBoth, ShareTriangle}
use Rattle.plane_core.proofs.OffLemmas.{more_off, high_test, columns_off, not_at_column}
use Rattle.noding_core.specs.Marks.{all_edges, all_points}
use Rattle.noding_core.proofs.OffPartLemmas.{IsOffAll, off_part-is, off_part-none}
use Rattle.noding_core.proofs.OpenLemmas.{open_triangle, off_first, off_second}

abbrev beyond : Point
beyond = record { x = pos (greatest_coordinate + 1); y = pos 0; w = 1 }

left_of_it : (v : Vertex) → (pos 1 *ℤ v.x) <ℤ pos (greatest_coordinate + 1)
left_of_it v = plain v.x v.x_in_range
  where
    plain : (x : ℤ) → IsCoordinate x → (pos 1 *ℤ x) <ℤ pos (greatest_coordinate + 1)
    plain x h = let most = h.1 in omega (arith, ints)

none_below : (a b z s : ℤ) → a <ℤ z → b <ℤ z → ((int_le a z && int_lt z b) && int_lt (pos 0) s || (int_le b z && int_lt z a) && int_lt s (pos 0)) ≡ false
none_below a b z s h k = grind (arith, ints)

beyond_off : (e : Edge) → is_on e beyond ≡ false
beyond_off e = columns_off e beyond (high_test (pos 1 *ℤ e.a.x) (pos 1 *ℤ e.b.x) (pos (greatest_coordinate + 1)) (left_of_it e.a) (left_of_it e.b))

beyond_not_above : (e : Edge) → is_below e beyond ≡ false
beyond_not_above e = none_below (pos 1 *ℤ e.a.x) (pos 1 *ℤ e.b.x) (pos (greatest_coordinate + 1)) (side e beyond) (left_of_it e.a) (left_of_it e.b)

beyond_not_at : (v : Vertex) → is_at v beyond ≡ false
beyond_not_at v = not_at_column v beyond (more_off (pos (greatest_coordinate + 1)) (pos 1 *ℤ v.x) (left_of_it v))

pub outside_triangle : (g h : Figure) → IsGeometry g → IsGeometry h → ShareTriangle (IsInBoth g h Exterior Exterior)
outside_triangle g h good_g good_h =
    subst (λ (i : Part). ShareTriangle (IsInBoth g h i Exterior)) first
    (subst (λ (j : Part). ShareTriangle (IsInBoth g h (part_of g beyond) j)) second
    (open_triangle g h beyond good_g good_h (omega arith) off))
  where
    off : IsOffAll (all_edges g h) (all_points g h) beyond
    off = record { edges = λ e k. beyond_off e; points = λ v k. beyond_not_at v }

    first : part_of g beyond ≡ Exterior
    first = off_part-is g beyond good_g (off_first g h beyond off) ∙ off_part-none g (λ e. is_below e beyond) (λ e k. beyond_not_above e)

    second : part_of h beyond ≡ Exterior
    second = off_part-is h beyond good_h (off_second g h beyond off) ∙ off_part-none h (λ e. is_below e beyond) (λ e k. beyond_not_above e)
