-- A point off all edges and single points lies within a triangle that is in the same parts, and so
-- does the space just above a point of an edge.
use Rattle.std.proofs.Common.{◌≡◌, ◌<◌, sym, subst, ◌∙◌, true, List}
use Rattle.std.specs.Prelude.{ℕ, pos}
use Rattle.plane_core.specs.declared.vertex.Vertex.{Vertex}
use Rattle.plane_core.specs.declared.edge.Edge.{Edge}
use Rattle.plane_core.specs.declared.part.Part.{Part}
use Rattle.plane_core.specs.Points.{Point, run, is_on, is_below, is_at_or_below}
use Rattle.plane_core.specs.Figures.{Figure, edges_of, points_of, part_of, part_above, IsGeometry}
use Rattle.plane_core.specs.PlaneMatrices.{IsInBoth, ShareTriangle}
use Rattle.plane_core.proofs.Signs.{positive_product}
use Rattle.plane_core.proofs.LargeLemmas.{large_both, one_large}
use Rattle.plane_core.proofs.OffLemmas.{IsNotAt}
use Rattle.plane_core.proofs.AroundLemmas.{near, Around, around_weaker, around_both, KeepsOff, edge_around, vertex_around, around_triangle}
use Rattle.plane_core.proofs.AboveLemmas.{Above, IsJustOver, edge_above, vertex_above}
use Rattle.noding_core.specs.Nodes.{IsAmong}
use Rattle.noding_core.specs.Marks.{all_edges, all_points}
use Rattle.noding_core.proofs.AmongLemmas.{among_left, among_right, large_all, around_all}
use Rattle.noding_core.proofs.OffPartLemmas.{IsOffAll, off_part-is, off_part-same, above_part-is}

-- off all of both is off all of each
pub off_first : (g h : Figure) (p : Point) → IsOffAll (all_edges g h) (all_points g h) p → IsOffAll (edges_of g) (points_of g) p
off_first g h p off = record {
  edges = λ e k. off.edges e (among_left e (edges_of g) (edges_of h) k);
  points = λ v k. off.points v (among_left v (points_of g) (points_of h) k);
}

pub off_second : (g h : Figure) (p : Point) → IsOffAll (all_edges g h) (all_points g h) p → IsOffAll (edges_of h) (points_of h) p
off_second g h p off = record {
  edges = λ e k. off.edges e (among_right e (edges_of g) (edges_of h) k);
  points = λ v k. off.points v (among_right v (points_of g) (points_of h) k);
}

-- both points off all, with the same edges below
part_kept : (g : Figure) (z q : Point) → IsGeometry g → IsOffAll (edges_of g) (points_of g) z → IsOffAll (edges_of g) (points_of g) q
    → ((e : Edge) → IsAmong e (edges_of g) → is_below e q ≡ is_below e z) → part_of g q ≡ part_of g z
part_kept g z q good off_z off_q same =
    off_part-is g q good off_q ∙ off_part-same g (λ e. is_below e q) (λ e. is_below e z) same ∙ sym (off_part-is g z good off_z)

abbrev KeepsAll : List Edge → List Vertex → Point → Point → Type 0
KeepsAll es vs z q = ((e : Edge) → IsAmong e es → KeepsOff e z q) × ((v : Vertex) → IsAmong v vs → IsNotAt v q)

around_kept : (es : List Edge) (vs : List Vertex) (z : Point) → 0 < z.w → IsOffAll es vs z → Around z (KeepsAll es vs z)
around_kept es vs z wide off =
    around_both z (λ q. (e : Edge) → IsAmong e es → KeepsOff e z q) (λ q. (v : Vertex) → IsAmong v vs → IsNotAt v q)
    (around_all z (λ e q. KeepsOff e z q) es (λ e k. edge_around e z wide (off.edges e k)))
    (around_all z IsNotAt vs (λ v k. vertex_around v z (off.points v k)))

pub open_triangle : (g h : Figure) (z : Point) → IsGeometry g → IsGeometry h → 0 < z.w → IsOffAll (all_edges g h) (all_points g h) z
    → ShareTriangle (IsInBoth g h (part_of g z) (part_of h z))
open_triangle g h z good_g good_h wide off =
    around_triangle z (IsInBoth g h (part_of g z) (part_of h z)) wide
    (around_weaker z (KeepsAll (all_edges g h) (all_points g h) z) (IsInBoth g h (part_of g z) (part_of h z))
    (λ q kept. let off_q = also_off q kept in record {
      first = part_kept g z q good_g (off_first g h z off) (off_first g h q off_q) (λ e k. (kept.0 e (among_left e (edges_of g) (edges_of h) k)).below);
      second = part_kept h z q good_h (off_second g h z off) (off_second g h q off_q) (λ e k. (kept.0 e (among_right e (edges_of g) (edges_of h) k)).below);
    })
    (around_kept (all_edges g h) (all_points g h) z wide off))
  where
    also_off : (q : Point) → KeepsAll (all_edges g h) (all_points g h) z q → IsOffAll (all_edges g h) (all_points g h) q
    also_off q kept = record { edges = λ e k. (kept.0 e k).on; points = kept.1 }

-- just above a point through which no vertical edge goes
abbrev IsOverAll : List Edge → List Vertex → Point → Point → Type 0
IsOverAll es vs z q = ((e : Edge) → IsAmong e es → IsJustOver e z q) × ((v : Vertex) → IsAmong v vs → IsNotAt v q)

above_all : (es : List Edge) (vs : List Vertex) (z : Point) → 0 < z.w → ((e : Edge) → IsAmong e es → is_on e z ≡ true → ¬ (run e ≡ pos 0)) → Above z (IsOverAll es vs z)
above_all es vs z wide upright =
    large_both (λ n. (e : Edge) → IsAmong e es → IsJustOver e z (near n z (pos 0) (pos 1))) (λ n. (v : Vertex) → IsAmong v vs → IsNotAt v (near n z (pos 0) (pos 1)))
    (large_all (λ e n. IsJustOver e z (near n z (pos 0) (pos 1))) es (λ e k. edge_above e z wide (upright e k)))
    (large_all (λ v n. IsNotAt v (near n z (pos 0) (pos 1))) vs (λ v k. vertex_above v z))

over_off : (es : List Edge) (vs : List Vertex) (z q : Point) → IsOverAll es vs z q → IsOffAll es vs q
over_off es vs z q over = record { edges = λ e k. (over.0 e k).on; points = over.1 }

-- the part at a point off all, with those edges below that are at or below the other
over_part : (g : Figure) (z q : Point) → IsGeometry g → IsOffAll (edges_of g) (points_of g) q
    → ((e : Edge) → IsAmong e (edges_of g) → is_below e q ≡ is_at_or_below e z) → part_of g q ≡ part_above g z
over_part g z q good off same =
    off_part-is g q good off ∙ off_part-same g (λ e. is_below e q) (λ e. is_at_or_below e z) same ∙ sym (above_part-is g z)

pub over_parts : (g h : Figure) (z q : Point) → IsGeometry g → IsGeometry h → IsOffAll (all_edges g h) (all_points g h) q
    → ((e : Edge) → IsAmong e (all_edges g h) → is_below e q ≡ is_at_or_below e z) → IsInBoth g h (part_above g z) (part_above h z) q
over_parts g h z q good_g good_h off same = record {
  first = over_part g z q good_g (off_first g h q off) (λ e k. same e (among_left e (edges_of g) (edges_of h) k));
  second = over_part h z q good_h (off_second g h q off) (λ e k. same e (among_right e (edges_of g) (edges_of h) k));
}

pub face_triangle : (g h : Figure) (z : Point) → IsGeometry g → IsGeometry h → 0 < z.w → ((e : Edge) → IsAmong e (all_edges g h) → is_on e z ≡ true → ¬ (run e ≡ pos 0))
    → ShareTriangle (IsInBoth g h (part_above g z) (part_above h z))
face_triangle g h z good_g good_h wide upright =
    from_one (one_large (λ n. IsOverAll (all_edges g h) (all_points g h) z (near n z (pos 0) (pos 1))) (above_all (all_edges g h) (all_points g h) z wide upright))
  where
    from_one : (n : ℕ) × (0 < n) × IsOverAll (all_edges g h) (all_points g h) z (near n z (pos 0) (pos 1)) → ShareTriangle (IsInBoth g h (part_above g z) (part_above h z))
    from_one (n, some, over) =
        let q = near n z (pos 0) (pos 1) in
        let off = over_off (all_edges g h) (all_points g h) z q over in
        let parts = over_parts g h z q good_g good_h off (λ e k. (over.0 e k).below) in
        subst (λ (i : Part). ShareTriangle (IsInBoth g h i (part_above h z))) parts.first
        (subst (λ (j : Part). ShareTriangle (IsInBoth g h (part_of g q) j)) parts.second
        (open_triangle g h q good_g good_h (positive_product n z.w some wide) off))
