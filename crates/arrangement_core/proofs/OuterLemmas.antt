-- Where a matrix has all that edges in the exterior of the other geometry can show, those beyond its box add nothing.
use Rattle.std.proofs.Common.{◌≡◌, ◌≤◌, arith, inr, refl, sym, subst, true, false, List, All}
use Rattle.std.specs.Prelude.{ℕ, Bool, if◌then◌else◌, count_by}
use Rattle.std.specs.List.{list_any, flat_map}
use Rattle.std.proofs.lemmas.List.Elements.{All-weaker}
use Rattle.geom_core.specs.declared.shape.Shape.{Shape}
use Rattle.relation_core.specs.declared.extent.Extent.{Extent}
use Rattle.relation_core.specs.declared.extent.Extent.TheVariants.{Line}
use Rattle.relation_core.specs.declared.matrix.Matrix.{Matrix}
use Rattle.plane_core.specs.declared.part.Part.{Part}
use Rattle.plane_core.specs.declared.part.Part.TheVariants.{Interior, Boundary, Exterior}
use Rattle.plane_core.specs.declared.vertex.Vertex.{Vertex}
use Rattle.plane_core.specs.declared.edge.Edge.{Edge}
use Rattle.plane_core.specs.declared.outline.Kind.{Kind}
use Rattle.plane_core.specs.declared.outline.Kind.TheVariants.{Points as Dots, Lines as Polylines, Areas as Rings}
use Rattle.plane_core.specs.declared.outline.Outline.{Outline}
use Rattle.plane_core.specs.Points.{Point, is_on, is_at, is_below, IsBefore}
use Rattle.plane_core.specs.Figures.{Figure, IsGeometry, HasLength, edges, edges_of, part_of, is_odd}
use Rattle.plane_core.specs.Figures.Figure.{Points, Lines, Areas}
use Rattle.plane_core.specs.Outlines.{outline_part, outline_above, part_by, kind_of}
use Rattle.plane_core.specs.PlaneMatrices.{pick, entry}
use Rattle.plane_core.proofs.OutlineLemmas.{outline_part-is}
use Rattle.edge_index_core.specs.Beyond.{is_beyond}
use Rattle.noding_core.specs.Nodes.{IsAmong, IsPlaceOf, IsPointOf, AreNodesOf, IsGapOf, middle}
use Rattle.noding_core.specs.Nodes.IsNode.{FirstEnd, LastEnd}
use Rattle.noding_core.specs.Marks.{rank}
use Rattle.noding_core.specs.Growth.{transposed}
use Rattle.noding_core.specs.ReadOffs.{outline_edges, IsOwn, IsEdgeMarked}
use Rattle.shown_core.specs.Beyond.{IsBounded, parts_along, IsOuterShown}
use Rattle.shown_core.specs.Shown.{AreShown}
use Rattle.noding_core.specs.Near.{IsFound}
use Rattle.shown_core.specs.Lying.{LiesIn}
use Rattle.noding_core.proofs.AmongLemmas.{among_left}
use Rattle.noding_core.proofs.NodeLemmas.{all_among, IsWide, gap_order, none_in_gap}
use Rattle.noding_core.proofs.PathLemmas.{IsOffEnds, ends_none}
use Rattle.noding_core.proofs.ArrangementLemmas.{before_middle, middle_before}
use Rattle.noding_core.proofs.TestLemmas.{by_test}
use Rattle.noding_core.proofs.TurnLemmas.{entry-transposed}
use Rattle.shown_core.proofs.ShownLemmas.{in_above, any_among, one_of_three}
use Rattle.shown_core.proofs.BeyondLemmas.{holds_all, lies_beyond}
use Rattle.noding_core.proofs.BoxApartLemmas.{boxes_off}
use Rattle.noding_core.proofs.TurnLemmas.{get_among}
use Rattle.noding_core.proofs.ExistLemmas.{HasNodeList, nodes_exist}
use Rattle.arrangement_core.proofs.KnownLemmas.{adds_none, gap_point}

weaker : (r : ℕ) → 2 ≤ r → 1 ≤ r
weaker r h = omega arith

-- an entry of a column
in_column : (m : Matrix) (own other : Outline) (p : Point) (k : ℕ) → outline_part other p ≡ Exterior → k ≤ rank (pick (outline_part own p) (pick Exterior (transposed m).rows))
    → k ≤ rank (entry m (outline_part own p) (outline_part other p))
in_column m own other p k out h =
    subst (λ (j : Part). k ≤ rank (entry m (outline_part own p) j)) (sym out)
    (subst (λ (x : Extent). k ≤ rank x) (entry-transposed m Exterior (outline_part own p)) h)

-- each point of an edge
end_or_not : (m : Matrix) (odd on : Bool) → on ≡ true → (odd ≡ true → 1 ≤ rank (pick Exterior (transposed m).rows).boundary) → 2 ≤ rank (pick Exterior (transposed m).rows).interior
    → 1 ≤ rank (pick (if odd then Boundary else (if on then Interior else Exterior)) (pick Exterior (transposed m).rows))
end_or_not m true on is boundary interior = boundary refl
end_or_not m false on is boundary interior = subst (λ (t : Bool). 1 ≤ rank (pick (if t then Interior else Exterior) (pick Exterior (transposed m).rows))) (sym is) (weaker _ interior)

node_by : (m : Matrix) (k : Kind) (ends : List Vertex) (es : List Edge) (p : Point) → list_any (λ e. is_on e p) es ≡ true → AreShown (pick Exterior (transposed m).rows) (parts_along k) Line
    → (k ≡ Polylines → is_odd (count_by (λ v. is_at v p) ends) ≡ true → 1 ≤ rank (pick Exterior (transposed m).rows).boundary)
    → 1 ≤ rank (pick (part_by k ends es p) (pick Exterior (transposed m).rows))
node_by m Dots ends es p on pieces end_ = weaker _ (pieces (part_by Dots ends es p) (one_of_three (part_by Dots ends es p)))
node_by m Polylines ends es p on pieces end_ = end_or_not m (is_odd (count_by (λ v. is_at v p) ends)) (list_any (λ e. is_on e p) es) on (end_ refl) (pieces Interior refl)
node_by m Rings ends es p on pieces end_ =
    subst (λ (t : Bool). 1 ≤ rank (pick (if t then Boundary else (if is_odd (count_by (λ e. is_below e p) es) then Interior else Exterior)) (pick Exterior (transposed m).rows))) (sym on)
    (weaker _ (pieces Boundary refl))

-- a point of a piece is no end of a polyline
off_ends : (es : List Edge) (vs : List Vertex) (e : Edge) (ns : List Point) (p q : Point) (f : Edge) → HasLength e → AreNodesOf es vs e ns → IsGapOf p q ns → IsAmong f es → IsOffEnds (middle p q) f
off_ends es vs e ns p q f long are gap one = record {
  first = by_test (is_at f.a (middle p q)) (λ here. absurd (no (are.nodes (middle p q) of_m.wide of_m.on (FirstEnd f one here)))) (λ off. off);
  last = by_test (is_at f.b (middle p q)) (λ here. absurd (no (are.nodes (middle p q) of_m.wide of_m.on (LastEnd f one here)))) (λ off. off);
}
  where
    of_m : IsPointOf e (middle p q)
    of_m = gap_point e ns p q long are.points gap

    before : IsBefore p q
    before = gap_order p q ns gap

    no : IsPlaceOf (middle p q) ns → ⊥
    no place = none_in_gap p q (middle p q) ns of_m.wide (All-weaker (IsPointOf e) IsWide (λ n h. h.wide) ns are.points) are.ascend
        (record { gap = gap; after = before_middle p q before; before = middle_before p q before }) place

piece_in : (g : Figure) (p : Point) → IsGeometry g → list_any (λ e. is_on e p) (edges_of g) ≡ true → ((f : Edge) → IsAmong f (edges_of g) → IsOffEnds p f)
    → pick (part_of g p) (parts_along (kind_of g)) ≡ true
piece_in (Points vs) p good on off = one_of_three (part_of (Points vs) p)
piece_in (Lines paths) p good on off =
    subst (λ (n : ℕ). pick (if is_odd n then Boundary else (if list_any (λ f. is_on f p) (flat_map edges paths) then Interior else Exterior)) (parts_along Polylines) ≡ true)
    (sym (ends_none paths p good.1 off))
    (subst (λ (t : Bool). pick (if t then Interior else Exterior) (parts_along Polylines) ≡ true) (sym on) refl)
piece_in (Areas rings) p good on off =
    subst (λ (t : Bool). pick (if t then Boundary else (if is_odd (count_by (λ f. is_below f p) (flat_map edges rings)) then Interior else Exterior)) (parts_along Rings) ≡ true) (sym on) refl

outline_piece : (o : Outline) (s : Shape) (p : Point) → IsBounded o s → list_any (λ e. is_on e p) o.edges.items ≡ true → ((f : Edge) → IsAmong f o.edges.items → IsOffEnds p f)
    → pick (outline_part o p) (parts_along o.kind) ≡ true
outline_piece o s p b on off =
    subst (λ (k : Kind). pick (outline_part o p) (parts_along k) ≡ true) (sym b.outline.kind)
    (subst (λ (j : Part). pick j (parts_along (kind_of b.figure)) ≡ true) (sym (outline_part-is b.figure o p b.outline))
    (piece_in b.figure p b.geometry (subst (λ (es : List Edge). list_any (λ e. is_on e p) es ≡ true) b.outline.edges on)
    (λ f one. off f (subst (IsAmong f) (sym b.outline.edges) one))))

pub outer_adds_none : (m : Matrix) (own other : Outline) (vs : List Vertex) (s t : Shape) (e : Edge) → All HasLength (outline_edges own other) → IsBounded own s → IsBounded other t → IsOuterShown m own t
    → IsOwn own e → is_beyond t e ≡ true → IsEdgeMarked own other (outline_edges own other) vs e m m
outer_adds_none m own other vs s t e all_long bounded other_bounded shown one beyond = adds_none m own other es vs e n.nodes n.are (record {
  nodes = λ p of_p. in_column m own other p 1 (lies.on p of_p.wide of_p.on) (node_by m own.kind own.ends.items own.edges.items p (on p of_p) shown.pieces (λ is odd. shown.ends is e p beyond of_p.wide of_p.on odd));
  pieces = λ p q gap.
      let of_m = gap_point e n.nodes p q long n.are.points gap in
      in_column m own other (middle p q) 2 (lies.on (middle p q) of_m.wide of_m.on)
      (shown.pieces (outline_part own (middle p q)) (outline_piece own s (middle p q) bounded (on (middle p q) of_m)
      (λ f k. off_ends es vs e n.nodes p q f long n.are gap (among_left f own.edges.items other.edges.items k))));
  faces = λ p q gap slanted.
      let of_m = gap_point e n.nodes p q long n.are.points gap in
      subst (λ (j : Part). 3 ≤ rank (entry m (outline_above own (middle p q)) j)) (sym (lies.above (middle p q) of_m.wide of_m.on))
      (subst (λ (x : Extent). 3 ≤ rank x) (entry-transposed m Exterior (outline_above own (middle p q)))
      (shown.faces (outline_above own (middle p q)) (in_above own.kind own.edges.items (middle p q))));
})
  where
    es : List Edge
    es = outline_edges own other

    long : HasLength e
    long = all_among HasLength e es all_long (among_left e own.edges.items other.edges.items one)

    lies : LiesIn other e Exterior
    lies = lies_beyond other t e other_bounded beyond

    n : HasNodeList es vs e
    n = nodes_exist es vs e long

    on : (p : Point) → IsPointOf e p → list_any (λ f. is_on f p) own.edges.items ≡ true
    on p of_p = any_among (λ f. is_on f p) own.edges.items e one of_p.on

-- no edge of the other geometry is near it
pub none_found : (o : Outline) (s : Shape) (e : Edge) (near : List Edge) → IsBounded o s → is_beyond s e ≡ true → All (IsFound e near) o.edges.items
none_found o s e near b beyond = λ i d lt.
    let one = subst (IsAmong _) b.outline.edges (get_among o.edges.items i d lt) in
    let holds = holds_all s b.figure b.box in
    inr (boxes_off s e _ (holds.firsts _ one) (holds.lasts _ one) beyond)
