-- An edge of one geometry that the other has too adds nothing to a matrix that has that one.
use Rattle.std.proofs.Common.{◌≡◌, ◌≤◌, ◌⊎◌, inl, inr, arith, refl, sym, subst, ap, ◌∙◌, true, false, List, [], ◌∷◌, ◌++◌, map}
use Rattle.std.specs.Prelude.{ℕ, ℤ, pos, ◌-ℤ◌, Bool, ◌&&◌, ◌||◌, not, if◌then◌else◌, IsTrue}
use Rattle.std.specs.List.{list_any}
use Rattle.std.specs.Ordering.{int_eq, is_lt}
use Rattle.std.proofs.lemmas.Int.{ints}
use Rattle.std.proofs.lemmas.List.Elements.{All-weaker}
use Rattle.std.proofs.Props.{props}
use mathlib.Core.HLevel.{is_prop→PathP}
use Rattle.geom_core.specs.declared.shape.Shape.{Shape}
use Rattle.geom_core.specs.Limits.{IsCoordinate}
use Rattle.relation_core.specs.declared.extent.Extent.TheVariants.{Point as Dot, Line}
use Rattle.relation_core.specs.declared.matrix.Matrix.{Matrix}
use Rattle.plane_core.specs.declared.edge.Edge.{Edge}
use Rattle.plane_core.specs.declared.vertex.Vertex.{Vertex}
use Rattle.plane_core.specs.declared.outline.Outline.{Outline}
use Rattle.plane_core.specs.Boxes.{do_boxes_meet}
use Rattle.plane_core.specs.Points.{Point, at, is_on}
use Rattle.plane_core.specs.Places.{place_order}
use Rattle.plane_core.specs.Figures.{edges_of}
use Rattle.plane_core.specs.PlaneMatrices.{entry}
use Rattle.edge_index_core.specs.Beyond.{is_beyond}
use Rattle.noding_core.specs.Nodes.{IsAmong, IsPointOf, AreNodesOf, middle}
use Rattle.noding_core.specs.Marks.{rank}
use Rattle.noding_core.specs.Growth.{Mark, mark_at, mark_above, piece_marks, gap_marks, gaps_marks, edge_marks, transposed}
use Rattle.noding_core.specs.ReadOffs.{outline_edges, IsOwn, IsEdgeMarked, AreMarked, AreSomeMarked}
use Rattle.noding_core.proofs.AmongLemmas.{among_flat}
use Rattle.noding_core.proofs.FlipLemmas.{flip, is_on-flip}
use Rattle.noding_core.proofs.GatherLemmas.{at_first, boxes_meet}
use Rattle.noding_core.proofs.NodeLemmas.{HasNodes, noded_of}
use Rattle.noding_core.proofs.BoxApartLemmas.{boxes_within_off}
use Rattle.noding_core.proofs.OffPartLemmas.{first_on, last_on}
use Rattle.noding_core.proofs.TestLemmas.{by_test, clash, first_holds, second_holds}
use Rattle.noding_core.proofs.TurnLemmas.{turned_back}
use Rattle.shown_core.specs.Beyond.{IsBounded, is_around}
use Rattle.shown_core.proofs.BeyondLemmas.{holds_all}
use Rattle.arrangement_core.specs.Seen.{AreNear}
use Rattle.arrangement_core.proofs.AskedLemmas.{transposed_twice}
use Rattle.arrangement_core.specs.Shared.{is_same_vertex, is_same, is_shared, HasEdge, HasShared}

-- ---- equal edges

equal : (m n : ℤ) → int_eq m n ≡ true → m ≡ n
equal m n h = grind (arith, ints)

same_vertex : (u v : Vertex) → is_same_vertex u v ≡ true → u ≡ v
same_vertex u v h =
    let p = equal u.x v.x (first_holds _ _ h) in
    let q = equal u.y v.y (second_holds (int_eq u.x v.x) _ h) in
    λ i. record {
      x = p i;
      y = q i;
      x_in_range = is_prop→PathP (λ j. IsCoordinate (p j)) (λ j. hlevel props) u.x_in_range v.x_in_range i;
      y_in_range = is_prop→PathP (λ j. IsCoordinate (q j)) (λ j. hlevel props) u.y_in_range v.y_in_range i;
    }

either : (t u : Bool) → (t || u) ≡ true → (t ≡ true) ⊎ (u ≡ true)
either true u h = inl refl
either false u h = inr h

pub ends_same : (e f : Edge) → (is_same_vertex e.a f.a && is_same_vertex e.b f.b) ≡ true → e ≡ f
ends_same e f h =
    let p = same_vertex e.a f.a (first_holds _ _ h) in
    let q = same_vertex e.b f.b (second_holds (is_same_vertex e.a f.a) _ h) in
    λ i. record { a = p i; b = q i }

same_either : (e f : Edge) → is_same e f ≡ true → (e ≡ f) ⊎ (flip e ≡ f)
same_either e f h = elim (either _ _ h) [
  | inl forth ↦ inl (ends_same e f forth)
  | inr back ↦ inr (ends_same (flip e) f (turned (is_same_vertex e.a f.b) (is_same_vertex e.b f.a) back))
]
  where
    turned : (t u : Bool) → (t && u) ≡ true → (u && t) ≡ true
    turned true true h = refl
    turned true false h = h
    turned false u h = cc

-- ---- the nodes and marks of an edge from its other end

no_run : (m n : ℤ) → int_eq (m -ℤ n) (pos 0) ≡ int_eq (n -ℤ m) (pos 0)
no_run m n = grind (arith, ints)

piece_flip : (a b : Outline) (e : Edge) (q : Point) → piece_marks a b (flip e) q ≡ piece_marks a b e q
piece_flip a b e q = ap (λ (t : Bool). mark_at a b Line q ∷ (if t then [] else mark_above a b q ∷ [])) (no_run e.a.x e.b.x)

gaps_flip : (a b : Outline) (e : Edge) (ns : List Point) → gaps_marks a b (flip e) ns ≡ gaps_marks a b e ns
gaps_flip a b e [] = refl
gaps_flip a b e (n ∷ []) = refl
gaps_flip a b e (m ∷ n ∷ ns) =
    ap (λ (xs : List Mark). (if is_lt (place_order m n) then xs else []) ++ gaps_marks a b (flip e) (n ∷ ns)) (piece_flip a b e (middle m n))
    ∙ ap (λ (xs : List Mark). gap_marks a b e m n ++ xs) (gaps_flip a b e (n ∷ ns))

nodes_flip : (es : List Edge) (vs : List Vertex) (e : Edge) (ns : List Point) → AreNodesOf es vs (flip e) ns → AreNodesOf es vs e ns
nodes_flip es vs e ns h = record {
  points = All-weaker (IsPointOf (flip e)) (IsPointOf e) (λ p k. record { wide = k.wide; on = sym (is_on-flip e p) ∙ k.on }) ns h.points;
  ascend = h.ascend;
  first_end = h.last_end;
  last_end = h.first_end;
  nodes = λ p wide on node. h.nodes p wide (is_on-flip e p ∙ on) node;
}

has_flip : (a b : Outline) (vs : List Vertex) (e : Edge) (m : Matrix) → HasEdge a b vs (flip e) m → HasEdge a b vs e m
has_flip a b vs e m h = record {
  nodes = h.nodes;
  are_nodes = nodes_flip (outline_edges a b) vs e h.nodes h.are_nodes;
  reached = λ k one. h.reached k (subst (IsAmong k) (ap (λ (xs : List Mark). map (mark_at a b Dot) h.nodes ++ xs) (sym (gaps_flip a b e h.nodes))) one);
}

has_same : (a b : Outline) (vs : List Vertex) (e f : Edge) (m : Matrix) → is_same e f ≡ true → HasEdge a b vs f m → HasEdge a b vs e m
has_same a b vs e f m same h = elim (same_either e f same) [
  | inl is ↦ subst (λ (x : Edge). HasEdge a b vs x m) (sym is) h
  | inr is ↦ has_flip a b vs e m (subst (λ (x : Edge). HasEdge a b vs x m) (sym is) h)
]

-- ---- a shared edge adds nothing

record IsOneSame (e : Edge) (near : List Edge) : Type 0 where
  edge : Edge
  one : IsAmong edge near
  same : is_same e edge ≡ true

one_same : (e : Edge) (near : List Edge) → is_shared e near ≡ true → IsOneSame e near
one_same e [] h = cc
one_same e (f ∷ near) h = by_test (is_same e f)
    (λ yes. record { edge = f; one = inl refl; same = yes })
    (λ no. let rest = one_same e near (subst (λ (t : Bool). (t || list_any (is_same e) near) ≡ true) no h) in
    record { edge = rest.edge; one = inr rest.one; same = rest.same })

pub shared_marked : (a b : Outline) (vs : List Vertex) (e : Edge) (near : List Edge) (m : Matrix) → HasShared a b vs m → IsOwn a e → AreNear b e near → is_shared e near ≡ true
    → IsEdgeMarked a b (outline_edges a b) vs e m m
shared_marked a b vs e near m has own are shared = record {
  nodes = h.nodes;
  are_nodes = h.are_nodes;
  grown = record {
    kept = λ i j. same (rank (entry m i j));
    reached = h.reached;
    sound = λ i j. inl refl;
  };
}
  where
    same : (r : ℕ) → r ≤ r
    same r = omega arith

    h : HasEdge a b vs e m
    h = let f = one_same e near shared in
        has_same a b vs e f.edge m f.same (has e f.edge own (are.own f.edge f.one) f.same)

-- what a matrix has is kept
shared_kept : (a b : Outline) (vs : List Vertex) (done : List Edge) (old new : Matrix) → AreMarked a b (outline_edges a b) vs done old new → HasShared a b vs old → HasShared a b vs new
shared_kept a b vs done old new h has e f own other same =
    let k = has e f own other same in
    record {
      nodes = k.nodes;
      are_nodes = k.are_nodes;
      reached = λ x one. up _ _ _ (k.reached x one) (h.grown.kept x.first x.second);
    }
  where
    up : (r s t : ℕ) → r ≤ s → s ≤ t → r ≤ t
    up r s t h k = omega arith

pub shared_still : (a b : Outline) (t : Bool) (vs : List Vertex) (done : List Edge) (old new : Matrix) → AreMarked a b (outline_edges a b) vs done old new
    → (IsTrue t → HasShared a b vs old) → IsTrue t → HasShared a b vs new
shared_still a b t vs done old new h has is = shared_kept a b vs done old new h (has is)

-- ---- once all edges of a geometry around the box of the other are marked

first_same : (e f : Edge) → is_same e f ≡ true → is_on f (at e.a) ≡ true
first_same e f same = elim (same_either e f same) [
  | inl is ↦ subst (λ (x : Edge). is_on x (at e.a) ≡ true) is (first_on e (at e.a) (at_first e.a))
  | inr is ↦ subst (λ (x : Edge). is_on x (at e.a) ≡ true) is (last_on (flip e) (at e.a) (at_first e.a))
]

same_around : (b : Outline) (s : Shape) (e f : Edge) → IsBounded b s → IsOwn b e → is_same e f ≡ true → is_around s f ≡ true
same_around b s e f bounded one same = by_test (is_beyond s f)
    (λ beyond. clash (do_boxes_meet e f) (boxes_meet e f (at e.a) (omega arith) (first_on e (at e.a) (at_first e.a)) (first_same e f same))
    (let holds = holds_all s bounded.figure bounded.box in boxes_within_off s e f (holds.firsts e own) (holds.lasts e own) beyond))
    (λ no. ap not no)
  where
    own : IsAmong e (edges_of bounded.figure)
    own = subst (IsAmong e) bounded.outline.edges one

pub shared_first : (a b : Outline) (vs : List Vertex) (s : Shape) (old m : Matrix) → IsBounded b s → AreSomeMarked a b (outline_edges a b) vs (is_around s) a.edges.items old m → HasShared b a vs (transposed m)
shared_first a b vs s old m bounded h e f own other same = record {
  nodes = n.nodes;
  are_nodes = n.are;
  reached = λ k one. turned.grown.reached k (among_flat (edge_marks b a) (record { edge = f; nodes = n.nodes }) k turned.noded n.one one);
}
  where
    turned : AreMarked b a (outline_edges b a) vs h.listed (transposed old) (transposed m)
    turned = turned_back b a vs h.listed (transposed old) m
        (subst (λ (x : Matrix). AreMarked a b (outline_edges a b) vs h.listed x m) (sym (transposed_twice old)) h.marked)

    n : HasNodes (outline_edges b a) vs turned.noded f
    n = noded_of (outline_edges b a) vs h.listed turned.noded f turned.are_noded (h.all f other (same_around b s e f bounded own same))
