-- Matrices and marks for the geometries in reverse order.
use Rattle.std.proofs.Common.{◌≡◌, ◌≤◌, ◌<◌, inl, inr, arith, refl, sym, subst, ap, ◌∙◌, true, false, suc, zero, List, [], ◌∷◌, ◌++◌, map, get_or, length}
use Rattle.std.specs.Prelude.{ℕ, Bool, All, if◌then◌else◌, pos}
use Rattle.std.specs.List.{flat_map}
use Rattle.std.specs.Ordering.{int_eq, is_lt}
use Rattle.std.proofs.lemmas.List.{map-append}
use Rattle.std.proofs.lemmas.List.Concat.{flat_map-append}
use Rattle.relation_core.specs.declared.extent.Extent.{Extent}
use Rattle.relation_core.specs.declared.extent.Extent.TheVariants.{Point as Dot, Line}
use Rattle.relation_core.specs.declared.matrix.Matrix.{Matrix}
use Rattle.plane_core.specs.declared.part.Part.{Part}
use Rattle.plane_core.specs.declared.part.Part.TheVariants.{Interior, Boundary, Exterior}
use Rattle.plane_core.specs.declared.edge.Edge.{Edge}
use Rattle.plane_core.specs.declared.vertex.Vertex.{Vertex}
use Rattle.plane_core.specs.declared.outline.Outline.{Outline}
use Rattle.plane_core.specs.Points.{Point, at, run}
use Rattle.plane_core.specs.Places.{place_order}
use Rattle.plane_core.specs.PlaneMatrices.{entry}
use Rattle.plane_core.specs.Figures.{HasLength}
use Rattle.noding_core.specs.Nodes.{IsAmong, IsNode, NodedEdge, AreNodesOf, AreNoded, middle}
use Rattle.noding_core.specs.Nodes.IsNode.{FirstEnd, LastEnd, Meeting, Single}
use Rattle.noding_core.specs.Marks.{rank}
use Rattle.noding_core.specs.Growth.{Mark, HasGrownBy, mark_at, mark_above, piece_marks, gap_marks, gaps_marks, edge_marks, point_marks, transposed}
use Rattle.noding_core.specs.ReadOffs.{outline_edges, IsOwn, AreMarked}
use Rattle.noding_core.proofs.NodeLemmas.{all_among}
use Rattle.noding_core.proofs.AmongLemmas.{among_left, among_right, among_either}
use Rattle.noding_core.proofs.GrowthLemmas.{grown_as, grown-trans}
use Rattle.noding_core.proofs.ReadOffLemmas.{among_map, map_among}

pub entry-transposed : (m : Matrix) (i j : Part) → entry (transposed m) i j ≡ entry m j i
entry-transposed m Interior Interior = refl
entry-transposed m Interior Boundary = refl
entry-transposed m Interior Exterior = refl
entry-transposed m Boundary Interior = refl
entry-transposed m Boundary Boundary = refl
entry-transposed m Boundary Exterior = refl
entry-transposed m Exterior Interior = refl
entry-transposed m Exterior Boundary = refl
entry-transposed m Exterior Exterior = refl

abbrev turn : Mark → Mark
turn k = record { first = k.second; second = k.first; extent = k.extent }

grown_turned : (xs : List Mark) (old new : Matrix) → HasGrownBy xs (transposed old) new → HasGrownBy (map turn xs) old (transposed new)
grown_turned xs old new h = record {
  kept = λ i j.
      subst (λ (x : Extent). rank (entry old i j) ≤ rank x) (sym (entry-transposed new i j))
      (subst (λ (x : Extent). rank x ≤ rank (entry new j i)) (entry-transposed old j i) (h.kept j i));
  reached = λ n one.
      let k = among_map turn xs n one in
      subst (λ (n : Mark). rank n.extent ≤ rank (entry (transposed new) n.first n.second)) (sym k.2)
      (subst (λ (x : Extent). rank k.0.extent ≤ rank x) (sym (entry-transposed new k.0.second k.0.first)) (h.reached k.0 k.1));
  sound = λ i j. elim (h.sound j i) [
    | inl e ↦ inl (entry-transposed new i j ∙ e ∙ entry-transposed old j i)
    | inr one ↦ inr (subst (λ (x : Extent). IsAmong (record { first = i; second = j; extent = x }) (map turn xs)) (sym (entry-transposed new i j))
        (map_among turn xs (record { first = j; second = i; extent = entry new j i }) one))
  ];
}

-- the marks of an edge
map_if : (t : Bool) (xs ys : List Mark) → map turn (if t then xs else ys) ≡ (if t then map turn xs else map turn ys)
map_if true xs ys = refl
map_if false xs ys = refl

turn_nodes : (a b : Outline) (ns : List Point) → map turn (map (mark_at b a Dot) ns) ≡ map (mark_at a b Dot) ns
turn_nodes a b [] = refl
turn_nodes a b (n ∷ ns) = ap (λ (xs : List Mark). mark_at a b Dot n ∷ xs) (turn_nodes a b ns)

turn_piece : (a b : Outline) (e : Edge) (p : Point) → map turn (piece_marks b a e p) ≡ piece_marks a b e p
turn_piece a b e p = ap (λ (xs : List Mark). mark_at a b Line p ∷ xs) (map_if (int_eq (run e) (pos 0)) [] (mark_above b a p ∷ []))

turn_gap : (a b : Outline) (e : Edge) (k l : Point) → map turn (gap_marks b a e k l) ≡ gap_marks a b e k l
turn_gap a b e k l =
    map_if (is_lt (place_order k l)) (piece_marks b a e (middle k l)) []
    ∙ ap (λ (xs : List Mark). if is_lt (place_order k l) then xs else []) (turn_piece a b e (middle k l))

turn_gaps : (a b : Outline) (e : Edge) (ns : List Point) → map turn (gaps_marks b a e ns) ≡ gaps_marks a b e ns
turn_gaps a b e [] = refl
turn_gaps a b e (n ∷ []) = refl
turn_gaps a b e (m ∷ n ∷ ns) =
    map-append turn (gap_marks b a e m n) (gaps_marks b a e (n ∷ ns))
    ∙ ap (λ (xs : List Mark). xs ++ map turn (gaps_marks b a e (n ∷ ns))) (turn_gap a b e m n)
    ∙ ap (λ (xs : List Mark). gap_marks a b e m n ++ xs) (turn_gaps a b e (n ∷ ns))

turn_edge : (a b : Outline) (n : NodedEdge) → map turn (edge_marks b a n) ≡ edge_marks a b n
turn_edge a b n =
    map-append turn (map (mark_at b a Dot) n.nodes) (gaps_marks b a n.edge n.nodes)
    ∙ ap (λ (xs : List Mark). xs ++ map turn (gaps_marks b a n.edge n.nodes)) (turn_nodes a b n.nodes)
    ∙ ap (λ (xs : List Mark). map (mark_at a b Dot) n.nodes ++ xs) (turn_gaps a b n.edge n.nodes)

turn_edges : (a b : Outline) (ns : List NodedEdge) → map turn (flat_map (edge_marks b a) ns) ≡ flat_map (edge_marks a b) ns
turn_edges a b [] = refl
turn_edges a b (n ∷ ns) =
    map-append turn (edge_marks b a n) (flat_map (edge_marks b a) ns)
    ∙ ap (λ (xs : List Mark). xs ++ map turn (flat_map (edge_marks b a) ns)) (turn_edge a b n)
    ∙ ap (λ (xs : List Mark). edge_marks a b n ++ xs) (turn_edges a b ns)

-- the edges of the one geometry, and then those of the other
noded_both : (es : List Edge) (vs : List Vertex) (xs ys : List Edge) (ms ns : List NodedEdge) → AreNoded es vs xs ms → AreNoded es vs ys ns → AreNoded es vs (xs ++ ys) (ms ++ ns)
noded_both es vs [] ys [] ns h k = k
noded_both es vs [] ys (m ∷ ms) ns h k = absurd h
noded_both es vs (x ∷ xs) ys [] ns h k = absurd h
noded_both es vs (x ∷ xs) ys (m ∷ ms) ns h k = (h.0, h.1, noded_both es vs xs ys ms ns h.2 k)

turn_points : (a b : Outline) (vs : List Vertex) → map turn (map (λ (v : Vertex). mark_at b a Dot (at v)) vs) ≡ map (λ (v : Vertex). mark_at a b Dot (at v)) vs
turn_points a b [] = refl
turn_points a b (v ∷ vs) = ap (λ (xs : List Mark). mark_at a b Dot (at v) ∷ xs) (turn_points a b vs)

-- the single points of the one geometry, and then those of the other
pub both_points : (a b : Outline) (vs ws : List Vertex) (old first second : Matrix) → HasGrownBy (point_marks a b vs) old first → HasGrownBy (point_marks b a ws) (transposed first) second
    → HasGrownBy (point_marks a b (vs ++ ws)) old (transposed second)
both_points a b vs ws old first second h k =
    grown_as (point_marks a b vs ++ point_marks a b ws) (point_marks a b (vs ++ ws)) old (transposed second) (sym (map-append (λ (v : Vertex). mark_at a b Dot (at v)) vs ws))
    (grown-trans (point_marks a b vs) (point_marks a b ws) old first (transposed second) h
    (grown_as _ (point_marks a b ws) first (transposed second) (turn_points a b ws) (grown_turned (point_marks b a ws) first second k)))

-- nodes among edges are nodes among the same edges in another order
node_among : (es fs : List Edge) (vs : List Vertex) (p : Point) → ((e : Edge) → IsAmong e fs → IsAmong e es) → IsNode fs vs p → IsNode es vs p
node_among es fs vs p f (FirstEnd e one here) = FirstEnd e (f e one) here
node_among es fs vs p f (LastEnd e one here) = LastEnd e (f e one) here
node_among es fs vs p f (Meeting e g one other on also turning) = Meeting e g (f e one) (f g other) on also turning
node_among es fs vs p f (Single v one here) = Single v one here

nodes_among : (es fs : List Edge) (vs : List Vertex) (e : Edge) (ns : List Point) → ((d : Edge) → IsAmong d fs → IsAmong d es) → AreNodesOf es vs e ns → AreNodesOf fs vs e ns
nodes_among es fs vs e ns f h = record {
  points = h.points;
  ascend = h.ascend;
  first_end = h.first_end;
  last_end = h.last_end;
  nodes = λ p wide on node. h.nodes p wide on (node_among es fs vs p f node);
}

noded_among : (es fs : List Edge) (vs : List Vertex) (done : List Edge) (ns : List NodedEdge) → ((d : Edge) → IsAmong d fs → IsAmong d es) → AreNoded es vs done ns → AreNoded fs vs done ns
noded_among es fs vs [] [] f h = tt
noded_among es fs vs [] (n ∷ ns) f h = absurd h
noded_among es fs vs (d ∷ done) [] f h = absurd h
noded_among es fs vs (d ∷ done) (n ∷ ns) f h = (h.0, nodes_among es fs vs d n.nodes f h.1, noded_among es fs vs done ns f h.2)

pub edges_turned : (a b : Outline) (e : Edge) → IsAmong e (outline_edges a b) → IsAmong e (outline_edges b a)
edges_turned a b e one = elim (among_either e a.edges.items b.edges.items one) [
  | inl k ↦ among_right e b.edges.items a.edges.items k
  | inr k ↦ among_left e b.edges.items a.edges.items k
]

pub get_among : {A : Type 0} (xs : List A) (i : ℕ) (d : A) → i < length xs → IsAmong (get_or xs i d) xs
get_among [] i d lt = absurd (none i lt)
  where
    none : (i : ℕ) → i < 0 → ⊥
    none i lt = omega arith
get_among (x ∷ xs) zero d lt = inl refl
get_among (x ∷ xs) (suc i) d lt = inr (get_among xs i d (omega (arith, lt)))

pub long_turned : (a b c d : Outline) → c ≡ b → d ≡ a → All HasLength (outline_edges a b) → All HasLength (outline_edges c d)
long_turned a b c d hc hd long =
    subst (λ (x : Outline). All HasLength (outline_edges x d)) (sym hc)
    (subst (λ (x : Outline). All HasLength (outline_edges b x)) (sym hd)
    (λ i e lt. all_among HasLength _ (outline_edges a b) long (edges_turned b a _ (get_among (outline_edges b a) i e lt))))

turned_marked : (a b : Outline) (vs : List Vertex) (done : List Edge) (old new : Matrix) → AreMarked b a (outline_edges b a) vs done old new → AreMarked b a (outline_edges a b) vs done old new
turned_marked a b vs done old new h = record {
  noded = h.noded;
  are_noded = noded_among (outline_edges b a) (outline_edges a b) vs done h.noded (edges_turned a b) h.are_noded;
  grown = h.grown;
}

pub turned_back : (a b : Outline) (vs : List Vertex) (done : List Edge) (old new : Matrix) → AreMarked b a (outline_edges b a) vs done (transposed old) new
    → AreMarked a b (outline_edges a b) vs done old (transposed new)
turned_back a b vs done old new h =
    let t = turned_marked a b vs done (transposed old) new h in
    record {
      noded = t.noded;
      are_noded = t.are_noded;
      grown = grown_as _ (flat_map (edge_marks a b) t.noded) old (transposed new) (turn_edges a b t.noded)
          (grown_turned (flat_map (edge_marks b a) t.noded) old new t.grown);
    }

-- edges that are marked before others that stand before them
swapped : {A : Type 0} (x : A) (xs ys : List A) → IsAmong x (xs ++ ys) → IsAmong x (ys ++ xs)
swapped x xs ys h = elim (among_either x xs ys h) [ inl k ↦ among_right x ys xs k | inr k ↦ among_left x ys xs k ]

grown_swapped : (xs ys : List Mark) (old new : Matrix) → HasGrownBy (ys ++ xs) old new → HasGrownBy (xs ++ ys) old new
grown_swapped xs ys old new h = record {
  kept = h.kept;
  reached = λ k one. h.reached k (swapped k xs ys one);
  sound = λ i j. elim (h.sound i j) [ inl e ↦ inl e | inr g ↦ inr (swapped _ ys xs g) ];
}

pub marked_from : (a b : Outline) (es : List Edge) (vs : List Vertex) (xs ys ds : List Edge) (old mid new : Matrix) → ds ≡ xs ++ ys
    → AreMarked a b es vs ys old mid → AreMarked a b es vs xs mid new → AreMarked a b es vs ds old new
marked_from a b es vs xs ys ds old mid new is later earlier = subst (λ (done : List Edge). AreMarked a b es vs done old new) (sym is) (record {
  noded = earlier.noded ++ later.noded;
  are_noded = noded_both es vs xs ys earlier.noded later.noded earlier.are_noded later.are_noded;
  grown = grown_as (flat_map (edge_marks a b) earlier.noded ++ flat_map (edge_marks a b) later.noded) (flat_map (edge_marks a b) (earlier.noded ++ later.noded)) old new
      (sym (flat_map-append (edge_marks a b) earlier.noded later.noded))
      (grown_swapped (flat_map (edge_marks a b) earlier.noded) (flat_map (edge_marks a b) later.noded) old new
      (grown-trans (flat_map (edge_marks a b) later.noded) (flat_map (edge_marks a b) earlier.noded) old mid new later.grown earlier.grown));
})

-- a fact of a list in two parts
pub all_front : {A : Type 0} (P : A → Type 0) (ds xs ys : List A) → ds ≡ xs ++ ys → All P ds → All P xs
all_front P ds xs ys split all = λ i d lt. all_among P (get_or xs i d) ds all (subst (IsAmong (get_or xs i d)) (sym split) (among_left (get_or xs i d) xs ys (get_among xs i d lt)))

pub all_back : {A : Type 0} (P : A → Type 0) (ds xs ys : List A) → ds ≡ xs ++ ys → All P ds → All P ys
all_back P ds xs ys split all = λ i d lt. all_among P (get_or ys i d) ds all (subst (IsAmong (get_or ys i d)) (sym split) (among_right (get_or ys i d) xs ys (get_among ys i d lt)))

pub all_own : (o : Outline) → All (IsOwn o) o.edges.items
all_own o = λ i d lt. get_among o.edges.items i d lt
