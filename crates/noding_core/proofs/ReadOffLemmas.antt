-- A matrix that has grown by the marks of all nodes, pieces and faces is the one that is read off.
use Rattle.std.proofs.Common.{◌≡◌, ◌≤◌, ◌<◌, ◌⊎◌, inl, inr, arith, refl, sym, subst, ap, ◌∙◌, true, false, ◌+◌, List, [], ◌∷◌, ◌++◌, map, take, get_or, length}
use Rattle.std.specs.Prelude.{ℕ, ℤ, pos, Bool, if◌then◌else◌, ◌≢◌, ◌*ℤ◌, ◌<ℤ◌}
use Rattle.std.specs.List.{flat_map}
use Rattle.std.specs.Ordering.{int_cmp, int_eq, is_lt, ordering_then}
use Rattle.std.proofs.lemmas.Int.{ints}
use Rattle.std.proofs.lemmas.List.{take_more, take_all, append-nil}
use Rattle.std.proofs.lemmas.List.Concat.{flat_map-append}
use Rattle.relation_core.specs.declared.extent.Extent.{Extent}
use Rattle.relation_core.specs.declared.extent.Extent.TheVariants.{Empty, Point as Dot, Line, Area}
use Rattle.relation_core.specs.declared.matrix.Matrix.{Matrix}
use Rattle.plane_core.specs.declared.part.Part.{Part}
use Rattle.plane_core.specs.declared.part.Part.TheVariants.{Interior, Boundary, Exterior}
use Rattle.plane_core.specs.declared.vertex.Vertex.{Vertex}
use Rattle.plane_core.specs.declared.edge.Edge.{Edge}
use Rattle.plane_core.specs.declared.node.Node.{Node}
use Rattle.plane_core.specs.declared.outline.Kind.{Kind}
use Rattle.plane_core.specs.declared.outline.Outline.{Outline}
use Rattle.plane_core.specs.Points.{Point, at, run, IsBefore}
use Rattle.plane_core.specs.Places.{node_point, place_order}
use Rattle.plane_core.specs.Figures.{Figure, edges_of, points_of}
use Rattle.plane_core.specs.Figures.Figure.{Points, Lines, Areas}
use Rattle.plane_core.specs.Outlines.{IsOutlineOf, outline_part, outline_above}
use Rattle.plane_core.specs.PlaneMatrices.{entry, IsInBoth}
use Rattle.plane_core.proofs.OutlineLemmas.{outline_part-is, outline_above-is}
use Rattle.noding_core.specs.Nodes.{IsAmong, NodedEdge, AreNodesOf, AreNoded, AreAllNoded, IsGapOf, middle, IsPointOf}
use Rattle.noding_core.specs.Marks.{rank, all_edges, all_points, IsPiece, IsAboveBoth, IsWitnessed, IsReadOff}
use Rattle.noding_core.specs.Growth.{Mark, mark_at, mark_above, HasGrownBy, piece_marks, gap_marks, gaps_marks, edge_marks, outside}
use Rattle.noding_core.specs.ReadOffs.{points_by, outline_edges, outline_points, IsEdgeMarked, AreMarked, IsReadOffBy}
use Rattle.noding_core.proofs.GrowthLemmas.{grown-refl, grown-trans, grown_as, level_not}
use Rattle.noding_core.proofs.AmongLemmas.{among_left, among_right, among_either, among_flat}
use Rattle.noding_core.proofs.NodeLemmas.{all_among, edge_in}

-- the relation between two geometries and their outlines
pub record AreOutlined (g h : Figure) (a b : Outline) : Type 0 where
  pub first : IsOutlineOf g a
  pub second : IsOutlineOf h b

-- each mark is justified by points
record IsTrueMark (g h : Figure) (noded : List NodedEdge) (k : Mark) : Type 0 where
  pub witnessed : IsWitnessed g h noded k.first k.second k.extent

in_both : (g h : Figure) (a b : Outline) (p : Point) → AreOutlined g h a b → IsInBoth g h (outline_part a p) (outline_part b p) p
in_both g h a b p o = record { first = sym (outline_part-is g a p o.first); second = sym (outline_part-is h b p o.second) }

above_both : (g h : Figure) (a b : Outline) (p : Point) → AreOutlined g h a b → IsAboveBoth g h (outline_above a p) (outline_above b p) p
above_both g h a b p o = record { first = sym (outline_above-is g a p o.first); second = sym (outline_above-is h b p o.second) }

true_dot : (g h : Figure) (noded : List NodedEdge) (a b : Outline) (p : Point) → AreOutlined g h a b → 0 < p.w → IsTrueMark g h noded (mark_at a b Dot p)
true_dot g h noded a b p o wide = record { witnessed = (p, wide, in_both g h a b p o) }

-- membership in lists that are made of others
pub among_map : {A B : Type 0} (f : A → B) (xs : List A) (y : B) → IsAmong y (map f xs) → (x : A) × IsAmong x xs × (y ≡ f x)
among_map f [] y h = absurd h
among_map f (x ∷ xs) y (inl e) = (x, inl refl, e)
among_map f (x ∷ xs) y (inr h) = let k = among_map f xs y h in (k.0, inr k.1, k.2)

pub map_among : {A B : Type 0} (f : A → B) (xs : List A) (x : A) → IsAmong x xs → IsAmong (f x) (map f xs)
map_among f [] x h = absurd h
map_among f (y ∷ xs) x (inl e) = inl (ap f e)
map_among f (y ∷ xs) x (inr h) = inr (map_among f xs x h)

pub among_each : {A B : Type 0} (f : A → List B) (xs : List A) (y : B) → IsAmong y (flat_map f xs) → (x : A) × IsAmong x xs × IsAmong y (f x)
among_each f [] y h = absurd h
among_each f (x ∷ xs) y h = elim (among_either y (f x) (flat_map f xs) h) [
  | inl l ↦ (x, inl refl, l)
  | inr r ↦ let k = among_each f xs y r in (k.0, inr k.1, k.2)
]

-- a gap, by its order
pub by_bool : {P : Type 0} (t : Bool) → (t ≡ true → P) → (t ≡ false → P) → P
by_bool true f g = f refl
by_bool false f g = g refl

pub order_before : (p q : Point) → is_lt (place_order p q) ≡ true → IsBefore p q
order_before p q h = plain (p.x *ℤ pos q.w) (q.x *ℤ pos p.w) (p.y *ℤ pos q.w) (q.y *ℤ pos p.w) h
  where
    plain : (a b c d : ℤ) → is_lt (ordering_then (int_cmp a b) (int_cmp c d)) ≡ true → (a <ℤ b) ⊎ ((a ≡ b) × (c <ℤ d))
    plain a b c d h = grind (arith, ints)

pub before_order : (p q : Point) → IsBefore p q → is_lt (place_order p q) ≡ true
before_order p q h = plain (p.x *ℤ pos q.w) (q.x *ℤ pos p.w) (p.y *ℤ pos q.w) (q.y *ℤ pos p.w) h
  where
    right : (a b c d : ℤ) → a <ℤ b → is_lt (ordering_then (int_cmp a b) (int_cmp c d)) ≡ true
    right a b c d h = grind (arith, ints)

    above : (a b c d : ℤ) → a ≡ b → c <ℤ d → is_lt (ordering_then (int_cmp a b) (int_cmp c d)) ≡ true
    above a b c d e h = grind (arith, ints)

    plain : (a b c d : ℤ) → (a <ℤ b) ⊎ ((a ≡ b) × (c <ℤ d)) → is_lt (ordering_then (int_cmp a b) (int_cmp c d)) ≡ true
    plain a b c d (inl h) = right a b c d h
    plain a b c d (inr h) = above a b c d h.0 h.1

level : (z : ℤ) → int_eq z (pos 0) ≡ true → z ≡ pos 0
level z h = grind (arith, ints)

pub not_level : (z : ℤ) → int_eq z (pos 0) ≡ false → z ≢ pos 0
not_level z h k = true_false (int_eq z (pos 0)) (is_zero z k) h
  where
    is_zero : (z : ℤ) → z ≡ pos 0 → int_eq z (pos 0) ≡ true
    is_zero z k = rw k refl

    true_false : (t : Bool) → t ≡ true → t ≡ false → ⊥
    true_false t h k = cc

-- the marks of an edge are justified by points
true_piece : (g h : Figure) (noded : List NodedEdge) (a b : Outline) (e : Edge) (k l : Point) (m : Mark) → AreOutlined g h a b → IsPiece noded e k l
    → IsAmong m (piece_marks a b e (middle k l)) → IsTrueMark g h noded m
true_piece g h noded a b e k l m o piece (inl is) = subst (IsTrueMark g h noded) (sym is)
    (record { witnessed = record { edge = e; from_ = k; to_ = l; piece = piece; in_both = in_both g h a b (middle k l) o } })
true_piece g h noded a b e k l m o piece (inr more) = by_bool (int_eq (run e) (pos 0))
    (λ flat. absurd (subst (λ (t : Bool). IsAmong m (if t then [] else mark_above a b (middle k l) ∷ [])) flat more))
    (λ slanted. elim (subst (λ (t : Bool). IsAmong m (if t then [] else mark_above a b (middle k l) ∷ [])) slanted more) [
      | inl is ↦ subst (IsTrueMark g h noded) (sym is) (record {
        witnessed = inr (record {
          edge = e;
          from_ = k;
          to_ = l;
          piece = piece;
          slanted = not_level (run e) slanted;
          above_both = above_both g h a b (middle k l) o;
        });
      })
      | inr none ↦ absurd none
    ])

true_gap : (g h : Figure) (noded : List NodedEdge) (a b : Outline) (e : Edge) (k l : Point) (m : Mark) → AreOutlined g h a b
    → (IsBefore k l → IsPiece noded e k l) → IsAmong m (gap_marks a b e k l) → IsTrueMark g h noded m
true_gap g h noded a b e k l m o piece one = by_bool (is_lt (place_order k l))
    (λ yes. true_piece g h noded a b e k l m o (piece (order_before k l yes)) (subst (λ (t : Bool). IsAmong m (if t then piece_marks a b e (middle k l) else [])) yes one))
    (λ no. absurd (subst (λ (t : Bool). IsAmong m (if t then piece_marks a b e (middle k l) else [])) no one))

true_gaps : (g h : Figure) (noded : List NodedEdge) (a b : Outline) (e : Edge) (ns : List Point) (m : Mark) → AreOutlined g h a b
    → ((k l : Point) → IsGapOf k l ns → IsPiece noded e k l) → IsAmong m (gaps_marks a b e ns) → IsTrueMark g h noded m
true_gaps g h noded a b e [] m o piece one = absurd one
true_gaps g h noded a b e (n ∷ []) m o piece one = absurd one
true_gaps g h noded a b e (k ∷ l ∷ ns) m o piece one = elim (among_either m (gap_marks a b e k l) (gaps_marks a b e (l ∷ ns)) one) [
  | inl here ↦ true_gap g h noded a b e k l m o (λ before. piece k l (inl (refl, refl, before))) here
  | inr later ↦ true_gaps g h noded a b e (l ∷ ns) m o (λ p q gap. piece p q (inr gap)) later
]

true_edge : (g h : Figure) (es : List Edge) (vs : List Vertex) (noded : List NodedEdge) (a b : Outline) (n : NodedEdge) (m : Mark) → AreOutlined g h a b
    → AreAllNoded es vs noded → IsAmong n noded → IsAmong m (edge_marks a b n) → IsTrueMark g h noded m
true_edge g h es vs noded a b n m o all one marked = elim (among_either m (map (mark_at a b Dot) n.nodes) (gaps_marks a b n.edge n.nodes) marked) [
  | inl dot ↦
      let p = among_map (mark_at a b Dot) n.nodes m dot in
      subst (IsTrueMark g h noded) (sym p.2) (true_dot g h noded a b p.0 o (all_among (IsPointOf n.edge) p.0 n.nodes (edge_in es vs noded n all one).are.points p.1).wide)
  | inr gap ↦ true_gaps g h noded a b n.edge n.nodes m o (λ k l here. record { nodes = n.nodes; one = one; gap = here }) gap
]

-- the converse: all intersections are marked
gap_marked : (a b : Outline) (e : Edge) (ns : List Point) (k l : Point) (m : Mark) → IsGapOf k l ns
    → (IsBefore k l → IsAmong m (gap_marks a b e k l)) → IsAmong m (gaps_marks a b e ns)
gap_marked a b e [] k l m gap f = absurd gap
gap_marked a b e (n ∷ []) k l m gap f = absurd gap
gap_marked a b e (p ∷ q ∷ ns) k l m (inl here) f =
    among_left m (gap_marks a b e p q) (gaps_marks a b e (q ∷ ns))
    (subst (λ (x : Point). IsAmong m (gap_marks a b e x q)) here.0 (subst (λ (x : Point). IsAmong m (gap_marks a b e k x)) here.1
    (f (subst (λ (x : Point). IsBefore x l) (sym here.0) (subst (λ (x : Point). IsBefore p x) (sym here.1) here.2)))))
gap_marked a b e (p ∷ q ∷ ns) k l m (inr later) f =
    among_right m (gap_marks a b e p q) (gaps_marks a b e (q ∷ ns)) (gap_marked a b e (q ∷ ns) k l m later f)

line_marked : (a b : Outline) (e : Edge) (k l : Point) → IsBefore k l → IsAmong (mark_at a b Line (middle k l)) (gap_marks a b e k l)
line_marked a b e k l before =
    subst (λ (t : Bool). IsAmong (mark_at a b Line (middle k l)) (if t then piece_marks a b e (middle k l) else [])) (sym (before_order k l before)) (inl refl)

face_marked : (a b : Outline) (e : Edge) (k l : Point) → run e ≢ pos 0 → IsBefore k l → IsAmong (mark_above a b (middle k l)) (gap_marks a b e k l)
face_marked a b e k l slanted before =
    subst (λ (t : Bool). IsAmong (mark_above a b (middle k l)) (if t then piece_marks a b e (middle k l) else [])) (sym (before_order k l before))
    (inr (subst (λ (t : Bool). IsAmong (mark_above a b (middle k l)) (if t then [] else mark_above a b (middle k l) ∷ [])) (sym (level_not (run e) slanted)) (inl refl)))

-- all marks of two geometries
abbrev pub all_marks : Outline → Outline → List NodedEdge → List Vertex → List Mark
all_marks a b noded vs = flat_map (edge_marks a b) noded ++ map (λ (v : Vertex). mark_at a b Dot (at v)) vs

one_marked : (a b : Outline) (noded : List NodedEdge) (vs : List Vertex) (n : NodedEdge) (m : Mark) → IsAmong n noded → IsAmong m (edge_marks a b n) → IsAmong m (all_marks a b noded vs)
one_marked a b noded vs n m one marked = among_left m (flat_map (edge_marks a b) noded) (map (λ (v : Vertex). mark_at a b Dot (at v)) vs) (among_flat (edge_marks a b) n m noded one marked)

true_mark : (g h : Figure) (es : List Edge) (vs : List Vertex) (noded : List NodedEdge) (a b : Outline) (m : Mark) → AreOutlined g h a b
    → AreAllNoded es vs noded → IsAmong m (all_marks a b noded vs) → IsTrueMark g h noded m
true_mark g h es vs noded a b m o all one = elim (among_either m (flat_map (edge_marks a b) noded) (map (λ (v : Vertex). mark_at a b Dot (at v)) vs) one) [
  | inl edge ↦ let n = among_each (edge_marks a b) noded m edge in true_edge g h es vs noded a b n.0 m o all n.1 n.2
  | inr dot ↦
      let v = among_map (λ (v : Vertex). mark_at a b Dot (at v)) vs m dot in
      subst (IsTrueMark g h noded) (sym v.2) (true_dot g h noded a b (at v.0) o one_wide)
]
  where
    one_wide : 0 < 1
    one_wide = omega arith

-- nothing is known at first
outside_witnessed : (g h : Figure) (noded : List NodedEdge) (i j : Part) → IsWitnessed g h noded i j (entry outside i j)
outside_witnessed g h noded Interior Interior = tt
outside_witnessed g h noded Interior Boundary = tt
outside_witnessed g h noded Interior Exterior = tt
outside_witnessed g h noded Boundary Interior = tt
outside_witnessed g h noded Boundary Boundary = tt
outside_witnessed g h noded Boundary Exterior = tt
outside_witnessed g h noded Exterior Interior = tt
outside_witnessed g h noded Exterior Boundary = tt
outside_witnessed g h noded Exterior Exterior = inl (refl, refl)

top_rank : (x : Extent) → 3 ≤ rank x → x ≡ Area
top_rank Empty h = absurd (omega arith)
top_rank Dot h = absurd (omega arith)
top_rank Line h = absurd (omega arith)
top_rank Area h = refl

moved_rank : (m : Matrix) (k : ℕ) (i j i' j' : Part) → i ≡ i' → j ≡ j' → k ≤ rank (entry m i j) → k ≤ rank (entry m i' j')
moved_rank m k i j i' j' p q h = subst (λ (x : Part). k ≤ rank (entry m x j')) p (subst (λ (x : Part). k ≤ rank (entry m i x)) q h)

pub read_off : (g h : Figure) (a b : Outline) (noded : List NodedEdge) (m : Matrix) → AreOutlined g h a b
    → AreAllNoded (all_edges g h) (all_points g h) noded
    → HasGrownBy (all_marks a b noded (all_points g h)) outside m → IsReadOff g h noded m
read_off g h a b noded m o all grown =
    let vs = all_points g h in
    record {
      are_noded = all;
      sound = λ i j. elim (grown.sound i j) [
        | inl e ↦ subst (IsWitnessed g h noded i j) (sym e) (outside_witnessed g h noded i j)
        | inr one ↦ (true_mark g h (all_edges g h) vs noded a b _ o all one).witnessed
      ];
      nodes = λ n p one here. moved_rank m 1 _ _ _ _ (outline_part-is g a p o.first) (outline_part-is h b p o.second)
          (grown.reached (mark_at a b Dot p) (one_marked a b noded vs n _ one
          (among_left _ (map (mark_at a b Dot) n.nodes) (gaps_marks a b n.edge n.nodes) (map_among (mark_at a b Dot) n.nodes p here))));
      pieces = λ i j x. moved_rank m 2 _ _ _ _
          (outline_part-is g a (middle x.from_ x.to_) o.first ∙ x.in_both.first) (outline_part-is h b (middle x.from_ x.to_) o.second ∙ x.in_both.second)
          (grown.reached (mark_at a b Line (middle x.from_ x.to_)) (one_marked a b noded vs (record { edge = x.edge; nodes = x.piece.nodes }) _ x.piece.one
          (among_right _ (map (mark_at a b Dot) x.piece.nodes) (gaps_marks a b x.edge x.piece.nodes)
          (gap_marked a b x.edge x.piece.nodes x.from_ x.to_ _ x.piece.gap (line_marked a b x.edge x.from_ x.to_)))));
      faces = λ i j x. moved_rank m 3 _ _ _ _
          (outline_above-is g a (middle x.from_ x.to_) o.first ∙ x.above_both.first) (outline_above-is h b (middle x.from_ x.to_) o.second ∙ x.above_both.second)
          (grown.reached (mark_above a b (middle x.from_ x.to_)) (one_marked a b noded vs (record { edge = x.edge; nodes = x.piece.nodes }) _ x.piece.one
          (among_right _ (map (mark_at a b Dot) x.piece.nodes) (gaps_marks a b x.edge x.piece.nodes)
          (gap_marked a b x.edge x.piece.nodes x.from_ x.to_ _ x.piece.gap (face_marked a b x.edge x.from_ x.to_ x.slanted)))));
      points = λ v one. moved_rank m 1 _ _ _ _ (outline_part-is g a (at v) o.first) (outline_part-is h b (at v) o.second)
          (grown.reached (mark_at a b Dot (at v)) (among_right _ (flat_map (edge_marks a b) noded) (map (λ (v : Vertex). mark_at a b Dot (at v)) vs)
          (map_among (λ (v : Vertex). mark_at a b Dot (at v)) vs v one)));
      outside = top_rank (entry m Exterior Exterior) (grown.kept Exterior Exterior);
    }

-- one more edge that is marked
noded_more : (es : List Edge) (vs : List Vertex) (done : List Edge) (ms : List NodedEdge) (n : NodedEdge) → AreNoded es vs done ms → AreNodesOf es vs n.edge n.nodes
    → AreNoded es vs (done ++ n.edge ∷ []) (ms ++ n ∷ [])
noded_more es vs [] [] n h k = (refl, k, tt)
noded_more es vs [] (m ∷ ms) n h k = absurd h
noded_more es vs (e ∷ done) [] n h k = absurd h
noded_more es vs (e ∷ done) (m ∷ ms) n h k = (h.0, h.1, noded_more es vs done ms n h.2 k)

pub marked_more : (a b : Outline) (es : List Edge) (vs : List Vertex) (ds : List Edge) (i : ℕ) (e : Edge) (start old new : Matrix) → i < length ds → e ≡ get_or ds i e
    → AreMarked a b es vs (take i ds) start old → IsEdgeMarked a b es vs e old new → AreMarked a b es vs (take (i + 1) ds) start new
marked_more a b es vs ds i e start old new lt is h k =
    let n : NodedEdge = record { edge = e; nodes = k.nodes } in
    let row : take (i + 1) ds ≡ take i ds ++ e ∷ [] = take_more ds i e lt ∙ ap (λ (x : Edge). take i ds ++ x ∷ []) (sym is) in
    record {
      noded = h.noded ++ n ∷ [];
      are_noded = subst (λ (done : List Edge). AreNoded es vs done (h.noded ++ n ∷ [])) (sym row) (noded_more es vs (take i ds) h.noded n h.are_noded k.are_nodes);
      grown = grown_as (flat_map (edge_marks a b) h.noded ++ edge_marks a b n) (flat_map (edge_marks a b) (h.noded ++ n ∷ [])) start new
          (sym (flat_map-append (edge_marks a b) h.noded (n ∷ []) ∙ ap (λ (xs : List Mark). flat_map (edge_marks a b) h.noded ++ xs) (append-nil (edge_marks a b n))))
          (grown-trans (flat_map (edge_marks a b) h.noded) (edge_marks a b n) start old new h.grown k.grown);
    }

pub marked_none : (a b : Outline) (es : List Edge) (vs : List Vertex) (start : Matrix) → AreMarked a b es vs [] start start
marked_none a b es vs start = record { noded = []; are_noded = tt; grown = grown-refl start }

pub marked_whole : (a b : Outline) (es : List Edge) (vs : List Vertex) (ds : List Edge) (i : ℕ) (start new : Matrix) → length ds ≤ i → AreMarked a b es vs (take i ds) start new → AreMarked a b es vs ds start new
marked_whole a b es vs ds i start new h k = subst (λ (done : List Edge). AreMarked a b es vs done start new) (take_all i ds h) k

pub edge_marked : (a b : Outline) (es : List Edge) (vs : List Vertex) (e : Edge) (ns xs : List Node) (old new : Matrix) → AreNodesOf es vs e (map node_point ns)
    → xs ≡ ns → HasGrownBy (edge_marks a b (record { edge = e; nodes = map node_point xs })) old new → IsEdgeMarked a b es vs e old new
edge_marked a b es vs e ns xs old new nodes is h = record {
  nodes = map node_point xs;
  are_nodes = subst (λ (l : List Node). AreNodesOf es vs e (map node_point l)) (sym is) nodes;
  grown = h;
}

-- the outlines' edges and points are the geometries'
points_by-is : (g : Figure) (o : Outline) → IsOutlineOf g o → points_by o.kind o.ends.items ≡ points_of g
points_by-is (Points vs) o h = ap (λ (k : Kind). points_by k o.ends.items) h.kind ∙ h.ends
points_by-is (Lines paths) o h = ap (λ (k : Kind). points_by k o.ends.items) h.kind
points_by-is (Areas rings) o h = ap (λ (k : Kind). points_by k o.ends.items) h.kind

pub read_off_by : (g h : Figure) (a b : Outline) (m : Matrix) → AreOutlined g h a b → IsReadOffBy a b m → (noded : List NodedEdge) × IsReadOff g h noded m
read_off_by g h a b m o r =
    let es : outline_edges a b ≡ all_edges g h =
    ap (λ (x : List Edge). x ++ b.edges.items) o.first.edges ∙ ap (λ (x : List Edge). edges_of g ++ x) o.second.edges in
    let vs : outline_points a b ≡ all_points g h =
    ap (λ (x : List Vertex). x ++ points_by b.kind b.ends.items) (points_by-is g a o.first) ∙ ap (λ (x : List Vertex). points_of g ++ x) (points_by-is h b o.second) in
    let noded_es = subst (λ (x : List Edge). AreAllNoded x (outline_points a b) r.noded) es r.are_noded in
    let noded = subst (λ (x : List Vertex). AreAllNoded (all_edges g h) x r.noded) vs noded_es in
    (r.noded, read_off g h a b r.noded m o noded (subst (λ (x : List Vertex). HasGrownBy (all_marks a b r.noded x) outside m) vs r.grown))
