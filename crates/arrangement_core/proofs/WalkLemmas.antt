-- From a point off the boundary of an area to the next node of an edge, or to the piece before it, the
-- part stays the same.
use Rattle.std.proofs.Common.{◌≡◌, ◌≢◌, ◌≤◌, ◌<◌, ◌-◌, inl, inr, arith, sym, subst, ap, ◌∙◌, true, false, suc, zero, List, [], ◌∷◌, ◌++◌, map, take, get_or, length, All}
use Rattle.std.specs.Prelude.{ℕ, Bool, if◌then◌else◌, count_by, Option, None, Some, IfSome}
use Rattle.std.specs.List.{list_any}
use Rattle.std.specs.Ordering.{is_lt}
use Rattle.std.proofs.lemmas.List.{get_or_default}
use Rattle.std.proofs.lemmas.List.Elements.{All-head}
use Rattle.std.proofs.Math.Seq.{take-append_seam}
use Rattle.geom_core.specs.declared.shape.Shape.{Shape}
use Rattle.relation_core.specs.declared.extent.Extent.TheVariants.{Point as Dot}
use Rattle.relation_core.specs.declared.matrix.Matrix.{Matrix}
use Rattle.plane_core.specs.declared.part.Part.{Part}
use Rattle.plane_core.specs.declared.part.Part.TheVariants.{Interior, Boundary, Exterior}
use Rattle.plane_core.specs.declared.vertex.Vertex.{Vertex}
use Rattle.plane_core.specs.declared.edge.Edge.{Edge}
use Rattle.plane_core.specs.declared.node.Node.{Node}
use Rattle.plane_core.specs.declared.outline.Kind.{Kind}
use Rattle.plane_core.specs.declared.outline.Kind.TheVariants.{Points as Dots, Lines as Polylines, Areas as Rings}
use Rattle.plane_core.specs.declared.outline.Outline.{Outline}
use Rattle.plane_core.specs.Points.{Point, is_on, is_below, IsBefore, IsSamePlace}
use Rattle.plane_core.specs.Places.{node_point, place_order}
use Rattle.plane_core.specs.Figures.{Figure, HasLength, IsGeometry, edges_of, part_of, is_odd}
use Rattle.plane_core.specs.Figures.Figure.{Points, Lines, Areas}
use Rattle.plane_core.specs.Outlines.{outline_part, part_by, kind_of}
use Rattle.plane_core.specs.PlaneMatrices.{entry}
use Rattle.plane_core.proofs.OutlineLemmas.{outline_part-is, outline_above-is}
use Rattle.noding_core.specs.Gathered.{Extends}
use Rattle.noding_core.specs.Marks.{rank}
use Rattle.noding_core.specs.Near.{IsFound, AddsAmong}
use Rattle.noding_core.specs.Nodes.{IsAmong, IsPointOf, AreNodesOf, IsUpTo, Ascend, IsGapOf, middle}
use Rattle.noding_core.specs.Growth.{Mark, HasGrownBy, mark_at, piece_marks, gap_marks, gaps_marks, edge_marks}
use Rattle.noding_core.proofs.AmongLemmas.{among_left, none_any}
use Rattle.noding_core.proofs.ArrangementLemmas.{middle_wide}
use Rattle.noding_core.proofs.GapLemmas.{IsOffEach, part_after, part_before}
use Rattle.noding_core.proofs.GrowthLemmas.{grown_none, grown-trans}
use Rattle.noding_core.proofs.NearLemmas.{near_of}
use Rattle.noding_core.proofs.NodeLemmas.{all_among, gap_first, gap_second}
use Rattle.noding_core.proofs.OffPartLemmas.{off_part-is}
use Rattle.noding_core.proofs.PathLemmas.{edge_length}
use Rattle.noding_core.proofs.ReadOffLemmas.{before_order, map_among}
use Rattle.noding_core.proofs.TestLemmas.{by_test, clash}
use Rattle.shown_core.specs.Beyond.{IsBounded}
use Rattle.shown_core.specs.Lying.{LiesOff}
use Rattle.arrangement_core.specs.Seen.{AreNear}
use Rattle.shown_core.specs.Shown.{IsOnEdge, IsUncrossed, AreCuts, AreNext}
use Rattle.shown_core.proofs.BeyondLemmas.{none_on}
use Rattle.arrangement_core.proofs.ClearLemmas.{no_points, above_off}
use Rattle.shown_core.proofs.ShownLemmas.{any_among, index_among, gap_of, cuts_long, gap_middle, mark_same, node_wide}

-- a point whose part in an area isn't the boundary is on no edge
not_boundary : (es : List Edge) (p : Point) (t : Bool) → (if list_any (λ e. is_on e p) es then Boundary else (if t then Interior else Exterior)) ≢ Boundary → list_any (λ e. is_on e p) es ≡ false
not_boundary es p t off = by_test (list_any (λ e. is_on e p) es)
    (λ on. absurd (off (ap (λ (x : Bool). if x then Boundary else (if t then Interior else Exterior)) on)))
    (λ none. none)

off_area : (o : Outline) (p : Point) (part : Part) → o.kind ≡ Rings → part ≢ Boundary → outline_part o p ≡ part → list_any (λ e. is_on e p) o.edges.items ≡ false
off_area o p part area off on = not_boundary o.edges.items p (is_odd (count_by (λ e. is_below e p) o.edges.items))
    (λ is. off (sym on ∙ ap (λ (k : Kind). part_by k o.ends.items o.edges.items p) area ∙ is))

pub off_each : (o : Outline) (p : Point) (part : Part) → LiesOff o p part → IsOffEach o.edges.items p
off_each o p part h f one = none_on (λ e. is_on e p) o.edges.items f (off_area o p part h.area h.off h.on) one

not_dots : Dots ≡ Rings → ⊥
not_dots h = cc

not_polylines : Polylines ≡ Rings → ⊥
not_polylines h = cc

pub lies_off : (o : Outline) (s : Shape) (p : Point) (part : Part) → IsBounded o s → 0 < p.w → o.kind ≡ Rings → part ≢ Boundary → outline_part o p ≡ part → LiesOff o p part
lies_off o s p part b wide area off on = record {
  area = area;
  off = off;
  on = on;
  above = outline_above-is b.figure o p b.outline
      ∙ above_off b.figure p b.geometry wide (record {
        edges = λ f one. none_on (λ e. is_on e p) o.edges.items f (off_area o p part area off on) (subst (IsAmong f) (sym b.outline.edges) one);
        points = λ v one. absurd (no_points b.figure some v one);
      })
      ∙ sym (outline_part-is b.figure o p b.outline) ∙ on;
}
  where
    some : kind_of b.figure ≢ Dots
    some is = not_dots (sym is ∙ sym b.outline.kind ∙ area)

-- and what is known of a place's part, of its place
pub part_lies_off : (o : Outline) (s : Shape) (p : Point) (x : Option Part) (part : Part) → IsBounded o s → 0 < p.w → outline_part o p ≡ part
    → IfSome x (λ q. q ≡ part) → IfSome x (λ q. o.kind ≡ Rings) → IfSome x (λ q. q ≢ Boundary) → IfSome x (LiesOff o p)
part_lies_off o s p None part b wide on is area off = tt
part_lies_off o s p (Some q) part b wide on is area off = lies_off o s p q b wide area off (on ∙ sym is)

-- the part in a gap is the part at a node beside it
after_node : (g : Figure) (es : List Edge) (vs : List Vertex) (e : Edge) (ns : List Point) (k l : Point) → IsGeometry g → kind_of g ≡ Rings → ((f : Edge) → IsAmong f (edges_of g) → IsAmong f es)
    → IsAmong e es → HasLength e → AreNodesOf es vs e ns → IsGapOf k l ns → IsOffEach (edges_of g) k → part_of g (middle k l) ≡ part_of g k
after_node (Points vs) es ws e ns k l good is of one long are gap off = absurd (not_dots is)
after_node (Lines paths) es ws e ns k l good is of one long are gap off = absurd (not_polylines is)
after_node (Areas rings) es ws e ns k l good is of one long are gap off = part_after es ws e ns k l one long are gap rings good of (λ f one_f. edge_length (Areas rings) f good one_f) off

before_node : (g : Figure) (es : List Edge) (vs : List Vertex) (e : Edge) (ns : List Point) (k l : Point) → IsGeometry g → kind_of g ≡ Rings → ((f : Edge) → IsAmong f (edges_of g) → IsAmong f es)
    → IsAmong e es → HasLength e → AreNodesOf es vs e ns → IsGapOf k l ns → IsOffEach (edges_of g) l → part_of g (middle k l) ≡ part_of g l
before_node (Points vs) es ws e ns k l good is of one long are gap off = absurd (not_dots is)
before_node (Lines paths) es ws e ns k l good is of one long are gap off = absurd (not_polylines is)
before_node (Areas rings) es ws e ns k l good is of one long are gap off = part_before es ws e ns k l one long are gap rings good of (λ f one_f. edge_length (Areas rings) f good one_f) off

module _ (own other : Outline) (s : Shape) (e : Edge) (k l : Point) (b : IsBounded other s) (next : AreNext own other e k l) (before : IsBefore k l) where
  gap : IsGapOf k l next.nodes
  gap = next.gap before

  pub of_first : IsPointOf e k
  of_first = all_among (IsPointOf e) k next.nodes next.cuts.nodes.points (gap_first k l next.nodes gap)

  pub of_last : IsPointOf e l
  of_last = all_among (IsPointOf e) l next.nodes next.cuts.nodes.points (gap_second k l next.nodes gap)

  among_both : (f : Edge) → IsAmong f (edges_of b.figure) → IsAmong f next.cuts.edges
  among_both f one = next.cuts.one.edges.second f (subst (IsAmong f) (sym b.outline.edges) one)

  off_edges : (p : Point) → IsOffEach other.edges.items p → IsOffEach (edges_of b.figure) p
  off_edges p off f one = off f (subst (IsAmong f) (sym b.outline.edges) one)

  -- from a node to the gap after it
  pub lies_after : (part : Part) → LiesOff other k part → LiesOff other (middle k l) part
  lies_after part h = lies_off other s (middle k l) part b (middle_wide k l of_first.wide of_last.wide) h.area h.off
      (outline_part-is b.figure other (middle k l) b.outline
      ∙ after_node b.figure next.cuts.edges next.cuts.points e next.nodes k l b.geometry (sym b.outline.kind ∙ h.area) among_both (next.cuts.one.edges.first e next.cuts.one.one) (cuts_long own other e next.nodes next.cuts) next.cuts.nodes gap
      (off_edges k (off_each other k part h))
      ∙ sym (outline_part-is b.figure other k b.outline) ∙ h.on)

  -- from a gap to the node after it
  pub lies_before : (part : Part) → LiesOff other (middle k l) part → list_any (λ f. is_on f l) other.edges.items ≡ false → LiesOff other l part
  lies_before part h off = lies_off other s l part b of_last.wide h.area h.off
      (outline_part-is b.figure other l b.outline
      ∙ sym (before_node b.figure next.cuts.edges next.cuts.points e next.nodes k l b.geometry (sym b.outline.kind ∙ h.area) among_both (next.cuts.one.edges.first e next.cuts.one.one) (cuts_long own other e next.nodes next.cuts) next.cuts.nodes gap
      (off_edges l (λ f one. none_on (λ e. is_on e l) other.edges.items f off one)))
      ∙ sym (outline_part-is b.figure other (middle k l) b.outline) ∙ h.on)

  pub step_crossed : (m : Point) → m ≡ middle k l → IsUncrossed other e m
  step_crossed m is = subst (IsUncrossed other e) (sym is) (gap_middle own other e next.nodes k l next.cuts gap)

  pub step_on : (m : Point) → m ≡ middle k l → IsOnEdge own m
  step_on m is = any_among (λ f. is_on f m) own.edges.items e next.cuts.one.one (step_crossed m is).on

-- two nodes of one place
pub same_next : (own other : Outline) (e : Edge) (k l : Point) → AreNext own other e k l → is_lt (place_order k l) ≡ false → IsSamePlace k l
same_next own other e k l next not_less = elim next.order [
  | inl before ↦ clash (is_lt (place_order k l)) (before_order k l before) not_less
  | inr same ↦ same
]

-- a piece, and the node after it
pub piece_grown : (own other : Outline) (e : Edge) (k l m : Point) (old mid new : Matrix) → is_lt (place_order k l) ≡ true → m ≡ middle k l
    → HasGrownBy (piece_marks own other e m) old mid → HasGrownBy (mark_at own other Dot l ∷ []) mid new → HasGrownBy (gap_marks own other e k l ++ mark_at own other Dot l ∷ []) old new
piece_grown own other e k l m old mid new less is h g =
    subst (λ (t : Bool). HasGrownBy ((if t then piece_marks own other e (middle k l) else []) ++ mark_at own other Dot l ∷ []) old new) (sym less)
    (grown-trans (piece_marks own other e (middle k l)) (mark_at own other Dot l ∷ []) old mid new
    (subst (λ (z : Point). HasGrownBy (piece_marks own other e z) old mid) is h) g)

-- a node that is at the place of the one before it adds nothing
pub same_grown : (own other : Outline) (e : Edge) (k l : Node) (m : Matrix) → is_lt (place_order (node_point k) (node_point l)) ≡ false → IsSamePlace (node_point k) (node_point l)
    → 1 ≤ rank (entry m (outline_part own (node_point k)) (outline_part other (node_point k)))
    → HasGrownBy (gap_marks own other e (node_point k) (node_point l) ++ mark_at own other Dot (node_point l) ∷ []) m m
same_grown own other e k l m not_less same here =
    subst (λ (t : Bool). HasGrownBy ((if t then piece_marks own other e (middle (node_point k) (node_point l)) else []) ++ mark_at own other Dot (node_point l) ∷ []) m m) (sym not_less)
    (grown_none (mark_at own other Dot (node_point l)) m
    (subst (λ (x : Mark). rank x.extent ≤ rank (entry m x.first x.second)) (mark_same own other (node_point k) (node_point l) (node_wide k) (node_wide l) same) here))

-- nodes in a row
ascend_at : (ns : List Node) (i : ℕ) (k l : Node) → 1 ≤ i → i < length ns → k ≡ get_or ns (i - 1) k → l ≡ get_or ns i l → Ascend (map node_point ns) → IsUpTo (node_point k) (node_point l)
ascend_at ns zero k l one lt ek el up = absurd (none one)
  where
    none : 1 ≤ 0 → ⊥
    none h = omega arith
ascend_at ns (suc j) k l one lt ek el up = next ns j lt (subst (λ (i : ℕ). k ≡ get_or ns i k) (back j) ek) el up
  where
    back : (j : ℕ) → suc j - 1 ≡ j
    back j = omega arith

    next : (ns : List Node) (j : ℕ) → suc j < length ns → k ≡ get_or ns j k → l ≡ get_or ns (suc j) l → Ascend (map node_point ns) → IsUpTo (node_point k) (node_point l)
    next [] j lt ek el up = absurd (no lt)
      where
        no : suc j < 0 → ⊥
        no h = omega arith
    next (m ∷ []) j lt ek el up = absurd (no lt)
      where
        no : suc j < length (m ∷ []) → ⊥
        no h = omega arith
    next (m ∷ n ∷ ns) zero lt ek el up =
        subst (λ (x : Node). IsUpTo (node_point x) (node_point l)) (sym ek) (subst (λ (x : Node). IsUpTo (node_point m) (node_point x)) (sym el) (All-head (IsUpTo (node_point m)) (node_point n) (map node_point ns) up.0))
    next (m ∷ n ∷ ns) (suc j) lt ek el up = next (n ∷ ns) j (omega arith) ek el up.1

-- an item of a list of which all have a property
pub all_item : (P : Node → Type 0) (ns : List Node) (i : ℕ) (n : Node) → All P ns → i < length ns → n ≡ get_or ns i n → P n
all_item P ns i n all lt is = subst P (sym is) (all i n lt)

-- one node by its index
pub same_item : (ns : List Node) (i j : ℕ) (k n : Node) → i ≡ j → j < length ns → k ≡ get_or ns i k → n ≡ get_or ns j n → n ≡ k
same_item ns i j k n is lt ek en = en ∙ get_or_default ns j n k lt ∙ ap (λ (m : ℕ). get_or ns m k) (sym is) ∙ sym ek

take_among : {A : Type 0} (xs : List A) (i j : ℕ) (x : A) → j < i → j < length xs → x ≡ get_or xs j x → IsAmong x (take i xs)
take_among [] i j x lt in_ e = absurd (none in_)
  where
    none : j < 0 → ⊥
    none h = omega arith
take_among (y ∷ ys) zero j x lt in_ e = absurd (none lt)
  where
    none : j < 0 → ⊥
    none h = omega arith
take_among (y ∷ ys) (suc i) zero x lt in_ e = inl e
take_among (y ∷ ys) (suc i) (suc j) x lt in_ e = inr (take_among ys i j x (omega arith) (omega arith) e)

-- the last node that was added
pub last_here : (own other : Outline) (e : Edge) (ns : List Node) (i : ℕ) (k : Node) (old new : Matrix) → 1 ≤ i → i < length ns → k ≡ get_or ns (i - 1) k
    → HasGrownBy (edge_marks own other (record { edge = e; nodes = map node_point (take i ns) })) old new
    → 1 ≤ rank (entry new (outline_part own (node_point k)) (outline_part other (node_point k)))
last_here own other e ns i k old new one lt ek h =
    let f : Point → Mark = mark_at own other Dot in
    let ps : List Point = map node_point (take i ns) in
    let among : IsAmong (node_point k) ps = map_among node_point (take i ns) k (take_among ns i (i - 1) k (less i one) (within i (length ns) lt) ek) in
    h.reached (f (node_point k)) (among_left (f (node_point k)) (map f ps) (gaps_marks own other e ps) (map_among f ps (node_point k) among))
  where
    less : (i : ℕ) → 1 ≤ i → i - 1 < i
    less i h = omega arith

    within : (i n : ℕ) → i < n → i - 1 < n
    within i n h = omega arith

pub first_among : (ns : List Node) (n : Node) → 0 < length ns → n ≡ get_or ns 0 n → IsAmong (node_point n) (map node_point ns)
first_among ns n some is = map_among node_point ns n (index_among ns 0 n some is)

pub next_at : (own other : Outline) (e : Edge) (ns : List Node) (i : ℕ) (k l : Node) → AreCuts own other e (map node_point ns) → 1 ≤ i → i < length ns → k ≡ get_or ns (i - 1) k → l ≡ get_or ns i l
    → AreNext own other e (node_point k) (node_point l)
next_at own other e ns i k l cuts one lt ek el = record {
  nodes = map node_point ns;
  cuts = cuts;
  order = ascend_at ns i k l one lt ek el cuts.nodes.ascend;
  gap = gap_of ns i k l one lt ek el;
}

pub some_nodes : (own other : Outline) (e : Edge) (ns : List Node) → AreCuts own other e (map node_point ns) → 0 < length ns
some_nodes own other e [] cuts = absurd cuts.nodes.first_end
some_nodes own other e (n ∷ ns) cuts = more (length ns)
  where
    more : (m : ℕ) → 0 < suc m
    more m = omega arith

pub near_off : (o : Outline) (e : Edge) (near : List Edge) (p : Point) → AreNear o e near → 0 < p.w → is_on e p ≡ true → list_any (λ f. is_on f p) near ≡ false → list_any (λ f. is_on f p) o.edges.items ≡ false
near_off o e near p h wide on off = none_any (λ f. is_on f p) o.edges.items
    (λ f one. by_test (is_on f p)
    (λ yes. clash (list_any (λ f. is_on f p) near) (any_among (λ f. is_on f p) near f (near_of e f near p wide on yes (all_among (IsFound e near) f o.edges.items h.found one)) yes) off)
    (λ none. none))

-- a point on one of these is on an edge of the geometry
pub near_on : (o : Outline) (e : Edge) (near : List Edge) (p : Point) → AreNear o e near → list_any (λ f. is_on f p) near ≡ true → list_any (λ f. is_on f p) o.edges.items ≡ true
near_on o e near p h on = by_test (list_any (λ f. is_on f p) o.edges.items)
    (λ here. here)
    (λ none. clash (list_any (λ f. is_on f p) near) on (none_any (λ f. is_on f p) near (λ f one. none_on (λ f. is_on f p) o.edges.items f none (h.own f one))))

-- a point on no edge of polylines lies in their exterior
figure_off : (g : Figure) (p : Point) → IsGeometry g → kind_of g ≡ Polylines → ((f : Edge) → IsAmong f (edges_of g) → is_on f p ≡ false) → part_of g p ≡ Exterior
figure_off (Points vs) p good lines off = cc
figure_off (Lines paths) p good lines off = off_part-is (Lines paths) p good (record { edges = off; points = λ v one. absurd one })
figure_off (Areas rings) p good lines off = cc

pub lines_off : (o : Outline) (s : Shape) (p : Point) → IsBounded o s → o.kind ≡ Polylines → list_any (λ f. is_on f p) o.edges.items ≡ false → outline_part o p ≡ Exterior
lines_off o s p b lines off =
    outline_part-is b.figure o p b.outline
    ∙ figure_off b.figure p b.geometry (sym b.outline.kind ∙ lines) (λ f one. none_on (λ f. is_on f p) o.edges.items f off (subst (IsAmong f) (sym b.outline.edges) one))

-- edges that were added first
pub first_near : (o : Outline) (e : Edge) (old new taken : List Edge) → Extends old new → taken ≡ take (length old) new → AreNear o e old → AreNear o e taken
first_near o e old new taken kept is h =
    subst (AreNear o e) (sym (is ∙ ap (take (length old)) kept.is ∙ take-append_seam old kept.more)) h

pub added_near : (o : Outline) (e : Edge) (old new : List Edge) → old ≡ [] → AddsAmong o.edges.items old new → All (IsFound e new) o.edges.items → AreNear o e new
added_near o e old new none own found = record {
  own = λ f one. elim (own f one) [
    | inl before ↦ absurd (subst (IsAmong f) none before)
    | inr k ↦ k
  ];
  found = found;
}

pub none_near : (o : Outline) (e : Edge) (near : List Edge) → near ≡ [] → All (IsFound e near) o.edges.items → AreNear o e near
none_near o e near none found = record { own = λ f one. absurd (subst (IsAmong f) none one); found = found }
