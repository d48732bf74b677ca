-- Where a matrix shows all that an edge can add to it, the edge adds nothing.
use Rattle.std.proofs.Common.{◌≡◌, ◌≤◌, ◌<◌, inl, inr, arith, refl, sym, subst, ap, ◌∙◌, true, false, List, [], ◌∷◌, map}
use Rattle.std.specs.Prelude.{ℕ, pos, ◌≢◌, Bool, ◌||◌, not, if◌then◌else◌, All, count_by}
use Rattle.std.specs.List.{list_any, list_all, flat_map}
use Rattle.std.specs.Ordering.{int_eq, is_lt}
use Rattle.geom_core.specs.declared.shape.Shape.{Shape}
use Rattle.relation_core.specs.declared.extent.Extent.{Extent}
use Rattle.relation_core.specs.declared.extent.Extent.TheVariants.{Point as Dot, Line}
use Rattle.relation_core.specs.declared.matrix.Matrix.{Matrix}
use Rattle.plane_core.specs.declared.part.Part.{Part}
use Rattle.plane_core.specs.declared.part.Part.TheVariants.{Interior, Boundary, Exterior}
use Rattle.plane_core.specs.declared.vertex.Vertex.{Vertex}
use Rattle.plane_core.specs.declared.edge.Edge.{Edge}
use Rattle.plane_core.specs.declared.outline.Kind.{Kind}
use Rattle.plane_core.specs.declared.outline.Kind.TheVariants.{Points as Dots, Lines as Polylines, Areas as Rings}
use Rattle.plane_core.specs.declared.outline.Outline.{Outline}
use Rattle.plane_core.specs.Points.{Point, at, run, is_on, is_at, is_below, IsBefore}
use Rattle.plane_core.specs.Places.{place_order}
use Rattle.plane_core.specs.Figures.{Figure, IsGeometry, HasLength, edges, edges_of, part_of, is_odd}
use Rattle.plane_core.specs.Figures.Figure.{Points, Lines, Areas}
use Rattle.plane_core.specs.Outlines.{outline_part, outline_above, part_by, kind_of}
use Rattle.plane_core.specs.PlaneMatrices.{pick, entry}
use Rattle.plane_core.proofs.OutlineLemmas.{outline_part-is}
use Rattle.noding_core.specs.Nodes.{IsAmong, IsPointOf, AreNodesOf, IsGapOf, middle}
use Rattle.noding_core.specs.Marks.{rank}
use Rattle.noding_core.specs.Growth.{Mark, mark_at, mark_above, piece_marks, gap_marks, gaps_marks, edge_marks}
use Rattle.noding_core.specs.ReadOffs.{IsEdgeMarked, IsOneOf}
use Rattle.shown_core.specs.Shown.{is_along, AreCuts}
use Rattle.shown_core.specs.Beyond.{IsBounded, has_no_end, parts_along, IsEdgeShown}
use Rattle.noding_core.specs.Near.{IsFound}
use Rattle.shown_core.specs.Lying.{LiesIn}
use Rattle.arrangement_core.specs.Known.{part_along, is_touched, parts_met, parts_passed, IsAllShown, IsPartFull}
use Rattle.noding_core.proofs.AmongLemmas.{among_either, count_none}
use Rattle.noding_core.proofs.NodeLemmas.{all_among, gap_first, gap_second, gap_order}
use Rattle.noding_core.proofs.PathLemmas.{IsOffEnds, ends_none}
use Rattle.noding_core.proofs.OffPartLemmas.{off_part-is, first_on, last_on}
use Rattle.noding_core.proofs.ArrangementLemmas.{middle_wide}
use Rattle.noding_core.proofs.TestLemmas.{by_test, clash, not_true}
use Rattle.noding_core.proofs.GatherLemmas.{at_same, on_there}
use Rattle.noding_core.proofs.NearLemmas.{near_of}
use Rattle.noding_core.proofs.ReadOffLemmas.{by_bool, order_before, not_level, among_map}
use Rattle.noding_core.proofs.TurnLemmas.{entry-transposed}
use Rattle.shown_core.proofs.ShownLemmas.{middle_on, in_above, any_among, among_all, cuts_of, gap_middle, off_others, one_of_two, one_of_three}
use Rattle.noding_core.proofs.ExistLemmas.{HasNodeList, nodes_exist}

-- what is known of the places of an edge, by its nodes
abbrev IsKnown : Matrix → Mark → Type 0
IsKnown m k = rank k.extent ≤ rank (entry m k.first k.second)

pub record AreKnown (m : Matrix) (own other : Outline) (e : Edge) (ns : List Point) : Type 0 where
  pub nodes : (p : Point) → IsPointOf e p → 1 ≤ rank (entry m (outline_part own p) (outline_part other p))
  pub pieces : (p q : Point) → IsGapOf p q ns → 2 ≤ rank (entry m (outline_part own (middle p q)) (outline_part other (middle p q)))
  pub faces : (p q : Point) → IsGapOf p q ns → run e ≢ pos 0 → 3 ≤ rank (entry m (outline_above own (middle p q)) (outline_above other (middle p q)))

known_as : (m : Matrix) (k l : Mark) → k ≡ l → IsKnown m l → IsKnown m k
known_as m k l is h = subst (IsKnown m) (sym is) h

piece_known : (m : Matrix) (own other : Outline) (e : Edge) (p : Point) (k : Mark) → 2 ≤ rank (entry m (outline_part own p) (outline_part other p))
    → (run e ≢ pos 0 → 3 ≤ rank (entry m (outline_above own p) (outline_above other p))) → IsAmong k (piece_marks own other e p) → IsKnown m k
piece_known m own other e p k line face (inl is) = known_as m k (mark_at own other Line p) is line
piece_known m own other e p k line face (inr more) = by_bool (int_eq (run e) (pos 0))
    (λ flat. absurd (subst (λ (t : Bool). IsAmong k (if t then [] else mark_above own other p ∷ [])) flat more))
    (λ slanted. elim (subst (λ (t : Bool). IsAmong k (if t then [] else mark_above own other p ∷ [])) slanted more) [
      | inl is ↦ known_as m k (mark_above own other p) is (face (not_level (run e) slanted))
      | inr none ↦ absurd none
    ])

gap_known : (m : Matrix) (own other : Outline) (e : Edge) (ns : List Point) (p q : Point) (k : Mark) → AreKnown m own other e ns → (IsBefore p q → IsGapOf p q ns)
    → IsAmong k (gap_marks own other e p q) → IsKnown m k
gap_known m own other e ns p q k h gap one = by_bool (is_lt (place_order p q))
    (λ yes. let here = gap (order_before p q yes) in
    piece_known m own other e (middle p q) k (h.pieces p q here) (h.faces p q here)
    (subst (λ (t : Bool). IsAmong k (if t then piece_marks own other e (middle p q) else [])) yes one))
    (λ none. absurd (subst (λ (t : Bool). IsAmong k (if t then piece_marks own other e (middle p q) else [])) none one))

gaps_known : (m : Matrix) (own other : Outline) (e : Edge) (all ns : List Point) (k : Mark) → AreKnown m own other e all → ((p q : Point) → IsGapOf p q ns → IsGapOf p q all)
    → IsAmong k (gaps_marks own other e ns) → IsKnown m k
gaps_known m own other e all [] k h in_ one = absurd one
gaps_known m own other e all (n ∷ []) k h in_ one = absurd one
gaps_known m own other e all (p ∷ q ∷ ns) k h in_ one =
    elim (among_either k (gap_marks own other e p q) (gaps_marks own other e (q ∷ ns)) one) [
      | inl here ↦ gap_known m own other e all p q k h (λ before. in_ p q (inl (refl, refl, before))) here
      | inr later ↦ gaps_known m own other e all (q ∷ ns) k h (λ x y gap. in_ x y (inr gap)) later
    ]

edge_known : (m : Matrix) (own other : Outline) (e : Edge) (ns : List Point) (k : Mark) → AreKnown m own other e ns → All (IsPointOf e) ns
    → IsAmong k (edge_marks own other (record { edge = e; nodes = ns })) → IsKnown m k
edge_known m own other e ns k h on one = elim (among_either k (map (mark_at own other Dot) ns) (gaps_marks own other e ns) one) [
  | inl dot ↦
      let p = among_map (mark_at own other Dot) ns k dot in
      known_as m k (mark_at own other Dot p.0) p.2 (h.nodes p.0 (all_among (IsPointOf e) p.0 ns on p.1))
  | inr gap ↦ gaps_known m own other e ns ns k h (λ p q here. here) gap
]

pub adds_none : (m : Matrix) (own other : Outline) (es : List Edge) (vs : List Vertex) (e : Edge) (ns : List Point) → AreNodesOf es vs e ns → AreKnown m own other e ns → IsEdgeMarked own other es vs e m m
adds_none m own other es vs e ns are h = record {
  nodes = ns;
  are_nodes = are;
  grown = record {
    kept = λ i j. same (rank (entry m i j));
    reached = λ k among. edge_known m own other e ns k h are.points among;
    sound = λ i j. inl refl;
  };
}
  where
    same : (r : ℕ) → r ≤ r
    same r = omega arith

weaker : (r : ℕ) → 2 ≤ r → 1 ≤ r
weaker r h = omega arith

-- points of a gap
pub gap_point : (e : Edge) (ns : List Point) (p q : Point) → HasLength e → All (IsPointOf e) ns → IsGapOf p q ns → IsPointOf e (middle p q)
gap_point e ns p q long on gap =
    let of_p = all_among (IsPointOf e) p ns on (gap_first p q ns gap) in
    let of_q = all_among (IsPointOf e) q ns on (gap_second p q ns gap) in
    record { wide = middle_wide p q of_p.wide of_q.wide; on = middle_on e p q long of_p of_q (gap_order p q ns gap) }

-- the parts of the points of an edge in its own geometry
along_by : (k : Kind) (ends : List Vertex) (es : List Edge) (p : Point) → list_any (λ e. is_on e p) es ≡ true → (k ≡ Polylines → is_odd (count_by (λ v. is_at v p) ends) ≡ false)
    → pick (part_by k ends es p) (parts_along k) ≡ true
along_by Dots ends es p on free = one_of_three (part_by Dots ends es p)
along_by Polylines ends es p on free = rw (free refl, on) refl
along_by Rings ends es p on free = rw on refl

along_is : (k : Kind) (ends : List Vertex) (es : List Edge) (p : Point) → k ≢ Dots → list_any (λ e. is_on e p) es ≡ true → (k ≡ Polylines → is_odd (count_by (λ v. is_at v p) ends) ≡ false)
    → part_by k ends es p ≡ part_along k
along_is Dots ends es p some on free = absurd (some refl)
along_is Polylines ends es p some on free = rw (free refl, on) refl
along_is Rings ends es p some on free = rw on refl

no_odd_end : (own : Outline) (e : Edge) (p : Point) → has_no_end own e ≡ true → 0 < p.w → is_on e p ≡ true → is_odd (count_by (λ v. is_at v p) own.ends.items) ≡ false
no_odd_end own e p all wide on = ap is_odd (count_none (λ v. is_at v p) own.ends.items
    (λ v k. by_test (is_at v p)
    (λ here. clash (is_on e (at v)) (on_there e v p wide on (at_same v p here)) (not_true (is_on e (at v)) (among_all (λ v. not (is_on e (at v))) own.ends.items v all k)))
    (λ no_. no_)))

-- an edge in one part of the other geometry
part_line : (m : Matrix) (own other : Outline) (e : Edge) (part : Part) (p : Point) → LiesIn other e part → IsEdgeShown m own part e → IsAmong e own.edges.items → IsPointOf e p
    → 2 ≤ rank (entry m (outline_part own p) (outline_part other p))
part_line m own other e part p lies shown one of_p =
    subst (λ (j : Part). 2 ≤ rank (entry m (outline_part own p) j)) (sym (lies.on p of_p.wide of_p.on))
    (subst (λ (x : Extent). 2 ≤ rank x) (entry-transposed m part (outline_part own p))
    (shown.pieces (outline_part own p) (along_by own.kind own.ends.items own.edges.items p
    (any_among (λ f. is_on f p) own.edges.items e one of_p.on) (λ is. no_odd_end own e p (shown.free is) of_p.wide of_p.on))))

part_face : (m : Matrix) (own other : Outline) (e : Edge) (part : Part) (p : Point) → LiesIn other e part → IsEdgeShown m own part e → run e ≢ pos 0 → IsPointOf e p
    → 3 ≤ rank (entry m (outline_above own p) (outline_above other p))
part_face m own other e part p lies shown slanted of_p =
    subst (λ (j : Part). 3 ≤ rank (entry m (outline_above own p) j)) (sym (lies.above p of_p.wide of_p.on))
    (subst (λ (x : Extent). 3 ≤ rank x) (entry-transposed m part (outline_above own p))
    (shown.faces slanted (outline_above own p) (in_above own.kind own.edges.items p)))

pub part_adds_none : (m : Matrix) (own other : Outline) (es : List Edge) (vs : List Vertex) (e : Edge) (part : Part) → LiesIn other e part → IsEdgeShown m own part e
    → IsAmong e own.edges.items → HasLength e → IsEdgeMarked own other es vs e m m
part_adds_none m own other es vs e part lies shown one long =
    let n = nodes_exist es vs e long in
    adds_none m own other es vs e n.nodes n.are (record {
      nodes = λ p of_p. weaker _ (part_line m own other e part p lies shown one of_p);
      pieces = λ p q gap. part_line m own other e part (middle p q) lies shown one (gap_point e n.nodes p q long n.are.points gap);
      faces = λ p q gap slanted. part_face m own other e part (middle p q) lies shown slanted (gap_point e n.nodes p q long n.are.points gap);
    })

-- an edge in a part of which each entry has the greatest extent
full_rank : (m : Matrix) (part i : Part) → IsPartFull m part → 3 ≤ rank (entry m i part)
full_rank m part Interior full = subst (λ (x : Extent). 3 ≤ rank x) (sym full.interior) (omega arith)
full_rank m part Boundary full = subst (λ (x : Extent). 3 ≤ rank x) (sym full.boundary) (omega arith)
full_rank m part Exterior full = subst (λ (x : Extent). 3 ≤ rank x) (sym full.exterior) (omega arith)

full_line : (m : Matrix) (own other : Outline) (e : Edge) (part : Part) (p : Point) → LiesIn other e part → IsPartFull m part → IsPointOf e p
    → 2 ≤ rank (entry m (outline_part own p) (outline_part other p))
full_line m own other e part p lies full of_p =
    subst (λ (j : Part). 2 ≤ rank (entry m (outline_part own p) j)) (sym (lies.on p of_p.wide of_p.on)) (less _ (full_rank m part (outline_part own p) full))
  where
    less : (r : ℕ) → 3 ≤ r → 2 ≤ r
    less r h = omega arith

full_face : (m : Matrix) (own other : Outline) (e : Edge) (part : Part) (p : Point) → LiesIn other e part → IsPartFull m part → IsPointOf e p
    → 3 ≤ rank (entry m (outline_above own p) (outline_above other p))
full_face m own other e part p lies full of_p =
    subst (λ (j : Part). 3 ≤ rank (entry m (outline_above own p) j)) (sym (lies.above p of_p.wide of_p.on)) (full_rank m part (outline_above own p) full)

pub full_adds_none : (m : Matrix) (own other : Outline) (es : List Edge) (vs : List Vertex) (e : Edge) (part : Part) → LiesIn other e part → IsPartFull m part
    → HasLength e → IsEdgeMarked own other es vs e m m
full_adds_none m own other es vs e part lies full long =
    let n = nodes_exist es vs e long in
    adds_none m own other es vs e n.nodes n.are (record {
      nodes = λ p of_p. weaker _ (full_line m own other e part p lies full of_p);
      pieces = λ p q gap. full_line m own other e part (middle p q) lies full (gap_point e n.nodes p q long n.are.points gap);
      faces = λ p q gap slanted. full_face m own other e part (middle p q) lies full (gap_point e n.nodes p q long n.are.points gap);
    })

-- the parts of a point of an edge in the other geometry
not_touched : (e : Edge) (near : List Edge) (f : Edge) → is_touched e near ≡ false → IsAmong f near → (is_on e (at f.a) ≡ false) × (is_on e (at f.b) ≡ false)
not_touched e [] f h one = absurd one
not_touched e (g ∷ near) f h (inl is) = (
  ap (λ (x : Edge). is_on e (at x.a)) is ∙ first_of _ _ (first_of _ _ h),
  ap (λ (x : Edge). is_on e (at x.b)) is ∙ second_of (is_on e (at g.a)) _ (first_of _ _ h),
)
  where
    first_of : (t u : Bool) → (t || u) ≡ false → t ≡ false
    first_of true u h = cc
    first_of false u h = refl

    second_of : (t u : Bool) → (t || u) ≡ false → u ≡ false
    second_of true u h = cc
    second_of false u h = h
not_touched e (g ∷ near) f h (inr k) = not_touched e near f (rest (is_on e (at g.a) || is_on e (at g.b)) (is_touched e near) h) k
  where
    rest : (t u : Bool) → (t || u) ≡ false → u ≡ false
    rest true u h = cc
    rest false u h = h

off_ends : (e : Edge) (near es : List Edge) (p : Point) (f : Edge) → is_touched e near ≡ false → All (IsFound e near) es → IsPointOf e p → IsAmong f es → IsOffEnds p f
off_ends e near es p f none found of_p one = record {
  first = by_test (is_at f.a p)
      (λ here. clash (is_on e (at f.a)) (on_there e f.a p of_p.wide of_p.on (at_same f.a p here))
      (not_touched e near f none (near_of e f near p of_p.wide of_p.on (first_on f p here) (all_among (IsFound e near) f es found one))).0)
      (λ no_. no_);
  last = by_test (is_at f.b p)
      (λ here. clash (is_on e (at f.b)) (on_there e f.b p of_p.wide of_p.on (at_same f.b p here))
      (not_touched e near f none (near_of e f near p of_p.wide of_p.on (last_on f p here) (all_among (IsFound e near) f es found one))).1)
      (λ no_. no_);
}

no_boundary : (on t : Bool) → pick (if on then Interior else Exterior) (record { interior = true; boundary = t; exterior = true }) ≡ true
no_boundary true t = refl
no_boundary false t = refl

met_in : (g : Figure) (e : Edge) (near : List Edge) (p : Point) → IsGeometry g → All (IsFound e near) (edges_of g) → IsPointOf e p → pick (part_of g p) (parts_met (kind_of g) (is_touched e near)) ≡ true
met_in (Points vs) e near p good found of_p = no_boundary (list_any (λ v. is_at v p) vs) (is_touched e near)
met_in (Lines paths) e near p good found of_p = by_test (is_touched e near)
    (λ yes. subst (λ (t : Bool). pick (part_of (Lines paths) p) (record { interior = true; boundary = t; exterior = true }) ≡ true) (sym yes) (one_of_three (part_of (Lines paths) p)))
    (λ none.
    subst (λ (n : ℕ). pick (if is_odd n then Boundary else (if list_any (λ f. is_on f p) (flat_map edges paths) then Interior else Exterior))
    (record { interior = true; boundary = is_touched e near; exterior = true }) ≡ true)
    (sym (ends_none paths p good.1 (λ f one. off_ends e near (flat_map edges paths) p f none found of_p one)))
    (no_boundary (list_any (λ f. is_on f p) (flat_map edges paths)) (is_touched e near)))
met_in (Areas rings) e near p good found of_p = one_of_three (part_of (Areas rings) p)

outline_met : (o : Outline) (s : Shape) (e : Edge) (near : List Edge) (p : Point) → IsBounded o s → All (IsFound e near) o.edges.items → IsPointOf e p
    → pick (outline_part o p) (parts_met o.kind (is_touched e near)) ≡ true
outline_met o s e near p b found of_p =
    subst (λ (k : Kind). pick (outline_part o p) (parts_met k (is_touched e near)) ≡ true) (sym b.outline.kind)
    (subst (λ (j : Part). pick j (parts_met (kind_of b.figure) (is_touched e near)) ≡ true) (sym (outline_part-is b.figure o p b.outline))
    (met_in b.figure e near p b.geometry (subst (All (IsFound e near)) b.outline.edges found) of_p))

-- and of a point that is on no edge of it
passed_in : (g : Figure) (p : Point) → IsGeometry g → ((f : Edge) → IsAmong f (edges_of g) → is_on f p ≡ false) → pick (part_of g p) (parts_passed (kind_of g)) ≡ true
passed_in (Points vs) p good off = one_of_three (part_of (Points vs) p)
passed_in (Lines paths) p good off =
    subst (λ (j : Part). pick j (parts_passed Polylines) ≡ true) (sym (off_part-is (Lines paths) p good (record { edges = off; points = λ v k. absurd k }))) refl
passed_in (Areas rings) p good off =
    subst (λ (j : Part). pick j (parts_passed Rings) ≡ true) (sym (off_part-is (Areas rings) p good (record { edges = off; points = λ v k. absurd k })))
    (one_of_two (is_odd (count_by (λ f. is_below f p) (flat_map edges rings))) false)

none_of : {A : Type 0} (q : A → Bool) (xs : List A) (x : A) → list_any q xs ≡ false → IsAmong x xs → q x ≡ false
none_of q xs x off k = by_test (q x) (λ yes. clash (list_any q xs) (any_among q xs x k yes) off) (λ no_. no_)

outline_passed : (o : Outline) (s : Shape) (p : Point) → IsBounded o s → list_any (λ f. is_on f p) o.edges.items ≡ false → pick (outline_part o p) (parts_passed o.kind) ≡ true
outline_passed o s p b off =
    subst (λ (k : Kind). pick (outline_part o p) (parts_passed k) ≡ true) (sym b.outline.kind)
    (subst (λ (j : Part). pick j (parts_passed (kind_of b.figure)) ≡ true) (sym (outline_part-is b.figure o p b.outline))
    (passed_in b.figure p b.geometry (λ f one. none_of (λ f. is_on f p) o.edges.items f off (subst (IsAmong f) (sym b.outline.edges) one))))

-- an edge that runs along none of the other geometry
own_row : (m : Matrix) (own : Outline) (e : Edge) (p : Point) (x : Extent) (j : Part) → own.kind ≢ Dots → (own.kind ≡ Polylines → has_no_end own e ≡ true) → IsAmong e own.edges.items → IsPointOf e p
    → rank x ≤ rank (pick j (pick (part_along own.kind) m.rows)) → rank x ≤ rank (entry m (outline_part own p) j)
own_row m own e p x j some free one of_p h =
    subst (λ (i : Part). rank x ≤ rank (entry m i j))
    (sym (along_is own.kind own.ends.items own.edges.items p some (any_among (λ f. is_on f p) own.edges.items e one of_p.on) (λ is. no_odd_end own e p (free is) of_p.wide of_p.on))) h

pub all_add_none : (m : Matrix) (own other : Outline) (es : List Edge) (vs : List Vertex) (s : Shape) (e : Edge) (near : List Edge) → IsBounded other s → IsOneOf own other es e → All (IsFound e near) other.edges.items
    → list_all (λ f. not (is_along e f)) other.edges.items ≡ true → IsAllShown m own other e near → IsEdgeMarked own other es vs e m m
all_add_none m own other es vs s e near bounded one found apart shown = adds_none m own other es vs e n.nodes n.are (record {
  nodes = λ p of_p. own_row m own e p Dot (outline_part other p) shown.own_edges shown.free one.one of_p
      (shown.nodes (outline_part other p) (outline_met other s e near p bounded found of_p));
  pieces = λ p q gap. own_row m own e (middle p q) Line (outline_part other (middle p q)) shown.own_edges shown.free one.one (here p q gap)
      (shown.pieces (outline_part other (middle p q)) (outline_passed other s (middle p q) bounded (off_others other e (middle p q) (gap_middle own other e n.nodes p q cuts gap) apart)));
  faces = λ p q gap slanted. shown.faces slanted (outline_above own (middle p q)) (outline_above other (middle p q)) (in_above own.kind own.edges.items (middle p q)) (in_above other.kind other.edges.items (middle p q));
})
  where
    long : HasLength e
    long = all_among HasLength e es one.edges.long (one.edges.first e one.one)

    n : HasNodeList es vs e
    n = nodes_exist es vs e long

    cuts : AreCuts own other e n.nodes
    cuts = cuts_of own other es vs e n.nodes one n.are

    here : (p q : Point) → IsGapOf p q n.nodes → IsPointOf e (middle p q)
    here p q gap = gap_point e n.nodes p q long n.are.points gap
