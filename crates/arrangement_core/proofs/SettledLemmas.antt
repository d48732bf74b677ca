-- The matrix of two geometries is above each one that includes only some of their edges, so what
-- that one settles is settled for it.
use Rattle.std.proofs.Common.{◌∙◌, ◌≡◌, ◌≤◌, ◌<◌, ◌↔◌, ℕ, inl, inr, refl, sym, subst, arith, true, false, IsTrue, List, [], ◌∷◌, ◌++◌, ◌+◌, All, length, get_or, take, drop}
use Rattle.std.specs.Prelude.{Bool}
use Rattle.std.specs.List.{flat_map}
use Rattle.std.proofs.lemmas.List.{take-append-drop}
use Rattle.relation_core.specs.declared.extent.Extent.{Extent}
use Rattle.relation_core.specs.declared.extent.Extent.TheVariants.{Empty, Point as Dot, Line, Area}
use Rattle.relation_core.specs.declared.mask.Mask.{Mask}
use Rattle.relation_core.specs.declared.matrix.Matrix.{Matrix}
use Rattle.relation_core.specs.Relations.{FitsOne}
use Rattle.decision_core.specs.Orders.{IsBelow, IsBetween}
use Rattle.decision_core.specs.Decisions.{FitsEach, FitsNone}
use Rattle.plane_core.specs.declared.part.Part.{Part}
use Rattle.plane_core.specs.declared.edge.Edge.{Edge}
use Rattle.plane_core.specs.declared.vertex.Vertex.{Vertex}
use Rattle.plane_core.specs.declared.outline.Outline.{Outline}
use Rattle.plane_core.specs.Figures.{Figure, HasLength, IsGeometry}
use Rattle.plane_core.specs.Outlines.{IsOutlineOf}
use Rattle.plane_core.specs.Outlines.{outline_part}
use Rattle.plane_core.specs.Points.{Point}
use Rattle.plane_core.specs.PlaneMatrices.{IsPlaneMatrix, IsEntry, IsInBoth, entry}
use Rattle.plane_core.proofs.OutlineLemmas.{outline_part-is}
use Rattle.plane_core.proofs.OnePlaneMatrix.{one_plane_matrix}
use Rattle.noding_core.specs.Nodes.{IsAmong, NodedEdge, AreNoded}
use Rattle.noding_core.specs.Marks.{rank}
use Rattle.noding_core.specs.Growth.{Mark, HasGrownBy, mark_at, edge_marks, point_marks, outside, transposed}
use Rattle.noding_core.specs.ReadOffs.{outline_edges, outline_points, IsOwn, IsEdgeMarked, AreMarked, AreSomeMarked, IsReadOffBy}
use Rattle.noding_core.proofs.AmongLemmas.{among_left, among_either}
use Rattle.noding_core.proofs.ExistLemmas.{nodes_exist}
use Rattle.noding_core.proofs.GrowthLemmas.{grown-trans}
use Rattle.noding_core.proofs.LawLemmas.{matrix_of, outlines_long}
use Rattle.noding_core.proofs.NodeLemmas.{all_among}
use Rattle.noding_core.proofs.ReadOffLemmas.{marked_none, marked_more}
use Rattle.noding_core.proofs.TurnLemmas.{entry-transposed, marked_from, turned_back, edges_turned, long_turned, all_front}
use Rattle.shown_core.specs.Beyond.{IsBounded}
use Rattle.geom_core.specs.declared.shape.Shape.{Shape}
use Rattle.arrangement_core.specs.declared.wanted.Question.{Question}
use Rattle.arrangement_core.specs.declared.wanted.Wanted.{Wanted}
use Rattle.arrangement_core.specs.declared.wanted.Wanted.TheVariants.{Whole, Fitting, Answer}
use Rattle.arrangement_core.specs.declared.wanted.Stop.{Stop}
use Rattle.arrangement_core.specs.declared.wanted.Stop.TheVariants.{Memory, Settled}
use Rattle.arrangement_core.specs.Fits.{FitMatrix, IsUpperBound}
use Rattle.arrangement_core.specs.Answers.{IsLowerBound, FitsSurely, FailsSurely, IsSettled, IsStop, IsAnswer, IsEnd, HasEdges, IsBegun, IsReadFor, IsMatrixFor, first_of, second_of, in_order}
use Rattle.arrangement_core.specs.Asked.{loosened, start_of}
use Rattle.arrangement_core.proofs.AskedLemmas.{grow, agree_grown, agree_turned, start_agrees, whole_agrees, fitting_agrees, masks_fit, below_by_entries, below_loosened, both_loosened, loose_fits, fits_loose}

-- any edges have nodes
record HasNoded (es : List Edge) (vs : List Vertex) (xs : List Edge) : Type 0 where
  noded : List NodedEdge
  are : AreNoded es vs xs noded

noded_all : (es : List Edge) (vs : List Vertex) (xs : List Edge) → ((e : Edge) → IsAmong e xs → HasLength e) → HasNoded es vs xs
noded_all es vs [] long = record { noded = []; are = tt }
noded_all es vs (e ∷ xs) long =
    let n = nodes_exist es vs e (long e (inl refl)) in
    let rest = noded_all es vs xs (λ f one. long f (inr one)) in
    record { noded = record { edge = e; nodes = n.nodes } ∷ rest.noded; are = (refl, n.are, rest.are) }

-- so the edges that a matrix lacks can be added, and all points
pub record CanEnd (a b : Outline) (m : Matrix) : Type 0 where
  pub whole : Matrix
  pub read : IsReadOffBy a b whole
  pub above : (i j : Part) → rank (entry m i j) ≤ rank (entry whole i j)

pub can_end : (a b : Outline) (vs : List Vertex) (m : Matrix) → All HasLength (outline_edges a b) → vs ≡ outline_points a b → HasEdges a b vs m → CanEnd a b m
can_end a b vs m long points begun =
    let es : List Edge = outline_edges a b in
    let ws : List Vertex = outline_points a b in
    let marked : AreMarked a b es ws begun.listed outside m = subst (λ (x : List Vertex). AreMarked a b (outline_edges a b) x begun.listed outside m) points begun.marked in
    let all = noded_all es ws es (λ e one. all_among HasLength e es long one) in
    let edges = grow (flat_map (edge_marks a b) all.noded) m in
    let rest : AreMarked a b es ws es m edges.new = record { noded = all.noded; are_noded = all.are; grown = edges.grown } in
    let both : AreMarked a b es ws (es ++ begun.listed) outside edges.new = marked_from a b es ws es begun.listed (es ++ begun.listed) outside m edges.new refl marked rest in
    let dots = grow (point_marks a b ws) edges.new in
    record {
      whole = dots.new;
      read = record {
        noded = both.noded;
        are_noded = record {
          listed = es ++ begun.listed;
          are = both.are_noded;
          all = λ e one. among_left e es begun.listed one;
          only = λ e one. elim (among_either e es begun.listed one) [ inl l ↦ l | inr r ↦ begun.own e r ];
        };
        grown = grown-trans (flat_map (edge_marks a b) both.noded) (point_marks a b ws) outside edges.new dots.new both.grown dots.grown;
      };
      above = λ i j. up _ _ _ (edges.grown.kept i j) (dots.grown.kept i j);
    }
  where
    up : (r s t : ℕ) → r ≤ s → s ≤ t → r ≤ t
    up r s t h k = omega arith

-- no edges yet
no_edges : (a b : Outline) (vs : List Vertex) → HasEdges a b vs outside
no_edges a b vs = record { listed = []; own = λ e one. absurd one; marked = marked_none a b (outline_edges a b) vs outside }

pub begun_none : (w : Wanted) (a b : Outline) (vs : List Vertex) → vs ≡ outline_points a b → IsBegun w false a b vs (start_of w)
begun_none w a b vs points = record { points = points; part = outside; edges = no_edges a b vs; agree = start_agrees w }

-- and more edges
begun_more : (w : Wanted) (t : Bool) (a b : Outline) (vs : List Vertex) (ds : List Edge) (old new : Matrix) → ((e : Edge) → IsAmong e ds → IsOwn a e)
    → IsBegun w t a b vs old → AreMarked a b (outline_edges a b) vs ds old new → IsBegun w t a b vs new
begun_more w t a b vs ds old new own begun marked =
    let was = begun.edges in
    let ks : List Mark = flat_map (edge_marks a b) marked.noded in
    let more = grow ks begun.part in
    record {
      points = begun.points;
      part = more.new;
      edges = record {
        listed = ds ++ was.listed;
        own = λ e one. elim (among_either e ds was.listed one) [ inl l ↦ among_left e a.edges.items b.edges.items (own e l) | inr r ↦ was.own e r ];
        marked = marked_from a b (outline_edges a b) vs ds was.listed (ds ++ was.listed) outside begun.part more.new refl was.marked
            (record { noded = marked.noded; are_noded = marked.are_noded; grown = more.grown });
      };
      agree = agree_grown t w ks old new begun.part more.new marked.grown more.grown begun.agree;
    }

pub begun_own : (w : Wanted) (t : Bool) (a b : Outline) (vs : List Vertex) (ds : List Edge) (old new : Matrix) → All (IsOwn a) ds
    → IsBegun w t a b vs old → AreMarked a b (outline_edges a b) vs ds old new → IsBegun w t a b vs new
begun_own w t a b vs ds old new own begun marked = begun_more w t a b vs ds old new (λ e one. all_among (IsOwn a) e ds own one) begun marked

-- once some edges of the first geometry are marked
pub begun_some : (w : Wanted) (t : Bool) (a b : Outline) (vs : List Vertex) (which : Edge → Bool) (ds : List Edge) (old new : Matrix)
    → IsBegun w t a b vs old → AreSomeMarked a b (outline_edges a b) vs which ds old new → IsBegun w t a b vs new
begun_some w t a b vs which ds old new begun some = begun_more w t a b vs some.listed old new some.own begun some.marked

-- and for the geometries in reverse order
edges_back : (a b : Outline) (vs : List Vertex) (m : Matrix) → HasEdges a b vs m → HasEdges b a vs (transposed m)
edges_back a b vs m is = record {
  listed = is.listed;
  own = λ e one. edges_turned a b e (is.own e one);
  marked = turned_back b a vs is.listed outside m is.marked;
}

pub begun_turned : (w : Wanted) (a b : Outline) (vs : List Vertex) (m : Matrix) → IsBegun w false a b vs m → IsBegun w true b a vs (transposed m)
begun_turned w a b vs m begun = record {
  points = begun.points;
  part = transposed begun.part;
  edges = edges_back a b vs begun.part begun.edges;
  agree = agree_turned w m begun.part begun.agree;
}

-- two geometries have one matrix that is read off
module _ (a b : Outline) (s t : Shape) (first : IsBounded a s) (second : IsBounded b t) where
  is_plane : (m : Matrix) → IsReadOffBy a b m → IsPlaneMatrix first.figure second.figure m
  is_plane m read = (matrix_of a b m read).is first.figure second.figure first.outline second.outline first.geometry second.geometry

  one_read : (m n : Matrix) → IsReadOffBy a b m → IsReadOffBy a b n → m ≡ n
  one_read m n r k = one_plane_matrix first.figure second.figure m n (is_plane m r) (is_plane n k)

  part_of : (vs : List Vertex) (m : Matrix) → All HasLength (outline_edges a b) → vs ≡ outline_points a b → HasEdges a b vs m
      → (n : Matrix) → IsReadOffBy a b n → (i j : Part) → rank (entry m i j) ≤ rank (entry n i j)
  part_of vs m long points edges n read i j =
      let end = can_end a b vs m long points edges in
      subst (λ (x : Matrix). rank (entry m i j) ≤ rank (entry x i j)) (one_read end.whole n end.read read) (end.above i j)

same_below : (d e f : Extent) → d ≡ e → rank e ≤ rank f → rank d ≤ rank f
same_below d e f is h = subst (λ (x : Extent). rank x ≤ rank f) (sym is) h

-- in the order in which the two are asked for
part_asked : (w : Wanted) (t : Bool) (a b : Outline) (s u : Shape) (vs : List Vertex) (m : Matrix) → IsBounded a s → IsBounded b u → All HasLength (outline_edges a b)
    → IsBegun w t a b vs m → IsLowerBound w (first_of t a b) (second_of t a b) (in_order t m)
part_asked w false a b s u vs m first second long begun n read i j wanted =
    same_below (entry m i j) (entry begun.part i j) (entry n i j) (begun.agree i j wanted)
    (part_of a b s u first second vs begun.part long begun.points begun.edges n read i j)
part_asked w true a b s u vs m first second long begun n read i j wanted =
    same_below (entry (transposed m) i j) (entry (transposed begun.part) i j) (entry n i j) (begun.agree i j wanted)
    (part_of b a u s second first vs (transposed begun.part) (long_turned a b b a refl refl long) begun.points (edges_back a b vs begun.part begun.edges) n read i j)

-- a point in two parts is in what they have in common
point_rank : (P : Point → Type 0) (x : Extent) (p : Point) → 0 < p.w → P p → IsEntry P x → 1 ≤ rank x
point_rank P Empty p wide is none = absurd (none (p, wide, is))
point_rank P Dot p wide is h = omega arith
point_rank P Line p wide is h = omega arith
point_rank P Area p wide is h = omega arith

point_entry : (a b : Outline) (s u : Shape) (p : Point) (m : Matrix) → IsBounded a s → IsBounded b u → 0 < p.w → IsReadOffBy a b m → 1 ≤ rank (entry m (outline_part a p) (outline_part b p))
point_entry a b s u p m first second wide read =
    point_rank (IsInBoth first.figure second.figure (outline_part a p) (outline_part b p)) (entry m (outline_part a p) (outline_part b p)) p wide
    (record { first = sym (outline_part-is first.figure a p first.outline); second = sym (outline_part-is second.figure b p second.outline) })
    ((is_plane a b s u first second m read).is (outline_part a p) (outline_part b p))

one_mark : (k m : Mark) → IsAmong k (m ∷ []) → k ≡ m
one_mark k m (inl is) = is
one_mark k m (inr none) = absurd none

-- so a matrix that has grown by a point of both is below that of the two geometries
pub met_asked : (w : Wanted) (t : Bool) (a b : Outline) (s u : Shape) (vs : List Vertex) (p : Point) (old new : Matrix) → IsBounded a s → IsBounded b u → All HasLength (outline_edges a b) → 0 < p.w
    → IsBegun w t a b vs old → HasGrownBy (mark_at a b Dot p ∷ []) old new → IsLowerBound w (first_of t a b) (second_of t a b) (in_order t new)
met_asked w false a b s u vs p old new first second long wide begun grown n read i j wanted = elim (grown.sound i j) [
  | inl same ↦ same_below (entry new i j) (entry old i j) (entry n i j) same (part_asked w false a b s u vs old first second long begun n read i j wanted)
  | inr one ↦ subst (λ (k : Mark). rank k.extent ≤ rank (entry n k.first k.second)) (sym (one_mark _ _ one)) (point_entry a b s u p n first second wide read)
]
met_asked w true a b s u vs p old new first second long wide begun grown n read i j wanted = elim (grown.sound j i) [
  | inl same ↦ same_below (entry (transposed new) i j) (entry (transposed old) i j) (entry n i j) (entry-transposed new i j ∙ same ∙ sym (entry-transposed old i j))
      (part_asked w true a b s u vs old first second long begun n read i j wanted)
  | inr one ↦ same_below (entry (transposed new) i j) (entry new j i) (entry n i j) (entry-transposed new i j)
      (subst (λ (k : Mark). rank k.extent ≤ rank (entry n k.second k.first)) (sym (one_mark _ _ one)) (point_entry b a u s p n second first wide read))
]

-- so each matrix on the way is below that of the two geometries
pub part_next : (w : Wanted) (t : Bool) (a b : Outline) (s u : Shape) (vs : List Vertex) (ds : List Edge) (i : ℕ) (e : Edge) (start old new : Matrix) → i < length ds → e ≡ get_or ds i e → All (IsOwn a) ds
    → IsBounded a s → IsBounded b u → All HasLength (outline_edges a b) → IsBegun w t a b vs start
    → AreMarked a b (outline_edges a b) vs (take i ds) start old → IsEdgeMarked a b (outline_edges a b) vs e old new
    → IsLowerBound w (first_of t a b) (second_of t a b) (in_order t new)
part_next w t a b s u vs ds i e start old new lt is own first second long begun marked more =
    part_asked w t a b s u vs new first second long
    (begun_own w t a b vs (take (i + 1) ds) start new
    (all_front (IsOwn a) ds (take (i + 1) ds) (drop (i + 1) ds) (sym (take-append-drop (i + 1) ds)) own) begun
    (marked_more a b (outline_edges a b) vs ds i e start old new lt is marked more))

-- what bounds of a matrix settle is settled for it
all_fail : (q : Question) (a b : Outline) (least : Matrix) → IsLowerBound (Fitting q) a b least → FitsNone q.masks.now least q.greatest → FailsSurely q a b
all_fail q a b least above none m is below = none m (record { above = below_by_entries least m (λ i j. above m is i j refl); below = below })

between_loosened : (q : Question) (a b : Outline) (least m : Matrix) → IsLowerBound (Answer q) a b least → IsReadOffBy a b m → IsBelow m q.greatest
    → IsBetween least (loosened q.masks.now q.greatest) (loosened q.masks.now m)
between_loosened q a b least m above is below = record {
  above = below_loosened q.masks.now least m (above m is);
  below = both_loosened q.masks.now m q.greatest below;
}

surely_fits : (q : Question) (a b : Outline) (least : Matrix) → IsLowerBound (Answer q) a b least
    → FitsEach q.masks.now least (loosened q.masks.now q.greatest) → FitsSurely q a b
surely_fits q a b least above each m is below = loose_fits q.masks.now m (each (loosened q.masks.now m) (between_loosened q a b least m above is below))

surely_fails : (q : Question) (a b : Outline) (least : Matrix) → IsLowerBound (Answer q) a b least
    → FitsNone q.masks.now least (loosened q.masks.now q.greatest) → FailsSurely q a b
surely_fails q a b least above none m is below fit =
    none (loosened q.masks.now m) (between_loosened q a b least m above is below) (fits_loose q.masks.now m fit)

pub fitting_fails : (w : Wanted) (q : Question) (least bound : Matrix) → w ≡ Fitting q → bound ≡ least → FitsNone q.masks.now bound q.greatest
    → (a b : Outline) → IsLowerBound w a b least → IsSettled w a b false
fitting_fails w q least bound is same none a b above =
    subst (λ (x : Wanted). IsSettled x a b false) (sym is)
    (all_fail q a b least (subst (λ (x : Wanted). IsLowerBound x a b least) is above) (subst (λ (x : Matrix). FitsNone q.masks.now x q.greatest) same none))

pub answer_holds : (w : Wanted) (q : Question) (least bound : Matrix) → w ≡ Answer q → bound ≡ least → FitsEach q.masks.now bound (loosened q.masks.now q.greatest)
    → (a b : Outline) → IsLowerBound w a b least → IsSettled w a b true
answer_holds w q least bound is same each a b above =
    subst (λ (x : Wanted). IsSettled x a b true) (sym is)
    (surely_fits q a b least (subst (λ (x : Wanted). IsLowerBound x a b least) is above)
    (subst (λ (x : Matrix). FitsEach q.masks.now x (loosened q.masks.now q.greatest)) same each))

pub answer_fails : (w : Wanted) (q : Question) (least bound : Matrix) → w ≡ Answer q → bound ≡ least → FitsNone q.masks.now bound (loosened q.masks.now q.greatest)
    → (a b : Outline) → IsLowerBound w a b least → IsSettled w a b false
answer_fails w q least bound is same none a b above =
    subst (λ (x : Wanted). IsSettled x a b false) (sym is)
    (surely_fails q a b least (subst (λ (x : Wanted). IsLowerBound x a b least) is above)
    (subst (λ (x : Matrix). FitsNone q.masks.now x (loosened q.masks.now q.greatest)) same none))

-- two geometries that have these outlines have a matrix, which is read off
module _ (a b : Outline) (g h : Figure) (og : IsOutlineOf g a) (oh : IsOutlineOf h b) (good_g : IsGeometry g) (good_h : IsGeometry h) where
  whole : CanEnd a b outside
  whole = can_end a b (outline_points a b) outside (outlines_long g h a b og oh good_g good_h) refl (no_edges a b (outline_points a b))

  pub plane_of_read : (m : Matrix) → IsReadOffBy a b m → IsPlaneMatrix g h m
  plane_of_read m read = (matrix_of a b m read).is g h og oh good_g good_h

  read_of_plane : (m : Matrix) → IsPlaneMatrix g h m → IsReadOffBy a b m
  read_of_plane m is = subst (IsReadOffBy a b) (one_plane_matrix g h whole.whole m (plane_of_read whole.whole whole.read) is) whole.read

  -- so what is settled of it is settled for them
  it_fits : (q : Question) → FitsSurely q a b → IsUpperBound g h q.greatest → FitMatrix q.masks.now g h
  it_fits q surely limit =
      let m = whole.whole in
      let is = plane_of_read m whole.read in
      record { matrix = m; is = is; fits = surely m whole.read (limit m good_g good_h is) }

  it_fails : (q : Question) → FailsSurely q a b → IsUpperBound g h q.greatest → ¬ (FitMatrix q.masks.now g h)
  it_fails q surely limit fit = surely fit.matrix (read_of_plane fit.matrix fit.is) (limit fit.matrix good_g good_h fit.is) fit.fits

  pub end_of : (w : Wanted) (stop : Stop) → IsStop w a b stop → IsEnd w g h stop
  end_of w (Memory error) is = tt
  end_of Whole (Settled answer) is = is
  end_of (Fitting q) (Settled answer) is = it_fails q is
  end_of (Answer q) (Settled true) is = it_fits q is
  end_of (Answer q) (Settled false) is = it_fails q is

-- the matrix that is read off is theirs
pub matrix_read : (w : Wanted) (a b : Outline) (g h : Figure) (m : Matrix) → IsOutlineOf g a → IsOutlineOf h b → IsGeometry g → IsGeometry h → IsReadFor w a b m → IsMatrixFor w g h m
matrix_read w a b g h m og oh good_g good_h read = record {
  matrix = read.matrix;
  is = plane_of_read a b g h og oh good_g good_h read.matrix read.read;
  agree = read.agree;
}

pub whole_matrix : (g h : Figure) (m : Matrix) → IsMatrixFor Whole g h m → IsPlaneMatrix g h m
whole_matrix g h m is = subst (IsPlaneMatrix g h) (sym (whole_agrees m is.matrix is.agree)) is.is

pub fitting_matrix : (q : Question) (g h : Figure) (m : Matrix) → IsMatrixFor (Fitting q) g h m → IsPlaneMatrix g h m
fitting_matrix q g h m is = subst (IsPlaneMatrix g h) (sym (fitting_agrees (Fitting q) m is.matrix (λ i j. refl) is.agree)) is.is

-- the matrix tells whether a mask fits
pub fit_by_matrix : (masks : List Mask) (g h : Figure) (m : Matrix) → IsPlaneMatrix g h m → FitsOne masks m → FitMatrix masks g h
fit_by_matrix masks g h m is fits = record { matrix = m; is = is; fits = fits }

pub matrix_by_fit : (masks : List Mask) (g h : Figure) (m : Matrix) → IsPlaneMatrix g h m → FitMatrix masks g h → FitsOne masks m
matrix_by_fit masks g h m is fit = subst (FitsOne masks) (one_plane_matrix g h fit.matrix m fit.is is) fit.fits

-- so does one in which each entry for which a mask asks is right
pub fit_by_answer : (q : Question) (g h : Figure) (m : Matrix) → IsMatrixFor (Answer q) g h m → FitsOne q.masks.now m → FitMatrix q.masks.now g h
fit_by_answer q g h m is fits = fit_by_matrix q.masks.now g h is.matrix is.is (masks_fit q.masks.now m is.matrix is.agree fits)

pub answer_by_fit : (q : Question) (g h : Figure) (m : Matrix) → IsMatrixFor (Answer q) g h m → FitMatrix q.masks.now g h → FitsOne q.masks.now m
answer_by_fit q g h m is fit =
    masks_fit q.masks.now is.matrix m (λ i j asked. sym (is.agree i j asked)) (matrix_by_fit q.masks.now g h is.matrix is.is fit)

-- and so does the answer of an early end
answer_right : (q : Question) (g h : Figure) (answer : Bool) → IsAnswer (Answer q) g h answer → IsUpperBound g h q.greatest → IsTrue answer ↔ FitMatrix q.masks.now g h
answer_right q g h true is limit = (λ yes. is limit, λ fit. refl)
answer_right q g h false is limit = (λ yes. absurd cc, λ fit. absurd (is limit fit))

pub settled_right : (q : Question) (g h : Figure) (stop : Stop) (answer : Bool) → stop ≡ Settled answer → IsEnd (Answer q) g h stop → IsUpperBound g h q.greatest
    → IsTrue answer ↔ FitMatrix q.masks.now g h
settled_right q g h stop answer is end limit = answer_right q g h answer (subst (IsEnd (Answer q) g h) is end) limit
