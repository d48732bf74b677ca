-- Edges that are marked in rounds: first those around the box of the other geometry, then those beyond.
use Rattle.std.proofs.Common.{◌≡◌, ◌≤◌, ◌<◌, ◌+◌, ◌⊎◌, inl, inr, refl, sym, subst, ap, ◌∙◌, true, false, List, [], ◌∷◌, ◌++◌, take, get_or, length}
use Rattle.std.specs.Prelude.{ℕ, Bool, not, All}
use Rattle.std.specs.List.{Contains, flat_map}
use Rattle.std.proofs.lemmas.List.{take_more, take_all, append-nil}
use Rattle.std.proofs.lemmas.List.Elements.{All-weaker}
use Rattle.geom_core.specs.declared.shape.Shape.{Shape}
use Rattle.relation_core.specs.declared.matrix.Matrix.{Matrix}
use Rattle.plane_core.specs.declared.edge.Edge.{Edge}
use Rattle.plane_core.specs.declared.vertex.Vertex.{Vertex}
use Rattle.plane_core.specs.declared.outline.Outline.{Outline}
use Rattle.edge_index_core.specs.Around.{IsKept, AreAround}
use Rattle.edge_index_core.specs.Beyond.{is_beyond}
use Rattle.noding_core.specs.Nodes.{IsAmong, NodedEdge, AreAllNoded}
use Rattle.noding_core.specs.Growth.{Mark, HasGrownBy, edge_marks, point_marks, outside, transposed}
use Rattle.noding_core.specs.ReadOffs.{points_by, outline_edges, outline_points, IsOwn, IsEdgeMarked, AreMarked, AreSomeMarked, AreAllMarked}
use Rattle.noding_core.proofs.AmongLemmas.{among_left, among_right, among_either}
use Rattle.noding_core.proofs.GrowthLemmas.{grown_as, grown-trans}
use Rattle.noding_core.proofs.NearLemmas.{contained}
use Rattle.noding_core.proofs.NodeLemmas.{all_among}
use Rattle.noding_core.proofs.ReadOffLemmas.{marked_none}
use Rattle.noding_core.proofs.TestLemmas.{by_test, clash}
use Rattle.noding_core.proofs.TurnLemmas.{turned_back, marked_from, both_points}
use Rattle.arrangement_core.specs.declared.wanted.Wanted.{Wanted}
use Rattle.arrangement_core.specs.Answers.{IsReadFor}
use Rattle.arrangement_core.specs.Asked.{start_of}
use Rattle.arrangement_core.proofs.AskedLemmas.{CanGrow, grow, agree_grown, start_agrees}

-- no edge, one edge, and one that isn't selected
pub some_none : (a b : Outline) (es : List Edge) (vs : List Vertex) (which : Edge → Bool) (m : Matrix) → AreSomeMarked a b es vs which [] m m
some_none a b es vs which m = record { listed = []; own = λ e k. absurd k; all = λ e k on. absurd k; marked = marked_none a b es vs m }

some_one : (a b : Outline) (es : List Edge) (vs : List Vertex) (which : Edge → Bool) (e : Edge) (old new : Matrix) → IsOwn a e → IsEdgeMarked a b es vs e old new
    → AreSomeMarked a b es vs which (e ∷ []) old new
some_one a b es vs which e old new one h =
    let n : NodedEdge = record { edge = e; nodes = h.nodes } in
    record {
      listed = e ∷ [];
      own = own;
      all = λ f k on. k;
      marked = record {
        noded = n ∷ [];
        are_noded = (refl, h.are_nodes, tt);
        grown = grown_as (edge_marks a b n) (flat_map (edge_marks a b) (n ∷ [])) old new (sym (append-nil (edge_marks a b n))) h.grown;
      };
    }
  where
    own : (f : Edge) → IsAmong f (e ∷ []) → IsOwn a f
    own f (inl is) = subst (IsOwn a) (sym is) one
    own f (inr k) = absurd k

some_not : (a b : Outline) (es : List Edge) (vs : List Vertex) (which : Edge → Bool) (e : Edge) (m : Matrix) → which e ≡ false → AreSomeMarked a b es vs which (e ∷ []) m m
some_not a b es vs which e m off = record { listed = []; own = λ f k. absurd k; all = all; marked = marked_none a b es vs m }
  where
    all : (f : Edge) → IsAmong f (e ∷ []) → which f ≡ true → IsAmong f []
    all f (inl is) on = clash (which e) (ap which (sym is) ∙ on) off
    all f (inr k) on = absurd k

-- some edges and then others
some_then : (a b : Outline) (es : List Edge) (vs : List Vertex) (which : Edge → Bool) (xs ys ds : List Edge) (old mid new : Matrix)
    → ((e : Edge) → IsAmong e ds → IsAmong e xs ⊎ IsAmong e ys)
    → AreSomeMarked a b es vs which xs old mid → AreSomeMarked a b es vs which ys mid new → AreSomeMarked a b es vs which ds old new
some_then a b es vs which xs ys ds old mid new split h k = record {
  listed = k.listed ++ h.listed;
  own = λ e one. elim (among_either e k.listed h.listed one) [ inl l ↦ k.own e l | inr r ↦ h.own e r ];
  all = λ e one on. elim (split e one) [
    | inl l ↦ among_right e k.listed h.listed (h.all e l on)
    | inr r ↦ among_left e k.listed h.listed (k.all e r on)
  ];
  marked = marked_from a b es vs k.listed h.listed (k.listed ++ h.listed) old mid new refl h.marked k.marked;
}

split_take : (ds : List Edge) (i : ℕ) (e f : Edge) → i < length ds → e ≡ get_or ds i e → IsAmong f (take (i + 1) ds) → IsAmong f (take i ds) ⊎ IsAmong f (e ∷ [])
split_take ds i e f lt is one =
    among_either f (take i ds) (e ∷ []) (subst (IsAmong f) (take_more ds i e lt ∙ ap (λ (x : Edge). take i ds ++ x ∷ []) (sym is)) one)

pub some_more : (a b : Outline) (es : List Edge) (vs : List Vertex) (which : Edge → Bool) (ds : List Edge) (i : ℕ) (e : Edge) (start old new : Matrix) → i < length ds → e ≡ get_or ds i e → IsOwn a e
    → AreSomeMarked a b es vs which (take i ds) start old → IsEdgeMarked a b es vs e old new → AreSomeMarked a b es vs which (take (i + 1) ds) start new
some_more a b es vs which ds i e start old new lt is one h k =
    some_then a b es vs which (take i ds) (e ∷ []) (take (i + 1) ds) start old new (λ f. split_take ds i e f lt is) h (some_one a b es vs which e old new one k)

pub some_skipped : (a b : Outline) (es : List Edge) (vs : List Vertex) (which : Edge → Bool) (ds : List Edge) (i : ℕ) (e : Edge) (start m : Matrix) → i < length ds → e ≡ get_or ds i e → which e ≡ false
    → AreSomeMarked a b es vs which (take i ds) start m → AreSomeMarked a b es vs which (take (i + 1) ds) start m
some_skipped a b es vs which ds i e start m lt is off h =
    some_then a b es vs which (take i ds) (e ∷ []) (take (i + 1) ds) start m m (λ f. split_take ds i e f lt is) h (some_not a b es vs which e m off)

pub some_whole : (a b : Outline) (es : List Edge) (vs : List Vertex) (which : Edge → Bool) (ds : List Edge) (i : ℕ) (start new : Matrix) → length ds ≤ i
    → AreSomeMarked a b es vs which (take i ds) start new → AreSomeMarked a b es vs which ds start new
some_whole a b es vs which ds i start new le h = subst (λ (done : List Edge). AreSomeMarked a b es vs which done start new) (take_all i ds le) h

-- the rest, if it can add nothing
some_shown : (a b : Outline) (es : List Edge) (vs : List Vertex) (which : Edge → Bool) (ds : List Edge) (m : Matrix) → ((e : Edge) → IsAmong e ds → IsOwn a e)
    → ((e : Edge) → IsAmong e ds → which e ≡ true → IsEdgeMarked a b es vs e m m) → AreSomeMarked a b es vs which ds m m
some_shown a b es vs which [] m own f = some_none a b es vs which m
some_shown a b es vs which (e ∷ ds) m own f =
    some_then a b es vs which (e ∷ []) ds (e ∷ ds) m m m split
    (by_test (which e) (λ on. some_one a b es vs which e m m (own e (inl refl)) (f e (inl refl) on)) (λ off. some_not a b es vs which e m off))
    (some_shown a b es vs which ds m (λ g k. own g (inr k)) (λ g k. f g (inr k)))
  where
    split : (g : Edge) → IsAmong g (e ∷ ds) → IsAmong g (e ∷ []) ⊎ IsAmong g ds
    split g (inl is) = inl (inl is)
    split g (inr k) = inr k

pub some_rest : (a b : Outline) (es : List Edge) (vs : List Vertex) (which : Edge → Bool) (ds : List Edge) (i : ℕ) (start m : Matrix) → All (IsOwn a) ds
    → ((e : Edge) → IsOwn a e → which e ≡ true → IsEdgeMarked a b es vs e m m)
    → AreSomeMarked a b es vs which (take i ds) start m → AreSomeMarked a b es vs which ds start m
some_rest a b es vs which ds i start m own f h =
    some_then a b es vs which (take i ds) ds ds start m m (λ e k. inr k) h
    (some_shown a b es vs which ds m (λ e k. all_among (IsOwn a) e ds own k) (λ e k on. f e (all_among (IsOwn a) e ds own k) on))

-- those that stand later first
pub some_turned : (a b : Outline) (es : List Edge) (vs : List Vertex) (which : Edge → Bool) (xs ys ds : List Edge) (old mid new : Matrix) → ds ≡ xs ++ ys
    → AreSomeMarked a b es vs which ys old mid → AreSomeMarked a b es vs which xs mid new → AreSomeMarked a b es vs which ds old new
some_turned a b es vs which xs ys ds old mid new is h k = some_then a b es vs which ys xs ds old mid new split h k
  where
    split : (e : Edge) → IsAmong e ds → IsAmong e ys ⊎ IsAmong e xs
    split e one = elim (among_either e xs ys (subst (IsAmong e) is one)) [ inl l ↦ inr l | inr r ↦ inl r ]

-- edges around a box
pub around_own : (s : Shape) (o : Outline) (near : List Edge) → AreAround s o.edges.items near → All (IsOwn o) near
around_own s o near h = All-weaker (Contains o.edges.items) (IsOwn o) (λ e k. contained o.edges.items e k) near h.own

not_on : (t : Bool) → not t ≡ true → t ≡ false
not_on true h = cc
not_on false h = refl

pub around_marked : (a b : Outline) (es : List Edge) (vs : List Vertex) (s : Shape) (near : List Edge) (old new : Matrix) → AreAround s a.edges.items near → AreMarked a b es vs near old new
    → AreSomeMarked a b es vs (λ e. not (is_beyond s e)) a.edges.items old new
around_marked a b es vs s near old new around h = record {
  listed = near;
  own = λ e k. all_among (IsOwn a) e near (around_own s a near around) k;
  all = λ e k on. contained near e (all_among (IsKept s near) e a.edges.items around.kept k (not_on (is_beyond s e) on));
  marked = h;
}

off_not : (t : Bool) → t ≡ false → not t ≡ true
off_not true h = cc
off_not false h = refl

-- all edges of both: around and beyond
pub rounds : (a b : Outline) (p q : Edge → Bool) (vs : List Vertex) (m0 m1 m2 m3 m4 : Matrix)
    → AreSomeMarked a b (outline_edges a b) vs (λ e. not (p e)) a.edges.items m0 m1
    → AreSomeMarked b a (outline_edges b a) vs (λ e. not (q e)) b.edges.items (transposed m1) m2
    → AreSomeMarked b a (outline_edges b a) vs q b.edges.items m2 m3
    → AreSomeMarked a b (outline_edges a b) vs p a.edges.items (transposed m3) m4
    → AreAllMarked a b vs m0 m4
rounds a b p q vs m0 m1 m2 m3 m4 near1 near2 far2 far1 = record {
  noded = whole.noded;
  are_noded = record { listed = far1.listed ++ (second ++ near1.listed); are = whole.are_noded; all = all; only = only };
  grown = whole.grown;
}
  where
    second : List Edge
    second = far2.listed ++ near2.listed

    both : AreMarked a b (outline_edges a b) vs (second ++ near1.listed) m0 (transposed m3)
    both = marked_from a b (outline_edges a b) vs second near1.listed (second ++ near1.listed) m0 m1 (transposed m3) refl near1.marked
        (turned_back a b vs second m1 m3
        (marked_from b a (outline_edges b a) vs far2.listed near2.listed second (transposed m1) m2 m3 refl near2.marked far2.marked))

    whole : AreMarked a b (outline_edges a b) vs (far1.listed ++ (second ++ near1.listed)) m0 m4
    whole = marked_from a b (outline_edges a b) vs far1.listed (second ++ near1.listed) (far1.listed ++ (second ++ near1.listed)) m0 (transposed m3) m4 refl both far1.marked

    of_first : (e : Edge) → IsAmong e a.edges.items → IsAmong e (far1.listed ++ (second ++ near1.listed))
    of_first e k = by_test (p e)
        (λ on. among_left e far1.listed (second ++ near1.listed) (far1.all e k on))
        (λ off. among_right e far1.listed (second ++ near1.listed) (among_right e second near1.listed (near1.all e k (off_not (p e) off))))

    of_second : (e : Edge) → IsAmong e b.edges.items → IsAmong e (far1.listed ++ (second ++ near1.listed))
    of_second e k = among_right e far1.listed (second ++ near1.listed) (among_left e second near1.listed (by_test (q e)
        (λ on. among_left e far2.listed near2.listed (far2.all e k on))
        (λ off. among_right e far2.listed near2.listed (near2.all e k (off_not (q e) off)))))

    all : (e : Edge) → IsAmong e (outline_edges a b) → IsAmong e (far1.listed ++ (second ++ near1.listed))
    all e one = elim (among_either e a.edges.items b.edges.items one) [ inl l ↦ of_first e l | inr r ↦ of_second e r ]

    own_first : (e : Edge) → IsOwn a e → IsAmong e (outline_edges a b)
    own_first e k = among_left e a.edges.items b.edges.items k

    own_second : (e : Edge) → IsOwn b e → IsAmong e (outline_edges a b)
    own_second e k = among_right e a.edges.items b.edges.items k

    in_second : (e : Edge) → IsAmong e second → IsAmong e (outline_edges a b)
    in_second e one = elim (among_either e far2.listed near2.listed one) [ inl l ↦ own_second e (far2.own e l) | inr r ↦ own_second e (near2.own e r) ]

    in_rest : (e : Edge) → IsAmong e (second ++ near1.listed) → IsAmong e (outline_edges a b)
    in_rest e one = elim (among_either e second near1.listed one) [ inl l ↦ in_second e l | inr r ↦ own_first e (near1.own e r) ]

    only : (e : Edge) → IsAmong e (far1.listed ++ (second ++ near1.listed)) → IsAmong e (outline_edges a b)
    only e one = elim (among_either e far1.listed (second ++ near1.listed) one) [ inl l ↦ own_first e (far1.own e l) | inr r ↦ in_rest e r ]

-- and the single points of both
pub with_points : (w : Wanted) (a b : Outline) (vs : List Vertex) (m first turned second new : Matrix) → vs ≡ outline_points a b → AreAllMarked a b vs (start_of w) m
    → HasGrownBy (point_marks a b (points_by a.kind a.ends.items)) m first → turned ≡ transposed first
    → HasGrownBy (point_marks b a (points_by b.kind b.ends.items)) turned second → new ≡ transposed second → IsReadFor w a b new
with_points w a b vs m first turned second new v h f et s en = record {
  matrix = whole.new;
  read = record {
    noded = h.noded;
    are_noded = subst (λ (x : List Vertex). AreAllNoded (outline_edges a b) x h.noded) v h.are_noded;
    grown = whole.grown;
  };
  agree = agree_grown false w ks (start_of w) new outside whole.new grown whole.grown (start_agrees w);
}
  where
    ks : List Mark
    ks = flat_map (edge_marks a b) h.noded ++ point_marks a b (outline_points a b)

    grown : HasGrownBy ks (start_of w) new
    grown = subst (λ (x : Matrix). HasGrownBy ks (start_of w) x) (sym en)
        (grown-trans (flat_map (edge_marks a b) h.noded) (point_marks a b (outline_points a b)) (start_of w) m (transposed second) h.grown
        (both_points a b (points_by a.kind a.ends.items) (points_by b.kind b.ends.items) m first second f
        (subst (λ (x : Matrix). HasGrownBy (point_marks b a (points_by b.kind b.ends.items)) x second) et s)))

    whole : CanGrow ks outside
    whole = grow ks outside
