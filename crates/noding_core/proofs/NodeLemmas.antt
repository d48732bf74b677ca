-- The nodes of an edge in order: a point of the edge is the place of one, or lies in a gap between two
-- in a row, and no node lies in a gap.
use Rattle.std.proofs.Common.{◌<◌, ◌⊎◌, inl, inr, refl, sym, subst, ap, ◌∙◌, List, [], ◌∷◌}
use Rattle.std.specs.Prelude.{All}
use Rattle.std.proofs.lemmas.List.Elements.{All-head, All-tail}
use Rattle.plane_core.specs.declared.edge.Edge.{Edge}
use Rattle.plane_core.specs.declared.vertex.Vertex.{Vertex}
use Rattle.plane_core.specs.Points.{Point, IsBefore}
use Rattle.noding_core.specs.Nodes.{IsAmong, IsPlaceOf, IsUpTo, Ascend, AreNodesOf, NodedEdge, IsGapOf, AreNoded, AreAllNoded}
use Rattle.noding_core.proofs.OrderLemmas.{order, before_trans, before_same, up_to_before, before_up_to, up_to_after, not_before_itself, same_sym, same_trans}

pub all_among : {A : Type 0} (P : A → Type 0) (x : A) (xs : List A) → All P xs → IsAmong x xs → P x
all_among P x [] h k = absurd k
all_among P x (y ∷ ys) h (inl e) = subst P (sym e) (All-head P y ys h)
all_among P x (y ∷ ys) h (inr k) = all_among P x ys (All-tail P y ys h) k

abbrev pub IsWide : Point → Type 0
IsWide p = 0 < p.w

-- a point between two nodes in a row
pub record IsInGap (ns : List Point) (k l p : Point) : Type 0 where
  pub gap : IsGapOf k l ns
  pub after : IsBefore k p
  pub before : IsBefore p l

-- the nodes of a gap are among the nodes
pub gap_first : (k l : Point) (ns : List Point) → IsGapOf k l ns → IsAmong k ns
gap_first k l [] h = absurd h
gap_first k l (n ∷ []) h = absurd h
gap_first k l (m ∷ n ∷ ns) (inl h) = inl h.0
gap_first k l (m ∷ n ∷ ns) (inr h) = inr (gap_first k l (n ∷ ns) h)

pub gap_second : (k l : Point) (ns : List Point) → IsGapOf k l ns → IsAmong l ns
gap_second k l [] h = absurd h
gap_second k l (n ∷ []) h = absurd h
gap_second k l (m ∷ n ∷ ns) (inl h) = inr (inl h.1)
gap_second k l (m ∷ n ∷ ns) (inr h) = inr (gap_second k l (n ∷ ns) h)

pub gap_order : (k l : Point) (ns : List Point) → IsGapOf k l ns → IsBefore k l
gap_order k l [] h = absurd h
gap_order k l (n ∷ []) h = absurd h
gap_order k l (m ∷ n ∷ ns) (inl h) = subst (λ (z : Point). IsBefore z l) (sym h.0) (subst (λ (z : Point). IsBefore m z) (sym h.1) h.2)
gap_order k l (m ∷ n ∷ ns) (inr h) = gap_order k l (n ∷ ns) h

pub record Located (ns : List Point) (p : Point) : Type 0 where
  pub from_ : Point
  pub to_ : Point
  pub in_gap : IsInGap ns from_ to_ p

-- after the first node, and not after all
locate_from : (m : Point) (ns : List Point) (p hi : Point) → 0 < p.w → 0 < hi.w → All IsWide (m ∷ ns) → IsBefore m p → IsUpTo p hi → IsPlaceOf hi (m ∷ ns)
    → IsPlaceOf p (m ∷ ns) ⊎ Located (m ∷ ns) p
locate_from m [] p hi wp wh wide h k (inl s) =
    absurd (not_before_itself m (before_same m hi m wh (All-head IsWide m [] wide) (before_up_to m p hi (All-head IsWide m [] wide) wp wh h k) s))
locate_from m [] p hi wp wh wide h k (inr s) = absurd s
locate_from m (n ∷ ns) p hi wp wh wide h k (inl s) =
    absurd (not_before_itself m (before_same m hi m wh (All-head IsWide m (n ∷ ns) wide) (before_up_to m p hi (All-head IsWide m (n ∷ ns) wide) wp wh h k) s))
locate_from m (n ∷ ns) p hi wp wh wide h k (inr s) = elim (order n p) [
  | inl b ↦ elim (locate_from n ns p hi wp wh (All-tail IsWide m (n ∷ ns) wide) b k s) [
    | inl f ↦ inl (inr f)
    | inr f ↦ inr (record {
      from_ = f.from_;
      to_ = f.to_;
      in_gap = record { gap = inr f.in_gap.gap; after = f.in_gap.after; before = f.in_gap.before };
    })
  ]
  | inr c ↦ elim c [
    | inl f ↦ inl (inr (inl (same_sym n p f)))
    | inr f ↦ inr (record {
      from_ = m;
      to_ = n;
      in_gap = record {
        gap = inl (refl, refl, before_trans m p n (All-head IsWide m (n ∷ ns) wide) wp (All-head IsWide n ns (All-tail IsWide m (n ∷ ns) wide)) h f);
        after = h;
        before = f;
      };
    })
  ]
]

-- the first node isn't after any of them
first_up_to : (m z : Point) (ns : List Point) → All (IsUpTo m) ns → 0 < z.w → 0 < m.w → All IsWide ns → IsPlaceOf z ns → IsUpTo m z
first_up_to m z [] h wz wm wide k = absurd k
first_up_to m z (n ∷ ns) h wz wm wide (inl s) = plain (All-head (IsUpTo m) n ns h)
  where
    plain : IsUpTo m n → IsUpTo m z
    plain (inl b) = inl (before_same m n z (All-head IsWide n ns wide) wz b (same_sym z n s))
    plain (inr b) = inr (same_trans m n z wm (All-head IsWide n ns wide) wz b (same_sym z n s))
first_up_to m z (n ∷ ns) h wz wm wide (inr k) = first_up_to m z ns (All-tail (IsUpTo m) n ns h) wz wm (All-tail IsWide n ns wide) k

-- a point that isn't before all nodes, nor after all
pub locate : (ns : List Point) (p lo hi : Point) → 0 < p.w → 0 < lo.w → 0 < hi.w → All IsWide ns → Ascend ns → IsUpTo lo p → IsPlaceOf lo ns → IsUpTo p hi → IsPlaceOf hi ns
    → IsPlaceOf p ns ⊎ Located ns p
locate [] p lo hi wp wl wh wide up from_ lo_is to_ hi_is = absurd lo_is
locate (m ∷ ns) p lo hi wp wl wh wide up from_ lo_is to_ hi_is = elim (order m p) [
  | inl b ↦ locate_from m ns p hi wp wh wide b to_ hi_is
  | inr c ↦ elim c [
    | inl s ↦ inl (inl (same_sym m p s))
    | inr b ↦ absurd (up_to_after lo p wl wp from_ (before_up_to p m lo wp (All-head IsWide m ns wide) wl b (least lo_is)))
  ]
]
  where
    least : IsPlaceOf lo (m ∷ ns) → IsUpTo m lo
    least (inl s) = inr (same_sym lo m s)
    least (inr s) = first_up_to m lo ns up.0 wl (All-head IsWide m ns wide) (All-tail IsWide m ns wide) s

-- no node lies in a gap
pub none_in_gap : (k l z : Point) (ns : List Point) → 0 < z.w → All IsWide ns → Ascend ns → IsInGap ns k l z → IsPlaceOf z ns → ⊥
none_in_gap k l z [] wz wide up in_ h = absurd h
none_in_gap k l z (n ∷ []) wz wide up in_ h = absurd in_.gap
none_in_gap k l z (m ∷ n ∷ ns) wz wide up in_ h =
    by_case (λ g s. none_in_gap k l z (n ∷ ns) wz (All-tail IsWide m (n ∷ ns) wide) up.1 (record { gap = g; after = in_.after; before = in_.before }) s) in_.gap h
  where
    wm : 0 < m.w
    wm = All-head IsWide m (n ∷ ns) wide

    wn : 0 < n.w
    wn = All-head IsWide n ns (All-tail IsWide m (n ∷ ns) wide)

    rest : All IsWide (n ∷ ns)
    rest = All-tail IsWide m (n ∷ ns) wide

    least : IsPlaceOf z (n ∷ ns) → IsUpTo n z
    least (inl s) = inr (same_sym z n s)
    least (inr s) = first_up_to n z ns up.1.0 wz wn (All-tail IsWide n ns rest) s

    by_case : (IsGapOf k l (n ∷ ns) → IsPlaceOf z (n ∷ ns) → ⊥) → IsGapOf k l (m ∷ n ∷ ns) → IsPlaceOf z (m ∷ n ∷ ns) → ⊥
    by_case later (inl g) (inl s) = not_before_itself m (before_same m z m wz wm (subst (λ (y : Point). IsBefore y z) g.0 in_.after) s)
    by_case later (inl g) (inr s) = up_to_after n z wn wz (least s) (subst (λ (y : Point). IsBefore z y) g.1 in_.before)
    by_case later (inr g) (inl s) =
        let first : IsAmong k (n ∷ ns) = gap_first k l (n ∷ ns) g in
        let wk : 0 < k.w = all_among IsWide k (n ∷ ns) rest first in
        not_before_itself m (up_to_before m k m wm wk wm (all_among (IsUpTo m) k (n ∷ ns) up.0 first) (before_same k z m wz wm in_.after s))
    by_case later (inr g) (inr s) = later g s

-- the nodes that an edge is listed with
pub record HasNodes (es : List Edge) (vs : List Vertex) (ms : List NodedEdge) (e : Edge) : Type 0 where
  pub nodes : List Point
  pub one : IsAmong (record { edge = e; nodes = nodes }) ms
  pub are : AreNodesOf es vs e nodes

pub noded_of : (es : List Edge) (vs : List Vertex) (rest : List Edge) (ms : List NodedEdge) (e : Edge) → AreNoded es vs rest ms → IsAmong e rest → HasNodes es vs ms e
noded_of es vs [] ms e h k = absurd k
noded_of es vs (f ∷ rest) [] e h k = absurd h
noded_of es vs (f ∷ rest) (m ∷ ms) e h (inl s) = record {
  nodes = m.nodes;
  one = inl (λ i. record { edge = (s ∙ sym h.0) i; nodes = m.nodes });
  are = subst (λ (x : Edge). AreNodesOf es vs x m.nodes) (sym s) h.1;
}
noded_of es vs (f ∷ rest) (m ∷ ms) e h (inr k) =
    let n = noded_of es vs rest ms e h.2 k in
    record { nodes = n.nodes; one = inr n.one; are = n.are }

-- and the edge of listed nodes
pub record IsNoded (es : List Edge) (vs : List Vertex) (rest : List Edge) (e : Edge) (ns : List Point) : Type 0 where
  pub edge : IsAmong e rest
  pub are : AreNodesOf es vs e ns

pub edge_of : (es : List Edge) (vs : List Vertex) (rest : List Edge) (ms : List NodedEdge) (n : NodedEdge) → AreNoded es vs rest ms → IsAmong n ms → IsNoded es vs rest n.edge n.nodes
edge_of es vs [] [] n h k = absurd k
edge_of es vs [] (m ∷ ms) n h k = absurd h
edge_of es vs (f ∷ rest) [] n h k = absurd h
edge_of es vs (f ∷ rest) (m ∷ ms) n h (inl s) = record {
  edge = inl (ap (λ (x : NodedEdge). x.edge) s ∙ h.0);
  are = subst (λ (x : NodedEdge). AreNodesOf es vs x.edge x.nodes) (sym s) (subst (λ (x : Edge). AreNodesOf es vs x m.nodes) (sym h.0) h.1);
}
edge_of es vs (f ∷ rest) (m ∷ ms) n h (inr k) =
    let r = edge_of es vs rest ms n h.2 k in
    record { edge = inr r.edge; are = r.are }

-- of all edges
pub noded_in : (es : List Edge) (vs : List Vertex) (ms : List NodedEdge) (e : Edge) → AreAllNoded es vs ms → IsAmong e es → HasNodes es vs ms e
noded_in es vs ms e h k = noded_of es vs h.listed ms e h.are (h.all e k)

pub edge_in : (es : List Edge) (vs : List Vertex) (ms : List NodedEdge) (n : NodedEdge) → AreAllNoded es vs ms → IsAmong n ms → IsNoded es vs es n.edge n.nodes
edge_in es vs ms n h k =
    let r = edge_of es vs h.listed ms n h.are k in
    record { edge = h.only n.edge r.edge; are = r.are }
