-- The pieces of an arrangement: each point of an edge is the place of a node or lies in a piece, and
-- all points of a piece lie in the parts in which its middle does.
use Rattle.std.proofs.Common.{◌≡◌, ◌≢◌, ◌≤◌, ◌<◌, ◌⊎◌, inl, inr, refl, sym, ◌∙◌, subst, true, arith, List, [], ◌∷◌}
use Rattle.std.specs.Prelude.{ℤ, pos, neg_ℤ, ◌*ℤ◌, ◌-ℤ◌, ◌+ℤ◌, ◌<ℤ◌}
use Rattle.std.proofs.lemmas.Int.{ints}
use Rattle.std.proofs.lemmas.List.Elements.{All-weaker}
use Rattle.relation_core.specs.declared.matrix.Matrix.{Matrix}
use Rattle.plane_core.specs.declared.vertex.Vertex.{Vertex}
use Rattle.plane_core.specs.declared.edge.Edge.{Edge}
use Rattle.plane_core.specs.declared.part.Part.{Part}
use Rattle.plane_core.specs.Points.{Point, at, mix, side, is_on, run, turn_of, IsBefore, IsSamePlace}
use Rattle.plane_core.specs.Figures.{Figure, IsGeometry, edges_of, points_of, part_of, part_above}
use Rattle.plane_core.specs.PlaneMatrices.{IsInBoth, ShareSegment, entry}
use Rattle.plane_core.proofs.FormLemmas.{by_zero}
use Rattle.plane_core.proofs.Ring.{monomials}
use Rattle.plane_core.proofs.PartScaleLemmas.{part_of-same_place}
use Rattle.noding_core.specs.Nodes.{IsAmong, IsNode, Meeting, IsPlaceOf, IsPointOf, AreNodesOf, NodedEdge, AreAllNoded, IsGapOf, middle}
use Rattle.noding_core.specs.Marks.{all_edges, all_points, IsPiece, IsAboveBoth, HasPiece, HasFace, IsReadOff, rank}
use Rattle.noding_core.proofs.OrderLemmas.{ahead_is, ahead_of, before_of, before_trans, up_to_before, before_up_to, before_or_same, mix_wide, width_mix}
use Rattle.noding_core.proofs.LineLemmas.{IsForward, Rightward, Vertical, IsWithin, within_from_on, on_from_within}
use Rattle.noding_core.proofs.FlipLemmas.{flip, side-flip, is_on-flip, turn_of-turned, turn_of-flip, forward_or_flipped}
use Rattle.noding_core.proofs.NodeLemmas.{all_among, IsWide, Located, locate, none_in_gap, gap_first, gap_second, gap_order, HasNodes, noded_in, edge_in}
use Rattle.noding_core.proofs.PieceLemmas.{IsInPiece, IsPieceOf, level_mix, piece_mix}
use Rattle.noding_core.proofs.AmongLemmas.{among_left, among_right}
use Rattle.noding_core.proofs.PathLemmas.{all_length}
use Rattle.noding_core.proofs.PartLemmas.{IsPartOf, part_kept, part_above_kept}

-- two geometries and the nodes of their edges
pub record IsArrangement (g h : Figure) (noded : List NodedEdge) : Type 0 where
  pub first : IsGeometry g
  pub second : IsGeometry h
  pub are_noded : AreAllNoded (all_edges g h) (all_points g h) noded

first_part : (g h : Figure) (noded : List NodedEdge) → IsArrangement g h noded → IsPartOf (all_edges g h) (all_points g h) g
first_part g h noded a = record {
  geometry = a.first;
  edges = λ f one. among_left f (edges_of g) (edges_of h) one;
  points = λ v one. among_left v (points_of g) (points_of h) one;
}

second_part : (g h : Figure) (noded : List NodedEdge) → IsArrangement g h noded → IsPartOf (all_edges g h) (all_points g h) h
second_part g h noded a = record {
  geometry = a.second;
  edges = λ f one. among_right f (edges_of g) (edges_of h) one;
  points = λ v one. among_right v (points_of g) (points_of h) one;
}

-- an edge taken from the one end or the other
pub record IsTaken (e f : Edge) : Type 0 where
  pub on : (p : Point) → is_on f p ≡ is_on e p
  pub turn : (d : Edge) → turn_of e d ≡ pos 0 → turn_of f d ≡ pos 0

pub straight : (e : Edge) → IsTaken e e
straight e = record { on = λ p. refl; turn = λ d h. h }

pub turned : (e : Edge) → IsTaken e (flip e)
turned e = record { on = is_on-flip e; turn = λ d h. zero _ _ _ _ (turn_of-turned d (flip e)) (turn_of-flip d e) (turn_of-turned d e) h }
  where
    zero : (a b c d : ℤ) → a ≡ neg_ℤ b → b ≡ neg_ℤ c → d ≡ neg_ℤ c → d ≡ pos 0 → a ≡ pos 0
    zero a b c d h k l m = omega (arith, ints)

pub forward_piece : (es : List Edge) (vs : List Vertex) (e f : Edge) (k l : Point) (ns : List Point) → IsForward f → IsTaken e f → IsAmong e es → AreNodesOf es vs e ns → IsGapOf k l ns → IsPieceOf es vs f k l
forward_piece es vs e f k l ns fw taken one are gap = record {
  forward = fw;
  wide_k = of_k.wide;
  wide_l = of_l.wide;
  first = within_k;
  last = within_l;
  order = gap_order k l ns gap;
  clear = clear;
  crossing = λ d p in_ one_d on_d. by_zero (turn_of e d)
      (λ some. absurd (clear p in_ (Meeting e d one one_d (on_e p in_) on_d some)))
      (taken.turn d);
}
  where
    of_k : IsPointOf e k
    of_k = all_among (IsPointOf e) k ns are.points (gap_first k l ns gap)

    of_l : IsPointOf e l
    of_l = all_among (IsPointOf e) l ns are.points (gap_second k l ns gap)

    within_k : IsWithin f k
    within_k = within_from_on f k fw of_k.wide (taken.on k ∙ of_k.on)

    within_l : IsWithin f l
    within_l = within_from_on f l fw of_l.wide (taken.on l ∙ of_l.on)

    on_e : (p : Point) → IsInPiece f k l p → is_on e p ≡ true
    on_e p in_ = sym (taken.on p) ∙ on_from_within f p fw (record {
      level = in_.level;
      from_ = inl (up_to_before (at f.a) k p (omega arith) of_k.wide in_.wide within_k.from_ in_.after);
      to_ = inl (before_up_to p l (at f.b) in_.wide of_l.wide (omega arith) in_.before within_l.to_);
    })

    clear : (p : Point) → IsInPiece f k l p → IsNode es vs p → ⊥
    clear p in_ node = none_in_gap k l p ns in_.wide (All-weaker (IsPointOf e) IsWide (λ n h. h.wide) ns are.points) are.ascend
        (record { gap = gap; after = in_.after; before = in_.before }) (are.nodes p in_.wide (on_e p in_) node)

pub piece_flip : (e : Edge) (k l p : Point) → IsInPiece e k l p → IsInPiece (flip e) k l p
piece_flip e k l p in_ = record { wide = in_.wide; level = zero _ _ (side-flip e p) in_.level; after = in_.after; before = in_.before }
  where
    zero : (m n : ℤ) → n ≡ neg_ℤ m → m ≡ pos 0 → n ≡ pos 0
    zero m n h k = omega (arith, ints)

-- a piece, from the lesser end of its edge
pub data Taken (g h : Figure) (e : Edge) (k l : Point) : Type 0 where
  Straight : IsPieceOf (all_edges g h) (all_points g h) e k l → Taken g h e k l
  Turned : IsPieceOf (all_edges g h) (all_points g h) (flip e) k l → Taken g h e k l

pub taken_of : (g h : Figure) (noded : List NodedEdge) (e : Edge) (k l : Point) → IsArrangement g h noded → IsPiece noded e k l → Taken g h e k l
taken_of g h noded e k l a piece =
    let n = edge_in (all_edges g h) (all_points g h) noded (record { edge = e; nodes = piece.nodes }) a.are_noded piece.one in
    elim (forward_or_flipped e (all_length g h e a.first a.second n.edge)) [
      | inl fw ↦ Straight (forward_piece _ _ e e k l piece.nodes fw (straight e) n.edge n.are piece.gap)
      | inr fw ↦ Turned (forward_piece _ _ e (flip e) k l piece.nodes fw (turned e) n.edge n.are piece.gap)
    ]

-- all points of a piece are in the same parts of both
pub record SameParts (g h : Figure) (p q : Point) : Type 0 where
  pub first : part_of g p ≡ part_of g q
  pub second : part_of h p ≡ part_of h q

pub part_on_piece : (g h : Figure) (noded : List NodedEdge) (e : Edge) (k l p q : Point) → IsArrangement g h noded → IsPiece noded e k l → IsInPiece e k l p → IsInPiece e k l q → SameParts g h p q
part_on_piece g h noded e k l p q a piece in_p in_q = elim (taken_of g h noded e k l a piece) [
  | Straight s ↦ record {
    first = part_kept g _ _ e k l p q s (first_part g h noded a) in_p in_q;
    second = part_kept h _ _ e k l p q s (second_part g h noded a) in_p in_q;
  }
  | Turned s ↦ record {
    first = part_kept g _ _ (flip e) k l p q s (first_part g h noded a) (piece_flip e k l p in_p) (piece_flip e k l q in_q);
    second = part_kept h _ _ (flip e) k l p q s (second_part g h noded a) (piece_flip e k l p in_p) (piece_flip e k l q in_q);
  }
]

-- and, unless the piece is vertical, so are all points just above them
pub record SameAbove (g h : Figure) (p q : Point) : Type 0 where
  pub first : part_above g p ≡ part_above g q
  pub second : part_above h p ≡ part_above h q

slanted_right : (f : Edge) → IsForward f → ¬ (f.a.x ≡ f.b.x) → f.a.x <ℤ f.b.x
slanted_right f (Rightward h) k = h
slanted_right f (Vertical h g) k = absurd (k h)

pub above_on_piece : (g h : Figure) (noded : List NodedEdge) (e : Edge) (k l p q : Point) → IsArrangement g h noded → IsPiece noded e k l → run e ≢ pos 0 → IsInPiece e k l p → IsInPiece e k l q → SameAbove g h p q
above_on_piece g h noded e k l p q a piece slanted in_p in_q = elim (taken_of g h noded e k l a piece) [
  | Straight s ↦ record {
    first = part_above_kept g _ _ e k l p q (slanted_right e s.forward straight_) s (first_part g h noded a) in_p in_q;
    second = part_above_kept h _ _ e k l p q (slanted_right e s.forward straight_) s (second_part g h noded a) in_p in_q;
  }
  | Turned s ↦ record {
    first = part_above_kept g _ _ (flip e) k l p q (slanted_right (flip e) s.forward turned_) s (first_part g h noded a) (piece_flip e k l p in_p) (piece_flip e k l q in_q);
    second = part_above_kept h _ _ (flip e) k l p q (slanted_right (flip e) s.forward turned_) s (second_part g h noded a) (piece_flip e k l p in_p) (piece_flip e k l q in_q);
  }
]
  where
    level : (m n : ℤ) → m ≡ n → n -ℤ m ≡ pos 0
    level m n h = omega (arith, ints)

    straight_ : ¬ (e.a.x ≡ e.b.x)
    straight_ h = slanted (level _ _ h)

    turned_ : ¬ (e.b.x ≡ e.a.x)
    turned_ h = slanted (level _ _ (sym h))

-- the middle of two points is between them
to_middle : (k w x z m : ℤ) → m ≡ pos 1 *ℤ w +ℤ pos 1 *ℤ z → (pos 1 *ℤ k +ℤ pos 1 *ℤ x) *ℤ w -ℤ k *ℤ m ≡ x *ℤ w -ℤ k *ℤ z
to_middle k w x z m e = rw e (simp monomials (omega (arith, ints)))

from_middle : (k w x z m : ℤ) → m ≡ pos 1 *ℤ w +ℤ pos 1 *ℤ z → x *ℤ m -ℤ (pos 1 *ℤ k +ℤ pos 1 *ℤ x) *ℤ z ≡ x *ℤ w -ℤ k *ℤ z
from_middle k w x z m e = rw e (simp monomials (omega (arith, ints)))

pub before_middle : (k l : Point) → IsBefore k l → IsBefore k (middle k l)
before_middle k l h = before_of k (middle k l) (ahead_is _ _ _ _
    (to_middle k.x (pos k.w) l.x (pos l.w) _ (width_mix 1 k 1 l))
    (to_middle k.y (pos k.w) l.y (pos l.w) _ (width_mix 1 k 1 l))
    (ahead_of k l h))

pub middle_before : (k l : Point) → IsBefore k l → IsBefore (middle k l) l
middle_before k l h = before_of (middle k l) l (ahead_is _ _ _ _
    (from_middle k.x (pos k.w) l.x (pos l.w) _ (width_mix 1 k 1 l))
    (from_middle k.y (pos k.w) l.y (pos l.w) _ (width_mix 1 k 1 l))
    (ahead_of k l h))

pub middle_wide : (k l : Point) → 0 < k.w → 0 < l.w → 0 < (middle k l).w
middle_wide k l wk wl = mix_wide k l 1 1 wk wl (omega arith)

-- a piece contains its middle and a point after it
pub record IsPieceEnds (e : Edge) (k l : Point) : Type 0 where
  pub wide_k : 0 < k.w
  pub wide_l : 0 < l.w
  pub level_k : side e k ≡ pos 0
  pub level_l : side e l ≡ pos 0
  pub order : IsBefore k l

pub ends_of : (g h : Figure) (noded : List NodedEdge) (e : Edge) (k l : Point) → IsArrangement g h noded → IsPiece noded e k l → IsPieceEnds e k l
ends_of g h noded e k l a piece = elim (taken_of g h noded e k l a piece) [
  | Straight s ↦ record { wide_k = s.wide_k; wide_l = s.wide_l; level_k = s.first.level; level_l = s.last.level; order = s.order }
  | Turned s ↦ record {
    wide_k = s.wide_k;
    wide_l = s.wide_l;
    level_k = back _ _ (side-flip e k) s.first.level;
    level_l = back _ _ (side-flip e l) s.last.level;
    order = s.order;
  }
]
  where
    back : (m n : ℤ) → n ≡ neg_ℤ m → n ≡ pos 0 → m ≡ pos 0
    back m n h k = omega (arith, ints)

pub middle_in_piece : (g h : Figure) (noded : List NodedEdge) (e : Edge) (k l : Point) → IsArrangement g h noded → IsPiece noded e k l → IsInPiece e k l (middle k l)
middle_in_piece g h noded e k l a piece =
    let ends = ends_of g h noded e k l a piece in
    record {
      wide = middle_wide k l ends.wide_k ends.wide_l;
      level = level_mix e 1 k 1 l ends.level_k ends.level_l;
      after = before_middle k l ends.order;
      before = middle_before k l ends.order;
    }

pub later_in_piece : (g h : Figure) (noded : List NodedEdge) (e : Edge) (k l : Point) → IsArrangement g h noded → IsPiece noded e k l → IsInPiece e k l (middle (middle k l) l)
later_in_piece g h noded e k l a piece =
    let ends = ends_of g h noded e k l a piece in
    let m = middle_in_piece g h noded e k l a piece in
    record {
      wide = middle_wide (middle k l) l m.wide ends.wide_l;
      level = level_mix e 1 (middle k l) 1 l m.level ends.level_l;
      after = before_trans k (middle k l) (middle (middle k l) l) ends.wide_k m.wide (middle_wide (middle k l) l m.wide ends.wide_l) m.after (before_middle (middle k l) l m.before);
      before = middle_before (middle k l) l m.before;
    }

-- a piece is a segment that both parts share
pub piece_segment : (g h : Figure) (noded : List NodedEdge) (i j : Part) → IsArrangement g h noded → HasPiece g h noded i j → ShareSegment (IsInBoth g h i j)
piece_segment g h noded i j a has =
    let k = has.from_ in
    let l = has.to_ in
    let m : IsInPiece has.edge k l (middle k l) = middle_in_piece g h noded has.edge k l a has.piece in
    let n : IsInPiece has.edge k l (middle (middle k l) l) = later_in_piece g h noded has.edge k l a has.piece in (
      middle k l,
      middle (middle k l) l,
      m.wide,
      n.wide,
      before_or_same (middle k l) (middle (middle k l) l) m.wide n.wide (before_middle (middle k l) l m.before),
      λ s t some.
          let same = part_on_piece g h noded has.edge k l (mix s (middle k l) t (middle (middle k l) l)) (middle k l) a has.piece (piece_mix has.edge k l _ _ s t some m n) m in
          record { first = same.first ∙ has.in_both.first; second = same.second ∙ has.in_both.second },
    )

-- a point of an edge is at a node or in a piece
pub data EdgePoint (noded : List NodedEdge) (e : Edge) (p : Point) : Type 0 where
  AtNode : (n : NodedEdge) (z : Point) → IsAmong n noded → IsAmong z n.nodes → 0 < z.w → IsSamePlace p z → EdgePoint noded e p
  OnPiece : (k l : Point) → IsPiece noded e k l → IsInPiece e k l p → EdgePoint noded e p

pub record IsFound (p : Point) (ns : List Point) : Type 0 where
  pub node : Point
  pub one : IsAmong node ns
  pub same : IsSamePlace p node

pub found_of : (p : Point) (ns : List Point) → IsPlaceOf p ns → IsFound p ns
found_of p [] h = absurd h
found_of p (n ∷ ns) (inl s) = record { node = n; one = inl refl; same = s }
found_of p (n ∷ ns) (inr k) =
    let f = found_of p ns k in
    record { node = f.node; one = inr f.one; same = f.same }

pub edge_point : (g h : Figure) (noded : List NodedEdge) (e : Edge) (p : Point) → IsArrangement g h noded → IsAmong e (all_edges g h) → 0 < p.w → is_on e p ≡ true → EdgePoint noded e p
edge_point g h noded e p a one wp on =
    let has = noded_in (all_edges g h) (all_points g h) noded e a.are_noded one in
    let wide = All-weaker (IsPointOf e) IsWide (λ n h. h.wide) has.nodes has.are.points in
    elim (forward_or_flipped e (all_length g h e a.first a.second one)) [
      | inl fw ↦
          let within = within_from_on e p fw wp on in
          found has (locate has.nodes p (at e.a) (at e.b) wp (omega arith) (omega arith) wide has.are.ascend within.from_ has.are.first_end within.to_ has.are.last_end) within.level
      | inr fw ↦
          let within = within_from_on (flip e) p fw wp (is_on-flip e p ∙ on) in
          found has (locate has.nodes p (at e.b) (at e.a) wp (omega arith) (omega arith) wide has.are.ascend within.from_ has.are.last_end within.to_ has.are.first_end) (back _ _ (side-flip e p) within.level)
    ]
  where
    back : (m n : ℤ) → n ≡ neg_ℤ m → n ≡ pos 0 → m ≡ pos 0
    back m n h k = omega (arith, ints)

    found : (has : HasNodes (all_edges g h) (all_points g h) noded e) → IsPlaceOf p has.nodes ⊎ Located has.nodes p → side e p ≡ pos 0 → EdgePoint noded e p
    found has (inl place) level =
        let f = found_of p has.nodes place in
        AtNode (record { edge = e; nodes = has.nodes }) f.node has.one f.one (all_among (IsPointOf e) f.node has.nodes has.are.points f.one).wide f.same
    found has (inr loc) level = OnPiece loc.from_ loc.to_
        (record { nodes = has.nodes; one = has.one; gap = loc.in_gap.gap })
        (record { wide = wp; level = level; after = loc.in_gap.after; before = loc.in_gap.before })

-- a point of a piece shows that the piece is in its parts
pub piece_of_point : (g h : Figure) (noded : List NodedEdge) (e : Edge) (k l p : Point) (i j : Part) → IsArrangement g h noded → IsPiece noded e k l → IsInPiece e k l p → IsInBoth g h i j p → HasPiece g h noded i j
piece_of_point g h noded e k l p i j a piece in_ both =
    let same = part_on_piece g h noded e k l (middle k l) p a piece (middle_in_piece g h noded e k l a piece) in_ in
    record { edge = e; from_ = k; to_ = l; piece = piece; in_both = record { first = same.first ∙ both.first; second = same.second ∙ both.second } }

pub face_of_point : (g h : Figure) (noded : List NodedEdge) (e : Edge) (k l p : Point) (i j : Part) → IsArrangement g h noded → IsPiece noded e k l → run e ≢ pos 0 → IsInPiece e k l p → IsAboveBoth g h i j p → HasFace g h noded i j
face_of_point g h noded e k l p i j a piece slanted in_ both =
    let same = above_on_piece g h noded e k l (middle k l) p a piece slanted (middle_in_piece g h noded e k l a piece) in_ in
    record { edge = e; from_ = k; to_ = l; piece = piece; slanted = slanted; above_both = record { first = same.first ∙ both.first; second = same.second ∙ both.second } }

-- a point of an edge is marked: at least as a point
pub edge_point_marked : (g h : Figure) (noded : List NodedEdge) (m : Matrix) (e : Edge) (p : Point) (i j : Part) → IsArrangement g h noded → IsReadOff g h noded m → IsAmong e (all_edges g h) → 0 < p.w → is_on e p ≡ true
    → IsInBoth g h i j p → 1 ≤ rank (entry m i j)
edge_point_marked g h noded m e p i j a read one wp on both = elim (edge_point g h noded e p a one wp on) [
  | AtNode n z one_n one_z wz same ↦
      let marked : 1 ≤ rank (entry m (part_of g z) (part_of h z)) = read.nodes n z one_n one_z in
      let first : part_of g z ≡ i = sym (part_of-same_place g p z wp wz same) ∙ both.first in
      let second : part_of h z ≡ j = sym (part_of-same_place h p z wp wz same) ∙ both.second in
      subst (λ (y : Part). 1 ≤ rank (entry m i y)) second (subst (λ (x : Part). 1 ≤ rank (entry m x (part_of h z))) first marked)
  | OnPiece k l piece in_ ↦
      let marked : 2 ≤ rank (entry m i j) = read.pieces i j (piece_of_point g h noded e k l p i j a piece in_ both) in
      omega arith
]
