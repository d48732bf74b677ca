-- The gap between two nodes in a row: an edge that has a point of the gap has both nodes, so a geometry's
-- part at a node that is on none of its edges is its part in the gap.
use Rattle.std.proofs.Common.{◌≡◌, ◌<◌, ◌⊎◌, inl, inr, sym, subst, ◌∙◌, true, false, arith, List}
use Rattle.std.specs.Prelude.{ℤ, pos, neg_ℤ}
use Rattle.std.proofs.lemmas.Int.{ints}
use Rattle.plane_core.specs.declared.edge.Edge.{Edge}
use Rattle.plane_core.specs.declared.vertex.Vertex.{Vertex}
use Rattle.plane_core.specs.Points.{Point, at, side, is_on, IsBefore, IsSamePlace}
use Rattle.plane_core.specs.Figures.{HasLength, IsGeometry, edges_of, part_of}
use Rattle.plane_core.specs.Figures.Figure.{Areas}
use Rattle.plane_core.proofs.PartScaleLemmas.{is_on-same_place}
use Rattle.noding_core.specs.Nodes.{IsAmong, IsPointOf, AreNodesOf, IsGapOf, IsUpTo, middle}
use Rattle.noding_core.proofs.ArrangementLemmas.{forward_piece, straight, turned, piece_flip, before_middle, middle_before, middle_wide}
use Rattle.noding_core.proofs.FlipLemmas.{flip, side-flip, is_on-flip, forward_or_flipped}
use Rattle.noding_core.proofs.LineLemmas.{on_level, within_from_on, on_from_within}
use Rattle.noding_core.proofs.MetLemmas.{MeetsSome, met_or_same}
use Rattle.noding_core.proofs.NodeLemmas.{all_among, gap_first, gap_second, gap_order}
use Rattle.noding_core.proofs.OrderLemmas.{order, up_to_trans, before_trans, before_mix, mix_before, same_sym, same_refl, not_before_itself}
use Rattle.noding_core.proofs.PieceLemmas.{IsInPiece, IsPieceOf, IsForwardOf, forward_of, forward_long, line_shared, level_mix, parallel, along}
use Rattle.noding_core.proofs.TestLemmas.{by_test, clash}
use Rattle.noding_core.proofs.WayLemmas.{IsOnWay, on_way_wide}

-- a point of an edge's line from one point to another, these included
pub record IsInSpan (e : Edge) (k l p : Point) : Type 0 where
  pub wide : 0 < p.w
  pub level : side e p ≡ pos 0
  pub from_ : IsUpTo k p
  pub to_ : IsUpTo p l

span_flip : (e : Edge) (k l p : Point) → IsInSpan e k l p → IsInSpan (flip e) k l p
span_flip e k l p in_ = record { wide = in_.wide; level = zero _ _ (side-flip e p) in_.level; from_ = in_.from_; to_ = in_.to_ }
  where
    zero : (m n : ℤ) → n ≡ neg_ℤ m → m ≡ pos 0 → n ≡ pos 0
    zero m n h k = omega (arith, ints)

-- an edge that has a point of a piece has all points of it, and both its ends
span_on : (es : List Edge) (vs : List Vertex) (e f : Edge) (k l p q : Point) → IsPieceOf es vs e k l → IsForwardOf es vs f → IsInPiece e k l p → is_on f p ≡ true → IsInSpan e k l q → is_on f q ≡ true
span_on es vs e f k l p q piece fw in_p on in_q =
    let lies = along es vs e f k l p piece fw in_p on in
    let within = within_from_on f p fw.forward in_p.wide on in
    on_from_within f q fw.forward (record {
      level = line_shared e f p q (forward_long e piece.forward) in_p.wide (parallel es vs e f k l p piece fw in_p on) in_p.level in_q.level within.level;
      from_ = up_to_trans (at f.a) k q one piece.wide_k in_q.wide lies.from_ in_q.from_;
      to_ = up_to_trans q l (at f.b) in_q.wide piece.wide_l one in_q.to_ lies.to_;
    })
  where
    one : 0 < 1
    one = omega arith

-- the edges of a geometry among those that have nodes on the edge
abbrev pub AreAmong : List Edge → List Edge → Type 0
AreAmong fs es = (f : Edge) → IsAmong f fs → IsAmong f es

-- a point that is on no edge of a list
abbrev pub IsOffEach : List Edge → Point → Type 0
IsOffEach fs p = (f : Edge) → IsAmong f fs → is_on f p ≡ false

module _ (es : List Edge) (vs : List Vertex) (e : Edge) (ns : List Point) (k l : Point) (one : IsAmong e es) (long : HasLength e) (are : AreNodesOf es vs e ns) (gap : IsGapOf k l ns) where
  gap_on : (f : Edge) (p q : Point) → IsAmong f es → HasLength f → IsInPiece e k l p → is_on f p ≡ true → IsInSpan e k l q → is_on f q ≡ true
  gap_on f p q one_f long_f in_p on in_q = elim (forward_or_flipped e long) [
    | inl fw ↦ by_edge e (forward_piece es vs e e k l ns fw (straight e) one are gap) in_p in_q
    | inr fw ↦ by_edge (flip e) (forward_piece es vs e (flip e) k l ns fw (turned e) one are gap) (piece_flip e k l p in_p) (span_flip e k l q in_q)
  ]
    where
      by_edge : (d : Edge) → IsPieceOf es vs d k l → IsInPiece d k l p → IsInSpan d k l q → is_on f q ≡ true
      by_edge d piece in_d in_s = elim (forward_of es vs f long_f one_f) [
        | inl fw ↦ span_on es vs d f k l p q piece fw in_d on in_s
        | inr fw ↦ sym (is_on-flip f q) ∙ span_on es vs d (flip f) k l p q piece fw in_d (is_on-flip f p ∙ on) in_s
      ]

  of_k : IsPointOf e k
  of_k = all_among (IsPointOf e) k ns are.points (gap_first k l ns gap)

  of_l : IsPointOf e l
  of_l = all_among (IsPointOf e) l ns are.points (gap_second k l ns gap)

  before : IsBefore k l
  before = gap_order k l ns gap

  wide_m : 0 < (middle k l).w
  wide_m = middle_wide k l of_k.wide of_l.wide

  in_m : IsInPiece e k l (middle k l)
  in_m = record {
    wide = wide_m;
    level = level_mix e 1 k 1 l (on_level e k of_k.on) (on_level e l of_l.on);
    after = before_middle k l before;
    before = middle_before k l before;
  }

  in_k : IsInSpan e k l k
  in_k = record { wide = of_k.wide; level = on_level e k of_k.on; from_ = inr (same_refl k); to_ = inl before }

  in_l : IsInSpan e k l l
  in_l = record { wide = of_l.wide; level = on_level e l of_l.on; from_ = inl before; to_ = inr (same_refl l) }

  -- a point between the middle and a node is at the node or in the gap
  to_first : (z : Point) → IsOnWay (middle k l) k z → IsSamePlace z k ⊎ IsInPiece e k l z
  to_first z way = elim (order k z) [
    | inl after ↦ inr (record {
      wide = on_way_wide (middle k l) k z wide_m of_k.wide way;
      level = subst (λ (x : Point). side e x ≡ pos 0) (sym way.is) (level_mix e way.s (middle k l) way.t k in_m.level in_k.level);
      after = after;
      before = subst (λ (x : Point). IsBefore x l) (sym way.is) (mix_before l (middle k l) k way.s way.t way.some in_m.before before);
    })
    | inr c ↦ elim c [
      | inl same ↦ inl (same_sym k z same)
      | inr back ↦ absurd (not_before_itself z (subst (λ (x : Point). IsBefore z x) (sym way.is)
          (before_mix z (middle k l) k way.s way.t way.some
          (before_trans z k (middle k l) (on_way_wide (middle k l) k z wide_m of_k.wide way) of_k.wide wide_m back in_m.after) back)))
    ]
  ]

  to_last : (z : Point) → IsOnWay (middle k l) l z → IsSamePlace z l ⊎ IsInPiece e k l z
  to_last z way = elim (order z l) [
    | inl ahead ↦ inr (record {
      wide = on_way_wide (middle k l) l z wide_m of_l.wide way;
      level = subst (λ (x : Point). side e x ≡ pos 0) (sym way.is) (level_mix e way.s (middle k l) way.t l in_m.level in_l.level);
      after = subst (λ (x : Point). IsBefore k x) (sym way.is) (before_mix k (middle k l) l way.s way.t way.some in_m.after before);
      before = ahead;
    })
    | inr c ↦ elim c [
      | inl same ↦ inl same
      | inr back ↦ absurd (not_before_itself z (subst (λ (x : Point). IsBefore x z) (sym way.is)
          (mix_before z (middle k l) l way.s way.t way.some
          (before_trans (middle k l) l z wide_m of_l.wide (on_way_wide (middle k l) l z wide_m of_l.wide way) in_m.before back) back)))
    ]
  ]

  -- the part at the middle is the part at a node that is on no edge
  part_to : (rings : List (List Vertex)) (q : Point) → IsGeometry (Areas rings) → AreAmong (edges_of (Areas rings)) es → ((f : Edge) → IsAmong f (edges_of (Areas rings)) → HasLength f)
      → IsInSpan e k l q → ((z : Point) → IsOnWay (middle k l) q z → IsSamePlace z q ⊎ IsInPiece e k l z) → IsOffEach (edges_of (Areas rings)) q
      → part_of (Areas rings) (middle k l) ≡ part_of (Areas rings) q
  part_to rings q good of long_of in_q ways off = elim (met_or_same rings (middle k l) q wide_m in_q.wide good) [
    | inl some ↦ absurd (met some)
    | inr same ↦ same
  ]
    where
      met : MeetsSome (edges_of (Areas rings)) (middle k l) q → ⊥
      met some = elim (ways some.met.point some.met.way) [
        | inl same ↦ clash (is_on some.edge q)
            (sym (is_on-same_place some.edge some.met.point q (on_way_wide (middle k l) q some.met.point wide_m in_q.wide some.met.way) in_q.wide same) ∙ some.met.on)
            (off some.edge some.one)
        | inr in_z ↦ clash (is_on some.edge q)
            (gap_on some.edge some.met.point q (of some.edge some.one) (long_of some.edge some.one) in_z some.met.on in_q) (off some.edge some.one)
      ]

  pub part_after : (rings : List (List Vertex)) → IsGeometry (Areas rings) → AreAmong (edges_of (Areas rings)) es → ((f : Edge) → IsAmong f (edges_of (Areas rings)) → HasLength f)
      → IsOffEach (edges_of (Areas rings)) k → part_of (Areas rings) (middle k l) ≡ part_of (Areas rings) k
  part_after rings good of long_of off = part_to rings k good of long_of in_k to_first off

  pub part_before : (rings : List (List Vertex)) → IsGeometry (Areas rings) → AreAmong (edges_of (Areas rings)) es → ((f : Edge) → IsAmong f (edges_of (Areas rings)) → HasLength f)
      → IsOffEach (edges_of (Areas rings)) l → part_of (Areas rings) (middle k l) ≡ part_of (Areas rings) l
  part_before rings good of long_of off = part_to rings l good of long_of in_l to_last off

  -- and the middle is on no edge either
  pub off_after : (fs : List Edge) → AreAmong fs es → ((f : Edge) → IsAmong f fs → HasLength f) → IsOffEach fs k → IsOffEach fs (middle k l)
  off_after fs of long_of off f one_f = by_test (is_on f (middle k l))
      (λ on. clash (is_on f k) (gap_on f (middle k l) k (of f one_f) (long_of f one_f) in_m on in_k) (off f one_f))
      (λ none. none)
