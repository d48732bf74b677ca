-- Where edges of an area that are odd in number cross an edge at a node, the part of the area changes there.
use Rattle.std.proofs.Common.{◌≡◌, ◌≢◌, ◌<◌, ◌+◌, ◌⊎◌, inl, inr, arith, refl, sym, subst, ap, ◌∙◌, true, false, cond, List, [], ◌∷◌}
use Rattle.std.specs.Prelude.{ℕ, ℤ, pos, neg_ℤ, ◌*ℤ◌, ◌-ℤ◌, ◌≤ℤ◌, ◌<ℤ◌, Bool, ◌&&◌, count_by, if◌then◌else◌, Option, None, Some, IfSome}
use Rattle.std.specs.List.{list_any, flat_map}
use Rattle.std.specs.Ordering.{int_eq}
use Rattle.std.proofs.lemmas.Int.{ints, by_lt_z}
use Rattle.std.proofs.lemmas.List.Elements.{All-weaker}
use Rattle.std.proofs.lemmas.List.Sums.{sum_by-cons}
use Rattle.geom_core.specs.declared.shape.Shape.{Shape}
use Rattle.plane_core.specs.declared.edge.Edge.{Edge}
use Rattle.plane_core.specs.declared.vertex.Vertex.{Vertex}
use Rattle.plane_core.specs.declared.part.Part.{Part}
use Rattle.plane_core.specs.declared.part.Part.TheVariants.{Interior, Boundary, Exterior}
use Rattle.plane_core.specs.declared.outline.Kind.TheVariants.{Points as Dots, Lines as Polylines, Areas as Rings}
use Rattle.plane_core.specs.declared.outline.Outline.{Outline}
use Rattle.plane_core.specs.Points.{Point, at, side, is_on, is_below, run, turn_of, IsBefore}
use Rattle.plane_core.specs.Figures.{Figure, HasLength, IsGeometry, edges, edges_of, part_of, is_odd}
use Rattle.plane_core.specs.Figures.Figure.{Points, Lines, Areas}
use Rattle.plane_core.specs.Outlines.{kind_of}
use Rattle.plane_core.proofs.FormLemmas.{by_zero}
use Rattle.plane_core.proofs.OutlineLemmas.{outline_part-is}
use Rattle.plane_core.proofs.PartScaleLemmas.{is_on-same_place}
use Rattle.plane_core.proofs.Signs.{weak}
use Rattle.noding_core.specs.Near.{IsFound}
use Rattle.noding_core.specs.Nodes.{IsAmong, IsPointOf, AreNodesOf, IsGapOf, middle}
use Rattle.noding_core.specs.Nodes.IsNode.{Meeting}
use Rattle.noding_core.proofs.AmongLemmas.{count_same}
use Rattle.noding_core.proofs.ArrangementLemmas.{forward_piece, straight, turned, piece_flip, before_middle, middle_before, middle_wide}
use Rattle.noding_core.proofs.CrossLemmas.{same_column}
use Rattle.noding_core.proofs.FlipLemmas.{flip, side-flip, is_on-flip, is_below-flip, first_level, turn_of-turned, forward_or_flipped}
use Rattle.noding_core.proofs.GapLemmas.{IsOffEach, off_after}
use Rattle.noding_core.proofs.LineLemmas.{on_level}
use Rattle.noding_core.proofs.NearLemmas.{near_of}
use Rattle.noding_core.proofs.NodeLemmas.{all_among, IsWide, none_in_gap, gap_first, gap_second}
use Rattle.noding_core.proofs.OffPartLemmas.{off_part-is}
use Rattle.noding_core.proofs.OrderLemmas.{order, before_trans, before_mix, mix_before}
use Rattle.noding_core.proofs.PathLemmas.{edge_length}
use Rattle.noding_core.proofs.PieceLemmas.{IsInPiece, IsPieceOf, forward_of, level_mix, line_shared, on_kept}
use Rattle.noding_core.proofs.RingLemmas.{differ, differ_none, differ_turned, differ_pairs, rings_parity}
use Rattle.noding_core.proofs.TestLemmas.{by_test, clash}
use Rattle.noding_core.proofs.WayLemmas.{IsMet, on_way_wide}
use Rattle.noding_core.proofs.WayEdgeLemmas.{is_passed, way_edge}
use Rattle.shown_core.specs.Beyond.{IsBounded}
use Rattle.shown_core.specs.Lying.{LiesOff}
use Rattle.shown_core.specs.Shown.{AreNext}
use Rattle.shown_core.proofs.ShownLemmas.{cuts_long, gap_middle}
use Rattle.arrangement_core.specs.Seen.{AreNear}
use Rattle.arrangement_core.specs.Shared.{is_same_vertex}
use Rattle.arrangement_core.specs.Crossed.{IsOnlyOn, is_equal, IsCrossing, IsAcross, beyond, LiesAfter, LiesBefore}
use Rattle.arrangement_core.proofs.CrossedLemmas.{crossed_rightward}
use Rattle.arrangement_core.proofs.SharedLemmas.{ends_same}
use Rattle.arrangement_core.proofs.WalkLemmas.{lies_off, off_each, lies_after, lies_before}

-- ---- one edge that crosses another, both taken from either end

either_way : (a b : ℤ) → b -ℤ a ≢ pos 0 → (a <ℤ b) ⊎ (b <ℤ a)
either_way a b some = by_lt_z a b (λ h. inl h) (λ no. by_lt_z b a (λ h. inr h) (λ also. absurd (some (none a b no also))))
  where
    none : (a b : ℤ) → b ≤ℤ a → a ≤ℤ b → b -ℤ a ≡ pos 0
    none a b h k = omega (arith, ints)

zero_flip : (e : Edge) (p : Point) → side e p ≡ pos 0 → side (flip e) p ≡ pos 0
zero_flip e p h = none _ _ (side-flip e p) h
  where
    none : (m n : ℤ) → m ≡ neg_ℤ n → n ≡ pos 0 → m ≡ pos 0
    none m n h k = omega (arith, ints)

some_flip : (e : Edge) (p : Point) → side e p ≢ pos 0 → side (flip e) p ≢ pos 0
some_flip e p some h = some (none _ _ (side-flip e p) h)
  where
    none : (m n : ℤ) → m ≡ neg_ℤ n → m ≡ pos 0 → n ≡ pos 0
    none m n h k = omega (arith, ints)

before_columns : (e : Edge) (y p : Point) → e.a.x <ℤ e.b.x → side e y ≡ pos 0 → side e p ≡ pos 0 → IsBefore y p → (y.x *ℤ pos p.w) <ℤ (p.x *ℤ pos y.w)
before_columns e y p right ly lp (inl h) = h
before_columns e y p right ly lp (inr h) = absurd (differs _ _ h.1 (same_column e y p right ly lp h.0).1)
  where
    differs : (m n : ℤ) → m <ℤ n → m ≡ n → ⊥
    differs m n h k = omega (arith, ints)

pub record AreAround (e : Edge) (p y z : Point) : Type 0 where
  wide : 0 < p.w
  wide_y : 0 < y.w
  wide_z : 0 < z.w
  level : side e p ≡ pos 0
  level_y : side e y ≡ pos 0
  level_z : side e z ≡ pos 0
  before : IsBefore y p
  after : IsBefore p z

around_flip : (e : Edge) (p y z : Point) → AreAround e p y z → AreAround (flip e) p y z
around_flip e p y z h = record {
  wide = h.wide;
  wide_y = h.wide_y;
  wide_z = h.wide_z;
  level = zero_flip e p h.level;
  level_y = zero_flip e y h.level_y;
  level_z = zero_flip e z h.level_z;
  before = h.before;
  after = h.after;
}

abbrev pub Changes : Edge → Point → Point → Type 0
Changes f y z = differ (is_below f y) (differ (is_below f z) true) ≡ differ (is_passed y z f.a) (is_passed y z f.b)

both_right : (e f : Edge) (p y z : Point) → e.a.x <ℤ e.b.x → f.a.x <ℤ f.b.x → AreAround e p y z → is_on f p ≡ true → side e (at f.a) ≢ pos 0 → side e (at f.b) ≢ pos 0 → Changes f y z
both_right e f p y z right long h on first last =
    crossed_rightward e f p y z right long h.wide h.wide_y h.wide_z h.level on first last h.level_y h.level_z
    (before_columns e y p right h.level_y h.level h.before) (before_columns e p z right h.level h.level_z h.after)

one_right : (e f : Edge) (p y z : Point) → run e ≢ pos 0 → f.a.x <ℤ f.b.x → AreAround e p y z → is_on f p ≡ true → side e (at f.a) ≢ pos 0 → side e (at f.b) ≢ pos 0 → Changes f y z
one_right e f p y z slanted long h on first last = elim (either_way e.a.x e.b.x slanted) [
  | inl right ↦ both_right e f p y z right long h on first last
  | inr back ↦ both_right (flip e) f p y z back long (around_flip e p y z h) on (some_flip e (at f.a) first) (some_flip e (at f.b) last)
]

pub changes : (es : List Edge) (e f : Edge) (p y z : Point) → AreAround e p y z → is_on f p ≡ true → IsCrossing es e f → Changes f y z
changes es e f p y z h on c = elim (either_way f.a.x f.b.x c.also) [
  | inl long ↦ one_right e f p y z c.slanted long h on c.first c.last
  | inr back ↦ ap (λ (t : Bool). differ t (differ (is_below f z) true)) (sym (is_below-flip f y))
      ∙ ap (λ (t : Bool). differ (is_below (flip f) y) (differ t true)) (sym (is_below-flip f z))
      ∙ one_right e (flip f) p y z c.slanted back h (is_on-flip f p ∙ on) c.last c.first
      ∙ differ_turned (is_passed y z f.b) (is_passed y z f.a)
]

-- ---- tests that differ at an odd number of edges

odd_sum : (m n : ℕ) → is_odd (m + n) ≡ differ (is_odd m) (is_odd n)
odd_sum m n = grind (arith)

odd_one : (t : Bool) → is_odd (cond t 1 0) ≡ t
odd_one true = refl
odd_one false = refl

odd_cons : (p : Edge → Bool) (x : Edge) (xs : List Edge) → is_odd (count_by p (x ∷ xs)) ≡ differ (p x) (is_odd (count_by p xs))
odd_cons p x xs =
    ap is_odd (sum_by-cons (λ y. cond (p y) 1 0) x xs)
    ∙ odd_sum (cond (p x) 1 0) (count_by p xs)
    ∙ ap (λ (t : Bool). differ t (is_odd (count_by p xs))) (odd_one (p x))

odd_differ : (p q : Edge → Bool) (xs : List Edge) → is_odd (count_by (λ x. differ (p x) (q x)) xs) ≡ differ (is_odd (count_by p xs)) (is_odd (count_by q xs))
odd_differ p q [] = refl
odd_differ p q (x ∷ xs) =
    odd_cons (λ x. differ (p x) (q x)) x xs
    ∙ ap (differ (differ (p x) (q x))) (odd_differ p q xs)
    ∙ differ_pairs (p x) (q x) (is_odd (count_by p xs)) (is_odd (count_by q xs))
    ∙ ap (λ (t : Bool). differ t (differ (q x) (is_odd (count_by q xs)))) (sym (odd_cons p x xs))
    ∙ ap (differ (is_odd (count_by p (x ∷ xs)))) (sym (odd_cons q x xs))

turned_inside : (t u : Bool) → t ≡ differ u true → (if u then Interior else Exterior) ≡ beyond (if t then Interior else Exterior)
turned_inside t true h = rw h refl
turned_inside t false h = rw h refl

-- what the edges of an area do on the way past a point
pub record ArePassed (es : List Edge) (p y z : Point) : Type 0 where
  off_y : IsOffEach es y
  off_z : IsOffEach es z
  unmet : (g : Edge) → IsAmong g es → is_on g p ≡ false → IsMet g y z → ⊥
  changed : (g : Edge) → IsAmong g es → is_on g p ≡ true → Changes g y z
  odd : is_odd (count_by (λ g. is_on g p) es) ≡ true

turned_part : (rings : List (List Vertex)) (p y z : Point) → IsGeometry (Areas rings) → 0 < y.w → 0 < z.w → (y.x *ℤ pos z.w) ≤ℤ (z.x *ℤ pos y.w)
    → ArePassed (edges_of (Areas rings)) p y z → part_of (Areas rings) z ≡ beyond (part_of (Areas rings) y)
turned_part rings p y z good wide_y wide_z ahead h =
    off_part-is (Areas rings) z good (record { edges = h.off_z; points = λ v k. absurd k })
    ∙ turned_inside (is_odd (count_by (λ g. is_below g y) (flat_map edges rings))) (is_odd (count_by (λ g. is_below g z) (flat_map edges rings)))
    (rings_parity (λ g. is_below g y) (λ g. differ (is_below g z) (is_on g p)) (is_passed y z) rings good.1 each
    ∙ odd_differ (λ g. is_below g z) (λ g. is_on g p) (flat_map edges rings)
    ∙ ap (differ (is_odd (count_by (λ g. is_below g z) (flat_map edges rings)))) h.odd)
    ∙ ap beyond (sym (off_part-is (Areas rings) y good (record { edges = h.off_y; points = λ v k. absurd k })))
  where
    each : (g : Edge) → IsAmong g (flat_map edges rings) → differ (is_below g y) (differ (is_below g z) (is_on g p)) ≡ differ (is_passed y z g.a) (is_passed y z g.b)
    each g k = by_test (is_on g p)
        (λ on. ap (λ (t : Bool). differ (is_below g y) (differ (is_below g z) t)) on ∙ h.changed g k on)
        (λ off. ap (λ (t : Bool). differ (is_below g y) (differ (is_below g z) t)) off
        ∙ ap (differ (is_below g y)) (differ_none (is_below g z))
        ∙ elim (way_edge y z wide_y wide_z ahead g (edge_length (Areas rings) g good k)) [
          | inl met ↦ absurd (h.unmet g k off met)
          | inr even ↦ even
        ])

-- ---- from a node where one edge crosses to the next node

gap_kept : (es : List Edge) (vs : List Vertex) (e : Edge) (ns : List Point) (k l : Point) → IsAmong e es → HasLength e → AreNodesOf es vs e ns → IsGapOf k l ns → (g : Edge) → IsAmong g es → HasLength g
    → (y z : Point) → IsInPiece e k l y → IsInPiece e k l z → is_on g y ≡ is_on g z
gap_kept es vs e ns k l one long are gap g one_g long_g y z in_y in_z = elim (forward_or_flipped e long) [
  | inl fw ↦ by_edge e (forward_piece es vs e e k l ns fw (straight e) one are gap) in_y in_z
  | inr fw ↦ by_edge (flip e) (forward_piece es vs e (flip e) k l ns fw (turned e) one are gap) (piece_flip e k l y in_y) (piece_flip e k l z in_z)
]
  where
    by_edge : (d : Edge) → IsPieceOf es vs d k l → IsInPiece d k l y → IsInPiece d k l z → is_on g y ≡ is_on g z
    by_edge d piece in_d in_e = elim (forward_of es vs g long_g one_g) [
      | inl fw ↦ on_kept es vs d g k l y z piece fw in_d in_e
      | inr fw ↦ sym (is_on-flip g y) ∙ on_kept es vs d (flip g) k l y z piece fw in_d in_e ∙ is_on-flip g z
    ]

equal_itself : (f : Edge) → is_equal f f ≡ true
equal_itself f = both _ _ (same f.a) (same f.b)
  where
    both : (t u : Bool) → t ≡ true → u ≡ true → (t && u) ≡ true
    both t u h k = rw (h, k) refl

    one : (m : ℤ) → int_eq m m ≡ true
    one m = grind (arith, ints)

    same : (v : Vertex) → is_same_vertex v v ≡ true
    same v = both _ _ (one v.x) (one v.y)

beyond_off : (q : Part) → q ≢ Boundary → beyond q ≢ Boundary
beyond_off Interior off is = cc
beyond_off Boundary off is = off refl
beyond_off Exterior off is = cc

not_dots : Dots ≡ Rings → ⊥
not_dots h = cc

not_polylines : Polylines ≡ Rings → ⊥
not_polylines h = cc

turned_node : (g : Figure) (p y z : Point) → IsGeometry g → kind_of g ≡ Rings → 0 < y.w → 0 < z.w → (y.x *ℤ pos z.w) ≤ℤ (z.x *ℤ pos y.w) → ArePassed (edges_of g) p y z → part_of g z ≡ beyond (part_of g y)
turned_node (Points vs) p y z good is wy wz ahead h = absurd (not_dots is)
turned_node (Lines paths) p y z good is wy wz ahead h = absurd (not_polylines is)
turned_node (Areas rings) p y z good is wy wz ahead h = turned_part rings p y z good wy wz ahead h

module _ (own other : Outline) (s : Shape) (e f : Edge) (near : List Edge) (k p l : Point) (part : Part) (b : IsBounded other s) (are : AreNear other e near) (first : AreNext own other e k p) (from_ : IsBefore k p)
    (lies : LiesOff other (middle k p) part) (only : IsOnlyOn near p f) (cross : IsCrossing other.edges.items e f) (next : AreNext own other e p l) (to_ : IsBefore p l) where
  gap_first_ : IsGapOf k p first.nodes
  gap_first_ = first.gap from_

  gap_next : IsGapOf p l next.nodes
  gap_next = next.gap to_

  of_k : IsPointOf e k
  of_k = all_among (IsPointOf e) k first.nodes first.cuts.nodes.points (gap_first k p first.nodes gap_first_)

  of_p : IsPointOf e p
  of_p = all_among (IsPointOf e) p next.nodes next.cuts.nodes.points (gap_first p l next.nodes gap_next)

  of_l : IsPointOf e l
  of_l = all_among (IsPointOf e) l next.nodes next.cuts.nodes.points (gap_second p l next.nodes gap_next)

  abbrev m : Point
  m = middle k p

  abbrev n : Point
  n = middle p l

  long_e : HasLength e
  long_e = cuts_long own other e next.nodes next.cuts

  in_m : IsInPiece e k p m
  in_m = record {
    wide = middle_wide k p of_k.wide of_p.wide;
    level = level_mix e 1 k 1 p (on_level e k of_k.on) (on_level e p of_p.on);
    after = before_middle k p from_;
    before = middle_before k p from_;
  }

  in_n : IsInPiece e p l n
  in_n = record {
    wide = middle_wide p l of_p.wide of_l.wide;
    level = level_mix e 1 p 1 l (on_level e p of_p.on) (on_level e l of_l.on);
    after = before_middle p l to_;
    before = middle_before p l to_;
  }

  around : AreAround e p m n
  around = record {
    wide = of_p.wide;
    wide_y = in_m.wide;
    wide_z = in_n.wide;
    level = on_level e p of_p.on;
    level_y = in_m.level;
    level_z = in_n.level;
    before = in_m.before;
    after = in_n.after;
  }

  in_first : (g : Edge) → IsAmong g other.edges.items → IsAmong g first.cuts.edges
  in_first g one = first.cuts.one.edges.second g one

  in_next : (g : Edge) → IsAmong g other.edges.items → IsAmong g next.cuts.edges
  in_next g one = next.cuts.one.edges.second g one

  one_first : IsAmong e first.cuts.edges
  one_first = first.cuts.one.edges.first e first.cuts.one.one

  one_next : IsAmong e next.cuts.edges
  one_next = next.cuts.one.edges.first e next.cuts.one.one

  long_of : (g : Edge) → IsAmong g other.edges.items → HasLength g
  long_of g one = all_among HasLength g next.cuts.edges next.cuts.one.edges.long (in_next g one)

  is_only : (g : Edge) → IsAmong g other.edges.items → is_on g p ≡ true → g ≡ f
  is_only g one on = only.only g (near_of e g near p of_p.wide of_p.on on (all_among (IsFound e near) g other.edges.items are.found one)) on

  off_m : IsOffEach other.edges.items m
  off_m = off_each other m part lies

  on_n : is_on e n ≡ true
  on_n = (gap_middle own other e next.nodes p l next.cuts gap_next).on

  not_crossing : (g : Edge) → IsAmong g other.edges.items → is_on g p ≡ true → is_on g n ≡ true → ⊥
  not_crossing g one on also = by_zero (turn_of e g)
      (λ some. none_in_gap p l n next.nodes in_n.wide (All-weaker (IsPointOf e) IsWide (λ x h. h.wide) next.nodes next.cuts.nodes.points) next.cuts.nodes.ascend
      (record { gap = gap_next; after = in_n.after; before = in_n.before }) (next.cuts.nodes.nodes n in_n.wide on_n (Meeting e g one_next (in_next g one) on_n also some)))
      (λ none. (subst (IsCrossing other.edges.items e) (sym (is_only g one on)) cross).first
      (line_shared g e n (at g.a) (long_of g one) in_n.wide (back _ _ (turn_of-turned e g) none) (on_level g n also) (first_level g) in_n.level))
    where
      back : (a c : ℤ) → a ≡ neg_ℤ c → c ≡ pos 0 → a ≡ pos 0
      back a c h k = omega (arith, ints)

  off_n : IsOffEach other.edges.items n
  off_n g one = by_test (is_on g p)
      (λ on. by_test (is_on g n) (λ also. absurd (not_crossing g one on also)) (λ no. no))
      (λ off. off_after next.cuts.edges next.cuts.points e next.nodes p l one_next long_e next.cuts.nodes gap_next (g ∷ []) (λ h c. alone h c (λ x. IsAmong x next.cuts.edges) (in_next g one)) (λ h c. alone h c HasLength (long_of g one))
      (λ h c. alone h c (λ x. is_on x p ≡ false) off) g (inl refl))
    where
      alone : (h : Edge) → IsAmong h (g ∷ []) → (P : Edge → Type 0) → P g → P h
      alone h (inl is) P holds = subst P (sym is) holds
      alone h (inr none) P holds = absurd none

  unmet : (g : Edge) → IsAmong g other.edges.items → is_on g p ≡ false → IsMet g m n → ⊥
  unmet g one off met = elim (order met.point p) [
    | inl less ↦ clash (is_on g met.point) met.on
        (gap_kept first.cuts.edges first.cuts.points e first.nodes k p one_first long_e first.cuts.nodes gap_first_ g (in_first g one) (long_of g one) met.point m
        (record { wide = wide; level = level; after = after; before = less }) in_m ∙ off_m g one)
    | inr c ↦ elim c [
      | inl same ↦ clash (is_on g p) (sym (is_on-same_place g met.point p wide of_p.wide same) ∙ met.on) off
      | inr more ↦ clash (is_on g met.point) met.on
          (gap_kept next.cuts.edges next.cuts.points e next.nodes p l one_next long_e next.cuts.nodes gap_next g (in_next g one) (long_of g one) met.point n
          (record { wide = wide; level = level; after = more; before = before }) in_n ∙ off_n g one)
    ]
  ]
    where
      wide : 0 < met.point.w
      wide = on_way_wide m n met.point in_m.wide in_n.wide met.way

      level : side e met.point ≡ pos 0
      level = subst (λ (x : Point). side e x ≡ pos 0) (sym met.way.is) (level_mix e met.way.s m met.way.t n in_m.level in_n.level)

      after : IsBefore k met.point
      after = subst (λ (x : Point). IsBefore k x) (sym met.way.is) (before_mix k m n met.way.s met.way.t met.way.some in_m.after (before_trans k p n of_k.wide of_p.wide in_n.wide from_ in_n.after))

      before : IsBefore met.point l
      before = subst (λ (x : Point). IsBefore x l) (sym met.way.is) (mix_before l m n met.way.s met.way.t met.way.some (before_trans m p l in_m.wide of_p.wide of_l.wide in_m.before to_) in_n.before)

  odd_on : is_odd (count_by (λ g. is_on g p) other.edges.items) ≡ true
  odd_on = ap is_odd (count_same (λ g. is_on g p) (is_equal f) other.edges.items each) ∙ cross.odd
    where
      each : (g : Edge) → IsAmong g other.edges.items → is_on g p ≡ is_equal f g
      each g one = by_test (is_on g p)
          (λ on. on ∙ sym (subst (λ (x : Edge). is_equal f x ≡ true) (sym (is_only g one on)) (equal_itself f)))
          (λ off. by_test (is_equal f g)
          (λ yes. clash (is_on g p) (subst (λ (x : Edge). is_on x p ≡ true) (ends_same f g yes) only.on) off)
          (λ no. off ∙ sym no))

  ahead : (m.x *ℤ pos n.w) ≤ℤ (n.x *ℤ pos m.w)
  ahead = elim (before_trans m p n in_m.wide of_p.wide in_n.wide in_m.before in_n.after) [
    | inl less ↦ weak _ _ less
    | inr level ↦ same _ _ level.0
  ]
    where
      same : (a c : ℤ) → a ≡ c → a ≤ℤ c
      same a c h = omega (arith, ints)

  passed : ArePassed other.edges.items p m n
  passed = record {
    off_y = off_m;
    off_z = off_n;
    unmet = unmet;
    changed = λ g one on. changes other.edges.items e g p m n around on (subst (IsCrossing other.edges.items e) (sym (is_only g one on)) cross);
    odd = odd_on;
  }

  lies_beyond : LiesOff other n (beyond part)
  lies_beyond = lies_off other s n (beyond part) b in_n.wide lies.area (beyond_off part lies.off)
      (outline_part-is b.figure other n b.outline
      ∙ turned_node b.figure p m n b.geometry (sym b.outline.kind ∙ lies.area) in_m.wide in_n.wide ahead (subst (λ (es : List Edge). ArePassed es p m n) b.outline.edges passed)
      ∙ ap beyond (sym (outline_part-is b.figure other m b.outline) ∙ lies.on))

pub crossed_after : (own other : Outline) (s : Shape) (e f : Edge) (near : List Edge) (p : Point) (part : Part) → IsBounded other s → AreNear other e near → LiesBefore own other e p part → IsOnlyOn near p f
    → IsCrossing other.edges.items e f → LiesAfter own other e p (beyond part)
crossed_after own other s e f near p part b are h only cross l next to_ = lies_beyond own other s e f near h.node p l part b are h.next h.before h.lies only cross next to_

-- ---- what is known from node to node, if it is

pub after_of_off : (own other : Outline) (s : Shape) (e : Edge) (p : Point) (x : Option Part) → IsBounded other s → IfSome x (LiesOff other p) → IfSome x (LiesAfter own other e p)
after_of_off own other s e p None b h = tt
after_of_off own other s e p (Some part) b h = λ l next before. lies_after own other s e p l b next before part h

pub before_of_off : (own other : Outline) (e : Edge) (k l m : Point) (x : Option Part) → AreNext own other e k l → IsBefore k l → m ≡ middle k l → IfSome x (LiesOff other m) → IfSome x (LiesBefore own other e l)
before_of_off own other e k l m None next before is h = tt
before_of_off own other e k l m (Some part) next before is h = record { node = k; next = next; before = before; lies = subst (λ (z : Point). LiesOff other z part) is h }

pub off_of_after : (own other : Outline) (e : Edge) (k l m : Point) (x : Option Part) → AreNext own other e k l → IsBefore k l → m ≡ middle k l → IfSome x (LiesAfter own other e k) → IfSome x (LiesOff other m)
off_of_after own other e k l m None next before is h = tt
off_of_after own other e k l m (Some part) next before is h = subst (λ (z : Point). LiesOff other z part) (sym is) (h l next before)

pub off_of_before : (own other : Outline) (s : Shape) (e : Edge) (p : Point) (x : Option Part) → IsBounded other s → list_any (λ f. is_on f p) other.edges.items ≡ false → IfSome x (LiesBefore own other e p) → IfSome x (LiesOff other p)
off_of_before own other s e p None b off h = tt
off_of_before own other s e p (Some part) b off h = lies_before own other s e h.node p b h.next h.before part h.lies off

pub across_after : (own other : Outline) (s : Shape) (e f : Edge) (near : List Edge) (p : Point) (x y : Option Part) → IsBounded other s → AreNear other e near → IfSome x (LiesBefore own other e p) → IsOnlyOn near p f
    → IfSome y (IsAcross other.edges.items e f x) → IfSome y (LiesAfter own other e p)
across_after own other s e f near p x None b are h only c = tt
across_after own other s e f near p x (Some q) b are h only c =
    subst (LiesAfter own other e p) (sym c.beyond) (crossed_after own other s e f near p c.before b are (subst (λ (z : Option Part). IfSome z (LiesBefore own other e p)) c.is h) only c.crossing)
