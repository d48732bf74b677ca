-- Points of an edge that are collected one by one.
use Rattle.std.proofs.Common.{◌≡◌, ◌<◌, ◌+◌, ◌⊎◌, inl, inr, arith, refl, sym, subst, ap, ◌∙◌, true, false, List, [], ◌∷◌, ◌++◌, length, get_or, take, map, All, append_assoc, append-nil, suc, zero}
use Rattle.std.specs.Prelude.{◌≢◌, ℕ, ℤ, pos, nat_abs, Bool, ◌&&◌, ◌||◌, int_le, ◌*ℤ◌, ◌-ℤ◌, ◌+ℤ◌, ◌<ℤ◌, ◌≤ℤ◌}
use Rattle.std.specs.Ordering.{int_eq}
use Rattle.std.proofs.lemmas.Int.{ints, by_lt_z}
use Rattle.std.specs.List.{Contains}
use Rattle.std.specs.List.Sorted.{IsPermutation}
use Rattle.std.proofs.lemmas.List.Elements.{All-more, All-push, All-map, Contains-append_left, Contains-push}
use Rattle.std.proofs.lemmas.List.Sorted.{All-permutation, Contains-permutation}
use Rattle.plane_core.specs.declared.edge.Edge.{Edge}
use Rattle.plane_core.specs.declared.node.Node.{Node}
use Rattle.plane_core.specs.declared.vertex.Vertex.{Vertex}
use Rattle.plane_core.specs.Points.{Point, at, run, rise, side, turn_of, is_on, is_at, is_between, IsSamePlace}
use Rattle.plane_core.specs.Boxes.{does_reach, do_overlap, do_boxes_meet}
use Rattle.plane_core.specs.Figures.{HasLength}
use Rattle.plane_core.specs.Places.{node_point}
use Rattle.plane_core.specs.Meetings.{IsMeeting, HaveNoMeeting}
use Rattle.noding_core.specs.Gathered.{Extends, IsOn, HasPlace, HasVertex, HasMeeting, HasMeetings, HasEnds, is_same, is_end, IsJoint}
use Rattle.noding_core.specs.Nodes.{IsNode, IsPlaceOf, Ascend, IsPointOf, AreNodesOf}
use Rattle.noding_core.specs.Nodes.IsNode.{FirstEnd, LastEnd, Meeting, Single}
use Rattle.plane_core.proofs.Ring.{monomials, times-zero, times-one, one-times, times_comm}
use Rattle.plane_core.proofs.ScaleLemmas.{less_scaled}
use Rattle.plane_core.proofs.PartScaleLemmas.{is_on-same_place}
use Rattle.plane_core.proofs.FormLemmas.{no_zero_divisor, by_zero}
use Rattle.noding_core.proofs.OrderLemmas.{same_sym, same_trans, wide_z, across, upward}
use Rattle.plane_core.proofs.CrossingLemmas.{level_of}
use Rattle.plane_core.proofs.PlaceLemmas.{place_on}
use Rattle.noding_core.proofs.NodeLemmas.{all_among}
use Rattle.noding_core.proofs.PieceLemmas.{side-way}
use Rattle.noding_core.proofs.TestLemmas.{by_test}
use Rattle.noding_core.proofs.OffPartLemmas.{first_on, last_on}

-- tests
and_first : (a b : Bool) → (a && b) ≡ true → a ≡ true
and_first true b h = refl
and_first false b h = cc

and_second : (a b : Bool) → (a && b) ≡ true → b ≡ true
and_second true b h = h
and_second false b h = cc

and_both : (s t : Bool) → s ≡ true → t ≡ true → (s && t) ≡ true
and_both s t h k = rw (h, k) refl

or_second : (a b : Bool) → (a || b) ≡ true → a ≡ false → b ≡ true
or_second true b h k = cc
or_second false b h k = h

or_true : (a b : Bool) → b ≡ true → (a || b) ≡ true
or_true true b h = refl
or_true false b h = h

or_first : (a b : Bool) → a ≡ true → (a || b) ≡ true
or_first a b h = rw h refl

same_fact : (m n : ℤ) → int_eq m n ≡ true → m ≡ n
same_fact m n h = grind (arith, ints)

pub extends-refl : {A : Type 0} (ns : List A) → Extends ns ns
extends-refl ns = record { more = []; is = sym (append-nil ns) }

pub extends-push : {A : Type 0} (ns ms : List A) (n : A) → ms ≡ ns ++ n ∷ [] → Extends ns ms
extends-push ns ms n e = record { more = n ∷ []; is = e }

pub extends-trans : {A : Type 0} (a b c : List A) → Extends a b → Extends b c → Extends a c
extends-trans {A = A} a b c h k = record {
  more = h.more ++ k.more;
  is = k.is ∙ ap (λ (ns : List A). ns ++ k.more) h.is ∙ append_assoc a h.more k.more;
}

pub place_kept : (ns ms : List Node) (p : Point) → Extends ns ms → HasPlace ns p → HasPlace ms p
place_kept ns ms p k h = record {
  node = h.node;
  among = subst (λ (l : List Node). Contains l h.node) (sym k.is) (Contains-append_left ns k.more h.node h.among);
  same = h.same;
}

pub vertex_kept : (e : Edge) (ns ms : List Node) (v : Vertex) → Extends ns ms → HasVertex e ns v → HasVertex e ms v
vertex_kept e ns ms v k h = record { here = λ on. place_kept ns ms (at v) k (h.here on) }

pub meeting_kept : (e : Edge) (ns ms : List Node) (f : Edge) → Extends ns ms → HasMeeting e ns f → HasMeeting e ms f
meeting_kept e ns ms f k h = record { here = λ p wide m. place_kept ns ms p k (h.here p wide m) }

pub meetings_kept : (e : Edge) (ns ms : List Node) (f : Edge) → Extends ns ms → HasMeetings e ns f → HasMeetings e ms f
meetings_kept e ns ms f k h = record {
  first = vertex_kept e ns ms f.a k h.first;
  last = vertex_kept e ns ms f.b k h.last;
  meeting = meeting_kept e ns ms f k h.meeting;
}

-- a vertex that was pushed, or isn't on the edge
pub vertex_pushed : (e : Edge) (ns ms : List Node) (n : Node) (v : Vertex) → ms ≡ ns ++ n ∷ [] → IsSamePlace (node_point n) (at v) → HasVertex e ms v
vertex_pushed e ns ms n v e1 is = record {
  here = λ on. record {
    node = n;
    among = subst (λ (l : List Node). Contains l n) (sym e1) (Contains-push ns n);
    same = same_sym (node_point n) (at v) is;
  };
}

pub vertex_off : (e : Edge) (ns : List Node) (v : Vertex) → is_on e (at v) ≡ false → HasVertex e ns v
vertex_off e ns v off = record { here = λ on. absurd (both (is_on e (at v)) on off) }
  where
    both : (t : Bool) → t ≡ true → t ≡ false → ⊥
    both t h k = cc

-- all on the edge, and one more
pub on_pushed : (e : Edge) (ns ms : List Node) (n : Node) → ms ≡ ns ++ n ∷ [] → n.place.edge ≡ e → All (IsOn e) ns → All (IsOn e) ms
on_pushed e ns ms n is on all = subst (All (IsOn e)) (sym is) (All-push (IsOn e) ns n all on)

-- a place of an edge is on it
pub on_edge : (e : Edge) (n : Node) → IsOn e n → is_on e (node_point n) ≡ true
on_edge e n same = subst (λ (f : Edge). is_on f (node_point n) ≡ true) same (place_on n.place)

pub vertices_more : (e : Edge) (ns ms : List Node) (v : Vertex) (vs : List Vertex) (i : ℕ) → i < length vs → v ≡ get_or vs i v → Extends ns ms
    → All (HasVertex e ns) (take i vs) → HasVertex e ms v → All (HasVertex e ms) (take (i + 1) vs)
vertices_more e ns ms v vs i lt is kept h k =
    All-more (HasVertex e ms) vs i v lt (λ n d below. vertex_kept e ns ms _ kept (h n d below)) (subst (HasVertex e ms) is k)

pub meetings_more : (e : Edge) (ns ms : List Node) (f : Edge) (fs : List Edge) (i : ℕ) → i < length fs → f ≡ get_or fs i f → Extends ns ms
    → All (HasMeetings e ns) (take i fs) → HasMeetings e ms f → All (HasMeetings e ms) (take (i + 1) fs)
meetings_more e ns ms f fs i lt is kept h k =
    All-more (HasMeetings e ms) fs i f lt (λ n d below. meetings_kept e ns ms _ kept (h n d below)) (subst (HasMeetings e ms) is k)

-- a point that two edges share and no other
meeting_zero : (d u a b c f : ℤ) → ¬ (d ≡ pos 0) → d *ℤ u ≡ a *ℤ b -ℤ c *ℤ f → b ≡ pos 0 → f ≡ pos 0 → u ≡ pos 0
meeting_zero d u a b c f some e hb hf = by_zero u (λ no. absurd (no_zero_divisor d u some no (rw (hb, hf) at e ∙ none a c))) (λ yes. yes)
  where
    none : (a c : ℤ) → a *ℤ pos 0 -ℤ c *ℤ pos 0 ≡ pos 0
    none a c = simp monomials (omega (arith, ints))

way_rest : (w v m : ℤ) → w *ℤ pos 0 ≡ v *ℤ pos 0 +ℤ m → m ≡ pos 0
way_rest w v m e = omega (arith, ints, times-zero w, times-zero v)

way_left : (w s v t m : ℤ) → w *ℤ s ≡ v *ℤ t +ℤ m → t ≡ pos 0 → s ≡ pos 0 → m ≡ pos 0
way_left w s v t m e h k = way_rest w v m (rw (h, k) at e)

level_way : (e : Edge) (p q : Point) → side e p ≡ pos 0 → side e q ≡ pos 0 → run e *ℤ upward p q -ℤ rise e *ℤ across p q ≡ pos 0
level_way e p q h k = way_left (pos p.w) (side e q) (pos q.w) (side e p) _ (side-way e p q) h k

pub meeting_same : (e f : Edge) (p q : Point) → IsMeeting e f p → IsMeeting e f q → IsSamePlace p q
meeting_same e f p q h k =
    let ep = level_of e p h.first in
    let eq = level_of e q k.first in
    let fp = level_of f p h.second in
    let fq = level_of f q k.second in
    let we = level_way e p q ep eq in
    let wf = level_way f p q fp fq in
    let a = meeting_zero (turn_of e f) (across p q) (run f) _ (run e) _ h.turning (ring_across (run e) (rise e) (run f) (rise f) (across p q) (upward p q)) we wf in
    let u = meeting_zero (turn_of e f) (upward p q) (rise f) _ (rise e) _ h.turning (ring_upward (run e) (rise e) (run f) (rise f) (across p q) (upward p q)) we wf in
    (equal (p.x *ℤ pos q.w) (q.x *ℤ pos p.w) a, equal (p.y *ℤ pos q.w) (q.y *ℤ pos p.w) u)
  where
    ring_across : (r d R D u v : ℤ) → (r *ℤ D -ℤ R *ℤ d) *ℤ u ≡ R *ℤ (r *ℤ v -ℤ d *ℤ u) -ℤ r *ℤ (R *ℤ v -ℤ D *ℤ u)
    ring_across r d R D u v = simp monomials (omega (arith, ints))

    ring_upward : (r d R D u v : ℤ) → (r *ℤ D -ℤ R *ℤ d) *ℤ v ≡ D *ℤ (r *ℤ v -ℤ d *ℤ u) -ℤ d *ℤ (R *ℤ v -ℤ D *ℤ u)
    ring_upward r d R D u v = simp monomials (omega (arith, ints))

    equal : (m n : ℤ) → n -ℤ m ≡ pos 0 → m ≡ n
    equal m n h = omega (arith, ints)

pub meeting_pushed : (e : Edge) (ns ms : List Node) (n : Node) (f : Edge) → ms ≡ ns ++ n ∷ [] → IsMeeting e f (node_point n) → HasMeeting e ms f
meeting_pushed e ns ms n f is h = record {
  here = λ p wide m. record {
    node = n;
    among = subst (λ (l : List Node). Contains l n) (sym is) (Contains-push ns n);
    same = meeting_same e f p (node_point n) m h;
  };
}

pub meeting_none : (e : Edge) (ns : List Node) (f : Edge) → HaveNoMeeting e f → HasMeeting e ns f
meeting_none e ns f h = record { here = λ p wide m. absurd (h.none p wide m) }

-- edges whose boxes don't meet share nothing
true_false : (t : Bool) → t ≡ true → t ≡ false → ⊥
true_false t h k = cc

data Within (a b : ℤ) (w : ℕ) (z : ℤ) : Type 0 where
  Up : (pos w *ℤ a) ≤ℤ z → z ≤ℤ (pos w *ℤ b) → Within a b w z
  Down : (pos w *ℤ b) ≤ℤ z → z ≤ℤ (pos w *ℤ a) → Within a b w z

true_le : (m n : ℤ) → int_le m n ≡ true → m ≤ℤ n
true_le m n h = grind (arith, ints)

le_true : (m n : ℤ) → m ≤ℤ n → int_le m n ≡ true
le_true m n h = grind (arith, ints)

within : (a b z : ℤ) (w : ℕ) → is_between a b w z ≡ true → Within a b w z
within a b z w h = by_test (int_le (pos w *ℤ a) z && int_le z (pos w *ℤ b))
    (λ k. Up (true_le _ _ (and_first _ _ k)) (true_le _ _ (and_second _ _ k)))
    (λ k. let g = or_second _ _ h k in Down (true_le _ _ (and_first _ _ g)) (true_le _ _ (and_second _ _ g)))

-- one of two numbers, times w, is no less than what lies between them
reached : (a b z : ℤ) (w : ℕ) → Within a b w z → (z ≤ℤ (pos w *ℤ a)) ⊎ (z ≤ℤ (pos w *ℤ b))
reached a b z w (Up h k) = inr k
reached a b z w (Down h k) = inl k

started : (a b z : ℤ) (w : ℕ) → Within a b w z → ((pos w *ℤ a) ≤ℤ z) ⊎ ((pos w *ℤ b) ≤ℤ z)
started a b z w (Up h k) = inl h
started a b z w (Down h k) = inr h

through : (w c a z : ℤ) → pos 0 <ℤ w → (w *ℤ c) ≤ℤ z → z ≤ℤ (w *ℤ a) → int_le c a ≡ true
through w c a z hw h k = by_lt_z a c
    (λ less. absurd (no (w *ℤ c) (w *ℤ a) z (less_scaled w a c hw less) h k))
    (λ le. le_true c a le)
  where
    no : (m n z : ℤ) → n <ℤ m → m ≤ℤ z → z ≤ℤ n → ⊥
    no m n z h k l = omega (arith, ints)

reach : (a b c d z : ℤ) (w : ℕ) → 0 < w → Within a b w z → Within c d w z → does_reach a b c d ≡ true
reach a b c d z w wide h k = elim (reached a b z w h) [
  | inl ua ↦ elim (started c d z w k) [
    | inl uc ↦ or_first (int_le c a || int_le c b || int_le d a) (int_le d b) (or_first (int_le c a || int_le c b) (int_le d a) (or_first (int_le c a) (int_le c b) (through (pos w) c a z (wide_z w wide) uc ua)))
    | inr ud ↦ or_first (int_le c a || int_le c b || int_le d a) (int_le d b) (or_true (int_le c a || int_le c b) (int_le d a) (through (pos w) d a z (wide_z w wide) ud ua))
  ]
  | inr ub ↦ elim (started c d z w k) [
    | inl uc ↦ or_first (int_le c a || int_le c b || int_le d a) (int_le d b) (or_first (int_le c a || int_le c b) (int_le d a) (or_true (int_le c a) (int_le c b) (through (pos w) c b z (wide_z w wide) uc ub)))
    | inr ud ↦ or_true (int_le c a || int_le c b || int_le d a) (int_le d b) (through (pos w) d b z (wide_z w wide) ud ub)
  ]
]

overlapping : (a b c d z : ℤ) (w : ℕ) → 0 < w → is_between a b w z ≡ true → is_between c d w z ≡ true → do_overlap a b c d ≡ true
overlapping a b c d z w wide h k =
    let i = within a b z w h in
    let j = within c d z w k in
    and_both (does_reach a b c d) (does_reach c d a b) (reach a b c d z w wide i j) (reach c d a b z w wide j i)

along_x : (e : Edge) (p : Point) → is_on e p ≡ true → is_between e.a.x e.b.x p.w p.x ≡ true
along_x e p h = and_second (int_eq (side e p) (pos 0)) _ (and_first (int_eq (side e p) (pos 0) && is_between e.a.x e.b.x p.w p.x) _ h)

along_y : (e : Edge) (p : Point) → is_on e p ≡ true → is_between e.a.y e.b.y p.w p.y ≡ true
along_y e p h = and_second (int_eq (side e p) (pos 0) && is_between e.a.x e.b.x p.w p.x) _ h

pub boxes_meet : (e f : Edge) (p : Point) → 0 < p.w → is_on e p ≡ true → is_on f p ≡ true → do_boxes_meet e f ≡ true
boxes_meet e f p wide he hf =
    and_both (do_overlap e.a.x e.b.x f.a.x f.b.x) (do_overlap e.a.y e.b.y f.a.y f.b.y)
    (overlapping e.a.x e.b.x f.a.x f.b.x p.x p.w wide (along_x e p he) (along_x f p hf))
    (overlapping e.a.y e.b.y f.a.y f.b.y p.y p.w wide (along_y e p he) (along_y f p hf))

pub at_first : (v : Vertex) → is_at v (at v) ≡ true
at_first v = grind (arith, ints, one-times)

pub meetings_none : (e : Edge) (ns : List Node) (f : Edge) → do_boxes_meet e f ≡ false → HasMeetings e ns f
meetings_none e ns f off = record {
  first = record { here = λ on. absurd (true_false (do_boxes_meet e f) (boxes_meet e f (at f.a) (omega arith) on (first_on f (at f.a) (at_first f.a))) off) };
  last = record { here = λ on. absurd (true_false (do_boxes_meet e f) (boxes_meet e f (at f.b) (omega arith) on (last_on f (at f.b) (at_first f.b))) off) };
  meeting = record { here = λ p wide m. absurd (true_false (do_boxes_meet e f) (boxes_meet e f p wide m.first m.second) off) };
}

-- the nodes, in order
back : (p : Point) (ns : List Node) (n : Node) → Contains ns n → IsSamePlace p (node_point n) → IsPlaceOf p (map node_point ns)
back p [] n h same = absurd (none h.1)
  where
    none : h.0 < 0 → ⊥
    none l = omega arith
back p (m ∷ ns) n (zero, lt, e) same = inl (subst (λ (k : Node). IsSamePlace p (node_point k)) (sym e) same)
back p (m ∷ ns) n (suc k, lt, e) same = inr (back p ns n (k, omega (arith, lt), e) same)

place_sorted : (ns ms : List Node) (p : Point) → IsPermutation ns ms → HasPlace ns p → IsPlaceOf p (map node_point ms)
place_sorted ns ms p moved h = back p ms h.node (Contains-permutation ns ms h.node moved h.among) h.same

node_wide : (n : Node) → 0 < (node_point n).w
node_wide n = plain n.place.w n.place.positive
  where
    plain : (w : ℤ) → pos 0 <ℤ w → 0 < nat_abs w
    plain w h = omega (arith, ints)

place_same : (ns : List Node) (p q : Point) → 0 < p.w → 0 < q.w → IsSamePlace p q → HasPlace ns q → HasPlace ns p
place_same ns p q wp wq same h = record {
  node = h.node;
  among = h.among;
  same = same_trans p q (node_point h.node) wp wq (node_wide h.node) same h.same;
}

-- a vertex that is a point is at its place
level_coordinate : (x w a : ℤ) → int_eq x (w *ℤ a) ≡ true → x *ℤ pos 1 ≡ a *ℤ w
level_coordinate x w a h = times-one x ∙ same_fact x (w *ℤ a) h ∙ times_comm w a

pub at_same : (v : Vertex) (p : Point) → is_at v p ≡ true → IsSamePlace p (at v)
at_same v p h = (
  level_coordinate p.x (pos p.w) v.x (and_first _ _ h),
  level_coordinate p.y (pos p.w) v.y (and_second (int_eq p.x (pos p.w *ℤ v.x)) _ h),
)

pub on_there : (e : Edge) (v : Vertex) (p : Point) → 0 < p.w → is_on e p ≡ true → IsSamePlace p (at v) → is_on e (at v) ≡ true
on_there e v p wide on same = sym (is_on-same_place e p (at v) wide (omega arith) same) ∙ on

-- edges that are parallel to one edge are parallel
pub parallel_both : (e f g : Edge) → HasLength e → turn_of e f ≡ pos 0 → turn_of e g ≡ pos 0 → turn_of f g ≡ pos 0
parallel_both e f g long hf hg = by_zero (run e)
    (λ some. meeting_zero (run e) (turn_of f g) (run f) _ (run g) _ some (by_run (run e) (rise e) (run f) (rise f) (run g) (rise g)) hg hf)
    (λ no_run. by_zero (rise e)
    (λ some. meeting_zero (rise e) (turn_of f g) (rise f) _ (rise g) _ some (by_rise (run e) (rise e) (run f) (rise f) (run g) (rise g)) hg hf)
    (λ no_rise. absurd (long (coordinate _ _ no_run, coordinate _ _ no_rise))))
  where
    coordinate : (a b : ℤ) → b -ℤ a ≡ pos 0 → a ≡ b
    coordinate a b h = omega (arith, ints)

    by_run : (r d R D s t : ℤ) → r *ℤ (R *ℤ t -ℤ s *ℤ D) ≡ R *ℤ (r *ℤ t -ℤ s *ℤ d) -ℤ s *ℤ (r *ℤ D -ℤ R *ℤ d)
    by_run r d R D s t = simp monomials (omega (arith, ints))

    by_rise : (r d R D s t : ℤ) → d *ℤ (R *ℤ t -ℤ s *ℤ D) ≡ D *ℤ (r *ℤ t -ℤ s *ℤ d) -ℤ t *ℤ (r *ℤ D -ℤ R *ℤ d)
    by_rise r d R D s t = simp monomials (omega (arith, ints))

pub node_found : (e : Edge) (es : List Edge) (vs : List Vertex) (ns : List Node) (p : Point) → HasLength e
    → All (HasMeetings e ns) es → All (HasVertex e ns) vs → 0 < p.w → is_on e p ≡ true → IsNode es vs p → HasPlace ns p
node_found e es vs ns p long ms hs wide on (FirstEnd f one here) =
    let same = at_same f.a p here in
    place_same ns p (at f.a) wide (omega arith) same ((all_among (HasMeetings e ns) f es ms one).first.here (on_there e f.a p wide on same))
node_found e es vs ns p long ms hs wide on (LastEnd f one here) =
    let same = at_same f.b p here in
    place_same ns p (at f.b) wide (omega arith) same ((all_among (HasMeetings e ns) f es ms one).last.here (on_there e f.b p wide on same))
node_found e es vs ns p long ms hs wide on (Meeting f g one other of og turning) = by_zero (turn_of e f)
    (λ some. (all_among (HasMeetings e ns) f es ms one).meeting.here p wide (record { turning = some; first = on; second = of }))
    (λ flat. by_zero (turn_of e g)
    (λ some. (all_among (HasMeetings e ns) g es ms other).meeting.here p wide (record { turning = some; first = on; second = og }))
    (λ level. absurd (turning (parallel_both e f g long flat level))))
node_found e es vs ns p long ms hs wide on (Single v one here) =
    let same = at_same v p here in
    place_same ns p (at v) wide (omega arith) same ((all_among (HasVertex e ns) v vs hs one).here (on_there e v p wide on same))

pub nodes_made : (e : Edge) (es : List Edge) (vs : List Vertex) (ns ms : List Node) → HasLength e → All (IsOn e) ns
    → HasVertex e ns e.a → HasVertex e ns e.b → All (HasMeetings e ns) es → All (HasVertex e ns) vs
    → IsPermutation ns ms → Ascend (map node_point ms) → AreNodesOf es vs e (map node_point ms)
nodes_made e es vs ns ms long on first last meetings singles moved up = record {
  points = All-map (IsPointOf e) node_point ms (λ k d lt. record { wide = node_wide (get_or ms k d); on = on_edge e (get_or ms k d) (All-permutation (IsOn e) ns ms moved on k d lt) });
  ascend = up;
  first_end = place_sorted ns ms (at e.a) moved (first.here (first_on e (at e.a) (at_first e.a)));
  last_end = place_sorted ns ms (at e.b) moved (last.here (last_on e (at e.b) (at_first e.b)));
  nodes = λ p wide here node. place_sorted ns ms p moved (node_found e es vs ns p long meetings singles wide here node);
}

pub ends_kept : (e : Edge) (ns ms : List Node) → Extends ns ms → HasEnds e ns → HasEnds e ms
ends_kept e ns ms k h = record { first = vertex_kept e ns ms e.a k h.first; last = vertex_kept e ns ms e.b k h.last }

-- both ends are on an edge
first_placed : (e : Edge) (ns : List Node) → HasEnds e ns → HasPlace ns (at e.a)
first_placed e ns h = h.first.here (first_on e (at e.a) (at_first e.a))

last_placed : (e : Edge) (ns : List Node) → HasEnds e ns → HasPlace ns (at e.b)
last_placed e ns h = h.last.here (last_on e (at e.b) (at_first e.b))

-- vertices that are one point
same_at : (u v : Vertex) → is_same u v ≡ true → at u ≡ at v
same_at u v h =
    let x : u.x ≡ v.x = same_fact u.x v.x (and_first (int_eq u.x v.x) (int_eq u.y v.y) h) in
    let y : u.y ≡ v.y = same_fact u.y v.y (and_second (int_eq u.x v.x) (int_eq u.y v.y) h) in
    λ i. record { x = x i; y = y i; w = 1 }

pub end_vertex : (e : Edge) (ns : List Node) (v : Vertex) → HasEnds e ns → is_end e v ≡ true → HasVertex e ns v
end_vertex e ns v h is = by_test (is_same e.a v)
    (λ yes. record { here = λ on. subst (HasPlace ns) (same_at e.a v yes) (first_placed e ns h) })
    (λ no. record { here = λ on. subst (HasPlace ns) (same_at e.b v (or_second (is_same e.a v) (is_same e.b v) is no)) (last_placed e ns h) })

-- edges with an end in common that aren't parallel share no other point
end_on : (e : Edge) (v : Vertex) → is_end e v ≡ true → is_on e (at v) ≡ true
end_on e v is = by_test (is_same e.a v)
    (λ yes. ap (is_on e) (sym (same_at e.a v yes)) ∙ first_on e (at e.a) (at_first e.a))
    (λ no. ap (is_on e) (sym (same_at e.b v (or_second (is_same e.a v) (is_same e.b v) is no))) ∙ last_on e (at e.b) (at_first e.b))

joint_by : (e f : Edge) (ns : List Node) (v : Vertex) → HasEnds e ns → turn_of e f ≢ pos 0 → is_end e v ≡ true → is_on f (at v) ≡ true → HasMeetings e ns f
joint_by e f ns v ends turning is on_f = record {
  first = record { here = λ on. there (at f.a) (omega arith) (record { turning = turning; first = on; second = first_on f (at f.a) (at_first f.a) }) };
  last = record { here = λ on. there (at f.b) (omega arith) (record { turning = turning; first = on; second = last_on f (at f.b) (at_first f.b) }) };
  meeting = record { here = there };
}
  where
    shared : IsMeeting e f (at v)
    shared = record { turning = turning; first = end_on e v is; second = on_f }

    there : (p : Point) → 0 < p.w → IsMeeting e f p → HasPlace ns p
    there p wide m = place_same ns p (at v) wide (omega arith) (meeting_same e f p (at v) m shared) ((end_vertex e ns v ends is).here (end_on e v is))

pub joint_meetings : (e f : Edge) (ns : List Node) → HasEnds e ns → IsJoint e f → HasMeetings e ns f
joint_meetings e f ns ends h = by_test (is_end e f.a)
    (λ yes. joint_by e f ns f.a ends h.turning yes (first_on f (at f.a) (at_first f.a)))
    (λ no. joint_by e f ns f.b ends h.turning (or_second (is_end e f.a) (is_end e f.b) h.end no) (last_on f (at f.b) (at_first f.b)))

-- an edge whose ends both are ends of another shares no other point with it, unless it is parallel
pub held_meetings : (e f : Edge) (ns : List Node) → HasEnds e ns → is_end e f.a ≡ true → is_end e f.b ≡ true → HasMeetings e ns f
held_meetings e f ns ends first last = by_zero (turn_of e f)
    (λ turning. joint_by e f ns f.a ends turning first (first_on f (at f.a) (at_first f.a)))
    (λ none. record {
      first = end_vertex e ns f.a ends first;
      last = end_vertex e ns f.b ends last;
      meeting = record { here = λ p wide m. absurd (m.turning none) };
    })

pub all_meetings_kept : (e : Edge) (ns ms : List Node) (fs : List Edge) → Extends ns ms → All (HasMeetings e ns) fs → All (HasMeetings e ms) fs
all_meetings_kept e ns ms fs k h = λ i d lt. meetings_kept e ns ms _ k (h i d lt)
