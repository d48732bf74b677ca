-- Each edge has a list of its nodes, whatever the other edges and points are.
use Rattle.std.proofs.Common.{◌≡◌, ◌<◌, inl, inr, arith, refl, sym, subst, true, false, List, [], ◌∷◌}
use Rattle.std.specs.Prelude.{ℕ, ℤ, pos, ◌<ℤ◌, ◌≤ℤ◌, neg_ℤ, nat_abs, Bool, All}
use Rattle.std.proofs.lemmas.Int.{ints, by_lt_z}
use Rattle.std.proofs.lemmas.List.Elements.{All-cons, All-head, All-tail}
use Rattle.plane_core.specs.declared.vertex.Vertex.{Vertex}
use Rattle.plane_core.specs.declared.edge.Edge.{Edge}
use Rattle.plane_core.specs.Points.{Point, at, side, turn_of, is_on, is_at, IsSamePlace}
use Rattle.plane_core.specs.Crossings.{do_cross}
use Rattle.plane_core.specs.Figures.{HasLength}
use Rattle.plane_core.specs.Meetings.{divided, IsMeeting}
use Rattle.plane_core.proofs.FormLemmas.{by_zero}
use Rattle.plane_core.proofs.CrossingLemmas.{no_meeting, meeting_up, meeting_down, crossing_of}
use Rattle.noding_core.specs.Nodes.{IsAmong, IsNode, IsPlaceOf, IsUpTo, Ascend, IsPointOf, AreNodesOf}
use Rattle.noding_core.specs.Nodes.IsNode.{FirstEnd, LastEnd, Meeting, Single}
use Rattle.noding_core.proofs.OrderLemmas.{same_refl, same_trans, up_to_or_after, up_to_trans}
use Rattle.noding_core.proofs.OffPartLemmas.{first_on, last_on}
use Rattle.noding_core.proofs.ReadOffLemmas.{by_bool}
use Rattle.noding_core.proofs.GatherLemmas.{at_first, at_same, on_there, parallel_both, meeting_same}

-- points of an edge, in order
record IsLined (e : Edge) (ns : List Point) : Type 0 where
  points : All (IsPointOf e) ns
  ascend : Ascend ns

-- the same, with some places more
record Grows (e : Edge) (ns : List Point) (Q : List Point → Type 0) : Type 0 where
  new : List Point
  lined : IsLined e new
  kept : (q : Point) → IsPlaceOf q ns → IsPlaceOf q new
  more : Q new

all_from : (e : Edge) (p n : Point) (ns : List Point) → 0 < p.w → 0 < n.w → All (IsPointOf e) ns → IsUpTo p n → All (IsUpTo n) ns → All (IsUpTo p) ns
all_from e p n ns wp wn on le h = λ i d lt. up_to_trans p n _ wp wn (on i d lt).wide le (h i d lt)

-- one point more, at its place in the order
record IsInserted (e : Edge) (p : Point) (ns : List Point) : Type 0 where
  new : List Point
  points : All (IsPointOf e) new
  ascend : Ascend new
  here : IsPlaceOf p new
  kept : (q : Point) → IsPlaceOf q ns → IsPlaceOf q new
  from : (m : Point) → IsUpTo m p → All (IsUpTo m) ns → All (IsUpTo m) new

none_of : (P : Point → Type 0) → All P []
none_of P = λ i d lt. absurd (no i lt)
  where
    no : (i : ℕ) → i < 0 → ⊥
    no i lt = omega arith

inserted : (e : Edge) (p : Point) (ns : List Point) → IsPointOf e p → All (IsPointOf e) ns → Ascend ns → IsInserted e p ns
inserted e p [] one on up = record {
  new = p ∷ [];
  points = All-cons (IsPointOf e) p [] one on;
  ascend = (none_of (IsUpTo p), tt);
  here = inl (same_refl p);
  kept = λ q k. absurd k;
  from = λ m le h. All-cons (IsUpTo m) p [] le h;
}
inserted e p (n ∷ ns) one on up = elim (up_to_or_after p n) [
  | inl le ↦ record {
    new = p ∷ n ∷ ns;
    points = All-cons (IsPointOf e) p (n ∷ ns) one on;
    ascend = (All-cons (IsUpTo p) n ns le (all_from e p n ns one.wide (All-head (IsPointOf e) n ns on).wide (All-tail (IsPointOf e) n ns on) le up.0), up);
    here = inl (same_refl p);
    kept = λ q k. inr k;
    from = λ m less h. All-cons (IsUpTo m) p (n ∷ ns) less h;
  }
  | inr after ↦
      let k = inserted e p ns one (All-tail (IsPointOf e) n ns on) up.1 in
      record {
        new = n ∷ k.new;
        points = All-cons (IsPointOf e) n k.new (All-head (IsPointOf e) n ns on) k.points;
        ascend = (k.from n (inl after) up.0, k.ascend);
        here = inr k.here;
        kept = λ q l. behind q k.new (k.kept q) l;
        from = λ m less h. All-cons (IsUpTo m) n k.new (All-head (IsUpTo m) n ns h) (k.from m less (All-tail (IsUpTo m) n ns h));
      }
]
  where
    behind : (q : Point) (new : List Point) → (IsPlaceOf q ns → IsPlaceOf q new) → IsPlaceOf q (n ∷ ns) → IsPlaceOf q (n ∷ new)
    behind q new f (inl s) = inl s
    behind q new f (inr l) = inr (f l)

place_of_same : (p q : Point) (ns : List Point) → 0 < p.w → 0 < q.w → ((n : Point) → IsAmong n ns → 0 < n.w) → IsSamePlace p q → IsPlaceOf q ns → IsPlaceOf p ns
place_of_same p q [] wp wq wide same h = absurd h
place_of_same p q (n ∷ ns) wp wq wide same (inl s) = inl (same_trans p q n wp wq (wide n (inl refl)) same s)
place_of_same p q (n ∷ ns) wp wq wide same (inr h) = inr (place_of_same p q ns wp wq (λ m k. wide m (inr k)) same h)

lined_wide : (e : Edge) (ns : List Point) → All (IsPointOf e) ns → (n : Point) → IsAmong n ns → 0 < n.w
lined_wide e [] on n h = absurd h
lined_wide e (m ∷ ns) on n (inl is) = subst (λ (k : Point). 0 < k.w) (sym is) (All-head (IsPointOf e) m ns on).wide
lined_wide e (m ∷ ns) on n (inr h) = lined_wide e ns (All-tail (IsPointOf e) m ns on) n h

with_point : (e : Edge) (p : Point) (ns : List Point) → IsPointOf e p → IsLined e ns → Grows e ns (IsPlaceOf p)
with_point e p ns one l =
    let k = inserted e p ns one l.points l.ascend in
    record { new = k.new; lined = record { points = k.points; ascend = k.ascend }; kept = k.kept; more = k.here }

-- a vertex, if it is on the edge
abbrev HasSpot : Edge → Vertex → List Point → Type 0
HasSpot e v ns = is_on e (at v) ≡ true → IsPlaceOf (at v) ns

with_vertex : (e : Edge) (v : Vertex) (ns : List Point) → IsLined e ns → Grows e ns (HasSpot e v)
with_vertex e v ns l = by_bool (is_on e (at v))
    (λ yes.
    let k = with_point e (at v) ns (record { wide = omega arith; on = yes }) l in
    record { new = k.new; lined = k.lined; kept = k.kept; more = λ on. k.more })
    (λ off. record { new = ns; lined = l; kept = λ q h. h; more = λ on. absurd (both (is_on e (at v)) on off) })
  where
    both : (t : Bool) → t ≡ true → t ≡ false → ⊥
    both t h k = cc

-- the point where another edge that isn't parallel meets the edge
abbrev HasCrossing : Edge → Edge → List Point → Type 0
HasCrossing e f ns = (p : Point) → 0 < p.w → IsMeeting e f p → IsPlaceOf p ns

at_meeting : (e f : Edge) (m : Point) (ns : List Point) → 0 < m.w → IsMeeting e f m → IsLined e ns → Grows e ns (HasCrossing e f)
at_meeting e f m ns wide is l =
    let k = with_point e m ns (record { wide = wide; on = is.first }) l in
    record {
      new = k.new;
      lined = k.lined;
      kept = k.kept;
      more = λ p wp h. place_of_same p m k.new wp wide (lined_wide e k.new k.lined.points) (meeting_same e f p m h is) k.more;
    }

with_meeting : (e f : Edge) (ns : List Point) → IsLined e ns → Grows e ns (HasCrossing e f)
with_meeting e f ns l = by_bool (do_cross e f)
    (λ yes. by_lt_z (pos 0) (turn_of e f)
    (λ up. at_meeting e f (divided e (side f (at e.a)) (turn_of e f)) ns (up_wide (turn_of e f) up) (meeting_up e f yes up) l)
    (λ le. by_lt_z (turn_of e f) (pos 0)
    (λ down. at_meeting e f (divided e (neg_ℤ (side f (at e.a))) (neg_ℤ (turn_of e f))) ns (down_wide (turn_of e f) down) (meeting_down e f yes down) l)
    (λ ge. absurd ((crossing_of e f yes).turning (level (turn_of e f) le ge)))))
    (λ none. record { new = ns; lined = l; kept = λ q h. h; more = λ p wp h. absurd ((no_meeting e f none).none p wp h) })
  where
    up_wide : (t : ℤ) → pos 0 <ℤ t → 0 < nat_abs t
    up_wide t h = omega (arith, ints)

    down_wide : (t : ℤ) → t <ℤ pos 0 → 0 < nat_abs (neg_ℤ t)
    down_wide t h = omega (arith, ints)

    level : (t : ℤ) → t ≤ℤ pos 0 → pos 0 ≤ℤ t → t ≡ pos 0
    level t h k = omega (arith, ints)

-- both ends of another edge, and where it meets the edge
record HasAll (e : Edge) (f : Edge) (ns : List Point) : Type 0 where
  first : HasSpot e f.a ns
  last : HasSpot e f.b ns
  crossing : HasCrossing e f ns

all_kept : (e f : Edge) (ns ms : List Point) → ((q : Point) → IsPlaceOf q ns → IsPlaceOf q ms) → HasAll e f ns → HasAll e f ms
all_kept e f ns ms kept h = record {
  first = λ on. kept (at f.a) (h.first on);
  last = λ on. kept (at f.b) (h.last on);
  crossing = λ p wp m. kept p (h.crossing p wp m);
}

with_edge : (e f : Edge) (ns : List Point) → IsLined e ns → Grows e ns (HasAll e f)
with_edge e f ns l =
    let one = with_vertex e f.a ns l in
    let two = with_vertex e f.b one.new one.lined in
    let three = with_meeting e f two.new two.lined in
    record {
      new = three.new;
      lined = three.lined;
      kept = λ q h. three.kept q (two.kept q (one.kept q h));
      more = record {
        first = λ on. three.kept (at f.a) (two.kept (at f.a) (one.more on));
        last = λ on. three.kept (at f.b) (two.more on);
        crossing = three.more;
      };
    }

with_edges : (e : Edge) (fs : List Edge) (ns : List Point) → IsLined e ns → Grows e ns (λ ms. (f : Edge) → IsAmong f fs → HasAll e f ms)
with_edges e [] ns l = record { new = ns; lined = l; kept = λ q h. h; more = λ f k. absurd k }
with_edges e (g ∷ fs) ns l =
    let one = with_edge e g ns l in
    let rest = with_edges e fs one.new one.lined in
    record {
      new = rest.new;
      lined = rest.lined;
      kept = λ q h. rest.kept q (one.kept q h);
      more = λ f k. either f rest.new (all_kept e g one.new rest.new rest.kept one.more) (rest.more f) k;
    }
  where
    either : (f : Edge) (ms : List Point) → HasAll e g ms → (IsAmong f fs → HasAll e f ms) → IsAmong f (g ∷ fs) → HasAll e f ms
    either f ms here later (inl is) = subst (λ (x : Edge). HasAll e x ms) (sym is) here
    either f ms here later (inr k) = later k

with_vertices : (e : Edge) (vs : List Vertex) (ns : List Point) → IsLined e ns → Grows e ns (λ ms. (v : Vertex) → IsAmong v vs → HasSpot e v ms)
with_vertices e [] ns l = record { new = ns; lined = l; kept = λ q h. h; more = λ v k. absurd k }
with_vertices e (u ∷ vs) ns l =
    let one = with_vertex e u ns l in
    let rest = with_vertices e vs one.new one.lined in
    record {
      new = rest.new;
      lined = rest.lined;
      kept = λ q h. rest.kept q (one.kept q h);
      more = λ v k. either v rest.new (λ on. rest.kept (at u) (one.more on)) (rest.more v) k;
    }
  where
    either : (v : Vertex) (ms : List Point) → HasSpot e u ms → (IsAmong v vs → HasSpot e v ms) → IsAmong v (u ∷ vs) → HasSpot e v ms
    either v ms here later (inl is) = subst (λ (x : Vertex). HasSpot e x ms) (sym is) here
    either v ms here later (inr k) = later k

at_vertex : (e : Edge) (v : Vertex) (p : Point) (ns : List Point) → All (IsPointOf e) ns → 0 < p.w → is_on e p ≡ true → is_at v p ≡ true → HasSpot e v ns → IsPlaceOf p ns
at_vertex e v p ns on wide here is has =
    let same = at_same v p is in
    place_of_same p (at v) ns wide (omega arith) (lined_wide e ns on) same (has (on_there e v p wide here same))

node_placed : (e : Edge) (es : List Edge) (vs : List Vertex) (ns : List Point) (p : Point) → HasLength e → All (IsPointOf e) ns
    → ((f : Edge) → IsAmong f es → HasAll e f ns) → ((v : Vertex) → IsAmong v vs → HasSpot e v ns)
    → 0 < p.w → is_on e p ≡ true → IsNode es vs p → IsPlaceOf p ns
node_placed e es vs ns p long on fs us wide here (FirstEnd f one is) = at_vertex e f.a p ns on wide here is (fs f one).first
node_placed e es vs ns p long on fs us wide here (LastEnd f one is) = at_vertex e f.b p ns on wide here is (fs f one).last
node_placed e es vs ns p long on fs us wide here (Single v one is) = at_vertex e v p ns on wide here is (us v one)
node_placed e es vs ns p long on fs us wide here (Meeting f g one other of og turning) = by_zero (turn_of e f)
    (λ some. (fs f one).crossing p wide (record { turning = some; first = here; second = of }))
    (λ flat. by_zero (turn_of e g)
    (λ some. (fs g other).crossing p wide (record { turning = some; first = here; second = og }))
    (λ level. absurd (turning (parallel_both e f g long flat level))))

-- the nodes of an edge
pub record HasNodeList (es : List Edge) (vs : List Vertex) (e : Edge) : Type 0 where
  pub nodes : List Point
  pub are : AreNodesOf es vs e nodes

pub nodes_exist : (es : List Edge) (vs : List Vertex) (e : Edge) → HasLength e → HasNodeList es vs e
nodes_exist es vs e long =
    let one = with_vertex e e.a [] (record { points = none_of (IsPointOf e); ascend = tt }) in
    let two = with_vertex e e.b one.new one.lined in
    let three = with_edges e es two.new two.lined in
    let four = with_vertices e vs three.new three.lined in
    record {
      nodes = four.new;
      are = record {
        points = four.lined.points;
        ascend = four.lined.ascend;
        first_end = four.kept (at e.a) (three.kept (at e.a) (two.kept (at e.a) (one.more (first_on e (at e.a) (at_first e.a)))));
        last_end = four.kept (at e.b) (three.kept (at e.b) (two.more (last_on e (at e.b) (at_first e.b))));
        nodes = λ p wide on node. node_placed e es vs four.new p long four.lined.points
            (λ f k. all_kept e f three.new four.new four.kept (three.more f k)) four.more wide on node;
      };
    }
