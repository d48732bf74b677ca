-- The order of the nodes of an edge, and the result of a sort by it.
use Rattle.std.proofs.Common.{◌≡◌, ◌<◌, ◌≤◌, ◌∙◌, inl, inr, arith, sym, subst, true, false, List, [], ◌∷◌, length, get_or, map, suc}
use Rattle.std.specs.Prelude.{ℕ, ℤ, pos, Bool, ◌<ℤ◌, ◌≤ℤ◌, ◌*ℤ◌, All}
use Rattle.std.specs.Ordering.{int_cmp, is_lt, is_gt}
use Rattle.std.specs.Cmp.{IsStrictWeakOrder}
use Rattle.std.specs.List.Sorted.{IsSortedBy}
use Rattle.std.specs.declared.cmp.Ordering.{Ordering}
use Rattle.std.specs.declared.cmp.Ordering.TheVariants.{Less, Equal, Greater}
use Rattle.std.proofs.lemmas.Int.{ints}
use Rattle.std.proofs.lemmas.List.Elements.{All-map, All-head, All-tail}
use Rattle.std.proofs.lemmas.List.Sorted.{sorted_far}
use Rattle.plane_core.specs.declared.edge.Edge.{Edge}
use Rattle.plane_core.specs.declared.node.Node.{Node}
use Rattle.plane_core.specs.declared.place.Place.{Place}
use Rattle.plane_core.specs.Points.{at}
use Rattle.plane_core.specs.Places.{node_point, point_of, place_order}
use Rattle.plane_core.proofs.Ring.{monomials}
use Rattle.plane_core.proofs.ScaleLemmas.{no_less_scaled, cancel_le}
use Rattle.plane_core.proofs.PlaceLemmas.{ahead_of, back_of, level_of_ends, order_ahead, order_back, order_level}
use Rattle.noding_core.specs.Gathered.{IsOn}
use Rattle.noding_core.specs.Nodes.{IsUpTo, Ascend}
use Rattle.noding_core.proofs.OrderLemmas.{up_to_or_after}
use Rattle.noding_core.proofs.ReadOffLemmas.{before_order}

-- one node is at a less fraction of its edge than another
abbrev pub is_earlier : Node → Node → Bool
is_earlier k l = is_lt (int_cmp (k.place.n *ℤ l.place.w) (l.place.n *ℤ k.place.w))

abbrev pub is_later : Node → Node → Bool
is_later k l = is_earlier l k

one_way_lt : (m n : ℤ) → is_lt (int_cmp m n) ≡ true → is_lt (int_cmp n m) ≡ false
one_way_lt m n h = grind (arith, ints)

not_lt : (m n : ℤ) → is_lt (int_cmp m n) ≡ false → n ≤ℤ m
not_lt m n h = grind (arith, ints)

lt_not : (m n : ℤ) → n ≤ℤ m → is_lt (int_cmp m n) ≡ false
lt_not m n h = grind (arith, ints)

-- fractions m / v, n / w and k / u with positive denominators
chained : (m v n w k u : ℤ) → pos 0 <ℤ v → pos 0 <ℤ w → pos 0 <ℤ u → (n *ℤ v) ≤ℤ (m *ℤ w) → (k *ℤ w) ≤ℤ (n *ℤ u) → (k *ℤ v) ≤ℤ (m *ℤ u)
chained m v n w k u hv hw hu h g =
    cancel_le w (k *ℤ v) (m *ℤ u) hw
    (joined _ _ _ _ _ _ (ring w k v) (no_less_scaled v (k *ℤ w) (n *ℤ u) hv g) (turn v n u) (no_less_scaled u (n *ℤ v) (m *ℤ w) hu h) (ring w m u))
  where
    ring : (w k v : ℤ) → w *ℤ (k *ℤ v) ≡ v *ℤ (k *ℤ w)
    ring w k v = simp monomials

    turn : (v n u : ℤ) → v *ℤ (n *ℤ u) ≡ u *ℤ (n *ℤ v)
    turn v n u = simp monomials

    joined : (a b c d e f : ℤ) → a ≡ b → b ≤ℤ c → c ≡ d → d ≤ℤ e → f ≡ e → a ≤ℤ f
    joined a b c d e f h i j k l = omega (arith, ints)

pub earlier_order : IsStrictWeakOrder is_earlier
earlier_order = record {
  one_way = λ k l h. one_way_lt (k.place.n *ℤ l.place.w) (l.place.n *ℤ k.place.w) h;
  chain = λ k l n h g. lt_not (k.place.n *ℤ n.place.w) (n.place.n *ℤ k.place.w)
      (chained k.place.n k.place.w l.place.n l.place.w n.place.n n.place.w k.place.positive l.place.positive n.place.positive
      (not_lt (k.place.n *ℤ l.place.w) (l.place.n *ℤ k.place.w) h) (not_lt (l.place.n *ℤ n.place.w) (n.place.n *ℤ l.place.w) g));
}

pub later_order : IsStrictWeakOrder is_later
later_order = record {
  one_way = λ k l h. earlier_order.one_way l k h;
  chain = λ k l n h g. earlier_order.chain n l k g h;
}

-- the order of two points of an edge is that of their fractions, or the reverse
order_forth : (o : Ordering) (p q : Place) → p.edge ≡ q.edge → o ≡ place_order (at p.edge.a) (at p.edge.b) → is_gt o ≡ false
    → is_lt (place_order (point_of p) (point_of q)) ≡ true → is_lt (int_cmp (p.n *ℤ q.w) (q.n *ℤ p.w)) ≡ true
order_forth Less p q same e h k = rw (order_ahead p q same (ahead_of p.edge e)) at k
order_forth Equal p q same e h k = absurd (no (rw (order_level p q same (level_of_ends p.edge e)) at k))
  where
    no : is_lt Equal ≡ true → ⊥
    no k = cc
order_forth Greater p q same e h k = cc

order_against : (o : Ordering) (p q : Place) → p.edge ≡ q.edge → o ≡ place_order (at p.edge.a) (at p.edge.b) → is_gt o ≡ true
    → is_lt (place_order (point_of p) (point_of q)) ≡ true → is_lt (int_cmp (q.n *ℤ p.w) (p.n *ℤ q.w)) ≡ true
order_against Less p q same e h k = cc
order_against Equal p q same e h k = cc
order_against Greater p q same e h k = rw (order_back p q same (back_of p.edge e)) at k

true_false : (t : Bool) → t ≡ true → t ≡ false → ⊥
true_false t h k = cc

-- nodes of an edge of which one isn't before the other
abbrev AreUpTo : Edge → (Node → Node → Bool) → Type 0
AreUpTo e before = (k l : Node) → IsOn e k → IsOn e l → before k l ≡ false → IsUpTo (node_point l) (node_point k)

up_to_by : (e : Edge) (before : Node → Node → Bool)
    → ((k l : Node) → IsOn e k → IsOn e l → is_lt (place_order (node_point k) (node_point l)) ≡ true → before k l ≡ true) → AreUpTo e before
up_to_by e before by k l on_k on_l h = elim (up_to_or_after (node_point l) (node_point k)) [
  | inl up ↦ up
  | inr earlier ↦ absurd (true_false (before k l) (by k l on_k on_l (before_order (node_point k) (node_point l) earlier)) h)
]

ends_of : (o : Ordering) (e : Edge) (k : Node) → IsOn e k → o ≡ place_order (at e.a) (at e.b) → o ≡ place_order (at k.place.edge.a) (at k.place.edge.b)
ends_of o e k on h = subst (λ (f : Edge). o ≡ place_order (at f.a) (at f.b)) (sym on) h

ascend_from : (e : Edge) (before : Node → Node → Bool) → AreUpTo e before → (ns : List Node) → All (IsOn e) ns
    → ((i j : ℕ) (d : Node) → i ≤ j → j < length ns → before (get_or ns j d) (get_or ns i d) ≡ false) → Ascend (map node_point ns)
ascend_from e before up [] on h = tt
ascend_from e before up (n ∷ ns) on h = (
  All-map (IsUpTo (node_point n)) node_point ns
      (λ j d lt. up (get_or ns j d) n (All-tail (IsOn e) n ns on j d lt) (All-head (IsOn e) n ns on) (h 0 (suc j) d (omega arith) (omega (arith, lt)))),
  ascend_from e before up ns (All-tail (IsOn e) n ns on) (λ i j d le lt. h (suc i) (suc j) d (omega (arith, le)) (omega (arith, lt))),
)

pub ascend_along : (o : Ordering) (e : Edge) (ns : List Node) → o ≡ place_order (at e.a) (at e.b) → is_gt o ≡ false → All (IsOn e) ns
    → IsSortedBy is_earlier ns → Ascend (map node_point ns)
ascend_along o e ns dir h on up =
    ascend_from e is_earlier (up_to_by e is_earlier (λ k l on_k on_l less. order_forth o k.place l.place (on_k ∙ sym on_l) (ends_of o e k on_k dir) h less))
    ns on (sorted_far is_earlier earlier_order ns up)

pub ascend_against : (o : Ordering) (e : Edge) (ns : List Node) → o ≡ place_order (at e.a) (at e.b) → is_gt o ≡ true → All (IsOn e) ns
    → IsSortedBy is_later ns → Ascend (map node_point ns)
ascend_against o e ns dir h on up =
    ascend_from e is_later (up_to_by e is_later (λ k l on_k on_l less. order_against o k.place l.place (on_k ∙ sym on_l) (ends_of o e k on_k dir) h less))
    ns on (sorted_far is_later later_order ns up)
