-- The pairs of an edge and others that a search adds.
use Rattle.std.proofs.Common.{◌≡◌, ◌<◌, ◌≤◌, ◌+◌, ◌⊎◌, ℕ, suc, arith, ap, ◌∙◌, sym, true, false, refl, subst, List, [], ◌∷◌, ◌++◌, length, get_or, take, drop, All, append-nil}
use Rattle.std.specs.Prelude.{Bool, ◌||◌, ◌&&◌, Contains}
use Rattle.std.specs.List.{list_any, flat_map}
use Rattle.std.proofs.lemmas.List.{take_more, take_all, get_or_default}
use Rattle.std.proofs.lemmas.List.Folds.{list_any-append}
use Rattle.std.proofs.lemmas.List.Elements.{All-head, All-tail, All-contains}
use Rattle.geom_core.specs.declared.shape.Shape.{Shape}
use Rattle.geom_core.specs.Cells.{IsIn}
use Rattle.plane_core.specs.declared.edge.Edge.{Edge}
use Rattle.plane_core.specs.Points.{Point, is_on}
use Rattle.rtree_core.specs.declared.node.Entry.{Entry}
use Rattle.rtree_core.specs.declared.node.Node.{Node}
use Rattle.rtree_core.specs.Nodes.{entries_of}
use Rattle.distance_core.specs.ShapePoints.{HasPoint}
use Rattle.distance_core.specs.Distances.{IsSquaredDistance}
use Rattle.distance_core.specs.declared.fraction.SquaredFraction.{SquaredFraction}
use Rattle.distance_core.specs.Fractions.{IsSquareOf, IsOnEdge}
use Rattle.edge_index_core.specs.Bounds.{IsBoxOf}
use Rattle.edge_index_core.specs.Runs.{run_len, HoldsEdge}
use Rattle.edge_index_core.specs.Trees.{IsEntryIn, HoldsEdges}
use Rattle.edge_index_core.proofs.ScanLemmas.{nodes_more}
use Rattle.edge_index_core.proofs.RunLemmas.{run_off}
use Rattle.edge_index_core.proofs.TreeLemmas.{nowhere, all_in}
use Rattle.edge_index_core.proofs.EntryLemmas.{tree_holds}
use Rattle.noding_core.proofs.TestLemmas.{by_test, clash}
use Rattle.noding_core.proofs.TurnLemmas.{get_among}
use Rattle.geometry_distance_core.specs.declared.nearest.Nearest.{Nearest}
use Rattle.geometry_distance_core.specs.NearestPairs.{Pairs, IsLeastOf, IsPast, AddsPairs, AddsEntries, is_on_any, of_edges, of_each}
use Rattle.geometry_distance_core.proofs.SkeletonLemmas.{some_any, none_some}
use Rattle.geometry_distance_core.proofs.PairLemmas.{or_left, or_right, by_or, adds_as, adds_both, adds_far, adds_none}
use Rattle.geometry_distance_core.proofs.BoxPointLemmas.{on_in_box, in_wider, held_in_box, boxes_far}

-- ---- tests

pub and_left : (a b : Bool) → (a && b) ≡ true → a ≡ true
and_left true b h = refl
and_left false b h = cc

pub and_right : (a b : Bool) → (a && b) ≡ true → b ≡ true
and_right true b h = h
and_right false b h = cc

pub and_both : (a b : Bool) → a ≡ true → b ≡ true → (a && b) ≡ true
and_both a b h k = rw (h, k) refl

never : false ≡ true → ⊥
never h = cc

-- ---- an edge and a list of others, in whichever way they are tested

module _ {X : Type 0} (e : Edge) (t : X → Point → Bool) where
  abbrev pub of_list : List X → Pairs
  of_list xs p q = is_on e p && list_any (λ x. t x q) xs

  split_there : (xs ys : List X) (p q : Point) → of_list (xs ++ ys) p q ≡ true → (of_list xs p q || of_list ys p q) ≡ true
  split_there xs ys p q h =
      by_or (list_any (λ x. t x q) xs) (list_any (λ x. t x q) ys) (sym (list_any-append (λ x. t x q) xs ys) ∙ and_right (is_on e p) _ h)
      (λ k. or_left _ (of_list ys p q) (and_both _ _ (and_left _ _ h) k))
      (λ k. or_right (of_list xs p q) _ (and_both _ _ (and_left _ _ h) k))

  split_back : (xs ys : List X) (p q : Point) → (of_list xs p q || of_list ys p q) ≡ true → of_list (xs ++ ys) p q ≡ true
  split_back xs ys p q h = by_or (of_list xs p q) (of_list ys p q) h
      (λ k. and_both _ _ (and_left _ _ k) (list_any-append (λ x. t x q) xs ys ∙ or_left _ (list_any (λ x. t x q) ys) (and_right (is_on e p) _ k)))
      (λ k. and_both _ _ (and_left _ _ k) (list_any-append (λ x. t x q) xs ys ∙ or_right (list_any (λ x. t x q) xs) _ (and_right (is_on e p) _ k)))

  pub list_none : (n : Nearest) → AddsPairs (of_list []) n n
  list_none n = adds_none n (of_list []) (λ p q h. never (and_right (is_on e p) false h))

  pub list_both : (xs ys : List X) (a b c : Nearest) → AddsPairs (of_list xs) a b → AddsPairs (of_list ys) b c → AddsPairs (of_list (xs ++ ys)) a c
  list_both xs ys a b c h k = adds_as (λ p q. of_list xs p q || of_list ys p q) (of_list (xs ++ ys)) a c (split_there xs ys) (split_back xs ys) (adds_both (of_list xs) (of_list ys) a b c h k)

  pub list_one : (x : X) (a b : Nearest) → AddsPairs (λ p q. is_on e p && t x q) a b → AddsPairs (of_list (x ∷ [])) a b
  list_one x a b h = adds_as (λ p q. is_on e p && t x q) (of_list (x ∷ [])) a b
      (λ p q k. and_both _ _ (and_left _ _ k) (by_or (t x q) false (and_right (is_on e p) _ k) (λ l. l) (λ l. absurd (never l))))
      (λ p q k. and_both _ _ (and_left _ _ k) (or_left _ false (and_right (is_on e p) _ k))) h

  pub list_more : (xs : List X) (i : ℕ) (x : X) (a b c : Nearest) → i < length xs → x ≡ get_or xs i x → AddsPairs (of_list (take i xs)) a b
      → AddsPairs (λ p q. is_on e p && t x q) b c → AddsPairs (of_list (take (i + 1) xs)) a c
  list_more xs i x a b c lt at h more =
      subst (λ (l : List X). AddsPairs (of_list l) a c) (sym (take_more xs i x lt ∙ ap (λ (y : X). take i xs ++ y ∷ []) (sym at)))
      (list_both (take i xs) (x ∷ []) a b c h (list_one x b c more))

  -- others that are all too far away
  pub list_far : (xs : List X) (n : ℕ) (s box : Shape) (a : Nearest) → IsBoxOf e s → IsPast a n → IsSquaredDistance n (HasPoint s) (HasPoint box)
      → ((q : Point) → 0 < q.w → list_any (λ x. t x q) xs ≡ true → HasPoint box q) → AddsPairs (of_list xs) a a
  list_far xs n s box a own past is held = adds_far a (of_list xs) (λ p q wide_p wide_q h.
      boxes_far a n s box p q wide_p wide_q past is (on_in_box e s p wide_p own (and_left _ _ h)) (held q wide_q (and_right (is_on e p) _ h)))

-- ---- two edges

pub edges_far : (e f : Edge) (n : ℕ) (s t : Shape) (a : Nearest) → IsBoxOf e s → IsBoxOf f t → IsPast a n → IsSquaredDistance n (HasPoint s) (HasPoint t) → AddsPairs (of_edges e f) a a
edges_far e f n s t a own other past is = adds_far a (of_edges e f) (λ p q wide_p wide_q h.
    boxes_far a n s t p q wide_p wide_q past is (on_in_box e s p wide_p own (and_left _ _ h)) (on_in_box f t q wide_q other (and_right (is_on e p) _ h)))

pub edges_least : (e f : Edge) (square : SquaredFraction) → IsSquareOf square (IsOnEdge e) (IsOnEdge f) → IsLeastOf square (of_edges e f)
edges_least e f square is = record {
  first = is.reached.first;
  second = is.reached.second;
  first_wide = is.reached.first_wide;
  second_wide = is.reached.second_wide;
  one = and_both _ _ is.reached.first_in is.reached.second_in;
  near = is.reached.near;
  least = λ p q wide_p wide_q h. is.least p q wide_p wide_q (and_left _ _ h) (and_right (is_on e p) _ h);
}

-- ---- a list of edges

pub each_all : (e : Edge) (fs : List Edge) (i : ℕ) (a b : Nearest) → length fs ≤ i → AddsPairs (of_each e (take i fs)) a b → AddsPairs (of_each e fs) a b
each_all e fs i a b le h = subst (λ (l : List Edge). AddsPairs (of_each e l) a b) (take_all i fs le) h

-- ---- entries of a tree

abbrev at_entry : List Edge → Edge → Entry → Point → Bool
at_entry es d x q = is_on (get_or es x.number d) q

pub entries_none : (e : Edge) (es : List Edge) (n : Nearest) → AddsEntries e es [] n n
entries_none e es n = record { added = λ d. list_none e (at_entry es d) n }

pub entries_both : (e : Edge) (es : List Edge) (xs ys : List Entry) (a b c : Nearest) → AddsEntries e es xs a b → AddsEntries e es ys b c → AddsEntries e es (xs ++ ys) a c
entries_both e es xs ys a b c h k = record { added = λ d. list_both e (at_entry es d) xs ys a b c (h.added d) (k.added d) }

pub entries_more : (e : Edge) (es : List Edge) (xs : List Entry) (i : ℕ) (x : Entry) (f : Edge) (a b c : Nearest) → i < length xs → x ≡ get_or xs i x
    → AddsEntries e es (take i xs) a b → x.number < length es → f ≡ get_or es x.number f → AddsPairs (of_edges e f) b c → AddsEntries e es (take (i + 1) xs) a c
entries_more e es xs i x f a b c lt at h within is more = record {
  added = λ d. list_more e (at_entry es d) xs i x a b c lt at (h.added d)
      (subst (λ (g : Edge). AddsPairs (of_edges e g) b c) (is ∙ get_or_default es x.number f d within) more);
}

pub entries_all : (e : Edge) (es : List Edge) (xs : List Entry) (i : ℕ) (a b : Nearest) → length xs ≤ i → AddsEntries e es (take i xs) a b → AddsEntries e es xs a b
entries_all e es xs i a b le h = subst (λ (l : List Entry). AddsEntries e es l a b) (take_all i xs le) h

-- nodes
pub nodes_added : (e : Edge) (es : List Edge) (ns : List Node) (i : ℕ) (n : Node) (a b c : Nearest) → i < length ns → n ≡ get_or ns i n
    → AddsEntries e es (flat_map entries_of (take i ns)) a b → AddsEntries e es (entries_of n) b c → AddsEntries e es (flat_map entries_of (take (i + 1) ns)) a c
nodes_added e es ns i n a b c lt at h k =
    subst (λ (l : List Entry). AddsEntries e es l a c) (sym (nodes_more ns i n lt at)) (entries_both e es (flat_map entries_of (take i ns)) (entries_of n) a b c h k)

pub nodes_all : (e : Edge) (es : List Edge) (ns : List Node) (i : ℕ) (a b : Nearest) → length ns ≤ i → AddsEntries e es (flat_map entries_of (take i ns)) a b → AddsEntries e es (flat_map entries_of ns) a b
nodes_all e es ns i a b le h = subst (λ (l : List Node). AddsEntries e es (flat_map entries_of l) a b) (take_all i ns le) h

-- a node whose cover is too far away
entries_held : (es : List Edge) (d : Edge) (cover : Shape) (xs : List Entry) (q : Point) → 0 < q.w → All (λ x. IsIn x.shape cover) xs → All (IsEntryIn es) xs
    → list_any (λ x. at_entry es d x q) xs ≡ true → HasPoint cover q
entries_held es d cover [] q wide inside all h = absurd (never h)
entries_held es d cover (x ∷ xs) q wide inside all h = by_or (at_entry es d x q) (list_any (λ x. at_entry es d x q) xs) h
    (λ on. in_wider x.shape cover q wide (All-head (λ y. IsIn y.shape cover) x xs inside)
    (on_in_box (get_or es x.number d) x.shape q wide ((All-head (IsEntryIn es) x xs all).box_is d) on))
    (entries_held es d cover xs q wide (All-tail (λ y. IsIn y.shape cover) x xs inside) (All-tail (IsEntryIn es) x xs all))

pub node_far : (e : Edge) (es : List Edge) (n : Node) (k : ℕ) (s cover : Shape) (a : Nearest) → IsBoxOf e s → All (λ x. IsIn x.shape cover) (entries_of n) → All (IsEntryIn es) (entries_of n)
    → IsPast a k → IsSquaredDistance k (HasPoint s) (HasPoint cover) → AddsEntries e es (entries_of n) a a
node_far e es n k s cover a own inside all past is = record {
  added = λ d. list_far e (at_entry es d) (entries_of n) k s cover a own past is (λ q wide. entries_held es d cover (entries_of n) q wide inside all);
}

-- ---- runs

runs_held : (box : Shape) (fs : List Edge) (q : Point) → 0 < q.w → All (HoldsEdge box) fs → is_on_any fs q ≡ true → HasPoint box q
runs_held box [] q wide held h = absurd (never h)
runs_held box (f ∷ fs) q wide held h = by_or (is_on f q) (is_on_any fs q) h
    (held_in_box f box q wide (All-head (HoldsEdge box) f fs held))
    (runs_held box fs q wide (All-tail (HoldsEdge box) f fs held))

pub run_far : (e : Edge) (fs : List Edge) (k : ℕ) (s box : Shape) (a : Nearest) → IsBoxOf e s → All (HoldsEdge box) fs → IsPast a k → IsSquaredDistance k (HasPoint s) (HasPoint box) → AddsPairs (of_each e fs) a a
run_far e fs k s box a own held past is = list_far e is_on fs k s box a own past is (λ q wide. runs_held box fs q wide held)

-- a list up to its rest is added
pub record IsAddedTo (e : Edge) (es rest : List Edge) (a b : Nearest) : Type 0 where
  pub done : List Edge
  pub whole : es ≡ done ++ rest
  pub added : AddsPairs (of_each e done) a b

pub none_added : (e : Edge) (es : List Edge) (a : Nearest) → IsAddedTo e es es a a
none_added e es a = record { done = []; whole = refl; added = list_none e is_on a }

pub run_added : (e : Edge) (es rest after : List Edge) (a b c : Nearest) → after ≡ drop run_len rest → AddsPairs (of_each e (take run_len rest)) b c → IsAddedTo e es rest a b → IsAddedTo e es after a c
run_added e es rest after a b c is more h = subst (λ (l : List Edge). IsAddedTo e es l a c) (sym is) (record {
  done = h.done ++ take run_len rest;
  whole = run_off es h.done rest h.whole;
  added = list_both e is_on h.done (take run_len rest) a b c h.added more;
})

pub all_added : (e : Edge) (es rest : List Edge) (a b : Nearest) → rest ≡ [] → IsAddedTo e es rest a b → AddsPairs (of_each e es) a b
all_added e es rest a b none h =
    subst (λ (l : List Edge). AddsPairs (of_each e l) a b) (sym (h.whole ∙ ap (λ (l : List Edge). h.done ++ l) none ∙ append-nil h.done)) h.added

-- ---- a whole tree

any_at : {X : Type 0} (t : X → Bool) (xs : List X) (d : X) → list_any t xs ≡ true → (k : ℕ) × (k < length xs) × (t (get_or xs k d) ≡ true)
any_at t [] d h = absurd (never h)
any_at t (x ∷ xs) d h = by_test (t x) (λ here. (0, omega arith, here)) (λ off. next (any_at t xs d (later (t x) (list_any t xs) off h)))
  where
    later : (a b : Bool) → a ≡ false → (a || b) ≡ true → b ≡ true
    later a b off h = by_or a b h (λ on. clash a on off) (λ k. k)

    next : (k : ℕ) × (k < length xs) × (t (get_or xs k d) ≡ true) → (k : ℕ) × (k < length (x ∷ xs)) × (t (get_or (x ∷ xs) k d) ≡ true)
    next (k, lt, here) = (suc k, omega (arith, lt), here)

none_all : {X : Type 0} (t : X → Bool) (xs : List X) → list_any t xs ≡ false → All (λ x. t x ≡ false) xs
none_all t xs off k d lt = none_some t (get_or xs k d) xs off (get_among xs k d lt)

pub contains_any : {X : Type 0} (t : X → Bool) (xs : List X) (x : X) → Contains xs x → t x ≡ true → list_any t xs ≡ true
contains_any t xs x one on = by_test (list_any t xs) (λ yes. yes) (λ off. clash (t x) on (All-contains (λ y. t y ≡ false) xs x (none_all t xs off) one))

edge_entry : (es : List Edge) (held : List Entry) (q : Point) → HoldsEdges es held → is_on_any es q ≡ true → list_any (λ x. at_entry es nowhere x q) held ≡ true
edge_entry es held q holds on =
    let found = any_at (λ f. is_on f q) es nowhere on in
    let x = tree_holds es holds.entries held holds.are holds.same found.0 found.1 nowhere in
    contains_any (λ y. at_entry es nowhere y q) held x.0 x.2 (subst (λ (k : ℕ). is_on (get_or es k nowhere) q ≡ true) (sym x.1.number_is) found.2)

entry_edge : (es : List Edge) (held : List Entry) (q : Point) → HoldsEdges es held → list_any (λ x. at_entry es nowhere x q) held ≡ true → is_on_any es q ≡ true
entry_edge es held q holds on =
    let found = any_at (λ x. at_entry es nowhere x q) held none on in
    some_any (λ f. is_on f q) (get_or es (get_or held found.0 none).number nowhere) es (get_among es (get_or held found.0 none).number nowhere (all_in es held holds found.0 none found.1).within) found.2
  where
    none : Entry
    none = first held on
      where
        first : (xs : List Entry) → list_any (λ x. at_entry es nowhere x q) xs ≡ true → Entry
        first [] h = absurd (never h)
        first (x ∷ xs) h = x

pub tree_added : (e : Edge) (es : List Edge) (held : List Entry) (a b : Nearest) → HoldsEdges es held → AddsEntries e es held a b → AddsPairs (of_each e es) a b
tree_added e es held a b holds h = adds_as (of_list e (at_entry es nowhere) held) (of_each e es) a b
    (λ p q one. and_both _ _ (and_left _ _ one) (edge_entry es held q holds (and_right (is_on e p) _ one)))
    (λ p q one. and_both _ _ (and_left _ _ one) (entry_edge es held q holds (and_right (is_on e p) _ one)))
    (h.added nowhere)
