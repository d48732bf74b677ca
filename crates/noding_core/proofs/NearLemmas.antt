-- The edges near an edge, and what follows for those that aren't.
use Rattle.std.proofs.Common.{arith, refl, zero, suc, ◌≡◌, ◌<◌, ◌+◌, inl, inr, true, false, ℕ, List, [], ◌∷◌, ◌++◌, length, get_or, take, drop, append-nil, sym, subst, ap, ◌∙◌, All}
use Rattle.std.specs.Prelude.{ℤ, ◌≤ℤ◌, int_le, Bool, ◌||◌}
use Rattle.std.specs.Int.{int_min, int_max}
use Rattle.std.specs.List.{flat_map, Contains}
use Rattle.std.proofs.lemmas.Int.{ints, clamps}
use Rattle.std.proofs.lemmas.List.{take-append-drop}
use Rattle.std.proofs.lemmas.List.Elements.{All-nil, All-append, All-more, All-contains, Contains-append_left, Contains-push}
use Rattle.geom_core.specs.declared.shape.Shape.{Shape}
use Rattle.geom_core.specs.Cells.{Meets, IsIn}
use Rattle.geom_core.proofs.SpanLemmas.{common_line}
use Rattle.plane_core.specs.declared.edge.Edge.{Edge}
use Rattle.plane_core.specs.declared.vertex.Vertex.{Vertex}
use Rattle.plane_core.specs.Boxes.{does_reach, do_overlap, do_boxes_meet}
use Rattle.plane_core.specs.Points.{Point, is_on}
use Rattle.rtree_core.specs.declared.node.Entry.{Entry}
use Rattle.rtree_core.specs.declared.node.Node.{Node as TreeNode}
use Rattle.rtree_core.specs.Nodes.{entries_of}
use Rattle.edge_index_core.specs.Bounds.{IsBoxOf}
use Rattle.edge_index_core.specs.Runs.{run_len, HoldsEdge}
use Rattle.edge_index_core.specs.Trees.{IsEntryIn, HoldsEdges}
use Rattle.edge_index_core.proofs.EntryLemmas.{tree_holds}
use Rattle.edge_index_core.proofs.RunLemmas.{run_off}
use Rattle.edge_index_core.proofs.ScanLemmas.{nodes_more}
use Rattle.noding_core.specs.Gathered.{Extends}
use Rattle.noding_core.specs.Near.{IsFound, IsEntryFound, AddsAmong}
use Rattle.noding_core.specs.Nodes.{IsAmong, IsNode, AreNodesOf}
use Rattle.noding_core.specs.Nodes.IsNode.{FirstEnd, LastEnd, Meeting, Single}
use Rattle.noding_core.proofs.AmongLemmas.{among_left, among_right, among_either}
use Rattle.noding_core.proofs.NodeLemmas.{all_among}
use Rattle.noding_core.proofs.OffPartLemmas.{first_on, last_on}
use Rattle.noding_core.proofs.GatherLemmas.{boxes_meet, extends-refl}
use Rattle.noding_core.proofs.TestLemmas.{by_test, clash, true_le, first_holds, second_holds}
use Rattle.noding_core.proofs.TurnLemmas.{get_among}

-- what is found stays found
found_kept : (e : Edge) (ns ms : List Edge) (f : Edge) → Extends ns ms → IsFound e ns f → IsFound e ms f
found_kept e ns ms f k (inl h) = inl (subst (λ (l : List Edge). Contains l f) (sym k.is) (Contains-append_left ns k.more f h))
found_kept e ns ms f k (inr h) = inr h

pub all_found_kept : (e : Edge) (ns ms fs : List Edge) → Extends ns ms → All (IsFound e ns) fs → All (IsFound e ms) fs
all_found_kept e ns ms fs kept h k d lt = found_kept e ns ms (get_or fs k d) kept (h k d lt)

pub found_pushed : (e : Edge) (ns ms : List Edge) (f : Edge) → ms ≡ ns ++ f ∷ [] → IsFound e ms f
found_pushed e ns ms f is = inl (subst (λ (l : List Edge). Contains l f) (sym is) (Contains-push ns f))

pub found_more : (e : Edge) (ns ms : List Edge) (f : Edge) (fs : List Edge) (i : ℕ) → i < length fs → f ≡ get_or fs i f → Extends ns ms
    → All (IsFound e ns) (take i fs) → IsFound e ms f → All (IsFound e ms) (take (i + 1) fs)
found_more e ns ms f fs i lt is kept h k =
    All-more (IsFound e ms) fs i f lt (all_found_kept e ns ms (take i fs) kept h) (subst (IsFound e ms) is k)

-- boxes that share nothing
pub or_four : {P : Type 0} (t u v w : Bool) → (t || u || v || w) ≡ true → (t ≡ true → P) → (u ≡ true → P) → (v ≡ true → P) → (w ≡ true → P) → P
or_four true u v w h f g k l = f refl
or_four false true v w h f g k l = g refl
or_four false false true w h f g k l = k refl
or_four false false false w h f g k l = l h

pub reach_le : (a b c d : ℤ) → does_reach a b c d ≡ true → int_min c d ≤ℤ int_max a b
reach_le a b c d h = or_four (int_le c a) (int_le c b) (int_le d a) (int_le d b) h
    (λ k. let l = true_le c a k in omega (arith, ints, clamps))
    (λ k. let l = true_le c b k in omega (arith, ints, clamps))
    (λ k. let l = true_le d a k in omega (arith, ints, clamps))
    (λ k. let l = true_le d b k in omega (arith, ints, clamps))

ordered : (m n k l : ℤ) → m ≡ k → n ≡ l → k ≤ℤ l → m ≤ℤ n
ordered m n k l h g le = omega (arith, ints)

boxes_shared : (e f : Edge) (s t : Shape) → IsBoxOf e s → IsBoxOf f t → do_boxes_meet e f ≡ true → Meets t s
boxes_shared e f s t es ft h =
    let along_x = first_holds (do_overlap e.a.x e.b.x f.a.x f.b.x) (do_overlap e.a.y e.b.y f.a.y f.b.y) h in
    let along_y = second_holds (do_overlap e.a.x e.b.x f.a.x f.b.x) (do_overlap e.a.y e.b.y f.a.y f.b.y) h in
    let x = common_line t.x s.x
    (ordered _ _ _ _ ft.first_x es.second_x (reach_le e.a.x e.b.x f.a.x f.b.x (first_holds _ _ along_x)))
    (ordered _ _ _ _ es.first_x ft.second_x (reach_le f.a.x f.b.x e.a.x e.b.x (second_holds (does_reach e.a.x e.b.x f.a.x f.b.x) _ along_x))) in
    let y = common_line t.y s.y
    (ordered _ _ _ _ ft.first_y es.second_y (reach_le e.a.y e.b.y f.a.y f.b.y (first_holds _ _ along_y)))
    (ordered _ _ _ _ es.first_y ft.second_y (reach_le f.a.y f.b.y e.a.y e.b.y (second_holds (does_reach e.a.y e.b.y f.a.y f.b.y) _ along_y))) in
    (x.0, y.0, (x.1, y.1), (x.2, y.2))

boxes_apart : (e f : Edge) (s t : Shape) → IsBoxOf e s → IsBoxOf f t → (Meets t s → ⊥) → do_boxes_meet e f ≡ false
boxes_apart e f s t es ft apart = by_test (do_boxes_meet e f) (λ yes. absurd (apart (boxes_shared e f s t es ft yes))) (λ no. no)

-- the entries of a tree
pub entry_apart : (e : Edge) (es ns : List Edge) (s : Shape) (x : Entry) → IsBoxOf e s → IsEntryIn es x → (Meets x.shape s → ⊥) → IsEntryFound e es ns x
entry_apart e es ns s x box entry apart d = inr (boxes_apart e (get_or es x.number d) s x.shape box (entry.box_is d) apart)

entries_kept : (e : Edge) (es ns ms : List Edge) (xs : List Entry) → Extends ns ms → All (IsEntryFound e es ns) xs → All (IsEntryFound e es ms) xs
entries_kept e es ns ms xs kept h k d lt f = found_kept e ns ms (get_or es (get_or xs k d).number f) kept (h k d lt f)

pub entries_more : (e : Edge) (es ns ms : List Edge) (xs : List Entry) (i : ℕ) (x : Entry) → i < length xs → x ≡ get_or xs i x → Extends ns ms
    → All (IsEntryFound e es ns) (take i xs) → IsEntryFound e es ms x → All (IsEntryFound e es ms) (take (i + 1) xs)
entries_more e es ns ms xs i x lt is kept h k =
    All-more (IsEntryFound e es ms) xs i x lt (entries_kept e es ns ms (take i xs) kept h) (subst (IsEntryFound e es ms) is k)

pub nodes_more_found : (e : Edge) (es ns ms : List Edge) (ts : List TreeNode) (i : ℕ) (t : TreeNode) → i < length ts → t ≡ get_or ts i t → Extends ns ms
    → All (IsEntryFound e es ns) (flat_map entries_of (take i ts)) → All (IsEntryFound e es ms) (entries_of t) → All (IsEntryFound e es ms) (flat_map entries_of (take (i + 1) ts))
nodes_more_found e es ns ms ts i t lt is kept h k =
    subst (All (IsEntryFound e es ms)) (sym (nodes_more ts i t lt is))
    (All-append (IsEntryFound e es ms) (flat_map entries_of (take i ts)) (entries_of t) (entries_kept e es ns ms (flat_map entries_of (take i ts)) kept h) k)

-- a node whose cover doesn't meet the edge's box
pub node_apart : (e : Edge) (es ns : List Edge) (s cover : Shape) (t : TreeNode) → IsBoxOf e s → All (IsEntryIn es) (entries_of t) → All (λ x. IsIn x.shape cover) (entries_of t)
    → (Meets cover s → ⊥) → All (IsEntryFound e es ns) (entries_of t)
node_apart e es ns s cover t box entries inside apart k d lt =
    let x = get_or (entries_of t) k d in
    entry_apart e es ns s x box (entries k d lt) (λ m. apart (m.0, m.1, inside k d lt m.0 m.1 m.2, m.3))

-- a fact of each entry in a tree is a fact of each edge
pub held_found : (e : Edge) (es ns : List Edge) (held : List Entry) → HoldsEdges es held → All (IsEntryFound e es ns) held → All (IsFound e ns) es
held_found e es ns held h all k d lt =
    let x = tree_holds es h.entries held h.are h.same k lt d in
    subst (λ (n : ℕ). IsFound e ns (get_or es n d)) x.1.number_is (All-contains (IsEntryFound e es ns) held x.0 all x.2 d)

-- an edge of a run is apart where the run's box is
run_apart : (e : Edge) (s box : Shape) (ns fs : List Edge) → IsBoxOf e s → (Meets box s → ⊥) → All (HoldsEdge box) fs → All (IsFound e ns) fs
run_apart e s box ns fs own apart held k d lt =
    let h = held k d lt in
    inr (boxes_apart e (get_or fs k d) s h.own own h.own_is (λ m. apart (m.0, m.1, h.within m.0 m.1 m.2, m.3)))

-- the edges of a list up to its rest are found
pub record IsFoundTo (e : Edge) (es rest ns : List Edge) : Type 0 where
  pub done : List Edge
  pub whole : es ≡ done ++ rest
  pub found : All (IsFound e ns) done

pub none_found : (e : Edge) (es ns : List Edge) → IsFoundTo e es es ns
none_found e es ns = record { done = []; whole = refl; found = All-nil (IsFound e ns) }

pub run_found : (e : Edge) (es rest after ns ms : List Edge) → after ≡ drop run_len rest → Extends ns ms → All (IsFound e ms) (take run_len rest)
    → IsFoundTo e es rest ns → IsFoundTo e es after ms
run_found e es rest after ns ms is kept run h = subst (λ (l : List Edge). IsFoundTo e es l ms) (sym is) (record {
  done = h.done ++ take run_len rest;
  whole = run_off es h.done rest h.whole;
  found = All-append (IsFound e ms) h.done (take run_len rest) (all_found_kept e ns ms h.done kept h.found) run;
})

pub run_missed : (e : Edge) (es rest after ns : List Edge) (s box : Shape) → after ≡ drop run_len rest → IsBoxOf e s → (Meets box s → ⊥)
    → All (HoldsEdge box) (take run_len rest) → IsFoundTo e es rest ns → IsFoundTo e es after ns
run_missed e es rest after ns s box is own apart held h = run_found e es rest after ns ns is (extends-refl ns) (run_apart e s box ns (take run_len rest) own apart held) h

pub runs_found : (e : Edge) (es rest ns : List Edge) → rest ≡ [] → IsFoundTo e es rest ns → All (IsFound e ns) es
runs_found e es rest ns none h =
    subst (All (IsFound e ns)) (sym (h.whole ∙ ap (λ (l : List Edge). h.done ++ l) none ∙ append-nil h.done)) h.found

-- an edge that has a point of the first is near it
pub contained : (xs : List Edge) (f : Edge) → Contains xs f → IsAmong f xs
contained [] f h = absurd (none h.1)
  where
    none : h.0 < 0 → ⊥
    none l = omega arith
contained (x ∷ xs) f (zero, lt, is) = inl (sym is)
contained (x ∷ xs) f (suc k, lt, is) = inr (contained xs f (k, omega (arith, lt), is))

pub near_of : (e f : Edge) (ns : List Edge) (p : Point) → 0 < p.w → is_on e p ≡ true → is_on f p ≡ true → IsFound e ns f → IsAmong f ns
near_of e f ns p wide on_e on_f (inl h) = contained ns f h
near_of e f ns p wide on_e on_f (inr off) = clash (do_boxes_meet e f) (boxes_meet e f p wide on_e on_f) off

-- so an edge has the same nodes among those near it
near_node : (e : Edge) (es ns : List Edge) (vs : List Vertex) (p : Point) → 0 < p.w → is_on e p ≡ true → All (IsFound e ns) es → IsNode es vs p → IsNode ns vs p
near_node e es ns vs p wide on found (FirstEnd f one here) = FirstEnd f (near_of e f ns p wide on (first_on f p here) (all_among (IsFound e ns) f es found one)) here
near_node e es ns vs p wide on found (LastEnd f one here) = LastEnd f (near_of e f ns p wide on (last_on f p here) (all_among (IsFound e ns) f es found one)) here
near_node e es ns vs p wide on found (Meeting f g one other of og turning) =
    Meeting f g (near_of e f ns p wide on of (all_among (IsFound e ns) f es found one)) (near_of e g ns p wide on og (all_among (IsFound e ns) g es found other)) of og turning
near_node e es ns vs p wide on found (Single v one here) = Single v one here

pub near_nodes : (e : Edge) (es ns : List Edge) (vs : List Vertex) (ps : List Point) → All (IsFound e ns) es → AreNodesOf ns vs e ps → AreNodesOf es vs e ps
near_nodes e es ns vs ps found h = record {
  points = h.points;
  ascend = h.ascend;
  first_end = h.first_end;
  last_end = h.last_end;
  nodes = λ p wide on node. h.nodes p wide on (near_node e es ns vs p wide on found node);
}

-- what is added is among some edges
pub adds-none : (es ns : List Edge) → AddsAmong es ns ns
adds-none es ns f one = inl one

pub adds-trans : (es ns ms ls : List Edge) → AddsAmong es ns ms → AddsAmong es ms ls → AddsAmong es ns ls
adds-trans es ns ms ls h k f one = elim (k f one) [ inl old ↦ h f old | inr own ↦ inr own ]

pub adds_pushed : (es ns ms : List Edge) (i : ℕ) (d g : Edge) → i < length es → g ≡ get_or es i d → ms ≡ ns ++ g ∷ [] → AddsAmong es ns ms
adds_pushed es ns ms i d g lt is pushed f one = elim (among_either f ns (g ∷ []) (subst (IsAmong f) pushed one)) [
  | inl old ↦ inl old
  | inr new ↦ elim new [
    | inl here ↦ inr (subst (λ (x : Edge). IsAmong x es) (sym (here ∙ is)) (get_among es i d lt))
    | inr none ↦ absurd none
  ]
]

-- those of a run are among all
pub adds_run : (es done rest run ns ms : List Edge) → es ≡ done ++ rest → run ≡ take run_len rest → AddsAmong run ns ms → AddsAmong es ns ms
adds_run es done rest run ns ms whole is h f one = elim (h f one) [
  | inl old ↦ inl old
  | inr own ↦ inr (subst (IsAmong f) (sym whole) (among_right f done rest
      (subst (IsAmong f) (take-append-drop run_len rest) (among_left f (take run_len rest) (drop run_len rest) (subst (IsAmong f) is own)))))
]
