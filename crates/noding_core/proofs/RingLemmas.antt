-- Round a closed ring, two tests of its edges that differ just where a test of vertices changes hold
-- equally often, up to an even number.
use Rattle.std.proofs.Common.{◌≡◌, ◌+◌, inl, inr, refl, sym, ap, ◌∙◌, true, false, arith, cond, List, [], ◌∷◌, ◌++◌}
use Rattle.std.specs.Prelude.{ℕ, All, Bool, not, ◌&&◌, ◌||◌, count_by}
use Rattle.std.specs.List.{list_any, flat_map}
use Rattle.std.proofs.lemmas.List.Sums.{sum_by-cons, sum_by-append}
use Rattle.std.proofs.lemmas.List.Elements.{All-head, All-tail}
use Rattle.plane_core.specs.declared.edge.Edge.{Edge}
use Rattle.plane_core.specs.declared.vertex.Vertex.{Vertex}
use Rattle.plane_core.specs.Figures.{edges, last_or, IsClosed, IsRing, is_odd}
use Rattle.noding_core.specs.Nodes.{IsAmong}
use Rattle.noding_core.proofs.AmongLemmas.{among_left, among_right}

abbrev pub differ : Bool → Bool → Bool
differ true t = not t
differ false t = t

pub differ_itself : (t : Bool) → differ t t ≡ false
differ_itself true = refl
differ_itself false = refl

pub differ_not : (t u : Bool) → differ t u ≡ false → t ≡ u
differ_not true true h = refl
differ_not true false h = h
differ_not false u h = sym h

pub differ_none : (t : Bool) → differ t false ≡ t
differ_none true = refl
differ_none false = refl

pub differ_same : (t u : Bool) → t ≡ u → differ t u ≡ false
differ_same t u h = ap (λ (x : Bool). differ x u) h ∙ differ_itself u

pub differ_turned : (t u : Bool) → differ t u ≡ differ u t
differ_turned true true = refl
differ_turned true false = refl
differ_turned false true = refl
differ_turned false false = refl

pub differ_pairs : (t u v x : Bool) → differ (differ t u) (differ v x) ≡ differ (differ t v) (differ u x)
differ_pairs true true true true = refl
differ_pairs true true true false = refl
differ_pairs true true false true = refl
differ_pairs true true false false = refl
differ_pairs true false true true = refl
differ_pairs true false true false = refl
differ_pairs true false false true = refl
differ_pairs true false false false = refl
differ_pairs false true true true = refl
differ_pairs false true true false = refl
differ_pairs false true false true = refl
differ_pairs false true false false = refl
differ_pairs false false true true = refl
differ_pairs false false true false = refl
differ_pairs false false false true = refl
differ_pairs false false false false = refl

differ_chain : (t u v : Bool) → differ (differ t u) (differ u v) ≡ differ t v
differ_chain true true true = refl
differ_chain true true false = refl
differ_chain true false true = refl
differ_chain true false false = refl
differ_chain false true true = refl
differ_chain false true false = refl
differ_chain false false true = refl
differ_chain false false false = refl

odd_sum : (m n : ℕ) → is_odd (m + n) ≡ differ (is_odd m) (is_odd n)
odd_sum m n = grind (arith)

odd_one : (t : Bool) → is_odd (cond t 1 0) ≡ t
odd_one true = refl
odd_one false = refl

odd_count : {X : Type 0} (p : X → Bool) (x : X) (xs : List X) → is_odd (count_by p (x ∷ xs)) ≡ differ (p x) (is_odd (count_by p xs))
odd_count p x xs =
    ap is_odd (sum_by-cons (λ y. cond (p y) 1 0) x xs)
    ∙ odd_sum (cond (p x) 1 0) (count_by p xs)
    ∙ ap (λ (t : Bool). differ t (is_odd (count_by p xs))) (odd_one (p x))

odd_append : {X : Type 0} (p : X → Bool) (xs ys : List X) → is_odd (count_by p (xs ++ ys)) ≡ differ (is_odd (count_by p xs)) (is_odd (count_by p ys))
odd_append p xs ys = ap is_odd (sum_by-append (λ y. cond (p y) 1 0) xs ys) ∙ odd_sum (count_by p xs) (count_by p ys)

-- along a path, the two tests differ in parity just where its ends differ
path_parity : (B C : Edge → Bool) (U : Vertex → Bool) (a : Vertex) (rest : List Vertex)
    → ((f : Edge) → IsAmong f (edges (a ∷ rest)) → differ (B f) (C f) ≡ differ (U f.a) (U f.b))
    → differ (is_odd (count_by B (edges (a ∷ rest)))) (is_odd (count_by C (edges (a ∷ rest)))) ≡ differ (U a) (U (last_or a rest))
path_parity B C U a [] h = sym (differ_itself (U a))
path_parity B C U a (b ∷ rest) h =
    let e : Edge = record { a = a; b = b } in
    let es : List Edge = edges (b ∷ rest) in
    ap (λ (t : Bool). differ t (is_odd (count_by C (e ∷ es)))) (odd_count B e es)
    ∙ ap (differ (differ (B e) (is_odd (count_by B es)))) (odd_count C e es)
    ∙ differ_pairs (B e) (is_odd (count_by B es)) (C e) (is_odd (count_by C es))
    ∙ ap (λ (t : Bool). differ t (differ (is_odd (count_by B es)) (is_odd (count_by C es)))) (h e (inl refl))
    ∙ ap (differ (differ (U a) (U b))) (path_parity B C U b rest (λ f k. h f (inr k)))
    ∙ differ_chain (U a) (U b) (U (last_or b rest))

ring_parity : (B C : Edge → Bool) (U : Vertex → Bool) (ring : List Vertex) → IsClosed ring
    → ((f : Edge) → IsAmong f (edges ring) → differ (B f) (C f) ≡ differ (U f.a) (U f.b))
    → is_odd (count_by B (edges ring)) ≡ is_odd (count_by C (edges ring))
ring_parity B C U [] closed h = refl
ring_parity B C U (a ∷ rest) closed h = differ_not _ _
    (path_parity B C U a rest h ∙ ap (λ (v : Vertex). differ (U a) (U v)) closed ∙ differ_itself (U a))

-- and so the two tests hold of an odd number of edges of closed rings together or not
pub rings_parity : (B C : Edge → Bool) (U : Vertex → Bool) (rings : List (List Vertex)) → All IsRing rings
    → ((f : Edge) → IsAmong f (flat_map edges rings) → differ (B f) (C f) ≡ differ (U f.a) (U f.b))
    → is_odd (count_by B (flat_map edges rings)) ≡ is_odd (count_by C (flat_map edges rings))
rings_parity B C U [] are h = refl
rings_parity B C U (ring ∷ rings) are h =
    odd_append B (edges ring) (flat_map edges rings)
    ∙ ap (λ (t : Bool). differ t (is_odd (count_by B (flat_map edges rings)))) (ring_parity B C U ring (All-head IsRing ring rings are).closed (λ f k. h f (among_left f (edges ring) _ k)))
    ∙ ap (differ (is_odd (count_by C (edges ring)))) (rings_parity B C U rings (All-tail IsRing ring rings are) (λ f k. h f (among_right f (edges ring) _ k)))
    ∙ sym (odd_append C (edges ring) (flat_map edges rings))

-- tests that agree on each element hold of some one or of none
pub any_same : {X : Type 0} (B C : X → Bool) (xs : List X) → ((x : X) → IsAmong x xs → B x ≡ C x) → list_any B xs ≡ list_any C xs
any_same {X = X} B C [] h = refl
any_same {X = X} B C (x ∷ xs) h = any_cons B x xs ∙ ap (λ (t : Bool). t || list_any B xs) (h x (inl refl)) ∙ ap (λ (t : Bool). C x || t) (any_same B C xs (λ y k. h y (inr k))) ∙ sym (any_cons C x xs)
  where
    any_cons : (P : X → Bool) (x : X) (xs : List X) → list_any P (x ∷ xs) ≡ (P x || list_any P xs)
    any_cons P x xs = refl

-- the two tests of a piece's way from column to column, by which of the two columns an edge's ends are
-- behind
pub table : (ap bp aq bq sp sq ua ub : Bool) → (bp ≡ true → ap ≡ true) → (bq ≡ true → aq ≡ true) → (ap ≡ true → aq ≡ true) → (bp ≡ true → bq ≡ true)
    → (ap ≡ true → bp ≡ false → aq ≡ true → bq ≡ false → sp ≡ sq)
    → (ap ≡ true → bp ≡ false → bq ≡ true → sp ≡ ub)
    → (ap ≡ false → aq ≡ true → bq ≡ false → ua ≡ sq)
    → (ap ≡ false → aq ≡ true → bp ≡ false → bq ≡ true → ua ≡ ub)
    → differ ((ap && not bp) && sp) ((aq && not bq) && sq) ≡ differ ((not ap && aq) && ua) ((not bp && bq) && ub)
table true true true true sp sq ua ub h k l m pq pb aq ab = refl
table true true true false sp sq ua ub h k l m pq pb aq ab = absurd (wrong (m refl))
  where
    wrong : false ≡ true → ⊥
    wrong e = cc
table true true false bq sp sq ua ub h k l m pq pb aq ab = absurd (wrong (l refl))
  where
    wrong : false ≡ true → ⊥
    wrong e = cc
table true false true true sp sq ua ub h k l m pq pb aq ab = differ_none sp ∙ pb refl refl refl
table true false true false sp sq ua ub h k l m pq pb aq ab = differ_same sp sq (pq refl refl refl refl)
table true false false bq sp sq ua ub h k l m pq pb aq ab = absurd (wrong (l refl))
  where
    wrong : false ≡ true → ⊥
    wrong e = cc
table false true aq bq sp sq ua ub h k l m pq pb aqs ab = absurd (wrong (h refl))
  where
    wrong : false ≡ true → ⊥
    wrong e = cc
table false false true true sp sq ua ub h k l m pq pb aq ab = sym (differ_same ua ub (ab refl refl refl refl))
table false false true false sp sq ua ub h k l m pq pb aq ab = sym (differ_none ua ∙ aq refl refl refl)
table false false false true sp sq ua ub h k l m pq pb aq ab = absurd (wrong (k refl))
  where
    wrong : false ≡ true → ⊥
    wrong e = cc
table false false false false sp sq ua ub h k l m pq pb aq ab = refl
