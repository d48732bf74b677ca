-- What a queue gains where a node is opened.
use Rattle.std.proofs.Common.{◌≡◌, ℕ, zero, suc, ◌+◌, ◌*◌, ◌<◌, List, [], ◌∷◌, ◌++◌, All, length, take, get_or, refl, sym, ap, subst, ◌∙◌, arith, append_assoc, length-append}
use Rattle.std.specs.Borrow.{Bor}
use Rattle.std.specs.Prelude.{IsPermutation, sum_by}
use Rattle.std.specs.List.{flat_map}
use Rattle.std.proofs.lemmas.List.{take_more, append-nil, map-append}
use Rattle.std.proofs.lemmas.List.Concat.{flat_map-append}
use Rattle.std.proofs.lemmas.List.Elements.{All-nil, All-cons, All-head, All-tail, All-append, All-get_or, All-weaker}
use Rattle.std.proofs.lemmas.List.Sums.{sum_by-cons, sum_by_push}
use Rattle.std.proofs.lemmas.List.Sorted.{IsPermutation-refl, IsPermutation-trans, IsPermutation-cons, IsPermutation-middle}
use Rattle.geom_core.specs.declared.shape.Shape.{Shape}
use Rattle.rtree_core.specs.declared.node.Entry.{Entry}
use Rattle.rtree_core.specs.declared.node.Node.{Node}
use Rattle.rtree_core.specs.Nodes.{entries_of, children_of, level_of, node_cover, IsLawful, IsLawfulAt, AreLawfulChildren}
use Rattle.rtree_core.proofs.NodeLemmas.{has_children, has_entries}
use Rattle.nearest_core.specs.declared.candidate.Item.TheVariants.{Subtree, Feature}
use Rattle.nearest_core.specs.Squares.{square_of}
use Rattle.nearest_core.specs.declared.candidate.Candidate.{Candidate}
use Rattle.nearest_core.specs.Searches.{BoxedFeature, stands_for, boxed_of, row_of, work_of, IsCandidate, Adds, AddsEntries, AddsNodes, Opens, node_work}

pub adds_none : (shape : Shape) (old : List Candidate) → Adds shape [] 0 old old
adds_none shape old = record {
  more = [];
  added = IsPermutation-refl old;
  same = refl;
  each = All-nil (IsCandidate shape);
  work_is = refl;
}

-- one candidate more
pub adds_more : (shape : Shape) (row stands : List BoxedFeature) (work : ℕ) (old mid new : List Candidate) (c : Candidate)
    → Adds shape row work old mid → IsPermutation (c ∷ mid) new → stands_for shape c ≡ stands → IsCandidate shape c
    → Adds shape (row ++ stands) (work + work_of c) old new
adds_more shape row stands work old mid new c a perm same is = record {
  more = a.more ++ c ∷ [];
  added = subst (λ (cs : List Candidate). IsPermutation cs new) (sym (append_assoc a.more (c ∷ []) old))
      (IsPermutation-trans (a.more ++ c ∷ old) (c ∷ (a.more ++ old)) new (IsPermutation-middle a.more c old)
      (IsPermutation-trans (c ∷ (a.more ++ old)) (c ∷ mid) new (IsPermutation-cons c (a.more ++ old) mid a.added) perm));
  same = flat_map-append (stands_for shape) a.more (c ∷ []) ∙ ap (λ (ns : List BoxedFeature). ns ++ (stands_for shape c ++ [])) a.same
      ∙ ap (λ (ns : List BoxedFeature). row ++ ns) (append-nil (stands_for shape c) ∙ same);
  each = All-append (IsCandidate shape) a.more (c ∷ []) a.each (All-cons (IsCandidate shape) c [] is (All-nil (IsCandidate shape)));
  work_is = sum_by_push work_of a.more c ∙ ap (λ n. n + work_of c) a.work_is;
}

adds_as : (shape : Shape) (row row' : List BoxedFeature) (work work' : ℕ) (old new : List Candidate) → row ≡ row' → work ≡ work'
    → Adds shape row work old new → Adds shape row' work' old new
adds_as shape row row' work work' old new e f a = record {
  more = a.more;
  added = a.added;
  same = a.same ∙ e;
  each = a.each;
  work_is = a.work_is ∙ f;
}

-- one entry more
pub entry_more : (shape : Shape) (es : List Entry) (i : ℕ) (e : Entry) (square : ℕ) (old mid new : List Candidate)
    → i < length es → e ≡ get_or es i e → square ≡ square_of shape e.shape
    → Adds shape (row_of shape (take i es)) i old mid → IsPermutation ((record { square = square; item = Feature e.number }) ∷ mid) new
    → Adds shape (row_of shape (take (i + 1) es)) (i + 1) old new
entry_more shape es i e square old mid new within at is a perm =
    let c : Candidate = record { square = square; item = Feature e.number } in
    adds_as shape _ _ _ _ old new
    (sym (map-append (boxed_of shape) (take i es) (e ∷ [])) ∙ ap (λ (x : Entry). row_of shape (take i es ++ x ∷ [])) at
    ∙ ap (row_of shape) (sym (take_more es i e within))) refl
    (adds_more shape (row_of shape (take i es)) (boxed_of shape e ∷ []) i old mid new c a perm
    (ap (λ (n : ℕ). (record { square = n; number = e.number }) ∷ []) is) tt)

-- one subtree more
pub child_more : (shape : Shape) (xs : List Node) (i : ℕ) (n : Bor Node) (square : ℕ) (old mid new : List Candidate)
    → i < length xs → n.now ≡ get_or xs i n.now → All IsLawful xs → square ≡ square_of shape (node_cover n.now)
    → AddsNodes shape (take i xs) old mid → IsPermutation ((record { square = square; item = Subtree n }) ∷ mid) new
    → AddsNodes shape (take (i + 1) xs) old new
child_more shape xs i n square old mid new within at lawful is a perm =
    let c : Candidate = record { square = square; item = Subtree n } in
    let front = take i xs in
    let one : n.now ∷ [] ≡ get_or xs i n.now ∷ [] = ap (λ (m : Node). m ∷ []) at in
    let whole : front ++ n.now ∷ [] ≡ take (i + 1) xs = ap (λ (ms : List Node). front ++ ms) one ∙ sym (take_more xs i n.now within) in
    adds_as shape _ _ _ _ old new
    (sym (map-append (boxed_of shape) (flat_map entries_of front) (entries_of n.now))
    ∙ ap (row_of shape) (ap (λ (es : List Entry). flat_map entries_of front ++ es) (sym (append-nil (entries_of n.now)))
    ∙ sym (flat_map-append entries_of front (n.now ∷ []))) ∙ ap (λ (ms : List Node). row_of shape (flat_map entries_of ms)) whole)
    (sym (sum_by_push node_work front n.now) ∙ ap (sum_by node_work) whole)
    (adds_more shape (row_of shape (flat_map entries_of front)) (row_of shape (entries_of n.now)) (sum_by node_work front) old mid new c a
    perm refl (subst IsLawful (sym at) (All-get_or IsLawful xs i n.now within lawful), is))

-- a lawful node has an entry
some_in : (l : ℕ) (xs : List Node) → 0 < length xs → All (λ m. 0 < length (entries_of m)) xs → 0 < length (flat_map entries_of xs)
some_in l [] some each = absurd (omega arith)
some_in l (x ∷ xs) some each =
    omega (arith, length-append (entries_of x) (flat_map entries_of xs), All-head (λ m. 0 < length (entries_of m)) x xs each)

some_entry : (l : ℕ) (n : Node) → IsLawfulAt l n → 0 < length (entries_of n)
some_entry zero n h = (has_entries n h).some
some_entry (suc l) n h =
    let below = has_children l n h in
    rw below.entries (some_in l (children_of n) below.some
    (All-weaker (IsLawfulAt l) (λ m. 0 < length (entries_of m)) (λ m lawful. some_entry l m lawful) (children_of n) below.children))

-- the work of nodes of one level
level_work : (level : ℕ) (xs : List Node) → All (λ m. level_of m + 1 ≡ level) xs
    → sum_by node_work xs ≡ (level + 1) * length (flat_map entries_of xs)
level_work level [] h = omega arith
level_work level (x ∷ xs) h =
    let here : level_of x + 1 ≡ level = All-head (λ m. level_of m + 1 ≡ level) x xs h in
    let first : node_work x ≡ (level + 1) * length (entries_of x) = ap (λ (k : ℕ). k * length (entries_of x)) (omega (arith, here)) in
    let others = level_work level xs (All-tail (λ m. level_of m + 1 ≡ level) x xs h) in
    omega (arith, first, others, sum_by-cons node_work x xs, ap (λ (k : ℕ). (level + 1) * k) (length-append (entries_of x) (flat_map entries_of xs)))

lighter : (level len : ℕ) → 0 < len → (level + 1) * len < (level + 2) * len
lighter level len some = omega (arith, some)

-- a leaf, by its entries
pub leaf_opened : (shape : Shape) (n : Node) (es : List Entry) (old new : List Candidate) → IsLawful n → level_of n ≡ 0 → es ≡ entries_of n
    → AddsEntries shape es old new → Opens shape n old new
leaf_opened shape n es old new lawful low same a =
    let some = some_entry (level_of n) n lawful in
    record {
      work = length es;
      adds = adds_as shape _ _ _ _ old new (ap (row_of shape) same) refl a;
      less = let e = ap length same in let two : node_work n ≡ 2 * length (entries_of n) = ap (λ (k : ℕ). (k + 2) * length (entries_of n)) low in omega (arith, e, two, some);
    }

-- an inner node, by its children
pub inner_opened : (shape : Shape) (n : Node) (xs : List Node) (old new : List Candidate) → IsLawful n → entries_of n ≡ flat_map entries_of xs
    → AreLawfulChildren n xs → AddsNodes shape xs old new → Opens shape n old new
inner_opened shape n xs old new lawful same are a =
    let some = some_entry (level_of n) n lawful in
    let e = level_work (level_of n) xs are.levels in
    record {
      work = sum_by node_work xs;
      adds = adds_as shape _ _ _ _ old new (ap (row_of shape) (sym same)) refl a;
      less = rw (e, ← same) (lighter (level_of n) (length (entries_of n)) some);
    }
