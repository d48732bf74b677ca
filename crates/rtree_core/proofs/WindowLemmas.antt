-- The search for the entries that meet a window, piece by piece.
use Rattle.std.proofs.Common.{arith, ◌≡◌, ℕ, zero, suc, ◌+◌, ◌<◌, ◌≤◌, cond, List, [], ◌∷◌, ◌++◌, length, get_or, take, refl, sym, ◌∙◌, ap, subst, append_assoc}
use Rattle.std.proofs.Common.{inl, inr}
use Rattle.std.proofs.Common.{ControlFlow, Continue}
use Rattle.std.specs.Result.{result_from_control_flow}
use Rattle.std.specs.Prelude.{Result, Ok, OnOk, All, Any, Contains, count_by, nat_eq, Option, Some}
use Rattle.std.specs.List.{flat_map}
use Rattle.std.specs.List.Sorted.{IsStrictlyIncreasing, IsNonDecreasing, IsPermutation}
use Rattle.std.proofs.lemmas.Bool.{cases_eq}
use Rattle.std.proofs.lemmas.Bool.Decides.{nat_tests}
use Rattle.std.proofs.lemmas.List.{append-nil, take_more}
use Rattle.std.proofs.lemmas.List.Concat.{flat_map-append}
use Rattle.std.proofs.lemmas.List.Elements.{All-append, All-head, All-tail, All-cons, All-nil, All-weaker}
use Rattle.std.proofs.lemmas.List.Sums.{sum_by-cons, sum_by_more, sum_by-take-le}
use Rattle.std.proofs.lemmas.List.Sorted.{sum_by-IsPermutation, Contains-permutation, All-permutation}
use Rattle.geom_core.specs.declared.shape.Shape.{Shape}
use Rattle.geom_core.specs.Cells.{Meets, IsIn}
use Rattle.rtree_core.specs.declared.node.Entry.{Entry}
use Rattle.rtree_core.specs.declared.node.Node.{Node}
use Rattle.split_core.specs.Covers.{IsLeastCover}
use Rattle.std.specs.declared.alloc.Global.{Global}
use Rattle.std.specs.declared.vec.Vec.{Vec}
use Rattle.std.proofs.lemmas.List.Elements.{All-get_or}
use Rattle.rtree_core.specs.declared.node.Below.{out-Below}
use Rattle.rtree_core.specs.declared.node.Below.TheVariants.{outs-Children, Children as made_children}
use Rattle.rtree_core.proofs.NodeLemmas.{children_lawful, level_inner, top_level}
use Rattle.rtree_core.specs.Nodes.{entries_of, children_of, level_of, IsLawful, IsLawfulAt}
use Rattle.rtree_core.specs.Trees.{entries_in, has_number}
use Rattle.rtree_core.specs.Windows.{AllMet, AllFound, Picks, none, met, missed, Adds}
use Rattle.split_core.proofs.CoverLemmas.{in_trans, All-front, All-back}
use Rattle.rtree_core.proofs.NodeLemmas.{HasChildren, has_children, has_entries}

-- a fact of each item of concatenated lists is a fact of each item of each list
pub all_joined : {A B : Type 0} (P : B → Type 0) (f : A → List B) (xs : List A) → All (λ x. All P (f x)) xs → All P (flat_map f xs)
all_joined P f [] h = All-nil P
all_joined P f (x ∷ xs) h = All-append P (f x) (flat_map f xs) (All-head (λ y. All P (f y)) x xs h) (all_joined P f xs (All-tail (λ y. All P (f y)) x xs h))

pub all_parted : {A B : Type 0} (P : B → Type 0) (f : A → List B) (xs : List A) → All P (flat_map f xs) → All (λ x. All P (f x)) xs
all_parted P f [] h = All-nil (λ x. All P (f x))
all_parted P f (x ∷ xs) h = All-cons (λ y. All P (f y)) x xs (All-front P (f x) (flat_map f xs) h) (all_parted P f xs (All-back P (f x) (flat_map f xs) h))

-- a lawful node's cover is the smallest shape that contains its entries' shapes
inner_cover : (l : ℕ) (n : Node) →
    HasChildren l n →
    ((m : Node) → IsLawfulAt l m → IsLeastCover (λ e. e.shape) (entries_of m) m.cover) →
    IsLeastCover (λ e. e.shape) (entries_of n) n.cover
inner_cover l n h deep = record {
  contains = rw h.entries (all_joined (λ e. IsIn e.shape n.cover) entries_of (children_of n) (λ k d lt.
      let m = get_or (children_of n) k d in
      All-weaker (λ e. IsIn e.shape m.cover) (λ e. IsIn e.shape n.cover) (λ e i. in_trans e.shape m.cover n.cover i (h.tight.contains k d lt))
      (entries_of m) (deep m (h.children k d lt)).contains));
  least = λ s all.
      let parts = all_parted (λ e. IsIn e.shape s) entries_of (children_of n) (rw h.entries at all) in
      h.tight.least s (λ k d lt. (deep _ (h.children k d lt)).least s (parts k d lt));
}

pub lawful_cover : (l : ℕ) (n : Node) → IsLawfulAt l n → IsLeastCover (λ e. e.shape) (entries_of n) n.cover
lawful_cover zero n h = (has_entries n h).tight
lawful_cover (suc l) n h = inner_cover l n (has_children l n h) (lawful_cover l)

picks_append : (w : Shape) {es fs : List Entry} {ks ms : List ℕ} → Picks w es ks → Picks w fs ms → Picks w (es ++ fs) (ks ++ ms)
picks_append w none q = q
picks_append w (met h p) q = met h (picks_append w p q)
picks_append w (missed h p) q = missed h (picks_append w p q)

pub adds_none : (w : Shape) (old : List ℕ) → Adds w [] old old
adds_none w old = record { numbers = []; picks = none; items = sym (append-nil old) }

pub adds_append : (w : Shape) (es fs : List Entry) (a b c : List ℕ) → Adds w es a b → Adds w fs b c → Adds w (es ++ fs) a c
adds_append w es fs a b c p q = record {
  numbers = p.numbers ++ q.numbers;
  picks = picks_append w p.picks q.picks;
  items = q.items ∙ ap (λ xs. xs ++ q.numbers) p.items ∙ append_assoc a p.numbers q.numbers;
}

adds_met : (w : Shape) (e : Entry) (old new : List ℕ) → Meets e.shape w → new ≡ old ++ e.number ∷ [] → Adds w (e ∷ []) old new
adds_met w e old new h items = record { numbers = e.number ∷ []; picks = met h none; items = items }

picks_none : (w : Shape) (es : List Entry) → All (λ e. Meets e.shape w → ⊥) es → Picks w es []
picks_none w [] h = none
picks_none w (e ∷ es) h = missed (All-head (λ x. Meets x.shape w → ⊥) e es h) (picks_none w es (All-tail (λ x. Meets x.shape w → ⊥) e es h))

adds_missed : (w : Shape) (es : List Entry) (old : List ℕ) → All (λ e. Meets e.shape w → ⊥) es → Adds w es old old
adds_missed w es old h = record { numbers = []; picks = picks_none w es h; items = sym (append-nil old) }

-- one entry more
pub adds_more_met : (w : Shape) (es : List Entry) (i : ℕ) (e : Entry) (a b c : List ℕ) →
    i < length es → e ≡ get_or es i e → Adds w (take i es) a b → Meets e.shape w → c ≡ b ++ e.number ∷ [] → Adds w (take (i + 1) es) a c
adds_more_met w es i e a b c lt at p h items =
    rw (take_more es i e lt) (adds_append w (take i es) (get_or es i e ∷ []) a b c p (subst (λ x. Adds w (x ∷ []) b c) at (adds_met w e b c h items)))

pub adds_more_missed : (w : Shape) (es : List Entry) (i : ℕ) (e : Entry) (a b : List ℕ) →
    i < length es → e ≡ get_or es i e → Adds w (take i es) a b → (Meets e.shape w → ⊥) → Adds w (take (i + 1) es) a b
adds_more_missed w es i e a b lt at p h =
    rw (take_more es i e lt) (adds_append w (take i es) (get_or es i e ∷ []) a b b p
    (subst (λ x. Adds w (x ∷ []) b b) at (adds_missed w (e ∷ []) b (All-cons (λ x. Meets x.shape w → ⊥) e [] h (All-nil (λ x. Meets x.shape w → ⊥))))))

-- one child more
below_more : (xs : List Node) (i : ℕ) (n : Node) → i < length xs → n ≡ get_or xs i n → flat_map entries_of (take (i + 1) xs) ≡ flat_map entries_of
    (take i xs) ++ entries_of n
below_more xs i n lt at =
    ap (flat_map entries_of) (take_more xs i n lt) ∙ flat_map-append entries_of (take i xs) (get_or xs i n ∷ []) ∙ ap
    (λ ys. flat_map entries_of (take i xs) ++ ys) (append-nil (entries_of (get_or xs i n)) ∙ ap entries_of (sym at))

pub adds_more_child : (w : Shape) (xs : List Node) (i : ℕ) (n : Node) (a b c : List ℕ) →
    i < length xs → n ≡ get_or xs i n → Adds w (flat_map entries_of (take i xs)) a b → Adds w (entries_of n) b c → Adds w
    (flat_map entries_of (take (i + 1) xs)) a c
adds_more_child w xs i n a b c lt at p q = rw (below_more xs i n lt at) (adds_append w (flat_map entries_of (take i xs)) (entries_of n) a b c p q)

-- the numbers added by a search that had memory
pub ran : {E : Type 0} (w : Shape) (es : List Entry) (old found : List ℕ) (r : Result (Unit {0}) E) (b : ControlFlow _ (Unit {0})) (u : Unit {0}) →
    r ≡ result_from_control_flow b →
    b ≡ Continue u →
    OnOk r (Adds w es old found) →
    Adds w es old found
ran w es old found r b u told went p =
    let ok : r ≡ Ok u = rw went at told in
    rw ok at p

-- the numbers added to an empty list for a root
pub found_in : (w : Shape) (root : Option Node) (n : Node) (old found : List ℕ) →
    root ≡ Some n → old ≡ [] → Adds w (entries_of n) old found → Adds w (entries_in root) [] found
found_in w root n old found is empty p = rw (is, ← empty) p

-- no entry meets a window that its node's cover doesn't meet
pub adds_pruned : (w : Shape) (l : ℕ) (n : Node) (old : List ℕ) → IsLawfulAt l n → (Meets n.cover w → ⊥) → Adds w (entries_of n) old old
adds_pruned w l n old lawful h =
    adds_missed w (entries_of n) old
    (All-weaker (λ e. IsIn e.shape n.cover) (λ e. Meets e.shape w → ⊥) (λ e i m. h (m.0, m.1, i m.0 m.1 m.2, m.3)) (entries_of n)
    (lawful_cover l n lawful).contains)

any_later : {T : Type 0} (P : T → Type 0) (x : T) (xs : List T) → Any P xs → Any P (x ∷ xs)
any_later P x xs h = (suc h.0, h.1, omega (arith, h.2), h.3, h.4)

any_first : {T : Type 0} (P : T → Type 0) (x : T) (xs : List T) → P x → Any P (x ∷ xs)
any_first P x xs h = (0, x, omega arith, refl, h)

contains_later : (x k : ℕ) (ks : List ℕ) → Contains ks k → Contains (x ∷ ks) k
contains_later x k ks h = (suc h.0, omega (arith, h.1), h.2)

picks_met : (w : Shape) {es : List Entry} {ks : List ℕ} → Picks w es ks → AllMet w es ks
picks_met w none = All-nil _
picks_met w (met {e} {es} {ks} h p) =
    All-cons (λ k. Any (λ x. (x.number ≡ k) × Meets x.shape w) (e ∷ es)) e.number ks
    (any_first (λ x. (x.number ≡ e.number) × Meets x.shape w) e es (refl, h))
    (All-weaker (λ k. Any (λ x. (x.number ≡ k) × Meets x.shape w) es) (λ k. Any (λ x. (x.number ≡ k) × Meets x.shape w) (e ∷ es))
    (λ k a. any_later (λ x. (x.number ≡ k) × Meets x.shape w) e es a) ks (picks_met w p))
picks_met w (missed {e} {es} {ks} h p) =
    All-weaker (λ k. Any (λ x. (x.number ≡ k) × Meets x.shape w) es) (λ k. Any (λ x. (x.number ≡ k) × Meets x.shape w) (e ∷ es))
    (λ k a. any_later (λ x. (x.number ≡ k) × Meets x.shape w) e es a) ks (picks_met w p)

picks_found : (w : Shape) {es : List Entry} {ks : List ℕ} → Picks w es ks → AllFound w es ks
picks_found w none = All-nil _
picks_found w (met {e} {es} {ks} h p) =
    All-cons (λ x. Meets x.shape w → Contains (e.number ∷ ks) x.number) e es
    (λ m. (0, omega arith, refl))
    (All-weaker (λ x. Meets x.shape w → Contains ks x.number) (λ x. Meets x.shape w → Contains (e.number ∷ ks) x.number)
    (λ x c m. contains_later e.number x.number ks (c m)) es (picks_found w p))
picks_found w (missed {e} {es} {ks} h p) =
    All-cons (λ x. Meets x.shape w → Contains ks x.number) e es (λ m. absurd (h m)) (picks_found w p)

-- no number is picked more often than entries have it
picks_counts : (w : Shape) (k : ℕ) {es : List Entry} {ks : List ℕ} → Picks w es ks → count_by (λ n. nat_eq n k) ks ≤ count_by (has_number k) es
picks_counts w k none = omega arith
picks_counts w k (met {e} {es} {ks} h p) =
    omega (arith, picks_counts w k p, sum_by-cons (λ n. cond {A = ℕ} (nat_eq n k) 1 0) e.number ks, sum_by-cons (λ x. cond {A = ℕ} (has_number k x) 1 0) e es)
picks_counts w k (missed {e} {es} {ks} h p) =
    omega (arith, picks_counts w k p, sum_by-cons (λ x. cond {A = ℕ} (has_number k x) 1 0) e es)

-- a list that rises, in which no number comes twice, rises strictly
equal_counts : (k : ℕ) → cond {A = ℕ} (nat_eq k k) 1 0 ≡ 1
equal_counts k = grind (arith, nat_tests)

twice : (ks : List ℕ) (i : ℕ) → i + 1 < length ks → get_or ks i 0 ≡ get_or ks (i + 1) 0 → 2 ≤ count_by (λ n. nat_eq n (get_or ks i 0)) ks
twice ks i lt same =
    let f : ℕ → ℕ = λ n. cond {A = ℕ} (nat_eq n (get_or ks i 0)) 1 0 in
    let next : f (get_or ks (i + 1) 0) ≡ 1 = subst (λ z. f z ≡ 1) same (equal_counts (get_or ks i 0)) in
    omega (arith, sum_by_more f ks i 0 (omega arith), sum_by_more f ks (i + 1) 0 lt, equal_counts (get_or ks i 0), next, sum_by-take-le f ks ((i + 1) + 1))

rises_strictly : (ks : List ℕ) → IsNonDecreasing ks → ((k : ℕ) → count_by (λ n. nat_eq n k) ks ≤ 1) → IsStrictlyIncreasing ks
rises_strictly ks up once i lt =
    elim (cases_eq (get_or ks i 0) (get_or ks (i + 1) 0)) [
      | inl e ↦ absurd (omega (arith, twice ks i lt e, once (get_or ks i 0)))
      | inr n ↦ omega (arith, up i (i + 1) 0 (omega arith) lt, n)
    ]

module _ (w : Shape) (es : List Entry) (found sorted : List ℕ) (adds : Adds w es [] found) (same : IsPermutation found sorted) where
  here : Picks w es found
  here = rw adds.items adds.picks

  pub window_met : AllMet w es sorted
  window_met = All-permutation (λ k. Any (λ e. (e.number ≡ k) × Meets e.shape w) es) found sorted same (picks_met w here)

  pub window_all : AllFound w es sorted
  window_all =
      All-weaker (λ e. Meets e.shape w → Contains found e.number) (λ e. Meets e.shape w → Contains sorted e.number)
      (λ e c m. Contains-permutation found sorted e.number same (c m)) es (picks_found w here)

  pub window_rises : ((k : ℕ) → count_by (has_number k) es ≤ 1) → IsNonDecreasing sorted → IsStrictlyIncreasing sorted
  window_rises once up =
      rises_strictly sorted up (λ k. omega (arith, once k, picks_counts w k here, sum_by-IsPermutation (λ n. cond {A = ℕ} (nat_eq n k) 1 0) found sorted same))

-- a child of lawful nodes is lawful
pub item_lawful : (xs : List Node) (i : ℕ) (x : Node) → All IsLawful xs → i < length xs → x ≡ get_or xs i x → IsLawful x
item_lawful xs i x all lt at = subst IsLawful (sym at) (All-get_or IsLawful xs i x lt all)

-- the children of a lawful node are lawful, given its list
pub list_lawful : (n : Node) (v : Vec Node Global) (xs : List Node) → n.below ≡ made_children v → xs ≡ v.items → IsLawful n → All IsLawful xs
list_lawful n v xs is read lawful = rw read (children_lawful n v is lawful)

pub list_level : (n : Node) (v : Vec Node Global) (xs : List Node) → n.below ≡ made_children v → xs ≡ v.items → top_level xs + 1 ≡ level_of n
list_level n v xs is read = rw read (sym (level_inner n v (ap out-Below is ∙ outs-Children v)))
