-- The pairs that a descent finds, piece by piece.
use Rattle.std.proofs.Common.{arith, ◌≡◌, ℕ, ◌+◌, ◌*◌, ◌<◌, ◌≤◌, Bool, true, false, cond, List, [], ◌∷◌, ◌++◌, length, get_or, take, refl, sym, ◌∙◌, ap, subst}
use Rattle.std.proofs.Common.{append_assoc, inl, inr}
use Rattle.std.specs.Prelude.{All, Contains, count_by, ◌&&◌, ◌==◌}
use Rattle.std.specs.List.{flat_map}
use Rattle.std.proofs.Math.Nat.{add-mul, mul-add}
use Rattle.std.proofs.lemmas.List.{append-nil, take_more}
use Rattle.std.proofs.lemmas.List.Concat.{flat_map-append}
use Rattle.std.proofs.lemmas.List.Elements.{All-nil, All-cons, All-contains, Contains-append_left, Contains-append_right, Contains-append_cases}
use Rattle.std.proofs.lemmas.List.Sums.{sum_by-cons, sum_by-append}
use Rattle.geom_core.specs.declared.shape.Shape.{Shape}
use Rattle.relation_core.specs.declared.relation.Relation.{Relation}
use Rattle.geom_core.specs.Cells.{Meets, IsIn}
use Rattle.relation_core.specs.Relations.{Holds, ForbidsDisjoint}
use Rattle.rtree_core.specs.declared.node.Entry.{Entry}
use Rattle.rtree_core.specs.declared.node.Node.{Node}
use Rattle.rtree_core.specs.Nodes.{entries_of, level_of, node_cover, IsLawful}
use Rattle.rtree_core.specs.Trees.{has_number}
use Rattle.rtree_core.proofs.WindowLemmas.{lawful_cover}
use Rattle.descent_core.specs.Rows.{StandIn}
use Rattle.descent_core.specs.Shares.{is_pair}
use Rattle.descent_core.specs.Finds.{Finds, Adds}

pub contains_none : {T : Type 0} (x : T) → Contains [] x → ⊥
contains_none x c = let within = c.1 in omega arith

pub contains_one : {T : Type 0} (x y : T) → Contains (x ∷ []) y → x ≡ y
contains_one x y c = elim (Contains-append_cases (x ∷ []) [] y c) [
  | inl h ↦ at_front h
  | inr h ↦ absurd (contains_none y h)
]
  where
    at_front : Contains (x ∷ []) y → x ≡ y
    at_front h = first h.0 h.1 h.2
      where
        first : (k : ℕ) → k < 1 → get_or (x ∷ []) k y ≡ y → x ≡ y
        first k lt at = let zero_is : k ≡ 0 = omega arith in subst (λ i. get_or (x ∷ []) i y ≡ y) zero_is at

pub contains_here : {T : Type 0} (x : T) (xs : List T) → Contains (x ∷ xs) x
contains_here x xs = (0, omega arith, refl)

-- how often a test is passed in two lists joined
pub counts : {T : Type 0} (p : T → Bool) (xs ys : List T) → count_by p (xs ++ ys) ≡ count_by p xs + count_by p ys
counts p xs ys = sum_by-append (λ x. cond {A = ℕ} (p x) 1 0) xs ys

module _ (relation : Relation) where
  stand : (es fs : List Entry) (pair : ℕ × ℕ) (e f : Entry) → Contains es e → Contains fs f → pair ≡ (e.number, f.number) → Holds relation e.shape f.shape →
      StandIn relation es fs pair
  stand es fs pair e f c d numbers holds =
      record { first = e; second = f; first_held = c; second_held = d; numbers = numbers; holds = holds }

  -- nothing is found if no two entries stand in the relation
  pub finds_none : (es fs : List Entry) → ((e f : Entry) → Contains es e → Contains fs f → ¬ (Holds relation e.shape f.shape)) → Finds relation es fs []
  finds_none es fs none = record {
    exact = λ pair. ((λ c. absurd (contains_none pair c)), (λ s. absurd (none s.first s.second s.first_held s.second_held s.holds)));
    once = λ pair. omega arith;
  }

  pub finds_lefts : (es gs fs : List Entry) (xs ys : List (ℕ × ℕ)) → Finds relation es fs xs → Finds relation gs fs ys → Finds relation (es ++ gs) fs (xs ++ ys)
  finds_lefts es gs fs xs ys a b = record {
    exact = λ pair. (
      (λ c. elim (Contains-append_cases xs ys pair c) [
        | inl h ↦ let s = (a.exact pair).0 h in
            stand (es ++ gs) fs pair s.first s.second (Contains-append_left es gs s.first s.first_held) s.second_held s.numbers s.holds
        | inr h ↦ let s = (b.exact pair).0 h in
            stand (es ++ gs) fs pair s.first s.second (Contains-append_right es gs s.first s.first_held) s.second_held s.numbers s.holds
      ]),
      (λ s. elim (Contains-append_cases es gs s.first s.first_held) [
        | inl h ↦ Contains-append_left xs ys pair ((a.exact pair).1 (stand es fs pair s.first s.second h s.second_held s.numbers s.holds))
        | inr h ↦ Contains-append_right xs ys pair ((b.exact pair).1 (stand gs fs pair s.first s.second h s.second_held s.numbers s.holds))
      ]),
    );
    once = λ pair.
        let d = count_by (has_number pair.1) fs in
        rw (counts (is_pair pair) xs ys, counts (has_number pair.0) es gs, add-mul (count_by (has_number pair.0) es) (count_by (has_number pair.0) gs) d)
        (omega (arith, a.once pair, b.once pair));
  }

  pub finds_rights : (es fs gs : List Entry) (xs ys : List (ℕ × ℕ)) → Finds relation es fs xs → Finds relation es gs ys →
      Finds relation es (fs ++ gs) (xs ++ ys)
  finds_rights es fs gs xs ys a b = record {
    exact = λ pair. (
      (λ c. elim (Contains-append_cases xs ys pair c) [
        | inl h ↦ let s = (a.exact pair).0 h in
            stand es (fs ++ gs) pair s.first s.second s.first_held (Contains-append_left fs gs s.second s.second_held) s.numbers s.holds
        | inr h ↦ let s = (b.exact pair).0 h in
            stand es (fs ++ gs) pair s.first s.second s.first_held (Contains-append_right fs gs s.second s.second_held) s.numbers s.holds
      ]),
      (λ s. elim (Contains-append_cases fs gs s.second s.second_held) [
        | inl h ↦ Contains-append_left xs ys pair ((a.exact pair).1 (stand es fs pair s.first s.second s.first_held h s.numbers s.holds))
        | inr h ↦ Contains-append_right xs ys pair ((b.exact pair).1 (stand es gs pair s.first s.second s.first_held h s.numbers s.holds))
      ]),
    );
    once = λ pair.
        let d = count_by (has_number pair.0) es in
        rw (counts (is_pair pair) xs ys, counts (has_number pair.1) fs gs, mul-add d (count_by (has_number pair.1) fs) (count_by (has_number pair.1) gs))
        (omega (arith, a.once pair, b.once pair));
  }

  both_at_most : (a b : Bool) → cond {A = ℕ} (a && b) 1 0 ≤ cond {A = ℕ} a 1 0 * cond {A = ℕ} b 1 0
  both_at_most true true = omega arith
  both_at_most true false = omega arith
  both_at_most false b = omega arith

  one_count : {T : Type 0} (p : T → Bool) (x : T) → count_by p (x ∷ []) ≡ cond {A = ℕ} (p x) 1 0
  one_count p x = omega (arith, sum_by-cons (λ y. cond {A = ℕ} (p y) 1 0) x [])

  -- two entries that stand in the relation
  pub finds_one : (e f : Entry) → Holds relation e.shape f.shape → Finds relation (e ∷ []) (f ∷ []) ((e.number, f.number) ∷ [])
  finds_one e f h = record {
    exact = λ pair. (
      (λ c. record {
        first = e;
        second = f;
        first_held = contains_here e [];
        second_held = contains_here f [];
        numbers = sym (contains_one (e.number, f.number) pair c);
        holds = h;
      }),
      (λ s.
          let same_first = contains_one e s.first s.first_held in
          let same_second = contains_one f s.second s.second_held in
          let numbers : (e.number, f.number) ≡ pair = (λ i. ((same_first i).number, (same_second i).number)) ∙ sym s.numbers in
          subst (λ (p : ℕ × ℕ). Contains ((e.number, f.number) ∷ []) p) numbers (contains_here (e.number, f.number) [])),
    );
    once = λ pair.
        rw (one_count (is_pair pair) (e.number, f.number), one_count (has_number pair.0) e, one_count (has_number pair.1) f)
        (both_at_most (e.number == pair.0) (f.number == pair.1));
  }

  -- nothing was added
  pub adds_none : (es fs : List Entry) (old : List (ℕ × ℕ)) →
      ((e f : Entry) → Contains es e → Contains fs f → ¬ (Holds relation e.shape f.shape)) → Adds relation es fs old old
  adds_none es fs old none = record { found = []; finds = finds_none es fs none; items = sym (append-nil old) }

  pub adds_no_lefts : (fs : List Entry) (old : List (ℕ × ℕ)) → Adds relation [] fs old old
  adds_no_lefts fs old = adds_none [] fs old (λ e f c d. absurd (contains_none e c))

  pub adds_no_rights : (es : List Entry) (old : List (ℕ × ℕ)) → Adds relation es [] old old
  adds_no_rights es old = adds_none es [] old (λ e f c d. absurd (contains_none f d))

  pub adds_lefts : (es gs fs : List Entry) (a b c : List (ℕ × ℕ)) → Adds relation es fs a b → Adds relation gs fs b c → Adds relation (es ++ gs) fs a c
  adds_lefts es gs fs a b c p q = record {
    found = p.found ++ q.found;
    finds = finds_lefts es gs fs p.found q.found p.finds q.finds;
    items = q.items ∙ ap (λ xs. xs ++ q.found) p.items ∙ append_assoc a p.found q.found;
  }

  pub adds_rights : (es fs gs : List Entry) (a b c : List (ℕ × ℕ)) → Adds relation es fs a b → Adds relation es gs b c → Adds relation es (fs ++ gs) a c
  adds_rights es fs gs a b c p q = record {
    found = p.found ++ q.found;
    finds = finds_rights es fs gs p.found q.found p.finds q.finds;
    items = q.items ∙ ap (λ xs. xs ++ q.found) p.items ∙ append_assoc a p.found q.found;
  }

  pub adds_one : (e f : Entry) (old new : List (ℕ × ℕ)) → Holds relation e.shape f.shape → new ≡ old ++ (e.number, f.number) ∷ [] →
      Adds relation (e ∷ []) (f ∷ []) old new
  adds_one e f old new h items = record { found = (e.number, f.number) ∷ []; finds = finds_one e f h; items = items }

  pub adds_not_one : (e f : Entry) (old : List (ℕ × ℕ)) → ¬ (Holds relation e.shape f.shape) → Adds relation (e ∷ []) (f ∷ []) old old
  adds_not_one e f old none =
      adds_none (e ∷ []) (f ∷ []) old
      (λ x y c d h. none (subst (λ (z : Entry). Holds relation e.shape z.shape) (sym (contains_one f y d))
      (subst (λ (z : Entry). Holds relation z.shape y.shape) (sym (contains_one e x c)) h)))

  -- one entry more of the second list, or of the first
  pub adds_more_right : (es fs : List Entry) (i : ℕ) (f : Entry) (a b c : List (ℕ × ℕ)) → i < length fs → f ≡ get_or fs i f →
      Adds relation es (take i fs) a b → Adds relation es (f ∷ []) b c → Adds relation es (take (i + 1) fs) a c
  adds_more_right es fs i f a b c lt at p q =
      rw (take_more fs i f lt) (adds_rights es (take i fs) (get_or fs i f ∷ []) a b c p (subst (λ x. Adds relation es (x ∷ []) b c) at q))

  pub adds_more_left : (es fs : List Entry) (i : ℕ) (e : Entry) (a b c : List (ℕ × ℕ)) → i < length es → e ≡ get_or es i e →
      Adds relation (take i es) fs a b → Adds relation (e ∷ []) fs b c → Adds relation (take (i + 1) es) fs a c
  adds_more_left es fs i e a b c lt at p q =
      rw (take_more es i e lt) (adds_lefts (take i es) (get_or es i e ∷ []) fs a b c p (subst (λ x. Adds relation (x ∷ []) fs b c) at q))

  -- no entry of a node stands in the relation with one of shapes that don't meet its cover
  pub adds_apart : ForbidsDisjoint relation → (es fs : List Entry) (s t : Shape) (old : List (ℕ × ℕ)) →
      All (λ e. IsIn e.shape s) es → All (λ f. IsIn f.shape t) fs → ¬ (Meets s t) → Adds relation es fs old old
  adds_apart forbids es fs s t old lefts rights apart =
      adds_none es fs old (λ e f c d.
      let left : IsIn e.shape s = All-contains (λ (x : Entry). IsIn x.shape s) es e lefts c in
      let right : IsIn f.shape t = All-contains (λ (x : Entry). IsIn x.shape t) fs f rights d in
      forbids e.shape f.shape (λ m. apart (m.0, m.1, left m.0 m.1 m.2, right m.0 m.1 m.3)))

  below_more : (xs : List Node) (i : ℕ) (n : Node) → i < length xs → n ≡ get_or xs i n → flat_map entries_of (take (i + 1) xs) ≡ flat_map entries_of
      (take i xs) ++ entries_of n
  below_more xs i n lt at =
      ap (flat_map entries_of) (take_more xs i n lt) ∙ flat_map-append entries_of (take i xs) (get_or xs i n ∷ []) ∙ ap
      (λ ys. flat_map entries_of (take i xs) ++ ys) (append-nil (entries_of (get_or xs i n)) ∙ ap entries_of (sym at))

  -- one subtree more
  pub adds_node_right : (es : List Entry) (xs : List Node) (i : ℕ) (n : Node) (a b c : List (ℕ × ℕ)) → i < length xs → n ≡ get_or xs i n →
      Adds relation es (flat_map entries_of (take i xs)) a b → Adds relation es (entries_of n) b c →
      Adds relation es (flat_map entries_of (take (i + 1) xs)) a c
  adds_node_right es xs i n a b c lt at p q =
      rw (below_more xs i n lt at) (adds_rights es (flat_map entries_of (take i xs)) (entries_of n) a b c p q)

  pub adds_node_left : (xs : List Node) (fs : List Entry) (i : ℕ) (n : Node) (a b c : List (ℕ × ℕ)) → i < length xs → n ≡ get_or xs i n →
      Adds relation (flat_map entries_of (take i xs)) fs a b → Adds relation (entries_of n) fs b c →
      Adds relation (flat_map entries_of (take (i + 1) xs)) fs a c
  adds_node_left xs fs i n a b c lt at p q =
      rw (below_more xs i n lt at) (adds_lefts (flat_map entries_of (take i xs)) (entries_of n) fs a b c p q)

-- the shapes of a lawful node's entries lie in its cover
pub entries_in_cover : (n : Node) → IsLawful n → All (λ e. IsIn e.shape (node_cover n)) (entries_of n)
entries_in_cover n h = (lawful_cover (level_of n) n h).contains

pub entry_in_itself : (e : Entry) → All (λ f. IsIn f.shape e.shape) (e ∷ [])
entry_in_itself e = All-cons (λ (f : Entry). IsIn f.shape e.shape) e [] (λ u v h. h) (All-nil (λ (f : Entry). IsIn f.shape e.shape))
