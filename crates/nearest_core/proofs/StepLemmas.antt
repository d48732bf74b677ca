-- The steps of a search, as the code takes them.
use Rattle.std.proofs.Common.{true, eq-eqb, refl, ◌≡◌, ◌↔◌, ℕ, ◌+◌, ◌*◌, ◌<◌, ◌≤◌, ◌⊎◌, inl, inr, Bool, false, IsTrue, nat_eq, List, [], ◌∷◌, ◌++◌, All, Contains, map, length, sym, ap, subst, ◌∙◌, arith, cond}
use Rattle.std.specs.Prelude.{IsPermutation, count_by, sum_by, Option, None, Some}
use Rattle.std.specs.Borrow.{Bor}
use Rattle.std.specs.Cmp.{nat_eq_equiv}
use Rattle.std.proofs.lemmas.Bool.{cases_lt, eqb-true}
use Rattle.std.proofs.lemmas.List.{get_or-map, length-map}
use Rattle.std.proofs.lemmas.List.Elements.{All-nil, All-cons, All-contains, All-head, All-map, All-weaker, All-contains_itself}
use Rattle.std.proofs.lemmas.List.Sums.{sum_by-cons, sum_by-append}
use Rattle.std.proofs.lemmas.List.Sorted.{All-permutation, length_permutation, sum_by-IsPermutation, sum_by_popped}
use Rattle.geom_core.specs.declared.shape.Shape.{Shape}
use Rattle.plane_core.specs.Points.{Point}
use Rattle.distance_core.specs.declared.distance.Distance.{Distance}
use Rattle.distance_core.specs.declared.query.Query.{Query}
use Rattle.distance_core.specs.Queries.{within_of, IsInReach as IsSquareInReach}
use Rattle.distance_core.specs.ShapePoints.{HasPoint}
use Rattle.distance_core.specs.Units.{units_of}
use Rattle.layer_core.specs.Layers.{Feature, Contents, IsLayer}
use Rattle.layer_core.specs.LayerTrees.{IsTreeOf, entries_for, indexed}
use Rattle.filter_core.proofs.NumberLemmas.{held_by_number, listed_by_number}
use Rattle.rtree_core.specs.declared.node.Entry.{Entry}
use Rattle.rtree_core.specs.declared.node.Node.{Node}
use Rattle.rtree_core.specs.Nodes.{entries_of, node_cover}
use Rattle.rtree_core.specs.Trees.{entries_in, IsTree}
use Rattle.nearest_core.specs.declared.candidate.Item.{Item}
use Rattle.nearest_core.specs.declared.candidate.Item.TheVariants.{Subtree, Feature as One}
use Rattle.nearest_core.specs.declared.candidate.Candidate.{Candidate}
use Rattle.nearest_core.specs.declared.neighbour.Neighbour.{Neighbour}
use Rattle.nearest_core.specs.declared.next.Next.{Next}
use Rattle.nearest_core.specs.declared.next.Next.TheVariants.{Boxed, Measured}
use Rattle.nearest_core.specs.Nearest.{AreNearestIn}
use Rattle.nearest_core.specs.Queues.{Lists}
use Rattle.nearest_core.specs.Searches.{BoxedFeature, IsCandidate, Opens, boxed_of, item_row, item_work, row_of, stands_for, work_of}
use Rattle.nearest_core.specs.Squares.{square_of}
use Rattle.nearest_core.specs.Steps.{EndsAt, HoldsAll, IsBoxOf, IsFull, IsMeasuredAs, IsNext, IsVisitable, Measures, Visits, VisitsItem, count_waiting, with_one}
use Rattle.nearest_core.proofs.CountLemmas.{contains_counted, count_map, count_some}
use Rattle.nearest_core.proofs.PigeonLemmas.{sum_same}
use Rattle.nearest_core.proofs.SearchLemmas.{IsUnderway, complete, count_held, ended_boxed, ended_measured, measured_none, measured_one, opened, taken}

pub not_so : {P : Type 0} → IsTrue false ↔ P → ¬ P
not_so both h = let no : IsTrue false = both.1 h in absurd cc

reach_or_not : (within : Option Distance) (square : ℕ) → IsSquareInReach within square ⊎ ¬ (IsSquareInReach within square)
reach_or_not None square = inl tt
reach_or_not (Some d) square = elim (cases_lt (units_of d * units_of d) square) [
  | inl beyond ↦ inr (λ h. absurd (omega (arith, h, beyond)))
  | inr near ↦ inl near
]

module _ {G S : Type 0} (fraction : S → ℕ × ℕ) (positive : (s : S) → 0 < (fraction s).1) (box_of : G → Shape) (has_point : G → Point → Type 0)
    (in_box : (g : G) (p : Point) → 0 < p.w → has_point g p → HasPoint (box_of g) p) (query : Query) (layer : Contents G) (g : G) where
  -- a search begins
  pub begun : (l : Lists S) → l.measured ≡ [] → l.found ≡ [] → HoldsAll box_of layer g l.queue → IsUnderway fraction box_of has_point query layer g l
  begun l no_measured no_found holds =
      subst (λ (ms : List (Neighbour S)). IsUnderway fraction box_of has_point query layer g (record { queue = l.queue; measured = ms; found = l.found })) (sym no_measured)
      (subst (λ (ns : List (Neighbour S)). IsUnderway fraction box_of has_point query layer g (record { queue = l.queue; measured = []; found = ns })) (sym no_found) (record {
        each = holds.each;
        boxes = holds.boxes;
        known = λ k f held. let some = holds.all k f held in inl (omega (arith, some));
        once = λ k. let one = holds.once k in omega (arith, one);
        reached = λ i d within. absurd (omega (arith, within));
        near = λ i d within. absurd (omega (arith, within));
        ordered = λ i j d less within. absurd (omega (arith, within));
        behind = λ i d within. absurd (omega (arith, within));
        beyond = λ i d within. absurd (omega (arith, within));
      }))

  module _ (l : Lists S) (u : IsUnderway fraction box_of has_point query layer g l) where
    -- nothing is left
    pub search_done : l.queue ≡ [] → l.measured ≡ [] → AreNearestIn fraction has_point query layer g l.found
    search_done no_queue no_measured =
        complete fraction positive box_of has_point in_box query layer g l u (λ k f held some reach few.
        let none : count_waiting (box_of g) k l.queue ≡ 0 = ap (count_waiting (box_of g) k) no_queue in
        let also : count_held k l.measured ≡ 0 = ap (count_held k) no_measured in
        omega (arith, some, none, also))

    pub search_ends : (queue : List Candidate) (measured seen : List (Neighbour S)) (x : Next S) → IsNext fraction l.queue l.measured queue measured x
        → seen ≡ l.found → EndsAt fraction query seen x → AreNearestIn fraction has_point query layer g l.found
    search_ends queue measured seen x is same ends =
        by x is (subst (λ (ns : List (Neighbour S)). EndsAt fraction query ns x) same ends)
      where
        by : (x : Next S) → IsNext fraction l.queue l.measured queue measured x → EndsAt fraction query l.found x → AreNearestIn fraction has_point query layer g l.found
        by (Boxed c) is ends = ended_boxed fraction positive box_of has_point in_box query layer g l u c queue measured is ends
        by (Measured m) is ends = ended_measured fraction positive box_of has_point in_box query layer g l u m queue measured is ends

    pub visitable : (shape : Shape) (queue : List Candidate) (measured seen : List (Neighbour S)) (x : Next S) → shape ≡ box_of g
        → IsNext fraction l.queue l.measured queue measured x → seen ≡ l.found → ¬ (EndsAt fraction query seen x) → IsVisitable box_of query layer g shape x
    visitable shape queue measured seen (Measured m) shape_is is same goes = tt
    visitable shape queue measured seen (Boxed c) shape_is is same goes =
        subst (λ (s : Shape). IsVisitable {S = S} box_of query layer g s (Boxed c)) (sym shape_is) (
          All-head (IsCandidate (box_of g)) c queue (All-permutation (IsCandidate (box_of g)) l.queue (c ∷ queue) is.others u.each),
          All-head (λ d. All (IsBoxOf box_of layer g) (stands_for (box_of g) d)) c queue
              (All-permutation (λ d. All (IsBoxOf box_of layer g) (stands_for (box_of g) d)) l.queue (c ∷ queue) is.others u.boxes),
          elim (reach_or_not (within_of query) c.square) [ inl near ↦ near | inr far ↦ absurd (goes (inl far)) ],
        )

    module _ (queue : List Candidate) (measured : List (Neighbour S)) (new : Lists S) where
      abbrev between : Lists S
      between = record { queue = queue; measured = measured; found = l.found }

      as_new : (q : List Candidate) (ms ns : List (Neighbour S)) → new.queue ≡ q → new.measured ≡ ms → new.found ≡ ns
          → IsUnderway fraction box_of has_point query layer g (record { queue = q; measured = ms; found = ns }) → IsUnderway fraction box_of has_point query layer g new
      as_new q ms ns is_q is_ms is_ns under =
          subst (λ (x : List Candidate). IsUnderway fraction box_of has_point query layer g (record { queue = x; measured = new.measured; found = new.found })) (sym is_q)
          (subst (λ (x : List (Neighbour S)). IsUnderway fraction box_of has_point query layer g (record { queue = q; measured = x; found = new.found })) (sym is_ms)
          (subst (λ (x : List (Neighbour S)). IsUnderway fraction box_of has_point query layer g (record { queue = q; measured = ms; found = x })) (sym is_ns) under))

      measures : (c : Candidate) (k : ℕ) → IsPermutation l.queue (c ∷ queue) → measured ≡ l.measured → c.item ≡ One k
          → (o : Option S) (m : Measures fraction has_point query layer g k measured new.measured) → m.square ≡ o
          → IsUnderway fraction box_of has_point query layer g (record { queue = queue; measured = new.measured; found = l.found })
      measures c k others same is None m o =
          measured_none fraction positive box_of has_point in_box query layer g l u c queue others k is new.measured
          (subst (λ (x : Option S). IsMeasuredAs fraction has_point query layer g k x) o m.is)
          (subst (λ (ms : List (Neighbour S)). IsPermutation ms new.measured) same
          (subst (λ (x : Option S). IsPermutation (with_one k x measured) new.measured) o m.grown))
      measures c k others same is (Some s) m o =
          measured_one fraction positive box_of has_point in_box query layer g l u c queue others k is new.measured s
          (subst (λ (x : Option S). IsMeasuredAs fraction has_point query layer g k x) o m.is)
          (subst (λ (ms : List (Neighbour S)). IsPermutation ((record { square = s; number = k }) ∷ ms) new.measured) same
          (subst (λ (x : Option S). IsPermutation (with_one k x measured) new.measured) o m.grown))

      visits_item : (shape : Shape) (c : Candidate) (i : Item) → shape ≡ box_of g → IsPermutation l.queue (c ∷ queue) → measured ≡ l.measured → c.item ≡ i
          → VisitsItem fraction has_point query layer g shape i between new → IsUnderway fraction box_of has_point query layer g new
      visits_item shape c (Subtree n) shape_is others same is (opens, no_more_measured, none_found) =
          as_new new.queue l.measured l.found refl (no_more_measured ∙ same) none_found
          (opened fraction positive box_of has_point in_box query layer g l u c queue others n new.queue is
          (subst (λ (s : Shape). Opens s n.now queue new.queue) shape_is opens))
      visits_item shape c (One k) shape_is others same is (queue_is, m, none_found) =
          as_new queue new.measured l.found queue_is refl none_found (measures c k others same is m.square m refl)

      pub search_visits : (shape : Shape) (x : Next S) (seen : List (Neighbour S)) → shape ≡ box_of g → IsNext fraction l.queue l.measured queue measured x
          → seen ≡ l.found → ¬ (EndsAt fraction query seen x) → Visits fraction has_point query layer g shape x between new
          → IsUnderway fraction box_of has_point query layer g new
      search_visits shape (Boxed c) seen shape_is is same goes visits = visits_item shape c c.item shape_is is.others is.same refl visits
      search_visits shape (Measured m) seen shape_is is same goes (queue_is, measured_is, found_is) =
          as_new l.queue measured (l.found ++ m ∷ []) (queue_is ∙ is.same) measured_is found_is
          (taken fraction positive box_of has_point in_box query layer g l u m queue measured is
          (subst (λ (ns : List (Neighbour S)). ¬ (IsFull fraction query ns (fraction m.square))) same goes))

  -- each step leaves less work
  module _ (shape : Shape) (old between new : Lists S) where
    abbrev work_in : Lists S → ℕ
    work_in l = 2 * sum_by work_of l.queue + length l.measured

    one_longer : (k : ℕ) (o : Option S) (ms ns : List (Neighbour S)) → IsPermutation (with_one k o ms) ns → length ns ≤ 1 + length ms
    one_longer k None ms ns perm = let same = length_permutation ms ns perm in omega (arith, same)
    one_longer k (Some s) ms ns perm = let same = length_permutation (with_one k (Some s) ms) ns perm in omega (arith, same)

    less_item : (c : Candidate) (i : Item) → IsPermutation old.queue (c ∷ between.queue) → between.measured ≡ old.measured → c.item ≡ i
        → VisitsItem fraction has_point query layer g shape i between new → work_in new < work_in old
    less_item c (Subtree n) others same is (opens, no_more_measured, none_found) =
        let a = opens.adds in
        let here = ap item_work is in
        let long = ap length (no_more_measured ∙ same) in
        omega (
          arith,
          here,
          long,
          opens.less,
          a.work_is,
          sum_by_popped work_of c old.queue between.queue others,
          sum_by-IsPermutation work_of (a.more ++ between.queue) new.queue a.added,
          sum_by-append work_of a.more between.queue,
        )
    less_item c (One k) others same is (queue_is, m, none_found) =
        let here = ap item_work is in
        let sums = ap (sum_by work_of) queue_is in
        let long = one_longer k m.square between.measured new.measured m.grown in
        let before = ap length same in
        omega (arith, here, sums, long, before, sum_by_popped work_of c old.queue between.queue others)

    pub less_work : (x : Next S) → IsNext fraction old.queue old.measured between.queue between.measured x
        → Visits fraction has_point query layer g shape x between new → 2 * sum_by work_of new.queue + length new.measured < 2 * sum_by work_of old.queue + length old.measured
    less_work (Boxed c) is visits = less_item c c.item is.others is.same refl visits
    less_work (Measured m) is (queue_is, measured_is, found_is) =
        let sums = ap (sum_by work_of) (queue_is ∙ is.same) in
        let same = length_permutation old.measured (m ∷ between.measured) is.others in
        let long = ap length measured_is in
        omega (arith, sums, same, long)

-- the test of a feature by its box being this one
abbrev same_as : BoxedFeature → BoxedFeature → Bool
same_as b c = cond (nat_eq b.square c.square) (nat_eq b.number c.number) false

same_fields : (b c : BoxedFeature) → c.square ≡ b.square → c.number ≡ b.number → c ≡ b
same_fields b c p q = λ i. record { square = p i; number = q i }

is_same : (b c : BoxedFeature) → same_as b c ≡ true → b ≡ c
is_same b c e = by (nat_eq b.square c.square) refl e
  where
    by : (t : Bool) → nat_eq b.square c.square ≡ t → cond t (nat_eq b.number c.number) false ≡ true → b ≡ c
    by true t e = same_fields c b (eqb-true b.square c.square t) (eqb-true b.number c.number e)
    by false t e = absurd cc

same_itself : (b : BoxedFeature) → same_as b b ≡ true
same_itself b = rw (eq-eqb b.square b.square refl, eq-eqb b.number b.number refl) refl

mapped_held : {X Y : Type 0} (f : X → Y) (xs : List X) (x : X) → Contains xs x → Contains (map f xs) (f x)
mapped_held f xs x (i, within, e) = (i, omega (arith, within, length-map xs f), get_or-map f xs i x (f x) within ∙ ap f e)

-- the root alone waits
module _ {G : Type 0} (box_of : G → Shape) (layer : Contents G) (is_layer : IsLayer layer) (g : G) (root : Bor Node) (tree : Option Node) (of_layer : IsTreeOf box_of layer tree)
    (shape : Shape) (shape_is : shape ≡ box_of g) (square : ℕ) (old new : List Candidate) (none : old ≡ [])
    (perm : IsPermutation ((record { square = square; item = Subtree root }) ∷ old) new) (is : Some root.now ≡ tree) (apart : square ≡ square_of shape (node_cover root.now)) where
  abbrev first_of_root : Candidate
  first_of_root = record { square = square; item = Subtree root }

  abbrev row : List BoxedFeature
  row = row_of (box_of g) (entries_for box_of layer)

  abbrev root_row : List BoxedFeature
  root_row = row_of (box_of g) (entries_of root.now)

  -- the features of the root are those of the layer
  root_counts : (p : BoxedFeature → Bool) → count_by p root_row ≡ count_by p row
  root_counts p =
      ap (λ (t : Option Node). count_by p (row_of (box_of g) (entries_in t))) is
      ∙ count_map p (boxed_of (box_of g)) (entries_in tree) ∙ sym (of_layer.same (λ e. p (boxed_of (box_of g) e)))
      ∙ sym (count_map p (boxed_of (box_of g)) (entries_for box_of layer))

  boxed_feature : (f : Feature G) → Contains layer.features f → IsBoxOf box_of layer g (boxed_of (box_of g) (indexed box_of f))
  boxed_feature f held = record { feature = f; held = held_by_number layer.features f is_layer.rising held; square = refl }

  boxed_row : All (IsBoxOf box_of layer g) row
  boxed_row =
      All-map (IsBoxOf box_of layer g) (boxed_of (box_of g)) (entries_for box_of layer)
      (All-map (λ e. IsBoxOf box_of layer g (boxed_of (box_of g) e)) (indexed box_of) layer.features
      (All-weaker (Contains layer.features) (λ f. IsBoxOf box_of layer g (boxed_of (box_of g) (indexed box_of f))) boxed_feature layer.features
      (All-contains_itself layer.features)))

  boxed_root : All (IsBoxOf box_of layer g) root_row
  boxed_root = All-weaker (Contains root_row) (IsBoxOf box_of layer g)
      (λ b held. All-contains (IsBoxOf box_of layer g) row b boxed_row
      (contains_counted (same_as b) b (is_same b) row
      (let some = count_some (same_as b) root_row b held (same_itself b) in omega (arith, some, root_counts (same_as b)))))
      root_row (All-contains_itself root_row)

  in_row : (f : Feature G) → Contains layer.features f → Contains row (boxed_of (box_of g) (indexed box_of f))
  in_row f held = mapped_held (boxed_of (box_of g)) (entries_for box_of layer) (indexed box_of f) (mapped_held (indexed box_of) layer.features f held)

  waiting_counts : (k : ℕ) → count_waiting (box_of g) k new ≡ count_by (λ (b : BoxedFeature). nat_eq k b.number) root_row
  waiting_counts k =
      let f : Candidate → ℕ = λ d. count_by (λ (b : BoxedFeature). nat_eq k b.number) (stands_for (box_of g) d) in
      let empty : sum_by f old ≡ 0 = ap (sum_by f) none in
      let one : f first_of_root ≡ count_by (λ (b : BoxedFeature). nat_eq k b.number) root_row = refl in
      omega (arith, one, empty, sum_by-IsPermutation f (first_of_root ∷ old) new perm, sum_by-cons f first_of_root old)

  only_root : (P : Candidate → Type 0) → P first_of_root → All P new
  only_root P is = All-permutation P (first_of_root ∷ old) new perm (All-cons P first_of_root old is (subst (All P) (sym none) (All-nil P)))

  pub root_holds : HoldsAll box_of layer g new
  root_holds =
      let tree_is : IsTree (Some root.now) = subst IsTree (sym is) of_layer.lawful in
      record {
        each = only_root (IsCandidate (box_of g)) (tree_is.lawful.lawful, subst (λ (s : Shape). square ≡ square_of s (node_cover root.now)) shape_is apart);
        boxes = only_root (λ c. All (IsBoxOf box_of layer g) (stands_for (box_of g) c)) boxed_root;
        all = λ k f held.
            let listed = listed_by_number layer.features k f held in
            let p : BoxedFeature → Bool = λ b. nat_eq k b.number in
            let some = count_some p row (boxed_of (box_of g) (indexed box_of f)) (in_row f listed.0) (eq-eqb k f.number (sym listed.1)) in
            omega (arith, some, root_counts p, waiting_counts k);
        once = λ k.
            let p : BoxedFeature → Bool = λ b. nat_eq k b.number in
            let turned = sum_same (λ (e : Entry). cond {A = ℕ} (nat_eq k e.number) 1 0) (λ (e : Entry). cond {A = ℕ} (nat_eq e.number k) 1 0)
            (λ e. ap (λ (t : Bool). cond {A = ℕ} t 1 0) (nat_eq_equiv.symm k e.number)) (entries_in tree) in
            let there = ap (λ (t : Option Node). count_by p (row_of (box_of g) (entries_in t))) is in
            let few = of_layer.lawful.distinct k in
            omega (arith, turned, there, few, count_map p (boxed_of (box_of g)) (entries_in tree), waiting_counts k);
      }

  -- the same of a layer that is this one
  pub root_holds_as : (l : Contents G) → layer ≡ l → HoldsAll box_of l g new
  root_holds_as l same = subst (λ (x : Contents G). HoldsAll box_of x g new) same root_holds

-- a layer without a tree has no features
pub none_nearest : {G S : Type 0} (fraction : S → ℕ × ℕ) (box_of : G → Shape) (has_point : G → Point → Type 0) (query : Query) (layer : Contents G) (g : G)
    (tree : Option Node) → None ≡ tree → IsTreeOf box_of layer tree → (found : List (Neighbour S)) → found ≡ [] → AreNearestIn fraction has_point query layer g found
none_nearest {G} {S} fraction box_of has_point query layer g tree is of_layer found none =
    subst (AreNearestIn fraction has_point query layer g) (sym none) (record {
      in_order = λ i j d less within. absurd (omega (arith, within));
      measured = λ i d within. absurd (omega (arith, within));
      exact = λ k. (
        λ held. absurd (omega (arith, held.1)),
        λ near. absurd (empty near.feature (listed_by_number layer.features k near.feature near.held).0),
      );
    })
  where
    empty : (f : Feature G) → Contains layer.features f → ⊥
    empty f held =
        let some = count_some (λ (e : Entry). nat_eq f.number e.number) (entries_for box_of layer) (indexed box_of f) (mapped_held (indexed box_of) layer.features f held)
        (eq-eqb f.number f.number refl) in
        let same = of_layer.same (λ (e : Entry). nat_eq f.number e.number) in
        let bare = ap (λ (t : Option Node). count_by (λ (e : Entry). nat_eq f.number e.number) (entries_in t)) is in
        omega (arith, some, same, bare)

-- the box of a feature that is to be measured
pub visited_box : {G S : Type 0} (box_of : G → Shape) (query : Query) (layer : Contents G) (g : G) (shape : Shape) (x : Next S) (c : Candidate) (k : ℕ)
    → x ≡ Boxed c → c.item ≡ One k → IsVisitable box_of query layer g shape x → IsBoxOf box_of layer g (record { square = c.square; number = k })
visited_box {S = S} box_of query layer g shape x c k is item visitable =
    let v = subst (λ (y : Next S). IsVisitable box_of query layer g shape y) is visitable in
    All-head (IsBoxOf box_of layer g) (record { square = c.square; number = k }) []
    (subst (λ (i : Item). All (IsBoxOf box_of layer g) (item_row shape c.square i)) item v.1)

pub none_nearest_as : {G S : Type 0} (fraction : S → ℕ × ℕ) (box_of : G → Shape) (has_point : G → Point → Type 0) (query : Query) (layer l : Contents G) (g : G)
    (tree : Option Node) → None ≡ tree → IsTreeOf box_of layer tree → (found : List (Neighbour S)) → found ≡ [] → layer ≡ l
    → AreNearestIn fraction has_point query l g found
none_nearest_as {G} fraction box_of has_point query layer l g tree is of_layer found none same =
    subst (λ (x : Contents G). AreNearestIn fraction has_point query x g found) same (none_nearest fraction box_of has_point query layer g tree is of_layer found none)
