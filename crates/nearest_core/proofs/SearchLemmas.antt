-- A search of a layer: what waits by its box, what is measured and what is found, step by step.
use Rattle.std.proofs.Common.{◌≡◌, ℕ, ◌+◌, ◌-◌, ◌*◌, ◌<◌, ◌≤◌, ◌⊎◌, inl, inr, Bool, true, false, cond, nat_eq, Option, Some, None, List, [], ◌∷◌, ◌++◌, All, AllPairs, Contains, length, get_or, refl, sym, ap, subst, ◌∙◌, arith, eq-eqb}
use Rattle.std.specs.Prelude.{IsPermutation, count_by, sum_by}
use Rattle.std.specs.Borrow.{Bor}
use Rattle.std.proofs.Math.Nat.{mul-le-mul_right}
use Rattle.std.proofs.lemmas.Bool.{cases_lt, eqb-true}
use Rattle.std.proofs.lemmas.List.{get_or_default, length-map, map-append}
use Rattle.std.proofs.lemmas.List.Elements.{All-nil, All-cons, All-head, All-tail, All-append, All-push, All-weaker, All-map, All-contains}
use Rattle.std.proofs.lemmas.List.Quantifiers.{all_pairs_push}
use Rattle.std.proofs.lemmas.List.Sums.{sum_by-cons, sum_by-append, sum_by_push}
use Rattle.std.proofs.lemmas.List.Sorted.{All-permutation, IsPermutation-map, IsPermutation-sym, sum_by-IsPermutation, sum_by_popped}
use Rattle.geom_core.specs.declared.shape.Shape.{Shape}
use Rattle.geom_core.specs.Cells.{IsIn}
use Rattle.plane_core.specs.Points.{Point}
use Rattle.distance_core.specs.ShapePoints.{HasPoint}
use Rattle.distance_core.specs.declared.query.Query.{Query}
use Rattle.distance_core.specs.Queries.{most_of, within_of, IsInReach as IsSquareInReach}
use Rattle.layer_core.specs.Layers.{Feature, Contents, with_number}
use Rattle.rtree_core.specs.declared.node.Node.{Node}
use Rattle.rtree_core.specs.Nodes.{entries_of, level_of}
use Rattle.rtree_core.proofs.WindowLemmas.{lawful_cover, all_parted}
use Rattle.planar_core.specs.Squares.{IsLess, IsNoMore}
use Rattle.planar_core.proofs.FractionLemmas.{equal_no_more, no_more_less, less_no_more}
use Rattle.nearest_core.specs.declared.candidate.Item.{Item}
use Rattle.nearest_core.specs.declared.candidate.Item.TheVariants.{Subtree, Feature as One}
use Rattle.nearest_core.specs.declared.candidate.Candidate.{Candidate}
use Rattle.nearest_core.specs.declared.neighbour.Neighbour.{Neighbour}
use Rattle.nearest_core.specs.Candidates.{IsNoLater as IsNoLaterCandidate}
use Rattle.nearest_core.specs.Nearest.{AreDistinct, AreFewNearer, AreNearestIn, IsInReach, IsNear, IsNearerNumber, IsNeighbour, numbers_of}
use Rattle.nearest_core.specs.Orders.{IsNoLater, Precedes}
use Rattle.nearest_core.specs.Queues.{Lists}
use Rattle.nearest_core.specs.Searches.{BoxedFeature, IsCandidate, IsItemOf, Opens, boxed_of, item_row, row_of, stands_for}
use Rattle.nearest_core.specs.Squares.{square_of}
use Rattle.nearest_core.specs.Steps.{IsBoxOf, IsFirstCandidate, IsFirstMeasured, IsFull, IsMeasuredAs, IsReached, count_waiting}
use Rattle.nearest_core.proofs.CountLemmas.{contains_counted, count_flat, count_map, count_two}
use Rattle.nearest_core.proofs.NearLemmas.{IsFrom, as_no_more, from_below, from_box, from_least, from_weaker, itself, less_or_no_more, nearer_by, nearer_chain, not_nearer, out_of_reach, reach_nearer}
use Rattle.nearest_core.proofs.PigeonLemmas.{no_more}
use Rattle.nearest_core.proofs.SquareLemmas.{closer}

-- how many neighbours have a number
abbrev pub count_held : {S : Type 0} → ℕ → List (Neighbour S) → ℕ
count_held k ns = count_by (nat_eq k) (numbers_of ns)

-- a neighbour in reach, and few features of the layer are strictly nearer
pub record IsFound {G S : Type 0} (fraction : S → ℕ × ℕ) (has_point : G → Point → Type 0) (query : Query) (layer : Contents G) (g : G) (n : Neighbour S) : Type 0 where
  pub is : IsReached fraction has_point query layer g n
  pub few : AreFewNearer has_point query layer g is.feature.shape

-- each feature that candidates stand for has P
abbrev pub AllWaiting : Shape → (BoxedFeature → Type 0) → List Candidate → Type 0
AllWaiting shape P cs = All (λ c. All P (stands_for shape c)) cs

-- each feature of the layer waits, is measured, is found, or is out of reach; none that waits or is measured is before one
-- that is found; and each that is found is one of the nearest
pub record IsUnderway {G S : Type 0} (fraction : S → ℕ × ℕ) (box_of : G → Shape) (has_point : G → Point → Type 0) (query : Query) (layer : Contents G) (g : G)
    (l : Lists S) : Type 0 where
  pub each : All (IsCandidate (box_of g)) l.queue
  pub boxes : AllWaiting (box_of g) (IsBoxOf box_of layer g) l.queue
  pub known : (k : ℕ) (f : Feature G) → with_number k layer ≡ Some f
      → (0 < count_held k l.found + count_held k l.measured + count_waiting (box_of g) k l.queue) ⊎ ¬ (IsInReach has_point (within_of query) g f.shape)
  pub once : (k : ℕ) → count_held k l.found + count_held k l.measured + count_waiting (box_of g) k l.queue ≤ 1
  pub reached : All (IsReached fraction has_point query layer g) l.measured
  pub near : All (IsFound fraction has_point query layer g) l.found
  pub ordered : AllPairs (IsNoLater fraction) l.found
  pub behind : All (λ m. All (IsNoLater fraction m) l.measured) l.found
  pub beyond : All (λ m. AllWaiting (box_of g) (λ b. IsLess (fraction m.square) (b.square, 1)) l.queue) l.found

one_feature : {G : Type 0} (layer : Contents G) (k : ℕ) (f h : Feature G) → with_number k layer ≡ Some f → with_number k layer ≡ Some h → f ≡ h
one_feature {G} layer k f h is_f is_h =
    let same : Some f ≡ Some h = subst (λ (t : Option (Feature G)). t ≡ Some h) is_f is_h in
    cc

pub count_cons : {X : Type 0} (p : X → Bool) (x : X) (xs : List X) → count_by p (x ∷ xs) ≡ cond {A = ℕ} (p x) 1 0 + count_by p xs
count_cons p x xs = sum_by-cons (λ y. cond {A = ℕ} (p y) 1 0) x xs

-- an item that is counted
pub counted_item : {X : Type 0} (num : X → ℕ) (P : X → Type 0) (k : ℕ) (xs : List X) → All P xs → 0 < count_by (λ x. nat_eq k (num x)) xs
    → (x : X) × P x × (num x ≡ k)
counted_item num P k [] all some = absurd (omega (arith, some))
counted_item {X} num P k (x ∷ xs) all some = by (nat_eq k (num x)) refl (λ later. counted_item num P k xs (All-tail P x xs all) later)
  where
    by : (t : Bool) → nat_eq k (num x) ≡ t → (0 < count_by (λ y. nat_eq k (num y)) xs → (y : X) × P y × (num y ≡ k)) → (y : X) × P y × (num y ≡ k)
    by true t later = (x, All-head P x xs all, sym (eqb-true k (num x) t))
    by false t later =
        let none : cond {A = ℕ} (nat_eq k (num x)) 1 0 ≡ 0 = rw t refl in
        later (omega (arith, some, none, count_cons (λ y. nat_eq k (num y)) x xs))

pub counted_waiting : (shape : Shape) (P : BoxedFeature → Type 0) (k : ℕ) (cs : List Candidate) → AllWaiting shape P cs → 0 < count_waiting shape k cs
    → (b : BoxedFeature) × P b × (b.number ≡ k)
counted_waiting shape P k [] all some = absurd (omega (arith, some))
counted_waiting shape P k (c ∷ cs) all some =
    let f : Candidate → ℕ = λ d. count_by (λ (b : BoxedFeature). nat_eq k b.number) (stands_for shape d) in
    elim (cases_lt 0 (f c)) [
      | inl here ↦ counted_item (λ (b : BoxedFeature). b.number) P k (stands_for shape c) (All-head (λ d. All P (stands_for shape d)) c cs all) here
      | inr none ↦ counted_waiting shape P k cs (All-tail (λ d. All P (stands_for shape d)) c cs all) (omega (arith, some, none, sum_by-cons f c cs))
    ]

module _ {G S : Type 0} (fraction : S → ℕ × ℕ) (positive : (s : S) → 0 < (fraction s).1) (box_of : G → Shape) (has_point : G → Point → Type 0)
    (in_box : (g : G) (p : Point) → 0 < p.w → has_point g p → HasPoint (box_of g) p) (query : Query) (layer : Contents G) (g : G) where
  no_more_of : (m n : Neighbour S) → IsNoLater fraction m n → IsNoMore (fraction m.square) (fraction n.square)
  no_more_of m n (inl less) = as_no_more (fraction m.square) (fraction n.square) less
  no_more_of m n (inr same) = equal_no_more (fraction m.square) (fraction n.square) same.0

  -- what waits is no nearer than its candidate
  no_nearer_item : (square : ℕ) (i : Item) → IsItemOf (box_of g) square i → All (λ b. square ≤ b.square) (item_row (box_of g) square i)
  no_nearer_item square (One k) is = All-cons (λ b. square ≤ b.square) _ [] (omega arith) (All-nil (λ b. square ≤ b.square))
  no_nearer_item square (Subtree n) is =
      All-map (λ b. square ≤ b.square) (boxed_of (box_of g)) (entries_of n.now)
      (All-weaker (λ e. IsIn e.shape n.now.cover) (λ e. square ≤ square_of (box_of g) e.shape)
      (λ e inside. let near = closer (box_of g) e.shape n.now.cover inside in omega (arith, near, is.1))
      (entries_of n.now) (lawful_cover (level_of n.now) n.now is.0).contains)

  -- a fact of the squares of candidates, for those of the features that they stand for
  less_later : (f : ℕ × ℕ) (m n : ℕ) → m ≤ n → IsLess f (m, 1) → IsLess f (n, 1)
  less_later f m n le less = plain (f.0 * 1) m n f.1 le less
    where
      plain : (a m n d : ℕ) → m ≤ n → a < m * d → a < n * d
      plain a m n d le less = let more = mul-le-mul_right {m = m} {n = n} d le in omega (arith, less, more)

  no_more_later : (f : ℕ × ℕ) (m n : ℕ) → m ≤ n → IsNoMore f (m, 1) → IsNoMore f (n, 1)
  no_more_later f m n le most = plain (f.0 * 1) m n f.1 le most
    where
      plain : (a m n d : ℕ) → m ≤ n → a ≤ m * d → a ≤ n * d
      plain a m n d le most = let more = mul-le-mul_right {m = m} {n = n} d le in omega (arith, most, more)

  all_waiting : (P : ℕ → Type 0) → ((m n : ℕ) → m ≤ n → P m → P n) → (cs : List Candidate) → All (IsCandidate (box_of g)) cs → All (λ c. P c.square) cs
      → AllWaiting (box_of g) (λ b. P b.square) cs
  all_waiting P later cs each all i d within =
      let c = get_or cs i d in
      All-weaker (λ b. c.square ≤ b.square) (λ b. P b.square) (λ b le. later c.square b.square le (all i d within)) (stands_for (box_of g) c)
      (no_nearer_item c.square c.item (each i d within))

  module _ (l : Lists S) (u : IsUnderway fraction box_of has_point query layer g l) where
    -- what waits or is measured is no nearer than this
    left_from : (h : ℕ × ℕ) → All (λ n. IsNoMore h (fraction n.square)) l.measured → All (λ c. IsNoMore h (c.square, 1)) l.queue
        → (k : ℕ) (f : Feature G) → with_number k layer ≡ Some f → 0 < count_held k l.measured + count_waiting (box_of g) k l.queue
        → IsFrom h (has_point g) (has_point f.shape)
    left_from h measured waits k f held some = elim (cases_lt 0 (count_held k l.measured)) [
      | inl here ↦
          let found = counted_item (λ (n : Neighbour S). n.number) (λ n. IsReached fraction has_point query layer g n × IsNoMore h (fraction n.square)) k l.measured
          (λ i d within. (u.reached i d within, measured i d within)) (omega (arith, here, count_map (nat_eq k) (λ (n : Neighbour S). n.number) l.measured)) in
          let n = found.0 in
          let r = found.1.0 in
          let same = one_feature layer k r.feature f (subst (λ (j : ℕ). with_number j layer ≡ Some r.feature) found.2 r.held) held in
          subst (λ (x : Feature G). IsFrom h (has_point g) (has_point x.shape)) same
          (from_weaker (has_point g) (has_point r.feature.shape) h (fraction n.square) (positive n.square) found.1.1
          (from_least (has_point g) (has_point r.feature.shape) (fraction n.square) r.square))
      | inr none ↦
          let later = all_waiting (λ n. IsNoMore h (n, 1)) (no_more_later h) l.queue u.each waits in
          let found = counted_waiting (box_of g) (λ b. IsBoxOf box_of layer g b × IsNoMore h (b.square, 1)) k l.queue
          (λ i d within j e inside. (u.boxes i d within j e inside, later i d within j e inside)) (omega (arith, some, none)) in
          let b = found.0 in
          let r = found.1.0 in
          let same = one_feature layer k r.feature f (subst (λ (j : ℕ). with_number j layer ≡ Some r.feature) found.2 r.held) held in
          subst (λ (x : Feature G). IsFrom h (has_point g) (has_point x.shape)) same
          (from_weaker (has_point g) (has_point r.feature.shape) h (b.square, 1) (omega arith) found.1.1
          (from_box box_of has_point in_box g r.feature.shape b.square r.square))
    ]

    found_long : length (numbers_of l.found) ≡ length l.found
    found_long = length-map l.found (λ n. n.number)

    found_distinct : AreDistinct (numbers_of l.found)
    found_distinct k = let one = u.once k in omega (arith, one)

    -- where enough are found that are strictly nearer than what is left, none that is left is asked for
    full_left : (h : ℕ × ℕ) → 0 < h.1 → IsFull fraction query l.found h → (f : Feature G) → IsFrom h (has_point g) (has_point f.shape)
        → AreFewNearer has_point query layer g f.shape → ⊥
    full_left h wide full f from few =
        let short = few (numbers_of l.found) found_distinct (All-map (IsNearerNumber has_point layer g f.shape) (λ n. n.number) l.found all) in
        omega (arith, short, found_long, full.enough)
      where
        up : (i : ℕ) (d : Neighbour S) → i < length l.found
            → IsNoMore (fraction (get_or l.found i d).square) (fraction (get_or l.found (length l.found - 1) d).square)
        up i d within = elim (cases_lt i (length l.found - 1)) [
          | inl below ↦ no_more_of (get_or l.found i d) (get_or l.found (length l.found - 1) d)
              (u.ordered i (length l.found - 1) d below (omega (arith, within)))
          | inr above ↦
              let e : i ≡ length l.found - 1 = omega (arith, above, within) in
              subst (λ (j : ℕ). IsNoMore (fraction (get_or l.found i d).square) (fraction (get_or l.found j d).square)) e
              (itself (fraction (get_or l.found i d).square))
        ]

        all : All (λ n. IsNearerNumber has_point layer g f.shape n.number) l.found
        all i d within =
            let n = get_or l.found i d in
            let r = (u.near i d within).is in
            record {
              feature = r.feature;
              held = r.held;
              nearer = nearer_by has_point g (fraction n.square) h r.feature.shape f.shape wide r.square
                  (no_more_less (fraction n.square) (fraction (get_or l.found (length l.found - 1) d).square) h (positive n.square) (up i d within) (full.nearer d)) from;
            }

    -- the nearest are found where none that is left is one of them
    pub complete : ((k : ℕ) (f : Feature G) → with_number k layer ≡ Some f → 0 < count_held k l.measured + count_waiting (box_of g) k l.queue
        → IsInReach has_point (within_of query) g f.shape → AreFewNearer has_point query layer g f.shape → ⊥)
        → AreNearestIn fraction has_point query layer g l.found
    complete none = record {
      in_order = λ i j d less within. strictly i j d less within (u.ordered i j d less within);
      measured = All-weaker (IsFound fraction has_point query layer g) (IsNeighbour fraction has_point layer g)
          (λ n found. record { feature = found.is.feature; held = found.is.held; square = found.is.square }) l.found u.near;
      exact = λ k. (
        λ held. All-contains (IsNear has_point query layer g) (numbers_of l.found) k
            (All-map (IsNear has_point query layer g) (λ n. n.number) l.found
            (All-weaker (IsFound fraction has_point query layer g) (λ n. IsNear has_point query layer g n.number)
            (λ n found. record { feature = found.is.feature; held = found.is.held; in_reach = found.is.in_reach; few_nearer = found.few }) l.found u.near)) held,
        λ near. elim (u.known k near.feature near.held) [
          | inr out ↦ absurd (out near.in_reach)
          | inl some ↦ elim (cases_lt 0 (count_held k l.found)) [
            | inl here ↦ contains_counted (nat_eq k) k (λ y e. eqb-true k y e) (numbers_of l.found) here
            | inr missing ↦ absurd (none k near.feature near.held (omega (arith, some, missing)) near.in_reach near.few_nearer)
          ]
        ],
      );
    }
      where
        strictly : (i j : ℕ) (d : Neighbour S) → i < j → j < length l.found → IsNoLater fraction (get_or l.found i d) (get_or l.found j d)
            → Precedes fraction (get_or l.found i d) (get_or l.found j d)
        strictly i j d less within (inl nearer) = inl nearer
        strictly i j d less within (inr same) = elim (cases_lt (get_or l.found i d).number (get_or l.found j d).number) [
          | inl before ↦ inr (same.0, before)
          | inr behind ↦
              let k = (get_or l.found j d).number in
              let e : k ≡ (get_or l.found i d).number = omega (arith, same.1, behind) in
              let two = count_two (λ (m : Neighbour S). nat_eq k m.number) l.found i j d less within (eq-eqb k (get_or l.found i d).number e) (eq-eqb k k refl) in
              let one = u.once k in
              let mapped = count_map (nat_eq k) (λ (m : Neighbour S). m.number) l.found in
              absurd (omega (arith, two, one, mapped))
        ]

    -- the search ends at a candidate
    pub ended_boxed : (c : Candidate) (rest : List Candidate) (left : List (Neighbour S)) → IsFirstCandidate fraction l.queue l.measured rest left c
        → (¬ (IsSquareInReach (within_of query) c.square)) ⊎ IsFull fraction query l.found (c.square, 1) → AreNearestIn fraction has_point query layer g l.found
    ended_boxed c rest left is ends =
        complete (λ k f held some reach few. by f (left_from (c.square, 1) is.later first k f held some) ends reach few)
      where
        square_later : (d : Candidate) → IsNoLaterCandidate c d → c.square ≤ d.square
        square_later d h = elim h [ inl less ↦ omega (arith, less) | inr same ↦ omega (arith, same.0) ]

        as_fractions : (m n : ℕ) → m ≤ n → IsNoMore (m, 1) (n, 1)
        as_fractions m n le = omega (arith, le)

        first : All (λ d. IsNoMore (c.square, 1) (d.square, 1)) l.queue
        first = All-permutation (λ d. IsNoMore (c.square, 1) (d.square, 1)) (c ∷ rest) l.queue (IsPermutation-sym l.queue (c ∷ rest) is.others)
            (All-cons (λ d. IsNoMore (c.square, 1) (d.square, 1)) c rest (itself (c.square, 1))
            (All-weaker (IsNoLaterCandidate c) (λ d. IsNoMore (c.square, 1) (d.square, 1)) (λ d h. as_fractions c.square d.square (square_later d h)) rest is.first))

        by : (f : Feature G) → IsFrom (c.square, 1) (has_point g) (has_point f.shape)
            → (¬ (IsSquareInReach (within_of query) c.square)) ⊎ IsFull fraction query l.found (c.square, 1)
            → IsInReach has_point (within_of query) g f.shape → AreFewNearer has_point query layer g f.shape → ⊥
        by f from (inl far) reach few = out_of_reach has_point g (within_of query) f.shape c.square from far reach
        by f from (inr full) reach few = full_left (c.square, 1) (omega arith) full f from few

    module _ (m : Neighbour S) (rest : List Candidate) (left : List (Neighbour S)) (is : IsFirstMeasured fraction l.queue l.measured rest left m) where
      split : (P : Neighbour S → Type 0) → All P l.measured → P m × All P left
      split P all =
          let both = All-permutation P l.measured (m ∷ left) is.others all in
          (All-head P m left both, All-tail P m left both)

      left_behind : All (λ n. IsNoMore (fraction m.square) (fraction n.square)) l.measured
      left_behind = All-permutation (λ n. IsNoMore (fraction m.square) (fraction n.square)) (m ∷ left) l.measured (IsPermutation-sym l.measured (m ∷ left) is.others)
          (All-cons (λ n. IsNoMore (fraction m.square) (fraction n.square)) m left (itself (fraction m.square))
          (All-weaker (IsNoLater fraction m) (λ n. IsNoMore (fraction m.square) (fraction n.square)) (λ n h. no_more_of m n h) left is.first))

      left_beyond : All (λ c. IsNoMore (fraction m.square) (c.square, 1)) l.queue
      left_beyond = All-weaker (λ c. IsLess (fraction m.square) (c.square, 1)) (λ c. IsNoMore (fraction m.square) (c.square, 1))
          (λ c h. as_no_more (fraction m.square) (c.square, 1) h) l.queue is.nearer

      left_from_next : (k : ℕ) (f : Feature G) → with_number k layer ≡ Some f → 0 < count_held k l.measured + count_waiting (box_of g) k l.queue
          → IsFrom (fraction m.square) (has_point g) (has_point f.shape)
      left_from_next = left_from (fraction m.square) left_behind left_beyond

      -- the search ends at a measured feature
      pub ended_measured : IsFull fraction query l.found (fraction m.square) → AreNearestIn fraction has_point query layer g l.found
      ended_measured full = complete (λ k f held some reach few. full_left (fraction m.square) (positive m.square) full f (left_from_next k f held some) few)

      -- or it is one of the nearest
      module _ (goes : ¬ (IsFull fraction query l.found (fraction m.square))) where
        next : IsReached fraction has_point query layer g m
        next = (split (IsReached fraction has_point query layer g) u.reached).0

        -- what is strictly nearer is found
        nearer_found : (k : ℕ) → IsNearerNumber has_point layer g next.feature.shape k → Contains (numbers_of l.found) k
        nearer_found k n = elim (u.known k n.feature n.held) [
          | inr out ↦ absurd (out (reach_nearer has_point g (within_of query) n.feature.shape next.feature.shape n.nearer next.in_reach))
          | inl some ↦ elim (cases_lt 0 (count_held k l.found)) [
            | inl here ↦ contains_counted (nat_eq k) k (λ y e. eqb-true k y e) (numbers_of l.found) here
            | inr missing ↦ absurd (not_nearer has_point g (fraction m.square) n.feature.shape next.feature.shape (positive m.square) next.square
                (left_from_next k n.feature n.held (omega (arith, some, missing))) n.nearer)
          ]
        ]

        abbrev last : Neighbour S
        last = get_or l.found (length l.found - 1) m

        few_of_last : most_of query ≤ length l.found → AreFewNearer has_point query layer g next.feature.shape
        few_of_last enough others distinct all =
            let some = query.some in
            let within : length l.found - 1 < length l.found = omega (arith, enough, some) in
            let top = u.near (length l.found - 1) m within in
            let le : IsNoMore (fraction m.square) (fraction last.square) = elim (less_or_no_more (fraction last.square) (fraction m.square)) [
              | inl less ↦ absurd (goes (record {
                enough = enough;
                nearer = λ d. subst (λ (n : Neighbour S). IsLess (fraction n.square) (fraction m.square)) (get_or_default l.found (length l.found - 1) m d within) less;
              }))
              | inr most ↦ most
            ] in
            top.few others distinct (All-weaker (IsNearerNumber has_point layer g next.feature.shape) (IsNearerNumber has_point layer g top.is.feature.shape)
            (λ k n. record {
              feature = n.feature;
              held = n.held;
              nearer = nearer_chain has_point g (fraction m.square) (fraction last.square) n.feature.shape next.feature.shape top.is.feature.shape
                  (positive m.square) (positive last.square) next.square le
                  (from_least (has_point g) (has_point top.is.feature.shape) (fraction last.square) top.is.square) n.nearer;
            }) others all)

        few_next : AreFewNearer has_point query layer g next.feature.shape
        few_next others distinct all = elim (cases_lt (length l.found) (most_of query)) [
          | inl short ↦
              let few = no_more others (numbers_of l.found) distinct
              (All-weaker (IsNearerNumber has_point layer g next.feature.shape) (Contains (numbers_of l.found)) nearer_found others all) in
              omega (arith, few, short, found_long)
          | inr enough ↦ few_of_last enough others distinct all
        ]

        pub taken : IsUnderway fraction box_of has_point query layer g (record { queue = l.queue; measured = left; found = l.found ++ m ∷ [] })
        taken = record {
          each = u.each;
          boxes = u.boxes;
          known = λ k f held. elim (u.known k f held) [
            | inl some ↦ inl (omega (arith, some, held_more k, held_less k))
            | inr out ↦ inr out
          ];
          once = λ k. let one = u.once k in omega (arith, one, held_more k, held_less k);
          reached = (split (IsReached fraction has_point query layer g) u.reached).1;
          near = All-push (IsFound fraction has_point query layer g) l.found m u.near (record { is = next; few = few_next });
          ordered = all_pairs_push (IsNoLater fraction) l.found m u.ordered
              (λ i d within. (split (IsNoLater fraction (get_or l.found i d)) (u.behind i d within)).0);
          behind = All-push (λ n. All (IsNoLater fraction n) left) l.found m
              (All-weaker (λ n. All (IsNoLater fraction n) l.measured) (λ n. All (IsNoLater fraction n) left)
              (λ n all. (split (IsNoLater fraction n) all).1) l.found u.behind) is.first;
          beyond = All-push (λ n. AllWaiting (box_of g) (λ b. IsLess (fraction n.square) (b.square, 1)) l.queue) l.found m u.beyond
              (all_waiting (λ n. IsLess (fraction m.square) (n, 1)) (less_later (fraction m.square)) l.queue u.each is.nearer);
        }
          where
            held_more : (k : ℕ) → count_held k (l.found ++ m ∷ []) ≡ count_held k l.found + cond {A = ℕ} (nat_eq k m.number) 1 0
            held_more k = ap (count_by (nat_eq k)) (map-append (λ (n : Neighbour S). n.number) l.found (m ∷ []))
                ∙ sum_by_push (λ x. cond {A = ℕ} (nat_eq k x) 1 0) (numbers_of l.found) m.number

            held_less : (k : ℕ) → count_held k l.measured ≡ cond {A = ℕ} (nat_eq k m.number) 1 0 + count_held k left
            held_less k = sym (sum_by-IsPermutation (λ x. cond {A = ℕ} (nat_eq k x) 1 0) (numbers_of l.measured) (m.number ∷ numbers_of left)
                (IsPermutation-map (λ (n : Neighbour S). n.number) l.measured (m ∷ left) is.others)) ∙ count_cons (nat_eq k) m.number (numbers_of left)

    module _ (c : Candidate) (rest : List Candidate) (others : IsPermutation l.queue (c ∷ rest)) where
      all_split : (P : Candidate → Type 0) → All P l.queue → P c × All P rest
      all_split P all =
          let both = All-permutation P l.queue (c ∷ rest) others all in
          (All-head P c rest both, All-tail P c rest both)

      abbrev weight : ℕ → Candidate → ℕ
      weight k d = count_by (λ (b : BoxedFeature). nat_eq k b.number) (stands_for (box_of g) d)

      -- the subtree that comes first is opened
      pub opened : (n : Bor Node) (queue : List Candidate) → c.item ≡ Subtree n → Opens (box_of g) n.now rest queue
          → IsUnderway fraction box_of has_point query layer g (record { queue = queue; measured = l.measured; found = l.found })
      opened n queue is opens =
          let a = opens.adds in
          let stands : stands_for (box_of g) c ≡ row_of (box_of g) (entries_of n.now) = ap (item_row (box_of g) c.square) is in
          let all_new = λ (P : Candidate → Type 0) (all : All P a.more) (waits : All P rest).
          All-permutation P (a.more ++ rest) queue a.added (All-append P a.more rest all waits) in
          let moved = λ (P : BoxedFeature → Type 0) (waits : AllWaiting (box_of g) P l.queue).
          let parts = all_split (λ d. All P (stands_for (box_of g) d)) waits in
          all_new (λ d. All P (stands_for (box_of g) d))
          (all_parted P (stands_for (box_of g)) a.more (subst (All P) (stands ∙ sym a.same) parts.0)) parts.1 in
          let same = λ (k : ℕ).
          let more : sum_by (weight k) a.more ≡ weight k c =
          sym (count_flat (λ (b : BoxedFeature). nat_eq k b.number) (stands_for (box_of g)) a.more) ∙ ap (count_by (λ (b : BoxedFeature). nat_eq k b.number)) (a.same ∙ sym stands) in
          let whole : count_waiting (box_of g) k queue ≡ count_waiting (box_of g) k l.queue = omega (
            arith,
            more,
            sum_by_popped (weight k) c l.queue rest others,
            sum_by-IsPermutation (weight k) (a.more ++ rest) queue a.added,
            sum_by-append (weight k) a.more rest,
          ) in whole in
          record {
            each = all_new (IsCandidate (box_of g)) a.each (all_split (IsCandidate (box_of g)) u.each).1;
            boxes = moved (IsBoxOf box_of layer g) u.boxes;
            known = λ k f held. elim (u.known k f held) [
              | inl some ↦ inl (omega (arith, some, same k))
              | inr out ↦ inr out
            ];
            once = λ k. let one = u.once k in omega (arith, one, same k);
            reached = u.reached;
            near = u.near;
            ordered = u.ordered;
            behind = u.behind;
            beyond = All-weaker (λ m. AllWaiting (box_of g) (λ b. IsLess (fraction m.square) (b.square, 1)) l.queue)
                (λ m. AllWaiting (box_of g) (λ b. IsLess (fraction m.square) (b.square, 1)) queue)
                (λ m waits. moved (λ b. IsLess (fraction m.square) (b.square, 1)) waits) l.found u.beyond;
          }

      -- the feature that comes first is measured
      module _ (k : ℕ) (is : c.item ≡ One k) where
        abbrev boxed : BoxedFeature
        boxed = record { square = c.square; number = k }

        stands : stands_for (box_of g) c ≡ boxed ∷ []
        stands = ap (item_row (box_of g) c.square) is

        of_boxed : (P : BoxedFeature → Type 0) → All P (stands_for (box_of g) c) → P boxed
        of_boxed P all = All-head P boxed [] (subst (All P) stands all)

        fewer : (j : ℕ) → count_waiting (box_of g) j l.queue ≡ count_waiting (box_of g) j rest + cond {A = ℕ} (nat_eq j k) 1 0
        fewer j =
            let one : weight j c ≡ cond {A = ℕ} (nat_eq j k) 1 0 = ap (count_by (λ (b : BoxedFeature). nat_eq j b.number)) stands
            ∙ count_cons (λ (b : BoxedFeature). nat_eq j b.number) boxed [] ∙ omega arith in
            omega (arith, one, sum_by_popped (weight j) c l.queue rest others)

        -- what is shared by both results of a measurement
        module _ (measured : List (Neighbour S)) where
          beyond_rest : All (λ m. AllWaiting (box_of g) (λ b. IsLess (fraction m.square) (b.square, 1)) rest) l.found
          beyond_rest = All-weaker (λ m. AllWaiting (box_of g) (λ b. IsLess (fraction m.square) (b.square, 1)) l.queue)
              (λ m. AllWaiting (box_of g) (λ b. IsLess (fraction m.square) (b.square, 1)) rest)
              (λ m waits. (all_split (λ d. All (λ b. IsLess (fraction m.square) (b.square, 1)) (stands_for (box_of g) d)) waits).1) l.found u.beyond

          pub measured_none : IsMeasuredAs {S = S} fraction has_point query layer g k None → IsPermutation l.measured measured
              → IsUnderway fraction box_of has_point query layer g (record { queue = rest; measured = measured; found = l.found })
          measured_none far perm = record {
            each = (all_split (IsCandidate (box_of g)) u.each).1;
            boxes = (all_split (λ d. All (IsBoxOf box_of layer g) (stands_for (box_of g) d)) u.boxes).1;
            known = λ j f held. by j f held (nat_eq j k) refl (u.known j f held);
            once = λ j. let one = u.once j in omega (arith, one, same j, fewer j);
            reached = All-permutation (IsReached fraction has_point query layer g) l.measured measured perm u.reached;
            near = u.near;
            ordered = u.ordered;
            behind = All-weaker (λ m. All (IsNoLater fraction m) l.measured) (λ m. All (IsNoLater fraction m) measured)
                (λ m all. All-permutation (IsNoLater fraction m) l.measured measured perm all) l.found u.behind;
            beyond = beyond_rest;
          }
            where
              same : (j : ℕ) → count_held j measured ≡ count_held j l.measured
              same j = sum_by-IsPermutation (λ x. cond {A = ℕ} (nat_eq j x) 1 0) (numbers_of l.measured) (numbers_of measured)
                  (IsPermutation-map (λ (n : Neighbour S). n.number) l.measured measured perm)

              by : (j : ℕ) (f : Feature G) → with_number j layer ≡ Some f → (t : Bool) → nat_eq j k ≡ t
                  → (0 < count_held j l.found + count_held j l.measured + count_waiting (box_of g) j l.queue) ⊎ ¬ (IsInReach has_point (within_of query) g f.shape)
                  → (0 < count_held j l.found + count_held j measured + count_waiting (box_of g) j rest) ⊎ ¬ (IsInReach has_point (within_of query) g f.shape)
              by j f held true t known = inr (far f (subst (λ (i : ℕ). with_number i layer ≡ Some f) (eqb-true j k t) held))
              by j f held false t (inl some) =
                  let no : cond {A = ℕ} (nat_eq j k) 1 0 ≡ 0 = rw t refl in
                  inl (omega (arith, some, same j, fewer j, no))
              by j f held false t (inr out) = inr out

          module _ (s : S) where
            abbrev n : Neighbour S
            n = record { square = s; number = k }

            pub measured_one : IsMeasuredAs fraction has_point query layer g k (Some s) → IsPermutation ((record { square = s; number = k }) ∷ l.measured) measured
                → IsUnderway fraction box_of has_point query layer g (record { queue = rest; measured = measured; found = l.found })
            measured_one near perm = record {
              each = (all_split (IsCandidate (box_of g)) u.each).1;
              boxes = boxes.1;
              known = λ j f held. elim (u.known j f held) [
                | inl some ↦ inl (omega (arith, some, more j, fewer j))
                | inr out ↦ inr out
              ];
              once = λ j. let one = u.once j in omega (arith, one, more j, fewer j);
              reached = All-permutation (IsReached fraction has_point query layer g) (n ∷ l.measured) measured perm
                  (All-cons (IsReached fraction has_point query layer g) n l.measured near u.reached);
              near = u.near;
              ordered = u.ordered;
              behind = λ i d within. All-permutation (IsNoLater fraction (get_or l.found i d)) (n ∷ l.measured) measured perm
                  (All-cons (IsNoLater fraction (get_or l.found i d)) n l.measured (after i d within) (u.behind i d within));
              beyond = beyond_rest;
            }
              where
                boxes : All (IsBoxOf box_of layer g) (stands_for (box_of g) c) × AllWaiting (box_of g) (IsBoxOf box_of layer g) rest
                boxes = all_split (λ d. All (IsBoxOf box_of layer g) (stands_for (box_of g) d)) u.boxes

                more : (j : ℕ) → count_held j measured ≡ cond {A = ℕ} (nat_eq j k) 1 0 + count_held j l.measured
                more j = sum_by-IsPermutation (λ x. cond {A = ℕ} (nat_eq j x) 1 0) (numbers_of (n ∷ l.measured)) (numbers_of measured)
                    (IsPermutation-map (λ (x : Neighbour S). x.number) (n ∷ l.measured) measured perm) ∙ count_cons (nat_eq j) k (numbers_of l.measured)

                -- the distance is at least that of the box
                from_here : IsNoMore (c.square, 1) (fraction s)
                from_here =
                    let b = of_boxed (IsBoxOf box_of layer g) boxes.0 in
                    let same = one_feature layer k b.feature near.feature b.held near.held in
                    from_below (has_point g) (has_point near.feature.shape) (c.square, 1) (fraction s)
                    (subst (λ (f : Feature G). IsFrom (c.square, 1) (has_point g) (has_point f.shape)) same
                    (from_box box_of has_point in_box g b.feature.shape c.square b.square)) near.square

                after : (i : ℕ) (d : Neighbour S) → i < length l.found → IsNoLater fraction (get_or l.found i d) n
                after i d within =
                    let m = get_or l.found i d in
                    let less = of_boxed (λ b. IsLess (fraction m.square) (b.square, 1))
                    (all_split (λ e. All (λ b. IsLess (fraction m.square) (b.square, 1)) (stands_for (box_of g) e)) (u.beyond i d within)).0 in
                    inl (less_no_more (fraction m.square) (c.square, 1) (fraction s) (positive s) less from_here)
