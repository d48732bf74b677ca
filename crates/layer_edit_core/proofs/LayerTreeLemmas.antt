-- The tree of a layer against its list, as edits change both.
use Rattle.std.proofs.Common.{arith, ◌≡◌, ◌≢◌, ℕ, suc, ◌+◌, ◌<◌, Bool, true, false, cond, not, List, [], ◌∷◌, map, Option, Some, None, find, filter, All}
use Rattle.std.proofs.Common.{AllPairs, refl, sym, ◌∙◌, ap}
use Rattle.std.specs.Prelude.{Contains, count_by, nat_eq}
use Rattle.std.specs.Borrow.{Bor}
use Rattle.std.specs.Str.{bytes_eq}
use Rattle.std.proofs.lemmas.Bool.Decides.{nat_tests}
use Rattle.std.proofs.lemmas.List.Elements.{All-head, All-tail}
use Rattle.std.proofs.lemmas.List.Sums.{sum_by-cons}
use Rattle.std.proofs.lemmas.Slice.Eq.{bytes_eq-Decides}
use Rattle.geom_core.specs.declared.shape.Shape.{Shape}
use Rattle.rtree_core.specs.contracts.node.EntryPartialEq.TheImpl.{eq-value}
use Rattle.rtree_core.specs.declared.node.Entry.{Entry}
use Rattle.rtree_core.specs.declared.node.Node.{Node}
use Rattle.rtree_core.specs.Collections.{Gains}
use Rattle.rtree_core.specs.Trees.{entries_in, has_number, IsFresh}
use Rattle.rtree_core.proofs.RemovalLemmas.{entry_same, entry_itself}
use Rattle.layer_core.specs.Layers.{Feature, Contents, IsLayer, has_id, NumberAndShapeAre, with_id, deleted}
use Rattle.layer_core.specs.LayerTrees.{indexed, entries_for, HoldsExactly}
use Rattle.layer_core.proofs.LayerTreeLemmas.{first_before, later_pairs}

below_not : (a k : ℕ) → a < k → cond {A = ℕ} (nat_eq a k) 1 0 ≡ 0
below_not a k h = grind (arith, nat_tests)

bytes_differ : (a b : List ℕ) → a ≢ b → bytes_eq a b ≡ false
bytes_differ a b d = by (bytes_eq a b) refl
  where
    by : (t : Bool) → bytes_eq a b ≡ t → t ≡ false
    by true e = absurd (d ((bytes_eq-Decides a b).0 e))
    by false e = refl

counted-contains : (e : Entry) (xs : List Entry) → 0 < count_by (eq-value.it e) xs → Contains xs e
counted-contains e [] h = absurd (omega arith)
counted-contains e (x ∷ xs) h = by (eq-value.it e x) refl (λ some. counted-contains e xs some)
  where
    by : (t : Bool) → eq-value.it e x ≡ t → (0 < count_by (eq-value.it e) xs → Contains xs e) → Contains (x ∷ xs) e
    by true t later = (0, omega arith, sym (entry_same e x t))
    by false t later =
        let no : cond {A = ℕ} (eq-value.it e x) 1 0 ≡ 0 = rw t refl in
        let held = later (omega (arith, h, no, sum_by-cons (λ x. cond {A = ℕ} (eq-value.it e x) 1 0) x xs)) in
        (suc held.0, omega (arith, held.1), held.2)

module _ {G : Type 0} (box_of : G → Shape) where
  module _ (k : ℕ) where
    none_below : (fs : List (Feature G)) → All (λ f. f.number < k) fs → count_by (has_number k) (map (indexed box_of) fs) ≡ 0
    none_below [] h = refl
    none_below (f ∷ fs) h =
        omega (
          arith,
          below_not f.number k (All-head (λ f. f.number < k) f fs h),
          none_below fs (All-tail (λ f. f.number < k) f fs h),
          sum_by-cons (λ e. cond {A = ℕ} (has_number k e) 1 0) (indexed box_of f) (map (indexed box_of) fs),
        )

  -- the tree holds no entry of the next number
  pub next-fresh : (layer : Contents G) (root : Option Node) → IsLayer layer → HoldsExactly box_of layer root → IsFresh layer.next root
  next-fresh layer root is_layer same = sym (same (has_number layer.next)) ∙ none_below layer.next layer.features is_layer.below_next

  module _ (id : List ℕ) where
    filter-other_ids : (fs : List (Feature G)) → All (λ f. id ≢ f.id) fs → filter (λ f. not (has_id id f)) fs ≡ fs
    filter-other_ids [] h = refl
    filter-other_ids (f ∷ fs) h =
        rw (bytes_differ id f.id (All-head (λ f. id ≢ f.id) f fs h)) (ap (λ l. f ∷ l) (filter-other_ids fs (All-tail (λ f. id ≢ f.id) f fs h)))

    module _ (p : Entry → Bool) (f : Feature G) where
      -- the entries without those of this id, and the entry of this id
      count-without : (fs : List (Feature G)) → AllPairs (λ f g. f.id ≢ g.id) fs → find (has_id id) fs ≡ Some f
          → count_by p (map (indexed box_of) fs) ≡ cond {A = ℕ} (p (indexed box_of f)) 1 0 + count_by p (map (indexed box_of) (filter (λ f. not (has_id id f)) fs))
      count-without [] d h = cc
      count-without (g ∷ gs) d h = by (has_id id g) refl (λ found. count-without gs (later_pairs (λ f g. f.id ≢ g.id) g gs d) found)
        where
          by : (t : Bool) → has_id id g ≡ t
              → (find (has_id id) gs ≡ Some f
              → count_by p (map (indexed box_of) gs) ≡ cond {A = ℕ} (p (indexed box_of f)) 1 0 + count_by p (map (indexed box_of) (filter (λ f. not (has_id id f)) gs)))
              → count_by p (map (indexed box_of) (g ∷ gs)) ≡ cond {A = ℕ} (p (indexed box_of f)) 1 0 + count_by p (map (indexed box_of) (filter (λ f. not (has_id id f)) (g ∷ gs)))
          by true t later =
              let is : g ≡ f = let found = rw t at h in cc in
              let named : id ≡ g.id = (bytes_eq-Decides id g.id).0 t in
              let others = filter-other_ids gs (rw named (first_before (λ f g. f.id ≢ g.id) g gs d)) in
              rw (t, others, ← is) (sum_by-cons (λ e. cond {A = ℕ} (p e) 1 0) (indexed box_of g) (map (indexed box_of) gs))
          by false t later =
              let rest = later (rw t at h) in
              rw t
              (omega (
                arith,
                rest,
                sum_by-cons (λ e. cond {A = ℕ} (p e) 1 0) (indexed box_of g) (map (indexed box_of) gs),
                sum_by-cons (λ e. cond {A = ℕ} (p e) 1 0) (indexed box_of g) (map (indexed box_of) (filter (λ f. not (has_id id f)) gs)),
              ))

  -- the feature that a look-up by id told of
  found_feature : (layer : Contents G) (id : List ℕ) (number : ℕ) (shape : Bor G) → NumberAndShapeAre (Some (number, shape)) (with_id id layer)
      → (f : Feature G) × (with_id id layer ≡ Some f) × (indexed box_of f ≡ record { shape = box_of shape.now; number = number })
  found_feature layer id number shape told = by (with_id id layer) refl told
    where
      by : (r : Option (Feature G)) → with_id id layer ≡ r → NumberAndShapeAre (Some (number, shape)) r
          → (f : Feature G) × (with_id id layer ≡ Some f) × (indexed box_of f ≡ record { shape = box_of shape.now; number = number })
      by None is told = cc
      by (Some f) is told = (f, is, λ i. record { shape = same_shape i; number = same_number i })
        where
          same : ◌≡◌ {A = ℕ × G} (f.number, f.shape) (number, shape.now)
          same = cc

          same_number : f.number ≡ number
          same_number = ap (λ x. x.0) same

          same_shape : box_of f.shape ≡ box_of shape.now
          same_shape = ap (λ x. box_of x.1) same

  module _ (layer : Contents G) (root : Option Node) (id : List ℕ) (number : ℕ) (shape : Bor G) (is_layer : IsLayer layer) (same : HoldsExactly box_of layer root)
      (told : NumberAndShapeAre (Some (number, shape)) (with_id id layer)) where
    abbrev entry : Entry
    entry = record { shape = box_of shape.now; number = number }

    without_entry : (p : Entry → Bool) → count_by p (entries_for box_of layer) ≡ cond {A = ℕ} (p entry) 1 0 + count_by p (entries_for box_of (deleted layer id))
    without_entry p =
        let f = found_feature layer id number shape told in
        rw (← f.2) (count-without id p f.0 layer.features is_layer.distinct f.1)

    -- the tree holds the entry of a feature
    pub found-contains : Contains (entries_in root) entry
    found-contains =
        let one : cond {A = ℕ} (eq-value.it entry entry) 1 0 ≡ 1 = rw (entry_itself entry) refl in
        counted-contains entry (entries_in root) (omega (arith, one, without_entry (eq-value.it entry), same (eq-value.it entry)))

    -- a tree without it holds exactly the other features
    pub deleted-exact : (left : Option Node) → Gains entry (entries_in left) (entries_in root) → HoldsExactly box_of (deleted layer id) left
    deleted-exact left loses = λ p.
        omega (
          arith,
          without_entry p,
          same p,
          loses p,
          sum_by-cons (λ e. cond {A = ℕ} (p e) 1 0) entry (entries_in left),
        )
