-- The entries of a layer's tree, as those of the layer's features.
use Rattle.std.proofs.Common.{◌≡◌, ℕ, ◌<◌, inl, inr, Bool, true, false, cond, List, [], ◌∷◌, map, refl, sym, subst, arith, Contains}
use Rattle.std.specs.Prelude.{count_by}
use Rattle.std.proofs.lemmas.List.Sums.{sum_by-cons}
use Rattle.rtree_core.specs.contracts.node.EntryPartialEq.TheImpl.{eq-value}
use Rattle.rtree_core.specs.declared.node.Entry.{Entry}
use Rattle.rtree_core.specs.Collections.{HasSame}
use Rattle.rtree_core.proofs.RemovalLemmas.{entry_same, entry_itself}
use Rattle.geom_core.specs.declared.shape.Shape.{Shape}
use Rattle.layer_core.specs.Layers.{Feature}
use Rattle.layer_core.specs.LayerTrees.{indexed}
use Rattle.filter_core.proofs.NumberLemmas.{contains_here, contains_later, contains_cases}

contains-counted : (e : Entry) (xs : List Entry) → 0 < count_by (eq-value.it e) xs → Contains xs e
contains-counted e [] h = absurd (omega arith)
contains-counted e (x ∷ xs) h = by (eq-value.it e x) refl (λ some. contains-counted e xs some)
  where
    by : (t : Bool) → eq-value.it e x ≡ t → (0 < count_by (eq-value.it e) xs → Contains xs e) → Contains (x ∷ xs) e
    by true t later = subst (λ (y : Entry). Contains (x ∷ xs) y) (sym (entry_same e x t)) (contains_here x xs)
    by false t later =
        let no : cond {A = ℕ} (eq-value.it e x) 1 0 ≡ 0 = rw t refl in
        contains_later x xs e (later (omega (arith, h, no, sum_by-cons (λ y. cond {A = ℕ} (eq-value.it e y) 1 0) x xs)))

counted-contains : (e : Entry) (xs : List Entry) → Contains xs e → 0 < count_by (eq-value.it e) xs
counted-contains e [] c = absurd (let none_there = c.1 in omega arith)
counted-contains e (x ∷ xs) c =
    let whole = sum_by-cons (λ y. cond {A = ℕ} (eq-value.it e y) 1 0) x xs in
    elim (contains_cases x xs e c) [
      | inl same ↦
          let one : cond {A = ℕ} (eq-value.it e x) 1 0 ≡ 1 = rw (same, entry_itself e) refl in
          omega (arith, whole, one)
      | inr later ↦ omega (arith, whole, counted-contains e xs later)
    ]

-- lists that are the same as collections hold the same entries
pub same-contains : (xs ys : List Entry) (e : Entry) → HasSame xs ys → Contains xs e → Contains ys e
same-contains xs ys e same c = contains-counted e ys (omega (arith, counted-contains e xs c, same (eq-value.it e)))

module _ {G : Type 0} (box_of : G → Shape) where
  pub feature_of : (fs : List (Feature G)) (e : Entry) → Contains (map (indexed box_of) fs) e
      → (f : Feature G) × Contains fs f × (indexed box_of f ≡ e)
  feature_of [] e c = absurd (let none_there = c.1 in omega arith)
  feature_of (f ∷ fs) e c = elim (contains_cases (indexed box_of f) (map (indexed box_of) fs) e c) [
    | inl same ↦ (f, contains_here f fs, same)
    | inr later ↦ let found = feature_of fs e later in (found.0, contains_later f fs found.0 found.1, found.2)
  ]

  pub entry_of : (fs : List (Feature G)) (f : Feature G) → Contains fs f → Contains (map (indexed box_of) fs) (indexed box_of f)
  entry_of [] f c = absurd (let none_there = c.1 in omega arith)
  entry_of (g ∷ fs) f c = elim (contains_cases g fs f c) [
    | inl same ↦ subst (λ (h : Feature G). Contains (map (indexed box_of) (g ∷ fs)) (indexed box_of h)) same
        (contains_here (indexed box_of g) (map (indexed box_of) fs))
    | inr later ↦ contains_later (indexed box_of g) (map (indexed box_of) fs) (indexed box_of f) (entry_of fs f later)
  ]
