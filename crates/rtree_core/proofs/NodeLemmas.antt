-- The equations of a node's entries and level, and which facts of its parts make it lawful.
use Rattle.std.proofs.Common.{arith, ◌≡◌, ℕ, zero, suc, ◌+◌, ◌<◌, ◌≤◌, List, [], ◌∷◌, ◌++◌, map, length, get_or, refl, sym, ◌∙◌, ap, max, subst, add-one}
use Rattle.std.specs.Prelude.{All}
use Rattle.std.specs.List.{flat_map, fold}
use Rattle.std.specs.declared.alloc.Global.{Global}
use Rattle.std.specs.declared.vec.Vec.{Vec}
use Rattle.rtree_core.specs.declared.node.Entry.{Entry}
use Rattle.rtree_core.specs.declared.node.Below.{Below, out-Below, map-Below, fold-Below, fold_out-Below}
use Rattle.geom_core.specs.Cells.{IsIn}
use Rattle.rtree_core.specs.declared.node.Below.TheVariants.{outs-Children, Children as made_children}
use Rattle.rtree_core.specs.declared.node.Below.TheOpen.{Below-F, Entries, Children}
use Rattle.rtree_core.specs.declared.node.Node.{Node, fold_out-Node}
use Rattle.std.proofs.lemmas.List.{length-map, get_or-map}
use Rattle.std.proofs.lemmas.List.Elements.{All-head, All-tail, All-map, All-weaker}
use Rattle.split_core.specs.Limits.{fewest}
use Rattle.split_core.specs.Covers.{IsLeastCover}
use Rattle.rtree_core.specs.Nodes.{entries_step, entries_of, level_step, level_of, size_of, children_of, leaf_law, inner_law, IsLawfulAt, IsLawful}
use Rattle.rtree_core.specs.Nodes.{AreLawfulChildren}

flat_map-map : {A B C : Type 0} (f : A → B) (g : B → List C) (xs : List A) → flat_map g (map f xs) ≡ flat_map (λ x. g (f x)) xs
flat_map-map f g [] = refl
flat_map-map f g (x ∷ xs) = ap (λ ys. g (f x) ++ ys) (flat_map-map f g xs)

entries_unfold : (n : Node) → entries_of n ≡ fold-Below (List Entry) (List Entry) entries_step (λ m. m.below) n.below
entries_unfold n = fold_out-Node (List Entry) (List Entry) entries_step (λ m. m.below) n

below_unfold : (b : Below) → fold-Below (List Entry) (List Entry) entries_step (λ m. m.below) b ≡ entries_step
    (map-Below _ _ _ _ (fold-Below (List Entry) (List Entry) entries_step (λ m. m.below)) entries_of (out-Below b))
below_unfold b = fold_out-Below (List Entry) (List Entry) entries_step (λ m. m.below) b

-- the entries of a leaf are those in it
pub entries_leaf : (n : Node) (v : Vec Entry Global) → out-Below n.below ≡ Entries v → entries_of n ≡ v.items
entries_leaf n v e = entries_unfold n ∙ below_unfold n.below ∙ rw e refl

-- the entries of an inner node are those of its children in order
pub entries_inner : (n : Node) (v : Vec Node Global) → out-Below n.below ≡ Children v → entries_of n ≡ flat_map entries_of v.items
entries_inner n v e = entries_unfold n ∙ below_unfold n.below ∙ rw e (flat_map-map entries_of (λ es. es) v.items)

level_unfold : (n : Node) → level_of n ≡ level_step (map-Below _ _ _ _ (fold-Below ℕ ℕ level_step (λ m. m.below)) level_of (out-Below n.below))
level_unfold n = fold_out-Node ℕ ℕ level_step (λ m. m.below) n ∙ fold_out-Below ℕ ℕ level_step (λ m. m.below) n.below

pub level_leaf : (n : Node) (v : Vec Entry Global) → out-Below n.below ≡ Entries v → level_of n ≡ 0
level_leaf n v e = level_unfold n ∙ rw e refl

pub level_inner : (n : Node) (v : Vec Node Global) → out-Below n.below ≡ Children v → level_of n ≡ fold max 0 (map level_of v.items) + 1
level_inner n v e = level_unfold n ∙ rw e refl

fold_max_from : (l : ℕ) (xs : List ℕ) → All (λ x. x ≡ l) xs → fold max l xs ≡ l
fold_max_from l [] h = refl
fold_max_from l (x ∷ xs) h =
    let head : x ≡ l = All-head (λ y. y ≡ l) x xs h in
    let top : max l x ≡ l = omega arith in
    rw top (fold_max_from l xs (All-tail (λ y. y ≡ l) x xs h))

fold_max_same : (l : ℕ) (xs : List ℕ) → 0 < length xs → All (λ x. x ≡ l) xs → fold max 0 xs ≡ l
fold_max_same l [] s h = absurd (omega arith)
fold_max_same l (x ∷ xs) s h =
    let head : x ≡ l = All-head (λ y. y ≡ l) x xs h in
    let top : max 0 x ≡ l = omega arith in
    rw top (fold_max_from l xs (All-tail (λ y. y ≡ l) x xs h))

leaf_level : (n : Node) (b : Below-F Below Node) → out-Below n.below ≡ b → leaf_law n.cover b → level_of n ≡ 0
leaf_level n (Entries v) e h = level_leaf n v e
leaf_level n (Children v) e h = absurd h

leaf_holds : (n : Node) (b : Below-F Below Node) → out-Below n.below ≡ b → leaf_law n.cover b → 0 < size_of n
leaf_holds n (Entries v) e h = rw e (h.some)
leaf_holds n (Children v) e h = absurd h

-- a leaf has an entry
pub leaf_some : (n : Node) → IsLawfulAt 0 n → 0 < size_of n
leaf_some n h = leaf_holds n (out-Below n.below) refl h

inner_level : (l : ℕ) (n : Node) (b : Below-F Below Node) →
    ((m : Node) → IsLawfulAt l m → level_of m ≡ l) →
    out-Below n.below ≡ b →
    inner_law (IsLawfulAt l) n.cover b →
    level_of n ≡ suc l
inner_level l n (Entries v) ih e h = absurd h
inner_level l n (Children v) ih e h =
    let all : All (λ x. x ≡ l) (map level_of v.items) = All-map (λ x. x ≡ l) level_of v.items
    (All-weaker (IsLawfulAt l) (λ m. level_of m ≡ l) ih v.items h.children) in
    let some : 0 < length (map level_of v.items) = rw length-map (omega (arith, h.page.some, v.ok.0)) in
    level_inner n v e ∙ rw (fold_max_same l (map level_of v.items) some all, add-one) refl

-- a lawful node has the level at which it is lawful
pub lawful_level : (l : ℕ) (n : Node) → IsLawfulAt l n → level_of n ≡ l
lawful_level zero n h = leaf_level n (out-Below n.below) refl h
lawful_level (suc l) n h = inner_level l n (out-Below n.below) (lawful_level l) refl h

pub lawful_is : (l : ℕ) (n : Node) → IsLawfulAt l n → IsLawful n
lawful_is l n h = subst (λ k. IsLawfulAt k n) (sym (lawful_level l n h)) h

-- the facts of an inner node, in terms of the list of its children
pub record HasChildren (l : ℕ) (n : Node) : Type 0 where
  pub entries : entries_of n ≡ flat_map entries_of (children_of n)
  pub some : 0 < length (children_of n)
  pub tight : IsLeastCover (λ m. m.cover) (children_of n) n.cover
  pub children : All (IsLawfulAt l) (children_of n)
  pub enough : All (λ m. fewest ≤ size_of m) (children_of n)
  pub size : size_of n ≡ length (children_of n)

has_children_by : (l : ℕ) (n : Node) (b : Below-F Below Node) → out-Below n.below ≡ b → inner_law (IsLawfulAt l) n.cover b → HasChildren l n
has_children_by l n (Entries v) e h = absurd h
has_children_by l n (Children v) e h = record {
  entries = entries_inner n v e ∙ rw e refl;
  some = rw e (omega (arith, h.page.some, v.ok.0));
  tight = rw e h.page.tight;
  children = rw e h.children;
  enough = rw e h.enough;
  size = rw e v.ok.0;
}

pub has_children : (l : ℕ) (n : Node) → IsLawfulAt (suc l) n → HasChildren l n
has_children l n h = has_children_by l n (out-Below n.below) refl h

-- the facts of a leaf
pub record HasEntries (n : Node) : Type 0 where
  pub some : 0 < length (entries_of n)
  pub tight : IsLeastCover (λ e. e.shape) (entries_of n) n.cover
  pub size : size_of n ≡ length (entries_of n)

has_entries_by : (n : Node) (b : Below-F Below Node) → out-Below n.below ≡ b → leaf_law n.cover b → HasEntries n
has_entries_by n (Children v) e h = absurd h
has_entries_by n (Entries v) e h =
    let here = entries_leaf n v e in
    record {
      some = rw here (omega (arith, h.some, v.ok.0));
      tight = rw here h.tight;
      size = rw (here, e) v.ok.0;
    }

pub has_entries : (n : Node) → IsLawfulAt 0 n → HasEntries n
has_entries n h = has_entries_by n (out-Below n.below) refl h

-- the greatest of the levels of some nodes
abbrev pub top_level : List Node → ℕ
top_level xs = fold max 0 (map level_of xs)

fold_max-start : (a : ℕ) (xs : List ℕ) → a ≤ fold max a xs
fold_max-start a [] = omega arith
fold_max-start a (x ∷ xs) = omega (arith, fold_max-start (max a x) xs)

fold_max-each : (a : ℕ) (xs : List ℕ) (k : ℕ) → k < length xs → get_or xs k 0 ≤ fold max a xs
fold_max-each a [] k h = absurd (omega arith)
fold_max-each a (x ∷ xs) zero h = omega (arith, fold_max-start (max a x) xs)
fold_max-each a (x ∷ xs) (suc k) h = fold_max-each (max a x) xs k (omega arith)

pub level-le-top : (xs : List Node) (k : ℕ) (n : Node) → k < length xs → n ≡ get_or xs k n → level_of n ≤ top_level xs
level-le-top xs k n h at =
    let each = fold_max-each 0 (map level_of xs) k (rw length-map h) in
    let there : get_or (map level_of xs) k 0 ≡ level_of n = get_or-map level_of xs k n 0 h ∙ ap level_of (sym at) in
    omega (arith, each, there)

-- a lawful inner node, by the list that it was found to have
pub record InnerFacts (n : Node) (v : Vec Node Global) : Type 0 where
  pub items : children_of n ≡ v.items
  pub level : level_of n ≡ suc (top_level v.items)
  pub facts : HasChildren (top_level v.items) n

pub inner_facts : (n : Node) (v : Vec Node Global) → n.below ≡ made_children v → IsLawful n → InnerFacts n v
inner_facts n v e h =
    let is : out-Below n.below ≡ Children v = ap out-Below e ∙ outs-Children v in
    let level : level_of n ≡ suc (top_level v.items) = level_inner n v is ∙ add-one _ in
    record { items = rw is refl; level = level; facts = has_children (top_level v.items) n (rw level at h) }

-- its children are lawful
pub children_lawful : (n : Node) (v : Vec Node Global) → n.below ≡ made_children v → IsLawful n → All IsLawful v.items
children_lawful n v e h =
    let inner = inner_facts n v e h in
    rw inner.items at (All-weaker (IsLawfulAt (top_level v.items)) IsLawful (λ m k. lawful_is (top_level v.items) m k) (children_of n) inner.facts.children)

-- they are all one level below it
children_level : (n : Node) (v : Vec Node Global) → n.below ≡ made_children v → IsLawful n → All (λ m. level_of m + 1 ≡ level_of n) v.items
children_level n v e h =
    let inner = inner_facts n v e h in
    rw inner.items at (All-weaker (IsLawfulAt (top_level v.items)) (λ m. level_of m + 1 ≡ level_of n)
    (λ m k. omega (arith, lawful_level (top_level v.items) m k, inner.level)) (children_of n) inner.facts.children)

-- their covers lie in its cover
children_inside : (n : Node) (v : Vec Node Global) → n.below ≡ made_children v → IsLawful n → All (λ m. IsIn m.cover n.cover) v.items
children_inside n v e h =
    let inner = inner_facts n v e h in
    rw inner.items at inner.facts.tight.contains

-- all of these together
pub lawful_children : (n : Node) (v : Vec Node Global) → n.below ≡ made_children v → IsLawful n → AreLawfulChildren n v.items
lawful_children n v e h =
    let inner = inner_facts n v e h in
    record {
      some = rw inner.items at inner.facts.some;
      lawful = children_lawful n v e h;
      levels = children_level n v e h;
      covers = children_inside n v e h;
    }

-- the same for the list of children returned by a call
pub given_entries : (n : Node) (v : Vec Node Global) (xs : List Node) → n.below ≡ made_children v → xs ≡ v.items → entries_of n ≡ flat_map entries_of xs
given_entries n v xs is e = rw e (entries_inner n v (ap out-Below is ∙ outs-Children v))

pub given_children : (n : Node) (v : Vec Node Global) (xs : List Node) → n.below ≡ made_children v → xs ≡ v.items → IsLawful n → AreLawfulChildren n xs
given_children n v xs is e h = rw e (lawful_children n v is h)
