-- The pairs at a depth: they are lawful, a pair that doesn't meet has none below it that do, and a round goes one level down.
use Rattle.std.proofs.Common.{arith, ◌≡◌, ℕ, zero, suc, ◌-◌, ◌<◌, List, [], ◌∷◌, ◌++◌, length, map, refl, sym, ◌∙◌, ap, subst}
use Rattle.std.specs.Prelude.{All}
use Rattle.std.specs.List.{flat_map}
use Rattle.std.proofs.lemmas.List.{append-nil}
use Rattle.std.proofs.lemmas.List.Concat.{flat_map-append}
use Rattle.std.proofs.lemmas.List.Elements.{All-nil, All-cons, All-weaker, All-map}
use Rattle.geom_core.specs.Cells.{IsIn}
use Rattle.rtree_core.specs.declared.node.Node.{Node}
use Rattle.rtree_core.specs.declared.node.Below.{Below, out-Below}
use Rattle.rtree_core.specs.declared.node.Below.TheOpen.{Below-F, Entries, Children}
use Rattle.rtree_core.specs.Nodes.{entries_of, children_of, level_of, node_cover, leaf_law, IsLawful, IsLawfulAt}
use Rattle.rtree_core.proofs.NodeLemmas.{has_children, lawful_level, lawful_is}
use Rattle.rtree_core.proofs.WindowLemmas.{all_joined}
use Rattle.descent_core.specs.Lists.{IsKept, pairs}
use Rattle.descent_core.specs.Depths.{or_itself, lower, lower_pairs, at_depth}
use Rattle.descent_core.specs.Plans.{CoversMeet, AreAt}
use Rattle.descent_core.specs.Steps.{IsOneLower}
use Rattle.descent_core.proofs.KeptLemmas.{kept_all, kept_first}

no_children : (n : Node) (b : Below-F Below Node) → out-Below n.below ≡ b → leaf_law n.cover b → children_of n ≡ []
no_children n (Entries v) e h = rw e refl
no_children n (Children v) e h = absurd h

leaf_step : (n : Node) → level_of n ≡ 0 → IsLawful n → IsOneLower n (n ∷ [])
leaf_step n level h = record {
  entries = sym (append-nil (entries_of n));
  lawful = All-cons IsLawful n [] h (All-nil IsLawful);
  levels = All-cons (λ m. level_of m ≡ level_of n - 1) n [] (omega arith) (All-nil (λ m. level_of m ≡ level_of n - 1));
  covers = All-cons (λ m. IsIn (node_cover m) (node_cover n)) n [] (λ u v c. c) (All-nil (λ m. IsIn (node_cover m) (node_cover n)));
}

or_itself_some : (n : Node) (cs : List Node) → 0 < length cs → or_itself n cs ≡ cs
or_itself_some n [] h = absurd (omega arith)
or_itself_some n (c ∷ cs) h = refl

lower_at : (l : ℕ) (n : Node) → IsLawfulAt l n → IsOneLower n (lower n)
lower_at zero n h =
    subst (IsOneLower n) (ap (or_itself n) (sym (no_children n (out-Below n.below) refl h))) (leaf_step n (lawful_level 0 n h) (lawful_is 0 n h))
lower_at (suc l) n h =
    let inner = has_children l n h in
    let level = lawful_level (suc l) n h in
    subst (IsOneLower n) (sym (or_itself_some n (children_of n) inner.some))
    (record {
      entries = inner.entries;
      lawful = All-weaker (IsLawfulAt l) IsLawful (λ m k. lawful_is l m k) (children_of n) inner.children;
      levels = All-weaker (IsLawfulAt l) (λ m. level_of m ≡ level_of n - 1) (λ m k. omega (arith, level, lawful_level l m k)) (children_of n) inner.children;
      covers = inner.tight.contains;
    })

-- the nodes one level below a lawful node hold the entries of the node
pub lower_step : (n : Node) → IsLawful n → IsOneLower n (lower n)
lower_step n h = lower_at (level_of n) n h

abbrev pub AreLawful : Node × Node → Type 0
AreLawful p = IsLawful p.0 × IsLawful p.1

-- a fact of each two items of two lists is a fact of each of their pairs
pub pairs_all : {A B : Type 0} (P : A → Type 0) (Q : B → Type 0) (R : A × B → Type 0) (xs : List A) (ys : List B) →
    ((x : A) (y : B) → P x → Q y → R (x, y)) → All P xs → All Q ys → All R (pairs xs ys)
pairs_all P Q R xs ys make lefts rights =
    all_joined R (λ x. map (λ y. (x, y)) ys) xs (All-weaker P (λ x. All R (map (λ y. (x, y)) ys))
    (λ x p. All-map R (λ y. (x, y)) ys (All-weaker Q (λ y. R (x, y)) (λ y q. make x y p q) ys rights)) xs lefts)

pub lower_lawful : (p : Node × Node) → AreLawful p → All AreLawful (lower_pairs p)
lower_lawful p h =
    pairs_all IsLawful IsLawful AreLawful (lower p.0) (lower p.1) (λ x y a b. (a, b)) (lower_step p.0 h.0).lawful (lower_step p.1 h.1).lawful

pub lower_apart : (p : Node × Node) → AreLawful p → ¬ (CoversMeet p) → All (λ q. ¬ (CoversMeet q)) (lower_pairs p)
lower_apart p h apart =
    pairs_all (λ m. IsIn (node_cover m) (node_cover p.0)) (λ m. IsIn (node_cover m) (node_cover p.1)) (λ q. ¬ (CoversMeet q)) (lower p.0) (lower p.1)
    (λ x y a b m. apart (m.0, m.1, a m.0 m.1 m.2, b m.0 m.1 m.3)) (lower_step p.0 h.0).covers (lower_step p.1 h.1).covers

-- what each pair passes on to those below it, each at a depth has
deep : (Q : Node × Node → Type 0) → ((p : Node × Node) → Q p → All Q (lower_pairs p)) → (d : ℕ) (p : Node × Node) → Q p → All Q (at_depth d p)
deep Q pass zero p h = All-cons Q p [] h (All-nil Q)
deep Q pass (suc d) p h =
    all_joined Q (at_depth d) (lower_pairs p) (All-weaker Q (λ q. All Q (at_depth d q)) (λ q k. deep Q pass d q k) (lower_pairs p) (pass p h))

pub depth_lawful : (d : ℕ) (p : Node × Node) → AreLawful p → All AreLawful (at_depth d p)
depth_lawful d p h = deep AreLawful lower_lawful d p h

abbrev AreApart : Node × Node → Type 0
AreApart p = AreLawful p × ¬ (CoversMeet p)

lower_both : (p : Node × Node) → AreApart p → All AreApart (lower_pairs p)
lower_both p h k d lt = (lower_lawful p h.0 k d lt, lower_apart p h.0 h.1 k d lt)

pub depth_apart : (d : ℕ) (p : Node × Node) → AreLawful p → ¬ (CoversMeet p) → All (λ q. ¬ (CoversMeet q)) (at_depth d p)
depth_apart d p h apart = All-weaker AreApart (λ q. ¬ (CoversMeet q)) (λ q k. k.1) (at_depth d p) (deep AreApart lower_both d p (h, apart))

pub all_depth_lawful : (d : ℕ) (above : List (Node × Node)) → All AreLawful above → All AreLawful (flat_map (at_depth d) above)
all_depth_lawful d above h =
    all_joined AreLawful (at_depth d) above (All-weaker AreLawful (λ p. All AreLawful (at_depth d p)) (λ p k. depth_lawful d p k) above h)

flat_map-flat_map : {A B C : Type 0} (f : B → List C) (g : A → List B) (xs : List A) → flat_map f (flat_map g xs) ≡ flat_map (λ x. flat_map f (g x)) xs
flat_map-flat_map f g [] = refl
flat_map-flat_map f g (x ∷ xs) = flat_map-append f (g x) (flat_map g xs) ∙ ap (λ ys. flat_map f (g x) ++ ys) (flat_map-flat_map f g xs)

flat_map_agree : {A B : Type 0} (f g : A → List B) → ((x : A) → f x ≡ g x) → (xs : List A) → flat_map f xs ≡ flat_map g xs
flat_map_agree f g e [] = refl
flat_map_agree f g e (x ∷ xs) = ap (λ ys. ys ++ flat_map f xs) (e x) ∙ ap (λ ys. g x ++ ys) (flat_map_agree f g e xs)

pub at_top : (above : List (Node × Node)) → flat_map (at_depth 0) above ≡ above
at_top [] = refl
at_top (p ∷ ps) = ap (λ ys. p ∷ ys) (at_top ps)

-- one level down from a depth
deeper : (d : ℕ) (p : Node × Node) → at_depth (suc d) p ≡ flat_map lower_pairs (at_depth d p)
deeper zero p = at_top (lower_pairs p) ∙ sym (append-nil (lower_pairs p))
deeper (suc d) p =
    flat_map_agree (at_depth (suc d)) (λ q. flat_map lower_pairs (at_depth d q)) (deeper d) (lower_pairs p)
    ∙ sym (flat_map-flat_map lower_pairs (at_depth d) (lower_pairs p))

all_deeper : (d : ℕ) (above : List (Node × Node)) → flat_map (at_depth (suc d)) above ≡ flat_map lower_pairs (flat_map (at_depth d) above)
all_deeper d above =
    flat_map_agree (at_depth (suc d)) (λ q. flat_map lower_pairs (at_depth d q)) (deeper d) above
    ∙ sym (flat_map-flat_map lower_pairs (at_depth d) above)

-- a round goes one level down
pub at_next : (above : List (Node × Node)) (d : ℕ) (tasks next : List (Node × Node)) → All AreLawful above → AreAt above d tasks →
    IsKept CoversMeet (flat_map lower_pairs tasks) next → AreAt above (suc d) next
at_next above d tasks next lawful here k =
    rw all_deeper (kept_first CoversMeet AreLawful lower_pairs lower_apart (flat_map (at_depth d) above) tasks next (all_depth_lawful d above lawful) here k)

pub at_start : (above : List (Node × Node)) → All CoversMeet above → AreAt above 0 above
at_start above meet = rw at_top (kept_all CoversMeet above meet)

-- pairs that don't meet can be left out at the top
pub at_kept : (above kept : List (Node × Node)) (d : ℕ) (tasks : List (Node × Node)) → All AreLawful above → IsKept CoversMeet above kept → AreAt kept d tasks →
    AreAt above d tasks
at_kept above kept d tasks lawful k here = kept_first CoversMeet AreLawful (at_depth d) (depth_apart d) above kept tasks lawful k here
