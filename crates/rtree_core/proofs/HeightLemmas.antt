-- The height of a packed tree, from its number of entries.
use Rattle.std.proofs.Common.{arith, ◌≡◌, ℕ, zero, suc, ◌+◌, ◌*◌, ◌^◌, ◌≤◌, ◌↔◌, inl, inr, List, [], ◌∷◌, length, map, refl, sym, ◌∙◌, ap, subst, pow-suc}
use Rattle.std.specs.Prelude.{Option, None, Some, IfSome, Result, Ok, Err, IfOk}
use Rattle.std.specs.Int.{div_ceil}
use Rattle.std.specs.List.{enumerate_from, range_with_len}
use Rattle.std.proofs.Math.Nat.{pow-le-pow_right}
use Rattle.std.proofs.lemmas.Bool.{cases_lt}
use Rattle.std.proofs.lemmas.List.{length-map}
use Rattle.std.proofs.lemmas.List.FromFn.{length-range_with_len, length-enumerate_from}
use Rattle.std.proofs.lemmas.List.Sorted.{length_permutation}
use Rattle.geom_core.specs.declared.shape.Shape.{Shape}
use Rattle.split_core.specs.Collections.{HasSame}
use Rattle.split_core.specs.Limits.{most}
use Rattle.rtree_core.specs.declared.node.Entry.{Entry}
use Rattle.rtree_core.specs.declared.node.Node.{Node}
use Rattle.rtree_core.specs.Nodes.{level_of}
use Rattle.rtree_core.specs.Packings.{page_at, AreTilesOf, IsPackedLevel, IsPackingOf, IsPackedHeight}
use Rattle.rtree_core.specs.Trees.{entries_in, height_of}
use Rattle.rtree_core.proofs.TreeLemmas.{same_length}

few_pages : (items pages : ℕ) → (div_ceil items most ≤ pages) ↔ (items ≤ pages * most)
few_pages items pages = (λ h. omega arith, λ h. omega arith)

count_tiles : {S T : Type 0} (cover : S → Shape) (rank : S → ℕ) (held : S → T) (list_of : Node → List T) (items : List S) (nodes : List Node) →
    AreTilesOf cover rank held list_of items nodes → length nodes ≡ div_ceil (length items) most
count_tiles cover rank held list_of items nodes tiles =
    let pages = div_ceil (length (map held tiles.tiled)) most in
    let same : length (map held tiles.tiled) ≡ length items = length-map tiles.tiled held ∙ length_permutation items tiles.tiled tiles.same in
    sym (length-map nodes list_of) ∙ ap length tiles.pages
    ∙ length-map (range_with_len 0 pages) (page_at pages (map held tiles.tiled)) ∙ length-range_with_len 0 pages ∙ ap (λ n. div_ceil n most) same

-- the number of entries of a number of nodes of a level
level_holds : (entries : List Entry) (level : ℕ) (nodes : List Node) → IsPackedLevel entries level nodes → (count : ℕ)
    → (length nodes ≤ count) ↔ (length entries ≤ count * most ^ suc level)
level_holds entries zero nodes tiles count =
    let few = few_pages (length entries) count in
    let pages = count_tiles _ _ _ _ entries nodes tiles in
    (λ h. let less = few.0 (omega (arith, h, pages)) in omega (arith, less), λ h. let less = few.1 (omega (arith, h)) in omega (arith, less, pages))
level_holds entries (suc level) nodes (below, two, lower, tiles) count =
    let few = few_pages (length below) count in
    let pages = count_tiles _ _ _ _ (enumerate_from 0 below) nodes tiles in
    let placed = length-enumerate_from 0 below in
    let deeper = level_holds entries level below lower (count * most) in
    let room : count * most * most ^ suc level ≡ count * most ^ suc (suc level) = rw (pow-suc most (suc level)) (omega arith) in (
      λ h. let less = deeper.0 (few.0 (omega (arith, h, pages, placed))) in omega (arith, less, room),
      λ h. let less = few.1 (deeper.1 (omega (arith, h, room))) in omega (arith, less, pages, placed),
    )

no_lower : (entries : List Entry) (level : ℕ) (root : Node) → IsPackedLevel entries level (root ∷ []) → (levels : ℕ)
    → length entries ≤ most ^ suc levels → level ≤ levels
no_lower entries zero root packed levels few = omega arith
no_lower entries (suc level) root (below, two, lower, tiles) levels few = elim (cases_lt levels (suc level)) [
  | inl less ↦
      let more : most ^ suc levels ≤ most ^ suc level = pow-le-pow_right {n = most} (omega arith) (omega (arith, less)) in
      let one = (level_holds entries level below lower 1).1 (omega (arith, few, more)) in
      absurd (omega (arith, one, two))
  | inr no_less ↦ omega (arith, no_less)
]

level_height : (entries : List Entry) (level : ℕ) (root : Node) → IsPackedLevel entries level (root ∷ []) → IsPackedHeight (length entries) (suc level)
level_height entries level root packed =
    let holds = level_holds entries level (root ∷ []) packed in
    record {
      none = (λ e. absurd (omega arith), λ e. let empty = (holds 0).1 (omega (arith, e)) in absurd (omega (arith, empty)));
      enough = let all = (holds 1).0 (omega arith) in omega (arith, all);
      least = λ levels few. omega (arith, no_lower entries level root packed levels few);
    }

pub root_height : (entries : List Entry) (root : Node) → IsPackingOf entries root → IsPackedHeight (length entries) (level_of root + 1)
root_height entries root packed =
    let one_more : suc (level_of root) ≡ level_of root + 1 = omega arith in
    subst (IsPackedHeight (length entries)) one_more (level_height entries (level_of root) root packed)

height_packed : (entries : List Entry) (root : Option Node) → HasSame entries (entries_in root) → IfSome root (IsPackingOf entries)
    → IsPackedHeight (length entries) (height_of root)
height_packed entries None same packed =
    let none : length entries ≡ 0 = same_length entries [] same in
    record { none = (λ e. none, λ e. refl); enough = omega (arith, none); least = λ levels few. omega arith }
height_packed entries (Some root) same packed = root_height entries root packed

-- the height of a tree that was packed, if there was memory for it
pub packed_height : {E : Type 0} (entries : List Entry) (made : Result (Option Node) E) → IfOk made (λ t. HasSame entries (entries_in t))
    → IfOk made (λ t. IfSome t (IsPackingOf entries)) → IfOk made (λ t. IsPackedHeight (length entries) (height_of t))
packed_height entries (Ok root) same packed = height_packed entries root same packed
packed_height entries (Err e) same packed = tt
