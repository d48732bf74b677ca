-- A tree over the boxes of edges, and the entries of its nodes.
use Rattle.std.proofs.Common.{arith, ◌≡◌, ◌≤◌, ◌<◌, ◌+◌, ◌-◌, ℕ, max, List, [], ◌∷◌, length, get_or, map, sym, subst, All}
use Rattle.std.specs.Prelude.{pos, nat_abs, ◌<ℤ◌, ℤ}
use Rattle.std.specs.List.{flat_map, fold}
use Rattle.std.proofs.lemmas.Int.{ints}
use Rattle.std.proofs.lemmas.List.{get_or_default}
use Rattle.std.proofs.lemmas.List.Elements.{All-head, All-tail, All-weaker, All-contains}
use Rattle.plane_core.specs.declared.edge.Edge.{Edge}
use Rattle.plane_core.specs.declared.vertex.Vertex.{Vertex}
use Rattle.plane_core.specs.declared.place.Place.{Place}
use Rattle.plane_core.specs.Places.{point_of}
use Rattle.rtree_core.specs.contracts.node.EntryPartialEq.TheImpl.{eq-value}
use Rattle.rtree_core.specs.declared.node.Entry.{Entry}
use Rattle.rtree_core.specs.declared.node.Node.{Node}
use Rattle.rtree_core.specs.Collections.{HasSame}
use Rattle.rtree_core.specs.Nodes.{entries_of, level_of, AreLawfulChildren}
use Rattle.rtree_core.proofs.NodeLemmas.{top_level}
use Rattle.rtree_core.proofs.WindowLemmas.{all_parted}
use Rattle.edge_index_core.specs.Bounds.{IsBoxOf}
use Rattle.edge_index_core.specs.Entries.{AreEntriesOf}
use Rattle.edge_index_core.specs.Trees.{IsEntryIn, HoldsEdges}
use Rattle.edge_index_core.proofs.EntryLemmas.{counted, held}

-- some edge
pub nowhere : Edge
nowhere = record { a = origin; b = origin }
  where
    origin : Vertex
    origin = record {
      x = pos 0;
      y = pos 0;
      x_in_range = (omega (arith, ints), omega (arith, ints));
      y_in_range = (omega (arith, ints), omega (arith, ints));
    }

-- each entry that a tree holds is that of an edge
entries_in_all : (es : List Edge) (xs : List Entry) → AreEntriesOf es xs → All (IsEntryIn es) xs
entries_in_all es xs are k d lt =
    let within : k < length es = omega (arith, lt, are.len) in
    record {
      within = subst (λ (n : ℕ). n < length es) (sym (are.each k within nowhere d).number_is) within;
      box_is = λ e. subst (λ (n : ℕ). IsBoxOf (get_or es n e) (get_or xs k d).shape) (sym (are.each k within e d).number_is) (are.each k within e d).box_is;
    }

same_all : (P : Entry → Type 0) (xs ys : List Entry) → HasSame xs ys → All P xs → All P ys
same_all P xs ys same all k d lt =
    let x = get_or ys k d in
    All-contains P xs x all (held x xs (omega (arith, same (eq-value.it x), counted x ys k lt (get_or_default ys k x d lt))))

pub all_in : (es : List Edge) (xs : List Entry) → HoldsEdges es xs → All (IsEntryIn es) xs
all_in es xs h = same_all (IsEntryIn es) h.entries xs h.same (entries_in_all es h.entries h.are)

pub node_entries : (es : List Edge) (ns : List Node) (i : ℕ) (n : Node) → All (IsEntryIn es) (flat_map entries_of ns) → i < length ns → n ≡ get_or ns i n → All (IsEntryIn es) (entries_of n)
node_entries es ns i n all lt at = subst (λ (m : Node). All (IsEntryIn es) (entries_of m)) (sym at) (all_parted (IsEntryIn es) entries_of ns all i n lt)

-- children are one level lower at least
fold_max-le : (n a : ℕ) (xs : List Node) → a ≤ n → All (λ m. level_of m ≤ n) xs → fold max a (map level_of xs) ≤ n
fold_max-le n a [] low h = low
fold_max-le n a (x ∷ xs) low h =
    let head : level_of x ≤ n = All-head (λ m. level_of m ≤ n) x xs h in
    fold_max-le n (max a (level_of x)) xs (omega arith) (All-tail (λ m. level_of m ≤ n) x xs h)

pub children_lower : (n : Node) (cs : List Node) → AreLawfulChildren n cs → top_level cs + 1 ≤ level_of n
children_lower n cs h =
    let first : level_of (get_or cs 0 n) + 1 ≡ level_of n = h.levels 0 n h.some in
    let top : top_level cs ≤ level_of n - 1 = fold_max-le (level_of n - 1) 0 cs (omega arith)
    (All-weaker (λ m. level_of m + 1 ≡ level_of n) (λ m. level_of m ≤ level_of n - 1) (λ m e. omega arith) cs h.levels) in
    omega arith

pub place_wide : (p : Place) → 0 < (point_of p).w
place_wide p = plain p.w p.positive
  where
    plain : (w : ℤ) → pos 0 <ℤ w → 0 < nat_abs w
    plain w h = omega (arith, ints)
