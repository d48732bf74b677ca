-- A scan of the edges of a tree is a scan of all edges, since the skipped edges change nothing.
use Rattle.std.proofs.Common.{arith, ◌≡◌, ◌<◌, ◌+◌, ℕ, Bool, true, false, cond, ◌||◌, List, [], ◌∷◌, ◌++◌, length, get_or, take, map, refl, sym, ap, subst, ◌∙◌, append_assoc, append-nil, All}
use Rattle.std.specs.Prelude.{count_by, nat_lt}
use Rattle.std.specs.List.{list_any, flat_map}
use Rattle.std.proofs.lemmas.List.{map-append, take_more, ext_get_or, get_or_default, get_or-map, length-map}
use Rattle.std.proofs.lemmas.List.Concat.{flat_map-append}
use Rattle.std.proofs.lemmas.List.Folds.{list_any-append}
use Rattle.std.proofs.lemmas.List.Sums.{sum_by_push, sum_by-cons}
use Rattle.std.proofs.lemmas.List.Elements.{All-head, All-tail, All-weaker}
use Rattle.geom_core.specs.declared.shape.Shape.{Shape}
use Rattle.geom_core.specs.Cells.{IsIn}
use Rattle.plane_core.specs.declared.edge.Edge.{Edge}
use Rattle.plane_core.specs.declared.outline.Scan.{Scan}
use Rattle.plane_core.specs.Points.{Point, is_on, is_below, is_at_or_below}
use Rattle.plane_core.specs.Boxes.{is_over}
use Rattle.plane_core.specs.Figures.{is_odd}
use Rattle.plane_core.specs.Outlines.{IsScan}
use Rattle.plane_core.proofs.OutlineLemmas.{any_count}
use Rattle.rtree_core.specs.declared.node.Entry.{Entry}
use Rattle.rtree_core.specs.declared.node.Node.{Node}
use Rattle.rtree_core.specs.Nodes.{entries_of}
use Rattle.edge_index_core.specs.Trees.{IsEntryIn, HoldsEdges}
use Rattle.edge_index_core.specs.Entries.{AreEntriesOf}
use Rattle.edge_index_core.specs.Scans.{edges_at, AddsScan}
use Rattle.edge_index_core.proofs.TreeLemmas.{nowhere}
use Rattle.edge_index_core.proofs.OverLemmas.{LiesClear, lies_clear, not_over_in}

-- an edge that is clear of the point changes nothing
none_on : (es : List Edge) (e : Edge) (p : Point) (b : Bool) → is_on e p ≡ false → b ≡ list_any (λ x. is_on x p) es → b ≡ list_any (λ x. is_on x p) (es ++ e ∷ [])
none_on es e p b off h = h ∙ sym (list_any-append (λ x. is_on x p) es (e ∷ []) ∙ plain (list_any (λ x. is_on x p) es) (is_on e p) off)
  where
    plain : (s t : Bool) → t ≡ false → (s || (t || false)) ≡ s
    plain true t h = refl
    plain false t h = rw h refl

none_more : (f : Edge → Bool) (es : List Edge) (e : Edge) → f e ≡ false → count_by f (es ++ e ∷ []) ≡ count_by f es
none_more f es e off = sum_by_push (λ x. cond {A = ℕ} (f x) 1 0) es e ∙ plain (count_by f es) (f e) off
  where
    plain : (n : ℕ) (t : Bool) → t ≡ false → n + cond {A = ℕ} t 1 0 ≡ n
    plain n t h = rw h (omega arith)

pub scan_clear : (es : List Edge) (e : Edge) (p : Point) (s : Scan) → LiesClear e p → IsScan es p s → IsScan (es ++ e ∷ []) p s
scan_clear es e p s clear h = record {
  on = none_on es e p s.is_on clear.on h.on;
  below = h.below ∙ ap is_odd (sym (none_more (λ x. is_below x p) es e clear.below));
  at_or_below = h.at_or_below ∙ ap is_odd (sym (none_more (λ x. is_at_or_below x p) es e clear.at_or_below));
}

pub adds_nothing : (es : List Edge) (p : Point) (s : Scan) → AddsScan es p [] s s
adds_nothing es p s = record { added = λ d done h. rw append-nil h }

pub adds_both : (es : List Edge) (p : Point) (xs ys : List Entry) (a b c : Scan) → AddsScan es p xs a b → AddsScan es p ys b c → AddsScan es p (xs ++ ys) a c
adds_both es p xs ys a b c h k = record {
  added = λ d done s. subst (λ (l : List Edge). IsScan l p c)
      (append_assoc done (edges_at es d xs) (edges_at es d ys) ∙ ap (λ (l : List Edge). done ++ l) (sym (map-append (λ x. get_or es x.number d) xs ys)))
      (k.added d (done ++ edges_at es d xs) (h.added d done s));
}

-- one entry, whose edge is added
pub adds_one : (es : List Edge) (p : Point) (x : Entry) (e : Edge) (a b : Scan) → x.number < length es → e ≡ get_or es x.number e
    → ((done : List Edge) → IsScan done p a → IsScan (done ++ e ∷ []) p b) → AddsScan es p (x ∷ []) a b
adds_one es p x e a b lt is more = record {
  added = λ d done s. subst (λ (f : Edge). IsScan (done ++ f ∷ []) p b) (is ∙ get_or_default es x.number e d lt) (more done s);
}

-- entries whose edges are clear of the point
adds_clear : (es : List Edge) (p : Point) (x : Entry) (s : Scan) → 0 < p.w → IsEntryIn es x → is_over x.shape p ≡ false → AddsScan es p (x ∷ []) s s
adds_clear es p x s wide entry off = record {
  added = λ d done h. scan_clear done (get_or es x.number d) p s (lies_clear (get_or es x.number d) p x.shape wide (entry.box_is d) off) h;
}

pub adds_none : (es : List Edge) (p : Point) (xs : List Entry) (s : Scan) → 0 < p.w → All (IsEntryIn es) xs → All (λ x. is_over x.shape p ≡ false) xs → AddsScan es p xs s s
adds_none es p [] s wide all off = adds_nothing es p s
adds_none es p (x ∷ xs) s wide all off =
    adds_both es p (x ∷ []) xs s s s
    (adds_clear es p x s wide (All-head (IsEntryIn es) x xs all) (All-head (λ y. is_over y.shape p ≡ false) x xs off))
    (adds_none es p xs s wide (All-tail (IsEntryIn es) x xs all) (All-tail (λ y. is_over y.shape p ≡ false) x xs off))

-- one entry more of a list
pub adds_more_met : (es : List Edge) (p : Point) (xs : List Entry) (i : ℕ) (x : Entry) (e : Edge) (a b c : Scan) → i < length xs → x ≡ get_or xs i x
    → AddsScan es p (take i xs) a b → x.number < length es → e ≡ get_or es x.number e → ((done : List Edge) → IsScan done p b → IsScan (done ++ e ∷ []) p c)
    → AddsScan es p (take (i + 1) xs) a c
adds_more_met es p xs i x e a b c lt at h within is more =
    subst (λ (l : List Entry). AddsScan es p l a c) (sym (take_more xs i x lt ∙ ap (λ (y : Entry). take i xs ++ y ∷ []) (sym at)))
    (adds_both es p (take i xs) (x ∷ []) a b c h (adds_one es p x e b c within is more))

pub adds_more_missed : (es : List Edge) (p : Point) (xs : List Entry) (i : ℕ) (x : Entry) (a b : Scan) → 0 < p.w → i < length xs → x ≡ get_or xs i x
    → AddsScan es p (take i xs) a b → IsEntryIn es x → is_over x.shape p ≡ false → AddsScan es p (take (i + 1) xs) a b
adds_more_missed es p xs i x a b wide lt at h entry off =
    subst (λ (l : List Entry). AddsScan es p l a b) (sym (take_more xs i x lt ∙ ap (λ (y : Entry). take i xs ++ y ∷ []) (sym at)))
    (adds_both es p (take i xs) (x ∷ []) a b b h (adds_clear es p x b wide entry off))

-- one node more of a list
pub nodes_more : (ns : List Node) (i : ℕ) (n : Node) → i < length ns → n ≡ get_or ns i n → flat_map entries_of (take (i + 1) ns) ≡ flat_map entries_of (take i ns) ++ entries_of n
nodes_more ns i n lt at =
    ap (flat_map entries_of) (take_more ns i n lt) ∙ flat_map-append entries_of (take i ns) (get_or ns i n ∷ [])
    ∙ ap (λ ys. flat_map entries_of (take i ns) ++ ys) (append-nil (entries_of (get_or ns i n)) ∙ ap entries_of (sym at))

pub adds_more_node : (es : List Edge) (p : Point) (ns : List Node) (i : ℕ) (n : Node) (a b c : Scan) → i < length ns → n ≡ get_or ns i n
    → AddsScan es p (flat_map entries_of (take i ns)) a b → AddsScan es p (entries_of n) b c → AddsScan es p (flat_map entries_of (take (i + 1) ns)) a c
adds_more_node es p ns i n a b c lt at h k =
    subst (λ (l : List Entry). AddsScan es p l a c) (sym (nodes_more ns i n lt at)) (adds_both es p (flat_map entries_of (take i ns)) (entries_of n) a b c h k)

-- a node over whose cover the point isn't adds nothing
pub adds_pruned : (es : List Edge) (p : Point) (n : Node) (cover : Shape) (s : Scan) → 0 < p.w → All (λ x. IsIn x.shape cover) (entries_of n) → All (IsEntryIn es) (entries_of n)
    → is_over cover p ≡ false → AddsScan es p (entries_of n) s s
adds_pruned es p n cover s wide inside all off =
    adds_none es p (entries_of n) s wide all
    (All-weaker (λ x. IsIn x.shape cover) (λ x. is_over x.shape p ≡ false) (λ x i. not_over_in x.shape cover p wide i off) (entries_of n) inside)

-- a scan by counts alone
scan_same : (es fs : List Edge) (p : Point) (s : Scan) → ((f : Edge → Bool) → count_by f es ≡ count_by f fs) → IsScan es p s → IsScan fs p s
scan_same es fs p s same h = record {
  on = h.on ∙ any_count (λ e. is_on e p) es ∙ ap (nat_lt 0) (same (λ e. is_on e p)) ∙ sym (any_count (λ e. is_on e p) fs);
  below = h.below ∙ ap is_odd (same (λ e. is_below e p));
  at_or_below = h.at_or_below ∙ ap is_odd (same (λ e. is_at_or_below e p));
}

count_map : {A B : Type 0} (f : B → Bool) (g : A → B) (xs : List A) → count_by f (map g xs) ≡ count_by (λ x. f (g x)) xs
count_map f g [] = refl
count_map f g (x ∷ xs) =
    sum_by-cons (λ y. cond {A = ℕ} (f y) 1 0) (g x) (map g xs) ∙ ap (λ (n : ℕ). cond {A = ℕ} (f (g x)) 1 0 + n) (count_map f g xs)
    ∙ sym (sum_by-cons (λ y. cond {A = ℕ} (f (g y)) 1 0) x xs)

-- the edges that the entries number are the edges
named_all : (es : List Edge) (d : Edge) (entries : List Entry) → AreEntriesOf es entries → edges_at es d entries ≡ es
named_all es d [] are = ext_get_or d [] es are.len (λ i lt. absurd (omega (arith, lt)))
named_all es d (x ∷ xs) are =
    ext_get_or d (edges_at es d (x ∷ xs)) es (length-map (x ∷ xs) (λ y. get_or es y.number d) ∙ are.len)
    (λ i lt. here i (omega (arith, lt, length-map (x ∷ xs) (λ y. get_or es y.number d))))
  where
    here : (i : ℕ) → i < length (x ∷ xs) → get_or (edges_at es d (x ∷ xs)) i d ≡ get_or es i d
    here i within =
        get_or-map (λ y. get_or es y.number d) (x ∷ xs) i x d within
        ∙ ap (λ (n : ℕ). get_or es n d) (are.each i (omega (arith, within, are.len)) d x).number_is

-- a scan of all that a tree holds
pub scan_held : (es : List Edge) (held : List Entry) (p : Point) (a b : Scan) → HoldsEdges es held → IsScan [] p a → AddsScan es p held a b → IsScan es p b
scan_held es held p a b holds none h =
    scan_same (edges_at es nowhere held) es p b
    (λ f. count_map f (λ x. get_or es x.number nowhere) held ∙ sym (holds.same (λ x. f (get_or es x.number nowhere)))
    ∙ sym (count_map f (λ x. get_or es x.number nowhere) holds.entries) ∙ ap (count_by f) (named_all es nowhere holds.entries holds.are))
    (h.added nowhere [] none)
