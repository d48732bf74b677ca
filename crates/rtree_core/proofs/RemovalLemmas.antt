-- The search for an entry, and that one that finds nothing leaves the nodes as they were.
use mathlib.Core.HLevel.{is_prop→PathP}
use Rattle.std.specs.Vec.{with_items}
use Rattle.std.specs.declared.alloc.Global.{Global}
use Rattle.std.specs.declared.vec.Vec.{Vec}
use Rattle.std.proofs.Props.{props}
use Rattle.std.proofs.Common.{arith, ◌≡◌, ℕ, zero, suc, ◌+◌, ◌<◌, ◌≤◌, Bool, true, false, List, [], ◌∷◌, length, get_or, refl, sym, ◌∙◌, ap, subst, inl, inr}
use Rattle.std.proofs.Common.{below_more}
use Rattle.std.specs.Prelude.{◌↔◌, IsTrue, IsSomeAnd, Contains, Option, Some, ◌&&◌, not, nat_eq, ℤ}
use Rattle.std.specs.List.{flat_map}
use Rattle.std.specs.Ordering.{int_eq}
use Rattle.std.proofs.lemmas.List.Elements.{Contains-append_left, Contains-append_right, Contains-append_cases, All-contains}
use Rattle.std.proofs.lemmas.Bool.{false≢true}
use Rattle.std.proofs.lemmas.Bool.Decides.{nat_tests}
use Rattle.std.proofs.lemmas.Int.{ints}
use Rattle.std.proofs.lemmas.List.{get_or_default, with_items_is}
use Rattle.geom_core.specs.Joined.{same_ends}
use Rattle.geom_core.specs.Cells.{IsIn}
use Rattle.rtree_core.specs.declared.node.Entry.{Entry}
use Rattle.rtree_core.specs.declared.node.Node.{Node}
use Rattle.rtree_core.specs.Nodes.{entries_of, level_of, size_of, IsLawful, IsLawfulAt}
use Rattle.rtree_core.specs.Removals.{IsPlaceOf}
use Rattle.rtree_core.specs.Trees.{entries_in}
use Rattle.rtree_core.proofs.NodeLemmas.{has_entries}
use Rattle.rtree_core.proofs.WindowLemmas.{lawful_cover}
use Rattle.rtree_core.specs.contracts.node.EntryPartialEq.TheImpl.{eq-value}

record AllSame (a b : Entry) : Type 0 where
  x_lo : a.shape.x.lo ≡ b.shape.x.lo
  x_hi : a.shape.x.hi ≡ b.shape.x.hi
  y_lo : a.shape.y.lo ≡ b.shape.y.lo
  y_hi : a.shape.y.hi ≡ b.shape.y.hi
  number : a.number ≡ b.number

and_parts : (a b : Bool) → (a && b) ≡ true → (a ≡ true) × (b ≡ true)
and_parts true b h = (refl, h)
and_parts false b h = absurd (false≢true h)

int_same : (x y : ℤ) → int_eq x y ≡ true → x ≡ y
int_same x y h = grind (arith, ints)

number_same : (x y : ℕ) → nat_eq x y ≡ true → x ≡ y
number_same x y h = grind (arith, nat_tests)

all_same : (a b : Entry) → eq-value.it a b ≡ true → AllSame a b
all_same a b h =
    let whole = and_parts _ _ h in
    let shape = and_parts _ _ whole.0 in
    let x = and_parts _ _ shape.0 in
    let y = and_parts _ _ shape.1 in
    record {
      x_lo = int_same _ _ x.0;
      x_hi = int_same _ _ x.1;
      y_lo = int_same _ _ y.0;
      y_hi = int_same _ _ y.1;
      number = number_same _ _ whole.1;
    }

-- entries that test equal are the same
pub entry_same : (a b : Entry) → eq-value.it a b ≡ true → a ≡ b
entry_same a b h =
    let s = all_same a b h in
    let p = same_ends a.shape.x b.shape.x s.x_lo s.x_hi in
    let q = same_ends a.shape.y b.shape.y s.y_lo s.y_hi in
    λ i. record { shape = record { x = p i; y = q i }; number = s.number i }

pub entry_itself : (a : Entry) → eq-value.it a a ≡ true
entry_itself a = grind (arith, nat_tests, ints)

-- a list of one item
only : {T : Type 0} (xs : List T) (x : T) → length xs ≡ 1 → x ≡ get_or xs 0 x → xs ≡ x ∷ []
only [] x n at = absurd (omega arith)
only (y ∷ []) x n at = ap (λ z. z ∷ []) (sym at)
only (y ∷ z ∷ zs) x n at = absurd (omega arith)

-- the entries of a leaf of one
pub only_entry : (n : Node) (x : Entry) → IsLawfulAt 0 n → size_of n ≡ 1 → x ≡ get_or (entries_of n) 0 x → entries_of n ≡ x ∷ []
only_entry n x lawful one at = only (entries_of n) x (sym (has_entries n lawful).size ∙ one) at

-- which are those of a root that is this leaf
pub the_entry : (root : Option Node) (leaf : Node) (x e : Entry) (es : List Entry) →
    root ≡ Some leaf →
    IsLawfulAt 0 leaf × (size_of leaf ≡ 1) →
    es ≡ entries_of leaf →
    x ≡ get_or es 0 x →
    x ≡ e →
    entries_in root ≡ e ∷ []
the_entry root leaf x e es is one held there same = ap entries_in is ∙ only_entry leaf x one.0 one.1 (rw held at there) ∙ ap (λ z. z ∷ []) same

pub holds_only : (es : List Entry) (e : Entry) → es ≡ e ∷ [] → Contains es e
holds_only es e is = rw is (0, omega arith, refl)

-- which holds no other
pub only_one : (x e : Entry) → Contains (x ∷ []) e → e ≡ x
only_one x e (zero, lt, there) = sym there
only_one x e (suc p, lt, there) = absurd (omega arith)

-- the one entry of a root that is a leaf differs from this one, which is not there
pub other_entry : (root : Option Node) (leaf : Node) (x e : Entry) (es : List Entry) →
    root ≡ Some leaf →
    IsLawfulAt 0 leaf × (size_of leaf ≡ 1) →
    es ≡ entries_of leaf →
    x ≡ get_or es 0 x →
    not (eq-value.it x e) ≡ true →
    Contains (entries_in root) e →
    ⊥
other_entry root leaf x e es is one held there differs h =
    let only : entries_in root ≡ x ∷ [] = ap entries_in is ∙ only_entry leaf x one.0 one.1 (rw held at there) in
    let same : e ≡ x = only_one x e (rw only at h) in
    let equal : eq-value.it x e ≡ true = ap (λ z. eq-value.it x z) same ∙ entry_itself x in
    false≢true (ap not (sym equal) ∙ differs)

not_false : (t : Bool) → not t ≡ false → t ≡ true
not_false true h = refl
not_false false h = sym h

-- the one entry of a root that is a leaf is this one, or another
pub only_there : (root : Option Node) (leaf : Node) (x e : Entry) (es : List Entry) →
    root ≡ Some leaf →
    IsSomeAnd root (λ n. IsLawfulAt 0 n × (size_of n ≡ 1)) →
    es ≡ entries_of leaf →
    x ≡ get_or es 0 x →
    not (eq-value.it x e) ≡ false →
    entries_in root ≡ e ∷ []
only_there root leaf x e es is one held there same = the_entry root leaf x e es is (rw is at one) held there (entry_same x e (not_false _ same))

pub other_there : (root : Option Node) (leaf : Node) (x e : Entry) (es : List Entry) →
    root ≡ Some leaf →
    IsSomeAnd root (λ n. IsLawfulAt 0 n × (size_of n ≡ 1)) →
    es ≡ entries_of leaf →
    x ≡ get_or es 0 x →
    not (eq-value.it x e) ≡ true →
    IsTrue false ↔ Contains (entries_in root) e
other_there root leaf x e es is one held there other =
    (λ h. absurd (false≢true h), λ h. absurd (other_entry root leaf x e es is (rw is at one) held there other h))

pub place_found : (es : List Entry) (e : Entry) (p : ℕ) (x : Entry) → p < length es → x ≡ get_or es p x → eq-value.it x e ≡ true → IsPlaceOf es e p
place_found es e p x lt at same = record { inside = lt; there = get_or_default es p e x lt ∙ sym at ∙ entry_same x e same }

pub not_there : (es : List Entry) (e : Entry) (p : ℕ) (x : Entry) → p < length es → x ≡ get_or es p x → eq-value.it x e ≡ false → get_or es p e ≡ e → ⊥
not_there es e p x lt at differ there =
    let same : x ≡ e = at ∙ get_or_default es p x e lt ∙ there in
    false≢true (sym differ ∙ ap (λ z. eq-value.it z e) same ∙ entry_itself e)

-- an entry below a node is among the entries of all the nodes, and conversely
pub contains_joined : (xs : List Node) (e : Entry) (p : ℕ) (x : Node) → p < length xs → x ≡ get_or xs p x → Contains (entries_of x) e → Contains
    (flat_map entries_of xs) e
contains_joined [] e p x lt at h = absurd (omega (arith, lt))
contains_joined (y ∷ ys) e zero x lt at h = Contains-append_left (entries_of y) (flat_map entries_of ys) e (rw at at h)
contains_joined (y ∷ ys) e (suc p) x lt at h = Contains-append_right (entries_of y) (flat_map entries_of ys) e
    (contains_joined ys e p x (omega (arith, lt)) at h)

contains_parted : (xs : List Node) (e : Entry) → Contains (flat_map entries_of xs) e → (p : ℕ) × (p < length xs) ×
    ((d : Node) → Contains (entries_of (get_or xs p d)) e)
contains_parted [] e h = absurd (omega (arith, h.1))
contains_parted (x ∷ xs) e h =
    elim (Contains-append_cases (entries_of x) (flat_map entries_of xs) e h) [
      | inl here ↦ (0, omega arith, λ d. here)
      | inr later ↦
          let there = contains_parted xs e later in
          (suc there.0, omega (arith, there.1), there.2)
    ]

-- an entry's shape lies in the cover of a node that has it
pub cover_holds : (n : Node) (e : Entry) → IsLawful n → Contains (entries_of n) e → IsIn e.shape n.cover
cover_holds n e lawful h = All-contains (λ x. IsIn x.shape n.cover) (entries_of n) e (lawful_cover (level_of n) n lawful).contains h

pub none_above : (xs : List Node) (e : Entry) (n : ℕ) →
    ((k : ℕ) (d : Node) → k < n → Contains (entries_of (get_or xs k d)) e → ⊥) →
    length xs ≤ n →
    Contains (flat_map entries_of xs) e →
    ⊥
none_above [] e n none le h = absurd (omega (arith, h.1))
none_above (x ∷ xs) e n none le h =
    let there = contains_parted (x ∷ xs) e h in
    none there.0 x (omega (arith, there.1)) (there.2 x)

-- no place so far, and not this one
pub none_so_far : (xs : List Node) (e : Entry) (i : ℕ) (x : Node) →
    i < length xs →
    x ≡ get_or xs i x →
    ((k : ℕ) (d : Node) → k < i → Contains (entries_of (get_or xs k d)) e → ⊥) →
    (Contains (entries_of x) e → ⊥) →
    (k : ℕ) (d : Node) →
    k < i + 1 →
    Contains (entries_of (get_or xs k d)) e →
    ⊥
none_so_far xs e i x lt at before here k d h c =
    below_more (λ m. (b : Node) → Contains (entries_of (get_or xs m b)) e → ⊥) i (λ m p b. before m b p)
    (λ b q. here (subst (λ z. Contains (entries_of z) e) (get_or_default xs i b x lt ∙ sym at) q)) k h d c

-- a list of nodes into which the nodes that it has were written is as it was
pub list_as_it_was : (v : Vec Node Global) (xs : List Node) → xs ≡ v.items → with_items v xs ≡ v
list_as_it_was v xs same =
    let written = with_items v xs in
    let p : written.items ≡ v.items = with_items_is v xs (ap length same ∙ sym v.ok.0) ∙ same in
    λ i. record {
      ptr = v.ptr;
      len = v.len;
      cap = v.cap;
      alloc = v.alloc;
      items = p i;
      ok = is_prop→PathP (λ j. (v.len ≡ length (p j)) × (v.len ≤ v.cap)) (λ j. hlevel props) written.ok v.ok i;
      small = v.small;
    }
