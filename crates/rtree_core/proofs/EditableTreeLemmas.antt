-- The effect of insertions into a tree, one after another.
use Rattle.std.proofs.Common.{arith, ◌≡◌, ℕ, zero, suc, ◌+◌, ◌*◌, ◌<◌, ◌≤◌, Bool, true, false, cond, List, [], ◌∷◌, ◌++◌, refl, ◌∙◌, ap, append-nil, length, ◌^◌}
use Rattle.std.specs.Prelude.{vec_len, Option, None, Some, IsSomeAnd}
use Rattle.std.proofs.lemmas.Nat.{mul-le}
use Rattle.std.proofs.lemmas.List.Elements.{All-push, All-cons, All-nil}
use Rattle.std.proofs.lemmas.List.Sums.{sum_by-append, sum_by-cons}
use Rattle.geom_core.specs.declared.shape.Shape.{Shape}
use Rattle.std.specs.declared.alloc.Global.{Global}
use Rattle.std.specs.declared.vec.Vec.{Vec}
use Rattle.rtree_core.specs.declared.node.Entry.{Entry}
use Rattle.rtree_core.specs.declared.node.Node.{Node}
use Rattle.rtree_core.specs.declared.editable_tree.EditableTree.{EditableTree}
use Rattle.rtree_core.specs.Insertions.{StaysOne, ComesInTwo}
use Rattle.rtree_core.specs.Items.{FitsInner, IsNodeOf}
use Rattle.rtree_core.specs.Nodes.{entries_of, level_of, size_of, IsLawfulAt}
use Rattle.rtree_core.specs.FreeLists.{AreFree, IsFree, IsSpent}
use Rattle.split_core.specs.Collections.{HasSame}
use Rattle.split_core.specs.Splits.{IsRoom}
use Rattle.rtree_core.specs.Trees.{entries_in, height_of, IsFresh, IsRoot, IsTree}
use Rattle.rtree_core.specs.EditableTrees.{IsSound, IsRooted, CanTake, HasTakenIn, HasGrownBy}
use Rattle.rtree_core.proofs.NodeLemmas.{leaf_some, lawful_level, lawful_is}
use Rattle.rtree_core.proofs.TreeLemmas.{tree_gains, same_length}

-- lists for more insertions are enough for fewer
pub can_take_less : (m n : ℕ) (t : EditableTree) → m ≤ n → CanTake n t → CanTake m t
can_take_less m n t le e = record {
  leaves = omega (arith, e.leaves);
  inners = omega (arith, e.inners, mul-le m (t.height + m) n (t.height + n) le (omega arith));
  low = omega (arith, e.low);
}

one_more : (n b : ℕ) → (1 + n) * b ≡ b + n * b
one_more n b = omega arith

-- after an insertion, which uses a number of lists, there are enough for the others
can_take_after : (n : ℕ) (s t : EditableTree) →
    t.height ≤ s.height + 1 →
    vec_len s.free.leaves ≤ vec_len t.free.leaves + 1 →
    vec_len s.free.inners ≤ vec_len t.free.inners + s.height →
    CanTake (1 + n) s →
    CanTake n t
can_take_after n s t le leaf inner e = record {
  leaves = omega (arith, e.leaves);
  inners = omega (arith, e.inners, one_more n (s.height + (1 + n)), mul-le n (t.height + n) n (s.height + (1 + n)) (omega arith) (omega arith));
  low = omega (arith, e.low);
}

-- the items removed from a collection, except some that were added again, are gone from the whole
pub lost_but_back : (e : Entry) (old kept aside after : List Entry) →
    HasSame (e ∷ (kept ++ aside)) old →
    HasSame (aside ++ kept) after →
    HasSame (e ∷ after) old
lost_but_back e old kept aside after loses gains p =
    let count : Entry → ℕ = λ x. cond (p x) 1 0 in
    omega (
      arith,
      loses p,
      gains p,
      sum_by-cons count e (kept ++ aside),
      sum_by-cons count e after,
      sum_by-append count kept aside,
      sum_by-append count aside kept,
    )

lone_at : (l : ℕ) (n : Node) → IsLawfulAt l n → (0 < l → 2 ≤ size_of n) → size_of n < 2 → IsLawfulAt 0 n × (size_of n ≡ 1)
lone_at zero n lawful two few = (lawful, omega (arith, leaf_some n lawful))
lone_at (suc l) n lawful two few = absurd (omega (arith, two (omega arith)))

-- a root that has fewer than two items is a leaf of one
pub lone_root : (n : Node) → IsRoot n → size_of n < 2 → IsLawfulAt 0 n × (size_of n ≡ 1)
lone_root n root few = lone_at (level_of n) n root.lawful root.two few

-- a tree that was emptied, or wasn't
pub emptied_rooted : (gone : Bool) (old new : EditableTree) →
    IsRooted old →
    (gone ≡ true → new ≡ record old { root = None; height = 0 }) →
    (gone ≡ false → new ≡ old) →
    IsRooted new
emptied_rooted true old new rooted emptied kept =
    rw (emptied refl) (record { sound = record { lawful = tt; height_is = refl; lists = rooted.sound.lists }; root = tt })
emptied_rooted false old new rooted emptied kept = rw (kept refl) rooted

-- the last of a collection is gone from it
pub lost_last : (e : Entry) (old after : List Entry) → old ≡ e ∷ [] → after ≡ [] → HasSame (e ∷ after) old
lost_last e old after last none = rw (last, none) (λ p. refl)

some_of : (r : Option Node) (P : Node → Type 0) → IsSomeAnd r P → (m : Node) × (r ≡ Some m) × P m
some_of None P h = absurd h
some_of (Some m) P h = (m, refl, h)

module _ (added : List Entry) (shape : Shape) (old : EditableTree) (n : Node) (is : old.root ≡ Some n) (sound : IsSound old) where
  height : old.height ≡ level_of n + 1
  height = sound.height_is ∙ ap height_of is

  -- a root took the entries in
  pub root_stays : (new : EditableTree) (m : Node) →
      new.root ≡ Some m →
      new.height ≡ old.height →
      StaysOne added shape n m →
      IsSpent (level_of n) old.free new.free →
      HasTakenIn 1 added old new
  root_stays new m there same stays spent =
      let level = lawful_level (level_of n) m stays.lawful in
      record {
        sound = record {
          lawful = rw there (lawful_is (level_of n) m stays.lawful);
          height_is = rw (there, level) (same ∙ height);
          lists = spent.lists;
        };
        gains = rw (is, there) stays.gains;
        no_lower = omega arith;
        spent = λ k e. can_take_after k old new (omega arith) spent.leaf (omega (arith, height, spent.inner)) e;
        rooted = λ h.
            let was : IsRoot n = rw is at h in
            rw there (record { lawful = lawful_is (level_of n) m stays.lawful; two = λ k. omega (arith, was.two (omega (arith, level)), stays.bigger) });
      }

  -- a root was split, and a level came over it
  pub root_splits : (mid new : EditableTree) (one two : Node) →
      mid.root ≡ Some one →
      mid.height ≡ old.height →
      ComesInTwo added shape n one two →
      IsSpent (level_of n) old.free mid.free →
      HasGrownBy two mid new →
      HasTakenIn 1 added old new
  root_splits mid new one two there same splits spent grown =
      let root = some_of new.root (λ m. (size_of m ≡ 2) × IsLawfulAt (suc (level_of two)) m) grown.root in
      let m : Node = root.0 in
      let root_is : new.root ≡ Some m = root.1 in
      let lawful : IsLawfulAt (suc (level_of two)) m = root.2.1 in
      let level = lawful_level (suc (level_of two)) m lawful in
      let two_level = lawful_level (level_of n) two splits.two_lawful in
      record {
        sound = record {
          lawful = rw root_is (lawful_is (suc (level_of two)) m lawful);
          height_is = rw (root_is, level) (omega (arith, grown.height_is, height, two_level));
          lists = grown.lists;
        };
        gains = rw (is, grown.entries, there) splits.gains;
        no_lower = omega (arith, grown.height_is);
        spent = λ k e. can_take_after k old new (omega (arith, grown.height_is)) (omega (arith, spent.leaf, ap vec_len grown.leaf))
            (omega (arith, height, spent.inner, grown.inner)) e;
        rooted = λ h. rw root_is (record { lawful = lawful_is (suc (level_of two)) m lawful; two = λ k. omega (arith, root.2.0) });
      }

-- two nodes have a parent
of_two : (l : ℕ) (a b n : Node) →
    FitsInner (suc l) a →
    FitsInner (suc l) b →
    IsNodeOf (λ m. m.cover) entries_of FitsInner ((a ∷ []) ++ b ∷ []) n →
    (size_of n ≡ 2) × IsLawfulAt (suc l) n × (entries_of n ≡ entries_of a ++ entries_of b)
of_two l a b n p q node = (
  node.size,
  node.lawful (suc l) (All-push (FitsInner (suc l)) (a ∷ []) b (All-cons (FitsInner (suc l)) a [] p (All-nil (FitsInner (suc l)))) q),
  node.entries_are ∙ ap (λ es. entries_of a ++ es) (append-nil (entries_of b)),
)

-- a new root was made of the old one and a second node, and its list was taken from the free ones
pub root_grown : (second first n : Node) (old new : EditableTree) (list page full : Vec Node Global) →
    old.root ≡ Some first →
    IsSomeAnd old.root (FitsInner (suc (level_of second))) →
    FitsInner (suc (level_of second)) second →
    new.root ≡ Some n →
    new.height ≡ old.height + 1 →
    IsRoom list →
    page.items ≡ list.items ++ first ∷ [] →
    full.items ≡ page.items ++ second ∷ [] →
    IsNodeOf (λ m. m.cover) entries_of FitsInner full.items n →
    AreFree old.free →
    IsFree new.free.inners.items →
    vec_len new.free.inners + 1 ≡ vec_len old.free.inners →
    new.free.leaves ≡ old.free.leaves →
    HasGrownBy second old new
root_grown second first n old new list page full was fits second_fits is height room one both node lists inners taken leaves =
    let items : full.items ≡ (first ∷ []) ++ second ∷ [] = both ∙ ap (λ xs. xs ++ second ∷ []) (one ∙ ap (λ xs. xs ++ first ∷ []) room.empty) in
    let parent = of_two (level_of second) first second n (rw was at fits) second_fits (rw items at node) in
    record {
      root = rw is (parent.0, parent.1);
      entries = rw (is, was) parent.2;
      height_is = height;
      lists = record { leaves = rw leaves lists.leaves; inners = inners };
      leaf = leaves;
      inner = omega (arith, taken);
    }

pub took_none : (t : EditableTree) → IsSound t → HasTakenIn 0 [] t t
took_none t sound = record {
  sound = sound;
  gains = λ p. refl;
  no_lower = omega arith;
  spent = λ n e. can_take_less n (0 + n) t (omega arith) e;
  rooted =
      λ h. h;
}

pub took_both : (i j : ℕ) (xs ys : List Entry) (r q p : EditableTree) →
    HasTakenIn i xs r q →
    HasTakenIn j ys q p →
    HasTakenIn (i + j) (xs ++ ys) r p
took_both i j xs ys r q p first second = record {
  sound = second.sound;
  gains = λ b.
      let count : Entry → ℕ = λ e. cond (b e) 1 0 in
      omega (
        arith,
        first.gains b,
        second.gains b,
        sum_by-append count (xs ++ ys) (entries_in r.root),
        sum_by-append count xs ys,
        sum_by-append count xs (entries_in r.root),
        sum_by-append count ys (entries_in q.root),
      );
  no_lower = omega (arith, first.no_lower, second.no_lower);
  spent = λ n e. second.spent n (first.spent (j + n) (can_take_less (i + (j + n)) ((i + j) + n) r (omega arith) e));
  rooted = λ h. second.rooted (first.rooted h);
}

-- a tree whose root had not changed took an entry in
pub tree_takes : (x : Entry) (root : Option Node) (old new : EditableTree) →
    x.number < 2 ^ 32 →
    IsFresh x.number root →
    IsTree root →
    old.root ≡ root →
    HasTakenIn 1 (x ∷ []) old new →
    IsTree new.root
tree_takes x root old new small fresh tree is took =
    tree_gains x root new.root small fresh tree (rw is at took.gains) (took.rooted (rw is tree.lawful))

pub takes_length : (x : Entry) (root : Option Node) (old new : EditableTree) →
    old.root ≡ root →
    HasTakenIn 1 (x ∷ []) old new →
    length (entries_in root) + 1 ≡ length (entries_in new.root)
takes_length x root old new is took = omega (arith, same_length (x ∷ entries_in root) (entries_in new.root) (rw is at took.gains))
