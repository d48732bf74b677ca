-- The quadratic split: the groups to which a list of items is assigned.
use Rattle.std.specs.Prelude.{◌≡◌, ◌≢◌, ℕ, ◌+◌, ◌<◌, ◌≤◌, Bool, true, false, List, [], ◌∷◌, ◌++◌}
use Rattle.std.specs.Prelude.{length, slice_index_or, remove, vec_len, vec_capacity}
use Rattle.std.specs.Ordering.{nat_cmp, ordering_then, is_lt}
use Rattle.std.specs.declared.alloc.Global.{Global}
use Rattle.std.specs.declared.vec.Vec.{Vec}
use Rattle.geom_core.specs.declared.shape.Shape.{Shape}
use Rattle.geom_core.specs.Shapes.{area_of, cover_of}
use Rattle.split_core.specs.Limits.{fewest, most}
use Rattle.split_core.specs.Collections.{HasSame}
use Rattle.split_core.specs.Choices.{enlargement, IsNext, AreSeeds}

-- a group of a split so far: its items in the order of assignment, and their cover
pub record Group (T : Type 0) : Type 0 where
  pub items : List T
  pub cover : Shape

abbrev pub group : {T : Type 0} → List T → Shape → Group T
group xs c = record { items = xs; cover = c }

-- the group of one item
abbrev pub begun : {T : Type 0} → (T → Shape) → T → Group T
begun cover x = record { items = x ∷ []; cover = cover x }

-- the group with one more item at its end
abbrev pub joined : {T : Type 0} → (T → Shape) → Group T → T → Group T
joined cover g x = record { items = g.items ++ x ∷ []; cover = cover_of g.cover (cover x) }

-- whether the first of two groups is the better one for a shape: it needs less enlargement, or else
-- is smaller, or else has fewer items
abbrev pub costs_less : {T : Type 0} → Shape → Group T → Group T → Bool
costs_less s one two =
    is_lt
    (ordering_then
    (nat_cmp (enlargement one.cover s) (enlargement two.cover s))
    (ordering_then
    (nat_cmp (area_of one.cover) (area_of two.cover))
    (nat_cmp (length one.items) (length two.items))))

-- of `rest` remaining items, neither of two groups with `one` and `two` items needs all
pub record CanChoose (rest one two : ℕ) : Type 0 where
  pub some : 0 < rest
  pub one_can_wait : one + rest ≢ fewest
  pub two_can_wait : two + rest ≢ fewest

-- the item x at index k of the rest is the next to be assigned
pub record IsTaken {T : Type 0} (cover : T → Shape) (rest : List T) (one two : Group T) (k : ℕ)
    (x : T) : Type 0 where
  pub can_choose : CanChoose (length rest) (length one.items) (length two.items)
  pub next : IsNext cover rest one.cover two.cover k
  pub item : x ≡ slice_index_or rest k x

-- assigning the rest to two groups, in their current state, ends with the lists a and b
pub data IsDealt {T : Type 0} (cover : T → Shape) :
    List T → Group T → Group T → List T → List T → Type 0 where
  done : {one two : Group T} → IsDealt cover [] one two one.items two.items
  rest_to_one : {rest : List T} {one two : Group T} →
      length one.items + length rest ≡ fewest →
      IsDealt cover rest one two (one.items ++ rest) two.items
  rest_to_two : {rest : List T} {one two : Group T} →
      length two.items + length rest ≡ fewest →
      IsDealt cover rest one two one.items (two.items ++ rest)
  to_one : {rest : List T} {one two : Group T} {k : ℕ} {x : T} {a b : List T} →
      IsTaken cover rest one two k x →
      costs_less (cover x) two one ≡ false →
      IsDealt cover (remove rest k) (joined cover one x) two a b →
      IsDealt cover rest one two a b
  to_two : {rest : List T} {one two : Group T} {k : ℕ} {x : T} {a b : List T} →
      IsTaken cover rest one two k x →
      costs_less (cover x) two one ≡ true →
      IsDealt cover (remove rest k) one (joined cover two x) a b →
      IsDealt cover rest one two a b

-- the lawful split: each group starts with a seed, and the rest is assigned
pub record IsSplit {T : Type 0} (cover : T → Shape) (items one two : List T) : Type 0 where
  pub i : ℕ
  pub j : ℕ
  pub x : T
  pub y : T
  pub seeds : AreSeeds cover items i j
  pub first_seed : x ≡ slice_index_or items i x
  pub second_seed : y ≡ slice_index_or items j y
  pub dealt : IsDealt cover (remove (remove items j) i) (begun cover x) (begun cover y) one two

-- an empty list with room for all items of a split
pub record IsRoom {T : Type 0} (v : Vec T Global) : Type 0 where
  pub empty : v.items ≡ []
  pub room : most + 1 ≤ vec_capacity v

-- there is one item more than a node may have, and room for both groups
pub record CanSplit {T : Type 0} (rest one two : Vec T Global) : Type 0 where
  pub nine : vec_len rest ≡ most + 1
  pub one_room : IsRoom one
  pub two_room : IsRoom two

-- the two groups of a lawful split: together they are the items, and each has enough
pub record AreGroups {T : Type 0} (cover : T → Shape) (items one two : List T) : Type 0 where
  pub split : IsSplit cover items one two
  pub same : HasSame items (one ++ two)
  pub one_enough : fewest ≤ length one
  pub two_enough : fewest ≤ length two
  pub all : length one + length two ≡ length items
