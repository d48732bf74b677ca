-- The lists of a split while its items are assigned.
use Rattle.std.specs.Prelude.{◌≡◌, ◌+◌, ◌<◌, ◌≤◌, List, vec_len, vec_capacity}
use Rattle.std.specs.declared.alloc.Global.{Global}
use Rattle.std.specs.declared.vec.Vec.{Vec}
use Rattle.geom_core.specs.declared.shape.Shape.{Shape}
use Rattle.split_core.specs.declared.split.Covers.{Covers}
use Rattle.split_core.specs.Limits.{most}
use Rattle.split_core.specs.Splits.{group, CanChoose, IsDealt}

-- the remaining items, the two groups, and their covers
pub record Dealing (T : Type 0) : Type 0 where
  pub rest : Vec T Global
  pub one : Vec T Global
  pub two : Vec T Global
  pub covers : Covers

abbrev pub dealing : {T : Type 0} → Vec T Global → Vec T Global → Vec T Global → Covers → Dealing T
dealing rest one two covers = record { rest = rest; one = one; two = two; covers = covers }

-- assigning from here ends with the groups a and b
abbrev pub EndsWith : {T : Type 0} → (T → Shape) → Dealing T → List T → List T → Type 0
EndsWith cover d a b =
    IsDealt cover d.rest.items (group d.one.items d.covers.one) (group d.two.items d.covers.two) a b

-- each group has room for all items
pub record CanDeal {T : Type 0} (d : Dealing T) : Type 0 where
  pub few : vec_len d.one + vec_len d.two + vec_len d.rest ≤ most + 1
  pub one_room : most + 1 ≤ vec_capacity d.one
  pub two_room : most + 1 ≤ vec_capacity d.two

-- neither group needs all remaining items, and each has room for one more
pub record CanDealOne {T : Type 0} (d : Dealing T) : Type 0 where
  pub can_choose : CanChoose (vec_len d.rest) (vec_len d.one) (vec_len d.two)
  pub one_room : vec_len d.one < vec_capacity d.one
  pub two_room : vec_len d.two < vec_capacity d.two

-- one item was assigned to a group: the groups at the end are the same from both states
pub record HasDealtOne {T : Type 0} (cover : T → Shape) (old new : Dealing T) : Type 0 where
  pub step : (a b : List T) → EndsWith cover new a b → EndsWith cover old a b
  pub smaller : vec_len new.rest + 1 ≡ vec_len old.rest
  pub larger : vec_len new.one + vec_len new.two ≡ vec_len old.one + vec_len old.two + 1
  pub rest_capacity : vec_capacity new.rest ≡ vec_capacity old.rest
  pub one_capacity : vec_capacity new.one ≡ vec_capacity old.one
  pub two_capacity : vec_capacity new.two ≡ vec_capacity old.two
