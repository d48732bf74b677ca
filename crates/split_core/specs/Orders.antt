-- The orders of the costs for a cover, or a group of a split, to include a shape.
use Rattle.std.specs.Prelude.{Bool}
use Rattle.std.specs.Ordering.{nat_cmp, ordering_then, is_lt}
use Rattle.split_core.specs.declared.measures.Need.{Need}
use Rattle.split_core.specs.declared.split.Cost.{Cost}

-- by enlargement, and then by area
abbrev pub is_less_need : Need → Need → Bool
is_less_need a b =
    is_lt (ordering_then (nat_cmp a.enlargement b.enlargement) (nat_cmp a.area b.area))

-- by enlargement, then by area, and then by size
abbrev pub is_less_cost : Cost → Cost → Bool
is_less_cost a b =
    is_lt
    (ordering_then
    (nat_cmp a.need.enlargement b.need.enlargement)
    (ordering_then (nat_cmp a.need.area b.need.area) (nat_cmp a.size b.size)))
