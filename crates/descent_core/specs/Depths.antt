-- The pairs of nodes at a depth below a pair.
use Rattle.std.specs.Prelude.{ℕ, zero, suc, List, [], ◌∷◌}
use Rattle.std.specs.List.{flat_map}
use Rattle.rtree_core.specs.declared.node.Node.{Node}
use Rattle.rtree_core.specs.Nodes.{children_of}
use Rattle.descent_core.specs.Lists.{pairs}

-- the children, or the node itself if there are none
abbrev pub or_itself : Node → List Node → List Node
or_itself n [] = n ∷ []
or_itself n (c ∷ cs) = c ∷ cs

-- the nodes one level below a node: its children, or the node itself if it is a leaf
abbrev pub lower : Node → List Node
lower n = or_itself n (children_of n)

-- the pairs one level below a pair
abbrev pub lower_pairs : Node × Node → List (Node × Node)
lower_pairs p = pairs (lower p.0) (lower p.1)

-- the pairs of a left and a right node that are each this number of levels below those of the pair,
-- or are leaves at a higher level; ordered by their paths, whose positions are taken alternately
abbrev pub at_depth : ℕ → Node × Node → List (Node × Node)
at_depth zero p = p ∷ []
at_depth (suc d) p = flat_map (at_depth d) (lower_pairs p)
