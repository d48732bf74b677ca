use Rattle.std.proofs.Common.{[], ◌∷◌, take}
use Rattle.relation_core.specs.JoinRelations.{relation_of}
use Rattle.descent_core.specs.Finds.{Adds}
use Rattle.descent_core.proofs.rows.push_beside.Given as goal

abbrev pub invariant-loop-right : goal.invariant-loop-right
invariant-loop-right l = Adds (relation_of l.relation) (l.left ∷ []) (take l.right-index l.rights) l.initial.found.items l.found.items
