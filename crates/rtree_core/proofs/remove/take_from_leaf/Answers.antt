use Rattle.std.proofs.Common.{rules}
use Rattle.rtree_core.proofs.TakeLemmas.{leaf_holds, leaf_lacks, leaf_taken_from}
use Rattle.rtree_core.proofs.remove.take_from_leaf.Goals as goal

pub returns-in_default-clause-held : goal.returns-in_default-clause-held
returns-in_default-clause-held c = search (rules, leaf_lacks, c.in_default.ensures.none)

pub returns-clause-held : goal.returns-clause-held
returns-clause-held c = leaf_holds _ _ _ _ _ c.deref.ensures.value c.in-Some.ensures.found

pub returns-clause-taken : goal.returns-clause-taken
returns-clause-taken c h = search (rules, leaf_taken_from _ _ _ _ _ c.requires.lawful c.requires.two c.deref.ensures.value c.in-Some.ensures.found)
