use Rattle.rtree_core.proofs.InsertionLemmas.{leaf_added}
use Rattle.rtree_core.proofs.ItemLemmas.{page_list}
use Rattle.rtree_core.proofs.insert.add_entry.Goals as goal

pub add-requires-clause-list : goal.add-requires-clause-list
add-requires-clause-list c = page_list _ _ _ c.requires.lawful

pub returns-clause-inserted : goal.returns-clause-inserted
returns-clause-inserted c = leaf_added _ _ _ _ _ _ c.requires.lawful (search) (search)
