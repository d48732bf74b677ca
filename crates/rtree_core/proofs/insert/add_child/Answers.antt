use Rattle.rtree_core.proofs.InsertionLemmas.{child_added}
use Rattle.rtree_core.proofs.ItemLemmas.{open_inner, page_list}
use Rattle.rtree_core.proofs.insert.add_child.Goals as goal

pub add-requires-clause-list : goal.add-requires-clause-list
add-requires-clause-list c = page_list _ _ _ (open_inner _ _ c.requires.lawful).inner.page

pub returns-clause-inserted : goal.returns-clause-inserted
returns-clause-inserted c = child_added _ _ _ _ _ _ c.requires.lawful c.requires.fits (search) (search)
