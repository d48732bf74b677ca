use Rattle.std.proofs.lemmas.Result.{on_ok_weaker}
use Rattle.nearest_core.proofs.OpenLemmas.{inner_opened}
use Rattle.nearest_core.proofs.search.open.Goals as goal

pub returns-else-leaf : goal.returns-else-leaf
returns-else-leaf c =
    on_ok_weaker c.push_children.result
    (inner_opened _ _ _ _ _ c.requires c.children.ensures.entries (c.children.ensures.lawful c.requires)) c.push_children.ensures
