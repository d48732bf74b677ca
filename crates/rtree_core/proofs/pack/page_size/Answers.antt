use Rattle.rtree_core.proofs.PackLemmas.{share_of}
use Rattle.rtree_core.proofs.pack.page_size.Goals as goal

pub returns-clause-share : goal.returns-clause-share
returns-clause-share c = share_of c.items_in.result c.args.items c.args.pages c.requires c.items_in.ensures.value
