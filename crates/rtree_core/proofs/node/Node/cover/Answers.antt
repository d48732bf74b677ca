use Rattle.rtree_core.proofs.WindowLemmas.{lawful_cover}
use Rattle.rtree_core.proofs.node.Node.cover.Goals as goal

pub returns-clause-tight : goal.returns-clause-tight
returns-clause-tight c = lawful_cover _ c.args.self.now
