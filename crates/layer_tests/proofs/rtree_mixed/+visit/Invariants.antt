use Rattle.rtree_core.specs.Nodes.{level_of}
use Rattle.layer_tests.proofs.rtree_mixed.+visit.Given as goal

abbrev pub decreases-visit : goal.decreases-visit
decreases-visit l = level_of l.node.now
