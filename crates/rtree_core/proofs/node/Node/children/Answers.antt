use Rattle.rtree_core.proofs.NodeLemmas.{given_entries, given_children}
use Rattle.rtree_core.proofs.node.Node.children.Goals as goal

pub returns-clause-entries : goal.returns-clause-entries
returns-clause-entries c = given_entries c.args.self.now c.in-Children.children _ c.in-Children.is c.deref.ensures.value

pub returns-clause-lawful : goal.returns-clause-lawful
returns-clause-lawful c = given_children c.args.self.now c.in-Children.children _ c.in-Children.is c.deref.ensures.value
