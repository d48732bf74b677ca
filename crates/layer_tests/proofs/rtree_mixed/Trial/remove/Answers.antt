use Rattle.layer_tests.proofs.NumberLemmas.{fresh_still}
use Rattle.layer_tests.proofs.rtree_mixed.Trial.remove.Goals as goal

pub returns : goal.returns
returns c = λ k h.
    fresh_still c.in_ok-entry.entry c.args.self.now.tree c.remove.new.self c.in_ok-removed.removed k c.in_ok-removed.ensures.loses
    c.in_ok-removed.ensures.unchanged h
