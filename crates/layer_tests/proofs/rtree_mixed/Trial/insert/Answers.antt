use Rattle.std.proofs.Common.{arith}
use Rattle.layer_tests.proofs.NumberLemmas.{fresh_after}
use Rattle.layer_tests.proofs.rtree_mixed.Trial.insert.Goals as goal

pub returns : goal.returns
returns c = λ k h. fresh_after _ c.args.self.now.tree c.insert.new.self k c.in_ok-insert.ensures.ok (λ e. omega arith) (c.requires k (omega arith))
