use Rattle.std.proofs.Common.{rules}
use Rattle.pair_core.proofs.SortLemmas.{written_sorted}
use Rattle.deliver_core.proofs.collector.Outcome.sort_by_threads.Goals as goal

pub returns-clause-ascending : goal.returns-clause-ascending
returns-clause-ascending g c =
    let pairs = c.self.inside.pairs in
    written_sorted pairs.len pairs.items c.sort_pairs_by_threads.new.pairs (search rules) c.sort_pairs_by_threads.ensures.ascending
