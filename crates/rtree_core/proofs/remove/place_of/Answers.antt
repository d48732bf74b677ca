use Rattle.std.proofs.Common.{◌≡◌, get_or, below_more}
use Rattle.rtree_core.proofs.RemovalLemmas.{place_found, not_there}
use Rattle.rtree_core.proofs.remove.place_of.Goals as goal

pub returns-then-eq-clause-found : goal.returns-then-eq-clause-found
returns-then-eq-clause-found c =
    place_found c.args.entries.now c.args.entry.now c.loop-place.place c.index-entries-place.result c.loop-place-test.true c.index-entries-place.is (cc)

pub loop-place-preserved : goal.loop-place-preserved
loop-place-preserved c =
    below_more (λ k. get_or c.args.entries.now k c.args.entry.now ≡ c.args.entry.now → ⊥) c.loop-place.place c.loop-place.invariant
    (not_there c.args.entries.now c.args.entry.now c.loop-place.place c.index-entries-place.result c.loop-place-test.true c.index-entries-place.is (cc))
