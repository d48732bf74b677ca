use Rattle.any_relation_core.proofs.AnyLemmas.{holds_for_disjoint}
use Rattle.any_relation_core.proofs.DisjointLemmas.{forbids_disjoint}
use Rattle.any_relation_core.proofs.any_relation.AnyRelation.new.Goals as goal

pub returns-then-allowed : goal.returns-then-allowed
returns-then-allowed c =
    let found = holds_for_disjoint c.args.rings c.args.relation (c.allows_apart-allowed.ensures.0 c.if-allowed.true) in
    record {
      ok = (λ e. absurd cc, λ forbids. absurd (forbids found.first found.second found.first_is found.second_is found.disjoint found.holds));
      same = tt;
      rings = tt;
      err = found;
    }

pub invariant_of-join : goal.invariant_of-join
invariant_of-join c = record {
  forbids_disjoint = forbids_disjoint c.args.rings c.args.relation (λ allows. absurd (cc (c.allows_apart-allowed.ensures.1 allows)));
  implied = ∣ c.of-boxes.ensures ∣₁;
}
