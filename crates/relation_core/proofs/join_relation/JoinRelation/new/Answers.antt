use Rattle.relation_core.proofs.DisjointLemmas.{disjoint_pair, fits_disjoint}
use Rattle.relation_core.proofs.join_relation.JoinRelation.new.Goals as goal

pub returns-then-allowed : goal.returns-then-allowed
returns-then-allowed c =
    let (da, db, h, k, fits) = c.allows_disjoint-allowed.ensures.0 c.if-allowed.true in
    let (a, b, apart, holds) = disjoint_pair c.args.relation da db h k fits in
    record { ok = (λ e. absurd cc, λ forbids. absurd (forbids a b apart holds)); same = tt; err = (a, b, apart, holds) }

pub invariant_of-join : goal.invariant_of-join
invariant_of-join c = record {
  forbids_disjoint = λ a b apart holds. absurd (cc (c.allows_disjoint-allowed.ensures.1 (fits_disjoint c.args.relation a b apart holds)));
}
