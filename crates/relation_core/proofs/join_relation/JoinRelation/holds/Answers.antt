use Rattle.std.proofs.Common.{sym, ◌∙◌}
use Rattle.std.proofs.lemmas.Bool.{false≢true}
use Rattle.relation_core.proofs.join_relation.JoinRelation.holds.Goals as goal

pub returns-else-meets-clause-holds : goal.returns-else-meets-clause-holds
returns-else-meets-clause-holds c =
    let apart = c.if-meets.false in
    let forbids = c.args.self.now.forbids_disjoint c.args.a.now c.args.b.now in
    (λ e. absurd (false≢true (sym apart ∙ e)), λ holds. absurd (forbids (λ meets. false≢true (sym apart ∙ c.meets-meets.ensures.1 meets)) holds))
