use Rattle.std.proofs.Common.{AllPairs, ap, subst, sym, ◌∙◌}
use Rattle.descent_core.specs.Rows.{Precedes}
use Rattle.layer_core.specs.Edits.{both}
use Rattle.refine_core.specs.Refinements.{pairs_of}
use Rattle.join_core.specs.Firsts.{firsts_of}
use Rattle.join_core.proofs.AnyFirstsLemmas.{firsts_near, firsts_reported}
use Rattle.join_core.proofs.any_product.first_report.Goals as goal

pub first_pairs-requires : goal.first_pairs-requires
first_pairs-requires g c = subst (λ ms. AllPairs Precedes (pairs_of ms)) (sym c.as_slice.ensures.value) c.in_ok-outcome.ensures.pairs.in_order

pub matrix_report-requires-clause-near : goal.matrix_report-requires-clause-near
matrix_report-requires-clause-near g c κs within =
    firsts_near c.args.relation.now (both c.args.left.now.list c.args.right.now.list) (pairs_of c.in_ok-outcome.outcome.matches.items) _ _
    c.as_slice-2.ensures.value (c.in_ok-firsts.ensures ∙ ap (λ ms. firsts_of (pairs_of ms)) c.as_slice.ensures.value) c.in_ok-outcome.ensures.pairs

pub returns-clause-ok : goal.returns-clause-ok
returns-clause-ok g c =
    firsts_reported c.args.relation.now (both c.args.left.now.list c.args.right.now.list) (pairs_of c.in_ok-outcome.outcome.matches.items) _ _
    c.as_slice-2.ensures.value (c.in_ok-firsts.ensures ∙ ap (λ ms. firsts_of (pairs_of ms)) c.as_slice.ensures.value) c.in_ok-outcome.ensures.pairs
    c.matrix_report.result c.matrix_report.ensures.ok
