use Rattle.std.proofs.Common.{rules, ◌≡◌, sym, ◌∙◌}
use Rattle.plane_core.specs.Checks.{is_stored}
use Rattle.plane_core.proofs.CheckLemmas.{stored_fact, stored_iff, stored_as, figure_as}
use Rattle.plane_core.proofs.geometry.Geometry.new.Goals as goal

pub invariant_of-result : goal.invariant_of-result
invariant_of-result c =
    let e : c.is_stored.result ≡ is_stored c.args.kind c.args.ends.items c.args.vertices.items = search rules in
    stored_as _ _ _ _ _ _ c.fitted.ensures (search rules) c.needed_ends.ensures.stored (stored_fact _ _ _ (sym e ∙ c.if-is_stored.true))

pub returns-then-is_stored-clause-figure : goal.returns-then-is_stored-clause-figure
returns-then-is_stored-clause-figure c = figure_as _ _ _ _ _ _ c.fitted.ensures (search rules) c.needed_ends.ensures.figure

pub returns-then-is_stored-clause-some : goal.returns-then-is_stored-clause-some
returns-then-is_stored-clause-some c =
    let e : c.is_stored.result ≡ is_stored c.args.kind c.args.ends.items c.args.vertices.items = search rules in
    stored_iff _ _ _ _ (sym c.if-is_stored.true ∙ e)

pub returns-else-is_stored-clause-some : goal.returns-else-is_stored-clause-some
returns-else-is_stored-clause-some c =
    let e : c.is_stored.result ≡ is_stored c.args.kind c.args.ends.items c.args.vertices.items = search rules in
    stored_iff _ _ _ _ (sym c.if-is_stored.false ∙ e)
