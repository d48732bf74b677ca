use Rattle.std.proofs.Common.{subst}
use Rattle.format_core.specs.Formats.{ReadsAny}
use Rattle.run_core.specs.EditedLayers.{files_by}
use Rattle.run_core.specs.ImproperRings.{AreRingsImproper}
use Rattle.run_core.specs.Marks.{marked_lists}
use Rattle.run_core.specs.SourceStates.{HasFailed}
use Rattle.run_core.specs.TextRuns.{MakesText}
use Rattle.join_core.specs.AnyJoinings.{any_joining}
use Rattle.join_core.specs.Products.{join_making}
use Rattle.command_core.proofs.joining.join_request_text.Goals as goal

pub returns-in-Boxes : goal.returns-in-Boxes
returns-in-Boxes g c = rw c.in-Boxes.is c.join_text.ensures

-- `c.rings-rings` is the rule for rings of the relation
pub returns-in-Any : goal.returns-in-Any
returns-in-Any g c =
    let join = c.args.join.now in
    let F = g.F.Source in
    rw c.in-Any.is
    (subst (λ rings. MakesText (join_making join.product (any_joining c.in-Any.relation)) (AreRingsImproper rings)
    (files_by c.args.unreadable (ReadsAny join.scale rings) F.remaining F.remaining F.remaining c.args.sources.now)
    (HasFailed F.has_failed F.has_failed F.has_failed c.join_text-in-Any.new.sources)
    (marked_lists c.join_text-in-Any.new.marked) c.join_text-in-Any.result) c.rings-rings.ensures c.join_text-in-Any.ensures)
