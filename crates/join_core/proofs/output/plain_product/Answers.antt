use Rattle.std.proofs.lemmas.List.Elements.{All-map}
use Rattle.report_core.specs.Reports.{IsHeld}
use Rattle.join_core.proofs.output.plain_product.Goals as goal

pub first_report-requires-clause-held : goal.first_report-requires-clause-held
first_report-requires-clause-held g c κs within =
    All-map (IsHeld c.args.left.now.list c.args.right.now.list) g.M.AsPair.pair_of c.args.matches.now c.requires.held
