use Rattle.std.proofs.Common.{All, refl, subst, sym}
use Rattle.near_run_core.specs.DistanceTexts.{HasSquare}
use Rattle.near_run_core.proofs.NearestLemmas.{matches_measured}
use Rattle.near_run_core.proofs.RunLemmas.{report_made}
use Rattle.near_run_core.proofs.nearest_run.report.Goals as goal

pub report_by-requires-after_bounds : goal.report_by-requires-after_bounds
report_by-requires-after_bounds g c κs within =
    let left = c.args.left.now.list in
    let right = c.args.right.now.list in
    subst (All (HasSquare g.G.Square.Square.fraction g.G.Planar.has_point left right)) (sym c.as_slice.ensures.value)
    (matches_measured g.G.Square.Square.fraction g.G.Planar.has_point c.args.job.now.query left right c.len-left.ensures.layer _ c.in_ok-matches.ensures)

pub returns-clause-ok : goal.returns-clause-ok
returns-clause-ok g c =
    report_made _ _ _ _ _ _ c.as_slice.ensures.value
    (record { matches = c.in_ok-matches.matches.items; are_matches = c.in_ok-matches.ensures; same = refl })
    c.in_ok-texts.ensures.report
