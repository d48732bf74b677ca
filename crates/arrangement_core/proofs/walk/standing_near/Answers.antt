use Rattle.std.proofs.Common.{sym, ap}
use Rattle.plane_core.specs.declared.outline.Kind.{Kind}
use Rattle.plane_core.specs.Outlines.{above_by}
use Rattle.plane_core.specs.Places.{point_of}
use Rattle.arrangement_core.proofs.walk.standing_near.Goals as goal

pub returns-then-is_of_lines-clause-above : goal.returns-then-is_of_lines-clause-above
returns-then-is_of_lines-clause-above c =
    let b = c.args.pair.now.second.now in
    sym (ap (λ (k : Kind). above_by k b.edges.items (point_of c.args.p.now)) (c.is_of_lines.ensures c.if-is_of_lines.true))
