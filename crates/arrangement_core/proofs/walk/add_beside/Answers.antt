use Rattle.std.proofs.Common.{sym}
use Rattle.plane_core.specs.Places.{point_of}
use Rattle.shown_core.proofs.ShownLemmas.{place_standing}
use Rattle.arrangement_core.proofs.WalkLemmas.{lines_off}
use Rattle.arrangement_core.proofs.walk.add_beside.Goals as goal

pub returns-then-is_of_lines-clause-grown : goal.returns-then-is_of_lines-clause-grown
returns-then-is_of_lines-clause-grown c =
    let b = c.args.pair.now.second.now in
    let p = point_of c.args.p.now in
    place_standing b p c.args.part _ _ _ (sym (lines_off b c.args.pair.now.second_box p c.requires.bounded (c.is_of_lines.ensures c.if-is_of_lines.true) c.requires.nowhere)) c.raised-matrix.ensures
