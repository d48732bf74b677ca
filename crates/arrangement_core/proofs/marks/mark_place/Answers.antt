use Rattle.plane_core.specs.Places.{point_of}
use Rattle.noding_core.specs.Growth.{mark_in}
use Rattle.noding_core.proofs.GrowthLemmas.{grown_none}
use Rattle.arrangement_core.proofs.marks.mark_place.Goals as goal

pub returns-then-is_place_shown : goal.returns-then-is_place_shown
returns-then-is_place_shown c = grown_none (mark_in c.args.part c.args.other.now (point_of c.args.p.now)) c.args.matrix (c.is_place_shown.ensures c.if-is_place_shown.true)
