use Rattle.plane_core.proofs.EnvelopeLemmas.{among_lines, among_rings}
use Rattle.plane_core.proofs.StoredLemmas.{lines_cut, rings_cut}
use Rattle.plane_core.proofs.stored_paths.path_at.Goals as goal

pub part_at-requires-clause-within : goal.part_at-requires-clause-within
part_at-requires-clause-within c = among_lines c.args.kind c.args.ends.now c.args.vertices.now c.args.i c.in-Lines.is c.requires.within

pub part_at-requires-in-Areas-clause-within : goal.part_at-requires-in-Areas-clause-within
part_at-requires-in-Areas-clause-within c = among_rings c.args.kind c.args.ends.now c.args.vertices.now c.args.i c.in-Areas.is c.requires.within

pub part_at-requires-clause-cuts : goal.part_at-requires-clause-cuts
part_at-requires-clause-cuts c = lines_cut c.args.kind c.args.ends.now _ c.in-Lines.is c.requires.cuts

pub part_at-requires-in-Areas-clause-cuts : goal.part_at-requires-in-Areas-clause-cuts
part_at-requires-in-Areas-clause-cuts c = rings_cut c.args.kind c.args.ends.now _ c.in-Areas.is c.requires.cuts
