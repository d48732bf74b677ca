use Rattle.plane_core.proofs.EnvelopeLemmas.{lines_count, rings_count}
use Rattle.plane_core.proofs.stored_paths.path_count.Goals as goal

pub returns-in-Lines : goal.returns-in-Lines
returns-in-Lines c = lines_count c.args.kind c.args.ends.now c.args.vertices.now c.in-Lines.is

pub returns-in-Areas : goal.returns-in-Areas
returns-in-Areas c = rings_count c.args.kind c.args.ends.now c.args.vertices.now c.in-Areas.is
