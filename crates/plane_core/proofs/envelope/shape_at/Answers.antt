use Rattle.std.proofs.Common.{rules}
use Rattle.plane_core.proofs.EnvelopeLemmas.{corners_as, no_none}
use Rattle.plane_core.proofs.envelope.shape_at.Goals as goal

pub unreachable-requires : goal.unreachable-requires
unreachable-requires c = no_none c.new.result c.in-None.is (c.new.ensures.some.1 (corners_as c.args.v.now _ _ (search rules) (search rules)))
