use Rattle.std.proofs.Common.{rules, length}
use Rattle.plane_core.proofs.StoredLemmas.{cut_bound}
use Rattle.plane_core.proofs.check.are_rings.Goals as goal

pub slice_bounds-is_ring-end : goal.slice_bounds-is_ring-end
slice_bounds-is_ring-end c = cut_bound c.loop-end.start c.args.ends.now (length c.args.vertices.now) c.loop-end.end-index (search rules) c.loop-end.invariant.cuts
