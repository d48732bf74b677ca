use Rattle.std.proofs.Common.{rules, length}
use Rattle.plane_core.proofs.StoredLemmas.{cut_bound}
use Rattle.wkt_any_core.proofs.figure.are_wide.Goals as goal

pub slice_bounds-is_wide-end : goal.slice_bounds-is_wide-end
slice_bounds-is_wide-end c = cut_bound c.loop-end.start c.args.ends.now (length c.args.vertices.now) c.loop-end.end-index (search rules) c.loop-end.invariant.cuts
