use Rattle.std.proofs.Common.{rules, length}
use Rattle.plane_core.proofs.StoredLemmas.{cut_bound}
use Rattle.plane_core.proofs.geometry.push_all_edges.Goals as goal

pub slice_bounds-push_edges-end : goal.slice_bounds-push_edges-end
slice_bounds-push_edges-end c = cut_bound c.loop-end.start c.args.ends.now (length c.args.vertices.now) c.loop-end.end-index (search rules) c.loop-end.invariant.cuts
