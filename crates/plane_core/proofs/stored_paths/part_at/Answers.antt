use Rattle.std.proofs.Common.{length}
use Rattle.plane_core.proofs.EnvelopeLemmas.{path_is, before_end, end_within}
use Rattle.plane_core.proofs.stored_paths.part_at.Goals as goal

pub slice_bounds-result-count : goal.slice_bounds-result-count
slice_bounds-result-count c = before_end c.args.ends.now (length c.args.vertices.now) _ c.args.i c.start_at-start.ensures c.requires.within c.requires.cuts

pub slice_bounds-result-start : goal.slice_bounds-result-start
slice_bounds-result-start c = before_end c.args.ends.now (length c.args.vertices.now) _ c.args.i c.start_at-start.ensures c.requires.within c.requires.cuts

pub slice_bounds-result-end : goal.slice_bounds-result-end
slice_bounds-result-end c = end_within 0 c.args.ends.now (length c.args.vertices.now) c.args.i c.requires.within c.requires.cuts

pub returns : goal.returns
returns c = path_is c.args.ends.now c.args.vertices.now _ c.args.i c.start_at-start.ensures c.requires.within
