use Rattle.std.proofs.Common.{sym, ◌∙◌}
use Rattle.noding_core.proofs.AsideLemmas.{level_vertex}
use Rattle.noding_core.proofs.GatherLemmas.{end_vertex}
use Rattle.noding_core.proofs.nodes.push_inner.Goals as goal

pub returns-then-not-is_level-clause-here : goal.returns-then-not-is_level-clause-here
returns-then-not-is_level-clause-here c = level_vertex c.args.e.now _ c.args.v.now (sym c.is_level.ensures ∙ c.if-not-is_level.true)

pub returns-then-is_end-clause-here : goal.returns-then-is_end-clause-here
returns-then-is_end-clause-here c = end_vertex c.args.e.now _ c.args.v.now c.requires.ends (sym c.is_end.ensures ∙ c.if-is_end.true)
