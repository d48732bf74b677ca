use Rattle.std.proofs.Common.{sym, ◌∙◌}
use Rattle.arrangement_core.proofs.OutsideLemmas.{vertex_part}
use Rattle.arrangement_core.proofs.known.part_from.Goals as goal

pub returns-then-is_outside : goal.returns-then-is_outside
returns-then-is_outside c =
    sym (vertex_part c.args.pair.now.second.now c.args.pair.now.second_box c.args.v.now c.requires.bounded (sym c.is_outside.ensures ∙ c.if-is_outside.true))
