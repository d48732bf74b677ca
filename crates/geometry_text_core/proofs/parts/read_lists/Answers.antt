use Rattle.geometry_text_core.proofs.parts.read_lists.Goals as goal

pub returns-then-is_multi-clause-none : goal.returns-then-is_multi-clause-none
returns-then-is_multi-clause-none c = rw c.if-is_multi.true c.read_parts.ensures.none
