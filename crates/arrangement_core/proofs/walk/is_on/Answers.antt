use Rattle.std.proofs.Common.{sym}
use Rattle.arrangement_core.proofs.walk.is_on.Goals as goal

pub returns-then-is_end : goal.returns-then-is_end
returns-then-is_end c = sym (c.is_end.ensures c.if-is_end.true)
