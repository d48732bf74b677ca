use Rattle.std.proofs.Common.{sym, ◌∙◌, ap}
use Rattle.std.specs.Prelude.{not}
use Rattle.wkt_any_core.proofs.WideLemmas.{wide_by}
use Rattle.wkt_any_core.proofs.figure.is_wide.Goals as goal

pub returns-in-len2-up : goal.returns-in-len2-up
returns-in-len2-up c = ap not c.are_level.ensures ∙ sym (wide_by c.args.ring.now c.a-item.result c.b-item.result c.in-len2-up.len_at_least c.a-item.is c.b-item.is)
