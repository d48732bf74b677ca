use Rattle.format_core.proofs.FormatLemmas.{spelled}
use Rattle.format_core.proofs.any_format.AnyFormatFormat.read.Goals as goal

pub returns-in-Ok : goal.returns-in-Ok
returns-in-Ok c =
    spelled _ _ _ _ _ (rw c.in-Ok.is at c.in_ok-geometry.ensures.reads) c.new.ensures.figure c.new.ensures.rings c.new.ensures.bounds
