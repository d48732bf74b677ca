use Rattle.command_core.proofs.SkipLemmas.{counts_line, on_line}
use Rattle.command_core.proofs.notes.tell_skipped.Goals as goal

pub returns-clause-told : goal.returns-clause-told
returns-clause-told g c =
    on_line _ _ _ _ c.write.result _ _
    (counts_line c.args.counts _ _ _ _ _ _ _ c.begun-line.ensures.text c.push.ensures.text c.push-2.ensures.text c.format.ensures.text c.push-3.ensures.text c.push-4.ensures.text c.format-2.ensures.text)
    c.write.ensures.ok c.write.ensures.err c.write.ensures.failed
