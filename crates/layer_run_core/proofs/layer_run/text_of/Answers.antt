use Rattle.layer_run_core.specs.LayerRuns.{layer_fault}
use Rattle.layer_run_core.proofs.LayerRunLemmas.{text_given}
use Rattle.run_core.proofs.MarkLemmas.{layer_marked}
use Rattle.layer_run_core.proofs.layer_run.text_of.Goals as goal

pub returns-in-Ok-clause-ok : goal.returns-in-Ok-clause-ok
returns-in-Ok-clause-ok g c = text_given _ _ _ _ c.text_from.result c.in-Ok.ensures.reads.ok c.text_from.ensures.ok

pub returns-in-Err-clause-fault : goal.returns-in-Err-clause-fault
returns-in-Err-clause-fault g c = λ blame. layer_fault _ (c.in-Err.ensures.reads.fault blame)

pub returns-in-Ok-clause-marked : goal.returns-in-Ok-clause-marked
returns-in-Ok-clause-marked g c = layer_marked _ (g.F.Format.reads c.args.reader.now.format) (g.L.Source.remaining c.args.source.now) c.in-Ok.features _ c.text_from.result c.in-Ok.ensures.reads.ok c.text_from.ensures.marked
