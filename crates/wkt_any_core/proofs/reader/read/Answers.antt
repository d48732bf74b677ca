use Rattle.std.proofs.Common.{Err}
use Rattle.wkt_any_core.specs.declared.fault.GeometryFault.TheVariants.{Text}
use Rattle.wkt_any_core.proofs.AnswerLemmas.{text_reading, raw_reading, if_ok}
use Rattle.wkt_any_core.proofs.reader.read.Goals as goal

pub returns-in_default-clause-reads : goal.returns-in_default-clause-reads
returns-in_default-clause-reads c = rw c.in_default.is at c.in_ok-raw.ensures.none

pub returns-in_default-clause-only : goal.returns-in_default-clause-only
returns-in_default-clause-only c =
    (text_reading c.args.scale c.args.text.now c.args.rings (Err Text) (rw c.in_default.is at c.in_ok-raw.ensures.none)).only

pub returns-clause-reads : goal.returns-clause-reads
returns-clause-reads c =
    if_ok _ _ c.geometry.result (λ a r. r.reads)
    (raw_reading c.args.scale c.args.rings c.args.text.now c.in-Some.raw c.geometry.result (rw c.in-Some.is at c.in_ok-raw.ensures.some) c.geometry.ensures)

pub returns-clause-only : goal.returns-clause-only
returns-clause-only c =
    if_ok _ _ c.geometry.result (λ a r. r.only)
    (raw_reading c.args.scale c.args.rings c.args.text.now c.in-Some.raw c.geometry.result (rw c.in-Some.is at c.in_ok-raw.ensures.some) c.geometry.ensures)
