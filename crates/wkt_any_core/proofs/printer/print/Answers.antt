use Rattle.wkt_any_core.proofs.CanonicalLemmas.{canonical_reads}
use Rattle.wkt_any_core.proofs.printer.print.Goals as goal

pub returns-clause-again : goal.returns-clause-again
returns-clause-again c = λ rings keyword places wide reads. canonical_reads c.args.scale wide rings keyword places c.args.geometry.now reads

pub returns-in_err-push_geometry-clause-again : goal.returns-in_err-push_geometry-clause-again
returns-in_err-push_geometry-clause-again c = λ rings keyword places wide reads. canonical_reads c.args.scale wide rings keyword places c.args.geometry.now reads
