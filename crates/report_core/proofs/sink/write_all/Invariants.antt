use Rattle.std.proofs.Common.{◌≡◌, length, false}
use Rattle.report_core.proofs.WrittenLemmas.{AppendsUpTo}
use Rattle.report_core.proofs.sink.write_all.Given as goal

abbrev pub invariant-loop-rest : goal.invariant-loop-rest
invariant-loop-rest g l =
    (g.S.Sink.has_failed l.sink ≡ false) × AppendsUpTo (g.S.Sink.written l.initial.sink) (g.S.Sink.written l.sink) l.text l.rest

abbrev pub decreases-loop-rest : goal.decreases-loop-rest
decreases-loop-rest g l = length l.rest
