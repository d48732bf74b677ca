use Rattle.std.proofs.Common.{◌≡◌, drop}
use Rattle.plane_core.specs.Checks.{are_cuts}
use Rattle.plane_core.proofs.check.are_cuts.Given as goal

abbrev pub invariant-loop-end : goal.invariant-loop-end
invariant-loop-end l = are_cuts 0 l.ends l.n ≡ are_cuts l.start (drop l.end-index l.ends) l.n
