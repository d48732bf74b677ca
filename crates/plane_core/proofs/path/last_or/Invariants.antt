use Rattle.std.proofs.Common.{◌≡◌, take}
use Rattle.plane_core.specs.Figures.{last_or}
use Rattle.plane_core.proofs.path.last_or.Given as goal

abbrev pub invariant-loop-v : goal.invariant-loop-v
invariant-loop-v l = l.last ≡ last_or l.fn.first (take l.v-index l.rest)
