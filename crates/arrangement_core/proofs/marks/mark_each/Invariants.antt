use Rattle.std.proofs.Common.{map, take}
use Rattle.relation_core.specs.declared.extent.Extent.TheVariants.{Point as Dot}
use Rattle.plane_core.specs.Points.{at}
use Rattle.noding_core.specs.Growth.{HasGrownBy, mark_at}
use Rattle.arrangement_core.proofs.marks.mark_each.Given as goal

abbrev pub invariant-loop-v : goal.invariant-loop-v
invariant-loop-v l = HasGrownBy (map (λ v. mark_at l.own l.other Dot (at v)) (take l.v-index l.points)) l.fn.matrix l.grown
