use Rattle.plane_core.specs.Places.{point_of}
use Rattle.plane_core.proofs.outline.scan_of.Goals as goal

pub loop-e-init : goal.loop-e-init
loop-e-init c = c.empty-scan.ensures (point_of c.args.p.now.place)
