use Rattle.plane_core.proofs.FractionLemmas.{cmp_level}
use Rattle.plane_core.proofs.node.compare_fractions.Goals as goal

pub returns-then-w-v : goal.returns-then-w-v
returns-then-w-v c =
    let fits = c.ranges in
    cmp_level _ c.args.x c.args.z c.args.w c.args.v fits.x fits.z fits.w fits.v c.requires c.if-w-v.true c.cmp.ensures
