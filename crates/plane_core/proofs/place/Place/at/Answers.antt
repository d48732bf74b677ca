use Rattle.std.proofs.Common.{refl}
use Rattle.plane_core.proofs.NodeLemmas.{same_point}
use Rattle.plane_core.proofs.PlaceLemmas.{vertex_own}
use Rattle.plane_core.proofs.place.Place.at.Goals as goal

pub returns : goal.returns
returns c = same_point _ _ (vertex_own c.args.v.now.x) (vertex_own c.args.v.now.y) refl
