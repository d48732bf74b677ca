-- Layers with prepared geometries may be shared by threads, if geometries and their prepared forms may. `knot` is the
-- module of the cycle of types of a tree's nodes.
use denote.Ref.{NamedLft}
use denote.RattleType.{RattleType}
use denote.Param.Send.{IsSync, sendable}
use Rattle.std.proofs.Crossing.{crosses}
use Rattle.rtree_core.proofs.node.Below.TheLaws.TheKnot as knot
use Rattle.layer_core.specs.declared.geometry.Geometry as HasBox
use Rattle.prepared_core.specs.declared.preparation.Preparation as Preparation
use Rattle.prepared_core.specs.contracts.layer.PreparedLayer as PreparedLayer

pub layer_sync : (κ : NamedLft) (G P M : RattleType) (boxes : HasBox.Ghosts G.Denot) (preparation : Preparation.Ghosts M.Denot G.Denot P.Denot)
    → IsSync G → IsSync P → IsSync M → IsSync (PreparedLayer.the_row κ G P M boxes preparation)
layer_sync κ G P M boxes preparation of_geometry of_form of_marker =
    search (sendable, crosses, knot.crosses) depth 60 fits 20000
