-- A search of two layers may be shared by threads, if geometries and their forms may.
use denote.Ref.{NamedLft}
use denote.RattleType.{RattleType}
use denote.Param.Send.{IsSync, sendable}
use Rattle.std.proofs.Crossing.{crosses}
use Rattle.std.specs.declared.clone.Clone as Clone
use Rattle.layer_core.specs.declared.geometry.Geometry as HasBox
use Rattle.rtree_core.proofs.node.Below.TheLaws.TheKnot as knot
use Rattle.planar_core.specs.declared.planar.Planar as Planar
use Rattle.planar_core.specs.declared.square.Square as Square
use Rattle.prepared_core.proofs.SyncLemmas.{layer_sync}
use Rattle.nearest_core.specs.contracts.prepared.ForNearest as ForNearest
use Rattle.nearest_core.specs.contracts.matches.LayerSearch as LayerSearch

marker_sync : (G : RattleType) → IsSync G → IsSync (ForNearest.the_row G)
marker_sync G of_geometry = search (sendable, crosses) depth 60 fits 20000

pub search_sync : (κ : NamedLft) (G Q F : RattleType) (planar : Planar.Ghosts G.Denot Q.Denot F.Denot) (boxes : HasBox.Ghosts G.Denot)
    (square : Square.Ghosts Q.Denot) (cloned : Clone.Ghosts Q.Denot) → IsSync G → IsSync F → IsSync (LayerSearch.the_row κ G Q F planar boxes square cloned)
search_sync κ G Q F planar boxes square cloned of_geometry of_form =
    search (sendable, crosses, knot.crosses, layer_sync, marker_sync) depth 60 fits 20000
