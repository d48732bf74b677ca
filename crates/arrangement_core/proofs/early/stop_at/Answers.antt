use Rattle.std.proofs.Common.{[], ◌∷◌, subst₂}
use Rattle.relation_core.specs.declared.extent.Extent.TheVariants.{Point as Dot}
use Rattle.plane_core.specs.declared.part.Part.{Part}
use Rattle.plane_core.specs.Places.{point_of}
use Rattle.edge_index_core.proofs.TreeLemmas.{place_wide}
use Rattle.noding_core.specs.Growth.{HasGrownBy}
use Rattle.arrangement_core.proofs.SettledLemmas.{met_asked}
use Rattle.arrangement_core.proofs.early.stop_at.Goals as goal

pub returns : goal.returns
returns c =
    let a = c.args.pair.now.first.now in
    let b = c.args.pair.now.second.now in
    c.go_on.ensures _ _
    (met_asked c.args.wanted.now c.args.pair.now.has_second a b c.args.pair.now.first_box c.args.pair.now.second_box _ (point_of c.args.p.now) _ _
    c.requires.first c.requires.bounded c.requires.long (place_wide c.args.p.now) c.requires.begun
    (subst₂ (λ (i j : Part). HasGrownBy (record { first = i; second = j; extent = Dot } ∷ []) c.args.matrix.now c.raised-next.result)
    c.part_on_edge-first.ensures c.part_on_edge-second.ensures c.raised-next.ensures))
