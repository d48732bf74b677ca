use Rattle.plane_core.specs.Places.{point_of}
use Rattle.plane_core.specs.declared.outline.Kind.TheVariants.{Areas as Rings}
use Rattle.std.proofs.Common.{rules, ◌≡◌}
use Rattle.edge_index_core.proofs.TreeLemmas.{place_wide}
use Rattle.arrangement_core.proofs.OutsideLemmas.{outside_off}
use Rattle.arrangement_core.proofs.walk.part_outside.Goals as goal

pub returns-then-is_end_outside : goal.returns-then-is_end_outside
returns-then-is_end_outside c =
    let area : c.args.pair.now.second.now.kind ≡ Rings = search rules in
    outside_off c.args.pair.now.second.now c.args.pair.now.second_box (point_of c.args.p.now) c.requires.bounded (place_wide c.args.p.now) area (c.is_end_outside.ensures c.if-is_end_outside.true)
