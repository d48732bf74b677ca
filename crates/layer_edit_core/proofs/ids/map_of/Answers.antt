use Rattle.std.specs.Vec.Iter.{into_iter_items}
use Rattle.layer_edit_core.proofs.IdLemmas.{inserted_next}
use Rattle.layer_edit_core.proofs.ids.map_of.Goals as goal

pub loop-id-preserved : goal.loop-id-preserved
loop-id-preserved c =
    inserted_next c.args.entries.items c.loop-id.others.entries _ (into_iter_items c.loop-id.id-iterator) (into_iter_items c.next.new.self) c.in-Some.id c.in-Some.number
    c.requires c.loop-id.invariant c.in-Some.ensures.steps.0 c.in_ok-insert.ensures.entries
