use Rattle.std.proofs.Common.{◌∷◌, [], refl, ap, arith, ◌∙◌, append_assoc}
use Rattle.std.specs.List.{flat_map}
use Rattle.std.specs.Vec.Iter.{into_iter_items}
use Rattle.refine_core.proofs.PartLemmas.{all_yielded, given_more}
use Rattle.refine_core.proofs.in_order.join_rows.Goals as goal

pub loop-row-preserved : goal.loop-row-preserved
loop-row-preserved g c =
    let before = c.loop-row.invariant in
    let row = c.in-Some.row in
    let yielded = c.loop-row.yielded in
    record {
      rows = append_assoc yielded (row ∷ []) _ ∙ rw (← c.in-Some.ensures.steps.0) before.rows;
      all = given_more (λ r. r.items) c.loop-row.all.items _ yielded row _ before.all c.in_ok-append.ensures.items refl;
    }

pub returns : goal.returns
returns g c =
    let whole = all_yielded c.loop-row.yielded (into_iter_items c.loop-row.row-iterator) c.args.rows.items c.loop-row.invariant.rows
    (omega (arith, c.loop-row.row-iterator.rest.ok, c.in-None.ensures.steps.0)) in
    c.loop-row.invariant.all ∙ ap (flat_map (λ row. row.items)) whole
