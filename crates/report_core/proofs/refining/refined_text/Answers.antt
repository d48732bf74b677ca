use Rattle.std.proofs.Common.{All, subst, sym, rules, ◌∙◌}
use Rattle.std.specs.Slice.Iter.{chunks_rest}
use Rattle.report_core.specs.Columns.{AreColumnsFor}
use Rattle.report_core.specs.ReportRows.{AddsRows, IsRowOf}
use Rattle.report_core.proofs.RefiningLemmas.{all_matches, columns_refined, nothing_written, block_written, all_written}
use Rattle.report_core.proofs.refining.refined_text.Goals as goal

pub loop-block-init : goal.loop-block-init
loop-block-init g c =
    let condition = c.args.condition.now in
    let row = IsRowOf (λ found. found.pair) (g.F.LastField.name_of c.args.fields.now.last.now) (g.F.LastField.is_field c.args.fields.now.last.now) c.args.left.now.list c.args.right.now.list in
    record {
      can_next = search rules;
      finite = tt;
      written = nothing_written (g.C.Condition.stands condition) (g.C.Condition.answers condition) row c.args.candidates.now _ _ (search rules)
          c.in_ok-text.ensures.items;
    }

pub push_rows-requires-clause-held : goal.push_rows-requires-clause-held
push_rows-requires-clause-held g c =
    let condition = c.args.condition.now in
    let is_match = g.F.LastField.is_match c.args.left.now.list c.args.right.now.list in
    subst (All is_match) (sym c.as_slice.ensures.value)
    (all_matches (g.C.Condition.stands condition) (g.C.Condition.answers condition) is_match c.requires.matches c.in_ok-refined.ensures)

pub push_rows-requires-clause-ids : goal.push_rows-requires-clause-ids
push_rows-requires-clause-ids g c =
    let condition = c.args.condition.now in
    let written = c.loop-block.invariant.written in
    subst (λ refined. AreColumnsFor (λ found. found.pair) c.args.left.now.list c.args.right.now.list refined c.args.fields.now.ids.now)
    (sym c.as_slice.ensures.value)
    (columns_refined (g.C.Condition.stands condition) (g.C.Condition.answers condition) c.args.fields.now.ids.now c.args.left.now.list c.args.right.now.list
    c.args.candidates.now written.done (chunks_rest c.loop-block.block-iterator) c.in-Some.block.now (chunks_rest c.next.new.self) c.in_ok-refined.refined.items
    written.split c.in-Some.ensures.steps.1.0 c.in_ok-refined.ensures c.requires.ids)

pub loop-block-preserved : goal.loop-block-preserved
loop-block-preserved g c =
    let condition = c.args.condition.now in
    let row = IsRowOf (λ found. found.pair) (g.F.LastField.name_of c.args.fields.now.last.now) (g.F.LastField.is_field c.args.fields.now.last.now) c.args.left.now.list c.args.right.now.list in
    record {
      can_next = search rules;
      finite = tt;
      written = block_written (g.C.Condition.stands condition) (g.C.Condition.answers condition) row c.args.candidates.now
          (chunks_rest c.loop-block.block-iterator) c.in-Some.block.now (chunks_rest c.next.new.self) c.in_ok-refined.refined.items
          c.loop-block.text.items c.push_rows.new.text.items c.loop-block.invariant.written c.in-Some.ensures.steps.1.0 c.in_ok-refined.ensures
          (subst (λ refined. AddsRows row refined c.loop-block.text.items c.push_rows.new.text.items) c.as_slice.ensures.value c.in_ok-push_rows.ensures);
    }

pub returns : goal.returns
returns g c =
    let condition = c.args.condition.now in
    let row = IsRowOf (λ found. found.pair) (g.F.LastField.name_of c.args.fields.now.last.now) (g.F.LastField.is_field c.args.fields.now.last.now) c.args.left.now.list c.args.right.now.list in
    all_written (g.C.Condition.stands condition) (g.C.Condition.answers condition) row c.args.candidates.now (chunks_rest c.loop-block.block-iterator)
    c.loop-block.text.items c.loop-block.invariant.written c.in-None.ensures.steps.1.0
