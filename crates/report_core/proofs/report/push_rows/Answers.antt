use Rattle.std.proofs.Common.{ap, subst, arith, rules}
use Rattle.std.proofs.lemmas.List.{take_all}
use Rattle.report_core.specs.Columns.{id_in}
use Rattle.report_core.specs.ReportRows.{AddsRows, IsRowOf}
use Rattle.report_core.proofs.ReportLemmas.{at_item, number_within, field_in, has_field, none_added, has_column, match_added}
use Rattle.report_core.proofs.report.push_rows.Goals as goal

pub loop-place-init : goal.loop-place-init
loop-place-init g c = none_added _ _ _ (search rules)

pub unwrap-left_id-requires : goal.unwrap-left_id-requires
unwrap-left_id-requires g c =
    let a = c.index-matches-place in
    has_field _ _ (c.at-left_field.ensures (id_in c.args.left.now.list) c.requires.ids.left_column
    (number_within (λ a. (g.M.AsPair.pair_of a).0) _ _ _ _ _ c.requires.ids.left_within c.loop-place-test.true a.is
    (ap (λ p. p.0) c.as_pair-pair.ensures)))

pub unwrap-right_id-requires : goal.unwrap-right_id-requires
unwrap-right_id-requires g c =
    let a = c.index-matches-place in
    has_field _ _ (c.at-right_field.ensures (id_in c.args.right.now.list) c.requires.ids.right_column
    (number_within (λ a. (g.M.AsPair.pair_of a).1) _ _ _ _ _ c.requires.ids.right_within c.loop-place-test.true a.is
    (ap (λ p. p.1) c.as_pair-pair.ensures)))

pub push_field-requires : goal.push_field-requires
push_field-requires g c =
    at_item (g.F.LastField.is_match c.args.left.now.list c.args.right.now.list) _ _ _ c.requires.held c.loop-place-test.true c.index-matches-place.is

pub loop-place-preserved : goal.loop-place-preserved
loop-place-preserved g c =
    let a = c.index-matches-place in
    let pair = c.as_pair-pair in
    match_added g.M.AsPair.pair_of (g.F.LastField.name_of c.args.fields.now.last.now) (g.F.LastField.is_field c.args.fields.now.last.now) c.args.left.now.list c.args.right.now.list _ _ c.push_ids.new.text.items c.push_field.new.text.items _
    c.args.matches.now c.loop-place.place a.result
    pair.result c.unwrap-left_id.result.now c.unwrap-right_id.result.now c.is_some-is_followed.result c.loop-place-test.true a.is pair.ensures c.loop-place.invariant
    (field_in _ _ _ (c.at-left_field.ensures (id_in c.args.left.now.list) c.requires.ids.left_column
    (number_within (λ a. (g.M.AsPair.pair_of a).0) _ _ _ _ _ c.requires.ids.left_within c.loop-place-test.true a.is
    (ap (λ p. p.0) pair.ensures))) c.unwrap-left_id.ensures)
    (field_in _ _ _ (c.at-right_field.ensures (id_in c.args.right.now.list) c.requires.ids.right_column
    (number_within (λ a. (g.M.AsPair.pair_of a).1) _ _ _ _ _ c.requires.ids.right_within c.loop-place-test.true a.is
    (ap (λ p. p.1) pair.ensures))) c.unwrap-right_id.ensures)
    (has_column _ _ _ c.is_some-is_followed.ensures c.name.ensures)
    (search rules) c.in_ok-push_field.ensures (search rules)

pub returns : goal.returns
returns g c =
    let row = IsRowOf g.M.AsPair.pair_of (g.F.LastField.name_of c.args.fields.now.last.now) (g.F.LastField.is_field c.args.fields.now.last.now) c.args.left.now.list c.args.right.now.list in
    subst (λ matches. AddsRows row matches c.args.text.now.items c.loop-place.text.items)
    (take_all c.loop-place.place c.args.matches.now (omega arith)) c.loop-place.invariant
