use Rattle.std.proofs.Common.{[], ◌∷◌, ◌∙◌, ap, filter, get_or, map, subst, sym}
use Rattle.run_core.specs.CsvWriting.{AddsRow}
use Rattle.join_core.specs.Counts.{is_unmatched}
use Rattle.join_core.proofs.CountsLemmas.{header_written, row_of_unmatched, row_written}
use Rattle.join_core.proofs.counts.unmatched_text.Goals as goal

pub loop-feature-init : goal.loop-feature-init
loop-feature-init g c =
    header_written _ (λ fs. map (λ f. f.id ∷ []) (filter (is_unmatched (map g.M.AsPair.pair_of c.args.matches.now)) fs)) _ _ _ _ c.new_rows-writer.ensures
    c.in_ok-push_row.ensures (c.into_iter-feature-iterator.ensures.into_iter_gives ∙ c.iter-feature-items.ensures.features)

pub loop-feature-preserved-in-Continue-branch-3 : goal.loop-feature-preserved-in-Continue-branch-3
loop-feature-preserved-in-Continue-branch-3 g c =
    let f = c.in-Some.feature in
    let pairs = map g.M.AsPair.pair_of c.args.matches.now in
    let count_is = c.count_at-count.ensures ∙ ap (λ ns. get_or ns f.number 0) c.deref.ensures.value ∙ c.in_ok-counts.ensures f.number in
    row_written _ (λ fs. map (λ f. f.id ∷ []) (filter (is_unmatched pairs) fs)) _ _ _ _ _ (f.id.now ∷ []) c.loop-feature.invariant
    (row_of_unmatched pairs _ _ _ c.in-Some.ensures.steps (sym count_is ∙ c.if-count-eq0.true))
    (subst (λ id. AddsRow c.loop-feature.writer c.push_row-then-count-eq0.new.writer (id ∷ [])) c.as_bytes-id.ensures.value c.in_ok-push_row-2.ensures)
