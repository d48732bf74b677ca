use Rattle.std.proofs.Common.{[], ◌∷◌, ◌∙◌, ap, decimal, get_or, map, subst}
use Rattle.run_core.specs.CsvWriting.{AddsRow}
use Rattle.join_core.specs.Counts.{count_row}
use Rattle.join_core.proofs.CountsLemmas.{header_written, row_written}
use Rattle.join_core.proofs.counts.counts_text.Goals as goal

pub loop-feature-init : goal.loop-feature-init
loop-feature-init g c =
    header_written _ _ _ _ _ _ c.new_rows-writer.ensures c.in_ok-push_row.ensures
    (c.into_iter-feature-iterator.ensures.into_iter_gives ∙ c.iter-feature-items.ensures.features)

pub loop-feature-preserved : goal.loop-feature-preserved
loop-feature-preserved g c =
    let f = c.in-Some.feature in
    let count_is = c.count_at-count.ensures ∙ ap (λ ns. get_or ns f.number 0) c.deref.ensures.value ∙ c.in_ok-counts.ensures f.number in
    row_written _ (map (count_row (map g.M.AsPair.pair_of c.args.matches.now))) _ _ _ _ _ _ c.loop-feature.invariant
    (ap (map (count_row (map g.M.AsPair.pair_of c.args.matches.now))) c.in-Some.ensures.steps)
    (subst (λ n. AddsRow c.loop-feature.writer c.push_count.new.writer (f.id.now ∷ decimal n ∷ [])) count_is c.in_ok-push_count.ensures)
