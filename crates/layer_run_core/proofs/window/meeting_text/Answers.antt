use Rattle.std.proofs.Common.{◌∙◌, rules}
use Rattle.std.proofs.lemmas.Result.{IfOk-weaker}
use Rattle.layer_run_core.proofs.WindowLemmas.{header_written, id_pushed, none_written, all_written}
use Rattle.layer_run_core.proofs.window.meeting_text.Goals as goal

pub loop-feature-init : goal.loop-feature-init
loop-feature-init g c =
    header_written _ _ _ _ _ c.new_rows-writer.ensures c.in_ok-push_row.ensures
    (c.into_iter-feature-iterator.ensures.into_iter_gives ∙ c.iter-feature-items.ensures.features)

pub loop-feature-preserved-in-Continue-branch-3 : goal.loop-feature-preserved-in-Continue-branch-3
loop-feature-preserved-in-Continue-branch-3 g c =
    search (id_pushed _ _ _ _ _ _ _ c.loop-feature.invariant c.in-Some.ensures.steps (c.in_ok-meets.ensures.0 (search)) c.as_bytes-id.ensures.value, rules)

pub loop-feature-preserved : goal.loop-feature-preserved
loop-feature-preserved g c =
    none_written _ _ _ _ _ _ c.loop-feature.invariant c.in-Some.ensures.steps (λ meets. let met = c.in_ok-meets.ensures.1 meets in cc)

pub returns : goal.returns
returns g c = IfOk-weaker _ _ _ (λ text kept. all_written _ _ _ _ _ c.loop-feature.invariant c.in-None.ensures.steps.0 kept) (search)
