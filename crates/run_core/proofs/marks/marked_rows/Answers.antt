use Rattle.std.proofs.Common.{◌≡◌, ◌+◌, arith}
use Rattle.std.proofs.lemmas.Grind.{common_steps}
use Rattle.run_core.proofs.MarkLemmas.{all_read, none_marked, row_marked, row_unmarked}
use Rattle.run_core.proofs.marks.marked_rows.Goals as goal

pub returns-then-not-marks_any : goal.returns-then-not-marks_any
returns-then-not-marks_any g c = rw c.new-rows.ensures.items (none_marked _ (c.marks_any.ensures c.if-not-marks_any.true) c.args.features 1 _)

pub loop-feature-preserved-in-Continue-branch-4 : goal.loop-feature-preserved-in-Continue-branch-4
loop-feature-preserved-in-Continue-branch-4 g c =
    let next : c.in_ok-next.next ≡ c.in_ok-row.row + 1 = grind (arith, common_steps) in
    let to = c.in_ok-row.ensures in
    row_marked _ _ _ _ _ _ _ _ _ _ _ c.loop-feature.invariant to.0 to.1 c.in-Some.ensures.steps (c.in_ok-found.ensures.0 (search)) _ _ next c.in_ok-push.ensures.items

pub loop-feature-preserved : goal.loop-feature-preserved
loop-feature-preserved g c =
    let next : c.in_ok-next.next ≡ c.in_ok-row.row + 1 = grind (arith, common_steps) in
    let to = c.in_ok-row.ensures in
    row_unmarked _ _ _ _ _ _ _ _ _ _ _ c.loop-feature.invariant to.0 to.1 c.in-Some.ensures.steps (λ has. let found = c.in_ok-found.ensures.1 has in cc) _ next

pub returns : goal.returns
returns g c = all_read _ _ _ _ _ _ _ c.loop-feature.invariant c.in-None.ensures.steps.0
