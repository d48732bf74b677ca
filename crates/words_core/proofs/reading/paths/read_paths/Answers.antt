use Rattle.std.proofs.Common.{inl, inr, sym, ◌∙◌}
use Rattle.words_core.specs.Readings.{found_in}
use Rattle.words_core.proofs.JoinLemmas.{paths_misread, paths_share, paths_taken}
use Rattle.words_core.proofs.ReadingLemmas.{fault_as}
use Rattle.words_core.proofs.reading.paths.read_paths.Goals as goal

pub returns-then-shares_input-clause-err : goal.returns-then-shares_input-clause-err
returns-then-shares_input-clause-err c = λ known.
    paths_share (found_in c.args.given.now) _ _ _ _ c.in_ok-left.ensures.ok
    c.in_ok-right.ensures.ok c.optional-edits.ensures
    (sym c.shares_input.ensures ∙ c.if-shares_input.true) (c.usage_fault.ensures known)

pub returns-then-is_taken-clause-err : goal.returns-then-is_taken-clause-err
returns-then-is_taken-clause-err c = λ known.
    paths_taken (found_in c.args.given.now) _ _ _ _ _ c.in_ok-left.ensures.ok
    c.in_ok-right.ensures.ok c.optional-edits.ensures c.optional-skip.ensures
    (sym c.shares_input.ensures ∙ c.if-shares_input.false)
    (sym c.is_taken.ensures ∙ c.if-is_taken.true) (c.usage_fault-then-is_taken.ensures known)

pub returns-in_err-left_layout-clause-err : goal.returns-in_err-left_layout-clause-err
returns-in_err-left_layout-clause-err c =
    fault_as _ _ _ c.from_residual-in_err-left_layout.ensures.1 (λ known.
    paths_misread (found_in c.args.given.now) _ _ _ _ _ c.in_ok-left.ensures.ok
    c.in_ok-right.ensures.ok c.optional-edits.ensures c.optional-skip.ensures
    (sym c.shares_input.ensures ∙ c.if-shares_input.false)
    (sym c.is_taken.ensures ∙ c.if-is_taken.false) (inl c.in_err-left_layout.ensures.err))

pub returns-in_err-right_layout-clause-err : goal.returns-in_err-right_layout-clause-err
returns-in_err-right_layout-clause-err c =
    fault_as _ _ _ c.from_residual-in_err-right_layout.ensures.1 (λ known.
    paths_misread (found_in c.args.given.now) _ _ _ _ _ c.in_ok-left.ensures.ok
    c.in_ok-right.ensures.ok c.optional-edits.ensures c.optional-skip.ensures
    (sym c.shares_input.ensures ∙ c.if-shares_input.false)
    (sym c.is_taken.ensures ∙ c.if-is_taken.false)
    (inr ((c.in_ok-left_layout.left_layout, c.in_ok-left_layout.ensures.ok), inl c.in_err-right_layout.ensures.err)))
