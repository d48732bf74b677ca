use Rattle.std.proofs.Common.{◌≡◌, ◌<◌, ℕ, zero, suc, inl, inr, refl, arith}
use Rattle.std.specs.Prelude.{codes}
use Rattle.std.proofs.lemmas.Bool.{false≢true}
use Rattle.words_core.proofs.ReadingLemmas.{fault_as, needs_none, needs_some}
use Rattle.words_core.proofs.reading.nearest.read_query.Goals as goal

none_sought : (n : ℕ) → ¬ (0 < n) → n ≡ 0
none_sought zero h = refl
none_sought (suc n) h = absurd (h (omega arith))

pub returns-in_err-within-clause-err : goal.returns-in_err-within-clause-err
returns-in_err-within-clause-err c =
    fault_as _ _ _ c.from_residual.ensures.1 (λ _. inl (c.in_err-within.ensures.none, c.in_err-within.ensures.fault))

pub returns-in_err-most-clause-err : goal.returns-in_err-most-clause-err
returns-in_err-most-clause-err c =
    fault_as _ _ _ c.from_residual-in_err-most.ensures.1 (λ known.
    inr (
      (c.in_ok-within.within, c.in_ok-within.ensures.ok),
      needs_none (codes "most") _ _ _ c.in_err-most.ensures.none (c.in_err-most.ensures.told known),
    ))

pub returns-in-None-clause-err : goal.returns-in-None-clause-err
returns-in-None-clause-err c = λ _.
    inr (
      (c.in_ok-within.within, c.in_ok-within.ensures.ok),
      needs_some (codes "most") _ _ _ _ c.in_ok-most.ensures.ok
          (none_sought _ (λ some. false≢true (c.in-None.ensures.some.1 some)), refl),
    )
