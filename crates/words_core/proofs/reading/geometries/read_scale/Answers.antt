use Rattle.std.proofs.Math.Nat.{lt_of_not-le}
use Rattle.std.proofs.lemmas.Bool.{false≢true}
use Rattle.std.specs.Prelude.{codes}
use Rattle.words_core.proofs.ReadingLemmas.{needs_some}
use Rattle.words_core.proofs.reading.geometries.read_scale.Goals as goal

pub returns-in-None-clause-err : goal.returns-in-None-clause-err
returns-in-None-clause-err c = λ _.
    needs_some (codes "scale") _ _ _ _ c.in_ok-digits.ensures.ok (
      c.read_limits-limits.result,
      c.read_limits-limits.ensures,
      lt_of_not-le (λ few. false≢true (c.in-None.ensures.some.1 few)),
      c.scale_fault.ensures,
    )
