use Rattle.std.proofs.Common.{ap, subst, ◌∙◌}
use Rattle.std.specs.Prelude.{codes}
use Rattle.words_core.specs.Distances.{SpellsNoDistance}
use Rattle.words_core.specs.Readings.{distance_fault}
use Rattle.words_core.proofs.ReadingLemmas.{needs_some}
use Rattle.words_core.proofs.reading.near.read_distance.Goals as goal

pub returns-in-None-clause-err : goal.returns-in-None-clause-err
returns-in-None-clause-err c = λ _.
    needs_some (codes "distance") _ _ _ _ c.in_ok-word.ensures.ok (
      c.distance_fault.ensures ∙ ap distance_fault c.limits.ensures,
      subst (SpellsNoDistance c.args.scale) c.as_bytes.ensures.value c.in-None.ensures.none,
    )
