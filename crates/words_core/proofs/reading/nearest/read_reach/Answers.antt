use Rattle.std.proofs.Common.{Option, subst, sym}
use Rattle.clap.specs.Words.{Text}
use Rattle.words_core.specs.Distances.{SpellsNoDistance}
use Rattle.words_core.specs.Readings.{IsNoReach}
use Rattle.words_core.proofs.reading.nearest.read_reach.Goals as goal

pub returns-in-None-clause-none : goal.returns-in-None-clause-none
returns-in-None-clause-none c =
    subst (λ (word : Option Text). IsNoReach word c.args.scale) (sym c.in-Some.ensures)
    (subst (SpellsNoDistance c.args.scale) c.as_bytes.ensures.value c.in-None.ensures.none)
