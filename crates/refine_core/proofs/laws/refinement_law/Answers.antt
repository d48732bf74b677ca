use Rattle.refine_core.proofs.RefinementLemmas.{each_once}
use Rattle.refine_core.proofs.laws.refinement_law.Goals as goal

pub returns : goal.returns
returns g c = record {
  each_once = λ pairs refined near is.
      each_once (g.C.Condition.stands c.args.condition.now) (g.C.Condition.answers c.args.condition.now) (g.C.Condition.near c.args.condition.now)
      pairs refined (g.met.C.Condition.stands_near c.args.condition.now) is near;
}
