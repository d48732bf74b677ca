use Rattle.usage_core.proofs.UsageLemmas.{adds_next}
use Rattle.usage_core.proofs.usage.with_arguments.Goals as goal

pub loop-argument-preserved : goal.loop-argument-preserved
loop-argument-preserved c = λ new others.
    c.loop-argument.invariant new
    (adds_next c.args.value c.args.arguments.now _ _ _ _ _ _ c.loop-argument-test.true c.in_ok-command.ensures c.declared_argument-arg.ensures others)
