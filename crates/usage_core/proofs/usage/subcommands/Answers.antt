use Rattle.std.proofs.Common.{refl}
use Rattle.usage_core.proofs.usage.subcommands.Goals as goal

pub returns : goal.returns
returns c = λ value.
    rw (
      c.relate.ensures.shape value,
      c.join.ensures.shape value,
      c.near.ensures.shape value,
      c.nearest.ensures.shape value,
      c.draw.ensures.shape value,
      c.window.ensures.shape value,
      c.stats.ensures.shape value,
      c.bounds.ensures.shape value,
    ) refl
