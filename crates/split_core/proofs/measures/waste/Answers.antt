use Rattle.std.proofs.Common.{arith}
use Rattle.std.specs.Int.{w128}
use Rattle.std.specs.Prelude.{pos, ◌-ℤ◌}
use Rattle.std.proofs.lemmas.Int.{ints, to_z-of_z, to_z_pos}
use Rattle.split_core.proofs.Areas.{waste_is}
use Rattle.split_core.proofs.measures.waste.Goals as goal

pub returns : goal.returns
returns c =
    rw (
      to_z_pos w128 c.enlargement-growth.result (omega arith),
      to_z_pos w128 c.area-area.result (omega arith),
      to_z-of_z w128
          (pos c.enlargement-growth.result -ℤ pos c.area-area.result) (omega (arith, ints)),
    )
    (waste_is c.args.one.now c.args.two.now _ _ c.enlargement-growth.ensures.growth c.area-area.ensures.product)
