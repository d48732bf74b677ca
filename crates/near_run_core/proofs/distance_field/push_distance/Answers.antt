use Rattle.std.proofs.Common.{arith}
use Rattle.std.proofs.lemmas.Result.{on_ok_weaker}
use Rattle.near_run_core.proofs.distance_field.push_distance.Goals as goal

pub returns : goal.returns
returns g c =
    on_ok_weaker c.push_amount.result
    (λ grown. record { units = c.rounded_root-units.result; few = omega arith; rounded = c.rounded_root-units.ensures; grown = grown }) c.push_amount.ensures
