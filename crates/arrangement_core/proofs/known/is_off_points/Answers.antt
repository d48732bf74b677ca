use Rattle.std.proofs.Common.{◌≡◌, rules, true, false}
use Rattle.std.specs.Prelude.{Bool, not}
use Rattle.plane_core.specs.declared.outline.Kind.TheVariants.{Points as Dots}
use Rattle.arrangement_core.proofs.SingleLemmas.{lies_off_points}
use Rattle.arrangement_core.proofs.known.is_off_points.Goals as goal

off : (s t : Bool) → s ≡ t → not s ≡ true → t ≡ false
off true t is none = cc
off false t is none = cc

pub returns-then-eq : goal.returns-then-eq
returns-then-eq c = λ holds.
    let kind : c.args.other.now.kind ≡ Dots = search rules in
    lies_off_points c.args.other.now c.args.e.now kind (off _ _ c.has_end_on.ensures holds)
