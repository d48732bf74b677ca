use Rattle.std.proofs.Common.{◌≡◌, refl, rules, true, false}
use Rattle.std.specs.Prelude.{Bool, not}
use Rattle.plane_core.specs.declared.outline.Kind.TheVariants.{Lines as Polylines}
use Rattle.plane_core.specs.Places.{point_of}
use Rattle.shown_core.proofs.ShownLemmas.{shown_off_ends}
use Rattle.shown_core.proofs.shown.is_shown_off_ends.Goals as goal

even : (s t : Bool) → s ≡ t → not s ≡ true → t ≡ false
even true t is none = cc
even false t is none = cc

pub returns-then-are_shown : goal.returns-then-are_shown
returns-then-are_shown c = λ holds.
    let kind : c.args.other.now.kind ≡ Polylines = search rules in
    shown_off_ends c.args.row.now c.args.other.now (point_of c.args.p.now) _ c.args.extent kind (even _ _ c.is_odd_end.ensures holds) refl
    (c.are_shown.ensures.0 c.if-are_shown.true)
