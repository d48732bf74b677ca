use Rattle.std.proofs.Common.{◌≡◌, ◌++◌, rules, sym, subst}
use Rattle.plane_core.specs.declared.outline.Kind.{Kind}
use Rattle.plane_core.specs.declared.outline.Kind.TheVariants.{Points as Dots}
use Rattle.noding_core.specs.ReadOffs.{points_by}
use Rattle.arrangement_core.specs.Single.{HasAlong}
use Rattle.arrangement_core.proofs.SingleLemmas.{more_along}
use Rattle.arrangement_core.proofs.points.push_along.Goals as goal

pub returns-in_ok-extend_from_slice-in-Points : goal.returns-in_ok-extend_from_slice-in-Points
returns-in_ok-extend_from_slice-in-Points c = λ done had.
    let own = c.args.own.now in
    let kind : own.kind ≡ Dots = search rules in
    let new = c.extend_from_slice.new.self.items in
    subst (λ (k : Kind). HasAlong c.args.e.now (done ++ points_by k own.ends.items) new) (sym kind)
    (more_along c.args.e.now own.ends.items done c.args.found.now.items _ new c.ends_along-along.ensures c.in_ok-extend_from_slice-in-Points.ensures.items had)
