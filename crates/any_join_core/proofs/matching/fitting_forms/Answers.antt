use Rattle.std.proofs.Common.{sym, subst₂}
use Rattle.std.specs.Prelude.{All}
use Rattle.plane_core.specs.Vertices.{vertices_of, HoldsVertex}
use Rattle.any_join_core.proofs.HeldLemmas.{holds_all}
use Rattle.any_join_core.proofs.matching.fitting_forms.Goals as goal

pub fitting_within-requires-clause-first : goal.fitting_within-requires-clause-first
fitting_within-requires-clause-first c =
    subst₂ (λ s g. All (HoldsVertex s) (vertices_of g)) (sym c.bounds.ensures) (sym c.geometry-a.ensures) (holds_all c.args.first.now)

pub fitting_within-requires-clause-second : goal.fitting_within-requires-clause-second
fitting_within-requires-clause-second c =
    subst₂ (λ s g. All (HoldsVertex s) (vertices_of g)) (sym c.bounds-in-None-None.ensures) (sym c.geometry-b.ensures) (holds_all c.args.second.now)
