use Rattle.std.proofs.Common.{List, All, subst, sym}
use Rattle.plane_core.specs.declared.vertex.Vertex.{Vertex}
use Rattle.plane_core.specs.Vertices.{HoldsVertex}
use Rattle.plane_core.proofs.EnvelopeLemmas.{has_vertex, vertices_are}
use Rattle.plane_core.proofs.geometry.Geometry.bounds.Goals as goal

pub envelope_of-requires : goal.envelope_of-requires
envelope_of-requires c = rw c.deref.ensures.value (has_vertex _ _ _ c.self.invariant)

pub returns-clause-holds : goal.returns-clause-holds
returns-clause-holds c =
    let whole = vertices_are c.args.self.now c.self.inside.kind c.self.inside.ends.items c.self.inside.vertices.items c.deref.result.now (sym c.self.view_is) c.self.invariant.cuts c.deref.ensures.value in
    subst (λ (vs : List Vertex). All (HoldsVertex c.envelope_of.result) vs) whole c.envelope_of.ensures.holds

pub returns-clause-least : goal.returns-clause-least
returns-clause-least c = λ s all.
    let whole = vertices_are c.args.self.now c.self.inside.kind c.self.inside.ends.items c.self.inside.vertices.items c.deref.result.now (sym c.self.view_is) c.self.invariant.cuts c.deref.ensures.value in
    c.envelope_of.ensures.least s (subst (λ (vs : List Vertex). All (HoldsVertex s) vs) (sym whole) all)
