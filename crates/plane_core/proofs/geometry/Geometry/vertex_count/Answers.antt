use Rattle.std.proofs.Common.{List, ap, length, sym}
use Rattle.plane_core.specs.declared.vertex.Vertex.{Vertex}
use Rattle.plane_core.proofs.EnvelopeLemmas.{vertices_are}
use Rattle.plane_core.proofs.geometry.Geometry.vertex_count.Goals as goal

pub returns : goal.returns
returns c =
    let inside = c.self.inside in
    ap (λ (vs : List Vertex). length vs)
    (vertices_are c.args.self.now inside.kind inside.ends.items inside.vertices.items c.as_slice.result.now (sym c.self.view_is) c.self.invariant.cuts
    c.as_slice.ensures.value)
