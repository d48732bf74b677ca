use Rattle.std.proofs.Common.{IfSome, Option, Vec, Global, subst, sym}
use Rattle.plane_core.specs.declared.vertex.Vertex.{Vertex}
use Rattle.edge_index_core.specs.Ends.{AreInOrder}
use Rattle.edge_index_core.proofs.EndLemmas.{any_same}
use Rattle.edge_index_core.proofs.indexed.IndexedOutline.has_end_on.Goals as goal

pub returns-in-Some : goal.returns-in-Some
returns-in-Some c =
    let held = subst (λ (o : Option (Vec Vertex Global)). IfSome o (λ v. AreInOrder c.self.inside.outline.ends.items v.items)) c.in-Some.is c.self.invariant.2 in
    rw (sym c.self.view_is) (any_same c.self.inside.outline.ends.items c.in-Some.ordered.items c.args.e.now _ held (rw c.deref.ensures.value at c.is_any_between.ensures))
