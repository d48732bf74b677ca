use Rattle.std.proofs.Common.{IfSome, Option, Vec, Global, subst, sym}
use Rattle.plane_core.specs.declared.vertex.Vertex.{Vertex}
use Rattle.edge_index_core.specs.Ends.{AreInOrder}
use Rattle.edge_index_core.proofs.EndLemmas.{along_same, along_all}
use Rattle.edge_index_core.proofs.indexed.IndexedOutline.ends_along.Goals as goal

pub returns-in-Some : goal.returns-in-Some
returns-in-Some c =
    let held = subst (λ (o : Option (Vec Vertex Global)). IfSome o (λ v. AreInOrder c.self.inside.outline.ends.items v.items)) c.in-Some.is c.self.invariant.2 in
    rw (sym c.self.view_is) (along_same c.args.e.now c.self.inside.outline.ends.items c.in-Some.ordered.items _ held (rw c.deref.ensures.value at c.between.ensures))

pub returns-in-None : goal.returns-in-None
returns-in-None c = rw (sym c.self.view_is) (rw c.deref-in-None.ensures.value (along_all c.args.e.now c.self.inside.outline.ends.items))
