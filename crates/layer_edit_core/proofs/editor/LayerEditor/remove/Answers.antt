use Rattle.std.proofs.Common.{rules, ◌≡◌, Some}
use Rattle.layer_edit_core.proofs.LayerTreeLemmas.{found-contains, deleted-exact}
use Rattle.layer_edit_core.proofs.editor.LayerEditor.remove.Goals as goal

pub invariant_of-self-2 : goal.invariant_of-self-2
invariant_of-self-2 g c =
    let list = c.self.inside.features.value.list in
    let root = c.self.inside.tree.value in
    let is_layer = rw c.deref.ensures at c.find-found.ensures.layer in
    let told : c.find-found.result ≡ Some (c.in_ok-number.number, c.in_ok-number.shape) = search rules in
    let found = rw (told, c.deref.ensures) at c.find-found.ensures.found in
    let there = found-contains g.G.Geometry.box_of list root c.args.id.now c.in_ok-number.number c.in_ok-number.shape is_layer c.self.invariant found in
    let held = rw (c.deref_mut.ensures.value, c.bounds.ensures) at c.in_ok-_held.ensures.held in
    let loses = rw (c.deref_mut.ensures.value, c.bounds.ensures) at c.in_ok-_held.ensures.loses in
    rw (c.delete.ensures.deleted, c.deref_mut-2.ensures.value)
    (deleted-exact g.G.Geometry.box_of list root c.args.id.now c.in_ok-number.number c.in_ok-number.shape is_layer c.self.invariant found _
    (loses (held.1 there)))
