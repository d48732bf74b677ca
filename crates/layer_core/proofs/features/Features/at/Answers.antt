use Rattle.std.proofs.Common.{sym, ap, arith}
use Rattle.std.specs.Map.{keys_of}
use Rattle.std.specs.Option.{option_map}
use Rattle.layer_core.proofs.TableLemmas.{IsLayer-contents, number-empty, filled_at, walk_placed, id-and-shape}
use Rattle.layer_core.proofs.features.Features.at.Goals as goal

pub returns-in_err-slot-clause-found : goal.returns-in_err-slot-clause-found
returns-in_err-slot-clause-found g c =
    let empty = rw c.as_slice-slots.ensures.value at c.in_err-slot.ensures in
    let none = number-empty (keys_of c.self.inside.ids.items) c.self.inside.slots.items c.args.number empty in
    rw (c.from_residual.ensures, ← c.self.view_is) (sym (ap (option_map (λ f. (f.id, f.shape))) none))

pub returns-in_err-text-clause-found : goal.returns-in_err-text-clause-found
returns-in_err-text-clause-found g c =
    let es = c.self.inside.ids.items in
    let found = rw c.as_slice-slots.ensures.value at c.in_ok-slot.ensures in
    let filled = filled_at c.self.inside.slots.items c.args.number c.in_ok-slot.slot.now found in
    let within = walk_placed es c.self.inside.slots.items c.self.invariant.table c.args.number c.in_ok-slot.slot.now filled in
    let there = c.in_err-text.ensures.found.1 (omega (arith, within, c.as_slice-ids.ensures.len)) in
    cc

pub returns-clause-found : goal.returns-clause-found
returns-clause-found g c =
    let slots = c.self.inside.slots.items in
    let found = rw c.as_slice-slots.ensures.value at c.in_ok-slot.ensures in
    let filled = filled_at slots c.args.number c.in_ok-slot.slot.now found in
    let id = rw c.as_slice-ids.ensures.value at c.in_ok-text.ensures.text in
    rw (← c.self.view_is) (id-and-shape (keys_of c.self.inside.ids.items) slots c.args.number c.in_ok-slot.slot.now c.in_ok-text.text.now filled id)

pub returns-in_err-slot-clause-layer : goal.returns-in_err-slot-clause-layer
returns-in_err-slot-clause-layer g c =
    rw (← c.self.view_is) (IsLayer-contents c.self.inside.ids.items c.self.inside.slots.items c.self.inside.count c.self.invariant)

pub returns-in_err-text-clause-layer : goal.returns-in_err-text-clause-layer
returns-in_err-text-clause-layer g c =
    rw (← c.self.view_is) (IsLayer-contents c.self.inside.ids.items c.self.inside.slots.items c.self.inside.count c.self.invariant)

pub returns-clause-layer : goal.returns-clause-layer
returns-clause-layer g c =
    rw (← c.self.view_is) (IsLayer-contents c.self.inside.ids.items c.self.inside.slots.items c.self.inside.count c.self.invariant)
