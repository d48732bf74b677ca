use Rattle.std.proofs.Common.{◌∙◌, sym, ap, Some, None, set, arith}
use Rattle.std.specs.Map.{keys_of, values_of}
use Rattle.std.specs.Option.{option_map}
use Rattle.std.proofs.lemmas.Option.{slice_get_within, get_or_from_slice_get}
use Rattle.std.proofs.lemmas.Map.Entries.{length-values_of}
use Rattle.layer_core.specs.IdsAndSlots.{contents_of}
use Rattle.layer_edit_core.proofs.MapLemmas.{StandForLayer-deleted, with_id-absent, with_id-only, deleted-absent, deleted-only, keys-set}
use Rattle.layer_edit_core.proofs.features.FeaturesById.delete.Goals as goal

pub returns-in_err-number-clause-shape : goal.returns-in_err-number-clause-shape
returns-in_err-number-clause-shape g c =
    let absent = rw c.as_slice-slots.ensures.value at c.in_err-number.ensures.found in
    let none = with_id-absent (keys_of c.self.inside.ids.entries) c.self.inside.slots.items c.args.id.now absent in
    rw (c.from_residual.ensures, ← c.self.view_is) (sym (ap (option_map (λ f. f.shape)) none))

pub returns-in_err-number-clause-deleted : goal.returns-in_err-number-clause-deleted
returns-in_err-number-clause-deleted g c =
    let absent = rw c.as_slice-slots.ensures.value at c.in_err-number.ensures.found in
    rw (← c.self.view_is) (sym (deleted-absent (keys_of c.self.inside.ids.entries) c.self.inside.slots.items c.args.id.now absent))

pub index_mut-requires : goal.index_mut-requires
index_mut-requires g c =
    let within = slice_get_within c.as_slice-slots.result.now c.in_ok-number.number (Some c.in_ok-number.slot.now) c.in_ok-number.ensures.found.here in
    omega (arith, c.as_slice-slots.ensures.len)

pub set_number-requires : goal.set_number-requires
set_number-requires g c =
    let within = slice_get_within (values_of c.self.inside.ids.entries) c.in_ok-number.slot.now.place (Some c.in_ok-number.number) c.in_ok-number.ensures.place in
    omega (arith, length-values_of c.self.inside.ids.entries)

pub overflow_sub-self : goal.overflow_sub-self
overflow_sub-self g c =
    let only = rw c.as_slice-slots.ensures.value at c.in_ok-number.ensures.found in
    let some = (StandForLayer-deleted c.self.inside.ids.entries c.self.inside.slots.items c.self.inside.count c.in_ok-number.number c.in_ok-number.slot.now
    c.self.invariant only.here c.in_ok-number.ensures.place).0 in
    omega arith

pub invariant_of-self : goal.invariant_of-self
invariant_of-self g c =
    let only = rw c.as_slice-slots.ensures.value at c.in_ok-number.ensures.found in
    rw (c.set_number.ensures, c.replace-taken.ensures.after)
    (StandForLayer-deleted c.self.inside.ids.entries c.self.inside.slots.items c.self.inside.count c.in_ok-number.number c.in_ok-number.slot.now
    c.self.invariant only.here c.in_ok-number.ensures.place).1

pub returns-clause-shape : goal.returns-clause-shape
returns-clause-shape g c =
    let only = rw c.as_slice-slots.ensures.value at c.in_ok-number.ensures.found in
    let some = with_id-only (keys_of c.self.inside.ids.entries) c.self.inside.slots.items c.args.id.now c.in_ok-number.number c.in_ok-number.slot.now only in
    let read = c.replace-taken.ensures.value ∙ c.index_mut.ensures.value ∙ get_or_from_slice_get c.self.inside.slots.items c.in_ok-number.number (Some c.in_ok-number.slot.now) _ only.here in
    rw (← c.self.view_is) (c.shape_of.ensures ∙ ap (option_map (λ s. s.shape)) read ∙ sym (ap (option_map (λ f. f.shape)) some))

pub returns-clause-deleted : goal.returns-clause-deleted
returns-clause-deleted g c =
    let only = rw c.as_slice-slots.ensures.value at c.in_ok-number.ensures.found in
    let after = deleted-only (keys_of c.self.inside.ids.entries) c.self.inside.slots.items c.args.id.now c.in_ok-number.number c.in_ok-number.slot.now only in
    rw (c.set_number.ensures, c.replace-taken.ensures.after, ← c.self.view_is) (ap (λ ks. contents_of ks (set c.self.inside.slots.items c.in_ok-number.number None))
    (keys-set c.self.inside.ids.entries c.in_ok-number.slot.now.place None) ∙ sym after)
