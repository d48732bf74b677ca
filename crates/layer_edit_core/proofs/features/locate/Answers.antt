use Rattle.std.proofs.Common.{◌≡◌, ◌∙◌, sym, ap, Some}
use Rattle.layer_core.specs.declared.features.Slot.{Slot}
use Rattle.layer_core.proofs.TableLemmas.{filled_at}
use Rattle.layer_edit_core.proofs.MapLemmas.{absent_from_missing, absent_from_deleted, only_from_found, slot_from_number, not_filled}
use Rattle.layer_edit_core.proofs.features.locate.Goals as goal

pub returns-in_err-place-clause-found : goal.returns-in_err-place-clause-found
returns-in_err-place-clause-found g c =
    rw c.from_residual.ensures (absent_from_missing c.args.ids.now.entries c.args.slots.now c.requires c.args.id.now (sym c.in_err-place.ensures.place))

pub returns-in_err-number-clause-found : goal.returns-in_err-number-clause-found
returns-in_err-number-clause-found g c =
    rw c.from_residual-in_err-number.ensures
    (absent_from_deleted c.args.ids.now.entries c.args.slots.now c.requires c.args.id.now c.in_ok-place.ensures.unique c.in_ok-place.place
    (sym c.in_ok-place.ensures.place) c.in_err-number.ensures)

pub returns-in_err-slot-clause-found : goal.returns-in_err-slot-clause-found
returns-in_err-slot-clause-found g c =
    let slot = slot_from_number c.args.ids.now.entries c.args.slots.now c.requires c.args.id.now c.in_ok-place.place c.in_ok-number.number
    c.in_ok-number.ensures in
    absurd (not_filled c.args.slots.now c.in_ok-number.number slot.0 c.in_err-slot.ensures slot.1)

pub returns-clause-found : goal.returns-clause-found
returns-clause-found g c =
    only_from_found c.args.ids.now.entries c.args.slots.now c.requires c.args.id.now c.in_ok-place.ensures.unique c.in_ok-place.place c.in_ok-number.number
    c.in_ok-slot.slot.now
    (sym c.in_ok-place.ensures.place) c.in_ok-number.ensures (filled_at c.args.slots.now c.in_ok-number.number c.in_ok-slot.slot.now c.in_ok-slot.ensures)

pub returns-clause-place : goal.returns-clause-place
returns-clause-place g c =
    let slot = slot_from_number c.args.ids.now.entries c.args.slots.now c.requires c.args.id.now c.in_ok-place.place c.in_ok-number.number
    c.in_ok-number.ensures in
    let here = filled_at c.args.slots.now c.in_ok-number.number c.in_ok-slot.slot.now c.in_ok-slot.ensures in
    let there : Some (Some c.in_ok-slot.slot.now) ≡ Some (Some slot.0) = sym here ∙ slot.1 in
    let same : slot.0 ≡ c.in_ok-slot.slot.now = cc in
    let place = ap (λ (s : Slot g.row.G.Denot). s.place) same in
    rw (sym place ∙ slot.2) c.in_ok-number.ensures
