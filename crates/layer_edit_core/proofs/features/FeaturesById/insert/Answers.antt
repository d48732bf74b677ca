use Rattle.std.proofs.Common.{◌≡◌, ◌∙◌, ◌<◌, ℕ, true, List, Option, not, sym, ap, Some, None, length, is_some, arith, rules}
use Rattle.indexmap.specs.IndexMap.{insert_entry, set_value_at}
use Rattle.layer_core.specs.declared.id.Id.{Id}
use Rattle.layer_core.specs.Ids.{id_bytes, id_eq}
use Rattle.layer_core.specs.Layers.{with_id}
use Rattle.layer_core.specs.Limits.{most_features}
use Rattle.std.specs.List.{IsDistinct}
use Rattle.std.specs.Map.{keys_of}
use Rattle.std.specs.Option.{option_flatten}
use Rattle.layer_core.specs.IdsAndSlots.{StandForLayer, contents_of}
use Rattle.layer_edit_core.specs.RisingIds.{place_and_number}
use Rattle.layer_core.specs.declared.features.Slot.{Slot}
use Rattle.layer_edit_core.proofs.IdLemmas.{inserted_within}
use Rattle.layer_core.proofs.TableLemmas.{count-le}
use Rattle.layer_edit_core.proofs.MapLemmas.{InsertsNew, inserts_new, inserts_double, with_id-missing}
use Rattle.layer_edit_core.proofs.features.FeaturesById.insert.Goals as goal

pub set_number-requires : goal.set_number-requires
set_number-requires g c =
    let done = c.in_ok-place.ensures in
    rw (ap (λ r. r.0) done.before, done.after) (inserted_within c.self.inside.ids.entries c.args.id _)

-- the effect if a feature has the id
has_feature : {G : Type 0} (es entries : List (Id × Option ℕ)) (slots : List (Option (Slot G))) (count : ℕ) → StandForLayer es slots count → (k : Id) (slot : Slot G)
    (number live : ℕ) (before : Option (Option ℕ)) → entries ≡ insert_entry id_eq es k (Some number)
    → (slot.place, before) ≡ place_and_number k es → Some live ≡ option_flatten before
    → (set_value_at entries slot.place (Some live) ≡ es) × (is_some (with_id (id_bytes k) (contents_of (keys_of es) slots)) ≡ true)
has_feature es entries slots count kept k slot number live before after inserted held =
    rw after (inserts_double es slots count kept k slot (Some number) live (ap (λ r. r.0) inserted) (rw (ap (λ r. r.1) inserted) at held))

pub invariant_of-self-in-Some-1 : goal.invariant_of-self-in-Some-1
invariant_of-self-in-Some-1 g c =
    let done = c.in_ok-place.ensures in
    let slot : Slot g.row.G.Denot = record { place = c.in_ok-place.place; shape = c.args.shape } in
    let back = (has_feature _ _ _ _ c.self.invariant c.args.id slot _ c.in-Some.live _ done.after done.before c.in-Some.ensures).0 in
    rw (c.set_number.ensures, back, c.reserve-reserved.ensures.items) c.self.invariant

pub returns-in-Some-clause-absent : goal.returns-in-Some-clause-absent
returns-in-Some-clause-absent g c =
    let done = c.in_ok-place.ensures in
    let slot : Slot g.row.G.Denot = record { place = c.in_ok-place.place; shape = c.args.shape } in
    let there = (has_feature _ _ _ _ c.self.invariant c.args.id slot _ c.in-Some.live _ done.after done.before c.in-Some.ensures).1 in
    rw (← c.self.view_is) (sym (ap not there))

pub returns-in-Some-clause-inserted : goal.returns-in-Some-clause-inserted
returns-in-Some-clause-inserted g c =
    let done = c.in_ok-place.ensures in
    let slot : Slot g.row.G.Denot = record { place = c.in_ok-place.place; shape = c.args.shape } in
    let back = (has_feature _ _ _ _ c.self.invariant c.args.id slot _ c.in-Some.live _ done.after done.before c.in-Some.ensures).0 in
    rw (c.set_number.ensures, back, c.reserve-reserved.ensures.items) (ap (λ f. f.list) c.self.view_is)

pub returns-in_err-place-clause-refused : goal.returns-in_err-place-clause-refused
returns-in_err-place-clause-refused g c =
    let missing = c.in_err-place.ensures.absent in
    let none = with_id-missing c.self.inside.ids.entries c.self.inside.slots.items c.self.invariant.table c.args.id missing in
    let absent = ap (λ f. with_id (id_bytes c.args.id) f.list) (sym c.self.view_is) ∙ none in
    search rules

-- the effect of the insertion if no feature has the id
new_feature : {G : Type 0} (es entries : List (Id × Option ℕ)) (slots : List (Option (Slot G))) (count : ℕ) → StandForLayer es slots count → (k : Id) (slot : Slot G)
    (number : ℕ) (before : Option (Option ℕ)) → entries ≡ insert_entry id_eq es k (Some number) → number ≡ length slots
    → IsDistinct id_eq (keys_of entries) → (slot.place, before) ≡ place_and_number k es → None ≡ option_flatten before → length slots < most_features
    → InsertsNew es entries slots count (id_bytes k) slot
new_feature es entries slots count kept k slot number before after is distinct inserted none few =
    rw after
    (inserts_new es slots count kept k slot (Some number) (ap Some is) (ap (λ r. r.0) inserted) (rw after at distinct)
    (sym (none ∙ ap option_flatten (ap (λ r. r.1) inserted))) few)

pub invariant_of-self-in-None : goal.invariant_of-self-in-None
invariant_of-self-in-None g c =
    let done = c.in_ok-place.ensures in
    let slot : Slot g.row.G.Denot = record { place = c.in_ok-place.place; shape = c.args.shape } in
    let few = rw (← c.self.view_is) at c.requires in
    let new = new_feature _ _ _ _ c.self.invariant c.args.id slot _ _ done.after (search rules) done.unique done.before c.in-None.ensures few in
    rw (c.push_reserved.ensures.items, c.reserve-reserved.ensures.items) new.kept

pub returns-in-None-clause-absent : goal.returns-in-None-clause-absent
returns-in-None-clause-absent g c =
    let done = c.in_ok-place.ensures in
    let slot : Slot g.row.G.Denot = record { place = c.in_ok-place.place; shape = c.args.shape } in
    let few = rw (← c.self.view_is) at c.requires in
    let new = new_feature _ _ _ _ c.self.invariant c.args.id slot _ _ done.after (search rules) done.unique done.before c.in-None.ensures few in
    rw (← c.self.view_is) (sym (ap (λ f. not (is_some f)) new.absent))

pub returns-in-None-clause-inserted : goal.returns-in-None-clause-inserted
returns-in-None-clause-inserted g c =
    let done = c.in_ok-place.ensures in
    let slot : Slot g.row.G.Denot = record { place = c.in_ok-place.place; shape = c.args.shape } in
    let few = rw (← c.self.view_is) at c.requires in
    let new = new_feature _ _ _ _ c.self.invariant c.args.id slot _ _ done.after (search rules) done.unique done.before c.in-None.ensures few in
    rw (← c.self.view_is, c.push_reserved.ensures.items, c.reserve-reserved.ensures.items) new.grows

pub overflow_add-self : goal.overflow_add-self
overflow_add-self g c =
    let few = rw (← c.self.view_is) at c.requires in
    let small = count-le c.self.inside.ids.entries c.self.inside.slots.items c.self.inside.count c.self.invariant in
    omega arith
