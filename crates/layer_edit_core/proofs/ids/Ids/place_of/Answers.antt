use Rattle.std.proofs.Common.{◌≡◌, ◌∙◌, ◌+◌, sym, ap, Some, None, length, position, rules}
use Rattle.std.specs.Map.{keys_of}
use Rattle.std.specs.Option.{option_map}
use Rattle.layer_edit_core.specs.RisingIds.{has_text}
use Rattle.layer_edit_core.proofs.IdLemmas.{position-sooner, position-later}
use Rattle.layer_edit_core.proofs.ids.Ids.place_of.Goals as goal

pub returns-in-Some-clause-place : goal.returns-in-Some-clause-place
returns-in-Some-clause-place c =
    let found : position (has_text c.args.id.now) (keys_of c.self.inside.rising.items) ≡ Some c.in-Some.place = search rules in
    rw (← c.self.view_is) (sym (position-sooner (has_text c.args.id.now) c.self.inside.rising.items c.self.inside.others.entries c.in-Some.place found))

pub returns-in_err-place-clause-place : goal.returns-in_err-place-clause-place
returns-in_err-place-clause-place c =
    let rising = c.self.inside.rising.items in
    let missing : position (has_text c.args.id.now) (keys_of rising) ≡ None = search rules in
    let later = position-later (has_text c.args.id.now) rising c.self.inside.others.entries missing in
    rw (c.from_residual.ensures, ← c.self.view_is) (sym (later ∙ ap (option_map (λ i. length rising + i)) (sym c.in_err-place.ensures.index)))

pub returns-clause-place : goal.returns-clause-place
returns-clause-place c =
    let rising = c.self.inside.rising.items in
    let missing : position (has_text c.args.id.now) (keys_of rising) ≡ None = search rules in
    let later = position-later (has_text c.args.id.now) rising c.self.inside.others.entries missing in
    let index = later ∙ ap (option_map (λ i. length rising + i)) (sym c.in_ok-place.ensures.index) in
    rw (← c.self.view_is) (cc)
