use Rattle.std.proofs.Common.{sym, ap}
use Rattle.std.specs.Map.{keys_of}
use Rattle.std.specs.Option.{option_map}
use Rattle.layer_core.proofs.TableLemmas.{IsLayer-contents}
use Rattle.layer_edit_core.proofs.MapLemmas.{sees_none, sees_one}
use Rattle.layer_edit_core.proofs.features.FeaturesById.find.Goals as goal

pub returns-in_err-number-clause-found : goal.returns-in_err-number-clause-found
returns-in_err-number-clause-found g c =
    let none = sees_none _ (keys_of c.self.inside.ids.entries) c.self.inside.slots.items c.args.id.now (cc) c.in_err-number.ensures.found in
    rw (c.from_residual.ensures, ← c.self.view_is) (sym (ap (option_map (λ f. (f.number, f.shape))) none))

pub returns-clause-found : goal.returns-clause-found
returns-clause-found g c =
    let some = sees_one _ (keys_of c.self.inside.ids.entries) c.self.inside.slots.items c.args.id.now _ _ (cc) c.in_ok-number.ensures.found in
    rw (← c.self.view_is) (sym (ap (option_map (λ f. (f.number, f.shape))) some))

pub returns-in_err-number-clause-layer : goal.returns-in_err-number-clause-layer
returns-in_err-number-clause-layer g c =
    rw (← c.self.view_is) (IsLayer-contents c.self.inside.ids.entries c.self.inside.slots.items c.self.inside.count c.self.invariant)

pub returns-clause-layer : goal.returns-clause-layer
returns-clause-layer g c =
    rw (← c.self.view_is) (IsLayer-contents c.self.inside.ids.entries c.self.inside.slots.items c.self.inside.count c.self.invariant)
