use Rattle.std.proofs.Common.{rules}
use Rattle.std.proofs.lemmas.Fn.{always_returns_same}
use Rattle.layer_core.specs.Ids.{id_bytes}
use Rattle.layer_edit_core.specs.RisingIds.{id_order}
use Rattle.layer_edit_core.proofs.IdLemmas.{searched}
use Rattle.layer_edit_core.proofs.ids.search.Goals as goal

pub returns : goal.returns
returns c =
    let found = c.binary_search_by-found.ensures in
    let by_order = found.position (λ e. id_order (id_bytes e.0) c.args.id.now) (always_returns_same _ _ _ (λ a r f called. (search rules, search rules))) in
    let place = searched c.args.rising.now c.requires c.args.id.now c.binary_search_by-found.result found.bound by_order in
    cc
