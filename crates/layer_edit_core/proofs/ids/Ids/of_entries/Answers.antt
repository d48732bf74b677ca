use Rattle.std.proofs.Common.{◌∙◌}
use Rattle.layer_edit_core.proofs.IdLemmas.{distinct_drop, AreApart-split}
use Rattle.layer_edit_core.proofs.ids.Ids.of_entries.Goals as goal

pub map_of-requires : goal.map_of-requires
map_of-requires c = rw c.in_ok-others.ensures.tail (distinct_drop c.args.entries.items c.rising_len-rising.result c.requires)

pub invariant_of-result : goal.invariant_of-result
invariant_of-result c =
    let rises = rw c.as_slice.ensures.value at c.rising_len-rising.ensures.rises in
    rw c.in_ok-others.ensures.items
    (AreApart-split c.args.entries.items c.in_ok-map_of.field-0.entries c.rising_len-rising.result rises (c.in_ok-map_of.ensures ∙ c.in_ok-others.ensures.tail) c.requires)
