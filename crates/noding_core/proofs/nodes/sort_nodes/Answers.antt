use Rattle.std.proofs.Common.{rules, ◌≡◌, sym, ◌∙◌}
use Rattle.std.specs.Ordering.{is_lt}
use Rattle.std.proofs.lemmas.Fn.{always_returns_same}
use Rattle.std.proofs.lemmas.List.Sorted.{All-permutation}
use Rattle.noding_core.specs.Gathered.{IsOn}
use Rattle.noding_core.proofs.SortLemmas.{is_earlier, is_later, earlier_order, later_order, ascend_along, ascend_against}
use Rattle.noding_core.proofs.nodes.sort_nodes.Goals as goal

pub returns-then-is_gt-clause-sorted : goal.returns-then-is_gt-clause-sorted
returns-then-is_gt-clause-sorted c =
    ascend_against c.direction.result c.args.e.now _ c.direction.ensures (sym c.is_gt.ensures ∙ c.if-is_gt.true)
    (All-permutation (IsOn c.args.e.now) _ _ c.in_ok-sort_by.ensures.permutation c.requires)
    (c.in_ok-sort_by.ensures.sorted is_later later_order
    (always_returns_same _ (λ a r. is_lt r ≡ is_later a.0.now a.1.0.now) _ (λ a r q k. search rules)))

pub returns-clause-sorted : goal.returns-clause-sorted
returns-clause-sorted c =
    ascend_along c.direction.result c.args.e.now _ c.direction.ensures (sym c.is_gt.ensures ∙ c.if-is_gt.false)
    (All-permutation (IsOn c.args.e.now) _ _ c.in_ok-sort_by-2.ensures.permutation c.requires)
    (c.in_ok-sort_by-2.ensures.sorted is_earlier earlier_order
    (always_returns_same _ (λ a r. is_lt r ≡ is_earlier a.0.now a.1.0.now) _ (λ a r q k. search rules)))
