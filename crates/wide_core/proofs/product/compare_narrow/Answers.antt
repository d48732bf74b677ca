use Rattle.wide_core.proofs.HeldLemmas.{narrow_order}
use Rattle.wide_core.proofs.product.compare_narrow.Goals as goal

pub returns : goal.returns
returns c =
    narrow_order _ c.args.a c.args.b c.args.c c.args.d _ _ _ _ c.ranges.a c.ranges.b c.ranges.c c.ranges.d
    c.from.ensures c.from-2.ensures c.from-3.ensures c.from-4.ensures c.cmp.ensures
