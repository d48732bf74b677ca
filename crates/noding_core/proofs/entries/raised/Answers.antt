use Rattle.noding_core.proofs.GrowthLemmas.{raised_then, raised_else}
use Rattle.noding_core.proofs.entries.raised.Goals as goal

pub returns-then-low-high : goal.returns-then-low-high
returns-then-low-high c =
    raised_then _ _ _ _ _ _ _ _ c.row_of-row.ensures c.entry_of-known.ensures c.with_value-changed.ensures c.with_value-rows.ensures
    c.rank-low.ensures c.rank-high.ensures c.if-low-high.true

pub returns-else-low-high : goal.returns-else-low-high
returns-else-low-high c =
    raised_else _ _ _ _ _ _ c.row_of-row.ensures c.entry_of-known.ensures c.rank-low.ensures c.rank-high.ensures c.if-low-high.false
