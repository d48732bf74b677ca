use Rattle.std.proofs.Common.{take}
use Rattle.layer_edit_core.specs.RisingIds.{Rises}
use Rattle.layer_edit_core.proofs.ids.rising_len.Given as goal

abbrev pub invariant-loop-place : goal.invariant-loop-place
invariant-loop-place l = Rises (take l.place l.entries)
