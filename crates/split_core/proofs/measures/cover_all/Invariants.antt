use Rattle.std.proofs.Common.{take}
use Rattle.split_core.specs.Covers.{IsLeastCover}
use Rattle.split_core.proofs.measures.cover_all.Given as goal

abbrev pub invariant-loop-place : goal.invariant-loop-place
invariant-loop-place g l = IsLeastCover g.T.Covered.cover (take l.place l.items) l.cover
