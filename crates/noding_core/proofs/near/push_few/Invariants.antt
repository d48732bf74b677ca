use Rattle.std.proofs.Common.{All, take}
use Rattle.noding_core.specs.Gathered.{Extends}
use Rattle.noding_core.specs.Near.{IsFound, AddsAmong}
use Rattle.noding_core.proofs.near.push_few.Given as goal

abbrev pub invariant-loop-f : goal.invariant-loop-f
invariant-loop-f l = record {
  kept : Extends l.fn.near.items l.near.items;
  own : AddsAmong l.edges l.fn.near.items l.near.items;
  found : All (IsFound l.e l.near.items) (take l.f-index l.edges);
}
