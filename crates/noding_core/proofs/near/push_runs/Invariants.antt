use Rattle.std.proofs.Common.{drop}
use Rattle.edge_index_core.specs.Runs.{AreRunBoxes}
use Rattle.noding_core.specs.Gathered.{Extends}
use Rattle.noding_core.specs.Near.{AddsAmong}
use Rattle.noding_core.proofs.NearLemmas.{IsFoundTo}
use Rattle.noding_core.proofs.near.push_runs.Given as goal

abbrev pub invariant-loop-shape : goal.invariant-loop-shape
invariant-loop-shape l = record {
  boxes : AreRunBoxes l.rest (drop l.shape-index l.boxes);
  kept : Extends l.fn.near.items l.near.items;
  own : AddsAmong l.fn.edges l.fn.near.items l.near.items;
  found : IsFoundTo l.e l.fn.edges l.rest l.near.items;
}
