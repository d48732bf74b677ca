use Rattle.std.proofs.Common.{All, take}
use Rattle.noding_core.specs.Gathered.{Extends, IsOn, HasVertex}
use Rattle.noding_core.proofs.nodes.push_vertices.Given as goal

abbrev pub invariant-loop-v : goal.invariant-loop-v
invariant-loop-v l = record {
  kept : Extends l.fn.nodes.items l.nodes.items;
  on : All (IsOn l.e) l.nodes.items;
  here : All (HasVertex l.e l.nodes.items) (take l.v-index l.vertices);
}
