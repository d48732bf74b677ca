use Rattle.std.proofs.Common.{All, take}
use Rattle.noding_core.specs.Gathered.{Extends, IsOn, HasMeetings, HasEnds}
use Rattle.noding_core.proofs.nodes.push_each_meetings.Given as goal

abbrev pub invariant-loop-f : goal.invariant-loop-f
invariant-loop-f l = record {
  kept : Extends l.fn.nodes.items l.nodes.items;
  on : All (IsOn l.e) l.nodes.items;
  ends : HasEnds l.e l.nodes.items;
  meetings : All (HasMeetings l.e l.nodes.items) (take l.f-index l.edges);
}
