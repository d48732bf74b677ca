use Rattle.filter_core.proofs.MeetingLemmas.{forbids_disjoint}
use Rattle.filter_core.proofs.candidates.meeting.Goals as goal

-- src/candidates.rt:48:19
pub unreachable-requires : goal.unreachable-requires
unreachable-requires c = let apart = c.in-Err.ensures.err in forbids_disjoint apart.0 apart.1 apart.2 apart.3
