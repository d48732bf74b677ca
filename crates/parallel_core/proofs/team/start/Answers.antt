use Rattle.parallel_core.proofs.team.start.Goals as goal

pub spawn_with-child-requires-clause-keeps : goal.spawn_with-child-requires-clause-keeps
spawn_with-child-requires-clause-keeps g c = λ κs within worked back. rw c.index-index.ensures back
