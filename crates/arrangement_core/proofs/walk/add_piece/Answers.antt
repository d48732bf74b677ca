use Rattle.arrangement_core.proofs.walk.add_piece.Goals as goal

pub place_piece-requires-clause-on : goal.place_piece-requires-clause-on
place_piece-requires-clause-on c = record { own = c.requires.on; on = c.requires.uncrossed.on }
