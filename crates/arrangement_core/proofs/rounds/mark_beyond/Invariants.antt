use Rattle.std.proofs.Common.{take}
use Rattle.edge_index_core.specs.Beyond.{is_beyond}
use Rattle.noding_core.specs.ReadOffs.{AreSomeMarked, outline_edges}
use Rattle.arrangement_core.proofs.rounds.mark_beyond.Given as goal

abbrev pub invariant-loop-e : goal.invariant-loop-e
invariant-loop-e l =
    AreSomeMarked l.pair.first.now l.pair.second.now (outline_edges l.pair.first.now l.pair.second.now) l.points (is_beyond l.pair.second_box) (take l.e-index l.edges) l.fn.matrix l.grown
