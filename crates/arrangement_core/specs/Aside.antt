-- Edges that share no point, since one lies on one side of the other's line.
use Rattle.std.specs.Prelude.{Bool, ◌||◌}
use Rattle.plane_core.specs.declared.edge.Edge.{Edge}
use Rattle.noding_core.specs.Gathered.{is_aside}

-- one of two edges lies strictly on one side of the other's line
abbrev pub are_aside : Edge → Edge → Bool
are_aside e f = is_aside e f || is_aside f e
