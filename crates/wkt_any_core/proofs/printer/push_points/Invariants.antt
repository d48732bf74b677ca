use Rattle.std.proofs.Common.{◌≡◌, ◌++◌, take}
use Rattle.std.specs.String.{string_bytes}
use Rattle.wkt_any_core.specs.Canonical.{separated, point_text}
use Rattle.wkt_any_core.proofs.printer.push_points.Given as goal

abbrev pub invariant-loop-i : goal.invariant-loop-i
invariant-loop-i l = string_bytes l.text ≡ string_bytes l.initial.text ++ separated (point_text l.scale) (take l.i l.points)
