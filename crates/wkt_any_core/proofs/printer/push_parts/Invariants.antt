use Rattle.std.proofs.Common.{◌≡◌, ◌++◌, take}
use Rattle.std.specs.String.{string_bytes}
use Rattle.plane_core.specs.Vertices.{paths_in}
use Rattle.wkt_any_core.specs.Canonical.{separated, part_text}
use Rattle.wkt_any_core.proofs.printer.push_parts.Given as goal

abbrev pub invariant-loop-i : goal.invariant-loop-i
invariant-loop-i l = string_bytes l.text ≡ string_bytes l.initial.text ++ separated (part_text l.scale l.are_rings) (take l.i (paths_in l.geometry))
