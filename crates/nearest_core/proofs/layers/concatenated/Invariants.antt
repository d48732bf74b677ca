use Rattle.std.proofs.Common.{◌≡◌, ◌++◌, All, IsOk}
use Rattle.std.specs.List.{flat_map}
use Rattle.std.specs.Vec.Iter.{into_iter_items}
use Rattle.nearest_core.specs.Matches.{matches_or_none}
use Rattle.nearest_core.proofs.layers.concatenated.Given as goal

abbrev pub invariant-loop-part : goal.invariant-loop-part
invariant-loop-part g l = record {
  parts : l.yielded ++ into_iter_items l.part-iterator ≡ l.fn.parts.items;
  whole : All IsOk l.yielded;
  matches : l.all.items ≡ flat_map matches_or_none l.yielded;
}
