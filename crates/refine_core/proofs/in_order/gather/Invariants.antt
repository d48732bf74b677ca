use Rattle.std.proofs.Common.{◌≡◌, ◌++◌, All, IsOk}
use Rattle.std.specs.List.{flat_map}
use Rattle.std.specs.Vec.Iter.{into_iter_items}
use Rattle.refine_core.specs.Parts.{seat_in, parts_in}
use Rattle.refine_core.proofs.in_order.gather.Given as goal

abbrev pub invariant-loop-share : goal.invariant-loop-share
invariant-loop-share g l = record {
  shares : l.yielded ++ into_iter_items l.share-iterator ≡ l.fn.shares.items;
  all : All IsOk l.yielded;
  seats : l.seats.items ≡ flat_map seat_in l.yielded;
  parts : l.parts.items ≡ flat_map parts_in l.yielded;
}
