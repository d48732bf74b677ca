use Rattle.std.proofs.Common.{◌≡◌, rules, of_z, to_z, w64}
use Rattle.std.specs.Prelude.{nat_abs}
use Rattle.std.proofs.lemmas.Int.{to_z-of_z}
use Rattle.plane_core.specs.Places.{point_of}
use Rattle.plane_core.proofs.TestLemmas.{held_x}
use Rattle.plane_core.proofs.SpotLemmas.{place_wide, floor_le}
use Rattle.plane_core.proofs.spot.Spot.is_from_x.Goals as goal

pub returns : goal.returns
returns c =
    let s = c.args.self.now in
    let v = c.args.v.now in
    let own : to_z w64 (of_z w64 s.left) ≡ s.left = search (rules, to_z-of_z) in
    rw (own, held_x v) (floor_le (nat_abs s.place.w) (point_of s.place).x s.left v.x (place_wide s.place) s.left_is)
