use Rattle.std.proofs.Common.{◌≡◌, rules, of_z, to_z, w64}
use Rattle.std.specs.Prelude.{nat_abs}
use Rattle.std.proofs.lemmas.Int.{to_z-of_z}
use Rattle.plane_core.specs.Places.{point_of}
use Rattle.plane_core.proofs.TestLemmas.{held_y}
use Rattle.plane_core.proofs.SpotLemmas.{place_wide, floor_lt}
use Rattle.plane_core.proofs.spot.Spot.is_below.Goals as goal

pub returns : goal.returns
returns c =
    let s = c.args.self.now in
    let v = c.args.v.now in
    let own : to_z w64 (of_z w64 s.low) ≡ s.low = search (rules, to_z-of_z) in
    rw (own, held_y v) (floor_lt (nat_abs s.place.w) (point_of s.place).y s.low v.y (place_wide s.place) s.low_is)
