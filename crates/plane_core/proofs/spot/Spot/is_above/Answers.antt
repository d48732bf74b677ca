use Rattle.std.proofs.Common.{◌≡◌, rules, of_z, to_z, w64}
use Rattle.std.specs.Prelude.{nat_abs}
use Rattle.std.proofs.lemmas.Int.{to_z-of_z}
use Rattle.plane_core.specs.Places.{point_of}
use Rattle.plane_core.proofs.TestLemmas.{held_y}
use Rattle.plane_core.proofs.SpotLemmas.{place_wide, ceiling_lt}
use Rattle.plane_core.proofs.spot.Spot.is_above.Goals as goal

pub returns : goal.returns
returns c =
    let s = c.args.self.now in
    let v = c.args.v.now in
    let own : to_z w64 (of_z w64 s.high) ≡ s.high = search (rules, to_z-of_z) in
    rw (own, held_y v) (ceiling_lt (nat_abs s.place.w) (point_of s.place).y s.high v.y (place_wide s.place) s.high_is)
