use Rattle.std.proofs.Common.{◌≡◌, rules, of_z, to_z, w64, sym, subst}
use Rattle.std.specs.Prelude.{nat_abs}
use Rattle.std.proofs.lemmas.Int.{to_z-of_z}
use Rattle.plane_core.specs.Places.{point_of}
use Rattle.plane_core.specs.Spots.{IsFloor, IsCeiling}
use Rattle.plane_core.proofs.TestLemmas.{held_x, held_y}
use Rattle.plane_core.proofs.PlaceLemmas.{n_held, w_held}
use Rattle.plane_core.proofs.spot.Spot.of.Goals as goal

pub invariant_of-result : goal.invariant_of-result
invariant_of-result c =
    let p = c.args.place.now in
    let a = p.edge.a in
    let b = p.edge.b in
    let x = c.next_to-left in
    let y = c.next_to-low in
    let left : to_z w64 (of_z w64 x.result.0) ≡ x.result.0 = search (rules, to_z-of_z) in
    let right : to_z w64 (of_z w64 x.result.1) ≡ x.result.1 = search (rules, to_z-of_z) in
    let low : to_z w64 (of_z w64 y.result.0) ≡ y.result.0 = search (rules, to_z-of_z) in
    let high : to_z w64 (of_z w64 y.result.1) ≡ y.result.1 = search (rules, to_z-of_z) in
    record {
      left_is = subst (IsFloor (nat_abs p.w) (point_of p).x) (sym left) (rw (n_held p, w_held p, held_x a, held_x b) at x.ensures.floor);
      right_is = subst (IsCeiling (nat_abs p.w) (point_of p).x) (sym right) (rw (n_held p, w_held p, held_x a, held_x b) at x.ensures.ceiling);
      low_is = subst (IsFloor (nat_abs p.w) (point_of p).y) (sym low) (rw (n_held p, w_held p, held_y a, held_y b) at y.ensures.floor);
      high_is = subst (IsCeiling (nat_abs p.w) (point_of p).y) (sym high) (rw (n_held p, w_held p, held_y a, held_y b) at y.ensures.ceiling);
    }
