use Rattle.std.proofs.Common.{of_z, w64, ap, sym, Bool, ◌∙◌}
use Rattle.std.specs.Prelude.{◌&&◌, pos, nat_abs, ◌*ℤ◌}
use Rattle.std.specs.Ordering.{int_eq}
use Rattle.plane_core.specs.Places.{point_of}
use Rattle.plane_core.proofs.SpotLemmas.{le_both, off_floor, place_wide}
use Rattle.plane_core.proofs.spot.Spot.is_at.Goals as goal

pub returns-then-v-self : goal.returns-then-v-self
returns-then-v-self c =
    let s = c.args.self.now in
    let p = point_of s.place in
    let v = c.args.v.now in
    sym (ap (λ (t : Bool). t && int_eq p.y (pos p.w *ℤ v.y))
    (off_floor (nat_abs s.place.w) p.x s.left v.x (place_wide s.place) s.left_is (λ e. c.if-v-self.true (ap (of_z w64) e))))

pub returns : goal.returns
returns c =
    let p = point_of c.args.self.now.place in
    let v = c.args.v.now in
    (λ i. (c.is_from_x.ensures i && c.is_to_x.ensures i) && (c.is_from_y.ensures i && c.is_to_y.ensures i))
    ∙ (λ i. le_both (pos p.w *ℤ v.x) p.x i && le_both (pos p.w *ℤ v.y) p.y i)
