-- Edges whose boxes don't meet share no point, and so meet properly.
use Rattle.std.proofs.Common.{◌≡◌, true, false}
use Rattle.std.specs.Prelude.{ℤ, pos, ◌*ℤ◌, ◌<ℤ◌, Bool, ◌&&◌}
use Rattle.plane_core.specs.declared.edge.Edge.{Edge}
use Rattle.plane_core.specs.Points.{Point}
use Rattle.plane_core.specs.Boxes.{does_reach, do_overlap, do_boxes_meet}
use Rattle.plane_core.specs.ProperRings.{IsShared, MeetProperly}
use Rattle.plane_core.proofs.Signs.{wide_z}
use Rattle.plane_core.proofs.ReachLemmas.{reach_true}
use Rattle.plane_core.proofs.CrossingLemmas.{along_x_of, along_y_of}
use Rattle.edge_index_core.proofs.BetweenLemmas.{IsIn, scaled_in}
use Rattle.edge_index_core.proofs.BoxLemmas.{begins_before}

both : (a b : Bool) → a ≡ true → b ≡ true → (a && b) ≡ true
both a b h k = cc

overlapping : (a b c d z w : ℤ) → pos 0 <ℤ w → IsIn (w *ℤ a) (w *ℤ b) z → IsIn (w *ℤ c) (w *ℤ d) z → do_overlap a b c d ≡ true
overlapping a b c d z w wide h k =
    both (does_reach a b c d) (does_reach c d a b)
    (reach_true a b c d (begins_before c d a b z w wide k h)) (reach_true c d a b (begins_before a b c d z w wide h k))

meet : (e f : Edge) (p : Point) → IsShared e f p → do_boxes_meet e f ≡ true
meet e f p shared =
    let w = wide_z p.w shared.wide in
    both (do_overlap e.a.x e.b.x f.a.x f.b.x) (do_overlap e.a.y e.b.y f.a.y f.b.y)
    (overlapping e.a.x e.b.x f.a.x f.b.x p.x (pos p.w) w (scaled_in e.a.x e.b.x p.x p.w (along_x_of e p shared.first)) (scaled_in f.a.x f.b.x p.x p.w (along_x_of f p shared.second)))
    (overlapping e.a.y e.b.y f.a.y f.b.y p.y (pos p.w) w (scaled_in e.a.y e.b.y p.y p.w (along_y_of e p shared.first)) (scaled_in f.a.y f.b.y p.y p.w (along_y_of f p shared.second)))

pub apart_proper : (e f : Edge) → do_boxes_meet e f ≡ false → MeetProperly e f
apart_proper e f off = record {
  one_place = λ p q a b. absurd (clash (do_boxes_meet e f) (meet e f p a) off);
  at_end = λ p a. absurd (clash (do_boxes_meet e f) (meet e f p a) off);
}
  where
    clash : (b : Bool) → b ≡ true → b ≡ false → ⊥
    clash b h k = cc
