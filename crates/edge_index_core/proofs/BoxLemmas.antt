-- Edges that share a point have boxes that meet.
use Rattle.std.proofs.Common.{◌≡◌, arith, of_z, to_z, w64, ◌∙◌, refl, subst}
use Rattle.std.specs.Prelude.{ℤ, pos, ◌*ℤ◌, ◌≤ℤ◌, ◌<ℤ◌, Option, None, IsSome}
use Rattle.std.specs.Int.{int_min, int_max}
use Rattle.std.proofs.lemmas.Int.{ints, clamps, by_lt_z}
use Rattle.geom_core.specs.declared.shape.Shape.{Shape}
use Rattle.geom_core.specs.Cells.{Meets}
use Rattle.geom_core.specs.Shapes.{AreCorners, HasCorners}
use Rattle.geom_core.proofs.SpanLemmas.{common_line}
use Rattle.plane_core.specs.declared.vertex.Vertex.{Vertex}
use Rattle.plane_core.specs.declared.edge.Edge.{Edge}
use Rattle.plane_core.specs.Points.{Point}
use Rattle.plane_core.specs.ProperRings.{IsShared}
use Rattle.plane_core.proofs.Signs.{wide_z}
use Rattle.plane_core.proofs.ScaleLemmas.{less_scaled}
use Rattle.plane_core.proofs.CrossingLemmas.{along_x_of, along_y_of}
use Rattle.edge_index_core.specs.Bounds.{IsBoxOf}
use Rattle.edge_index_core.proofs.BetweenLemmas.{IsIn, scaled_in, low_of, high_of}

-- the coordinates of a vertex as 64 bits hold them
pub held_x : (v : Vertex) → to_z w64 (of_z w64 v.x) ≡ v.x
held_x v = omega (arith, ints)

pub held_y : (v : Vertex) → to_z w64 (of_z w64 v.y) ≡ v.y
held_y v = omega (arith, ints)

-- the least and the greatest coordinates of an edge are corners of a shape
pub box_corners : (e : Edge) → AreCorners (int_min e.a.x e.b.x) (int_min e.a.y e.b.y) (int_max e.a.x e.b.x) (int_max e.a.y e.b.y)
box_corners e = record {
  along_x = omega (arith, ints, clamps);
  along_y = omega (arith, ints, clamps);
  first_x = (omega (arith, ints, clamps), omega (arith, ints, clamps));
  first_y = (omega (arith, ints, clamps), omega (arith, ints, clamps));
  second_x = (omega (arith, ints, clamps), omega (arith, ints, clamps));
  second_y = (omega (arith, ints, clamps), omega (arith, ints, clamps));
}

-- an interval with a number of another doesn't begin after that one's end
pub begins_before : (a b c d z w : ℤ) → pos 0 <ℤ w → IsIn (w *ℤ a) (w *ℤ b) z → IsIn (w *ℤ c) (w *ℤ d) z → int_min a b ≤ℤ int_max c d
begins_before a b c d z w hw h k = by_lt_z (int_max c d) (int_min a b)
    (λ behind. absurd (clash _ _ z (low_of a b z w hw h) (high_of c d z w hw k) (less_scaled w (int_max c d) (int_min a b) hw behind)))
    (λ before. before)
  where
    clash : (m n z : ℤ) → m ≤ℤ z → z ≤ℤ n → n <ℤ m → ⊥
    clash m n z h k l = omega (arith, ints)

ordered : (m n k l : ℤ) → m ≡ k → n ≡ l → k ≤ℤ l → m ≤ℤ n
ordered m n k l h g le = omega (arith, ints)

pub shared_meets : (e f : Edge) (s t : Shape) (p : Point) → IsBoxOf e s → IsBoxOf f t → IsShared e f p → Meets s t
shared_meets e f s t p es ft shared =
    let w = wide_z p.w shared.wide in
    let ex = scaled_in e.a.x e.b.x p.x p.w (along_x_of e p shared.first) in
    let ey = scaled_in e.a.y e.b.y p.y p.w (along_y_of e p shared.first) in
    let fx = scaled_in f.a.x f.b.x p.x p.w (along_x_of f p shared.second) in
    let fy = scaled_in f.a.y f.b.y p.y p.w (along_y_of f p shared.second) in
    let x = common_line s.x t.x
    (ordered _ _ _ _ es.first_x ft.second_x (begins_before e.a.x e.b.x f.a.x f.b.x p.x (pos p.w) w ex fx))
    (ordered _ _ _ _ ft.first_x es.second_x (begins_before f.a.x f.b.x e.a.x e.b.x p.x (pos p.w) w fx ex)) in
    let y = common_line s.y t.y
    (ordered _ _ _ _ es.first_y ft.second_y (begins_before e.a.y e.b.y f.a.y f.b.y p.y (pos p.w) w ey fy))
    (ordered _ _ _ _ ft.first_y es.second_y (begins_before f.a.y f.b.y e.a.y e.b.y p.y (pos p.w) w fy ey)) in
    (x.0, y.0, (x.1, y.1), (x.2, y.2))

-- the lesser or the greater of two numbers that were computed
pub held_join : (f : ℤ → ℤ → ℤ) (r x y m n : ℤ) → to_z w64 (of_z w64 r) ≡ r → to_z w64 (of_z w64 x) ≡ m → to_z w64 (of_z w64 y) ≡ n
    → r ≡ f (to_z w64 (of_z w64 x)) (to_z w64 (of_z w64 y)) → to_z w64 (of_z w64 r) ≡ f m n
held_join f r x y m n h k l e = h ∙ e ∙ rw (k, l) refl

-- numbers that are these corners
pub corners_as : (e : Edge) (m n k l : ℤ) → m ≡ int_min e.a.x e.b.x → n ≡ int_min e.a.y e.b.y → k ≡ int_max e.a.x e.b.x → l ≡ int_max e.a.y e.b.y → AreCorners m n k l
corners_as e m n k l x1 y1 x2 y2 = rw (x1, y1, x2, y2) (box_corners e)

pub box_as : (e : Edge) (s : Shape) (m n k l : ℤ) → m ≡ int_min e.a.x e.b.x → n ≡ int_min e.a.y e.b.y → k ≡ int_max e.a.x e.b.x → l ≡ int_max e.a.y e.b.y
    → HasCorners m n k l s → IsBoxOf e s
box_as e s m n k l x1 y1 x2 y2 h = record {
  first_x = h.first_x ∙ x1;
  first_y = h.first_y ∙ y1;
  second_x = h.second_x ∙ x2;
  second_y = h.second_y ∙ y2;
}

pub never_none : (o : Option Shape) → o ≡ None → IsSome o → ⊥
never_none o h k = plain (subst IsSome h k)
  where
    plain : IsSome {T = Shape} None → ⊥
    plain k = cc
