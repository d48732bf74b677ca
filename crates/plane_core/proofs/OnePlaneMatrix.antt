-- Two geometries have one matrix: what shares a triangle shares a segment, and what shares a segment
-- shares a point, so an entry is one number.
use Rattle.std.proofs.Common.{◌≡◌, ◌<◌, ◌+◌, ◌*◌, refl, subst, ap, ◌∙◌, arith}
use Rattle.std.specs.Prelude.{ℕ, ℤ, pos, ◌*ℤ◌, ◌-ℤ◌, ◌+ℤ◌}
use Rattle.std.proofs.lemmas.Int.{ints}
use Rattle.relation_core.specs.declared.part.Parts.{Parts}
use Rattle.relation_core.specs.declared.extent.Extent.{Extent}
use Rattle.relation_core.specs.declared.extent.Extent.TheVariants.{Empty, Point as Dot, Line, Area}
use Rattle.relation_core.specs.declared.matrix.Matrix.{Matrix}
use Rattle.plane_core.specs.declared.part.Part.{Part}
use Rattle.plane_core.specs.declared.part.Part.TheVariants.{Interior, Boundary, Exterior}
use Rattle.plane_core.specs.Points.{Point, mix, turn, IsSamePlace}
use Rattle.plane_core.specs.Figures.{Figure}
use Rattle.plane_core.specs.PlaneMatrices.{SharePoint, ShareSegment, ShareTriangle, IsEntry, entry, IsPlaneMatrix}
use Rattle.plane_core.proofs.Ring.{monomials}
use Rattle.plane_core.proofs.FormLemmas.{by_zero, no_zero_divisor}

-- two corners of a triangle that isn't flat are two places
corners_differ : (p q r : Point) → 0 < q.w → ¬ (turn p q r ≡ pos 0) → ¬ (IsSamePlace p q)
corners_differ p q r wide apart same =
    by_zero (turn p q r) (λ off. no_zero_divisor (pos q.w) (turn p q r) (whole q.w wide) off (flat p.x p.y (pos p.w) q.x q.y (pos q.w) r.x r.y (pos r.w) same.0 same.1)) apart
  where
    whole : (n : ℕ) → 0 < n → ¬ (pos n ≡ pos 0)
    whole n h e = omega (arith, ints)

    flat : (x y w u v z a b c : ℤ) → x *ℤ z ≡ u *ℤ w → y *ℤ z ≡ v *ℤ w → z *ℤ (x *ℤ (v *ℤ c -ℤ z *ℤ b) -ℤ y *ℤ (u *ℤ c -ℤ z *ℤ a) +ℤ w *ℤ (u *ℤ b -ℤ v *ℤ a)) ≡ pos 0
    flat x y w u v z a b c e f =
        let first : z *ℤ (x *ℤ (v *ℤ c -ℤ z *ℤ b) -ℤ y *ℤ (u *ℤ c -ℤ z *ℤ a) +ℤ w *ℤ (u *ℤ b -ℤ v *ℤ a))
        ≡ (x *ℤ z) *ℤ (v *ℤ c -ℤ z *ℤ b) -ℤ (y *ℤ z) *ℤ (u *ℤ c -ℤ z *ℤ a) +ℤ z *ℤ w *ℤ (u *ℤ b -ℤ v *ℤ a) = simp monomials (omega (arith, ints)) in
        let second : (u *ℤ w) *ℤ (v *ℤ c -ℤ z *ℤ b) -ℤ (v *ℤ w) *ℤ (u *ℤ c -ℤ z *ℤ a) +ℤ z *ℤ w *ℤ (u *ℤ b -ℤ v *ℤ a) ≡ pos 0 = simp monomials (omega (arith, ints)) in
        first
        ∙ ap (λ (n : ℤ). n *ℤ (v *ℤ c -ℤ z *ℤ b) -ℤ (y *ℤ z) *ℤ (u *ℤ c -ℤ z *ℤ a) +ℤ z *ℤ w *ℤ (u *ℤ b -ℤ v *ℤ a)) e
        ∙ ap (λ (n : ℤ). (u *ℤ w) *ℤ (v *ℤ c -ℤ z *ℤ b) -ℤ n *ℤ (u *ℤ c -ℤ z *ℤ a) +ℤ z *ℤ w *ℤ (u *ℤ b -ℤ v *ℤ a)) f
        ∙ second

-- a side of a triangle
side_mix : (p q r : Point) (s t : ℕ) → mix 1 (mix s p t q) 0 r ≡ mix s p t q
side_mix p q r s t = λ i. record {
  x = whole (pos s *ℤ p.x +ℤ pos t *ℤ q.x) r.x i;
  y = whole (pos s *ℤ p.y +ℤ pos t *ℤ q.y) r.y i;
  w = weight (s * p.w + t * q.w) r.w i;
}
  where
    whole : (n m : ℤ) → pos 1 *ℤ n +ℤ pos 0 *ℤ m ≡ n
    whole n m = omega (arith, ints)

    weight : (n m : ℕ) → 1 * n + 0 * m ≡ n
    weight n m = omega arith

pub triangle_segment : (P : Point → Type 0) → ShareTriangle P → ShareSegment P
triangle_segment P (p, q, r, wp, wq, wr, apart, all) =
    (p, q, wp, wq, corners_differ p q r wq apart, λ s t some. subst P (side_mix p q r s t) (all s t 0 (omega arith)))

pub segment_point : (P : Point → Type 0) → ShareSegment P → SharePoint P
segment_point P (p, q, wp, wq, apart, all) = (mix 1 p 0 q, wide p.w q.w wp, all 1 0 (omega arith))
  where
    wide : (m n : ℕ) → 0 < m → 0 < 1 * m + 0 * n
    wide m n h = omega arith

pub triangle_point : (P : Point → Type 0) → ShareTriangle P → SharePoint P
triangle_point P h = segment_point P (triangle_segment P h)

pub one_entry : (P : Point → Type 0) (x y : Extent) → IsEntry P x → IsEntry P y → x ≡ y
one_entry P Empty Empty h k = refl
one_entry P Empty Dot h k = absurd (h k.0)
one_entry P Empty Line h k = absurd (h (segment_point P k.0))
one_entry P Empty Area h k = absurd (h (triangle_point P k))
one_entry P Dot Empty h k = absurd (k h.0)
one_entry P Dot Dot h k = refl
one_entry P Dot Line h k = absurd (h.1 k.0)
one_entry P Dot Area h k = absurd (h.1 (triangle_segment P k))
one_entry P Line Empty h k = absurd (k (segment_point P h.0))
one_entry P Line Dot h k = absurd (k.1 h.0)
one_entry P Line Line h k = refl
one_entry P Line Area h k = absurd (h.1 k)
one_entry P Area Empty h k = absurd (k (triangle_point P h))
one_entry P Area Dot h k = absurd (k.1 (triangle_segment P h))
one_entry P Area Line h k = absurd (k.1 h)
one_entry P Area Area h k = refl

one_row : (m n : Parts Extent) → m.interior ≡ n.interior → m.boundary ≡ n.boundary → m.exterior ≡ n.exterior → m ≡ n
one_row m n i b e = λ t. record { interior = i t; boundary = b t; exterior = e t }

-- two geometries have one matrix
pub one_plane_matrix : (g h : Figure) (m n : Matrix) → IsPlaneMatrix g h m → IsPlaneMatrix g h n → m ≡ n
one_plane_matrix g h m n is_m is_n =
    let i = one_row m.rows.interior n.rows.interior (same Interior Interior) (same Interior Boundary) (same Interior Exterior) in
    let b = one_row m.rows.boundary n.rows.boundary (same Boundary Interior) (same Boundary Boundary) (same Boundary Exterior) in
    let e = one_row m.rows.exterior n.rows.exterior (same Exterior Interior) (same Exterior Boundary) (same Exterior Exterior) in
    λ t. record { rows = record { interior = i t; boundary = b t; exterior = e t } }
  where
    same : (i j : Part) → entry m i j ≡ entry n i j
    same i j = one_entry _ (entry m i j) (entry n i j) (is_m.is i j) (is_n.is i j)
