-- The matrix by cells of two shapes is the plane's matrix of geometries that have their parts.
use Rattle.std.proofs.Common.{◌≡◌, ◌<◌, ◌≤◌, ◌*◌, ◌+◌, arith, refl, ap, ◌∙◌, sym, inl, inr, subst}
use Rattle.std.specs.Prelude.{ℤ, ℕ, pos, ◌*ℤ◌, ◌+ℤ◌, ◌⊎◌}
use Rattle.std.proofs.lemmas.Int.{ints}
use Rattle.geom_core.specs.declared.shape.Shape.{Shape}
use Rattle.geom_core.specs.Cells.{line, parity, cell_dim, IsInterior, Covers}
use Rattle.relation_core.specs.declared.extent.Extent.{Extent}
use Rattle.relation_core.specs.declared.extent.Extent.TheVariants.{Empty, Point as Dot, Line, Area}
use Rattle.relation_core.specs.declared.matrix.Matrix.{Matrix}
use Rattle.relation_core.specs.Matrices.{IsMatrix, IsExtent, IsGreatest}
use Rattle.relation_core.proofs.RelationLaws.{inner_within}
use Rattle.relation_core.proofs.Zones.{line_even, gap_right, parity_le}
use Rattle.plane_core.specs.declared.part.Part.{Part}
use Rattle.plane_core.specs.declared.part.Part.TheVariants.{Interior, Boundary, Exterior}
use Rattle.plane_core.specs.Points.{Point, mix, turn}
use Rattle.plane_core.specs.Figures.{Figure, part_of}
use Rattle.plane_core.specs.PlaneMatrices.{IsInBoth, IsEntry, IsPlaneMatrix, SharePoint, ShareSegment, ShareTriangle, entry}
use Rattle.plane_core.proofs.Ring.{monomials}
use Rattle.agreement_core.specs.Agreement.{LiesAt, OnLine, InGap, IsInCell, IsCellOf, HasPartsOf}
use Rattle.agreement_core.proofs.CellLemmas.{has_cell, half_cell, moved, centre, quarters, cell_point, segment_along_x, segment_along_y, triangle_of_gaps}
use Rattle.agreement_core.proofs.NearLemmas.{near_gap}
use Rattle.agreement_core.proofs.DirectionLemmas.{AreLevel, level_or_not, triangle_direction}

interior_covers : (s : Shape) (u v : ℤ) → IsInterior s u v → Covers s u v
interior_covers s u v h = (inner_within s.x u h.0, inner_within s.y v h.1)

-- a cell is in one part alone
part_unique : (s : Shape) (i j : Part) (u v : ℤ) → IsCellOf s i u v → IsCellOf s j u v → i ≡ j
part_unique s Interior Interior u v h k = refl
part_unique s Interior Boundary u v h k = absurd (k.1 h)
part_unique s Interior Exterior u v h k = absurd (k (interior_covers s u v h))
part_unique s Boundary Interior u v h k = absurd (h.1 k)
part_unique s Boundary Boundary u v h k = refl
part_unique s Boundary Exterior u v h k = absurd (k h.0)
part_unique s Exterior Interior u v h k = absurd (h (interior_covers s u v k))
part_unique s Exterior Boundary u v h k = absurd (h k.0)
part_unique s Exterior Exterior u v h k = refl

-- ---- two sets of cells and the points that lie in both

-- a point is in the set if and only if its cell is in both sets of cells
pub record AreCellsOf (P Q : ℤ → ℤ → Type 0) (R : Point → Type 0) : Type 0 where
  pub into : (p : Point) (u v : ℤ) → IsInCell p u v → P u v → Q u v → R p
  pub first : (p : Point) (u v : ℤ) → IsInCell p u v → R p → P u v
  pub second : (p : Point) (u v : ℤ) → IsInCell p u v → R p → Q u v

pub record HasPointCell (P Q : ℤ → ℤ → Type 0) (d : ℕ) : Type 0 where
  pub u : ℤ
  pub v : ℤ
  pub first : P u v
  pub second : Q u v
  pub much : d ≤ cell_dim u v

point_found : (P Q : ℤ → ℤ → Type 0) (R : Point → Type 0) → AreCellsOf P Q R → (u v : ℤ) → P u v → Q u v → SharePoint R
point_found P Q R c u v a b = (centre u v, omega arith, c.into (centre u v) u v (cell_point u v) a b)

cell_found : (P Q : ℤ → ℤ → Type 0) (R : Point → Type 0) → AreCellsOf P Q R → SharePoint R → HasPointCell P Q 0
cell_found P Q R c s =
    let x = has_cell s.0.x s.0.w s.1 in
    let y = has_cell s.0.y s.0.w s.1 in
    let l : IsInCell s.0 x.0 y.0 = record { wide = s.1; along_x = x.1; along_y = y.1 } in
    record { u = x.0; v = y.0; first = c.first s.0 x.0 y.0 l s.2; second = c.second s.0 x.0 y.0 l s.2; much = omega arith }

end_weight : (a b : ℤ) (n : ℕ) → pos n *ℤ a +ℤ b ≡ pos n *ℤ a +ℤ pos 1 *ℤ b
end_weight a b n = simp monomials (omega (arith, ints))

end_width : (w v n : ℕ) → n * w + v ≡ n * w + 1 * v
end_width w v n = omega arith

near_wide : (w v n : ℕ) → 0 < v → 0 < n * w + 1 * v
near_wide w v n h = omega (arith, h)

-- a segment has a point in a gap along one axis
near_along_x : (P Q : ℤ → ℤ → Type 0) (R : Point → Type 0) → AreCellsOf P Q R → (p q : Point) → 0 < p.w → 0 < q.w
    → ((s t : ℕ) → 0 < s + t → R (mix s p t q)) → ¬ (AreLevel p.x p.w q.x q.w) → HasPointCell P Q 1
near_along_x P Q R c p q hp hq r apart =
    let cell = has_cell p.x p.w hp in
    let near = near_gap p.x q.x cell.0 p.w q.w hp hq apart cell.1 in
    let n = near.enough in
    let gap = near.near n (omega arith) in
    let m : Point = mix n p 1 q in
    let wide : 0 < m.w = near_wide p.w q.w n hq in
    let y = has_cell m.y m.w wide in
    let l : IsInCell m (line gap.gap +ℤ pos 1) y.0 = record {
      wide = wide;
      along_x = moved _ _ _ _ (line gap.gap +ℤ pos 1) (end_weight p.x q.x n) (end_width p.w q.w n) gap.lies;
      along_y = y.1;
    } in
    let in_set : R m = r n 1 (omega arith) in
    record {
      u = line gap.gap +ℤ pos 1;
      v = y.0;
      first = c.first m _ _ l in_set;
      second = c.second m _ _ l in_set;
      much = omega (arith, gap_right gap.gap);
    }

near_along_y : (P Q : ℤ → ℤ → Type 0) (R : Point → Type 0) → AreCellsOf P Q R → (p q : Point) → 0 < p.w → 0 < q.w
    → ((s t : ℕ) → 0 < s + t → R (mix s p t q)) → ¬ (AreLevel p.y p.w q.y q.w) → HasPointCell P Q 1
near_along_y P Q R c p q hp hq r apart =
    let cell = has_cell p.y p.w hp in
    let near = near_gap p.y q.y cell.0 p.w q.w hp hq apart cell.1 in
    let n = near.enough in
    let gap = near.near n (omega arith) in
    let m : Point = mix n p 1 q in
    let wide : 0 < m.w = near_wide p.w q.w n hq in
    let x = has_cell m.x m.w wide in
    let l : IsInCell m x.0 (line gap.gap +ℤ pos 1) = record {
      wide = wide;
      along_x = x.1;
      along_y = moved _ _ _ _ (line gap.gap +ℤ pos 1) (end_weight p.y q.y n) (end_width p.w q.w n) gap.lies;
    } in
    let in_set : R m = r n 1 (omega arith) in
    record {
      u = x.0;
      v = line gap.gap +ℤ pos 1;
      first = c.first m _ _ l in_set;
      second = c.second m _ _ l in_set;
      much = omega (arith, gap_right gap.gap);
    }

segment_cell : (P Q : ℤ → ℤ → Type 0) (R : Point → Type 0) → AreCellsOf P Q R → ShareSegment R → HasPointCell P Q 1
segment_cell P Q R c s =
    choose (level_or_not s.0.x s.1.x s.0.w s.1.w) (level_or_not s.0.y s.1.y s.0.w s.1.w)
  where
    choose : AreLevel s.0.x s.0.w s.1.x s.1.w ⊎ ¬ (AreLevel s.0.x s.0.w s.1.x s.1.w)
        → AreLevel s.0.y s.0.w s.1.y s.1.w ⊎ ¬ (AreLevel s.0.y s.0.w s.1.y s.1.w) → HasPointCell P Q 1
    choose (inl a) (inl b) = absurd (s.4 (a, b))
    choose (inr a) b = near_along_x P Q R c s.0 s.1 s.2 s.3 s.5 a
    choose a (inr b) = near_along_y P Q R c s.0 s.1 s.2 s.3 s.5 b

-- a triangle has a point in a gap along both axes
corner_weight : (a b d : ℤ) (n t u : ℕ) → pos n *ℤ a +ℤ (pos t *ℤ b +ℤ pos u *ℤ d) ≡ pos 1 *ℤ (pos n *ℤ a +ℤ pos t *ℤ b) +ℤ pos u *ℤ d
corner_weight a b d n t u = omega (arith, ints)

corner_width : (x y z n t u : ℕ) → n * x + (t * y + u * z) ≡ 1 * (n * x + t * y) + u * z
corner_width x y z n t u = omega arith

triangle_cell : (P Q : ℤ → ℤ → Type 0) (R : Point → Type 0) → AreCellsOf P Q R → ShareTriangle R → HasPointCell P Q 2
triangle_cell P Q R c s =
    let p = s.0 in let q = s.1 in let r = s.2 in
    let way = triangle_direction p q r s.3 s.4 s.5 s.6 in
    let t = way.first in let u = way.second in
    let to_ = mix t q u r in
    let cell_x = has_cell p.x p.w s.3 in
    let cell_y = has_cell p.y p.w s.3 in
    let near_x = near_gap p.x to_.x cell_x.0 p.w to_.w s.3 way.some way.differs.along_x cell_x.1 in
    let near_y = near_gap p.y to_.y cell_y.0 p.w to_.w s.3 way.some way.differs.along_y cell_y.1 in
    let n = near_x.enough + near_y.enough + 1 in
    let gap_x = near_x.near n (omega arith) in
    let gap_y = near_y.near n (omega arith) in
    let m : Point = mix 1 (mix n p t q) u r in
    let l : IsInCell m (line gap_x.gap +ℤ pos 1) (line gap_y.gap +ℤ pos 1) = record {
      wide = omega (arith, way.some);
      along_x = moved _ _ _ _ (line gap_x.gap +ℤ pos 1) (corner_weight p.x q.x r.x n t u) (corner_width p.w q.w r.w n t u) gap_x.lies;
      along_y = moved _ _ _ _ (line gap_y.gap +ℤ pos 1) (corner_weight p.y q.y r.y n t u) (corner_width p.w q.w r.w n t u) gap_y.lies;
    } in
    let in_set : R m = s.7 n t u (omega arith) in
    record {
      u = line gap_x.gap +ℤ pos 1;
      v = line gap_y.gap +ℤ pos 1;
      first = c.first m _ _ l in_set;
      second = c.second m _ _ l in_set;
      much = omega (arith, gap_right gap_x.gap, gap_right gap_y.gap);
    }

-- ---- the dimension of a cell, and what it has

-- a cell of a greater dimension is no cell of two sets whose cells have a smaller one
too_much : (P Q : ℤ → ℤ → Type 0) (d n : ℕ) → IsGreatest P Q d → d < n → ¬ (HasPointCell P Q n)
too_much P Q d n g l h = omega (arith, l, h.much, g.bound h.u h.v h.first h.second)

-- on a line or in a gap, by its own half
pub data Kind (u : ℤ) : Type 0 where
  IsLine : (k : ℤ) → u ≡ line k → parity u ≡ 0 → Kind u
  IsGap : (k : ℤ) → u ≡ line k +ℤ pos 1 → parity u ≡ 1 → Kind u

kind_of : (u : ℤ) → Kind u
kind_of u = by_half u (half_cell u)
  where
    by_half : (u : ℤ) → LiesAt u 2 u → Kind u
    by_half u (OnLine k e f) = IsLine k e (ap parity e ∙ line_even k)
    by_half u (InGap k e f g) = IsGap k e (ap parity e ∙ gap_right k)

segment_found : (P Q : ℤ → ℤ → Type 0) (R : Point → Type 0) → AreCellsOf P Q R → (u v : ℤ) → P u v → Q u v
    → cell_dim u v ≡ 1 → Kind u → Kind v → ShareSegment R
segment_found P Q R c u v a b d (IsGap k e x) (IsLine m f y) = (
  quarters u v 0 0,
  quarters u v 1 0,
  omega arith,
  omega arith,
  λ s. apart u s.0,
  λ s t h. c.into _ u v (segment_along_x u v k m e f s t h) a b,
)
  where
    apart : (u : ℤ) → ¬ ((pos 2 *ℤ u +ℤ pos 0) *ℤ pos 4 ≡ (pos 2 *ℤ u +ℤ pos 1) *ℤ pos 4)
    apart u e = omega (arith, ints, e)
segment_found P Q R c u v a b d (IsLine k e x) (IsGap m f y) = (
  quarters u v 0 0,
  quarters u v 0 1,
  omega arith,
  omega arith,
  λ s. apart v s.1,
  λ s t h. c.into _ u v (segment_along_y u v k m e f s t h) a b,
)
  where
    apart : (u : ℤ) → ¬ ((pos 2 *ℤ u +ℤ pos 0) *ℤ pos 4 ≡ (pos 2 *ℤ u +ℤ pos 1) *ℤ pos 4)
    apart u e = omega (arith, ints, e)
segment_found P Q R c u v a b d (IsGap k e x) (IsGap m f y) = absurd (omega (arith, d, x, y))
segment_found P Q R c u v a b d (IsLine k e x) (IsLine m f y) = absurd (omega (arith, d, x, y))

triangle_turns : (u v : ℤ) → ¬ (turn (quarters u v 0 0) (quarters u v 1 0) (quarters u v 0 1) ≡ pos 0)
triangle_turns u v e =
    let f : turn (quarters u v 0 0) (quarters u v 1 0) (quarters u v 0 1) ≡ pos 4 = simp monomials (omega (arith, ints)) in
    let g : pos 4 ≡ pos 0 = sym f ∙ e in
    omega (arith, ints, g)

triangle_found : (P Q : ℤ → ℤ → Type 0) (R : Point → Type 0) → AreCellsOf P Q R → (u v : ℤ) → P u v → Q u v
    → cell_dim u v ≡ 2 → Kind u → Kind v → ShareTriangle R
triangle_found P Q R c u v a b d (IsGap k e x) (IsGap m f y) = (
  quarters u v 0 0,
  quarters u v 1 0,
  quarters u v 0 1,
  omega arith,
  omega arith,
  omega arith,
  triangle_turns u v,
  λ s t n h. c.into _ u v (triangle_of_gaps u v k m e f s t n h) a b,
)
triangle_found P Q R c u v a b d (IsLine k e x) y = absurd (omega (arith, d, x, parity_le v))
triangle_found P Q R c u v a b d x (IsLine k e y) = absurd (omega (arith, d, y, parity_le u))

-- the points of two sets of cells share what the cells share
entry_of : (P Q : ℤ → ℤ → Type 0) (R : Point → Type 0) → AreCellsOf P Q R → (e : Extent) → IsExtent P Q e → IsEntry R e
entry_of P Q R c Empty none = λ s. let h = cell_found P Q R c s in none h.u h.v h.first h.second
entry_of P Q R c Dot g =
    let r = g.reached in
    (point_found P Q R c r.0 r.1 r.2 r.3, λ s. too_much P Q 0 1 g (omega arith) (segment_cell P Q R c s))
entry_of P Q R c Line g =
    let r = g.reached in (
      segment_found P Q R c r.0 r.1 r.2 r.3 r.4 (kind_of r.0) (kind_of r.1),
      λ s. too_much P Q 1 2 g (omega arith) (triangle_cell P Q R c s),
    )
entry_of P Q R c Area g =
    let r = g.reached in
    triangle_found P Q R c r.0 r.1 r.2 r.3 r.4 (kind_of r.0) (kind_of r.1)

-- ---- the nine entries

cells_of : (a b : Shape) (g h : Figure) → HasPartsOf a g → HasPartsOf b h → (i j : Part)
    → AreCellsOf (IsCellOf a i) (IsCellOf b j) (IsInBoth g h i j)
cells_of a b g h x y i j = record {
  into = λ p u v l s t. record {
    first = part_unique a (part_of g p) i u v (x.parts p u v l) s;
    second = part_unique b (part_of h p) j u v (y.parts p u v l) t;
  };
  first = λ p u v l r. subst (λ k. IsCellOf a k u v) r.first (x.parts p u v l);
  second = λ p u v l r. subst (λ k. IsCellOf b k u v) r.second (y.parts p u v l);
}

extent_of : (a b : Shape) (m : Matrix) → IsMatrix a b m → (i j : Part) → IsExtent (IsCellOf a i) (IsCellOf b j) (entry m i j)
extent_of a b m h Interior Interior = h.interior.interior
extent_of a b m h Interior Boundary = h.interior.boundary
extent_of a b m h Interior Exterior = h.interior.exterior
extent_of a b m h Boundary Interior = h.boundary.interior
extent_of a b m h Boundary Boundary = h.boundary.boundary
extent_of a b m h Boundary Exterior = h.boundary.exterior
extent_of a b m h Exterior Interior = h.exterior.interior
extent_of a b m h Exterior Boundary = h.exterior.boundary
extent_of a b m h Exterior Exterior = h.exterior.exterior

pub agreement : (a b : Shape) (g h : Figure) (m : Matrix) → HasPartsOf a g → HasPartsOf b h → IsMatrix a b m → IsPlaneMatrix g h m
agreement a b g h m x y is = record {
  is = λ i j. entry_of _ _ _ (cells_of a b g h x y i j) (entry m i j) (extent_of a b m is i j);
}
