-- The intersections of sets of points of which one is a subset of another.
use Rattle.std.proofs.Common.{◌<◌, ◌+◌, ◌*◌, arith, zero, suc}
use Rattle.std.specs.Prelude.{ℕ}
use Rattle.relation_core.specs.declared.extent.Extent.{Extent}
use Rattle.relation_core.specs.declared.extent.Extent.TheVariants.{Empty, Point as Dot, Line, Area}
use Rattle.plane_core.specs.Points.{Point, mix}
use Rattle.plane_core.specs.PlaneMatrices.{SharePoint, ShareSegment, ShareTriangle, IsEntry}

pub mixed_wide : (s t m n : ℕ) → 0 < s + t → 0 < m → 0 < n → 0 < s * m + t * n
mixed_wide s t m n some h k = grind arith

-- all points of the one set are points of the other
abbrev pub IsPart : (Point → Type 0) → (Point → Type 0) → Type 0
IsPart P Q = (p : Point) → 0 < p.w → P p → Q p

pub share_point : (P Q : Point → Type 0) → IsPart P Q → SharePoint P → SharePoint Q
share_point P Q f (p, wide, is) = (p, wide, f p wide is)

pub share_segment : (P Q : Point → Type 0) → IsPart P Q → ShareSegment P → ShareSegment Q
share_segment P Q f (p, q, wp, wq, apart, all) =
    (p, q, wp, wq, apart, λ s t some. f (mix s p t q) (mixed_wide s t p.w q.w some wp wq) (all s t some))

pub share_triangle : (P Q : Point → Type 0) → IsPart P Q → ShareTriangle P → ShareTriangle Q
share_triangle P Q f (p, q, r, wp, wq, wr, apart, all) = (
  p,
  q,
  r,
  wp,
  wq,
  wr,
  apart,
  λ s t u some. f (mix 1 (mix s p t q) u r) (wide s t u some) (all s t u some),
)
  where
    wide : (s t u : ℕ) → 0 < s + t + u → 0 < 1 * (s * p.w + t * q.w) + u * r.w
    wide (suc s) t u some = let h = mixed_wide (suc s) t p.w q.w (omega arith) wp wq in omega (arith, h)
    wide zero (suc t) u some = let h = mixed_wide zero (suc t) p.w q.w (omega arith) wp wq in omega (arith, h)
    wide zero zero u some = let h = mixed_wide u 0 r.w r.w (omega arith) wr wr in omega (arith, h)

pub entry_same : (P Q : Point → Type 0) (x : Extent) → IsPart P Q → IsPart Q P → IsEntry P x → IsEntry Q x
entry_same P Q Empty f b h = λ k. h (share_point Q P b k)
entry_same P Q Dot f b h = (share_point P Q f h.0, λ k. h.1 (share_segment Q P b k))
entry_same P Q Line f b h = (share_segment P Q f h.0, λ k. h.1 (share_triangle Q P b k))
entry_same P Q Area f b h = share_triangle P Q f h
