-- Intersections of sets of cells: products of sets on the two axes, and unions.
use Rattle.std.proofs.Common.{arith, ◌≡◌, inl, inr}
use Rattle.std.specs.Prelude.{ℕ, ◌≤◌, ℤ, ◌⊎◌}
use Rattle.relation_core.specs.declared.extent.Extent.{Extent}
use Rattle.relation_core.specs.declared.extent.Extent.TheVariants as extents
use Rattle.relation_core.specs.declared.meeting.Shared.{Shared}
use Rattle.relation_core.specs.declared.meeting.Shared.TheVariants.{Nothing, Point, Interval}
use Rattle.relation_core.specs.declared.axis.ZonePairs.{ZonePairs}
use Rattle.geom_core.specs.Cells.{cell_dim}
use Rattle.relation_core.specs.Matrices.{IsGreatest, IsExtent}
use Rattle.relation_core.specs.Axes.{larger_of, product_of, larger_extent, entry_of}
use Rattle.relation_core.proofs.Zones.{IsShared, parity_le}

-- the union of two sets of places
abbrev pub Either : (ℤ → Type 0) → (ℤ → Type 0) → ℤ → Type 0
Either S T u = S u ⊎ T u

-- the intersection with a union
pub shared_right : (S T U : ℤ → Type 0) (e f : Shared) → IsShared S T e → IsShared S U f → IsShared S (Either T U) (larger_of e f)
shared_right S T U Interval f (u, s, t, odd) k = (u, s, inl t, odd)
shared_right S T U Point Interval h (u, s, t, odd) = (u, s, inr t, odd)
shared_right S T U Point Point ((u, s, t), even) (_, even') = ((u, s, inl t), λ v p q. elim q [ inl x ↦ even v p x | inr y ↦ even' v p y ])
shared_right S T U Point Nothing ((u, s, t), even) k = ((u, s, inl t), λ v p q. elim q [ inl x ↦ even v p x | inr y ↦ absurd (k v p y) ])
shared_right S T U Nothing Interval h (u, s, t, odd) = (u, s, inr t, odd)
shared_right S T U Nothing Point h ((u, s, t), even) = ((u, s, inr t), λ v p q. elim q [ inl x ↦ absurd (h v p x) | inr y ↦ even v p y ])
shared_right S T U Nothing Nothing h k = λ v p q. elim q [ inl x ↦ h v p x | inr y ↦ k v p y ]

-- the intersections of a union
pub shared_left : (S U T : ℤ → Type 0) (e f : Shared) → IsShared S T e → IsShared U T f → IsShared (Either S U) T (larger_of e f)
shared_left S U T Interval f (u, s, t, odd) k = (u, inl s, t, odd)
shared_left S U T Point Interval h (u, s, t, odd) = (u, inr s, t, odd)
shared_left S U T Point Point ((u, s, t), even) (_, even') = ((u, inl s, t), λ v p q. elim p [ inl x ↦ even v x q | inr y ↦ even' v y q ])
shared_left S U T Point Nothing ((u, s, t), even) k = ((u, inl s, t), λ v p q. elim p [ inl x ↦ even v x q | inr y ↦ absurd (k v y q) ])
shared_left S U T Nothing Interval h (u, s, t, odd) = (u, inr s, t, odd)
shared_left S U T Nothing Point h ((u, s, t), even) = ((u, inr s, t), λ v p q. elim p [ inl x ↦ absurd (h v x q) | inr y ↦ even v y q ])
shared_left S U T Nothing Nothing h k = λ v p q. elim p [ inl x ↦ h v x q | inr y ↦ k v y q ]

-- the greatest dimension of a set of cells is d
pub record Reaches (R : ℤ → ℤ → Type 0) (d : ℕ) : Type 0 where
  pub reached : (u : ℤ) × (v : ℤ) × R u v × (cell_dim u v ≡ d)
  pub bound : (u v : ℤ) → R u v → cell_dim u v ≤ d

-- the dimension of a set of cells
abbrev pub Fills : (ℤ → ℤ → Type 0) → Extent → Type 0
Fills R extents.Empty = (u v : ℤ) → R u v → ⊥
Fills R extents.Point = Reaches R 0
Fills R extents.Line = Reaches R 1
Fills R extents.Area = Reaches R 2

-- the cells of a product of the intersection of S and T along one axis and of U and V along the
-- other
pub record InProduct (S T U V : ℤ → Type 0) (u v : ℤ) : Type 0 where
  pub first : S u
  pub second : T u
  pub third : U v
  pub fourth : V v

pub product_fills : (S T U V : ℤ → Type 0) (e f : Shared) → IsShared S T e → IsShared U V f → Fills (InProduct S T U V) (product_of e f)
product_fills S T U V Nothing f h k = λ u v c. h u c.first c.second
product_fills S T U V Point Nothing h k = λ u v c. k v c.third c.fourth
product_fills S T U V Interval Nothing h k = λ u v c. k v c.third c.fourth
product_fills S T U V Point Point ((u, s, t), even) ((v, p, q), even') = record {
  reached = (u, v, record { first = s; second = t; third = p; fourth = q }, omega (arith, even u s t, even' v p q));
  bound = λ x y c. omega (arith, even x c.first c.second, even' y c.third c.fourth);
}
product_fills S T U V Point Interval ((u, s, t), even) (v, p, q, odd) = record {
  reached = (u, v, record { first = s; second = t; third = p; fourth = q }, omega (arith, even u s t, odd));
  bound = λ x y c. omega (arith, even x c.first c.second, parity_le y);
}
product_fills S T U V Interval Point (u, s, t, odd) ((v, p, q), even) = record {
  reached = (u, v, record { first = s; second = t; third = p; fourth = q }, omega (arith, even v p q, odd));
  bound = λ x y c. omega (arith, even y c.third c.fourth, parity_le x);
}
product_fills S T U V Interval Interval (u, s, t, odd) (v, p, q, odd') = record {
  reached = (u, v, record { first = s; second = t; third = p; fourth = q }, omega (arith, odd, odd'));
  bound = λ x y c. omega (arith, parity_le x, parity_le y);
}

-- the union of two sets of cells
abbrev pub EitherCell : (ℤ → ℤ → Type 0) → (ℤ → ℤ → Type 0) → ℤ → ℤ → Type 0
EitherCell R Q u v = R u v ⊎ Q u v

any_at_most : (R : ℤ → ℤ → Type 0) (u v : ℤ) → R u v → cell_dim u v ≤ 2
any_at_most R u v c = omega (arith, parity_le u, parity_le v)

reaches_left : (R Q : ℤ → ℤ → Type 0) (d : ℕ) → Reaches R d → ((u v : ℤ) → Q u v → cell_dim u v ≤ d) → Reaches (EitherCell R Q) d
reaches_left R Q d h k = record {
  reached = (h.reached.0, h.reached.1, inl h.reached.2, h.reached.3);
  bound = λ u v c. elim c [ inl x ↦ h.bound u v x | inr y ↦ k u v y ];
}

reaches_right : (R Q : ℤ → ℤ → Type 0) (d : ℕ) → ((u v : ℤ) → R u v → cell_dim u v ≤ d) → Reaches Q d → Reaches (EitherCell R Q) d
reaches_right R Q d h k = record {
  reached = (k.reached.0, k.reached.1, inr k.reached.2, k.reached.3);
  bound = λ u v c. elim c [ inl x ↦ h u v x | inr y ↦ k.bound u v y ];
}

pub union_fills : (R Q : ℤ → ℤ → Type 0) (e f : Extent) → Fills R e → Fills Q f → Fills (EitherCell R Q) (larger_extent e f)
union_fills R Q extents.Area f h k = reaches_left R Q 2 h (any_at_most Q)
union_fills R Q extents.Line extents.Area h k = reaches_right R Q 2 (any_at_most R) k
union_fills R Q extents.Line extents.Line h k = reaches_left R Q 1 h k.bound
union_fills R Q extents.Line extents.Point h k = reaches_left R Q 1 h (λ u v c. omega (arith, k.bound u v c))
union_fills R Q extents.Line extents.Empty h k = reaches_left R Q 1 h (λ u v c. absurd (k u v c))
union_fills R Q extents.Point extents.Area h k = reaches_right R Q 2 (any_at_most R) k
union_fills R Q extents.Point extents.Line h k = reaches_right R Q 1 (λ u v c. omega (arith, h.bound u v c)) k
union_fills R Q extents.Point extents.Point h k = reaches_left R Q 0 h k.bound
union_fills R Q extents.Point extents.Empty h k = reaches_left R Q 0 h (λ u v c. absurd (k u v c))
union_fills R Q extents.Empty extents.Area h k = reaches_right R Q 2 (any_at_most R) k
union_fills R Q extents.Empty extents.Line h k = reaches_right R Q 1 (λ u v c. absurd (h u v c)) k
union_fills R Q extents.Empty extents.Point h k = reaches_right R Q 0 (λ u v c. absurd (h u v c)) k
union_fills R Q extents.Empty extents.Empty h k = λ u v c. elim c [ inl x ↦ h u v x | inr y ↦ k u v y ]

-- the intersections of the narrow zone N and the wide zone W of one interval with the zones M and G
-- of another
pub record IsPairs (N W M G : ℤ → Type 0) (p : ZonePairs) : Type 0 where
  pub narrow_narrow : IsShared N M p.narrow_narrow
  pub narrow_wide : IsShared N G p.narrow_wide
  pub wide_narrow : IsShared W M p.wide_narrow
  pub wide_wide : IsShared W G p.wide_wide

-- a set of cells is the union of two products, each of a narrow zone of one axis and a wide zone of the other
pub record IsMadeOf (P : ℤ → ℤ → Type 0) (N W O X : ℤ → Type 0) : Type 0 where
  pub splits : (u v : ℤ) → P u v → (N u × X v) ⊎ (W u × O v)
  pub first : (u v : ℤ) → N u → X v → P u v
  pub second : (u v : ℤ) → W u → O v → P u v

-- the intersection of two such sets
abbrev pub InBoth : (N W O X M G L H : ℤ → Type 0) → ℤ → ℤ → Type 0
InBoth N W O X M G L H = EitherCell
    (EitherCell (InProduct N M X H) (InProduct N G X L))
    (EitherCell (InProduct W M O H) (InProduct W G O L))

pub both_fill : (N W O X M G L H : ℤ → Type 0) (x y : ZonePairs) → IsPairs N W M G x → IsPairs O X L H y → Fills (InBoth N W O X M G L H) (entry_of x y)
both_fill N W O X M G L H x y p q =
    union_fills _ _ _ _
    (union_fills _ _ _ _ (product_fills N M X H _ _ p.narrow_narrow q.wide_wide) (product_fills N G X L _ _ p.narrow_wide q.wide_narrow))
    (union_fills _ _ _ _ (product_fills W M O H _ _ p.wide_narrow q.narrow_wide) (product_fills W G O L _ _ p.wide_wide q.narrow_narrow))

greatest : (P Q R : ℤ → ℤ → Type 0) (d : ℕ) → ((u v : ℤ) → P u v → Q u v → R u v) → ((u v : ℤ) → R u v → P u v × Q u v) → Reaches R d → IsGreatest P Q d
greatest P Q R d to from h =
    let c = from h.reached.0 h.reached.1 h.reached.2 in
    record {
      reached = (h.reached.0, h.reached.1, c.0, c.1, h.reached.3);
      bound = λ u v p q. h.bound u v (to u v p q);
    }

-- the extent of two sets is that of the cells in both
extent_from_fills : (P Q R : ℤ → ℤ → Type 0) (e : Extent) →
    ((u v : ℤ) → P u v → Q u v → R u v) → ((u v : ℤ) → R u v → P u v × Q u v) → Fills R e → IsExtent P Q e
extent_from_fills P Q R extents.Empty to from h = λ u v p q. h u v (to u v p q)
extent_from_fills P Q R extents.Point to from h = greatest P Q R 0 to from h
extent_from_fills P Q R extents.Line to from h = greatest P Q R 1 to from h
extent_from_fills P Q R extents.Area to from h = greatest P Q R 2 to from h

-- four products meet if two such sets do
pub entry_extent : (P Q : ℤ → ℤ → Type 0) (N W O X M G L H : ℤ → Type 0) (x y : ZonePairs) →
    IsMadeOf P N W O X → IsMadeOf Q M G L H → IsPairs N W M G x → IsPairs O X L H y → IsExtent P Q (entry_of x y)
entry_extent P Q N W O X M G L H x y f g p q =
    extent_from_fills P Q (InBoth N W O X M G L H) (entry_of x y) to from (both_fill N W O X M G L H x y p q)
  where
    to : (u v : ℤ) → P u v → Q u v → InBoth N W O X M G L H u v
    to u v a b = elim (f.splits u v a) [
      | inl (n, s) ↦ elim (g.splits u v b) [
        | inl (m, t) ↦ inl (inl (record { first = n; second = m; third = s; fourth = t }))
        | inr (m, t) ↦ inl (inr (record { first = n; second = m; third = s; fourth = t }))
      ]
      | inr (n, s) ↦ elim (g.splits u v b) [
        | inl (m, t) ↦ inr (inl (record { first = n; second = m; third = s; fourth = t }))
        | inr (m, t) ↦ inr (inr (record { first = n; second = m; third = s; fourth = t }))
      ]
    ]

    from : (u v : ℤ) → InBoth N W O X M G L H u v → P u v × Q u v
    from u v c = elim c [
      | inl d ↦ elim d [
        | inl e ↦ (f.first u v e.first e.third, g.first u v e.second e.fourth)
        | inr e ↦ (f.first u v e.first e.third, g.second u v e.second e.fourth)
      ]
      | inr d ↦ elim d [
        | inl e ↦ (f.second u v e.first e.third, g.first u v e.second e.fourth)
        | inr e ↦ (f.second u v e.first e.third, g.second u v e.second e.fourth)
      ]
    ]
