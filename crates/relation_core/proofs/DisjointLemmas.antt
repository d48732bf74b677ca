-- The matrix of two shapes without a common cell follows from their dimensions, and each two dimensions have such shapes.
use Rattle.std.proofs.Common.{◌≡◌, ◌↔◌, IsTrue, ℕ, ◌+◌, ◌<◌, ◌≤◌, zero, suc, refl, sym, subst, ◌∙◌, arith, inl, inr}
use Rattle.std.specs.Prelude.{ℤ, pos, ◌+ℤ◌, ◌≤ℤ◌, ◌<ℤ◌, List, [], ◌∷◌, length, Bool, true, false, MatchBool}
use Rattle.std.specs.List.{HoldsAt, AllWithin}
use Rattle.std.proofs.lemmas.Int.{ints, by_lt_z}
use Rattle.geom_core.specs.declared.span.Span.{Span}
use Rattle.geom_core.specs.Limits.{greatest_coordinate}
use Rattle.geom_core.specs.declared.shape.Shape.{Shape}
use Rattle.relation_core.specs.declared.extent.Extent.{Extent}
use Rattle.relation_core.specs.declared.extent.Extent.TheVariants.{Empty, Point, Line, Area}
use Rattle.relation_core.specs.declared.mask.Mask.{Mask}
use Rattle.relation_core.specs.declared.matrix.Matrix.{Matrix}
use Rattle.relation_core.specs.declared.relation.Relation.{Relation}
use Rattle.geom_core.specs.Cells.{line, parity, IsWithin, IsInner, Meets}
use Rattle.geom_core.specs.Shapes.{dim_of, span_dim}
use Rattle.geom_core.specs.Cells.{IsInterior}
use Rattle.relation_core.specs.Matrices.{IsBoundary, IsExterior, IsExtent, IsMatrix}
use Rattle.relation_core.specs.Masks.{Fits}
use Rattle.relation_core.specs.Relations.{masks, FitsOne, Holds, HoldsForDisjoint}
use Rattle.relation_core.specs.DisjointShapes.{interior_extent, boundary_extent, disjoint_matrix, FitsDisjoint}
use Rattle.relation_core.proofs.Zones.{line_even, gap_right, parity_le}
use Rattle.relation_core.proofs.Products.{Reaches, Fills}
use Rattle.relation_core.proofs.OneMatrix.{one_matrix}
use Rattle.relation_core.proofs.RelationLaws.{inner_or_not, inner_within, interior_covers, point_is_interior}

span_dim_long : (s : Span) → s.lo <ℤ s.hi → span_dim s ≡ 1
span_dim_long s h = grind (arith, ints)

span_dim_short : (s : Span) → s.hi ≤ℤ s.lo → span_dim s ≡ 0
span_dim_short s h = grind (arith, ints)

span_dim_at_most : (s : Span) → span_dim s ≤ 1
span_dim_at_most s = by_lt_z s.lo s.hi (λ long. omega (arith, span_dim_long s long)) (λ short. omega (arith, span_dim_short s short))

not_inner_end : (s : Span) → s.lo <ℤ s.hi → IsInner s (line s.lo) → ⊥
not_inner_end s long h = grind (arith, ints)

-- an inner place of the greatest dimension that an interval has
greatest_inner : (s : Span) → (u : ℤ) × IsInner s u × (parity u ≡ span_dim s)
greatest_inner s = by_lt_z s.lo s.hi
    (λ long. (line s.lo +ℤ pos 1, inl (omega (arith, ints), omega (arith, ints)), gap_right s.lo ∙ sym (span_dim_long s long)))
    (λ short. (line s.lo, inr (omega (arith, ints), refl), line_even s.lo ∙ sym (span_dim_short s short)))

-- no place of an interval has a greater one
within_bound : (s : Span) (u : ℤ) → IsWithin s u → parity u ≤ span_dim s
within_bound s u h = by_lt_z s.lo s.hi
    (λ long. rw (span_dim_long s long) (parity_le u))
    (λ short. let e : u ≡ line s.lo = omega (arith, ints) in rw e (omega (arith, line_even s.lo)))

-- if a place isn't inner, it is an end of an interval of positive length
end_bound : (s : Span) (u : ℤ) → IsWithin s u → ¬ (IsInner s u) → parity u + 1 ≤ span_dim s
end_bound s u h n = by_lt_z s.lo s.hi
    (λ long. by_lt_z (line s.lo) u
    (λ above. by_lt_z u (line s.hi)
    (λ below. absurd (n (inl (above, below))))
    (λ top. let e : u ≡ line s.hi = omega (arith, ints) in rw e (omega (arith, line_even s.hi, span_dim_long s long))))
    (λ bottom. let e : u ≡ line s.lo = omega (arith, ints) in rw e (omega (arith, line_even s.lo, span_dim_long s long))))
    (λ short. absurd (n (inr (omega (arith, ints), omega (arith, ints)))))

interior_reaches : (s : Shape) → Reaches (IsInterior s) (dim_of s)
interior_reaches s =
    let x = greatest_inner s.x in
    let y = greatest_inner s.y in
    record {
      reached = (x.0, y.0, (x.1, y.1), omega (arith, x.2, y.2));
      bound = λ u v h. let c = interior_covers s u v h in omega (arith, within_bound s.x u c.0, within_bound s.y v c.1);
    }

-- the boundary of a segment and of a rectangle: one dimension less
boundary_reaches : (s : Shape) (d : ℕ) → dim_of s ≡ d + 1 → Reaches (IsBoundary s) d
boundary_reaches s d e = record {
  reached = by_lt_z s.x.lo s.x.hi
      (λ long. let y = greatest_inner s.y in (
        line s.x.lo,
        y.0,
        (((omega (arith, ints), omega (arith, ints)), inner_within s.y y.0 y.1), λ h. not_inner_end s.x long h.0),
        omega (arith, line_even s.x.lo, y.2, span_dim_long s.x long),
      ))
      (λ short. by_lt_z s.y.lo s.y.hi
      (λ long. (
        line s.x.lo,
        line s.y.lo,
        (((omega (arith, ints), omega (arith, ints)), (omega (arith, ints), omega (arith, ints))), λ h. not_inner_end s.y long h.1),
        omega (arith, line_even s.x.lo, line_even s.y.lo, span_dim_short s.x short, span_dim_long s.y long),
      ))
      (λ flat. absurd (omega (arith, span_dim_short s.x short, span_dim_short s.y flat))));
  bound = λ u v c. elim (inner_or_not s.x u) [
    | inl x ↦ elim (inner_or_not s.y v) [
      | inl y ↦ absurd (c.1 (x, y))
      | inr n ↦ omega (arith, within_bound s.x u c.0.0, end_bound s.y v c.0.1 n)
    ]
    | inr n ↦ omega (arith, end_bound s.x u c.0.0 n, within_bound s.y v c.0.1)
  ];
}

interior_fills : (R : ℤ → ℤ → Type 0) (d : ℕ) → d ≤ 2 → Reaches R d → Fills R (interior_extent d)
interior_fills R zero h r = r
interior_fills R (suc zero) h r = r
interior_fills R (suc (suc zero)) h r = r
interior_fills R (suc (suc (suc d))) h r = absurd (omega arith)

boundary_fills : (s : Shape) (d : ℕ) → d ≤ 2 → dim_of s ≡ d → Fills (IsBoundary s) (boundary_extent d)
boundary_fills s zero h e = λ u v c. c.1 (point_is_interior s u v e c.0)
boundary_fills s (suc zero) h e = boundary_reaches s 0 e
boundary_fills s (suc (suc zero)) h e = boundary_reaches s 1 e
boundary_fills s (suc (suc (suc d))) h e = absurd (omega arith)

pub dim_at_most : (s : Shape) → dim_of s ≤ 2
dim_at_most s = omega (arith, span_dim_at_most s.x, span_dim_at_most s.y)

-- the intersection of a part with another that contains it
extent_first : (P Q : ℤ → ℤ → Type 0) (e : Extent) → ((u v : ℤ) → P u v → Q u v) → Fills P e → IsExtent P Q e
extent_first P Q Empty to h = λ u v p q. h u v p
extent_first P Q Point to h = record { reached = (h.reached.0, h.reached.1, h.reached.2, to _ _ h.reached.2, h.reached.3); bound = λ u v p q. h.bound u v p }
extent_first P Q Line to h = record { reached = (h.reached.0, h.reached.1, h.reached.2, to _ _ h.reached.2, h.reached.3); bound = λ u v p q. h.bound u v p }
extent_first P Q Area to h = record { reached = (h.reached.0, h.reached.1, h.reached.2, to _ _ h.reached.2, h.reached.3); bound = λ u v p q. h.bound u v p }

extent_second : (P Q : ℤ → ℤ → Type 0) (e : Extent) → ((u v : ℤ) → Q u v → P u v) → Fills Q e → IsExtent P Q e
extent_second P Q Empty to h = λ u v p q. h u v q
extent_second P Q Point to h = record { reached = (h.reached.0, h.reached.1, to _ _ h.reached.2, h.reached.2, h.reached.3); bound = λ u v p q. h.bound u v q }
extent_second P Q Line to h = record { reached = (h.reached.0, h.reached.1, to _ _ h.reached.2, h.reached.2, h.reached.3); bound = λ u v p q. h.bound u v q }
extent_second P Q Area to h = record { reached = (h.reached.0, h.reached.1, to _ _ h.reached.2, h.reached.2, h.reached.3); bound = λ u v p q. h.bound u v q }

-- after the last line of the range there is room outside of both
outside : (s : Shape) → IsExterior s (line (pos greatest_coordinate) +ℤ pos 1) (pos 1)
outside s h = absurd (omega (arith, ints))

-- the matrix of two shapes without a common cell
pub disjoint_is_matrix : (a b : Shape) → ¬ (Meets a b) → IsMatrix a b (disjoint_matrix (dim_of a) (dim_of b))
disjoint_is_matrix a b n =
    let ia = interior_fills (IsInterior a) (dim_of a) (dim_at_most a) (interior_reaches a) in
    let ib = interior_fills (IsInterior b) (dim_of b) (dim_at_most b) (interior_reaches b) in
    let ba = boundary_fills a (dim_of a) (dim_at_most a) refl in
    let bb = boundary_fills b (dim_of b) (dim_at_most b) refl in
    record {
      interior = record {
        interior = λ u v p q. n (u, v, interior_covers a u v p, interior_covers b u v q);
        boundary = λ u v p q. n (u, v, interior_covers a u v p, q.0);
        exterior = extent_first (IsInterior a) (IsExterior b) _ (λ u v p c. n (u, v, interior_covers a u v p, c)) ia;
      };
      boundary = record {
        interior = λ u v p q. n (u, v, p.0, interior_covers b u v q);
        boundary = λ u v p q. n (u, v, p.0, q.0);
        exterior = extent_first (IsBoundary a) (IsExterior b) _ (λ u v p c. n (u, v, p.0, c)) ba;
      };
      exterior = record {
        interior = extent_second (IsExterior a) (IsInterior b) _ (λ u v p c. n (u, v, c, interior_covers b u v p)) ib;
        boundary = extent_second (IsExterior a) (IsBoundary b) _ (λ u v p c. n (u, v, c, p.0)) bb;
        exterior = record {
          reached = (line (pos greatest_coordinate) +ℤ pos 1, pos 1, outside a, outside b, omega (arith, gap_right (pos greatest_coordinate)));
          bound = λ u v p q. omega (arith, parity_le u, parity_le v);
        };
      };
    }

-- an interval of this length from a place on
sample_span : (from length : ℕ) → from ≤ 4 → length ≤ 1 → Span
sample_span from length h k = record {
  lo = pos from;
  hi = pos (from + length);
  ordered = omega (arith, ints);
  above = omega (arith, ints);
  below = omega (arith, ints);
}

sample_dim : (from length : ℕ) (h : from ≤ 4) (k : length ≤ 1) → span_dim (sample_span from length h k) ≡ length
unfolding sample_span
sample_dim from zero h k = span_dim_short (sample_span from zero h k) (omega (arith, ints))
sample_dim from (suc zero) h k = span_dim_long (sample_span from (suc zero) h k) (omega (arith, ints))
sample_dim from (suc (suc l)) h k = absurd (omega arith)

-- a shape of each dimension whose first corner is at a place of the first axis
record IsSample (from dim : ℕ) (s : Shape) : Type 0 where
  has_dim : dim_of s ≡ dim
  starts : s.x.lo ≡ pos from
  ends : s.x.hi ≤ℤ pos (from + 1)

sample : (from dim : ℕ) → from ≤ 4 → dim ≤ 2 → (s : Shape) × IsSample from dim s
unfolding sample_span
sample from zero h k = (
  record { x = sample_span from 0 h (omega arith); y = sample_span 0 0 (omega arith) (omega arith) },
  record { has_dim = omega (arith, sample_dim from 0 h (omega arith), sample_dim 0 0 (omega arith) (omega arith)); starts = refl; ends = omega (arith, ints) },
)
sample from (suc zero) h k = (
  record { x = sample_span from 1 h (omega arith); y = sample_span 0 0 (omega arith) (omega arith) },
  record { has_dim = omega (arith, sample_dim from 1 h (omega arith), sample_dim 0 0 (omega arith) (omega arith)); starts = refl; ends = omega (arith, ints) },
)
sample from (suc (suc zero)) h k = (
  record { x = sample_span from 1 h (omega arith); y = sample_span 0 1 (omega arith) (omega arith) },
  record { has_dim = omega (arith, sample_dim from 1 h (omega arith), sample_dim 0 1 (omega arith) (omega arith)); starts = refl; ends = omega (arith, ints) },
)
sample from (suc (suc (suc d))) h k = absurd (omega arith)

-- a mask that fits a matrix of disjoint shapes fits that of some two shapes
pub disjoint_pair : (r : Relation) (da db : ℕ) → da < 3 → db < 3 → FitsDisjoint r da db → HoldsForDisjoint r
disjoint_pair r da db h k f =
    let (a, p) = sample 0 da (omega arith) (omega arith) in
    let (b, q) = sample 4 db (omega arith) (omega arith) in
    let apart : ¬ (Meets a b) = λ (u, v, c, d). omega (arith, ints, p.ends, q.starts) in (
      a,
      b,
      apart,
      record {
        matrix = disjoint_matrix (dim_of a) (dim_of b);
        is = disjoint_is_matrix a b apart;
        fits = rw (p.has_dim, q.has_dim) f;
      },
    )

-- a relation that holds for two shapes without a common cell has a mask that fits the matrix of their dimensions
pub fits_disjoint : (r : Relation) (a b : Shape) → ¬ (Meets a b) → Holds r a b →
    (da : ℕ) × (db : ℕ) × (da < 3) × (db < 3) × FitsDisjoint r da db
fits_disjoint r a b n h =
    let F : Matrix → Type 0 = λ m. FitsOne (masks r (dim_of a) (dim_of b)) m in
    let same = one_matrix a b h.matrix (disjoint_matrix (dim_of a) (dim_of b)) h.is (disjoint_is_matrix a b n) in
    (dim_of a, dim_of b, omega (arith, dim_at_most a), omega (arith, dim_at_most b), subst F same h.fits)

fits_at : (ms : List Mask) (m : Matrix) (k : ℕ) → k < length ms → HoldsAt (λ mask. Fits mask m) ms k → FitsOne ms m
fits_at [] m k h w = absurd (omega arith)
fits_at (mask ∷ ms) m zero h w = inl (w mask)
fits_at (mask ∷ ms) m (suc k) h w = inr (fits_at ms m k (omega arith) (λ d. w d))

none_fits : (ms : List Mask) (m : Matrix) → AllWithin (λ mask. ¬ (Fits mask m)) ms 0 (length ms) → FitsOne ms m → ⊥
none_fits [] m h f = f
none_fits (mask ∷ ms) m h f = elim f [
  | inl fits ↦ h 0 mask (omega arith) (omega arith) fits
  | inr g ↦ none_fits ms m (λ k d low high. h (suc k) d (omega arith) (omega arith)) g
]

-- the result of searching a list of masks
pub one_from_cases : (found : Bool) (ms : List Mask) (m : Matrix) →
    MatchBool found ((k : ℕ) × (k < length ms) × HoldsAt (λ mask. Fits mask m) ms k) (AllWithin (λ mask. ¬ (Fits mask m)) ms 0 (length ms)) →
    (found ≡ true) ↔ FitsOne ms m
one_from_cases true ms m (k, h, w) = (λ _. fits_at ms m k h w, λ _. refl)
one_from_cases false ms m h = (λ e. absurd cc, λ f. absurd (none_fits ms m h f))

-- no mask fits if the first of two disjoint shapes has this dimension
pub record NoneFits (r : Relation) (da : ℕ) : Type 0 where
  pub none : (db : ℕ) → db < 3 → FitsDisjoint r da db → ⊥

pub none_allowed : (r : Relation) (da : ℕ) (allows : Bool) → allows ≡ false → (IsTrue allows ↔ ((db : ℕ) × (db < 3) × FitsDisjoint r da db)) → NoneFits r da
none_allowed r da allows isnt allows_is = record { none = λ db h fits. absurd (cc (allows_is.1 (db, h, fits))) }

-- no mask fits if the two have these dimensions
pub record NotFits (r : Relation) (da db : ℕ) : Type 0 where
  pub not : FitsDisjoint r da db → ⊥

module _ (r : Relation) (da db : ℕ) (slice items : List Mask) (m : Matrix) (fits : Bool) (test : IsTrue fits ↔ FitsOne slice m) (same : slice ≡ items)
    (are : items ≡ masks r da db) (is : m ≡ disjoint_matrix da db) where
  exactly : IsTrue fits ↔ FitsDisjoint r da db
  exactly = rw (same, are, is) at test

  pub not_fits : fits ≡ false → NotFits r da db
  not_fits isnt = record { not = λ f. absurd (cc (exactly.1 f)) }
