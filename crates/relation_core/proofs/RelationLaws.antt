-- The meaning of the named relations for the cells of two shapes.
use Rattle.std.proofs.Common.{◌≡◌, ◌≢◌, ◌↔◌, ℕ, ◌==◌, ◌&&◌, Bool, true, false, if◌then◌else◌, [], ◌∷◌, List, refl, subst, arith, inl, inr, ◌⊎◌}
use Rattle.std.specs.Prelude.{ℤ}
use Rattle.std.proofs.lemmas.Int.{ints, by_lt_z}
use Rattle.std.proofs.lemmas.Bool.Decides.{nat_tests}
use Rattle.geom_core.specs.declared.span.Span.{Span}
use Rattle.geom_core.specs.declared.shape.Shape.{Shape}
use Rattle.relation_core.specs.declared.extent.Extent.{Extent}
use Rattle.relation_core.specs.declared.extent.Extent.TheVariants.{Empty}
use Rattle.relation_core.specs.declared.part.Parts.{Parts}
use Rattle.relation_core.specs.declared.pattern_value.PatternValue.TheVariants.{Any, NotEmpty, Exactly}
use Rattle.relation_core.specs.declared.matrix.Matrix.{Matrix}
use Rattle.relation_core.specs.declared.mask.Mask.{Mask}
use Rattle.relation_core.specs.declared.relation.Relation.{Relation}
use Rattle.relation_core.specs.declared.relation.Relation.TheVariants as relations
use Rattle.geom_core.specs.Cells.{line, IsWithin, IsInner, Covers, Meets, IsIn}
use Rattle.geom_core.specs.Joined.{same_corners}
use Rattle.geom_core.specs.Shapes.{dim_of, span_dim}
use Rattle.geom_core.specs.Cells.{IsInterior}
use Rattle.relation_core.specs.Matrices.{IsBoundary, IsExterior, IsExtent, IsMatrix}
use Rattle.relation_core.specs.Masks.{FitsRow, row}
use Rattle.relation_core.specs.Relations.{mask, masks, FitsOne, Holds}
use Rattle.geom_core.specs.Sets.{InteriorsMeet, AreTouching, LiesInside, LiesWithin, AreSameSet}
use Rattle.relation_core.proofs.OneMatrix.{Share, one_matrix, shared, none_shared, empty, not_empty}
use Rattle.geom_core.proofs.SetLaws.{some_inner}

-- a place of a closed interval is inner or not
pub inner_or_not : (s : Span) (u : ℤ) → IsInner s u ⊎ ¬ (IsInner s u)
inner_or_not s u =
    by_lt_z s.lo s.hi
    (λ long. by_lt_z (line s.lo) u
    (λ above. by_lt_z u (line s.hi) (λ below. inl (inl (above, below))) (λ top. inr (λ h. grind (arith, ints))))
    (λ bottom. inr (λ h. grind (arith, ints))))
    (λ short. by_lt_z (line s.lo) u
    (λ above. inr (λ h. grind (arith, ints)))
    (λ at. by_lt_z u (line s.lo) (λ below. inr (λ h. grind (arith, ints))) (λ from. inl (inr (omega (arith, ints), omega (arith, ints))))))

pub inner_within : (s : Span) (u : ℤ) → IsInner s u → IsWithin s u
inner_within s u h = (grind (arith, ints), grind (arith, ints))

within_or_not : (s : Span) (u : ℤ) → IsWithin s u ⊎ ¬ (IsWithin s u)
within_or_not s u =
    by_lt_z u (line s.lo)
    (λ below. inr (λ h. omega (arith, ints)))
    (λ from. by_lt_z (line s.hi) u (λ above. inr (λ h. omega (arith, ints))) (λ to. inl (from, to)))

-- a cell of the closed shape is inner or on the boundary
pub interior_or_boundary : (s : Shape) (u v : ℤ) → Covers s u v → IsInterior s u v ⊎ IsBoundary s u v
interior_or_boundary s u v c = elim (inner_or_not s.x u) [
  | inl x ↦ elim (inner_or_not s.y v) [ inl y ↦ inl (x, y) | inr n ↦ inr (c, λ h. n h.1) ]
  | inr n ↦ inr (c, λ h. n h.0)
]

pub interior_covers : (s : Shape) (u v : ℤ) → IsInterior s u v → Covers s u v
interior_covers s u v h = (inner_within s.x u h.0, inner_within s.y v h.1)

covers_or_not : (s : Shape) (u v : ℤ) → Covers s u v ⊎ IsExterior s u v
covers_or_not s u v = elim (within_or_not s.x u) [
  | inl x ↦ elim (within_or_not s.y v) [ inl y ↦ inl (x, y) | inr n ↦ inr (λ h. n h.1) ]
  | inr n ↦ inr (λ h. n h.0)
]

-- with this matrix, one of the masks fits if and only if the relation holds
pub fits_where_holds : (r : Relation) (a b : Shape) (m : Matrix) → IsMatrix a b m → FitsOne (masks r (dim_of a) (dim_of b)) m ↔ Holds r a b
fits_where_holds r a b m h = (
  λ f. record { matrix = m; is = h; fits = f },
  λ k. let F : Matrix → Type 0 = λ n. FitsOne (masks r (dim_of a) (dim_of b)) n in subst F (one_matrix a b k.matrix m k.is h) k.fits,
)

-- a common cell is in two of the four parts
meet_somewhere : (a b : Shape) (P : Type 0) → Meets a b →
    ((u v : ℤ) → IsInterior a u v → IsInterior b u v → P) →
    ((u v : ℤ) → IsInterior a u v → IsBoundary b u v → P) →
    ((u v : ℤ) → IsBoundary a u v → IsInterior b u v → P) →
    ((u v : ℤ) → IsBoundary a u v → IsBoundary b u v → P) → P
meet_somewhere a b P (u, v, c, d) ii ib bi bb = elim (interior_or_boundary a u v c) [
  | inl i ↦ elim (interior_or_boundary b u v d) [ inl j ↦ ii u v i j | inr k ↦ ib u v i k ]
  | inr e ↦ elim (interior_or_boundary b u v d) [ inl j ↦ bi u v e j | inr k ↦ bb u v e k ]
]

meets_inner : (a b : Shape) → InteriorsMeet a b → Meets a b
meets_inner a b (u, v, i, j) = (u, v, interior_covers a u v i, interior_covers b u v j)

meets_ib : (a b : Shape) → Share (IsInterior a) (IsBoundary b) → Meets a b
meets_ib a b (u, v, i, j) = (u, v, interior_covers a u v i, j.0)

meets_bi : (a b : Shape) → Share (IsBoundary a) (IsInterior b) → Meets a b
meets_bi a b (u, v, i, j) = (u, v, i.0, interior_covers b u v j)

meets_bb : (a b : Shape) → Share (IsBoundary a) (IsBoundary b) → Meets a b
meets_bb a b (u, v, i, j) = (u, v, i.0, j.0)

-- the meaning of the matrix for the parts of two shapes
record Reading (a b : Shape) (m : Matrix) : Type 0 where
  ii : (m.rows.interior.interior ≢ Empty) ↔ InteriorsMeet a b
  ib : (m.rows.interior.boundary ≢ Empty) ↔ Share (IsInterior a) (IsBoundary b)
  bi : (m.rows.boundary.interior ≢ Empty) ↔ Share (IsBoundary a) (IsInterior b)
  bb : (m.rows.boundary.boundary ≢ Empty) ↔ Share (IsBoundary a) (IsBoundary b)
  no_ii : (m.rows.interior.interior ≡ Empty) ↔ ¬ (InteriorsMeet a b)
  no_ib : (m.rows.interior.boundary ≡ Empty) ↔ ¬ (Share (IsInterior a) (IsBoundary b))
  no_bi : (m.rows.boundary.interior ≡ Empty) ↔ ¬ (Share (IsBoundary a) (IsInterior b))
  no_bb : (m.rows.boundary.boundary ≡ Empty) ↔ ¬ (Share (IsBoundary a) (IsBoundary b))
  first_in : ((m.rows.interior.exterior ≡ Empty) × (m.rows.boundary.exterior ≡ Empty)) ↔ IsIn a b
  second_in : ((m.rows.exterior.interior ≡ Empty) × (m.rows.exterior.boundary ≡ Empty)) ↔ IsIn b a

some_shared : (P Q : ℤ → ℤ → Type 0) (e : Extent) → IsExtent P Q e → (e ≢ Empty) ↔ Share P Q
some_shared P Q e h = (λ n. shared P Q e h n, λ (u, v, p, q). not_empty P Q e h u v p q)

none : (P Q : ℤ → ℤ → Type 0) (e : Extent) → IsExtent P Q e → (e ≡ Empty) ↔ ¬ (Share P Q)
none P Q e h = (λ is (u, v, p, q). none_shared P Q e h is u v p q, λ n. empty P Q e h (λ u v p q. n (u, v, p, q)))

-- a shape lies in another if neither its interior nor its boundary has a cell of the other's
-- exterior
lies_in : (a b : Shape) → ((u v : ℤ) → IsInterior a u v → IsExterior b u v → ⊥) → ((u v : ℤ) → IsBoundary a u v → IsExterior b u v → ⊥) → IsIn a b
lies_in a b i e u v c = elim (covers_or_not b u v) [
  | inl d ↦ d
  | inr out ↦ elim (interior_or_boundary a u v c) [ inl p ↦ absurd (i u v p out) | inr q ↦ absurd (e u v q out) ]
]

read : (a b : Shape) (m : Matrix) → IsMatrix a b m → Reading a b m
read a b m h = record {
  ii = some_shared (IsInterior a) (IsInterior b) m.rows.interior.interior h.interior.interior;
  ib = some_shared (IsInterior a) (IsBoundary b) m.rows.interior.boundary h.interior.boundary;
  bi = some_shared (IsBoundary a) (IsInterior b) m.rows.boundary.interior h.boundary.interior;
  bb = some_shared (IsBoundary a) (IsBoundary b) m.rows.boundary.boundary h.boundary.boundary;
  no_ii = none (IsInterior a) (IsInterior b) m.rows.interior.interior h.interior.interior;
  no_ib = none (IsInterior a) (IsBoundary b) m.rows.interior.boundary h.interior.boundary;
  no_bi = none (IsBoundary a) (IsInterior b) m.rows.boundary.interior h.boundary.interior;
  no_bb = none (IsBoundary a) (IsBoundary b) m.rows.boundary.boundary h.boundary.boundary;
  first_in = (
    λ w. lies_in a b
        (none_shared (IsInterior a) (IsExterior b) m.rows.interior.exterior h.interior.exterior w.0)
        (none_shared (IsBoundary a) (IsExterior b) m.rows.boundary.exterior h.boundary.exterior w.1),
    λ k. (
      empty (IsInterior a) (IsExterior b) m.rows.interior.exterior h.interior.exterior (λ u v p out. out (k u v (interior_covers a u v p))),
      empty (IsBoundary a) (IsExterior b) m.rows.boundary.exterior h.boundary.exterior (λ u v p out. out (k u v p.0)),
    ),
  );
  second_in = (
    λ w. lies_in b a
        (λ u v p out. none_shared (IsExterior a) (IsInterior b) m.rows.exterior.interior h.exterior.interior w.0 u v out p)
        (λ u v p out. none_shared (IsExterior a) (IsBoundary b) m.rows.exterior.boundary h.exterior.boundary w.1 u v out p),
    λ k. (
      empty (IsExterior a) (IsInterior b) m.rows.exterior.interior h.exterior.interior (λ u v out p. out (k u v (interior_covers b u v p))),
      empty (IsExterior a) (IsBoundary b) m.rows.exterior.boundary h.exterior.boundary (λ u v out p. out (k u v p.0)),
    ),
  );
}

pub disjoint_law : (a b : Shape) (m : Matrix) → IsMatrix a b m → FitsOne (masks relations.Disjoint (dim_of a) (dim_of b)) m ↔ ¬ (Meets a b)
disjoint_law a b m h =
    let r = read a b m h in (
      λ f meets. elim f [
        | inl k ↦ meet_somewhere a b ⊥ meets
            (λ u v p q. r.no_ii.0 k.interior.interior (u, v, p, q))
            (λ u v p q. r.no_ib.0 k.interior.boundary (u, v, p, q))
            (λ u v p q. r.no_bi.0 k.boundary.interior (u, v, p, q))
            (λ u v p q. r.no_bb.0 k.boundary.boundary (u, v, p, q))
        | inr x ↦ absurd x
      ],
      λ n. inl (record {
        interior = record { interior = r.no_ii.1 (λ s. n (meets_inner a b s)); boundary = r.no_ib.1 (λ s. n (meets_ib a b s)); exterior = tt };
        boundary = record { interior = r.no_bi.1 (λ s. n (meets_bi a b s)); boundary = r.no_bb.1 (λ s. n (meets_bb a b s)); exterior = tt };
        exterior = record { interior = tt; boundary = tt; exterior = tt };
      }),
    )

nothing_asked : (e : Parts Extent) → FitsRow (row Any Any Any) e
nothing_asked e = record { interior = tt; boundary = tt; exterior = tt }

pub intersects_law : (a b : Shape) (m : Matrix) → IsMatrix a b m → FitsOne (masks relations.Intersects (dim_of a) (dim_of b)) m ↔ Meets a b
intersects_law a b m h =
    let r = read a b m h in (
      λ f. elim f [
        | inl k ↦ meets_inner a b (r.ii.0 k.interior.interior)
        | inr f ↦ elim f [
          | inl k ↦ meets_ib a b (r.ib.0 k.interior.boundary)
          | inr f ↦ elim f [
            | inl k ↦ meets_bi a b (r.bi.0 k.boundary.interior)
            | inr f ↦ elim f [ inl k ↦ meets_bb a b (r.bb.0 k.boundary.boundary) | inr x ↦ absurd x ]
          ]
        ]
      ],
      λ meets. meet_somewhere a b _ meets
          (λ u v p q. inl (record {
            interior = record { interior = r.ii.1 (u, v, p, q); boundary = tt; exterior = tt };
            boundary = nothing_asked _;
            exterior = nothing_asked _;
          }))
          (λ u v p q. inr (inl (record {
            interior = record { interior = tt; boundary = r.ib.1 (u, v, p, q); exterior = tt };
            boundary = nothing_asked _;
            exterior = nothing_asked _;
          })))
          (λ u v p q. inr (inr (inl (record {
            interior = nothing_asked _;
            boundary = record { interior = r.bi.1 (u, v, p, q); boundary = tt; exterior = tt };
            exterior = nothing_asked _;
          }))))
          (λ u v p q. inr (inr (inr (inl (record {
            interior = nothing_asked _;
            boundary = record { interior = tt; boundary = r.bb.1 (u, v, p, q); exterior = tt };
            exterior = nothing_asked _;
          }))))),
    )

pub within_law : (a b : Shape) (m : Matrix) → IsMatrix a b m → FitsOne (masks relations.Within (dim_of a) (dim_of b)) m ↔ LiesWithin a b
within_law a b m h =
    let r = read a b m h in (
      λ f. elim f [ inl k ↦ (r.first_in.0 (k.interior.exterior, k.boundary.exterior), r.ii.0 k.interior.interior) | inr x ↦ absurd x ],
      λ w. let i = r.first_in.1 w.0 in
          inl (record {
            interior = record { interior = r.ii.1 w.1; boundary = tt; exterior = i.0 };
            boundary = record { interior = tt; boundary = tt; exterior = i.1 };
            exterior = nothing_asked _;
          }),
    )

inner_swapped : (a b : Shape) → InteriorsMeet a b → InteriorsMeet b a
inner_swapped a b (u, v, i, j) = (u, v, j, i)

pub contains_law : (a b : Shape) (m : Matrix) → IsMatrix a b m → FitsOne (masks relations.Contains (dim_of a) (dim_of b)) m ↔ LiesWithin b a
contains_law a b m h =
    let r = read a b m h in (
      λ f. elim f [
        | inl k ↦ (r.second_in.0 (k.exterior.interior, k.exterior.boundary), inner_swapped a b (r.ii.0 k.interior.interior))
        | inr x ↦ absurd x
      ],
      λ w. let i = r.second_in.1 w.0 in
          inl (record {
            interior = record { interior = r.ii.1 (inner_swapped b a w.1); boundary = tt; exterior = tt };
            boundary = nothing_asked _;
            exterior = record { interior = i.0; boundary = i.1; exterior = tt };
          }),
    )

-- shapes with the same cells are one
pub same_cells : (a b : Shape) → IsIn a b → IsIn b a → a ≡ b
same_cells a b h k =
    let low : Covers b (line a.x.lo) (line a.y.lo) =
    h (line a.x.lo) (line a.y.lo) ((omega (arith, ints), omega (arith, ints)), (omega (arith, ints), omega (arith, ints))) in
    let high : Covers b (line a.x.hi) (line a.y.hi) =
    h (line a.x.hi) (line a.y.hi) ((omega (arith, ints), omega (arith, ints)), (omega (arith, ints), omega (arith, ints))) in
    let low' : Covers a (line b.x.lo) (line b.y.lo) =
    k (line b.x.lo) (line b.y.lo) ((omega (arith, ints), omega (arith, ints)), (omega (arith, ints), omega (arith, ints))) in
    let high' : Covers a (line b.x.hi) (line b.y.hi) =
    k (line b.x.hi) (line b.y.hi) ((omega (arith, ints), omega (arith, ints)), (omega (arith, ints), omega (arith, ints))) in
    same_corners a b (omega (arith, ints)) (omega (arith, ints)) (omega (arith, ints)) (omega (arith, ints))

-- the interiors of shapes with the same cells meet
inner_of_same : (a b : Shape) → IsIn a b → IsIn b a → InteriorsMeet a b
inner_of_same a b h k =
    let x = some_inner a.x in
    let y = some_inner a.y in
    let I : Shape → Type 0 = λ s. IsInterior s x.0 y.0 in
    (x.0, y.0, (x.1, y.1), subst I (same_cells a b h k) (x.1, y.1))

pub equals_law : (a b : Shape) (m : Matrix) → IsMatrix a b m → FitsOne (masks relations.Equals (dim_of a) (dim_of b)) m ↔ AreSameSet a b
equals_law a b m h =
    let r = read a b m h in (
      λ f. elim f [
        | inl k ↦ (r.first_in.0 (k.interior.exterior, k.boundary.exterior), r.second_in.0 (k.exterior.interior, k.exterior.boundary))
        | inr x ↦ absurd x
      ],
      λ w. let i = r.first_in.1 w.0 in
          let j = r.second_in.1 w.1 in
          inl (record {
            interior = record { interior = r.ii.1 (inner_of_same a b w.0 w.1); boundary = tt; exterior = i.0 };
            boundary = record { interior = tt; boundary = tt; exterior = i.1 };
            exterior = record { interior = j.0; boundary = j.1; exterior = tt };
          }),
    )

-- a shape has a cell, so one that lies in another meets it
in_meets : (a b : Shape) → IsIn a b → Meets a b
in_meets a b h =
    let x = some_inner a.x in
    let y = some_inner a.y in
    let c = interior_covers a x.0 y.0 (x.1, y.1) in (x.0, y.0, c, h x.0 y.0 c)

meets_swapped : (a b : Shape) → Meets a b → Meets b a
meets_swapped a b (u, v, c, d) = (u, v, d, c)

pub covered_by_law : (a b : Shape) (m : Matrix) → IsMatrix a b m → FitsOne (masks relations.CoveredBy (dim_of a) (dim_of b)) m ↔ IsIn a b
covered_by_law a b m h =
    let r = read a b m h in (
      λ f. elim f [
        | inl k ↦ r.first_in.0 (k.interior.exterior, k.boundary.exterior)
        | inr f ↦ elim f [
          | inl k ↦ r.first_in.0 (k.interior.exterior, k.boundary.exterior)
          | inr f ↦ elim f [
            | inl k ↦ r.first_in.0 (k.interior.exterior, k.boundary.exterior)
            | inr f ↦ elim f [ inl k ↦ r.first_in.0 (k.interior.exterior, k.boundary.exterior) | inr x ↦ absurd x ]
          ]
        ]
      ],
      λ w. let out = r.first_in.1 w in
          meet_somewhere a b _ (in_meets a b w)
          (λ u v p q. inl (record {
            interior = record { interior = r.ii.1 (u, v, p, q); boundary = tt; exterior = out.0 };
            boundary = record { interior = tt; boundary = tt; exterior = out.1 };
            exterior = nothing_asked _;
          }))
          (λ u v p q. inr (inl (record {
            interior = record { interior = tt; boundary = r.ib.1 (u, v, p, q); exterior = out.0 };
            boundary = record { interior = tt; boundary = tt; exterior = out.1 };
            exterior = nothing_asked _;
          })))
          (λ u v p q. inr (inr (inl (record {
            interior = record { interior = tt; boundary = tt; exterior = out.0 };
            boundary = record { interior = r.bi.1 (u, v, p, q); boundary = tt; exterior = out.1 };
            exterior = nothing_asked _;
          }))))
          (λ u v p q. inr (inr (inr (inl (record {
            interior = record { interior = tt; boundary = tt; exterior = out.0 };
            boundary = record { interior = tt; boundary = r.bb.1 (u, v, p, q); exterior = out.1 };
            exterior = nothing_asked _;
          }))))),
    )

pub covers_law : (a b : Shape) (m : Matrix) → IsMatrix a b m → FitsOne (masks relations.Covers (dim_of a) (dim_of b)) m ↔ IsIn b a
covers_law a b m h =
    let r = read a b m h in (
      λ f. elim f [
        | inl k ↦ r.second_in.0 (k.exterior.interior, k.exterior.boundary)
        | inr f ↦ elim f [
          | inl k ↦ r.second_in.0 (k.exterior.interior, k.exterior.boundary)
          | inr f ↦ elim f [
            | inl k ↦ r.second_in.0 (k.exterior.interior, k.exterior.boundary)
            | inr f ↦ elim f [ inl k ↦ r.second_in.0 (k.exterior.interior, k.exterior.boundary) | inr x ↦ absurd x ]
          ]
        ]
      ],
      λ w. let out = r.second_in.1 w in
          meet_somewhere a b _ (meets_swapped b a (in_meets b a w))
          (λ u v p q. inl (record {
            interior = record { interior = r.ii.1 (u, v, p, q); boundary = tt; exterior = tt };
            boundary = nothing_asked _;
            exterior = record { interior = out.0; boundary = out.1; exterior = tt };
          }))
          (λ u v p q. inr (inl (record {
            interior = record { interior = tt; boundary = r.ib.1 (u, v, p, q); exterior = tt };
            boundary = nothing_asked _;
            exterior = record { interior = out.0; boundary = out.1; exterior = tt };
          })))
          (λ u v p q. inr (inr (inl (record {
            interior = nothing_asked _;
            boundary = record { interior = r.bi.1 (u, v, p, q); boundary = tt; exterior = tt };
            exterior = record { interior = out.0; boundary = out.1; exterior = tt };
          }))))
          (λ u v p q. inr (inr (inr (inl (record {
            interior = nothing_asked _;
            boundary = record { interior = tt; boundary = r.bb.1 (u, v, p, q); exterior = tt };
            exterior = record { interior = out.0; boundary = out.1; exterior = tt };
          }))))),
    )

-- a shape lies in the interior of another if it lies in it and meets no cell of its boundary
lies_inside : (a b : Shape) → IsIn b a → ¬ (Share (IsBoundary a) (IsInterior b)) → ¬ (Share (IsBoundary a) (IsBoundary b)) → LiesInside b a
lies_inside a b h bi bb u v d = elim (interior_or_boundary a u v (h u v d)) [
  | inl p ↦ p
  | inr q ↦ elim (interior_or_boundary b u v d) [ inl j ↦ absurd (bi (u, v, q, j)) | inr k ↦ absurd (bb (u, v, q, k)) ]
]

-- the interior of a shape inside another shares a cell with that of the other
inner_of_inside : (a b : Shape) → LiesInside b a → InteriorsMeet a b
inner_of_inside a b h =
    let x = some_inner b.x in
    let y = some_inner b.y in
    (x.0, y.0, h x.0 y.0 (interior_covers b x.0 y.0 (x.1, y.1)), (x.1, y.1))

pub contains_properly_law : (a b : Shape) (m : Matrix) → IsMatrix a b m
    → FitsOne (masks relations.ContainsProperly (dim_of a) (dim_of b)) m ↔ LiesInside b a
contains_properly_law a b m h =
    let r = read a b m h in (
      λ f. elim f [
        | inl k ↦ lies_inside a b (r.second_in.0 (k.exterior.interior, k.exterior.boundary)) (r.no_bi.0 k.boundary.interior) (r.no_bb.0 k.boundary.boundary)
        | inr x ↦ absurd x
      ],
      λ w. let out = r.second_in.1 (λ u v d. interior_covers a u v (w u v d)) in
          inl (record {
            interior = record { interior = r.ii.1 (inner_of_inside a b w); boundary = tt; exterior = tt };
            boundary = record {
              interior = r.no_bi.1 (λ (u, v, p, q). p.1 (w u v (interior_covers b u v q)));
              boundary = r.no_bb.1 (λ (u, v, p, q). p.1 (w u v q.0));
              exterior = tt;
            };
            exterior = record { interior = out.0; boundary = out.1; exterior = tt };
          }),
    )

-- a span without length covers its one line
span_of_none : (s : Span) (u : ℤ) → span_dim s ≡ 0 → IsWithin s u → IsInner s u
span_of_none s u e h = inr (grind (arith, ints), grind (arith, ints))

-- a point is its interior
pub point_is_interior : (s : Shape) (u v : ℤ) → dim_of s ≡ 0 → Covers s u v → IsInterior s u v
point_is_interior s u v e c = (span_of_none s.x u (omega arith) c.0, span_of_none s.y v (omega arith) c.1)

-- a list under a test that fails
under_not : (t : Bool) (ms : List Mask) (m : Matrix) → FitsOne (if t then [] else ms) m ↔ ((t ≡ false) × FitsOne ms m)
under_not true ms m = (λ x. absurd x, λ w. absurd (cc (w.0)))
under_not false ms m = (λ f. (refl, f), λ w. w.1)

both_points : (da db : ℕ) → ((da == 0) && (db == 0)) ≡ true → (da ≡ 0) × (db ≡ 0)
both_points da db e = (grind (arith, nat_tests), grind (arith, nat_tests))

-- two points that meet have a common inner cell
points_meet_inside : (a b : Shape) → ((dim_of a == 0) && (dim_of b == 0)) ≡ true → Meets a b → InteriorsMeet a b
points_meet_inside a b e (u, v, c, d) =
    let dims = both_points (dim_of a) (dim_of b) e in
    (u, v, point_is_interior a u v dims.0 c, point_is_interior b u v dims.1 d)

touches_masks : List Mask
touches_masks =
    mask (row (Exactly Empty) NotEmpty Any) (row Any Any Any) (row Any Any Any)
    ∷ mask (row (Exactly Empty) Any Any) (row NotEmpty Any Any) (row Any Any Any)
    ∷ mask (row (Exactly Empty) Any Any) (row Any NotEmpty Any) (row Any Any Any)
    ∷ []

-- one of the masks of touches fits if the shapes meet and their interiors don't
touches_fits : (a b : Shape) (m : Matrix) → IsMatrix a b m → FitsOne touches_masks m ↔ AreTouching a b
unfolding touches_masks
touches_fits a b m h =
    let r = read a b m h in (
      λ f. elim f [
        | inl k ↦ (meets_ib a b (r.ib.0 k.interior.boundary), r.no_ii.0 k.interior.interior)
        | inr f ↦ elim f [
          | inl k ↦ (meets_bi a b (r.bi.0 k.boundary.interior), r.no_ii.0 k.interior.interior)
          | inr f ↦ elim f [
            | inl k ↦ (meets_bb a b (r.bb.0 k.boundary.boundary), r.no_ii.0 k.interior.interior)
            | inr x ↦ absurd x
          ]
        ]
      ],
      λ w. let ii = r.no_ii.1 w.1 in
          meet_somewhere a b _ w.0
          (λ u v p q. absurd (w.1 (u, v, p, q)))
          (λ u v p q. inl (record {
            interior = record { interior = ii; boundary = r.ib.1 (u, v, p, q); exterior = tt };
            boundary = nothing_asked _;
            exterior = nothing_asked _;
          }))
          (λ u v p q. inr (inl (record {
            interior = record { interior = ii; boundary = tt; exterior = tt };
            boundary = record { interior = r.bi.1 (u, v, p, q); boundary = tt; exterior = tt };
            exterior = nothing_asked _;
          })))
          (λ u v p q. inr (inr (inl (record {
            interior = record { interior = ii; boundary = tt; exterior = tt };
            boundary = record { interior = tt; boundary = r.bb.1 (u, v, p, q); exterior = tt };
            exterior = nothing_asked _;
          })))),
    )

not_points : (a b : Shape) → Meets a b → ¬ (InteriorsMeet a b) → (t : Bool) → ((dim_of a == 0) && (dim_of b == 0)) ≡ t → t ≡ false
not_points a b meets apart true e = absurd (apart (points_meet_inside a b e meets))
not_points a b meets apart false e = refl

pub touches_law : (a b : Shape) (m : Matrix) → IsMatrix a b m → FitsOne (masks relations.Touches (dim_of a) (dim_of b)) m ↔ AreTouching a b
unfolding touches_masks
touches_law a b m h =
    let points = (dim_of a == 0) && (dim_of b == 0) in
    let law = touches_fits a b m h in
    let test = under_not points touches_masks m in (
      λ f. law.0 (test.0 f).1,
      λ w. test.1 (not_points a b w.0 w.1 points refl, law.1 w),
    )
