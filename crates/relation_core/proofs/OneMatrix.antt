-- Two shapes have only one matrix, and an entry is empty if and only if the two parts share no
-- cell.
use Rattle.std.proofs.Common.{◌≡◌, ◌≢◌, ℕ, ◌≤◌, ◌<◌, refl, subst, arith}
use Rattle.std.specs.Prelude.{ℤ}
use Rattle.geom_core.specs.declared.shape.Shape.{Shape}
use Rattle.relation_core.specs.declared.part.Parts.{Parts}
use Rattle.relation_core.specs.declared.extent.Extent.{Extent}
use Rattle.relation_core.specs.declared.extent.Extent.TheVariants.{Empty, Point, Line, Area}
use Rattle.relation_core.specs.declared.matrix.Matrix.{Matrix}
use Rattle.geom_core.specs.Cells.{IsInterior}
use Rattle.relation_core.specs.Matrices.{IsGreatest, IsExtent, IsRow, IsMatrix, IsBoundary, IsExterior}

-- a cell of both parts
abbrev pub Share : (P Q : ℤ → ℤ → Type 0) → Type 0
Share P Q = (u : ℤ) × (v : ℤ) × P u v × Q u v

not_both : (P Q : ℤ → ℤ → Type 0) (d : ℕ) → ((u v : ℤ) → P u v → Q u v → ⊥) → IsGreatest P Q d → ⊥
not_both P Q d none h = none h.reached.0 h.reached.1 h.reached.2 h.reached.3

reached_bound : (P Q : ℤ → ℤ → Type 0) (d e : ℕ) → IsGreatest P Q d → IsGreatest P Q e → d ≤ e
reached_bound P Q d e g h = let P' : ℕ → Type 0 = λ n. n ≤ e in subst P' g.reached.4 (h.bound g.reached.0 g.reached.1 g.reached.2 g.reached.3)

not_above : (P Q : ℤ → ℤ → Type 0) (d e : ℕ) → e < d → IsGreatest P Q d → IsGreatest P Q e → ⊥
not_above P Q d e h g k = let b = reached_bound P Q d e g k in absurd (omega arith)

pub one_extent : (P Q : ℤ → ℤ → Type 0) (d e : Extent) → IsExtent P Q d → IsExtent P Q e → d ≡ e
one_extent P Q Empty Empty g h = refl
one_extent P Q Empty Point g h = absurd (not_both P Q 0 g h)
one_extent P Q Empty Line g h = absurd (not_both P Q 1 g h)
one_extent P Q Empty Area g h = absurd (not_both P Q 2 g h)
one_extent P Q Point Empty g h = absurd (not_both P Q 0 h g)
one_extent P Q Point Point g h = refl
one_extent P Q Point Line g h = absurd (not_above P Q 1 0 (omega arith) h g)
one_extent P Q Point Area g h = absurd (not_above P Q 2 0 (omega arith) h g)
one_extent P Q Line Empty g h = absurd (not_both P Q 1 h g)
one_extent P Q Line Point g h = absurd (not_above P Q 1 0 (omega arith) g h)
one_extent P Q Line Line g h = refl
one_extent P Q Line Area g h = absurd (not_above P Q 2 1 (omega arith) h g)
one_extent P Q Area Empty g h = absurd (not_both P Q 2 h g)
one_extent P Q Area Point g h = absurd (not_above P Q 2 0 (omega arith) g h)
one_extent P Q Area Line g h = absurd (not_above P Q 2 1 (omega arith) g h)
one_extent P Q Area Area g h = refl

one_row : (P : ℤ → ℤ → Type 0) (b : Shape) (r q : Parts Extent) → IsRow P b r → IsRow P b q → r ≡ q
one_row P b r q h k =
    let i = one_extent P (IsInterior b) r.interior q.interior h.interior k.interior in
    let j = one_extent P (IsBoundary b) r.boundary q.boundary h.boundary k.boundary in
    let e = one_extent P (IsExterior b) r.exterior q.exterior h.exterior k.exterior in
    λ t. record { interior = i t; boundary = j t; exterior = e t }

-- two shapes have one matrix
pub one_matrix : (a b : Shape) (m n : Matrix) → IsMatrix a b m → IsMatrix a b n → m ≡ n
one_matrix a b m n h k =
    let i = one_row (IsInterior a) b m.rows.interior n.rows.interior h.interior k.interior in
    let j = one_row (IsBoundary a) b m.rows.boundary n.rows.boundary h.boundary k.boundary in
    let e = one_row (IsExterior a) b m.rows.exterior n.rows.exterior h.exterior k.exterior in
    λ t. record { rows = record { interior = i t; boundary = j t; exterior = e t } }

-- the parts share a cell if the entry isn't empty
pub shared : (P Q : ℤ → ℤ → Type 0) (e : Extent) → IsExtent P Q e → e ≢ Empty → Share P Q
shared P Q Empty h n = absurd (n refl)
shared P Q Point h n = (h.reached.0, h.reached.1, h.reached.2, h.reached.3)
shared P Q Line h n = (h.reached.0, h.reached.1, h.reached.2, h.reached.3)
shared P Q Area h n = (h.reached.0, h.reached.1, h.reached.2, h.reached.3)

-- they share none if it is
pub none_shared : (P Q : ℤ → ℤ → Type 0) (e : Extent) → IsExtent P Q e → e ≡ Empty → (u v : ℤ) → P u v → Q u v → ⊥
none_shared P Q e h is = let F : Extent → Type 0 = λ x. IsExtent P Q x in subst F is h

-- the entry of parts that share no cell is empty
pub empty : (P Q : ℤ → ℤ → Type 0) (e : Extent) → IsExtent P Q e → ((u v : ℤ) → P u v → Q u v → ⊥) → e ≡ Empty
empty P Q Empty h n = refl
empty P Q Point h n = absurd (not_both P Q 0 n h)
empty P Q Line h n = absurd (not_both P Q 1 n h)
empty P Q Area h n = absurd (not_both P Q 2 n h)

-- the entry of parts that share a cell is not
pub not_empty : (P Q : ℤ → ℤ → Type 0) (e : Extent) → IsExtent P Q e → (u v : ℤ) → P u v → Q u v → e ≢ Empty
not_empty P Q e h u v p q is = none_shared P Q e h is u v p q
