-- Two geometries have one matrix, so the relation holds for them just where it fits their matrix.
use Rattle.std.proofs.Common.{◌≡◌, ◌≤◌, ◌↔◌, List, arith, subst, sym}
use Rattle.relation_core.specs.declared.mask.Mask.{Mask}
use Rattle.relation_core.specs.declared.matrix.Matrix.{Matrix}
use Rattle.relation_core.specs.declared.relation.Relation.{Relation}
use Rattle.relation_core.specs.Relations.{FitsOne, masks}
use Rattle.plane_core.specs.Figures.{Figure, dim_of}
use Rattle.plane_core.specs.Figures.Figure.{Points, Lines, Areas}
use Rattle.plane_core.specs.PlaneMatrices.{IsPlaneMatrix}
use Rattle.plane_core.proofs.OnePlaneMatrix.{one_plane_matrix}
use Rattle.arrangement_core.specs.Fits.{FitMatrix}
use Rattle.any_relation_core.specs.PlaneRelations.{HoldsOf}

pub dim_at_most : (g : Figure) → dim_of g ≤ 2
dim_at_most (Points vs) = omega arith
dim_at_most (Lines paths) = omega arith
dim_at_most (Areas rings) = omega arith

pub fits_where_holds : (relation : Relation) (g h : Figure) (m : Matrix) → IsPlaneMatrix g h m → HoldsOf relation g h → FitsOne (masks relation (dim_of g) (dim_of h)) m
fits_where_holds relation g h m is holds = subst (λ x. FitsOne (masks relation (dim_of g) (dim_of h)) x) (one_plane_matrix g h holds.matrix m holds.is is) holds.fits

pub holds_where_fits : (relation : Relation) (g h : Figure) (m : Matrix) → IsPlaneMatrix g h m → FitsOne (masks relation (dim_of g) (dim_of h)) m → HoldsOf relation g h
holds_where_fits relation g h m is fits = record { matrix = m; is = is; fits = fits }

-- the masks of a relation fit just where it holds
pub holds_by_fit : (relation : Relation) (g h : Figure) (ms : List Mask) (T : Type 0) → ms ≡ masks relation (dim_of g) (dim_of h) → T ↔ FitMatrix ms g h → T ↔ HoldsOf relation g h
holds_by_fit relation g h ms T are told = (
  λ yes.
      let fit = told.0 yes in
      record { matrix = fit.matrix; is = fit.is; fits = subst (λ (xs : List Mask). FitsOne xs fit.matrix) are fit.fits },
  λ holds. told.1 (record { matrix = holds.matrix; is = holds.is; fits = subst (λ (xs : List Mask). FitsOne xs holds.matrix) (sym are) holds.fits }),
)
