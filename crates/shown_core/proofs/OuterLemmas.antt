-- What the exterior's column of a matrix has to show for edges beyond a box.
use Rattle.std.proofs.Common.{◌≡◌, ◌≤◌, inl, inr, subst}
use Rattle.std.specs.Prelude.{◌⊎◌, count_by}
use Rattle.geom_core.specs.declared.shape.Shape.{Shape}
use Rattle.relation_core.specs.declared.extent.Extent.{Extent}
use Rattle.relation_core.specs.declared.extent.Extent.TheVariants.{Line, Area}
use Rattle.relation_core.specs.declared.part.Parts.{Parts}
use Rattle.relation_core.specs.declared.matrix.Matrix.{Matrix}
use Rattle.plane_core.specs.declared.part.Part.TheVariants.{Exterior}
use Rattle.plane_core.specs.declared.outline.Kind.TheVariants.{Lines as Polylines}
use Rattle.plane_core.specs.declared.outline.Outline.{Outline}
use Rattle.plane_core.specs.Points.{is_at}
use Rattle.plane_core.specs.Figures.{is_odd}
use Rattle.plane_core.specs.PlaneMatrices.{pick}
use Rattle.noding_core.specs.Marks.{rank}
use Rattle.noding_core.specs.Growth.{transposed}
use Rattle.noding_core.proofs.TestLemmas.{clash}
use Rattle.shown_core.specs.Beyond.{parts_along, IsOuterShown}
use Rattle.shown_core.specs.Ends.{HasNoOuterEnd}
use Rattle.shown_core.specs.Shown.{AreShown, parts_above}

pub outer_shown : (m : Matrix) (own : Outline) (s : Shape) (column : Parts Extent) → column ≡ pick Exterior (transposed m).rows → AreShown column (parts_along own.kind) Line → AreShown column (parts_above own.kind) Area
    → (own.kind ≡ Polylines → (1 ≤ rank column.boundary) ⊎ HasNoOuterEnd s own.ends.items) → IsOuterShown m own s
outer_shown m own s column is pieces faces ends = record {
  pieces = subst (λ (c : Parts Extent). AreShown c (parts_along own.kind) Line) is pieces;
  faces = subst (λ (c : Parts Extent). AreShown c (parts_above own.kind) Area) is faces;
  ends = λ kind e p beyond wide on odd. elim (ends kind) [
    | inl shown ↦ subst (λ (c : Parts Extent). 1 ≤ rank c.boundary) is shown
    | inr none ↦ clash (is_odd (count_by (λ v. is_at v p) own.ends.items)) odd (none e p beyond wide on)
  ];
}
