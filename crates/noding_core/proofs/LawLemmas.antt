-- The matrix that is read off by two outlines is the matrix of the plane.
use Rattle.std.proofs.Common.{◌≡◌, inl, inr, refl, sym, subst, ap, ◌∙◌, List, [], ◌∷◌, ◌++◌, All}
use Rattle.std.proofs.lemmas.List.Elements.{All-cons, All-nil}
use Rattle.plane_core.specs.declared.edge.Edge.{Edge}
use Rattle.plane_core.specs.Figures.{Figure, HasLength, IsGeometry, edges_of}
use Rattle.plane_core.specs.Outlines.{IsOutlineOf}
use Rattle.noding_core.specs.Nodes.{IsAmong}
use Rattle.noding_core.specs.Marks.{all_edges}
use Rattle.noding_core.specs.ReadOffs.{outline_edges}
use Rattle.noding_core.proofs.PathLemmas.{all_length}
use Rattle.relation_core.specs.declared.matrix.Matrix.{Matrix}
use Rattle.plane_core.specs.declared.outline.Outline.{Outline}
use Rattle.noding_core.specs.ReadOffs.{IsReadOffBy, IsMatrixOf}
use Rattle.noding_core.proofs.ReadOffLemmas.{AreOutlined, read_off_by}
use Rattle.noding_core.proofs.MatrixLemmas.{matrix_law}

pub matrix_of : (a b : Outline) (m : Matrix) → IsReadOffBy a b m → IsMatrixOf a b m
matrix_of a b m r = record {
  is = λ g h og oh good_g good_h.
      let o : AreOutlined g h a b = record { first = og; second = oh } in
      let read = read_off_by g h a b m o r in
      matrix_law g h read.0 m good_g good_h read.1;
}

all_from_among : {A : Type 0} (P : A → Type 0) (xs : List A) → ((x : A) → IsAmong x xs → P x) → All P xs
all_from_among P [] f = All-nil P
all_from_among P (x ∷ xs) f = All-cons P x xs (f x (inl refl)) (all_from_among P xs (λ y h. f y (inr h)))

-- the edges of geometries have a length
pub outlines_long : (g h : Figure) (a b : Outline) → IsOutlineOf g a → IsOutlineOf h b → IsGeometry g → IsGeometry h → All HasLength (outline_edges a b)
outlines_long g h a b og oh good_g good_h =
    let es : outline_edges a b ≡ all_edges g h =
    ap (λ (x : List Edge). x ++ b.edges.items) og.edges ∙ ap (λ (x : List Edge). edges_of g ++ x) oh.edges in
    subst (All HasLength) (sym es) (all_from_among HasLength (all_edges g h) (λ e one. all_length g h e good_g good_h one))
