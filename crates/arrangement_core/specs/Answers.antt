-- What is known of the matrix of two geometries before it is computed to its end.
use Rattle.std.specs.Prelude.{◌≡◌, ◌≤◌, ⊤, Bool, true, false, List, if◌then◌else◌}
use Rattle.relation_core.specs.declared.matrix.Matrix.{Matrix}
use Rattle.relation_core.specs.Relations.{FitsOne}
use Rattle.decision_core.specs.Orders.{IsBelow}
use Rattle.plane_core.specs.declared.edge.Edge.{Edge}
use Rattle.plane_core.specs.declared.vertex.Vertex.{Vertex}
use Rattle.plane_core.specs.declared.outline.Outline.{Outline}
use Rattle.plane_core.specs.declared.part.Part.{Part}
use Rattle.plane_core.specs.Figures.{Figure}
use Rattle.plane_core.specs.PlaneMatrices.{IsPlaneMatrix, entry}
use Rattle.noding_core.specs.Marks.{rank}
use Rattle.noding_core.specs.Nodes.{IsAmong}
use Rattle.noding_core.specs.Growth.{outside, transposed}
use Rattle.noding_core.specs.ReadOffs.{outline_edges, outline_points, AreMarked, IsReadOffBy}
use Rattle.arrangement_core.specs.declared.wanted.Question.{Question}
use Rattle.arrangement_core.specs.declared.wanted.Wanted.{Wanted}
use Rattle.arrangement_core.specs.declared.wanted.Wanted.TheVariants.{Whole, Fitting, Answer}
use Rattle.arrangement_core.specs.declared.wanted.Stop.{Stop}
use Rattle.arrangement_core.specs.declared.wanted.Stop.TheVariants.{Memory, Settled}
use Rattle.arrangement_core.specs.Asked.{is_free, Agree}
use Rattle.arrangement_core.specs.Fits.{FitMatrix, IsUpperBound}

-- no entry of the bound is above that of the matrix of the two geometries, but where it may have
-- any extent
abbrev pub IsLowerBound : Wanted → Outline → Outline → Matrix → Type 0
IsLowerBound wanted a b bound =
    (m : Matrix) → IsReadOffBy a b m → (i j : Part) → is_free wanted i j ≡ false
    → rank (entry bound i j) ≤ rank (entry m i j)

-- one of the masks fits that matrix, if the upper bound is one
abbrev pub FitsSurely : Question → Outline → Outline → Type 0
FitsSurely q a b = (m : Matrix) → IsReadOffBy a b m → IsBelow m q.greatest → FitsOne q.masks.now m

-- none of them does
abbrev pub FailsSurely : Question → Outline → Outline → Type 0
FailsSurely q a b =
    (m : Matrix) → IsReadOffBy a b m → IsBelow m q.greatest → ¬ (FitsOne q.masks.now m)

-- an early end comes only where something is asked, and its answer is right; where the matrix is
-- wanted too, it comes only if no mask fits
abbrev pub IsSettled : Wanted → Outline → Outline → Bool → Type 0
IsSettled Whole a b answer = ⊥
IsSettled (Fitting q) a b answer = FailsSurely q a b
IsSettled (Answer q) a b true = FitsSurely q a b
IsSettled (Answer q) a b false = FailsSurely q a b

abbrev pub IsStop : Wanted → Outline → Outline → Stop → Type 0
IsStop wanted a b (Memory error) = ⊤
IsStop wanted a b (Settled answer) = IsSettled wanted a b answer

-- the same, of two geometries in the plane
abbrev pub IsAnswer : Wanted → Figure → Figure → Bool → Type 0
IsAnswer Whole g h answer = ⊥
IsAnswer (Fitting q) g h answer = IsUpperBound g h q.greatest → ¬ (FitMatrix q.masks.now g h)
IsAnswer (Answer q) g h true = IsUpperBound g h q.greatest → FitMatrix q.masks.now g h
IsAnswer (Answer q) g h false = IsUpperBound g h q.greatest → ¬ (FitMatrix q.masks.now g h)

abbrev pub IsEnd : Wanted → Figure → Figure → Stop → Type 0
IsEnd wanted g h (Memory error) = ⊤
IsEnd wanted g h (Settled answer) = IsAnswer wanted g h answer

-- of two geometries the first and the second in the order in which their matrix is wanted, and
-- their matrix in that order
abbrev pub first_of : Bool → Outline → Outline → Outline
first_of turned a b = if turned then b else a

abbrev pub second_of : Bool → Outline → Outline → Outline
second_of turned a b = if turned then a else b

abbrev pub in_order : Bool → Matrix → Matrix
in_order turned m = if turned then transposed m else m

-- the matrix includes some of the edges of two geometries, and nothing else
pub record HasEdges (a b : Outline) (vs : List Vertex) (m : Matrix) : Type 0 where
  pub listed : List Edge
  pub own : (e : Edge) → IsAmong e listed → IsAmong e (outline_edges a b)
  pub marked : AreMarked a b (outline_edges a b) vs listed outside m

-- so, among the points of the two, but where it may have any extent
pub record IsBegun (wanted : Wanted) (turned : Bool) (a b : Outline) (vs : List Vertex)
    (m : Matrix) : Type 0 where
  pub points : vs ≡ outline_points (first_of turned a b) (second_of turned a b)
  pub part : Matrix
  pub edges : HasEdges a b vs part
  pub agree : Agree wanted (in_order turned m) (in_order turned part)

-- the matrix of two geometries, but where it may have any extent
pub record IsReadFor (wanted : Wanted) (a b : Outline) (m : Matrix) : Type 0 where
  pub matrix : Matrix
  pub read : IsReadOffBy a b matrix
  pub agree : Agree wanted m matrix

-- the same, of two geometries in the plane
pub record IsMatrixFor (wanted : Wanted) (g h : Figure) (m : Matrix) : Type 0 where
  pub matrix : Matrix
  pub is : IsPlaneMatrix g h matrix
  pub agree : Agree wanted m matrix

-- an early end, for two geometries in that order
abbrev pub IsStopOf : Wanted → Bool → Outline → Outline → Stop → Type 0
IsStopOf wanted turned a b stop =
    IsStop wanted (first_of turned a b) (second_of turned a b) stop
