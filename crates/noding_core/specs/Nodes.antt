-- The nodes of an arrangement of edges, and the nodes of one edge in order.
use Rattle.std.specs.Prelude.{◌≡◌, ◌≢◌, ◌⊎◌, ⊤, ◌<◌, pos, List, [], ◌∷◌, All, true}
use Rattle.plane_core.specs.declared.vertex.Vertex.{Vertex}
use Rattle.plane_core.specs.declared.edge.Edge.{Edge}
use Rattle.plane_core.specs.Points.{Point, at, mix, turn_of, is_on, is_at, IsSamePlace, IsBefore}

-- the item is in the list
abbrev pub IsAmong : {A : Type 0} → A → List A → Type 0
IsAmong x [] = ⊥
IsAmong x (y ∷ ys) = (x ≡ y) ⊎ IsAmong x ys

-- an end of an edge, the intersection of two edges that aren't parallel, or one of the single
-- points
pub data IsNode (es : List Edge) (vs : List Vertex) (p : Point) : Type 0 where
  FirstEnd : (e : Edge) → IsAmong e es → is_at e.a p ≡ true → IsNode es vs p
  LastEnd : (e : Edge) → IsAmong e es → is_at e.b p ≡ true → IsNode es vs p
  Meeting : (e f : Edge) → IsAmong e es → IsAmong f es → is_on e p ≡ true → is_on f p ≡ true
      → turn_of e f ≢ pos 0 → IsNode es vs p
  Single : (v : Vertex) → IsAmong v vs → is_at v p ≡ true → IsNode es vs p

-- the same place as some point of the list
abbrev pub IsPlaceOf : Point → List Point → Type 0
IsPlaceOf p [] = ⊥
IsPlaceOf p (n ∷ ns) = IsSamePlace p n ⊎ IsPlaceOf p ns

-- the point is before the other or at the same place
abbrev pub IsUpTo : Point → Point → Type 0
IsUpTo p q = IsBefore p q ⊎ IsSamePlace p q

-- no point of the list is before one that precedes it
abbrev pub Ascend : List Point → Type 0
Ascend [] = ⊤
Ascend (n ∷ ns) = All (IsUpTo n) ns × Ascend ns

pub record IsPointOf (e : Edge) (p : Point) : Type 0 where
  pub wide : 0 < p.w
  pub on : is_on e p ≡ true

-- points of an edge in order, including both its ends and all nodes on it
pub record AreNodesOf (es : List Edge) (vs : List Vertex) (e : Edge) (ns : List Point)
    : Type 0 where
  pub points : All (IsPointOf e) ns
  pub ascend : Ascend ns
  pub first_end : IsPlaceOf (at e.a) ns
  pub last_end : IsPlaceOf (at e.b) ns
  pub nodes : (p : Point) → 0 < p.w → is_on e p ≡ true → IsNode es vs p → IsPlaceOf p ns

-- an edge with the nodes on it
pub record NodedEdge : Type 0 where
  pub edge : Edge
  pub nodes : List Point

-- two consecutive nodes at different places; the points strictly between them are a piece of the
-- edge
abbrev pub IsGapOf : Point → Point → List Point → Type 0
IsGapOf k l [] = ⊥
IsGapOf k l (n ∷ []) = ⊥
IsGapOf k l (m ∷ n ∷ ns) = ((k ≡ m) × (l ≡ n) × IsBefore m n) ⊎ IsGapOf k l (n ∷ ns)

-- a point of the piece
abbrev pub middle : Point → Point → Point
middle k l = mix 1 k 1 l

-- the edges in order, each with its nodes
abbrev pub AreNoded : List Edge → List Vertex → List Edge → List NodedEdge → Type 0
AreNoded es vs [] [] = ⊤
AreNoded es vs [] (m ∷ ms) = ⊥
AreNoded es vs (e ∷ rest) [] = ⊥
AreNoded es vs (e ∷ rest) (m ∷ ms) =
    (m.edge ≡ e) × AreNodesOf es vs e m.nodes × AreNoded es vs rest ms

-- all edges, each once or more and in any order, each with its nodes
pub record AreAllNoded (es : List Edge) (vs : List Vertex) (noded : List NodedEdge) : Type 0 where
  pub listed : List Edge
  pub are : AreNoded es vs listed noded
  pub all : (e : Edge) → IsAmong e es → IsAmong e listed
  pub only : (e : Edge) → IsAmong e listed → IsAmong e es
