-- What a point can add to a matrix, by the parts in which it may lie.
use Rattle.std.specs.Prelude.{◌≡◌, ◌≢◌, ◌≤◌, pos, Bool, true, false, ◌&&◌, not, List, count_by}
use Rattle.std.specs.Ordering.{int_eq}
use Rattle.std.specs.List.{list_any, list_all}
use Rattle.relation_core.specs.declared.extent.Extent.{Extent}
use Rattle.relation_core.specs.declared.part.Parts.{Parts}
use Rattle.relation_core.specs.declared.matrix.Matrix.{Matrix}
use Rattle.plane_core.specs.declared.part.Part.{Part}
use Rattle.plane_core.specs.declared.edge.Edge.{Edge}
use Rattle.plane_core.specs.declared.vertex.Vertex.{Vertex}
use Rattle.plane_core.specs.declared.outline.Kind.{Kind}
use Rattle.plane_core.specs.declared.outline.Kind.TheVariants.{Points as Dots}
use Rattle.plane_core.specs.declared.outline.Kind.TheVariants.{Lines as Polylines, Areas as Rings}
use Rattle.plane_core.specs.declared.outline.Outline.{Outline}
use Rattle.plane_core.specs.Boxes.{do_boxes_meet}
use Rattle.plane_core.specs.Points.{Point, at, run, is_on, is_at, side, turn_of, IsBefore}
use Rattle.plane_core.specs.Figures.{is_odd}
use Rattle.plane_core.specs.PlaneMatrices.{pick, entry}
use Rattle.shown_core.specs.declared.course.Course.{Course}
use Rattle.noding_core.specs.Nodes.{IsAmong, IsUpTo, IsGapOf, AreNodesOf}
use Rattle.noding_core.specs.Marks.{rank}
use Rattle.noding_core.specs.ReadOffs.{IsOneOf}

-- each entry of a row at these parts is at least an extent
abbrev pub AreShown : Parts Extent → Parts Bool → Extent → Type 0
AreShown row parts x = (j : Part) → pick j parts ≡ true → rank x ≤ rank (pick j row)

-- the parts that a geometry of a kind has
abbrev pub all_parts : Kind → Parts Bool
all_parts Dots = record { interior = true; boundary = false; exterior = true }
all_parts Polylines = record { interior = true; boundary = true; exterior = true }
all_parts Rings = record { interior = true; boundary = true; exterior = true }

-- the parts that can lie just above a point
abbrev pub parts_above : Kind → Parts Bool
parts_above Dots = record { interior = false; boundary = false; exterior = true }
parts_above Polylines = record { interior = false; boundary = false; exterior = true }
parts_above Rings = record { interior = true; boundary = false; exterior = true }

-- the parts of polylines in which a point can lie that is no end of them
abbrev pub parts_off_ends : Parts Bool
parts_off_ends = record { interior = true; boundary = false; exterior = true }

abbrev pub is_odd_end : Outline → Point → Bool
is_odd_end o p = is_odd (count_by (λ v. is_at v p) o.ends.items)

-- the parts in which a point that is on no edge can lie
abbrev pub rest_by : Kind → Bool → Parts Bool
rest_by Dots odd = record { interior = true; boundary = false; exterior = true }
rest_by Polylines odd = record { interior = false; boundary = odd; exterior = not odd }
rest_by Rings odd = record { interior = true; boundary = false; exterior = true }

abbrev pub rest_parts : Outline → Point → Parts Bool
rest_parts o p = rest_by o.kind (is_odd_end o p)

-- the point is on an edge of the geometry
abbrev pub IsOnEdge : Outline → Point → Type 0
IsOnEdge o p = list_any (λ e. is_on e p) o.edges.items ≡ true

-- the point is on the course's edge, which is one of the geometry
pub record IsOnCourse (o : Outline) (c : Course) (p : Point) : Type 0 where
  pub own : IsOnEdge o p
  pub on : is_on c.edge p ≡ true

-- edges on the same line whose boxes meet
abbrev pub is_along : Edge → Edge → Bool
is_along e f =
    do_boxes_meet e f && (int_eq (turn_of e f) (pos 0) && int_eq (side e (at f.a)) (pos 0))

-- a point of an edge that is on no edge of the other geometry except those along the same line
pub record IsUncrossed (other : Outline) (e : Edge) (p : Point) : Type 0 where
  pub on : is_on e p ≡ true
  pub along : (f : Edge) → IsAmong f other.edges.items → is_on f p ≡ true → is_along e f ≡ true

-- an edge that is known to run along no edge of a geometry does run along none
abbrev pub IsKnownApart : Outline → Course → Type 0
IsKnownApart o c = c.is_apart ≡ true → list_all (λ f. not (is_along c.edge f)) o.edges.items ≡ true

-- the nodes of an edge of a geometry, in order, among edges that include those of both, and points
pub record AreCuts (own other : Outline) (e : Edge) (ns : List Point) : Type 0 where
  pub edges : List Edge
  pub points : List Vertex
  pub one : IsOneOf own other edges e
  pub nodes : AreNodesOf edges points e ns

-- a node of the edge and the next one
pub record AreNext (own other : Outline) (e : Edge) (k l : Point) : Type 0 where
  pub nodes : List Point
  pub cuts : AreCuts own other e nodes
  pub order : IsUpTo k l
  pub gap : IsBefore k l → IsGapOf k l nodes

-- all parts that can lie just above a point share areas
abbrev pub AreFacesShown : Matrix → Kind → Kind → Type 0
AreFacesShown m own other =
    (i j : Part) → pick i (parts_above own) ≡ true → pick j (parts_above other) ≡ true
    → 3 ≤ rank (entry m i j)

-- the same, unless the edge is vertical and no face lies above it
abbrev pub IsFaceShown : Matrix → Kind → Kind → Edge → Type 0
IsFaceShown m own other e = run e ≢ pos 0 → AreFacesShown m own other
