-- An edge that crosses another at a node of it, and the part of an area from there on.
use Rattle.std.specs.Prelude.{◌≡◌, ◌≢◌, pos, Bool, true, false, ◌&&◌, List, count_by, Option, Some}
use Rattle.plane_core.specs.declared.edge.Edge.{Edge}
use Rattle.plane_core.specs.declared.outline.Outline.{Outline}
use Rattle.plane_core.specs.declared.part.Part.{Part}
use Rattle.plane_core.specs.declared.part.Part.TheVariants.{Interior, Boundary, Exterior}
use Rattle.plane_core.specs.Points.{Point, at, run, side, is_on, IsBefore}
use Rattle.plane_core.specs.Figures.{is_odd}
use Rattle.noding_core.specs.Nodes.{IsAmong, middle}
use Rattle.shown_core.specs.Lying.{LiesOff}
use Rattle.shown_core.specs.Shown.{AreNext}
use Rattle.arrangement_core.specs.declared.crossed.Met.{Met}
use Rattle.arrangement_core.specs.declared.crossed.Met.TheVariants.{Nowhere, Once, Often}
use Rattle.arrangement_core.specs.Shared.{is_same_vertex}

-- a point is on one edge of a list, which may stand there more than once
pub record IsOnlyOn (near : List Edge) (p : Point) (f : Edge) : Type 0 where
  pub one : IsAmong f near
  pub on : is_on f p ≡ true
  pub only : (g : Edge) → IsAmong g near → is_on g p ≡ true → g ≡ f

-- on which edges of a list a point is
abbrev pub IsMet : List Edge → Point → Met → Type 0
IsMet near p Nowhere = (f : Edge) → IsAmong f near → is_on f p ≡ false
IsMet near p (Once f) = IsOnlyOn near p f
IsMet near p Often = (f : Edge) × IsAmong f near × (is_on f p ≡ true)

-- the same two ends in the same order
abbrev pub is_equal : Edge → Edge → Bool
is_equal f g = is_same_vertex f.a g.a && is_same_vertex f.b g.b

-- neither edge is vertical, no end of the second is on the line of the first, and the second stands
-- an odd number of times in a list
pub record IsCrossing (es : List Edge) (e f : Edge) : Type 0 where
  pub slanted : run e ≢ pos 0
  pub also : run f ≢ pos 0
  pub first : side e (at f.a) ≢ pos 0
  pub last : side e (at f.b) ≢ pos 0
  pub odd : is_odd (count_by (is_equal f) es) ≡ true

-- the part on the other side of an area's boundary
abbrev pub beyond : Part → Part
beyond Interior = Exterior
beyond Boundary = Boundary
beyond Exterior = Interior

-- a part is beyond a known one, of which an edge that crosses another is the boundary
pub record IsAcross (es : List Edge) (e f : Edge) (known : Option Part) (part : Part) : Type 0 where
  pub before : Part
  pub is : known ≡ Some before
  pub beyond : part ≡ beyond before
  pub crossing : IsCrossing es e f

-- from a node of an edge to the next one, the edge is off an area's boundary in a part
abbrev pub LiesAfter : Outline → Outline → Edge → Point → Part → Type 0
LiesAfter own other e k part =
    (l : Point) → AreNext own other e k l → IsBefore k l → LiesOff other (middle k l) part

-- and from the node before to the node
pub record LiesBefore (own other : Outline) (e : Edge) (l : Point) (part : Part) : Type 0 where
  pub node : Point
  pub next : AreNext own other e node l
  pub before : IsBefore node l
  pub lies : LiesOff other (middle node l) part
