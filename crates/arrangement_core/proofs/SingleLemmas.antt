-- The nodes of an edge among all single points, by those that may be on it, and edges that have no
-- single point on them.
use Rattle.std.proofs.Common.{◌≡◌, ◌<◌, inl, inr, arith, sym, subst, ap, ◌∙◌, true, false, suc, List, [], ◌∷◌, ◌++◌}
use Rattle.std.specs.Prelude.{Bool, if◌then◌else◌}
use Rattle.std.specs.List.{Contains, list_any}
use Rattle.std.proofs.lemmas.List.Elements.{Contains-append_cases, Contains-append_left, Contains-append_right}
use Rattle.plane_core.specs.declared.vertex.Vertex.{Vertex}
use Rattle.plane_core.specs.declared.edge.Edge.{Edge}
use Rattle.plane_core.specs.declared.outline.Kind.{Kind}
use Rattle.plane_core.specs.declared.outline.Kind.TheVariants.{Points as Dots}
use Rattle.plane_core.specs.declared.outline.Outline.{Outline}
use Rattle.plane_core.specs.declared.part.Part.TheVariants.{Interior, Exterior}
use Rattle.plane_core.specs.Outlines.{part_by, above_by}
use Rattle.plane_core.specs.Points.{Point, at, is_at, is_on}
use Rattle.edge_index_core.specs.Ends.{AreAlong}
use Rattle.noding_core.specs.Nodes.{IsAmong, IsNode, AreNodesOf}
use Rattle.noding_core.specs.Nodes.IsNode.{FirstEnd, LastEnd, Meeting, Single}
use Rattle.noding_core.proofs.AmongLemmas.{none_any}
use Rattle.noding_core.proofs.GatherLemmas.{at_same, on_there}
use Rattle.noding_core.proofs.TestLemmas.{by_test, clash}
use Rattle.shown_core.specs.Lying.{LiesIn}
use Rattle.shown_core.proofs.BeyondLemmas.{none_on}
use Rattle.shown_core.proofs.ShownLemmas.{index_among}
use Rattle.arrangement_core.specs.Single.{HasAlong}

pub none_along : (e : Edge) → HasAlong e [] []
none_along e v one on = one

pub more_along : (e : Edge) (vs done old some new : List Vertex) → AreAlong e vs some → new ≡ old ++ some → HasAlong e done old → HasAlong e (done ++ vs) new
more_along e vs done old some new h is had v one on = subst (λ (l : List Vertex). Contains l v) (sym is) (elim (Contains-append_cases done vs v one) [
  | inl k ↦ Contains-append_left old some v (had v k on)
  | inr k ↦ Contains-append_right old some v (h.kept v k on)
])

contains : {A : Type 0} (xs : List A) (x : A) → IsAmong x xs → Contains xs x
contains [] x h = absurd h
contains (y ∷ ys) x (inl is) = (0, omega arith, sym is)
contains (y ∷ ys) x (inr h) = let k = contains ys x h in (suc k.0, omega (arith, k.1), k.2)

node_along : (e : Edge) (es : List Edge) (vs ws : List Vertex) (p : Point) → 0 < p.w → is_on e p ≡ true → HasAlong e vs ws → IsNode es vs p → IsNode es ws p
node_along e es vs ws p wide on h (FirstEnd f one here) = FirstEnd f one here
node_along e es vs ws p wide on h (LastEnd f one here) = LastEnd f one here
node_along e es vs ws p wide on h (Meeting f g one other of og turning) = Meeting f g one other of og turning
node_along e es vs ws p wide on h (Single v one here) =
    let k = h v (contains vs v one) (on_there e v p wide on (at_same v p here)) in
    Single v (index_among ws k.0 v k.1 (sym k.2)) here

pub nodes_along : (e : Edge) (es : List Edge) (vs ws : List Vertex) (ps : List Point) → HasAlong e vs ws → AreNodesOf es ws e ps → AreNodesOf es vs e ps
nodes_along e es vs ws ps along h = record {
  points = h.points;
  ascend = h.ascend;
  first_end = h.first_end;
  last_end = h.last_end;
  nodes = λ p wide on node. h.nodes p wide on (node_along e es vs ws p wide on along node);
}

-- an edge that has none of a geometry's points lies in its exterior
pub lies_off_points : (o : Outline) (e : Edge) → o.kind ≡ Dots → list_any (λ v. is_on e (at v)) o.ends.items ≡ false → LiesIn o e Exterior
lies_off_points o e kind off = record {
  on = λ p wide on. ap (λ (k : Kind). part_by k o.ends.items o.edges.items p) kind
      ∙ ap (λ (t : Bool). if t then Interior else Exterior) (none_any (λ v. is_at v p) o.ends.items (λ v one. by_test (is_at v p)
      (λ here. clash (is_on e (at v)) (on_there e v p wide on (at_same v p here)) (none_on (λ u. is_on e (at u)) o.ends.items v off one))
      (λ no. no)));
  above = λ p wide on. ap (λ (k : Kind). above_by k o.edges.items p) kind;
}
