-- Edges near the edges of a geometry are among those around its box.
use Rattle.std.proofs.Common.{◌≡◌, inl, inr, subst, true, false, List, All, get_or}
use Rattle.std.specs.Prelude.{Contains}
use Rattle.std.proofs.lemmas.List.Elements.{All-weaker}
use Rattle.geom_core.specs.declared.shape.Shape.{Shape}
use Rattle.plane_core.specs.declared.edge.Edge.{Edge}
use Rattle.plane_core.specs.declared.outline.Outline.{Outline}
use Rattle.plane_core.specs.Figures.{edges_of}
use Rattle.plane_core.specs.Boxes.{do_boxes_meet}
use Rattle.edge_index_core.specs.Around.{AreAround}
use Rattle.edge_index_core.specs.Beyond.{is_beyond}
use Rattle.noding_core.specs.Near.{IsFound, AddsAmong}
use Rattle.noding_core.specs.Nodes.{IsAmong}
use Rattle.noding_core.specs.ReadOffs.{IsOwn}
use Rattle.noding_core.proofs.NearLemmas.{contained}
use Rattle.noding_core.proofs.NodeLemmas.{all_among}
use Rattle.noding_core.proofs.BoxApartLemmas.{boxes_within_off}
use Rattle.noding_core.proofs.TestLemmas.{by_test}
use Rattle.arrangement_core.specs.Around.{HasNear}
use Rattle.shown_core.specs.Beyond.{IsBounded}
use Rattle.shown_core.proofs.BeyondLemmas.{holds_all}

-- an edge that isn't around the box meets none within it
found_around : (a b : Outline) (s : Shape) (around : List Edge) → IsBounded a s → AreAround s b.edges.items around → (e : Edge) → IsOwn a e → All (IsFound e around) b.edges.items
found_around a b s around bounded h e one = λ i d lt. by_test (is_beyond s (get_or b.edges.items i d))
    (λ beyond. inr (off (get_or b.edges.items i d) beyond))
    (λ no. inl (h.kept i d lt no))
  where
    own : IsAmong e (edges_of bounded.figure)
    own = subst (IsAmong e) bounded.outline.edges one

    off : (f : Edge) → is_beyond s f ≡ true → do_boxes_meet e f ≡ false
    off f beyond =
        let holds = holds_all s bounded.figure bounded.box in
        boxes_within_off s e f (holds.firsts e own) (holds.lasts e own) beyond

pub near_around : (a b : Outline) (s : Shape) (around : List Edge) → IsBounded a s → AreAround s b.edges.items around → HasNear a b around
near_around a b s around bounded h = record {
  own = All-weaker (Contains b.edges.items) (IsOwn b) (λ f k. contained b.edges.items f k) around h.own;
  found = found_around a b s around bounded h;
}

-- what is added of these is of the second geometry
pub adds_second : (a b : Outline) (around old new : List Edge) → HasNear a b around → AddsAmong around old new → AddsAmong b.edges.items old new
adds_second a b around old new has adds f one = elim (adds f one) [
  | inl before ↦ inl before
  | inr k ↦ inr (all_among (IsOwn b) f around has.own k)
]
