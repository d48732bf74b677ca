-- Edges that run along none of a geometry.
use Rattle.std.proofs.Common.{◌≡◌, inl, inr, refl, sym, subst, ap, ◌∙◌, true, false, List, [], ◌∷◌, All}
use Rattle.std.specs.Prelude.{pos, Bool, ◌&&◌, not}
use Rattle.std.specs.Ordering.{int_eq}
use Rattle.std.specs.List.{list_all}
use Rattle.plane_core.specs.declared.edge.Edge.{Edge}
use Rattle.plane_core.specs.declared.outline.Outline.{Outline}
use Rattle.plane_core.specs.Boxes.{do_boxes_meet}
use Rattle.plane_core.specs.Points.{at, side, turn_of}
use Rattle.noding_core.specs.Near.{IsFound}
use Rattle.noding_core.specs.Nodes.{IsAmong}
use Rattle.noding_core.proofs.NearLemmas.{contained}
use Rattle.noding_core.proofs.NodeLemmas.{all_among}
use Rattle.noding_core.proofs.TestLemmas.{first_holds, second_holds}
use Rattle.shown_core.specs.Shown.{is_along}

-- an edge that runs along none near it runs along none
none_along : (e f : Edge) (ns : List Edge) → list_all (λ g. not (is_along e g)) ns ≡ true → IsFound e ns f → not (is_along e f) ≡ true
none_along e f ns h (inl k) = each ns h (contained ns f k)
  where
    each : (xs : List Edge) → list_all (λ g. not (is_along e g)) xs ≡ true → IsAmong f xs → not (is_along e f) ≡ true
    each [] h k = absurd k
    each (x ∷ xs) h (inl is) = ap (λ (g : Edge). not (is_along e g)) is ∙ first_holds _ _ h
    each (x ∷ xs) h (inr k) = each xs (second_holds (not (is_along e x)) _ h) k
none_along e f ns h (inr off) = off_along (do_boxes_meet e f) (int_eq (turn_of e f) (pos 0) && int_eq (side e (at f.a)) (pos 0)) off
  where
    off_along : (t u : Bool) → t ≡ false → not (t && u) ≡ true
    off_along true u h = cc
    off_along false u h = refl

all_holds : (q : Edge → Bool) (xs : List Edge) → ((x : Edge) → IsAmong x xs → q x ≡ true) → list_all q xs ≡ true
all_holds q [] f = refl
all_holds q (x ∷ xs) f = both (q x) (list_all q xs) (f x (inl refl)) (all_holds q xs (λ y k. f y (inr k)))
  where
    both : (t u : Bool) → t ≡ true → u ≡ true → (t && u) ≡ true
    both t u h k = rw (h, k) refl

pub apart_of_near : (e d : Edge) (t : Bool) (ns : List Edge) (o : Outline) → d ≡ e → t ≡ list_all (λ g. not (is_along e g)) ns → All (IsFound e ns) o.edges.items
    → t ≡ true → list_all (λ f. not (is_along d f)) o.edges.items ≡ true
apart_of_near e d t ns o is test found holds =
    subst (λ (x : Edge). list_all (λ f. not (is_along x f)) o.edges.items ≡ true) (sym is)
    (all_holds (λ f. not (is_along e f)) o.edges.items
    (λ f one. none_along e f ns (sym test ∙ holds) (all_among (IsFound e ns) f o.edges.items found one)))
