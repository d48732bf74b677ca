-- An edge that shares no point with a geometry's edges lies in one part of the geometry, and so does
-- the space just above the edge.
use Rattle.std.proofs.Common.{◌≡◌, ◌<◌, inl, inr, refl, sym, subst, ap, ◌∙◌, true, false, arith, List, [], ◌∷◌, All}
use Rattle.std.specs.Prelude.{Bool, ◌&&◌, ◌||◌, ◌≢◌, Option, None, Some, IfSome}
use Rattle.std.specs.List.{list_all}
use Rattle.geom_core.specs.declared.shape.Shape.{Shape}
use Rattle.plane_core.specs.declared.vertex.Vertex.{Vertex}
use Rattle.plane_core.specs.declared.edge.Edge.{Edge}
use Rattle.plane_core.specs.declared.outline.Kind.TheVariants.{Points as Dots}
use Rattle.plane_core.specs.declared.outline.Outline.{Outline}
use Rattle.plane_core.specs.Points.{Point, at, is_on, is_below, is_at_or_below}
use Rattle.plane_core.specs.Figures.{Figure, Points, Lines, Areas, IsGeometry, HasLength, edges_of, points_of, part_of, part_above}
use Rattle.plane_core.specs.Outlines.{outline_part, kind_of}
use Rattle.plane_core.proofs.OutlineLemmas.{outline_part-is, outline_above-is}
use Rattle.shown_core.specs.Beyond.{IsBounded}
use Rattle.noding_core.specs.Gathered.{is_aside}
use Rattle.noding_core.specs.Near.{IsFound}
use Rattle.noding_core.specs.Nodes.{IsAmong}
use Rattle.noding_core.proofs.AsideLemmas.{aside_apart}
use Rattle.noding_core.proofs.GatherLemmas.{at_first}
use Rattle.noding_core.proofs.MetLemmas.{met_or_same}
use Rattle.noding_core.proofs.NearLemmas.{near_of}
use Rattle.noding_core.proofs.NodeLemmas.{all_among}
use Rattle.noding_core.proofs.OffPartLemmas.{IsOffAll, off_part-is, off_part-same, above_part-is, first_on, last_on}
use Rattle.noding_core.proofs.OnWayLemmas.{on_way}
use Rattle.noding_core.proofs.PathLemmas.{edge_length}
use Rattle.noding_core.proofs.TestLemmas.{by_test}
use Rattle.noding_core.proofs.WayLemmas.{on_way_wide}
use Rattle.shown_core.specs.Lying.{LiesIn}
use Rattle.shown_core.proofs.BeyondLemmas.{below_same}
use Rattle.arrangement_core.specs.Aside.{are_aside}
use Rattle.arrangement_core.specs.Seen.{IsSeen, IsSeenAlong}
use Rattle.arrangement_core.specs.declared.known.Seen.{Seen}

-- an edge that shares no point with any of some edges
abbrev IsClearOf : Edge → List Edge → Type 0
IsClearOf e es = (f : Edge) → IsAmong f es → (p : Point) → 0 < p.w → is_on e p ≡ true → is_on f p ≡ true → ⊥

pub no_points : (g : Figure) → kind_of g ≢ Dots → (v : Vertex) → IsAmong v (points_of g) → ⊥
no_points (Points vs) some v h = some refl
no_points (Lines paths) some v h = h
no_points (Areas rings) some v h = h

off_clear : (g : Figure) (e : Edge) (p : Point) → kind_of g ≢ Dots → IsClearOf e (edges_of g) → 0 < p.w → is_on e p ≡ true → IsOffAll (edges_of g) (points_of g) p
off_clear g e p some clear wide on = record {
  edges = λ f one. by_test (is_on f p) (λ yes. absurd (clear f one p wide on yes)) (λ no. no);
  points = λ v one. absurd (no_points g some v one);
}

part_clear : (g : Figure) (e : Edge) (p q : Point) → IsGeometry g → kind_of g ≢ Dots → IsClearOf e (edges_of g) → 0 < p.w → 0 < q.w → is_on e p ≡ true → is_on e q ≡ true → part_of g p ≡ part_of g q
part_clear (Points vs) e p q good some clear wp wq on_p on_q = absurd (some refl)
part_clear (Lines paths) e p q good some clear wp wq on_p on_q =
    off_part-is (Lines paths) p good (off_clear (Lines paths) e p some clear wp on_p)
    ∙ sym (off_part-is (Lines paths) q good (off_clear (Lines paths) e q some clear wq on_q))
part_clear (Areas rings) e p q good some clear wp wq on_p on_q = elim (met_or_same rings p q wp wq good) [
  | inl some ↦ absurd (clear some.edge some.one some.met.point (on_way_wide p q some.met.point wp wq some.met.way)
      (on_way e p q some.met.point wp wq on_p on_q some.met.way) some.met.on)
  | inr same ↦ same
]

pub above_off : (g : Figure) (p : Point) → IsGeometry g → 0 < p.w → IsOffAll (edges_of g) (points_of g) p → part_above g p ≡ part_of g p
above_off g p good wide off =
    above_part-is g p
    ∙ off_part-same g (λ f. is_at_or_below f p) (λ f. is_below f p) (λ f one. below_same f p (edge_length g f good one) wide (off.edges f one))
    ∙ sym (off_part-is g p good off)

-- edges of which one lies on one side of the other's line share no point
pub aside_clear : (e f : Edge) (p : Point) → HasLength e → HasLength f → 0 < p.w → are_aside e f ≡ true → is_on e p ≡ true → is_on f p ≡ true → ⊥
aside_clear e f p long_e long_f wide h on_e on_f = by_test (is_aside e f)
    (λ yes. aside_apart e f p long_f wide yes on_e on_f)
    (λ no. aside_apart f e p long_e wide (other (is_aside e f) (is_aside f e) h no) on_f on_e)
  where
    other : (t u : Bool) → (t || u) ≡ true → t ≡ false → u ≡ true
    other true u h k = cc
    other false u h k = h

pub each_holds : (q : Edge → Bool) (xs : List Edge) (x : Edge) → list_all q xs ≡ true → IsAmong x xs → q x ≡ true
each_holds q [] x h k = absurd k
each_holds q (y ∷ ys) x h (inl is) = ap q is ∙ first (q y) (list_all q ys) h
  where
    first : (t u : Bool) → (t && u) ≡ true → t ≡ true
    first true u h = refl
    first false u h = cc
each_holds q (y ∷ ys) x h (inr k) = each_holds q ys x (second (q y) (list_all q ys) h) k
  where
    second : (t u : Bool) → (t && u) ≡ true → u ≡ true
    second true u h = h
    second false u h = cc

pub lies_clear : (o : Outline) (s : Shape) (e : Edge) (near : List Edge) → IsBounded o s → HasLength e → o.kind ≢ Dots → list_all (λ f. are_aside e f) near ≡ true
    → All (IsFound e near) o.edges.items → LiesIn o e (outline_part o (at e.a))
lies_clear o s e near b long some none found = record {
  on = on;
  above = λ p wide on_p. outline_above-is b.figure o p b.outline ∙ above_off b.figure p b.geometry wide (off_clear b.figure e p kind clear wide on_p)
      ∙ sym (outline_part-is b.figure o p b.outline) ∙ on p wide on_p;
}
  where
    kind : kind_of b.figure ≢ Dots
    kind h = some (b.outline.kind ∙ h)

    clear : IsClearOf e (edges_of b.figure)
    clear f one p wide on_e on_f = aside_clear e f p long (edge_length b.figure f b.geometry one) wide
        (each_holds (λ f. are_aside e f) near f none
        (near_of e f near p wide on_e on_f (all_among (IsFound e near) f o.edges.items found (subst (IsAmong f) (sym b.outline.edges) one))))
        on_e on_f

    on : (p : Point) → 0 < p.w → is_on e p ≡ true → outline_part o p ≡ outline_part o (at e.a)
    on p wide on_p =
        outline_part-is b.figure o p b.outline
        ∙ part_clear b.figure e p (at e.a) b.geometry kind clear wide (omega arith) on_p (first_on e (at e.a) (at_first e.a))
        ∙ sym (outline_part-is b.figure o (at e.a) b.outline)

-- what is known of an edge is known of its last end
pub seen_last : (o : Outline) (e : Edge) (s : Option Seen) → IfSome s (IsSeenAlong o e) → IfSome s (IsSeen o)
seen_last o e None h = tt
seen_last o e (Some s) h =
    subst (λ (v : Vertex). outline_part o (at v) ≡ s.part) (sym h.end) (h.lies.on (at e.b) (omega arith) (last_on e (at e.b) (at_first e.b)))
