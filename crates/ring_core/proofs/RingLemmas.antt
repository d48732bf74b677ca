-- Lists of edges: each two meet properly if each edge meets properly all that come after it.
use Rattle.std.proofs.Common.{arith, ◌≡◌, ◌≤◌, ◌<◌, ◌+◌, ◌-◌, ℕ, List, length, get_or, take, drop, sym, subst, ◌∙◌}
use Rattle.std.specs.Prelude.{◌↔◌, Bool, false, Contains, All, IsTrue, IfOk, Result}
use Rattle.std.specs.declared.alloc.AllocError.{AllocError}
use Rattle.std.proofs.lemmas.List.{get_or-drop, get_or-take, get_or_default, length-take, length-drop}
use Rattle.std.proofs.lemmas.List.Elements.{All-contains}
use Rattle.geom_core.specs.declared.shape.Shape.{Shape}
use Rattle.geom_core.specs.Cells.{Meets}
use Rattle.plane_core.specs.declared.edge.Edge.{Edge}
use Rattle.plane_core.specs.declared.outline.Kind.TheVariants.{Areas as Rings}
use Rattle.plane_core.specs.Figures.{Figure, edges_of}
use Rattle.plane_core.specs.Figures.Figure.{Points, Lines, Areas}
use Rattle.plane_core.specs.Outlines.{kind_of}
use Rattle.plane_core.specs.ProperRings.{IsShared, MeetProperly, AreProper, HasProperRings}
use Rattle.rtree_core.specs.declared.node.Entry.{Entry}
use Rattle.rtree_core.specs.Windows.{AllFound}
use Rattle.edge_index_core.specs.Bounds.{IsBoxOf}
use Rattle.edge_index_core.specs.Entries.{HasEntriesOf}
use Rattle.edge_index_core.proofs.BoxLemmas.{shared_meets}
use Rattle.ring_core.specs.Candidates.{MeetsLater}

-- the edge at a place meets properly all that come after it
abbrev pub IsProperAt : List Edge → ℕ → Type 0
IsProperAt es i = (j : ℕ) (d : Edge) → i < j → j < length es → MeetProperly (get_or es i d) (get_or es j d)

abbrev pub AreProperBelow : List Edge → ℕ → Type 0
AreProperBelow es n = (i : ℕ) → i < n → IsProperAt es i

pub all_proper : (es : List Edge) (n : ℕ) → length es ≤ n → AreProperBelow es n → AreProper es
all_proper es n le h i j d lt within = h i (omega arith) j d lt within

-- the items after an index
rest_length : (es : List Edge) (i : ℕ) → length (take (length es - i) (drop i es)) ≡ length es - i
rest_length es i = length-take (length es - i) (drop i es) ∙ omega (arith, length-drop i es)

rest_at : (es : List Edge) (i k : ℕ) (d : Edge) → k < length es - i → get_or (take (length es - i) (drop i es)) k d ≡ get_or es (i + k) d
rest_at es i k d lt = get_or-take (length es - i) (drop i es) k d lt ∙ get_or-drop i es k d

pub later_all : (es : List Edge) (e : Edge) (i : ℕ) → i < length es → e ≡ get_or es i e
    → All (MeetProperly e) (take (length es - (i + 1)) (drop (i + 1) es)) → IsProperAt es i
later_all es e i within is all j d lt inside =
    let k = j - (i + 1) in
    let few : k < length es - (i + 1) = omega arith in
    let place : i + 1 + k ≡ j = omega arith in
    subst (λ (x : Edge). MeetProperly x (get_or es j d)) (is ∙ get_or_default es i e d within)
    (subst (λ (m : ℕ). MeetProperly e (get_or es m d)) place
    (subst (MeetProperly e) (rest_at es (i + 1) k d few)
    (all k d (subst (λ (m : ℕ). k < m) (sym (rest_length es (i + 1))) few))))

pub all_later : (es : List Edge) (e : Edge) (i : ℕ) → i < length es → e ≡ get_or es i e → AreProper es
    → All (MeetProperly e) (take (length es - (i + 1)) (drop (i + 1) es))
all_later es e i within is proper k d lt =
    let few : k < length es - (i + 1) = subst (λ (m : ℕ). k < m) (rest_length es (i + 1)) lt in
    subst (λ (x : Edge). MeetProperly x (get_or (take (length es - (i + 1)) (drop (i + 1) es)) k d)) (get_or_default es i d e within ∙ sym is)
    (subst (MeetProperly (get_or es i d)) (sym (rest_at es (i + 1) k d few)) (proper i (i + 1 + k) d (omega arith) (omega arith)))

-- edges whose boxes don't meet share no point
pub by_boxes : (e f : Edge) (s t : Shape) → IsBoxOf e s → IsBoxOf f t → (Meets t s → MeetProperly e f) → MeetProperly e f
by_boxes e f s t es ft h = record {
  one_place = λ p q a b. (h (shared_meets f e t s p ft es (turned p a))).one_place p q a b;
  at_end = λ p a. (h (shared_meets f e t s p ft es (turned p a))).at_end p a;
}
  where
    turned : (p : _) → IsShared e f p → IsShared f e p
    turned p a = record { wide = a.wide; first = a.second; second = a.first }

-- so it is enough that an edge meets properly those whose boxes meet its own
pub near_proper : (es : List Edge) (e : Edge) (i : ℕ) (box : Shape) (entries : List Entry) (near : List ℕ) → i < length es → e ≡ get_or es i e
    → IsBoxOf e box → HasEntriesOf es entries → AllFound box entries near → All (MeetsLater es e i) near → IsProperAt es i
near_proper es e i box entries near within is boxed has found meets j d lt inside =
    let x = has j inside d in
    subst (λ (z : Edge). MeetProperly z (get_or es j d)) (is ∙ get_or_default es i e d within)
    (by_boxes e (get_or es j d) box x.0.shape boxed x.1.box_is
    (λ met. subst (λ (k : ℕ). MeetsLater es e i k) x.1.number_is
    (All-contains (MeetsLater es e i) near x.0.number meets
    (All-contains (λ y. Meets y.shape box → Contains near y.number) entries x.0 found x.2 met)) d lt inside))

pub near_met : (es : List Edge) (e : Edge) (i : ℕ) (near : List ℕ) → i < length es → e ≡ get_or es i e → AreProper es → All (MeetsLater es e i) near
near_met es e i near within is proper p d lt x later inside =
    subst (λ (z : Edge). MeetProperly z (get_or es (get_or near p d) x)) (get_or_default es i x e within ∙ sym is) (proper i (get_or near p d) x later inside)

pub true_false : IsTrue false → ⊥
true_false h = cc

-- a fact of the edges of an area is a fact of its rings
pub rings_as : (g : Figure) (es : List Edge) (r : Result Bool AllocError) → kind_of g ≡ Rings → es ≡ edges_of g
    → IfOk r (λ t. IsTrue t ↔ AreProper es) → IfOk r (λ t. IsTrue t ↔ HasProperRings g)
rings_as (Points vs) es r kind is h = cc
rings_as (Lines paths) es r kind is h = cc
rings_as (Areas rings) es r kind is h = subst (λ (xs : List Edge). IfOk r (λ t. IsTrue t ↔ AreProper xs)) is h
