-- An edge that lies strictly on one side of another's line shares no point with it.
use Rattle.std.proofs.Common.{◌≡◌, ◌<◌, arith, ap, ◌∙◌, true, false, List}
use Rattle.std.specs.Prelude.{ℤ, pos, neg_ℤ, Bool, ◌&&◌, ◌||◌, int_lt}
use Rattle.std.specs.Ordering.{int_eq}
use Rattle.std.proofs.lemmas.Int.{ints}
use Rattle.plane_core.specs.declared.edge.Edge.{Edge}
use Rattle.plane_core.specs.declared.node.Node.{Node}
use Rattle.plane_core.specs.declared.vertex.Vertex.{Vertex}
use Rattle.plane_core.specs.Crossings.{is_not_zero, is_zero_between}
use Rattle.plane_core.specs.Figures.{HasLength}
use Rattle.plane_core.specs.Points.{Point, at, side, turn_of, is_on}
use Rattle.plane_core.proofs.CrossingLemmas.{level_of, no_meeting, turn-flip}
use Rattle.plane_core.proofs.FormLemmas.{by_zero}
use Rattle.noding_core.specs.Gathered.{HasVertex, HasMeetings, is_aside}
use Rattle.noding_core.proofs.GatherLemmas.{at_first}
use Rattle.noding_core.proofs.OffPartLemmas.{first_on}
use Rattle.noding_core.proofs.PieceLemmas.{line_shared}
use Rattle.noding_core.proofs.TestLemmas.{and_false, clash}

off_zero : (m n : ℤ) → ((int_lt m (pos 0) && int_lt n (pos 0)) || (int_lt (pos 0) m && int_lt (pos 0) n)) ≡ true → is_zero_between m n ≡ false
off_zero m n h = grind (arith, ints)

zero_first : (m n : ℤ) → m ≡ pos 0 → is_zero_between m n ≡ true
zero_first m n h = grind (arith, ints)

zero_last : (m n : ℤ) → n ≡ pos 0 → is_zero_between m n ≡ true
zero_last m n h = grind (arith, ints)

third_off : (t u v : Bool) → v ≡ false → (t && u && v) ≡ false
third_off t u v h = ap (λ (x : Bool). t && u && x) h ∙ and_false (t && u)

-- a vertex off an edge's line is not on the edge
pub level_vertex : (e : Edge) (ns : List Node) (v : Vertex) → int_eq (side e (at v)) (pos 0) ≡ false → HasVertex e ns v
level_vertex e ns v off = record { here = λ on. clash (int_eq (side e (at v)) (pos 0)) (zero (side e (at v)) (level_of e (at v) on)) off }
  where
    zero : (m : ℤ) → m ≡ pos 0 → int_eq m (pos 0) ≡ true
    zero m h = grind (arith, ints)

pub aside_meetings : (e f : Edge) (ns : List Node) → is_aside e f ≡ true → HasMeetings e ns f
aside_meetings e f ns h =
    let m = side e (at f.a) in
    let n = side e (at f.b) in
    let off = off_zero m n h in
    record {
      first = record { here = λ on. clash (is_zero_between m n) (zero_first m n (level_of e (at f.a) on)) off };
      last = record { here = λ on. clash (is_zero_between m n) (zero_last m n (level_of e (at f.b) on)) off };
      meeting = record { here = λ p wide k. absurd ((no_meeting e f (third_off (is_not_zero (turn_of e f)) (is_zero_between (side f (at e.a)) (side f (at e.b))) (is_zero_between m n) off)).none p wide k) };
    }

-- an edge on one side of another's line has no point of it
pub aside_apart : (e f : Edge) (p : Point) → HasLength f → 0 < p.w → is_aside e f ≡ true → is_on e p ≡ true → is_on f p ≡ true → ⊥
aside_apart e f p long wide h on_e on_f =
    let m = side e (at f.a) in
    let n = side e (at f.b) in
    let off = off_zero m n h in
    by_zero (turn_of e f)
    (λ turning. (no_meeting e f (third_off (is_not_zero (turn_of e f)) (is_zero_between (side f (at e.a)) (side f (at e.b))) (is_zero_between m n) off)).none p wide
    (record { turning = turning; first = on_e; second = on_f }))
    (λ parallel. clash (is_zero_between m n) (zero_first m n (line_shared f e p (at f.a) long wide (turned (turn_of e f) (turn_of f e) (turn-flip e f) parallel)
    (level_of f p on_f) (level_of f (at f.a) (first_on f (at f.a) (at_first f.a))) (level_of e p on_e))) off)
  where
    turned : (t u : ℤ) → u ≡ neg_ℤ t → t ≡ pos 0 → u ≡ pos 0
    turned t u h k = omega (arith, ints)
