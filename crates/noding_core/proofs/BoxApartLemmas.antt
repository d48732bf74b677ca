-- An edge that lies on one side of a box has a box that doesn't meet that of an edge within it.
use Rattle.std.proofs.Common.{◌≡◌, arith, refl, true, false}
use Rattle.std.specs.Prelude.{ℤ, ◌<ℤ◌, ◌≤ℤ◌, int_lt, Bool, ◌&&◌}
use Rattle.std.specs.Int.{int_min, int_max}
use Rattle.std.proofs.lemmas.Int.{ints, clamps}
use Rattle.geom_core.specs.declared.shape.Shape.{Shape}
use Rattle.geom_core.specs.Shapes.{x1, y1, x2, y2}
use Rattle.plane_core.specs.declared.edge.Edge.{Edge}
use Rattle.plane_core.specs.Boxes.{does_reach, do_overlap, do_boxes_meet}
use Rattle.edge_index_core.specs.Beyond.{is_beyond}
use Rattle.edge_index_core.specs.Bounds.{IsBoxOf}
use Rattle.noding_core.proofs.BoxLemmas.{HoldsVertex}
use Rattle.noding_core.proofs.NearLemmas.{or_four, reach_le}
use Rattle.noding_core.proofs.TestLemmas.{by_test, clash, first_holds, second_holds}

pub less_of : (m n : ℤ) → int_lt m n ≡ true → m <ℤ n
less_of m n h = grind (arith, ints)

off_below : (a b c d limit : ℤ) → (int_lt a limit && int_lt b limit) ≡ true → limit ≤ℤ c → limit ≤ℤ d → do_overlap a b c d ≡ true → ⊥
off_below a b c d limit h lc ld meet =
    plain (less_of _ _ (first_holds _ _ h)) (less_of _ _ (second_holds (int_lt a limit) _ h)) (reach_le a b c d (first_holds (does_reach a b c d) _ meet))
  where
    plain : a <ℤ limit → b <ℤ limit → int_min c d ≤ℤ int_max a b → ⊥
    plain la lb le = omega (arith, ints, clamps)

off_above : (a b c d limit : ℤ) → (int_lt limit a && int_lt limit b) ≡ true → c ≤ℤ limit → d ≤ℤ limit → do_overlap a b c d ≡ true → ⊥
off_above a b c d limit h lc ld meet =
    plain (less_of _ _ (first_holds _ _ h)) (less_of _ _ (second_holds (int_lt limit a) _ h)) (reach_le c d a b (second_holds (does_reach a b c d) _ meet))
  where
    plain : limit <ℤ a → limit <ℤ b → int_min a b ≤ℤ int_max c d → ⊥
    plain la lb le = omega (arith, ints, clamps)

pub boxes_off : (s : Shape) (e f : Edge) → HoldsVertex s f.a → HoldsVertex s f.b → is_beyond s e ≡ true → do_boxes_meet e f ≡ false
boxes_off s e f a b beyond = by_test (do_boxes_meet e f) (λ meet. absurd (apart meet)) (λ off. off)
  where
    apart : do_boxes_meet e f ≡ true → ⊥
    apart meet =
        let x = first_holds (do_overlap e.a.x e.b.x f.a.x f.b.x) (do_overlap e.a.y e.b.y f.a.y f.b.y) meet in
        let y = second_holds (do_overlap e.a.x e.b.x f.a.x f.b.x) (do_overlap e.a.y e.b.y f.a.y f.b.y) meet in
        or_four (int_lt e.a.x (x1 s) && int_lt e.b.x (x1 s)) (int_lt (x2 s) e.a.x && int_lt (x2 s) e.b.x) (int_lt e.a.y (y1 s) && int_lt e.b.y (y1 s)) (int_lt (y2 s) e.a.y && int_lt (y2 s) e.b.y) beyond
        (λ k. off_below e.a.x e.b.x f.a.x f.b.x (x1 s) k a.left b.left x)
        (λ k. off_above e.a.x e.b.x f.a.x f.b.x (x2 s) k a.right b.right x)
        (λ k. off_below e.a.y e.b.y f.a.y f.b.y (y1 s) k a.low b.low y)
        (λ k. off_above e.a.y e.b.y f.a.y f.b.y (y2 s) k a.high b.high y)

-- boxes that meet do so in either order
swapped : (t u : Bool) → (t && u) ≡ true → (u && t) ≡ true
swapped true true h = refl
swapped true false h = h
swapped false u h = cc

both : (t u : Bool) → t ≡ true → u ≡ true → (t && u) ≡ true
both t u h k = rw (h, k) refl

boxes_turned : (e f : Edge) → do_boxes_meet e f ≡ true → do_boxes_meet f e ≡ true
boxes_turned e f h = both (do_overlap f.a.x f.b.x e.a.x e.b.x) (do_overlap f.a.y f.b.y e.a.y e.b.y)
    (swapped (does_reach e.a.x e.b.x f.a.x f.b.x) (does_reach f.a.x f.b.x e.a.x e.b.x) (first_holds (do_overlap e.a.x e.b.x f.a.x f.b.x) (do_overlap e.a.y e.b.y f.a.y f.b.y) h))
    (swapped (does_reach e.a.y e.b.y f.a.y f.b.y) (does_reach f.a.y f.b.y e.a.y e.b.y) (second_holds (do_overlap e.a.x e.b.x f.a.x f.b.x) (do_overlap e.a.y e.b.y f.a.y f.b.y) h))

pub boxes_within_off : (s : Shape) (e f : Edge) → HoldsVertex s e.a → HoldsVertex s e.b → is_beyond s f ≡ true → do_boxes_meet e f ≡ false
boxes_within_off s e f a b beyond =
    by_test (do_boxes_meet e f) (λ meet. clash (do_boxes_meet f e) (boxes_turned e f meet) (boxes_off s f e a b beyond)) (λ off. off)

-- the box of the edge itself
low_min : (m a b : ℤ) → m ≡ int_min a b → m ≤ℤ a
low_min m a b h = omega (arith, ints, clamps)

low_min_last : (m a b : ℤ) → m ≡ int_min a b → m ≤ℤ b
low_min_last m a b h = omega (arith, ints, clamps)

high_max : (m a b : ℤ) → m ≡ int_max a b → a ≤ℤ m
high_max m a b h = omega (arith, ints, clamps)

high_max_last : (m a b : ℤ) → m ≡ int_max a b → b ≤ℤ m
high_max_last m a b h = omega (arith, ints, clamps)

pub beyond_apart : (s : Shape) (e f : Edge) → IsBoxOf e s → is_beyond s f ≡ true → do_boxes_meet e f ≡ false
beyond_apart s e f box beyond = boxes_within_off s e f
    (record { left = low_min _ _ e.b.x box.first_x; right = high_max _ _ e.b.x box.second_x; low = low_min _ _ e.b.y box.first_y; high = high_max _ _ e.b.y box.second_y })
    (record { left = low_min_last _ e.a.x _ box.first_x; right = high_max_last _ e.a.x _ box.second_x; low = low_min_last _ e.a.y _ box.first_y; high = high_max_last _ e.a.y _ box.second_y })
    beyond
