-- The tests of a point by the integers next to its coordinates, and edges above and below it.
use Rattle.std.proofs.Common.{◌≡◌, ◌<◌, ℕ, true, false, arith, sym, refl, ◌∙◌}
use Rattle.std.specs.Prelude.{ℤ, pos, Bool, ◌&&◌, ◌||◌, ◌*ℤ◌, ◌-ℤ◌, ◌+ℤ◌, neg_ℤ, ◌<ℤ◌, ◌≤ℤ◌, int_lt, int_le, nat_abs}
use Rattle.std.specs.Ordering.{int_eq}
use Rattle.std.proofs.lemmas.Int.{ints, by_lt_z}
use Rattle.plane_core.specs.declared.edge.Edge.{Edge}
use Rattle.plane_core.specs.declared.place.Place.{Place}
use Rattle.plane_core.specs.declared.place.Lie.{Lie}
use Rattle.plane_core.specs.Points.{Point, side, is_between, is_from_to}
use Rattle.plane_core.specs.Places.{IsLie}
use Rattle.plane_core.specs.Spots.{IsFloor, IsCeiling, are_above, are_below}
use Rattle.plane_core.proofs.Ring.{monomials}
use Rattle.plane_core.proofs.Signs.{wide_z, weak, times_positive, times_not_negative, positive_factor}
use Rattle.plane_core.proofs.ScaleLemmas.{less_scaled, no_less_scaled, le_agree, le_agree_not, lt_agree, lt_agree_not}
use Rattle.plane_core.proofs.CheckLemmas.{and_first, and_second}
use Rattle.plane_core.proofs.CrossingLemmas.{true_le}

-- the denominator of a point
pub place_wide : (p : Place) → 0 < nat_abs p.w
place_wide p = plain p.w p.positive
  where
    plain : (w : ℤ) → pos 0 <ℤ w → 0 < nat_abs w
    plain w h = omega (arith, ints)

le_le : (a b c : ℤ) → a ≤ℤ b → b ≤ℤ c → a ≤ℤ c
le_le a b c h k = omega (arith, ints)

lt_le : (a b c : ℤ) → a <ℤ b → b ≤ℤ c → a <ℤ c
lt_le a b c h k = omega (arith, ints)

le_lt : (a b c : ℤ) → a ≤ℤ b → b <ℤ c → a <ℤ c
le_lt a b c h k = omega (arith, ints)

next_up : (f v : ℤ) → f <ℤ v → (f +ℤ pos 1) ≤ℤ v
next_up f v h = omega (arith, ints)

next_down : (c v : ℤ) → v <ℤ c → v ≤ℤ (c -ℤ pos 1)
next_down c v h = omega (arith, ints)

-- an integer lies to z / w as it lies to the integers next to that
over_floor : (w : ℕ) (z f v : ℤ) → 0 < w → IsFloor w z f → f <ℤ v → z <ℤ (pos w *ℤ v)
over_floor w z f v wide h over = lt_le _ _ _ h.1 (no_less_scaled (pos w) (f +ℤ pos 1) v (wide_z w wide) (next_up f v over))

to_floor : (w : ℕ) (z f v : ℤ) → 0 < w → IsFloor w z f → v ≤ℤ f → (pos w *ℤ v) ≤ℤ z
to_floor w z f v wide h held = le_le _ _ _ (no_less_scaled (pos w) v f (wide_z w wide) held) h.0

under_ceiling : (w : ℕ) (z c v : ℤ) → 0 < w → IsCeiling w z c → v <ℤ c → (pos w *ℤ v) <ℤ z
under_ceiling w z c v wide h under = le_lt _ _ _ (no_less_scaled (pos w) v (c -ℤ pos 1) (wide_z w wide) (next_down c v under)) h.1

from_ceiling : (w : ℕ) (z c v : ℤ) → 0 < w → IsCeiling w z c → c ≤ℤ v → z ≤ℤ (pos w *ℤ v)
from_ceiling w z c v wide h held = le_le _ _ _ h.0 (no_less_scaled (pos w) c v (wide_z w wide) held)

pub floor_le : (w : ℕ) (z f v : ℤ) → 0 < w → IsFloor w z f → int_le v f ≡ int_le (pos w *ℤ v) z
floor_le w z f v wide h = by_lt_z f v
    (λ over. le_agree_not (pos w *ℤ v) z v f (over_floor w z f v wide h over) over)
    (λ held. le_agree (pos w *ℤ v) z v f (to_floor w z f v wide h held) held)

pub floor_lt : (w : ℕ) (z f v : ℤ) → 0 < w → IsFloor w z f → int_lt f v ≡ int_lt z (pos w *ℤ v)
floor_lt w z f v wide h = by_lt_z f v
    (λ over. lt_agree z (pos w *ℤ v) f v (over_floor w z f v wide h over) over)
    (λ held. lt_agree_not z (pos w *ℤ v) f v (to_floor w z f v wide h held) held)

pub ceiling_le : (w : ℕ) (z c v : ℤ) → 0 < w → IsCeiling w z c → int_le c v ≡ int_le z (pos w *ℤ v)
ceiling_le w z c v wide h = by_lt_z v c
    (λ under. le_agree_not z (pos w *ℤ v) c v (under_ceiling w z c v wide h under) under)
    (λ held. le_agree z (pos w *ℤ v) c v (from_ceiling w z c v wide h held) held)

pub ceiling_lt : (w : ℕ) (z c v : ℤ) → 0 < w → IsCeiling w z c → int_lt v c ≡ int_lt (pos w *ℤ v) z
ceiling_lt w z c v wide h = by_lt_z v c
    (λ under. lt_agree (pos w *ℤ v) z v c (under_ceiling w z c v wide h under) under)
    (λ held. lt_agree_not (pos w *ℤ v) z v c (from_ceiling w z c v wide h held) held)

-- w times the side, by the ways from both ends
ways : (w ax ay bx by x y : ℤ) →
    w *ℤ ((bx -ℤ ax) *ℤ (y -ℤ w *ℤ ay) -ℤ (by -ℤ ay) *ℤ (x -ℤ w *ℤ ax))
    ≡ (x -ℤ w *ℤ ax) *ℤ (y -ℤ w *ℤ by) +ℤ (w *ℤ bx -ℤ x) *ℤ (y -ℤ w *ℤ ay)
ways w ax ay bx by x y = simp monomials (omega (arith, ints))

ways_back : (w ax ay bx by x y : ℤ) →
    w *ℤ neg_ℤ ((bx -ℤ ax) *ℤ (y -ℤ w *ℤ ay) -ℤ (by -ℤ ay) *ℤ (x -ℤ w *ℤ ax))
    ≡ (w *ℤ ax -ℤ x) *ℤ (y -ℤ w *ℤ by) +ℤ (x -ℤ w *ℤ bx) *ℤ (y -ℤ w *ℤ ay)
ways_back w ax ay bx by x y = simp monomials (omega (arith, ints))

ways_under : (w ax ay bx by x y : ℤ) →
    w *ℤ neg_ℤ ((bx -ℤ ax) *ℤ (y -ℤ w *ℤ ay) -ℤ (by -ℤ ay) *ℤ (x -ℤ w *ℤ ax))
    ≡ (x -ℤ w *ℤ ax) *ℤ (w *ℤ by -ℤ y) +ℤ (w *ℤ bx -ℤ x) *ℤ (w *ℤ ay -ℤ y)
ways_under w ax ay bx by x y = simp monomials (omega (arith, ints))

ways_back_under : (w ax ay bx by x y : ℤ) →
    w *ℤ ((bx -ℤ ax) *ℤ (y -ℤ w *ℤ ay) -ℤ (by -ℤ ay) *ℤ (x -ℤ w *ℤ ax))
    ≡ (w *ℤ ax -ℤ x) *ℤ (w *ℤ by -ℤ y) +ℤ (x -ℤ w *ℤ bx) *ℤ (w *ℤ ay -ℤ y)
ways_back_under w ax ay bx by x y = simp monomials (omega (arith, ints))

last_positive : (t u m v n : ℤ) → t ≡ u *ℤ m +ℤ v *ℤ n → pos 0 ≤ℤ u → pos 0 <ℤ v → pos 0 <ℤ m → pos 0 <ℤ n → pos 0 <ℤ t
last_positive t u m v n e hu hv hm hn =
    plain t _ _ e (times_not_negative u m hu (weak _ _ hm)) (times_positive v n hv hn)
  where
    plain : (t j k : ℤ) → t ≡ j +ℤ k → pos 0 ≤ℤ j → pos 0 <ℤ k → pos 0 <ℤ t
    plain t j k e h l = omega (arith, ints)

first_positive : (t u m v n : ℤ) → t ≡ u *ℤ m +ℤ v *ℤ n → pos 0 <ℤ u → pos 0 ≤ℤ v → pos 0 <ℤ m → pos 0 <ℤ n → pos 0 <ℤ t
first_positive t u m v n e hu hv hm hn =
    plain t _ _ e (times_positive u m hu hm) (times_not_negative v n hv (weak _ _ hn))
  where
    plain : (t j k : ℤ) → t ≡ j +ℤ k → pos 0 <ℤ j → pos 0 ≤ℤ k → pos 0 <ℤ t
    plain t j k e h l = omega (arith, ints)

more : (m n : ℤ) → m <ℤ n → pos 0 <ℤ (n -ℤ m)
more m n h = omega (arith, ints)

not_less : (m n : ℤ) → m ≤ℤ n → pos 0 ≤ℤ (n -ℤ m)
not_less m n h = omega (arith, ints)

negative : (s : ℤ) → pos 0 <ℤ neg_ℤ s → s <ℤ pos 0
negative s h = omega (arith, ints)

true_lt : (m n : ℤ) → int_lt m n ≡ true → m <ℤ n
true_lt m n h = grind (arith, ints)

from_of : (a b z : ℤ) (w : ℕ) → is_from_to a b w z ≡ true → (pos w *ℤ a) ≤ℤ z
from_of a b z w h = true_le _ _ (and_first _ _ h)

to_of : (a b z : ℤ) (w : ℕ) → is_from_to a b w z ≡ true → z <ℤ (pos w *ℤ b)
to_of a b z w h = true_lt _ _ (and_second (int_le (pos w *ℤ a) z) _ h)

above_a : (e : Edge) (p : Point) → are_above e p ≡ true → (pos p.w *ℤ e.a.y) <ℤ p.y
above_a e p h = true_lt _ _ (and_first _ _ h)

above_b : (e : Edge) (p : Point) → are_above e p ≡ true → (pos p.w *ℤ e.b.y) <ℤ p.y
above_b e p h = true_lt _ _ (and_second (int_lt (pos p.w *ℤ e.a.y) p.y) _ h)

below_a : (e : Edge) (p : Point) → are_below e p ≡ true → p.y <ℤ (pos p.w *ℤ e.a.y)
below_a e p h = true_lt _ _ (and_first _ _ h)

below_b : (e : Edge) (p : Point) → are_below e p ≡ true → p.y <ℤ (pos p.w *ℤ e.b.y)
below_b e p h = true_lt _ _ (and_second (int_lt p.y (pos p.w *ℤ e.a.y)) _ h)

-- the side of an edge that runs right or left below a point
above_forth : (e : Edge) (p : Point) → 0 < p.w → are_above e p ≡ true → is_from_to e.a.x e.b.x p.w p.x ≡ true → pos 0 <ℤ side e p
above_forth e p wide up range =
    positive_factor (pos p.w) (side e p) (wide_z p.w wide)
    (last_positive _ (p.x -ℤ pos p.w *ℤ e.a.x) (p.y -ℤ pos p.w *ℤ e.b.y) (pos p.w *ℤ e.b.x -ℤ p.x) (p.y -ℤ pos p.w *ℤ e.a.y)
    (ways (pos p.w) e.a.x e.a.y e.b.x e.b.y p.x p.y)
    (not_less _ _ (from_of e.a.x e.b.x p.x p.w range)) (more _ _ (to_of e.a.x e.b.x p.x p.w range)) (more _ _ (above_b e p up)) (more _ _ (above_a e p up)))

above_back : (e : Edge) (p : Point) → 0 < p.w → are_above e p ≡ true → is_from_to e.b.x e.a.x p.w p.x ≡ true → side e p <ℤ pos 0
above_back e p wide up range =
    negative (side e p) (positive_factor (pos p.w) (neg_ℤ (side e p)) (wide_z p.w wide)
    (first_positive _ (pos p.w *ℤ e.a.x -ℤ p.x) (p.y -ℤ pos p.w *ℤ e.b.y) (p.x -ℤ pos p.w *ℤ e.b.x) (p.y -ℤ pos p.w *ℤ e.a.y)
    (ways_back (pos p.w) e.a.x e.a.y e.b.x e.b.y p.x p.y)
    (more _ _ (to_of e.b.x e.a.x p.x p.w range)) (not_less _ _ (from_of e.b.x e.a.x p.x p.w range)) (more _ _ (above_b e p up)) (more _ _ (above_a e p up))))

-- and above it
below_forth : (e : Edge) (p : Point) → 0 < p.w → are_below e p ≡ true → is_from_to e.a.x e.b.x p.w p.x ≡ true → side e p <ℤ pos 0
below_forth e p wide down range =
    negative (side e p) (positive_factor (pos p.w) (neg_ℤ (side e p)) (wide_z p.w wide)
    (last_positive _ (p.x -ℤ pos p.w *ℤ e.a.x) (pos p.w *ℤ e.b.y -ℤ p.y) (pos p.w *ℤ e.b.x -ℤ p.x) (pos p.w *ℤ e.a.y -ℤ p.y)
    (ways_under (pos p.w) e.a.x e.a.y e.b.x e.b.y p.x p.y)
    (not_less _ _ (from_of e.a.x e.b.x p.x p.w range)) (more _ _ (to_of e.a.x e.b.x p.x p.w range)) (more _ _ (below_b e p down)) (more _ _ (below_a e p down))))

below_back : (e : Edge) (p : Point) → 0 < p.w → are_below e p ≡ true → is_from_to e.b.x e.a.x p.w p.x ≡ true → pos 0 <ℤ side e p
below_back e p wide down range =
    positive_factor (pos p.w) (side e p) (wide_z p.w wide)
    (first_positive _ (pos p.w *ℤ e.a.x -ℤ p.x) (pos p.w *ℤ e.b.y -ℤ p.y) (p.x -ℤ pos p.w *ℤ e.b.x) (pos p.w *ℤ e.a.y -ℤ p.y)
    (ways_back_under (pos p.w) e.a.x e.a.y e.b.x e.b.y p.x p.y)
    (more _ _ (to_of e.b.x e.a.x p.x p.w range)) (not_less _ _ (from_of e.b.x e.a.x p.x p.w range)) (more _ _ (below_b e p down)) (more _ _ (below_a e p down)))

-- tests over plain numbers
lt_true : (m n : ℤ) → m <ℤ n → int_lt m n ≡ true
lt_true m n h = grind (arith, ints)

le_true : (m n : ℤ) → m <ℤ n → int_le m n ≡ true
le_true m n h = grind (arith, ints)

lt_false : (m n : ℤ) → n <ℤ m → int_lt m n ≡ false
lt_false m n h = grind (arith, ints)

le_false : (m n : ℤ) → n <ℤ m → int_le m n ≡ false
le_false m n h = grind (arith, ints)

passed : (f b s t : Bool) → (f ≡ true → s ≡ true) → (b ≡ true → t ≡ true) → (f && s || b && t) ≡ (f || b)
passed true true s t h k = rw (h refl) refl
passed true false s t h k = rw (h refl) refl
passed false true s t h k = rw (k refl) refl
passed false false s t h k = refl

missed : (f b s t : Bool) → (f ≡ true → s ≡ false) → (b ≡ true → t ≡ false) → (f && s || b && t) ≡ false
missed true true s t h k = rw (h refl, k refl) refl
missed true false s t h k = rw (h refl) refl
missed false true s t h k = rw (k refl) refl
missed false false s t h k = refl

off_y : (l x a b c d : Bool) → b ≡ false → d ≡ false → (l && x && (a && b || c && d)) ≡ false
off_y l x a b c d h k = rw (h, k) (plain l x a c)
  where
    plain : (l x a c : Bool) → (l && x && (a && false || c && false)) ≡ false
    plain true true true true = refl
    plain true true true false = refl
    plain true true false true = refl
    plain true true false false = refl
    plain true false a c = refl
    plain false x a c = refl

off_y_under : (l x a b c d : Bool) → a ≡ false → c ≡ false → (l && x && (a && b || c && d)) ≡ false
off_y_under l x a b c d h k = rw (h, k) (plain l x)
  where
    plain : (l x : Bool) → (l && x && false) ≡ false
    plain true true = refl
    plain true false = refl
    plain false x = refl

-- an edge below a point
pub lie_under : (e : Edge) (p : Point) (forth back : Bool) (lie : Lie) → 0 < p.w → are_above e p ≡ true
    → forth ≡ is_from_to e.a.x e.b.x p.w p.x → back ≡ is_from_to e.b.x e.a.x p.w p.x
    → lie.is_on ≡ false → lie.is_below ≡ (forth || back) → lie.is_at_or_below ≡ (forth || back) → IsLie e p lie
lie_under e p forth back lie wide up f b on below at_or_below =
    let right = above_forth e p wide up in
    let left = above_back e p wide up in
    let either : (forth || back) ≡ (is_from_to e.a.x e.b.x p.w p.x || is_from_to e.b.x e.a.x p.w p.x) = rw (f, b) refl in
    record {
      on = on ∙ sym (off_y (int_eq (side e p) (pos 0)) (is_between e.a.x e.b.x p.w p.x) (int_le (pos p.w *ℤ e.a.y) p.y) (int_le p.y (pos p.w *ℤ e.b.y))
          (int_le (pos p.w *ℤ e.b.y) p.y) (int_le p.y (pos p.w *ℤ e.a.y)) (le_false _ _ (above_b e p up)) (le_false _ _ (above_a e p up)));
      below = below ∙ either ∙ sym (passed (is_from_to e.a.x e.b.x p.w p.x) (is_from_to e.b.x e.a.x p.w p.x) (int_lt (pos 0) (side e p)) (int_lt (side e p) (pos 0))
          (λ h. lt_true _ _ (right h)) (λ h. lt_true _ _ (left h)));
      at_or_below = at_or_below ∙ either ∙ sym (passed (is_from_to e.a.x e.b.x p.w p.x) (is_from_to e.b.x e.a.x p.w p.x) (int_le (pos 0) (side e p)) (int_le (side e p) (pos 0))
          (λ h. le_true _ _ (right h)) (λ h. le_true _ _ (left h)));
    }

-- an edge above a point
pub lie_over : (e : Edge) (p : Point) (lie : Lie) → 0 < p.w → are_below e p ≡ true
    → lie.is_on ≡ false → lie.is_below ≡ false → lie.is_at_or_below ≡ false → IsLie e p lie
lie_over e p lie wide down on below at_or_below =
    let right = below_forth e p wide down in
    let left = below_back e p wide down in
    record {
      on = on ∙ sym (off_y_under (int_eq (side e p) (pos 0)) (is_between e.a.x e.b.x p.w p.x) (int_le (pos p.w *ℤ e.a.y) p.y) (int_le p.y (pos p.w *ℤ e.b.y))
          (int_le (pos p.w *ℤ e.b.y) p.y) (int_le p.y (pos p.w *ℤ e.a.y)) (le_false _ _ (below_a e p down)) (le_false _ _ (below_b e p down)));
      below = below ∙ sym (missed (is_from_to e.a.x e.b.x p.w p.x) (is_from_to e.b.x e.a.x p.w p.x) (int_lt (pos 0) (side e p)) (int_lt (side e p) (pos 0))
          (λ h. lt_false _ _ (right h)) (λ h. lt_false _ _ (left h)));
      at_or_below = at_or_below ∙ sym (missed (is_from_to e.a.x e.b.x p.w p.x) (is_from_to e.b.x e.a.x p.w p.x) (int_le (pos 0) (side e p)) (int_le (side e p) (pos 0))
          (λ h. le_false _ _ (right h)) (λ h. le_false _ _ (left h)));
    }

-- two numbers of which each is at most the other
pub le_both : (m n : ℤ) → (int_le m n && int_le n m) ≡ int_eq n m
le_both m n = grind (arith, ints)

-- a vertex whose coordinate isn't the integer next to the point's
pub off_floor : (w : ℕ) (z f v : ℤ) → 0 < w → IsFloor w z f → ¬ (v ≡ f) → int_eq z (pos w *ℤ v) ≡ false
off_floor w z f v wide h apart = by_lt_z f v
    (λ over. less z (pos w *ℤ v) (over_floor w z f v wide h over))
    (λ held. more z (pos w *ℤ v) (lt_le _ _ _ (less_scaled (pos w) v f (wide_z w wide) (under v f held apart)) h.0))
  where
    less : (m n : ℤ) → m <ℤ n → int_eq m n ≡ false
    less m n h = grind (arith, ints)

    more : (m n : ℤ) → n <ℤ m → int_eq m n ≡ false
    more m n h = grind (arith, ints)

    same : (v f : ℤ) → v ≤ℤ f → f ≤ℤ v → v ≡ f
    same v f h k = omega (arith, ints)

    under : (v f : ℤ) → v ≤ℤ f → ¬ (v ≡ f) → v <ℤ f
    under v f h apart = by_lt_z v f (λ l. l) (λ k. absurd (apart (same v f h k)))
