-- A point on the line of an edge and over its run is on the edge.
use Rattle.std.proofs.Common.{◌≡◌, ◌<◌, arith, refl, true, false}
use Rattle.std.specs.Prelude.{ℤ, pos, ◌*ℤ◌, ◌-ℤ◌, neg_ℤ, ◌≤ℤ◌, ◌<ℤ◌, int_lt, int_le, Bool, ◌&&◌, ◌||◌}
use Rattle.std.specs.Ordering.{int_eq}
use Rattle.std.proofs.lemmas.Int.{ints, by_lt_z}
use Rattle.plane_core.specs.declared.edge.Edge.{Edge}
use Rattle.plane_core.specs.Points.{Point, side, is_on, is_from_to}
use Rattle.plane_core.proofs.Ring.{monomials}
use Rattle.plane_core.proofs.Signs.{weak, times_not_negative, positive_factor, not_negative_factor}

-- over plain numbers: v rises with u along a line that doesn't fall
level_low : (r d u v : ℤ) → pos 0 <ℤ r → pos 0 ≤ℤ u → r *ℤ v -ℤ d *ℤ u ≡ pos 0 → pos 0 ≤ℤ d → pos 0 ≤ℤ v
level_low r d u v hr hu e hd =
    let du = times_not_negative d u hd hu in
    not_negative_factor r v hr (let k : pos 0 ≤ℤ (r *ℤ v) = omega (arith, ints) in k)

level_far : (r d w ax bx ay by x y : ℤ) → r ≡ bx -ℤ ax → d ≡ by -ℤ ay →
    r *ℤ (w *ℤ by -ℤ y) -ℤ d *ℤ (w *ℤ bx -ℤ x) ≡ neg_ℤ (r *ℤ (y -ℤ w *ℤ ay) -ℤ d *ℤ (x -ℤ w *ℤ ax))
level_far r d w ax bx ay by x y e f = rw (e, f) (simp monomials (omega (arith, ints)))

level_turn : (r d u v : ℤ) → r *ℤ neg_ℤ v -ℤ neg_ℤ d *ℤ u ≡ neg_ℤ (r *ℤ v -ℤ d *ℤ u)
level_turn r d u v = simp monomials (omega (arith, ints))

zero_from_neg : (x z : ℤ) → x ≡ neg_ℤ z → z ≡ pos 0 → x ≡ pos 0
zero_from_neg x z e h = omega (arith, ints)

rising_test : (c d y : ℤ) → pos 0 ≤ℤ (y -ℤ c) → pos 0 ≤ℤ (d -ℤ y) → (int_le c y && int_le y d || int_le d y && int_le y c) ≡ true
rising_test c d y h k = grind (arith, ints)

falling_plain : (c d y : ℤ) → d ≤ℤ y → y ≤ℤ c → (int_le c y && int_le y d || int_le d y && int_le y c) ≡ true
falling_plain c d y h k = grind (arith, ints)

falling_test : (c d y : ℤ) → pos 0 ≤ℤ neg_ℤ (y -ℤ c) → pos 0 ≤ℤ neg_ℤ (d -ℤ y) → (int_le c y && int_le y d || int_le d y && int_le y c) ≡ true
falling_test c d y h k = falling_plain c d y (omega (arith, ints)) (omega (arith, ints))

not_negative_turned : (d : ℤ) → d <ℤ pos 0 → pos 0 ≤ℤ neg_ℤ d
not_negative_turned d h = omega (arith, ints)

pub level_test : (w ax bx ay by x y : ℤ) → (w *ℤ ax) ≤ℤ x → x ≤ℤ (w *ℤ bx) → pos 0 <ℤ (bx -ℤ ax)
    → (bx -ℤ ax) *ℤ (y -ℤ w *ℤ ay) -ℤ (by -ℤ ay) *ℤ (x -ℤ w *ℤ ax) ≡ pos 0
    → (int_le (w *ℤ ay) y && int_le y (w *ℤ by) || int_le (w *ℤ by) y && int_le y (w *ℤ ay)) ≡ true
level_test w ax bx ay by x y h k hr e =
    let r = bx -ℤ ax in let d = by -ℤ ay in
    let u : pos 0 ≤ℤ (x -ℤ w *ℤ ax) = omega (arith, ints) in
    let v : pos 0 ≤ℤ (w *ℤ bx -ℤ x) = omega (arith, ints) in
    let f : r *ℤ (w *ℤ by -ℤ y) -ℤ d *ℤ (w *ℤ bx -ℤ x) ≡ pos 0 = zero_from_neg _ _ (level_far r d w ax bx ay by x y refl refl) e in
    by_lt_z d (pos 0)
    (λ falls. falling_test (w *ℤ ay) (w *ℤ by) y
    (level_low r (neg_ℤ d) (x -ℤ w *ℤ ax) (neg_ℤ (y -ℤ w *ℤ ay)) hr u (zero_from_neg _ _ (level_turn r d (x -ℤ w *ℤ ax) (y -ℤ w *ℤ ay)) e) (not_negative_turned d falls))
    (level_low r (neg_ℤ d) (w *ℤ bx -ℤ x) (neg_ℤ (w *ℤ by -ℤ y)) hr v (zero_from_neg _ _ (level_turn r d (w *ℤ bx -ℤ x) (w *ℤ by -ℤ y)) f) (not_negative_turned d falls)))
    (λ rises. rising_test (w *ℤ ay) (w *ℤ by) y
    (level_low r d (x -ℤ w *ℤ ax) (y -ℤ w *ℤ ay) hr u e rises)
    (level_low r d (w *ℤ bx -ℤ x) (w *ℤ by -ℤ y) hr v f rises))

on_rightward : (s a b z : ℤ) (t : Bool) → s ≡ pos 0 → a ≤ℤ z → z ≤ℤ b → t ≡ true → (int_eq s (pos 0) && (int_le a z && int_le z b || int_le b z && int_le z a) && t) ≡ true
on_rightward s a b z t e h k l = grind (arith, ints)

on_leftward : (s a b z : ℤ) (t : Bool) → s ≡ pos 0 → b ≤ℤ z → z ≤ℤ a → t ≡ true → (int_eq s (pos 0) && (int_le a z && int_le z b || int_le b z && int_le z a) && t) ≡ true
on_leftward s a b z t e h k l = grind (arith, ints)

either_way : (a b c d : Bool) → (a && b || c && d) ≡ true → (c && d || a && b) ≡ true
either_way a b c d h = grind (arith, ints)

turned_side : (w ax bx ay by x y : ℤ) → (ax -ℤ bx) *ℤ (y -ℤ w *ℤ by) -ℤ (ay -ℤ by) *ℤ (x -ℤ w *ℤ bx) ≡ neg_ℤ ((bx -ℤ ax) *ℤ (y -ℤ w *ℤ ay) -ℤ (by -ℤ ay) *ℤ (x -ℤ w *ℤ ax))
turned_side w ax bx ay by x y = simp monomials (omega (arith, ints))

pub level_on_rightward : (e : Edge) (p : Point) → (pos p.w *ℤ e.a.x) ≤ℤ p.x → p.x ≤ℤ (pos p.w *ℤ e.b.x) → e.a.x <ℤ e.b.x → side e p ≡ pos 0 → is_on e p ≡ true
level_on_rightward e p h k r level =
    on_rightward (side e p) (pos p.w *ℤ e.a.x) (pos p.w *ℤ e.b.x) p.x _ level h k
    (level_test (pos p.w) e.a.x e.b.x e.a.y e.b.y p.x p.y h k (omega (arith, ints)) level)

pub level_on_leftward : (e : Edge) (p : Point) → (pos p.w *ℤ e.b.x) ≤ℤ p.x → p.x ≤ℤ (pos p.w *ℤ e.a.x) → e.b.x <ℤ e.a.x → side e p ≡ pos 0 → is_on e p ≡ true
level_on_leftward e p h k r level =
    on_leftward (side e p) (pos p.w *ℤ e.a.x) (pos p.w *ℤ e.b.x) p.x _ level h k
    (either_way (int_le (pos p.w *ℤ e.b.y) p.y) (int_le p.y (pos p.w *ℤ e.a.y)) (int_le (pos p.w *ℤ e.a.y) p.y) (int_le p.y (pos p.w *ℤ e.b.y))
    (level_test (pos p.w) e.b.x e.a.x e.b.y e.a.y p.x p.y h k (omega (arith, ints))
    (zero_from_neg _ _ (turned_side (pos p.w) e.a.x e.b.x e.a.y e.b.y p.x p.y) level)))

-- the range of a half-open run
pub by_from_to : {C : Type 0} (a b z : ℤ) → (a ≤ℤ z → z <ℤ b → (int_le a z && int_lt z b) ≡ true → C) → ((int_le a z && int_lt z b) ≡ false → C) → C
by_from_to a b z yes_ no_ =
    by_lt_z z a (λ h. no_ (before a b z h))
    (λ h. by_lt_z z b (λ k. yes_ h k (inside a b z h k)) (λ k. no_ (after a b z k)))
  where
    before : (a b z : ℤ) → z <ℤ a → (int_le a z && int_lt z b) ≡ false
    before a b z h = grind (arith, ints)

    after : (a b z : ℤ) → b ≤ℤ z → (int_le a z && int_lt z b) ≡ false
    after a b z h = grind (arith, ints)

    inside : (a b z : ℤ) → a ≤ℤ z → z <ℤ b → (int_le a z && int_lt z b) ≡ true
    inside a b z h k = grind (arith, ints)

-- a positive factor is cancelled
pub less_cancelled : (w a b : ℤ) → pos 0 <ℤ w → (w *ℤ a) <ℤ (w *ℤ b) → a <ℤ b
less_cancelled w a b hw h = plain a b (positive_factor w (b -ℤ a) hw (more _ _ _ ring h))
  where
    ring : w *ℤ (b -ℤ a) ≡ w *ℤ b -ℤ w *ℤ a
    ring = simp monomials (omega (arith, ints))

    more : (v m n : ℤ) → v ≡ n -ℤ m → m <ℤ n → pos 0 <ℤ v
    more v m n e k = omega (arith, ints)

    plain : (a b : ℤ) → pos 0 <ℤ (b -ℤ a) → a <ℤ b
    plain a b k = omega (arith, ints)

trans : (k m n : ℤ) → k ≤ℤ m → m <ℤ n → k <ℤ n
trans k m n h l = omega (arith, ints)

pub from_to_rightward : (w a b z : ℤ) → pos 0 <ℤ w → (w *ℤ a) ≤ℤ z → z <ℤ (w *ℤ b) → a <ℤ b
from_to_rightward w a b z hw h k = less_cancelled w a b hw (trans (w *ℤ a) z (w *ℤ b) h k)

-- so an edge whose line has the point, but not the edge, doesn't have it in its run
pub off_level_first : (e : Edge) (p : Point) → 0 < p.w → is_on e p ≡ false → side e p ≡ pos 0 → is_from_to e.a.x e.b.x p.w p.x ≡ false
off_level_first e p wide off level =
    by_from_to (pos p.w *ℤ e.a.x) (pos p.w *ℤ e.b.x) p.x
    (λ h k test. absurd (clash (is_on e p) off (level_on_rightward e p h (weak _ _ k) (from_to_rightward (pos p.w) e.a.x e.b.x p.x (omega (arith, ints)) h k) level)))
    (λ test. test)
  where
    clash : (b : Bool) → b ≡ false → b ≡ true → ⊥
    clash b h k = grind (arith, ints)

pub off_level_second : (e : Edge) (p : Point) → 0 < p.w → is_on e p ≡ false → side e p ≡ pos 0 → is_from_to e.b.x e.a.x p.w p.x ≡ false
off_level_second e p wide off level =
    by_from_to (pos p.w *ℤ e.b.x) (pos p.w *ℤ e.a.x) p.x
    (λ h k test. absurd (clash (is_on e p) off (level_on_leftward e p h (weak _ _ k) (from_to_rightward (pos p.w) e.b.x e.a.x p.x (omega (arith, ints)) h k) level)))
    (λ test. test)
  where
    clash : (b : Bool) → b ≡ false → b ≡ true → ⊥
    clash b h k = grind (arith, ints)
