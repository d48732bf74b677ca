-- An edge that is taken from its lesser end: its points are those of its line from the one end to
-- the other, in the order of points.
use Rattle.std.proofs.Common.{◌≡◌, ◌<◌, inl, inr, arith, sym, ap, ◌∙◌, true}
use Rattle.std.specs.Prelude.{ℤ, pos, neg_ℤ, ◌*ℤ◌, ◌-ℤ◌, ◌≤ℤ◌, ◌<ℤ◌, int_le, ◌&&◌, ◌||◌}
use Rattle.std.specs.Ordering.{int_eq}
use Rattle.std.proofs.lemmas.Int.{ints, by_lt_z}
use Rattle.plane_core.specs.declared.edge.Edge.{Edge}
use Rattle.plane_core.specs.Points.{Point, at, side, is_on, run, rise}
use Rattle.plane_core.proofs.Ring.{monomials, times-zero}
use Rattle.plane_core.proofs.Signs.{times_not_negative, not_negative_factor}
use Rattle.plane_core.proofs.ScaleLemmas.{no_less_scaled}
use Rattle.noding_core.specs.Nodes.{IsUpTo}
use Rattle.noding_core.proofs.OrderLemmas.{wide_z, zero_factor}

-- the first end is the lesser one
pub data IsForward (e : Edge) : Type 0 where
  Rightward : e.a.x <ℤ e.b.x → IsForward e
  Vertical : e.a.x ≡ e.b.x → e.a.y <ℤ e.b.y → IsForward e

-- a point of an edge, by the order
pub record IsWithin (e : Edge) (p : Point) : Type 0 where
  pub level : side e p ≡ pos 0
  pub from_ : IsUpTo (at e.a) p
  pub to_ : IsUpTo p (at e.b)

-- a point that isn't left of another, nor below it at one x
pub up_to_right : (p q : Point) → (p.x *ℤ pos q.w) <ℤ (q.x *ℤ pos p.w) → IsUpTo p q
up_to_right p q h = inl (inl h)

pub up_to_level : (p q : Point) → p.x *ℤ pos q.w ≡ q.x *ℤ pos p.w → (p.y *ℤ pos q.w) ≤ℤ (q.y *ℤ pos p.w) → IsUpTo p q
up_to_level p q h k = by_lt_z (p.y *ℤ pos q.w) (q.y *ℤ pos p.w) (λ l. inl (inr (h, l))) (λ l. inr (h, same _ _ k l))
  where
    same : (m n : ℤ) → m ≤ℤ n → n ≤ℤ m → m ≡ n
    same m n h k = omega (arith, ints)

pub up_to_x : (p q : Point) → IsUpTo p q → (p.x *ℤ pos q.w) ≤ℤ (q.x *ℤ pos p.w)
up_to_x p q (inl (inl h)) = plain _ _ h
  where
    plain : (m n : ℤ) → m <ℤ n → m ≤ℤ n
    plain m n h = omega (arith, ints)
up_to_x p q (inl (inr h)) = plain _ _ h.0
  where
    plain : (m n : ℤ) → m ≡ n → m ≤ℤ n
    plain m n h = omega (arith, ints)
up_to_x p q (inr h) = plain _ _ h.0
  where
    plain : (m n : ℤ) → m ≡ n → m ≤ℤ n
    plain m n h = omega (arith, ints)

pub up_to_y : (p q : Point) → p.x *ℤ pos q.w ≡ q.x *ℤ pos p.w → IsUpTo p q → (p.y *ℤ pos q.w) ≤ℤ (q.y *ℤ pos p.w)
up_to_y p q e (inl (inl h)) = plain _ _ _ _ e h
  where
    plain : (m n k l : ℤ) → m ≡ n → m <ℤ n → k ≤ℤ l
    plain m n k l e h = absurd (omega (arith, ints))
up_to_y p q e (inl (inr h)) = plain _ _ h.1
  where
    plain : (m n : ℤ) → m <ℤ n → m ≤ℤ n
    plain m n h = omega (arith, ints)
up_to_y p q e (inr h) = plain _ _ h.1
  where
    plain : (m n : ℤ) → m ≡ n → m ≤ℤ n
    plain m n h = omega (arith, ints)

-- the meaning of the test, over plain numbers
on_side : (s a b z c d y : ℤ) → (int_eq s (pos 0) && (int_le a z && int_le z b || int_le b z && int_le z a) && (int_le c y && int_le y d || int_le d y && int_le y c)) ≡ true → s ≡ pos 0
on_side s a b z c d y h = grind (arith, ints)

pub on_level : (e : Edge) (p : Point) → is_on e p ≡ true → side e p ≡ pos 0
on_level e p h = on_side (side e p) (pos p.w *ℤ e.a.x) (pos p.w *ℤ e.b.x) p.x (pos p.w *ℤ e.a.y) (pos p.w *ℤ e.b.y) p.y h

on_low : (s a b z c d y : ℤ) → a ≤ℤ b → (int_eq s (pos 0) && (int_le a z && int_le z b || int_le b z && int_le z a) && (int_le c y && int_le y d || int_le d y && int_le y c)) ≡ true → a ≤ℤ z
on_low s a b z c d y h k = grind (arith, ints)

on_high : (s a b z c d y : ℤ) → a ≤ℤ b → (int_eq s (pos 0) && (int_le a z && int_le z b || int_le b z && int_le z a) && (int_le c y && int_le y d || int_le d y && int_le y c)) ≡ true → z ≤ℤ b
on_high s a b z c d y h k = grind (arith, ints)

on_bottom : (s a b z c d y : ℤ) → c ≤ℤ d → (int_eq s (pos 0) && (int_le a z && int_le z b || int_le b z && int_le z a) && (int_le c y && int_le y d || int_le d y && int_le y c)) ≡ true → c ≤ℤ y
on_bottom s a b z c d y h k = grind (arith, ints)

on_top : (s a b z c d y : ℤ) → c ≤ℤ d → (int_eq s (pos 0) && (int_le a z && int_le z b || int_le b z && int_le z a) && (int_le c y && int_le y d || int_le d y && int_le y c)) ≡ true → y ≤ℤ d
on_top s a b z c d y h k = grind (arith, ints)

on_up : (s a b z c d y : ℤ) → s ≡ pos 0 → a ≤ℤ z → z ≤ℤ b → c ≤ℤ y → y ≤ℤ d
    → (int_eq s (pos 0) && (int_le a z && int_le z b || int_le b z && int_le z a) && (int_le c y && int_le y d || int_le d y && int_le y c)) ≡ true
on_up s a b z c d y h k l m n = grind (arith, ints)

on_down : (s a b z c d y : ℤ) → s ≡ pos 0 → a ≤ℤ z → z ≤ℤ b → d ≤ℤ y → y ≤ℤ c
    → (int_eq s (pos 0) && (int_le a z && int_le z b || int_le b z && int_le z a) && (int_le c y && int_le y d || int_le d y && int_le y c)) ≡ true
on_down s a b z c d y h k l m n = grind (arith, ints)

-- coordinates of an end beside those of a point
pub from_end : (a z w : ℤ) → (w *ℤ a) ≤ℤ z → (a *ℤ w) ≤ℤ (z *ℤ pos 1)
from_end a z w h = let e : w *ℤ a ≡ a *ℤ w = simp monomials in omega (arith, ints)

pub from_end_less : (a z w : ℤ) → (w *ℤ a) <ℤ z → (a *ℤ w) <ℤ (z *ℤ pos 1)
from_end_less a z w h = let e : w *ℤ a ≡ a *ℤ w = simp monomials in omega (arith, ints)

pub from_end_same : (a z w : ℤ) → w *ℤ a ≡ z → a *ℤ w ≡ z *ℤ pos 1
from_end_same a z w h = let e : w *ℤ a ≡ a *ℤ w = simp monomials in omega (arith, ints)

pub to_end : (b z w : ℤ) → z ≤ℤ (w *ℤ b) → (z *ℤ pos 1) ≤ℤ (b *ℤ w)
to_end b z w h = let e : w *ℤ b ≡ b *ℤ w = simp monomials in omega (arith, ints)

pub to_end_less : (b z w : ℤ) → z <ℤ (w *ℤ b) → (z *ℤ pos 1) <ℤ (b *ℤ w)
to_end_less b z w h = let e : w *ℤ b ≡ b *ℤ w = simp monomials in omega (arith, ints)

pub to_end_same : (b z w : ℤ) → z ≡ w *ℤ b → z *ℤ pos 1 ≡ b *ℤ w
to_end_same b z w h = let e : w *ℤ b ≡ b *ℤ w = simp monomials in omega (arith, ints)

pub end_from : (a z w : ℤ) → (a *ℤ w) ≤ℤ (z *ℤ pos 1) → (w *ℤ a) ≤ℤ z
end_from a z w h = let e : w *ℤ a ≡ a *ℤ w = simp monomials in omega (arith, ints)

pub end_to : (b z w : ℤ) → (z *ℤ pos 1) ≤ℤ (b *ℤ w) → z ≤ℤ (w *ℤ b)
end_to b z w h = let e : w *ℤ b ≡ b *ℤ w = simp monomials in omega (arith, ints)

weak : (m n : ℤ) → m <ℤ n → m ≤ℤ n
weak m n h = omega (arith, ints)

alike : (m n : ℤ) → m ≡ n → m ≤ℤ n
alike m n h = omega (arith, ints)

meet : (m n : ℤ) → m ≤ℤ n → n ≤ℤ m → m ≡ n
meet m n h k = omega (arith, ints)

run_positive : (a b : ℤ) → a <ℤ b → pos 0 <ℤ (b -ℤ a)
run_positive a b h = omega (arith, ints)

-- on a line that isn't vertical, one x has one y
level_there : (r d y x w a b : ℤ) → pos 0 <ℤ r → r *ℤ (y -ℤ w *ℤ b) -ℤ d *ℤ (x -ℤ w *ℤ a) ≡ pos 0 → x ≡ w *ℤ a → y ≡ w *ℤ b
level_there r d y x w a b hr h e =
    let none : x -ℤ w *ℤ a ≡ pos 0 = omega (arith, ints) in
    let zero : d *ℤ pos 0 ≡ pos 0 = times-zero d in
    let k : r *ℤ (y -ℤ w *ℤ b) -ℤ d *ℤ pos 0 ≡ pos 0 = rw none at h in
    plain _ _ (zero_factor r (y -ℤ w *ℤ b) hr (omega (arith, ints)))
  where
    plain : (m n : ℤ) → m -ℤ n ≡ pos 0 → m ≡ n
    plain m n h = omega (arith, ints)

-- the line's form from its other end
side_from_b : (ax ay bx by x y w : ℤ) → (bx -ℤ ax) *ℤ (y -ℤ w *ℤ ay) -ℤ (by -ℤ ay) *ℤ (x -ℤ w *ℤ ax) ≡ (bx -ℤ ax) *ℤ (y -ℤ w *ℤ by) -ℤ (by -ℤ ay) *ℤ (x -ℤ w *ℤ bx)
side_from_b ax ay bx by x y w = simp monomials (omega (arith, ints))

pub within_from_on : (e : Edge) (p : Point) → IsForward e → 0 < p.w → is_on e p ≡ true → IsWithin e p
within_from_on e p (Rightward h) wp on =
    let level = on_side _ (pos p.w *ℤ e.a.x) (pos p.w *ℤ e.b.x) p.x (pos p.w *ℤ e.a.y) (pos p.w *ℤ e.b.y) p.y on in
    let order = no_less_scaled (pos p.w) e.a.x e.b.x (wide_z p.w wp) (weak _ _ h) in
    let low = on_low (side e p) (pos p.w *ℤ e.a.x) (pos p.w *ℤ e.b.x) p.x (pos p.w *ℤ e.a.y) (pos p.w *ℤ e.b.y) p.y order on in
    let high = on_high (side e p) (pos p.w *ℤ e.a.x) (pos p.w *ℤ e.b.x) p.x (pos p.w *ℤ e.a.y) (pos p.w *ℤ e.b.y) p.y order on in
    record {
      level = level;
      from_ = by_lt_z (pos p.w *ℤ e.a.x) p.x (λ yes. up_to_right (at e.a) p (from_end_less e.a.x p.x (pos p.w) yes))
          (λ no. inr (
            from_end_same e.a.x p.x (pos p.w) (meet _ _ low no),
            from_end_same e.a.y p.y (pos p.w) (sym (level_there (run e) (rise e) p.y p.x (pos p.w) e.a.x e.a.y (run_positive _ _ h) level (meet _ _ no low))),
          ));
      to_ = by_lt_z p.x (pos p.w *ℤ e.b.x) (λ yes. up_to_right p (at e.b) (to_end_less e.b.x p.x (pos p.w) yes))
          (λ no. inr (
            to_end_same e.b.x p.x (pos p.w) (meet _ _ high no),
            to_end_same e.b.y p.y (pos p.w) (level_there (run e) (rise e) p.y p.x (pos p.w) e.b.x e.b.y (run_positive _ _ h) (sym (side_from_b e.a.x e.a.y e.b.x e.b.y p.x p.y (pos p.w)) ∙ level) (meet _ _ high no)),
          ));
    }
within_from_on e p (Vertical h k) wp on =
    let level = on_side _ (pos p.w *ℤ e.a.x) (pos p.w *ℤ e.b.x) p.x (pos p.w *ℤ e.a.y) (pos p.w *ℤ e.b.y) p.y on in
    let one : pos p.w *ℤ e.a.x ≡ pos p.w *ℤ e.b.x = ap (λ (z : ℤ). pos p.w *ℤ z) h in
    let order = no_less_scaled (pos p.w) e.a.y e.b.y (wide_z p.w wp) (weak _ _ k) in
    let left = on_low (side e p) (pos p.w *ℤ e.a.x) (pos p.w *ℤ e.b.x) p.x (pos p.w *ℤ e.a.y) (pos p.w *ℤ e.b.y) p.y (alike _ _ one) on in
    let right = on_high (side e p) (pos p.w *ℤ e.a.x) (pos p.w *ℤ e.b.x) p.x (pos p.w *ℤ e.a.y) (pos p.w *ℤ e.b.y) p.y (alike _ _ one) on in
    let low = on_bottom (side e p) (pos p.w *ℤ e.a.x) (pos p.w *ℤ e.b.x) p.x (pos p.w *ℤ e.a.y) (pos p.w *ℤ e.b.y) p.y order on in
    let high = on_top (side e p) (pos p.w *ℤ e.a.x) (pos p.w *ℤ e.b.x) p.x (pos p.w *ℤ e.a.y) (pos p.w *ℤ e.b.y) p.y order on in
    record {
      level = level;
      from_ = up_to_level (at e.a) p (from_end_same e.a.x p.x (pos p.w) (first _ _ _ one left right)) (from_end e.a.y p.y (pos p.w) low);
      to_ = up_to_level p (at e.b) (to_end_same e.b.x p.x (pos p.w) (second _ _ _ one left right)) (to_end e.b.y p.y (pos p.w) high);
    }
  where
    first : (m n z : ℤ) → m ≡ n → m ≤ℤ z → z ≤ℤ n → m ≡ z
    first m n z e h k = omega (arith, ints)

    second : (m n z : ℤ) → m ≡ n → m ≤ℤ z → z ≤ℤ n → z ≡ n
    second m n z e h k = omega (arith, ints)

-- over plain numbers: on the line, y goes with x
rising : (r d u v : ℤ) → pos 0 <ℤ r → pos 0 ≤ℤ d → pos 0 ≤ℤ u → r *ℤ v -ℤ d *ℤ u ≡ pos 0 → pos 0 ≤ℤ v
rising r d u v hr hd hu e =
    let k = times_not_negative d u hd hu in
    not_negative_factor r v hr (plain (r *ℤ v) (d *ℤ u) e k)
  where
    plain : (m n : ℤ) → m -ℤ n ≡ pos 0 → pos 0 ≤ℤ n → pos 0 ≤ℤ m
    plain m n e h = omega (arith, ints)

falling : (r d u v : ℤ) → pos 0 <ℤ r → d ≤ℤ pos 0 → pos 0 ≤ℤ u → r *ℤ v -ℤ d *ℤ u ≡ pos 0 → v ≤ℤ pos 0
falling r d u v hr hd hu e =
    let f : r *ℤ neg_ℤ v -ℤ neg_ℤ d *ℤ u ≡ neg_ℤ (r *ℤ v -ℤ d *ℤ u) = simp monomials (omega (arith, ints)) in
    back v (rising r (neg_ℤ d) u (neg_ℤ v) hr (turned d hd) hu (f ∙ ap neg_ℤ e))
  where
    turned : (z : ℤ) → z ≤ℤ pos 0 → pos 0 ≤ℤ neg_ℤ z
    turned z h = omega (arith, ints)

    back : (z : ℤ) → pos 0 ≤ℤ neg_ℤ z → z ≤ℤ pos 0
    back z h = omega (arith, ints)

-- seen from the end b
from_b : (ax ay bx by x y w : ℤ) → (bx -ℤ ax) *ℤ (w *ℤ by -ℤ y) -ℤ (by -ℤ ay) *ℤ (w *ℤ bx -ℤ x) ≡ neg_ℤ ((bx -ℤ ax) *ℤ (y -ℤ w *ℤ ay) -ℤ (by -ℤ ay) *ℤ (x -ℤ w *ℤ ax))
from_b ax ay bx by x y w = simp monomials (omega (arith, ints))

apart : (m n : ℤ) → m ≤ℤ n → pos 0 ≤ℤ (n -ℤ m)
apart m n h = omega (arith, ints)

apart_back : (m n : ℤ) → pos 0 ≤ℤ (n -ℤ m) → m ≤ℤ n
apart_back m n h = omega (arith, ints)

down_back : (m n : ℤ) → (n -ℤ m) ≤ℤ pos 0 → n ≤ℤ m
down_back m n h = omega (arith, ints)

-- a point of a line that isn't vertical, in the columns of the edge, is on it
pub on_from_columns : (e : Edge) (p : Point) → e.a.x <ℤ e.b.x → side e p ≡ pos 0 → (pos p.w *ℤ e.a.x) ≤ℤ p.x → p.x ≤ℤ (pos p.w *ℤ e.b.x) → is_on e p ≡ true
on_from_columns e p h level low high =
    let back : run e *ℤ (pos p.w *ℤ e.b.y -ℤ p.y) -ℤ rise e *ℤ (pos p.w *ℤ e.b.x -ℤ p.x) ≡ pos 0 = from_b e.a.x e.a.y e.b.x e.b.y p.x p.y (pos p.w) ∙ ap neg_ℤ level in
    by_lt_z (rise e) (pos 0)
    (λ down. on_down (side e p) _ _ p.x _ _ p.y level low high
    (down_back _ _ (falling (run e) (rise e) _ _ (run_positive _ _ h) (weak _ _ down) (apart _ _ high) back))
    (down_back _ _ (falling (run e) (rise e) _ _ (run_positive _ _ h) (weak _ _ down) (apart _ _ low) level)))
    (λ up. on_up (side e p) _ _ p.x _ _ p.y level low high
    (apart_back _ _ (rising (run e) (rise e) _ _ (run_positive _ _ h) up (apart _ _ low) level))
    (apart_back _ _ (rising (run e) (rise e) _ _ (run_positive _ _ h) up (apart _ _ high) back)))

-- and so is one in the column of a vertical edge, between its ends
vertical_level : (e : Edge) (p : Point) → e.a.x ≡ e.b.x → p.x ≡ pos p.w *ℤ e.a.x → side e p ≡ pos 0
vertical_level e p h x = plain (run e) (rise e) (p.y -ℤ pos p.w *ℤ e.a.y) p.x (pos p.w *ℤ e.a.x) (none _ _ h) x
  where
    none : (a b : ℤ) → a ≡ b → b -ℤ a ≡ pos 0
    none a b h = omega (arith, ints)

    plain : (r d u x y : ℤ) → r ≡ pos 0 → x ≡ y → r *ℤ u -ℤ d *ℤ (x -ℤ y) ≡ pos 0
    plain r d u x y h k = rw (h, k) (simp monomials (omega (arith, ints)))

pub on_vertical_up : (e : Edge) (p : Point) → e.a.x ≡ e.b.x → p.x ≡ pos p.w *ℤ e.a.x → (pos p.w *ℤ e.a.y) ≤ℤ p.y → p.y ≤ℤ (pos p.w *ℤ e.b.y) → is_on e p ≡ true
on_vertical_up e p h x low high =
    on_up (side e p) _ _ p.x _ _ p.y (vertical_level e p h x) (alike _ _ (sym x)) (alike _ _ (x ∙ ap (λ (z : ℤ). pos p.w *ℤ z) h)) low high

pub on_vertical_down : (e : Edge) (p : Point) → e.a.x ≡ e.b.x → p.x ≡ pos p.w *ℤ e.a.x → (pos p.w *ℤ e.b.y) ≤ℤ p.y → p.y ≤ℤ (pos p.w *ℤ e.a.y) → is_on e p ≡ true
on_vertical_down e p h x low high =
    on_down (side e p) _ _ p.x _ _ p.y (vertical_level e p h x) (alike _ _ (sym x)) (alike _ _ (x ∙ ap (λ (z : ℤ). pos p.w *ℤ z) h)) low high

pub on_from_within : (e : Edge) (p : Point) → IsForward e → IsWithin e p → is_on e p ≡ true
on_from_within e p (Rightward h) in_ =
    on_from_columns e p h in_.level (end_from e.a.x p.x (pos p.w) (up_to_x (at e.a) p in_.from_)) (end_to e.b.x p.x (pos p.w) (up_to_x p (at e.b) in_.to_))
on_from_within e p (Vertical h k) in_ =
    let low = end_from e.a.x p.x (pos p.w) (up_to_x (at e.a) p in_.from_) in
    let high = end_to e.b.x p.x (pos p.w) (up_to_x p (at e.b) in_.to_) in
    let one : pos p.w *ℤ e.a.x ≡ pos p.w *ℤ e.b.x = ap (λ (z : ℤ). pos p.w *ℤ z) h in
    on_up (side e p) _ _ p.x _ _ p.y in_.level low high
    (end_from e.a.y p.y (pos p.w) (up_to_y (at e.a) p (from_end_same e.a.x p.x (pos p.w) (first _ _ _ one low high)) in_.from_))
    (end_to e.b.y p.y (pos p.w) (up_to_y p (at e.b) (to_end_same e.b.x p.x (pos p.w) (second _ _ _ one low high)) in_.to_))
  where
    first : (m n z : ℤ) → m ≡ n → m ≤ℤ z → z ≤ℤ n → m ≡ z
    first m n z e h k = omega (arith, ints)

    second : (m n z : ℤ) → m ≡ n → m ≤ℤ z → z ≤ℤ n → z ≡ n
    second m n z e h k = omega (arith, ints)
