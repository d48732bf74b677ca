-- A positive factor keeps the order of numbers, so the tests of an edge and a point don't depend on
-- the triple that stands for the point.
use Rattle.std.proofs.Common.{◌≡◌, ◌<◌, ◌*◌, arith, refl, ap, ◌∙◌}
use Rattle.std.specs.Prelude.{ℤ, ℕ, pos, ◌*ℤ◌, ◌-ℤ◌, ◌≤ℤ◌, ◌<ℤ◌, int_lt, int_le, ◌&&◌, ◌||◌}
use Rattle.std.specs.Ordering.{int_eq}
use Rattle.std.proofs.lemmas.Int.{ints, by_lt_z}
use Rattle.plane_core.specs.declared.vertex.Vertex.{Vertex}
use Rattle.plane_core.specs.declared.edge.Edge.{Edge}
use Rattle.plane_core.specs.Points.{Point, side, is_on, is_below, is_at_or_below, is_at}
use Rattle.plane_core.proofs.Ring.{monomials}
use Rattle.plane_core.proofs.Signs.{times_positive, times_not_negative}

abbrev pub scaled : ℕ → Point → Point
scaled k p = record { x = pos k *ℤ p.x; y = pos k *ℤ p.y; w = k * p.w }

pub side-scaled : (e : Edge) (k : ℕ) (p : Point) → side e (scaled k p) ≡ pos k *ℤ side e p
side-scaled e k p = plain e.a.x e.a.y e.b.x e.b.y p.x p.y (pos p.w) (pos k) (pos (k * p.w)) (omega (arith, ints))
  where
    plain : (ax ay bx by x y w k m : ℤ) → m ≡ k *ℤ w →
        (bx -ℤ ax) *ℤ (k *ℤ y -ℤ m *ℤ ay) -ℤ (by -ℤ ay) *ℤ (k *ℤ x -ℤ m *ℤ ax) ≡ k *ℤ ((bx -ℤ ax) *ℤ (y -ℤ w *ℤ ay) -ℤ (by -ℤ ay) *ℤ (x -ℤ w *ℤ ax))
    plain ax ay bx by x y w k m h = rw h (simp monomials (omega (arith, ints)))

-- a positive factor keeps the order
pub less_scaled : (k a b : ℤ) → pos 0 <ℤ k → a <ℤ b → (k *ℤ a) <ℤ (k *ℤ b)
less_scaled k a b hk h = plain _ _ _ ring (times_positive k (b -ℤ a) hk (omega (arith, ints)))
  where
    ring : k *ℤ (b -ℤ a) ≡ k *ℤ b -ℤ k *ℤ a
    ring = simp monomials (omega (arith, ints))

    plain : (z m n : ℤ) → z ≡ n -ℤ m → pos 0 <ℤ z → m <ℤ n
    plain z m n e g = omega (arith, ints)

pub no_less_scaled : (k a b : ℤ) → pos 0 <ℤ k → a ≤ℤ b → (k *ℤ a) ≤ℤ (k *ℤ b)
no_less_scaled k a b hk h = plain _ _ _ ring (times_not_negative k (b -ℤ a) (omega (arith, ints)) (omega (arith, ints)))
  where
    ring : k *ℤ (b -ℤ a) ≡ k *ℤ b -ℤ k *ℤ a
    ring = simp monomials (omega (arith, ints))

    plain : (z m n : ℤ) → z ≡ n -ℤ m → pos 0 ≤ℤ z → m ≤ℤ n
    plain z m n e g = omega (arith, ints)

-- and is cancelled
pub cancel_le : (w a b : ℤ) → pos 0 <ℤ w → (w *ℤ a) ≤ℤ (w *ℤ b) → a ≤ℤ b
cancel_le w a b hw h = by_lt_z b a (λ less. absurd (no _ _ (less_scaled w b a hw less) h)) (λ le. le)
  where
    no : (m n : ℤ) → m <ℤ n → n ≤ℤ m → ⊥
    no m n h k = omega (arith, ints)

pub cancel_lt : (w a b : ℤ) → pos 0 <ℤ w → (w *ℤ a) <ℤ (w *ℤ b) → a <ℤ b
cancel_lt w a b hw h = by_lt_z a b (λ less. less) (λ le. absurd (no _ _ (no_less_scaled w b a hw le) h))
  where
    no : (m n : ℤ) → m ≤ℤ n → n <ℤ m → ⊥
    no m n h k = omega (arith, ints)

pub lt_agree : (a b c d : ℤ) → a <ℤ b → c <ℤ d → int_lt c d ≡ int_lt a b
lt_agree a b c d h g = grind (arith, ints)

pub lt_agree_not : (a b c d : ℤ) → b ≤ℤ a → d ≤ℤ c → int_lt c d ≡ int_lt a b
lt_agree_not a b c d h g = grind (arith, ints)

pub le_agree : (a b c d : ℤ) → a ≤ℤ b → c ≤ℤ d → int_le c d ≡ int_le a b
le_agree a b c d h g = grind (arith, ints)

pub le_agree_not : (a b c d : ℤ) → b <ℤ a → d <ℤ c → int_le c d ≡ int_le a b
le_agree_not a b c d h g = grind (arith, ints)

pub int_lt-scaled : (k a b : ℤ) → pos 0 <ℤ k → int_lt (k *ℤ a) (k *ℤ b) ≡ int_lt a b
int_lt-scaled k a b hk = by_lt_z a b (λ h. lt_agree a b _ _ h (less_scaled k a b hk h)) (λ h. lt_agree_not a b _ _ h (no_less_scaled k b a hk h))

pub int_le-scaled : (k a b : ℤ) → pos 0 <ℤ k → int_le (k *ℤ a) (k *ℤ b) ≡ int_le a b
int_le-scaled k a b hk = by_lt_z b a (λ h. le_agree_not a b _ _ h (less_scaled k b a hk h)) (λ h. le_agree a b _ _ h (no_less_scaled k a b hk h))

eq_agree_less : (a b c d : ℤ) → a <ℤ b → c <ℤ d → int_eq c d ≡ int_eq a b
eq_agree_less a b c d h g = grind (arith, ints)

eq_agree_more : (a b c d : ℤ) → b <ℤ a → d <ℤ c → int_eq c d ≡ int_eq a b
eq_agree_more a b c d h g = grind (arith, ints)

eq_agree_same : (a b c d : ℤ) → a ≡ b → c ≡ d → int_eq c d ≡ int_eq a b
eq_agree_same a b c d h g = grind (arith, ints)

pub int_eq-scaled : (k a b : ℤ) → pos 0 <ℤ k → int_eq (k *ℤ a) (k *ℤ b) ≡ int_eq a b
int_eq-scaled k a b hk = by_lt_z a b
    (λ h. eq_agree_less a b _ _ h (less_scaled k a b hk h))
    (λ h. by_lt_z b a
    (λ g. eq_agree_more a b _ _ g (less_scaled k b a hk g))
    (λ g. let e : a ≡ b = omega (arith, ints) in eq_agree_same a b _ _ e (ap (λ (n : ℤ). k *ℤ n) e)))

-- the tests over plain numbers
below_plain : (k a b z s a' b' z' s' : ℤ) → pos 0 <ℤ k → a' ≡ k *ℤ a → b' ≡ k *ℤ b → z' ≡ k *ℤ z → s' ≡ k *ℤ s →
    ((int_le a' z' && int_lt z' b') && int_lt (pos 0) s' || (int_le b' z' && int_lt z' a') && int_lt s' (pos 0))
    ≡ ((int_le a z && int_lt z b) && int_lt (pos 0) s || (int_le b z && int_lt z a) && int_lt s (pos 0))
below_plain k a b z s a' b' z' s' hk ea eb ez es =
    let zero : pos 0 ≡ k *ℤ pos 0 = omega (arith, ints) in
    let up : int_lt (pos 0) (k *ℤ s) ≡ int_lt (pos 0) s = ap (λ (o : ℤ). int_lt o (k *ℤ s)) zero ∙ int_lt-scaled k (pos 0) s hk in
    let down : int_lt (k *ℤ s) (pos 0) ≡ int_lt s (pos 0) = ap (int_lt (k *ℤ s)) zero ∙ int_lt-scaled k s (pos 0) hk in
    rw (ea, eb, ez, es, int_le-scaled k a z hk, int_lt-scaled k z b hk, up, int_le-scaled k b z hk, int_lt-scaled k z a hk, down)

at_or_below_plain : (k a b z s a' b' z' s' : ℤ) → pos 0 <ℤ k → a' ≡ k *ℤ a → b' ≡ k *ℤ b → z' ≡ k *ℤ z → s' ≡ k *ℤ s →
    ((int_le a' z' && int_lt z' b') && int_le (pos 0) s' || (int_le b' z' && int_lt z' a') && int_le s' (pos 0))
    ≡ ((int_le a z && int_lt z b) && int_le (pos 0) s || (int_le b z && int_lt z a) && int_le s (pos 0))
at_or_below_plain k a b z s a' b' z' s' hk ea eb ez es =
    let zero : pos 0 ≡ k *ℤ pos 0 = omega (arith, ints) in
    let up : int_le (pos 0) (k *ℤ s) ≡ int_le (pos 0) s = ap (λ (o : ℤ). int_le o (k *ℤ s)) zero ∙ int_le-scaled k (pos 0) s hk in
    let down : int_le (k *ℤ s) (pos 0) ≡ int_le s (pos 0) = ap (int_le (k *ℤ s)) zero ∙ int_le-scaled k s (pos 0) hk in
    rw (ea, eb, ez, es, int_le-scaled k a z hk, int_lt-scaled k z b hk, up, int_le-scaled k b z hk, int_lt-scaled k z a hk, down)

on_plain : (k a b c d z y s a' b' c' d' z' y' s' : ℤ) → pos 0 <ℤ k → a' ≡ k *ℤ a → b' ≡ k *ℤ b → c' ≡ k *ℤ c → d' ≡ k *ℤ d → z' ≡ k *ℤ z → y' ≡ k *ℤ y → s' ≡ k *ℤ s →
    (int_eq s' (pos 0) && (int_le a' z' && int_le z' b' || int_le b' z' && int_le z' a') && (int_le c' y' && int_le y' d' || int_le d' y' && int_le y' c'))
    ≡ (int_eq s (pos 0) && (int_le a z && int_le z b || int_le b z && int_le z a) && (int_le c y && int_le y d || int_le d y && int_le y c))
on_plain k a b c d z y s a' b' c' d' z' y' s' hk ea eb ec ed ez ey es =
    let zero : pos 0 ≡ k *ℤ pos 0 = omega (arith, ints) in
    let level : int_eq (k *ℤ s) (pos 0) ≡ int_eq s (pos 0) = ap (int_eq (k *ℤ s)) zero ∙ int_eq-scaled k s (pos 0) hk in
    rw (ea, eb, ec, ed, ez, ey, es, level, int_le-scaled k a z hk, int_le-scaled k z b hk, int_le-scaled k b z hk, int_le-scaled k z a hk, int_le-scaled k c y hk, int_le-scaled k y d hk, int_le-scaled k d y hk, int_le-scaled k y c hk)

at_plain : (k a b z y a' b' z' y' : ℤ) → pos 0 <ℤ k → a' ≡ k *ℤ a → b' ≡ k *ℤ b → z' ≡ k *ℤ z → y' ≡ k *ℤ y →
    (int_eq z' a' && int_eq y' b') ≡ (int_eq z a && int_eq y b)
at_plain k a b z y a' b' z' y' hk ea eb ez ey = rw (ea, eb, ez, ey, int_eq-scaled k z a hk, int_eq-scaled k y b hk)

pub times_end : (x w k m : ℤ) → m ≡ k *ℤ w → m *ℤ x ≡ k *ℤ (w *ℤ x)
times_end x w k m h = rw h (simp monomials (omega (arith, ints)))

product : (k w : ℕ) → pos (k * w) ≡ pos k *ℤ pos w
product k w = omega (arith, ints)

pub is_below-scaled : (e : Edge) (k : ℕ) (p : Point) → 0 < k → is_below e (scaled k p) ≡ is_below e p
is_below-scaled e k p h =
    below_plain (pos k) (pos p.w *ℤ e.a.x) (pos p.w *ℤ e.b.x) p.x (side e p) (pos (k * p.w) *ℤ e.a.x) (pos (k * p.w) *ℤ e.b.x) (pos k *ℤ p.x) (side e (scaled k p))
    (omega (arith, ints)) (times_end e.a.x (pos p.w) (pos k) _ (product k p.w)) (times_end e.b.x (pos p.w) (pos k) _ (product k p.w)) refl (side-scaled e k p)

pub is_at_or_below-scaled : (e : Edge) (k : ℕ) (p : Point) → 0 < k → is_at_or_below e (scaled k p) ≡ is_at_or_below e p
is_at_or_below-scaled e k p h =
    at_or_below_plain (pos k) (pos p.w *ℤ e.a.x) (pos p.w *ℤ e.b.x) p.x (side e p) (pos (k * p.w) *ℤ e.a.x) (pos (k * p.w) *ℤ e.b.x) (pos k *ℤ p.x) (side e (scaled k p))
    (omega (arith, ints)) (times_end e.a.x (pos p.w) (pos k) _ (product k p.w)) (times_end e.b.x (pos p.w) (pos k) _ (product k p.w)) refl (side-scaled e k p)

pub is_on-scaled : (e : Edge) (k : ℕ) (p : Point) → 0 < k → is_on e (scaled k p) ≡ is_on e p
is_on-scaled e k p h =
    on_plain (pos k) (pos p.w *ℤ e.a.x) (pos p.w *ℤ e.b.x) (pos p.w *ℤ e.a.y) (pos p.w *ℤ e.b.y) p.x p.y (side e p)
    (pos (k * p.w) *ℤ e.a.x) (pos (k * p.w) *ℤ e.b.x) (pos (k * p.w) *ℤ e.a.y) (pos (k * p.w) *ℤ e.b.y) (pos k *ℤ p.x) (pos k *ℤ p.y) (side e (scaled k p))
    (omega (arith, ints)) (times_end e.a.x (pos p.w) (pos k) _ (product k p.w)) (times_end e.b.x (pos p.w) (pos k) _ (product k p.w))
    (times_end e.a.y (pos p.w) (pos k) _ (product k p.w)) (times_end e.b.y (pos p.w) (pos k) _ (product k p.w)) refl refl (side-scaled e k p)

pub is_at-scaled : (v : Vertex) (k : ℕ) (p : Point) → 0 < k → is_at v (scaled k p) ≡ is_at v p
is_at-scaled v k p h = at_plain (pos k) (pos p.w *ℤ v.x) (pos p.w *ℤ v.y) p.x p.y (pos (k * p.w) *ℤ v.x) (pos (k * p.w) *ℤ v.y) (pos k *ℤ p.x) (pos k *ℤ p.y)
    (omega (arith, ints)) (times_end v.x (pos p.w) (pos k) _ (product k p.w)) (times_end v.y (pos p.w) (pos k) _ (product k p.w)) refl refl
