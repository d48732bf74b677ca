-- An edge has a segment that avoids given places.
use Rattle.std.proofs.Common.{◌≡◌, ◌<◌, ◌≤◌, ◌+◌, ◌*◌, zero, suc, inl, inr, arith, refl, sym, subst, ◌∙◌, true, List, [], ◌∷◌}
use Rattle.std.specs.Prelude.{ℤ, ℕ, pos, ◌*ℤ◌, ◌-ℤ◌, ◌+ℤ◌, ◌≤ℤ◌, nat_abs, int_le, Bool, ◌&&◌, ◌||◌}
use Rattle.std.specs.Ordering.{int_eq}
use Rattle.std.proofs.lemmas.Int.{ints, by_lt_z, unsigned_abs-mul}
use Rattle.plane_core.specs.declared.edge.Edge.{Edge}
use Rattle.plane_core.specs.Points.{Point, at, mix, is_on, is_between, IsSamePlace}
use Rattle.plane_core.specs.PlaneMatrices.{ShareSegment}
use Rattle.plane_core.proofs.Ring.{monomials}
use Rattle.plane_core.proofs.Signs.{times_not_negative}
use Rattle.plane_core.proofs.FormLemmas.{by_zero, no_zero_divisor}
use Rattle.plane_core.proofs.AvoidLemmas.{same_place_trans}
use Rattle.noding_core.specs.Nodes.{IsAmong}
use Rattle.noding_core.proofs.PieceLemmas.{level_mix}
use Rattle.noding_core.proofs.FlipLemmas.{first_level, last_level}

-- what holds of all points of a segment that are near enough to its second end
abbrev pub Close : (ℕ → ℕ → Type 0) → Type 0
Close P = (k : ℕ) × ((u v : ℕ) → 0 < u → k * u ≤ v → P u v)

pub close_weaker : (P Q : ℕ → ℕ → Type 0) → ((u v : ℕ) → P u v → Q u v) → Close P → Close Q
close_weaker P Q f (k, h) = (k, λ u v some le. f u v (h u v some le))

pub close_both : (P Q : ℕ → ℕ → Type 0) → Close P → Close Q → Close (λ u v. P u v × Q u v)
close_both P Q (k, f) (m, g) = (k + m, λ u v some le. (f u v some (first k m u v le), g u v some (second k m u v le)))
  where
    first : (k m u v : ℕ) → (k + m) * u ≤ v → k * u ≤ v
    first k m u v h = omega arith

    second : (k m u v : ℕ) → (k + m) * u ≤ v → m * u ≤ v
    second k m u v h = omega arith

pub close_all : {A : Type 0} (P : A → ℕ → ℕ → Type 0) (xs : List A) → ((x : A) → IsAmong x xs → Close (P x)) → Close (λ u v. (x : A) → IsAmong x xs → P x u v)
close_all P [] f = (0, λ u v some le x h. absurd h)
close_all P (y ∷ xs) f =
    close_weaker (λ u v. P y u v × ((x : _) → IsAmong x xs → P x u v)) (λ u v. (x : _) → IsAmong x (y ∷ xs) → P x u v)
    (λ u v h x k. elim k [ inl e ↦ subst (λ (z : _). P z u v) (sym e) h.0 | inr m ↦ h.1 x m ])
    (close_both (P y) (λ u v. (x : _) → IsAmong x xs → P x u v) (f y (inl refl)) (close_all P xs (λ x k. f x (inr k))))

-- over plain numbers: u parts of one and v of another aren't 0, unless both are
opposite : (m n : ℤ) → m +ℤ n ≡ pos 0 → nat_abs m ≡ nat_abs n
opposite m n h = omega (arith, ints)

some_abs : (n : ℤ) → ¬ (n ≡ pos 0) → 0 < nat_abs n
some_abs n h = by_lt_z n (pos 0) (λ l. omega (arith, ints)) (λ l. by_lt_z (pos 0) n (λ r. omega (arith, ints)) (λ r. absurd (h (omega (arith, ints)))))

outweighed : (u v x y : ℕ) → u * x ≡ v * y → 0 < y → 0 < u → (x + 1) * u ≤ v → ⊥
outweighed u v x zero e h some le = absurd (omega arith)
outweighed u v x (suc y) e h some le = omega arith

more_parts : (u v : ℕ) (a b : ℤ) → 0 < u → (nat_abs a + 1) * u ≤ v → ¬ (b ≡ pos 0) → ¬ (pos u *ℤ a +ℤ pos v *ℤ b ≡ pos 0)
more_parts u v a b some le off e =
    outweighed u v (nat_abs a) (nat_abs b) (plain _ _ _ _ _ _ (opposite (pos u *ℤ a) (pos v *ℤ b) e) (unsigned_abs-mul (pos u) a) (unsigned_abs-mul (pos v) b) refl refl) (some_abs b off) some le
  where
    plain : (m n c d f g : ℕ) → m ≡ n → m ≡ c → n ≡ d → c ≡ f → d ≡ g → f ≡ g
    plain m n c d f g h k l i j = cc

no_parts : (u v : ℕ) (a b : ℤ) → 0 < u → b ≡ pos 0 → pos u *ℤ a +ℤ pos v *ℤ b ≡ pos 0 → a ≡ pos 0
no_parts u v a b some level e = by_zero a (λ off. absurd (no_zero_divisor (pos u) a (whole u some) off (plain (pos v) (pos u *ℤ a) b level e))) (λ z. z)
  where
    whole : (n : ℕ) → 0 < n → ¬ (pos n ≡ pos 0)
    whole n h e = omega (arith, ints)

    plain : (v m b : ℤ) → b ≡ pos 0 → m +ℤ v *ℤ b ≡ pos 0 → m ≡ pos 0
    plain v m b h e = let f : m +ℤ v *ℤ pos 0 ≡ pos 0 = rw h at e in omega (arith, ints)

close_line : (a b : ℤ) → (b ≡ pos 0 → a ≡ pos 0 → ⊥) → Close (λ u v. ¬ (pos u *ℤ a +ℤ pos v *ℤ b ≡ pos 0))
close_line a b apart = by_zero b
    (λ off. (nat_abs a + 1, λ u v some le. more_parts u v a b some le off))
    (λ level. (0, λ u v some le e. apart level (no_parts u v a b some level e)))

-- how two points differ in x, and in y
abbrev apart_x : Point → Point → ℤ
apart_x p r = p.x *ℤ pos r.w -ℤ r.x *ℤ pos p.w

abbrev apart_y : Point → Point → ℤ
apart_y p r = p.y *ℤ pos r.w -ℤ r.y *ℤ pos p.w

no_difference : (m n : ℤ) → m ≡ n → m -ℤ n ≡ pos 0
no_difference m n h = omega (arith, ints)

difference_none : (m n : ℤ) → m -ℤ n ≡ pos 0 → m ≡ n
difference_none m n h = omega (arith, ints)

mixed : (x y z w u v s n m : ℤ) → m ≡ s *ℤ w +ℤ n *ℤ u → (s *ℤ x +ℤ n *ℤ y) *ℤ v -ℤ z *ℤ m ≡ s *ℤ (x *ℤ v -ℤ z *ℤ w) +ℤ n *ℤ (y *ℤ v -ℤ z *ℤ u)
mixed x y z w u v s n m h = rw h (simp monomials (omega (arith, ints)))

weight : (s n w u : ℕ) → pos (s * w + n * u) ≡ pos s *ℤ pos w +ℤ pos n *ℤ pos u
weight s n w u = omega (arith, ints)

-- the points near the second end of a segment aren't a given place
pub close_avoids : (p q r : Point) → 0 < r.w → ¬ (IsSamePlace p q) → Close (λ u v. ¬ (IsSamePlace (mix u p v q) r))
close_avoids p q r wide apart =
    by_zero (apart_x q r) (λ off. across_x (λ e f. off e))
    (λ level_q. by_zero (apart_x p r) (λ off. across_x (λ e f. off f))
    (λ level_p. by_zero (apart_y q r) (λ off. across_y (λ e f. off e))
    (λ low_q. by_zero (apart_y p r) (λ off. across_y (λ e f. off f))
    (λ low_p. absurd (apart (same_place_trans p q r wide (difference_none _ _ level_p, difference_none _ _ low_p) (difference_none _ _ level_q, difference_none _ _ low_q)))))))
  where
    across_x : (apart_x q r ≡ pos 0 → apart_x p r ≡ pos 0 → ⊥) → Close (λ u v. ¬ (IsSamePlace (mix u p v q) r))
    across_x h = close_weaker (λ u v. ¬ (pos u *ℤ apart_x p r +ℤ pos v *ℤ apart_x q r ≡ pos 0)) (λ u v. ¬ (IsSamePlace (mix u p v q) r))
        (λ u v off same. off (sym (mixed p.x q.x r.x (pos p.w) (pos q.w) (pos r.w) (pos u) (pos v) _ (weight u v p.w q.w)) ∙ no_difference _ _ same.0))
        (close_line (apart_x p r) (apart_x q r) h)

    across_y : (apart_y q r ≡ pos 0 → apart_y p r ≡ pos 0 → ⊥) → Close (λ u v. ¬ (IsSamePlace (mix u p v q) r))
    across_y h = close_weaker (λ u v. ¬ (pos u *ℤ apart_y p r +ℤ pos v *ℤ apart_y q r ≡ pos 0)) (λ u v. ¬ (IsSamePlace (mix u p v q) r))
        (λ u v off same. off (sym (mixed p.y q.y r.y (pos p.w) (pos q.w) (pos r.w) (pos u) (pos v) _ (weight u v p.w q.w)) ∙ no_difference _ _ same.1))
        (close_line (apart_y p r) (apart_y q r) h)

-- a segment within that part of another
abbrev inner : Point → Point → ℕ → Point
inner p q k = mix 1 p k q

inner_mix : (p q : Point) (k s t : ℕ) → mix s (inner p q k) t (inner p q (k + 1)) ≡ mix (s + t) p (s * k + t * (k + 1)) q
inner_mix p q k s t = λ i. record { x = along p.x q.x i; y = along p.y q.y i; w = width p.w q.w i }
  where
    plain : (s t k m n l a b : ℤ) → m ≡ s +ℤ t → n ≡ s *ℤ k +ℤ t *ℤ l → s *ℤ (pos 1 *ℤ a +ℤ k *ℤ b) +ℤ t *ℤ (pos 1 *ℤ a +ℤ l *ℤ b) ≡ m *ℤ a +ℤ n *ℤ b
    plain s t k m n l a b e f = rw (e, f) (simp monomials (omega (arith, ints)))

    along : (a b : ℤ) → pos s *ℤ (pos 1 *ℤ a +ℤ pos k *ℤ b) +ℤ pos t *ℤ (pos 1 *ℤ a +ℤ pos (k + 1) *ℤ b) ≡ pos (s + t) *ℤ a +ℤ pos (s * k + t * (k + 1)) *ℤ b
    along a b = plain (pos s) (pos t) (pos k) (pos (s + t)) (pos (s * k + t * (k + 1))) (pos (k + 1)) a b (omega (arith, ints)) (omega (arith, ints))

    width : (m n : ℕ) → s * (1 * m + k * n) + t * (1 * m + (k + 1) * n) ≡ (s + t) * m + (s * k + t * (k + 1)) * n
    width m n = grind arith

inner_apart : (p q : Point) (k : ℕ) → ¬ (IsSamePlace p q) → ¬ (IsSamePlace (inner p q k) (inner p q (k + 1)))
inner_apart p q k apart same = apart (step p.x q.x p.w q.w same.0, step p.y q.y p.w q.w same.1)
  where
    plain : (k l m n a b w v : ℤ) → l ≡ k +ℤ pos 1 → m ≡ w +ℤ k *ℤ v → n ≡ w +ℤ l *ℤ v → (pos 1 *ℤ a +ℤ k *ℤ b) *ℤ n ≡ (pos 1 *ℤ a +ℤ l *ℤ b) *ℤ m → a *ℤ v ≡ b *ℤ w
    plain k l m n a b w v e f g same =
        let h : (pos 1 *ℤ a +ℤ k *ℤ b) *ℤ (w +ℤ (k +ℤ pos 1) *ℤ v) ≡ (pos 1 *ℤ a +ℤ (k +ℤ pos 1) *ℤ b) *ℤ (w +ℤ k *ℤ v) = rw (f, g, e) at same in
        let i : (pos 1 *ℤ a +ℤ k *ℤ b) *ℤ (w +ℤ (k +ℤ pos 1) *ℤ v) -ℤ (pos 1 *ℤ a +ℤ (k +ℤ pos 1) *ℤ b) *ℤ (w +ℤ k *ℤ v) ≡ a *ℤ v -ℤ b *ℤ w = simp monomials (omega (arith, ints)) in
        difference_none (a *ℤ v) (b *ℤ w) (sym i ∙ no_difference _ _ h)

    step : (a b : ℤ) (m n : ℕ) → (pos 1 *ℤ a +ℤ pos k *ℤ b) *ℤ pos (1 * m + (k + 1) * n) ≡ (pos 1 *ℤ a +ℤ pos (k + 1) *ℤ b) *ℤ pos (1 * m + k * n) → a *ℤ pos n ≡ b *ℤ pos m
    step a b m n same = plain (pos k) (pos (k + 1)) _ _ a b (pos m) (pos n) (omega (arith, ints)) (omega (arith, ints)) (omega (arith, ints)) same

inner_enough : (k s t : ℕ) → k * (s + t) ≤ s * k + t * (k + 1)
inner_enough k s t = omega arith

-- so a segment contains one that avoids them
pub close_segment : (P : Point → Type 0) (p q : Point) → 0 < p.w → 0 < q.w → ¬ (IsSamePlace p q) → Close (λ u v. P (mix u p v q)) → ShareSegment P
close_segment P p q wp wq apart (k, all) = (
  inner p q k,
  inner p q (k + 1),
  wide p.w q.w k wp,
  wide p.w q.w (k + 1) wp,
  inner_apart p q k apart,
  λ s t some. subst P (sym (inner_mix p q k s t)) (all (s + t) (s * k + t * (k + 1)) some (inner_enough k s t)),
)
  where
    wide : (m n k : ℕ) → 0 < m → 0 < 1 * m + k * n
    wide m n k h = omega arith

-- ---- the segment from one end of an edge to the other

between_mix : (s t : ℕ) (a b z : ℤ) → z ≡ pos s *ℤ a +ℤ pos t *ℤ b → is_between a b (s * 1 + t * 1) z ≡ true
between_mix s t a b z e = by_lt_z a b
    (λ less. up (pos (s * 1 + t * 1) *ℤ a) (pos (s * 1 + t * 1) *ℤ b) z
    (no_less _ z _ (from_a (pos s) (pos t) _ a b z (weights s t) e) (positive (b -ℤ a) (omega (arith, ints)) t))
    (no_less z _ _ (to_b (pos s) (pos t) _ a b z (weights s t) e) (positive (b -ℤ a) (omega (arith, ints)) s)))
    (λ more. down (pos (s * 1 + t * 1) *ℤ a) (pos (s * 1 + t * 1) *ℤ b) z
    (no_less _ z _ (from_b (pos s) (pos t) _ a b z (weights s t) e) (positive (a -ℤ b) (omega (arith, ints)) s))
    (no_less z _ _ (to_a (pos s) (pos t) _ a b z (weights s t) e) (positive (a -ℤ b) (omega (arith, ints)) t)))
  where
    positive : (d : ℤ) → pos 0 ≤ℤ d → (n : ℕ) → pos 0 ≤ℤ (pos n *ℤ d)
    positive d h n = times_not_negative (pos n) d (omega (arith, ints)) h

    no_less : (m n d : ℤ) → n -ℤ m ≡ d → pos 0 ≤ℤ d → m ≤ℤ n
    no_less m n d e h = omega (arith, ints)

    weights : (s t : ℕ) → pos (s * 1 + t * 1) ≡ pos s +ℤ pos t
    weights s t = omega (arith, ints)

    from_a : (s t m a b z : ℤ) → m ≡ s +ℤ t → z ≡ s *ℤ a +ℤ t *ℤ b → z -ℤ m *ℤ a ≡ t *ℤ (b -ℤ a)
    from_a s t m a b z e f = rw (e, f) (simp monomials (omega (arith, ints)))

    to_b : (s t m a b z : ℤ) → m ≡ s +ℤ t → z ≡ s *ℤ a +ℤ t *ℤ b → m *ℤ b -ℤ z ≡ s *ℤ (b -ℤ a)
    to_b s t m a b z e f = rw (e, f) (simp monomials (omega (arith, ints)))

    from_b : (s t m a b z : ℤ) → m ≡ s +ℤ t → z ≡ s *ℤ a +ℤ t *ℤ b → z -ℤ m *ℤ b ≡ s *ℤ (a -ℤ b)
    from_b s t m a b z e f = rw (e, f) (simp monomials (omega (arith, ints)))

    to_a : (s t m a b z : ℤ) → m ≡ s +ℤ t → z ≡ s *ℤ a +ℤ t *ℤ b → m *ℤ a -ℤ z ≡ t *ℤ (a -ℤ b)
    to_a s t m a b z e f = rw (e, f) (simp monomials (omega (arith, ints)))

    up : (m n z : ℤ) → m ≤ℤ z → z ≤ℤ n → (int_le m z && int_le z n || int_le n z && int_le z m) ≡ true
    up m n z h k = grind (arith, ints)

    down : (m n z : ℤ) → n ≤ℤ z → z ≤ℤ m → (int_le m z && int_le z n || int_le n z && int_le z m) ≡ true
    down m n z h k = grind (arith, ints)

pub on_mix : (e : Edge) (s t : ℕ) → is_on e (mix s (at e.a) t (at e.b)) ≡ true
on_mix e s t =
    plain _ _ _ (level_mix e s (at e.a) t (at e.b) (first_level e) (last_level e)) (between_mix s t e.a.x e.b.x _ refl) (between_mix s t e.a.y e.b.y _ refl)
  where
    plain : (z : ℤ) (u v : Bool) → z ≡ pos 0 → u ≡ true → v ≡ true → (int_eq z (pos 0) && u && v) ≡ true
    plain z u v h k l = grind (arith, ints)
