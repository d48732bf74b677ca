-- The order of points by x and then by y is total, and the points on one side of a point are convex.
use Rattle.std.proofs.Common.{◌≡◌, ◌<◌, ◌≤◌, ◌+◌, ◌*◌, ◌⊎◌, inl, inr, arith, refl, sym, suc, zero}
use Rattle.std.specs.Prelude.{ℤ, ℕ, pos, ◌*ℤ◌, ◌-ℤ◌, ◌+ℤ◌, ◌≤ℤ◌, ◌<ℤ◌}
use Rattle.std.proofs.lemmas.Int.{ints, by_lt_z}
use Rattle.std.proofs.Math.Nat.{mul-le-mul}
use Rattle.plane_core.specs.Points.{Point, mix, IsSamePlace, IsBefore}
use Rattle.plane_core.proofs.Ring.{monomials, times-zero}
use Rattle.plane_core.proofs.Signs.{times_positive, positive_factor, not_negative_factor}
use Rattle.noding_core.specs.Nodes.{IsUpTo}

pub wide_z : (n : ℕ) → 0 < n → pos 0 <ℤ pos n
wide_z n h = omega (arith, ints)

pub up_z : (n : ℕ) → pos 0 ≤ℤ pos n
up_z n = omega (arith, ints)

pub zero_factor : (k d : ℤ) → pos 0 <ℤ k → k *ℤ d ≡ pos 0 → d ≡ pos 0
zero_factor k d hk h =
    let low : pos 0 ≤ℤ d = not_negative_factor k d hk (omega (arith, ints)) in
    by_lt_z (pos 0) d (λ up. absurd (clash (k *ℤ d) (times_positive k d hk up) h)) (λ no. omega (arith, ints))
  where
    clash : (z : ℤ) → pos 0 <ℤ z → z ≡ pos 0 → ⊥
    clash z h k = omega (arith, ints)

-- a way that leads rightward, or straight up
pub data IsAhead (d e : ℤ) : Type 0 where
  Right : pos 0 <ℤ d → IsAhead d e
  Above : d ≡ pos 0 → pos 0 <ℤ e → IsAhead d e

pub ahead_is : (d e f g : ℤ) → f ≡ d → g ≡ e → IsAhead d e → IsAhead f g
ahead_is d e f g h k (Right r) = Right (omega (arith, ints))
ahead_is d e f g h k (Above l r) = Above (omega (arith, ints)) (omega (arith, ints))

pub ahead_sum : (d e f g : ℤ) → IsAhead d e → IsAhead f g → IsAhead (d +ℤ f) (e +ℤ g)
ahead_sum d e f g (Right h) (Right k) = Right (omega (arith, ints))
ahead_sum d e f g (Right h) (Above k l) = Right (omega (arith, ints))
ahead_sum d e f g (Above h l) (Right k) = Right (omega (arith, ints))
ahead_sum d e f g (Above h i) (Above k l) = Above (omega (arith, ints)) (omega (arith, ints))

pub ahead_times : (k d e : ℤ) → pos 0 <ℤ k → IsAhead d e → IsAhead (k *ℤ d) (k *ℤ e)
ahead_times k d e hk (Right h) = Right (times_positive k d hk h)
ahead_times k d e hk (Above h l) = Above (rw h (times-zero k)) (times_positive k e hk l)

pub ahead_factor : (k d e : ℤ) → pos 0 <ℤ k → IsAhead (k *ℤ d) (k *ℤ e) → IsAhead d e
ahead_factor k d e hk (Right h) = Right (positive_factor k d hk h)
ahead_factor k d e hk (Above h l) = Above (zero_factor k d hk h) (positive_factor k e hk l)

-- s parts of the one way and t of the other
pub ahead_mix : (s t : ℕ) (d e f g : ℤ) → 0 < s + t → IsAhead d e → IsAhead f g
    → IsAhead (pos s *ℤ d +ℤ pos t *ℤ f) (pos s *ℤ e +ℤ pos t *ℤ g)
ahead_mix zero t d e f g some h k =
    ahead_is (pos t *ℤ f) (pos t *ℤ g) _ _ (none d (pos t *ℤ f)) (none e (pos t *ℤ g)) (ahead_times (pos t) f g (wide_z t (omega arith)) k)
  where
    none : (z u : ℤ) → pos 0 *ℤ z +ℤ u ≡ u
    none z u = omega (arith, ints)
ahead_mix (suc s) zero d e f g some h k =
    ahead_is (pos (suc s) *ℤ d) (pos (suc s) *ℤ e) _ _ (none f (pos (suc s) *ℤ d)) (none g (pos (suc s) *ℤ e)) (ahead_times (pos (suc s)) d e (wide_z (suc s) (omega arith)) h)
  where
    none : (z u : ℤ) → u +ℤ pos 0 *ℤ z ≡ u
    none z u = omega (arith, ints)
ahead_mix (suc s) (suc t) d e f g some h k =
    ahead_sum _ _ _ _ (ahead_times (pos (suc s)) d e (wide_z (suc s) (omega arith)) h) (ahead_times (pos (suc t)) f g (wide_z (suc t) (omega arith)) k)

-- the way from one point to another, at the scale of both
abbrev pub across : Point → Point → ℤ
across p q = q.x *ℤ pos p.w -ℤ p.x *ℤ pos q.w

abbrev pub upward : Point → Point → ℤ
upward p q = q.y *ℤ pos p.w -ℤ p.y *ℤ pos q.w

more : (m n : ℤ) → m <ℤ n → pos 0 <ℤ (n -ℤ m)
more m n h = omega (arith, ints)

less : (m n : ℤ) → pos 0 <ℤ (n -ℤ m) → m <ℤ n
less m n h = omega (arith, ints)

level : (m n : ℤ) → m ≡ n → n -ℤ m ≡ pos 0
level m n h = omega (arith, ints)

equal : (m n : ℤ) → n -ℤ m ≡ pos 0 → m ≡ n
equal m n h = omega (arith, ints)

pub ahead_of : (p q : Point) → IsBefore p q → IsAhead (across p q) (upward p q)
ahead_of p q (inl h) = Right (more _ _ h)
ahead_of p q (inr h) = Above (level _ _ h.0) (more _ _ h.1)

pub before_of : (p q : Point) → IsAhead (across p q) (upward p q) → IsBefore p q
before_of p q (Right h) = inl (less _ _ h)
before_of p q (Above h k) = inr (equal _ _ h, less _ _ k)

step : (x a y b z c : ℤ) → b *ℤ (z *ℤ a -ℤ x *ℤ c) ≡ c *ℤ (y *ℤ a -ℤ x *ℤ b) +ℤ a *ℤ (z *ℤ b -ℤ y *ℤ c)
step x a y b z c = simp monomials (omega (arith, ints))

pub across_step : (p q r : Point) → pos q.w *ℤ across p r ≡ pos r.w *ℤ across p q +ℤ pos p.w *ℤ across q r
across_step p q r = step p.x (pos p.w) q.x (pos q.w) r.x (pos r.w)

pub upward_step : (p q r : Point) → pos q.w *ℤ upward p r ≡ pos r.w *ℤ upward p q +ℤ pos p.w *ℤ upward q r
upward_step p q r = step p.y (pos p.w) q.y (pos q.w) r.y (pos r.w)

pub before_trans : (p q r : Point) → 0 < p.w → 0 < q.w → 0 < r.w → IsBefore p q → IsBefore q r → IsBefore p r
before_trans p q r wp wq wr h k = before_of p r (ahead_factor (pos q.w) _ _ (wide_z q.w wq)
    (ahead_is _ _ _ _ (across_step p q r) (upward_step p q r)
    (ahead_sum _ _ _ _ (ahead_times (pos r.w) _ _ (wide_z r.w wr) (ahead_of p q h)) (ahead_times (pos p.w) _ _ (wide_z p.w wp) (ahead_of q r k)))))

none_left : (n m k z : ℤ) → n ≡ m *ℤ z +ℤ k → z ≡ pos 0 → n ≡ k
none_left n m k z e h =
    let f : m *ℤ pos 0 ≡ pos 0 = times-zero m in
    let g : n ≡ m *ℤ pos 0 +ℤ k = rw h at e in
    omega (arith, ints)

none_right : (n m k z : ℤ) → n ≡ k +ℤ m *ℤ z → z ≡ pos 0 → n ≡ k
none_right n m k z e h =
    let f : m *ℤ pos 0 ≡ pos 0 = times-zero m in
    let g : n ≡ k +ℤ m *ℤ pos 0 = rw h at e in
    omega (arith, ints)

pub same_before : (p q r : Point) → 0 < p.w → 0 < q.w → IsSamePlace p q → IsBefore q r → IsBefore p r
same_before p q r wp wq h k = before_of p r (ahead_factor (pos q.w) _ _ (wide_z q.w wq)
    (ahead_is _ _ _ _
    (none_left _ (pos r.w) _ (across p q) (across_step p q r) (level _ _ h.0))
    (none_left _ (pos r.w) _ (upward p q) (upward_step p q r) (level _ _ h.1))
    (ahead_times (pos p.w) _ _ (wide_z p.w wp) (ahead_of q r k))))

pub before_same : (p q r : Point) → 0 < q.w → 0 < r.w → IsBefore p q → IsSamePlace q r → IsBefore p r
before_same p q r wq wr h k = before_of p r (ahead_factor (pos q.w) _ _ (wide_z q.w wq)
    (ahead_is _ _ _ _
    (none_right _ (pos p.w) _ (across q r) (across_step p q r) (level _ _ k.0))
    (none_right _ (pos p.w) _ (upward q r) (upward_step p q r) (level _ _ k.1))
    (ahead_times (pos r.w) _ _ (wide_z r.w wr) (ahead_of p q h))))

pub same_sym : (p q : Point) → IsSamePlace p q → IsSamePlace q p
same_sym p q h = (sym h.0, sym h.1)

pub same_trans : (p q r : Point) → 0 < p.w → 0 < q.w → 0 < r.w → IsSamePlace p q → IsSamePlace q r → IsSamePlace p r
same_trans p q r wp wq wr h k = (
  equal _ _ (zero_factor (pos q.w) (across p r) (wide_z q.w wq) (none _ (pos r.w) (pos p.w) (across p q) (across q r) (across_step p q r) (level _ _ h.0) (level _ _ k.0))),
  equal _ _ (zero_factor (pos q.w) (upward p r) (wide_z q.w wq) (none _ (pos r.w) (pos p.w) (upward p q) (upward q r) (upward_step p q r) (level _ _ h.1) (level _ _ k.1))),
)
  where
    none : (n a b d e : ℤ) → n ≡ a *ℤ d +ℤ b *ℤ e → d ≡ pos 0 → e ≡ pos 0 → n ≡ pos 0
    none n a b d e h k l =
        let f : a *ℤ pos 0 ≡ pos 0 = times-zero a in
        let g : b *ℤ pos 0 ≡ pos 0 = times-zero b in
        let m : n ≡ a *ℤ pos 0 +ℤ b *ℤ pos 0 = rw (k, l) at h in
        omega (arith, ints)

pub same_refl : (p : Point) → IsSamePlace p p
same_refl p = (refl, refl)

-- for two points, the one is before the other, or they are one place
pub order : (p q : Point) → IsBefore p q ⊎ (IsSamePlace p q ⊎ IsBefore q p)
order p q = by_lt_z (p.x *ℤ pos q.w) (q.x *ℤ pos p.w) (λ h. inl (inl h))
    (λ a. by_lt_z (q.x *ℤ pos p.w) (p.x *ℤ pos q.w) (λ h. inr (inr (inl h)))
    (λ b. let e = same _ _ a b in
    by_lt_z (p.y *ℤ pos q.w) (q.y *ℤ pos p.w) (λ h. inl (inr (e, h)))
    (λ c. by_lt_z (q.y *ℤ pos p.w) (p.y *ℤ pos q.w) (λ h. inr (inr (inr (sym e, h))))
    (λ d. inr (inl (e, same _ _ c d))))))
  where
    same : (m n : ℤ) → n ≤ℤ m → m ≤ℤ n → m ≡ n
    same m n h k = omega (arith, ints)

pub not_before_itself : (p : Point) → IsBefore p p → ⊥
not_before_itself p h = plain (p.x *ℤ pos p.w) (p.y *ℤ pos p.w) (ahead_of p p h)
  where
    plain : (m n : ℤ) → IsAhead (m -ℤ m) (n -ℤ n) → ⊥
    plain m n (Right h) = omega (arith, ints)
    plain m n (Above h k) = omega (arith, ints)

pub before_both : (p q : Point) → 0 < p.w → 0 < q.w → IsBefore p q → IsBefore q p → ⊥
before_both p q wp wq h k = not_before_itself p (before_trans p q p wp wq wp h k)

pub before_or_same : (p q : Point) → 0 < p.w → 0 < q.w → IsBefore p q → IsSamePlace p q → ⊥
before_or_same p q wp wq h k = not_before_itself p (before_same p q p wq wp h (same_sym p q k))

pub up_to_before : (p q r : Point) → 0 < p.w → 0 < q.w → 0 < r.w → IsUpTo p q → IsBefore q r → IsBefore p r
up_to_before p q r wp wq wr (inl h) k = before_trans p q r wp wq wr h k
up_to_before p q r wp wq wr (inr h) k = same_before p q r wp wq h k

pub before_up_to : (p q r : Point) → 0 < p.w → 0 < q.w → 0 < r.w → IsBefore p q → IsUpTo q r → IsBefore p r
before_up_to p q r wp wq wr h (inl k) = before_trans p q r wp wq wr h k
before_up_to p q r wp wq wr h (inr k) = before_same p q r wq wr h k

pub up_to_trans : (p q r : Point) → 0 < p.w → 0 < q.w → 0 < r.w → IsUpTo p q → IsUpTo q r → IsUpTo p r
up_to_trans p q r wp wq wr (inl b) h = inl (before_up_to p q r wp wq wr b h)
up_to_trans p q r wp wq wr (inr s) (inl b) = inl (same_before p q r wp wq s b)
up_to_trans p q r wp wq wr (inr s) (inr t) = inr (same_trans p q r wp wq wr s t)

-- not after
pub up_to_or_after : (p q : Point) → IsUpTo p q ⊎ IsBefore q p
up_to_or_after p q = elim (order p q) [
  | inl h ↦ inl (inl h)
  | inr k ↦ elim k [
    | inl s ↦ inl (inr s)
    | inr h ↦ inr h
  ]
]

pub up_to_after : (p q : Point) → 0 < p.w → 0 < q.w → IsUpTo p q → IsBefore q p → ⊥
up_to_after p q wp wq h k = not_before_itself p (up_to_before p q p wp wq wp h k)

-- the ways to a mix of two points, and from it, are mixes
ways_to_mix : (s t k w x a y b m : ℤ) → m ≡ s *ℤ a +ℤ t *ℤ b
    → (s *ℤ x +ℤ t *ℤ y) *ℤ w -ℤ k *ℤ m ≡ s *ℤ (x *ℤ w -ℤ k *ℤ a) +ℤ t *ℤ (y *ℤ w -ℤ k *ℤ b)
ways_to_mix s t k w x a y b m e = rw e (simp monomials (omega (arith, ints)))

ways_from_mix : (s t k w x a y b m : ℤ) → m ≡ s *ℤ a +ℤ t *ℤ b
    → k *ℤ m -ℤ (s *ℤ x +ℤ t *ℤ y) *ℤ w ≡ s *ℤ (k *ℤ a -ℤ x *ℤ w) +ℤ t *ℤ (k *ℤ b -ℤ y *ℤ w)
ways_from_mix s t k w x a y b m e = rw e (simp monomials (omega (arith, ints)))

pub width_mix : (s : ℕ) (p : Point) (t : ℕ) (q : Point) → pos (s * p.w + t * q.w) ≡ pos s *ℤ pos p.w +ℤ pos t *ℤ pos q.w
width_mix s p t q = plain s p.w t q.w
  where
    plain : (s a t b : ℕ) → pos (s * a + t * b) ≡ pos s *ℤ pos a +ℤ pos t *ℤ pos b
    plain s a t b = omega (arith, ints)

pub before_mix : (k p q : Point) (s t : ℕ) → 0 < s + t → IsBefore k p → IsBefore k q → IsBefore k (mix s p t q)
before_mix k p q s t some h g = before_of k (mix s p t q) (ahead_is _ _ _ _
    (ways_to_mix (pos s) (pos t) k.x (pos k.w) p.x (pos p.w) q.x (pos q.w) _ (width_mix s p t q))
    (ways_to_mix (pos s) (pos t) k.y (pos k.w) p.y (pos p.w) q.y (pos q.w) _ (width_mix s p t q))
    (ahead_mix s t _ _ _ _ some (ahead_of k p h) (ahead_of k q g)))

pub mix_before : (k p q : Point) (s t : ℕ) → 0 < s + t → IsBefore p k → IsBefore q k → IsBefore (mix s p t q) k
mix_before k p q s t some h g = before_of (mix s p t q) k (ahead_is _ _ _ _
    (ways_from_mix (pos s) (pos t) k.x (pos k.w) p.x (pos p.w) q.x (pos q.w) _ (width_mix s p t q))
    (ways_from_mix (pos s) (pos t) k.y (pos k.w) p.y (pos p.w) q.y (pos q.w) _ (width_mix s p t q))
    (ahead_mix s t _ _ _ _ some (ahead_of p k h) (ahead_of q k g)))

-- a mix has a place
pub mix_wide : (p q : Point) (s t : ℕ) → 0 < p.w → 0 < q.w → 0 < s + t → 0 < s * p.w + t * q.w
mix_wide p q zero t wp wq h = plain t q.w p.w (product t q.w (omega arith) wq)
  where
    plain : (t w v : ℕ) → 1 * 1 ≤ t * w → 0 < 0 * v + t * w
    plain t w v h = omega (arith, ints)

    product : (t w : ℕ) → 1 ≤ t → 1 ≤ w → 1 * 1 ≤ t * w
    product t w h k = mul-le-mul h k
mix_wide p q (suc s) t wp wq h = plain (suc s) p.w (t * q.w) (product (suc s) p.w (omega arith) wp)
  where
    plain : (s v n : ℕ) → 1 * 1 ≤ s * v → 0 < s * v + n
    plain s v n h = omega (arith, ints)

    product : (t w : ℕ) → 1 ≤ t → 1 ≤ w → 1 * 1 ≤ t * w
    product t w h k = mul-le-mul h k
