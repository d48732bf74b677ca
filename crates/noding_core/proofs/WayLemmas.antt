-- On the way from one point to another, an edge is met, or the number of edges below changes by an
-- even number.
use Rattle.std.proofs.Common.{◌≡◌, ◌*◌, ◌+◌, ◌<◌, ◌⊎◌, ℕ, arith, ap, ◌∙◌, sym, true, false, refl, subst, inl, inr}
use Rattle.std.specs.Prelude.{ℤ, pos, ◌+ℤ◌, ◌-ℤ◌, ◌*ℤ◌, neg_ℤ, ◌≤ℤ◌, ◌<ℤ◌, nat_abs, int_le, int_lt, Bool, ◌&&◌, ◌||◌, not}
use Rattle.std.proofs.lemmas.Int.{ints, by_lt_z}
use Rattle.plane_core.specs.declared.edge.Edge.{Edge}
use Rattle.plane_core.specs.declared.vertex.Vertex.{Vertex}
use Rattle.plane_core.specs.Points.{Point, side, run, rise, is_on, mix}
use Rattle.plane_core.proofs.Ring.{monomials}
use Rattle.plane_core.proofs.Signs.{times_not_negative, times_positive, weak, not_negative_factor}
use Rattle.plane_core.proofs.NodeLemmas.{same_point}
use Rattle.plane_core.proofs.LevelLemmas.{level_on_rightward}
use Rattle.noding_core.proofs.TestLemmas.{by_test, clash, le_true, le_false, lt_true, lt_false}
use Rattle.noding_core.proofs.OrderLemmas.{mix_wide}
use Rattle.noding_core.proofs.PieceLemmas.{side-mix}

-- a point of the segment from one point to another
pub record IsOnWay (p q z : Point) : Type 0 where
  pub s : ℕ
  pub t : ℕ
  pub some : 0 < s + t
  pub is : z ≡ mix s p t q

weight : (s w t v : ℕ) → pos (s * w + t * v) ≡ pos s *ℤ pos w +ℤ pos t *ℤ pos v
weight s w t v = omega (arith, ints)

pub on_way_wide : (p q z : Point) → 0 < p.w → 0 < q.w → IsOnWay p q z → 0 < z.w
on_way_wide p q z wide_p wide_q way = subst (λ (x : Point). 0 < x.w) (sym way.is) (mix_wide p q way.s way.t wide_p wide_q way.some)

pub way_first : (p q : Point) → IsOnWay p q p
way_first p q = record { s = 1; t = 0; some = omega arith; is = same_point p (mix 1 p 0 q) (plain p.x q.x) (plain p.y q.y) (omega arith) }
  where
    plain : (a b : ℤ) → a ≡ pos 1 *ℤ a +ℤ pos 0 *ℤ b
    plain a b = omega (arith, ints)

pub way_last : (p q : Point) → IsOnWay p q q
way_last p q = record { s = 0; t = 1; some = omega arith; is = same_point q (mix 0 p 1 q) (plain p.x q.x) (plain p.y q.y) (omega arith) }
  where
    plain : (a b : ℤ) → b ≡ pos 0 *ℤ a +ℤ pos 1 *ℤ b
    plain a b = omega (arith, ints)

pub way_turned : (p q z : Point) → IsOnWay p q z → IsOnWay q p z
way_turned p q z way = record {
  s = way.t;
  t = way.s;
  some = omega (arith, way.some);
  is = way.is ∙ same_point (mix way.s p way.t q) (mix way.t q way.s p) (plain (pos way.s *ℤ p.x) (pos way.t *ℤ q.x)) (plain (pos way.s *ℤ p.y) (pos way.t *ℤ q.y)) (omega arith);
}
  where
    plain : (a b : ℤ) → a +ℤ b ≡ b +ℤ a
    plain a b = omega (arith, ints)

-- the mix of two points of a way is on it
way_mix : (p q y z : Point) (s t : ℕ) → 0 < s + t → IsOnWay p q y → IsOnWay p q z → IsOnWay p q (mix s y t z)
way_mix p q y z s t some h k = record {
  s = s * h.s + t * k.s;
  t = s * h.t + t * k.t;
  some = plain s t h.s h.t k.s k.t some h.some k.some;
  is = ap (λ (x : Point). mix s x t z) h.is ∙ ap (λ (x : Point). mix s (mix h.s p h.t q) t x) k.is
      ∙ same_point _ _ (ring (pos s) (pos t) (pos h.s) (pos h.t) (pos k.s) (pos k.t) p.x q.x _ _ (weight s h.s t k.s) (weight s h.t t k.t))
      (ring (pos s) (pos t) (pos h.s) (pos h.t) (pos k.s) (pos k.t) p.y q.y _ _ (weight s h.s t k.s) (weight s h.t t k.t)) (natural s t h.s h.t k.s k.t p.w q.w);
}
  where
    ring : (s t a b c d x y m n : ℤ) → m ≡ s *ℤ a +ℤ t *ℤ c → n ≡ s *ℤ b +ℤ t *ℤ d → s *ℤ (a *ℤ x +ℤ b *ℤ y) +ℤ t *ℤ (c *ℤ x +ℤ d *ℤ y) ≡ m *ℤ x +ℤ n *ℤ y
    ring s t a b c d x y m n e f = rw (e, f) (simp monomials (omega (arith, ints)))

    natural : (s t a b c d w v : ℕ) → s * (a * w + b * v) + t * (c * w + d * v) ≡ (s * a + t * c) * w + (s * b + t * d) * v
    natural s t a b c d w v = omega arith

    plain : (s t a b c d : ℕ) → 0 < s + t → 0 < a + b → 0 < c + d → 0 < (s * a + t * c) + (s * b + t * d)
    plain s t a b c d h k l = mix_plain s (a + b) t (c + d) h k l (omega arith)
      where
        mix_plain : {m : ℕ} (s w t v : ℕ) → 0 < s + t → 0 < w → 0 < v → m ≡ s * w + t * v → 0 < m
        mix_plain {m} s w t v h k l e =
            let wide : 0 < s * w + t * v = mix_wide (record { x = pos 0; y = pos 0; w = w }) (record { x = pos 0; y = pos 0; w = v }) s t k l h in
            omega (arith, e, wide)

-- a point of the way is on the edge
pub record IsMet (f : Edge) (p q : Point) : Type 0 where
  pub point : Point
  pub way : IsOnWay p q point
  pub on : is_on f point ≡ true

pub record InColumns (f : Edge) (z : Point) : Type 0 where
  pub from : (pos z.w *ℤ f.a.x) ≤ℤ z.x
  pub to : z.x ≤ℤ (pos z.w *ℤ f.b.x)

columns_mix : (f : Edge) (s : ℕ) (y : Point) (t : ℕ) (z : Point) → InColumns f y → InColumns f z → InColumns f (mix s y t z)
columns_mix f s y t z h k = record {
  from = low (pos s) (pos t) (pos y.w) (pos z.w) f.a.x y.x z.x _ (weight s y.w t z.w) (not_negative s) (not_negative t) h.from k.from;
  to = high (pos s) (pos t) (pos y.w) (pos z.w) f.b.x y.x z.x _ (weight s y.w t z.w) (not_negative s) (not_negative t) h.to k.to;
}
  where
    not_negative : (n : ℕ) → pos 0 ≤ℤ pos n
    not_negative n = omega (arith, ints)

    rest : (m n : ℤ) → m ≤ℤ n → pos 0 ≤ℤ (n -ℤ m)
    rest m n h = omega (arith, ints)

    from_rest : (z m n : ℤ) → z ≡ n -ℤ m → pos 0 ≤ℤ z → m ≤ℤ n
    from_rest z m n e h = omega (arith, ints)

    sum : (m n : ℤ) → pos 0 ≤ℤ m → pos 0 ≤ℤ n → pos 0 ≤ℤ (m +ℤ n)
    sum m n h k = omega (arith, ints)

    low : (s t w v a y z m : ℤ) → m ≡ s *ℤ w +ℤ t *ℤ v → pos 0 ≤ℤ s → pos 0 ≤ℤ t → (w *ℤ a) ≤ℤ y → (v *ℤ a) ≤ℤ z → (m *ℤ a) ≤ℤ (s *ℤ y +ℤ t *ℤ z)
    low s t w v a y z m e hs ht h k = from_rest (s *ℤ (y -ℤ w *ℤ a) +ℤ t *ℤ (z -ℤ v *ℤ a)) _ _ (rw e (simp monomials (omega (arith, ints))))
        (sum _ _ (times_not_negative s _ hs (rest _ _ h)) (times_not_negative t _ ht (rest _ _ k)))

    high : (s t w v b y z m : ℤ) → m ≡ s *ℤ w +ℤ t *ℤ v → pos 0 ≤ℤ s → pos 0 ≤ℤ t → y ≤ℤ (w *ℤ b) → z ≤ℤ (v *ℤ b) → (s *ℤ y +ℤ t *ℤ z) ≤ℤ (m *ℤ b)
    high s t w v b y z m e hs ht h k = from_rest (s *ℤ (w *ℤ b -ℤ y) +ℤ t *ℤ (v *ℤ b -ℤ z)) _ _ (rw e (simp monomials (omega (arith, ints))))
        (sum _ _ (times_not_negative s _ hs (rest _ _ h)) (times_not_negative t _ ht (rest _ _ k)))

-- between two points in the columns of an edge, above it and not above it, it is met
meet : (f : Edge) (p q y z : Point) → f.a.x <ℤ f.b.x → IsOnWay p q y → IsOnWay p q z → InColumns f y → InColumns f z → pos 0 <ℤ side f y → side f z ≤ℤ pos 0 → IsMet f p q
meet f p q y z right way_y way_z in_y in_z up down = record {
  point = mix (nat_abs (side f z)) y (nat_abs (side f y)) z;
  way = way_mix p q y z (nat_abs (side f z)) (nat_abs (side f y)) (some (nat_abs (side f z)) (side f y) up) way_y way_z;
  on = level_on_rightward f _ cols.from cols.to right level;
}
  where
    some : (m : ℕ) (k : ℤ) → pos 0 <ℤ k → 0 < m + nat_abs k
    some m k h = omega (arith, ints)

    cols : InColumns f (mix (nat_abs (side f z)) y (nat_abs (side f y)) z)
    cols = columns_mix f (nat_abs (side f z)) y (nat_abs (side f y)) z in_y in_z

    held : (k : ℤ) → pos 0 <ℤ k → pos (nat_abs k) ≡ k
    held k h = omega (arith, ints)

    turned : (k : ℤ) → k ≤ℤ pos 0 → pos (nat_abs k) ≡ neg_ℤ k
    turned k h = omega (arith, ints)

    plain : (a b m n : ℤ) → m ≡ neg_ℤ b → n ≡ a → m *ℤ a +ℤ n *ℤ b ≡ pos 0
    plain a b m n h k = rw (h, k) (simp monomials (omega (arith, ints)))

    level : side f (mix (nat_abs (side f z)) y (nat_abs (side f y)) z) ≡ pos 0
    level = side-mix f (nat_abs (side f z)) y (nat_abs (side f y)) z ∙ plain (side f y) (side f z) _ _ (turned (side f z) down) (held (side f y) up)

-- by two numbers, one positive and one not, or of the same sign
pub by_signs : {X : Type 0} (m n : ℤ) → (pos 0 <ℤ m → n ≤ℤ pos 0 → X) → (pos 0 <ℤ n → m ≤ℤ pos 0 → X) → X ⊎ (int_lt (pos 0) m ≡ int_lt (pos 0) n)
by_signs m n f g = by_lt_z (pos 0) m
    (λ up. by_lt_z (pos 0) n (λ also. inr (lt_true (pos 0) m up ∙ sym (lt_true (pos 0) n also))) (λ down. inl (f up down)))
    (λ down. by_lt_z (pos 0) n (λ up. inl (g up down)) (λ also. inr (lt_false (pos 0) m down ∙ sym (lt_false (pos 0) n also))))

pub same_or_met : (f : Edge) (p q y z : Point) → f.a.x <ℤ f.b.x → IsOnWay p q y → IsOnWay p q z → InColumns f y → InColumns f z → IsMet f p q ⊎ (int_lt (pos 0) (side f y) ≡ int_lt (pos 0) (side f z))
same_or_met f p q y z right way_y way_z in_y in_z = by_signs (side f y) (side f z) (meet f p q y z right way_y way_z in_y in_z) (meet f p q z y right way_z way_y in_z in_y)

-- the point of the way in the column of a vertex
abbrev pub over : Point → Point → Vertex → Point
over p q v = mix (nat_abs (q.x -ℤ pos q.w *ℤ v.x)) p (nat_abs (pos p.w *ℤ v.x -ℤ p.x)) q

-- the vertex is below it
abbrev pub is_under : Point → Point → Vertex → Bool
is_under p q v = int_lt (pos 0) ((over p q v).y -ℤ pos (over p q v).w *ℤ v.y)

-- the vertex is in the columns after p, up to q
pub record IsBetween (p q : Point) (v : Vertex) : Type 0 where
  pub after : p.x <ℤ (pos p.w *ℤ v.x)
  pub to : (pos q.w *ℤ v.x) ≤ℤ q.x

module _ (p q : Point) (v : Vertex) (is : IsBetween p q v) where
  pub over_way : IsOnWay p q (over p q v)
  over_way = record { s = _; t = _; some = plain (nat_abs (q.x -ℤ pos q.w *ℤ v.x)) p.x (pos p.w *ℤ v.x) is.after; is = refl }
    where
      plain : (m : ℕ) (a b : ℤ) → a <ℤ b → 0 < m + nat_abs (b -ℤ a)
      plain m a b h = omega (arith, ints)

  pub over_column : (over p q v).x ≡ pos (over p q v).w *ℤ v.x
  over_column = sym (ap (λ (n : ℤ). n *ℤ v.x) (weight (nat_abs (q.x -ℤ pos q.w *ℤ v.x)) p.w (nat_abs (pos p.w *ℤ v.x -ℤ p.x)) q.w)
      ∙ sym (plain p.x (pos p.w) q.x (pos q.w) v.x _ _ (first q.x (pos q.w *ℤ v.x) is.to) (second (pos p.w *ℤ v.x) p.x is.after)))
    where
      first : (a b : ℤ) → b ≤ℤ a → pos (nat_abs (a -ℤ b)) ≡ a -ℤ b
      first a b h = omega (arith, ints)

      second : (a b : ℤ) → b <ℤ a → pos (nat_abs (a -ℤ b)) ≡ a -ℤ b
      second a b h = omega (arith, ints)

      plain : (x w y u a s t : ℤ) → s ≡ y -ℤ u *ℤ a → t ≡ w *ℤ a -ℤ x → s *ℤ x +ℤ t *ℤ y ≡ (s *ℤ w +ℤ t *ℤ u) *ℤ a
      plain x w y u a s t h k = rw (h, k) (simp monomials (omega (arith, ints)))

-- the side of a point in the column of an end
side_first : (f : Edge) (z : Point) → z.x ≡ pos z.w *ℤ f.a.x → side f z ≡ run f *ℤ (z.y -ℤ pos z.w *ℤ f.a.y)
side_first f z h = plain (run f) (rise f) z.x (pos z.w *ℤ f.a.x) (z.y -ℤ pos z.w *ℤ f.a.y) h
  where
    plain : (r d x a y : ℤ) → x ≡ a → r *ℤ y -ℤ d *ℤ (x -ℤ a) ≡ r *ℤ y
    plain r d x a y h = rw h (simp monomials (omega (arith, ints)))

side_second : (f : Edge) (z : Point) → z.x ≡ pos z.w *ℤ f.b.x → side f z ≡ run f *ℤ (z.y -ℤ pos z.w *ℤ f.b.y)
side_second f z h = plain f.a.x f.a.y f.b.x f.b.y z.x z.y (pos z.w) h
  where
    plain : (a b c d x y w : ℤ) → x ≡ w *ℤ c → (c -ℤ a) *ℤ (y -ℤ w *ℤ b) -ℤ (d -ℤ b) *ℤ (x -ℤ w *ℤ a) ≡ (c -ℤ a) *ℤ (y -ℤ w *ℤ d)
    plain a b c d x y w h = rw h (simp monomials (omega (arith, ints)))

lt_factor : (r z : ℤ) → pos 0 <ℤ r → int_lt (pos 0) (r *ℤ z) ≡ int_lt (pos 0) z
lt_factor r z h = by_lt_z (pos 0) z (λ up. lt_true (pos 0) (r *ℤ z) (times_positive r z h up) ∙ sym (lt_true (pos 0) z up))
    (λ down. lt_false (pos 0) (r *ℤ z) (plain (r *ℤ z) _ (turned r z) (times_not_negative r (neg_ℤ z) (weak _ _ h) (opposite z down))) ∙ sym (lt_false (pos 0) z down))
  where
    opposite : (z : ℤ) → z ≤ℤ pos 0 → pos 0 ≤ℤ neg_ℤ z
    opposite z h = omega (arith, ints)

    turned : (r z : ℤ) → r *ℤ neg_ℤ z ≡ neg_ℤ (r *ℤ z)
    turned r z = simp monomials

    plain : (m n : ℤ) → n ≡ neg_ℤ m → pos 0 ≤ℤ n → m ≤ℤ pos 0
    plain m n e h = omega (arith, ints)

pub under_first : (p q : Point) (f : Edge) → f.a.x <ℤ f.b.x → IsBetween p q f.a → int_lt (pos 0) (side f (over p q f.a)) ≡ is_under p q f.a
under_first p q f right is = ap (int_lt (pos 0)) (side_first f (over p q f.a) (over_column p q f.a is)) ∙ lt_factor (run f) ((over p q f.a).y -ℤ pos (over p q f.a).w *ℤ f.a.y) (longer f.a.x f.b.x right)
  where
    longer : (a b : ℤ) → a <ℤ b → pos 0 <ℤ (b -ℤ a)
    longer a b h = omega (arith, ints)

pub under_second : (p q : Point) (f : Edge) → f.a.x <ℤ f.b.x → IsBetween p q f.b → int_lt (pos 0) (side f (over p q f.b)) ≡ is_under p q f.b
under_second p q f right is = ap (int_lt (pos 0)) (side_second f (over p q f.b) (over_column p q f.b is)) ∙ lt_factor (run f) ((over p q f.b).y -ℤ pos (over p q f.b).w *ℤ f.b.y) (longer f.a.x f.b.x right)
  where
    longer : (a b : ℤ) → a <ℤ b → pos 0 <ℤ (b -ℤ a)
    longer a b h = omega (arith, ints)

-- either, by the value of a test
pub when_true : {X C : Type 0} (t : Bool) → (t ≡ true → X ⊎ C) → X ⊎ (t ≡ true → C)
when_true t h = by_test t (λ is. elim (h is) [ inl x ↦ inl x | inr c ↦ inr (λ e. c) ]) (λ off. inr (λ e. clash t e off))

pub when_false : {X C : Type 0} (t : Bool) → (t ≡ false → X ⊎ C) → X ⊎ (t ≡ false → C)
when_false t h = by_test t (λ is. inr (λ e. clash t is e)) (λ off. elim (h off) [ inl x ↦ inl x | inr c ↦ inr (λ e. c) ])

pub four : {X A B C D : Type 0} {E : Type 0} → X ⊎ A → X ⊎ B → X ⊎ C → X ⊎ D → (A → B → C → D → E) → X ⊎ E
four (inl x) b c d f = inl x
four (inr a) (inl x) c d f = inl x
four (inr a) (inr b) (inl x) d f = inl x
four (inr a) (inr b) (inr c) (inl x) f = inl x
four (inr a) (inr b) (inr c) (inr d) f = inr (f a b c d)

-- the test of an edge from its lesser end
not_not : (a b : ℤ) → int_lt a b ≡ not (int_le b a)
not_not a b = by_lt_z a b (λ h. lt_true a b h ∙ sym (ap not (le_false b a h))) (λ h. lt_false a b h ∙ sym (ap not (le_true b a h)))

pub spanned : (a b x : ℤ) (t u : Bool) → a ≤ℤ b → ((int_le a x && int_lt x b) && t || (int_le b x && int_lt x a) && u) ≡ ((int_le a x && not (int_le b x)) && t)
spanned a b x t u h = by_lt_z x a
    (λ left. rw (le_false a x left, le_false b x (longer left)) refl)
    (λ right. rw (lt_false x a right, not_not x b) (last (int_le a x && not (int_le b x)) t (int_le b x) u))
  where
    longer : x <ℤ a → x <ℤ b
    longer k = omega (arith, ints)

    last : (s t v u : Bool) → (s && t || (v && false) && u) ≡ (s && t)
    last s t v u = grind (arith, ints)

-- tests of a column
pub column_later : (w v a x y : ℤ) → pos 0 <ℤ w → pos 0 <ℤ v → (x *ℤ v) ≤ℤ (y *ℤ w) → (w *ℤ a) ≤ℤ x → (v *ℤ a) ≤ℤ y
column_later w v a x y hw hv h k = cancelled w _ _ hw (two _ _ _ _ _ (one w v a) (times v _ _ (weak _ _ hv) k) (turned v x) h (turned w y))
  where
    one : (w v a : ℤ) → w *ℤ (v *ℤ a) ≡ v *ℤ (w *ℤ a)
    one w v a = simp monomials

    turned : (v x : ℤ) → v *ℤ x ≡ x *ℤ v
    turned v x = simp monomials

    rest : (m n : ℤ) → m ≤ℤ n → pos 0 ≤ℤ (n -ℤ m)
    rest m n h = omega (arith, ints)

    from_rest : (z m n : ℤ) → z ≡ n -ℤ m → pos 0 ≤ℤ z → m ≤ℤ n
    from_rest z m n e h = omega (arith, ints)

    split : (k m n : ℤ) → k *ℤ (n -ℤ m) ≡ k *ℤ n -ℤ k *ℤ m
    split k m n = simp monomials (omega (arith, ints))

    times : (k m n : ℤ) → pos 0 ≤ℤ k → m ≤ℤ n → (k *ℤ m) ≤ℤ (k *ℤ n)
    times k m n hk h = from_rest _ _ _ (split k m n) (times_not_negative k (n -ℤ m) hk (rest m n h))

    cancelled : (k m n : ℤ) → pos 0 <ℤ k → (k *ℤ m) ≤ℤ (k *ℤ n) → m ≤ℤ n
    cancelled k m n hk h = from_rest (n -ℤ m) m n refl (not_negative_factor k (n -ℤ m) hk (same _ _ (sym (split k m n)) (rest _ _ h)))
      where
        same : (m n : ℤ) → m ≡ n → pos 0 ≤ℤ m → pos 0 ≤ℤ n
        same m n e h = omega (arith, ints)

    two : (a b c d e : ℤ) → a ≡ b → {f : ℤ} → b ≤ℤ f → f ≡ c → c ≤ℤ d → e ≡ d → a ≤ℤ e
    two a b c d e h {f} k l m n = omega (arith, ints, h, k, l, m, n)
