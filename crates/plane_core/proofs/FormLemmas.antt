-- Linear forms in the triple of a point: the side of an edge and the distances from columns and rows
-- are such forms.
use Rattle.std.proofs.Common.{◌≡◌, ◌*◌, ◌+◌, ◌<◌, arith, ap, ◌∙◌}
use Rattle.std.specs.Prelude.{ℤ, ℕ, pos, ◌*ℤ◌, ◌-ℤ◌, ◌+ℤ◌, neg_ℤ, ◌≤ℤ◌, ◌<ℤ◌}
use Rattle.std.proofs.lemmas.Int.{ints, by_lt_z}
use Rattle.plane_core.specs.declared.edge.Edge.{Edge}
use Rattle.plane_core.specs.Points.{Point, mix, turn, side, run, rise}
use Rattle.plane_core.proofs.Ring.{monomials}
use Rattle.plane_core.proofs.Signs.{times_positive, times_not_negative}

pub record Form : Type 0 where
  pub a : ℤ
  pub b : ℤ
  pub c : ℤ

abbrev pub value : Form → Point → ℤ
value l p = l.a *ℤ p.x +ℤ l.b *ℤ p.y +ℤ l.c *ℤ pos p.w

pub value-mix : (l : Form) (s : ℕ) (p : Point) (t : ℕ) (q : Point) → value l (mix s p t q) ≡ pos s *ℤ value l p +ℤ pos t *ℤ value l q
value-mix l s p t q = plain l.a l.b l.c (pos s) (pos t) p.x p.y (pos p.w) q.x q.y (pos q.w) (pos (s * p.w + t * q.w)) (omega (arith, ints))
  where
    plain : (a b c s t x y w u v z m : ℤ) → m ≡ s *ℤ w +ℤ t *ℤ z → a *ℤ (s *ℤ x +ℤ t *ℤ u) +ℤ b *ℤ (s *ℤ y +ℤ t *ℤ v) +ℤ c *ℤ m
        ≡ s *ℤ (a *ℤ x +ℤ b *ℤ y +ℤ c *ℤ w) +ℤ t *ℤ (a *ℤ u +ℤ b *ℤ v +ℤ c *ℤ z)
    plain a b c s t x y w u v z m e = rw e (simp monomials (omega (arith, ints)))

pub value-mix_3 : (l : Form) (p q r : Point) (s t u : ℕ) → value l (mix 1 (mix s p t q) u r) ≡ pos 1 *ℤ (pos s *ℤ value l p +ℤ pos t *ℤ value l q) +ℤ pos u *ℤ value l r
value-mix_3 l p q r s t u = value-mix l 1 (mix s p t q) u r ∙ ap (λ (z : ℤ). pos 1 *ℤ z +ℤ pos u *ℤ value l r) (value-mix l s p t q)

-- the side of an edge
abbrev pub side_form : Edge → Form
side_form e = record { a = neg_ℤ (rise e); b = run e; c = rise e *ℤ e.a.x -ℤ run e *ℤ e.a.y }

pub side_form-is : (e : Edge) (p : Point) → value (side_form e) p ≡ side e p
side_form-is e p = plain (run e) (rise e) e.a.x e.a.y p.x p.y (pos p.w)
  where
    plain : (r d a b x y w : ℤ) → neg_ℤ d *ℤ x +ℤ r *ℤ y +ℤ (d *ℤ a -ℤ r *ℤ b) *ℤ w ≡ r *ℤ (y -ℤ w *ℤ b) -ℤ d *ℤ (x -ℤ w *ℤ a)
    plain r d a b x y w = simp monomials (omega (arith, ints))

-- how far right of x = a a point is, and how far above y = a, times w
abbrev pub right_of : ℤ → Form
right_of z = record { a = pos 1; b = pos 0; c = neg_ℤ z }

abbrev pub upward_of : ℤ → Form
upward_of z = record { a = pos 0; b = pos 1; c = neg_ℤ z }

pub right_of-is : (z : ℤ) (p : Point) → value (right_of z) p ≡ p.x -ℤ pos p.w *ℤ z
right_of-is z p = plain p.x p.y (pos p.w) z
  where
    plain : (x y w z : ℤ) → pos 1 *ℤ x +ℤ pos 0 *ℤ y +ℤ neg_ℤ z *ℤ w ≡ x -ℤ w *ℤ z
    plain x y w z = simp monomials (omega (arith, ints))

pub upward_of-is : (z : ℤ) (p : Point) → value (upward_of z) p ≡ p.y -ℤ pos p.w *ℤ z
upward_of-is z p = plain p.x p.y (pos p.w) z
  where
    plain : (x y w z : ℤ) → pos 0 *ℤ x +ℤ pos 1 *ℤ y +ℤ neg_ℤ z *ℤ w ≡ y -ℤ w *ℤ z
    plain x y w z = simp monomials (omega (arith, ints))

abbrev pub negated : Form → Form
negated l = record { a = neg_ℤ l.a; b = neg_ℤ l.b; c = neg_ℤ l.c }

pub negated-is : (l : Form) (z : Point) → value (negated l) z ≡ neg_ℤ (value l z)
negated-is l z = plain l.a l.b l.c z.x z.y (pos z.w)
  where
    plain : (a b c x y w : ℤ) → neg_ℤ a *ℤ x +ℤ neg_ℤ b *ℤ y +ℤ neg_ℤ c *ℤ w ≡ neg_ℤ (a *ℤ x +ℤ b *ℤ y +ℤ c *ℤ w)
    plain a b c x y w = simp monomials (omega (arith, ints))

-- over plain numbers: sums of multiples of positive numbers
pub scaled_not_negative : (s : ℕ) (v : ℤ) → pos 0 <ℤ v → pos s ≤ℤ (pos s *ℤ v)
scaled_not_negative s v h =
    let more : pos 0 ≤ℤ (pos s *ℤ (v -ℤ pos 1)) = times_not_negative (pos s) (v -ℤ pos 1) (omega (arith, ints)) (omega (arith, ints)) in
    let e : pos s *ℤ (v -ℤ pos 1) ≡ pos s *ℤ v -ℤ pos s = simp monomials (omega (arith, ints)) in
    plain (pos s *ℤ (v -ℤ pos 1)) (pos s *ℤ v) (pos s) more e
  where
    plain : (m n k : ℤ) → pos 0 ≤ℤ m → m ≡ n -ℤ k → k ≤ℤ n
    plain m n k h e = omega (arith, ints)

pub parts_positive : (s t u : ℕ) (a b c z : ℤ) → 0 < s + t + u → pos 0 <ℤ a → pos 0 <ℤ b → pos 0 <ℤ c → z ≡ pos 1 *ℤ (pos s *ℤ a +ℤ pos t *ℤ b) +ℤ pos u *ℤ c → pos 0 <ℤ z
parts_positive s t u a b c z some ha hb hc e =
    plain (pos s *ℤ a) (pos t *ℤ b) (pos u *ℤ c) z (scaled_not_negative s a ha) (scaled_not_negative t b hb) (scaled_not_negative u c hc) e
  where
    plain : (m n k z : ℤ) → pos s ≤ℤ m → pos t ≤ℤ n → pos u ≤ℤ k → z ≡ pos 1 *ℤ (m +ℤ n) +ℤ k → pos 0 <ℤ z
    plain m n k z hm hn hk e = let f : pos 1 *ℤ (m +ℤ n) ≡ m +ℤ n = simp monomials in omega (arith, ints)

pub parts_not_negative : (s t u : ℕ) (a b c z : ℤ) → pos 0 ≤ℤ a → pos 0 ≤ℤ b → pos 0 ≤ℤ c → z ≡ pos 1 *ℤ (pos s *ℤ a +ℤ pos t *ℤ b) +ℤ pos u *ℤ c → pos 0 ≤ℤ z
parts_not_negative s t u a b c z ha hb hc e =
    plain (pos s *ℤ a) (pos t *ℤ b) (pos u *ℤ c) z (times_not_negative (pos s) a (whole s) ha) (times_not_negative (pos t) b (whole t) hb) (times_not_negative (pos u) c (whole u) hc) e
  where
    whole : (n : ℕ) → pos 0 ≤ℤ pos n
    whole n = omega (arith, ints)

    plain : (m n k z : ℤ) → pos 0 ≤ℤ m → pos 0 ≤ℤ n → pos 0 ≤ℤ k → z ≡ pos 1 *ℤ (m +ℤ n) +ℤ k → pos 0 ≤ℤ z
    plain m n k z hm hn hk e = let f : pos 1 *ℤ (m +ℤ n) ≡ m +ℤ n = simp monomials in omega (arith, ints)

pub off_from_positive : (v : ℤ) → pos 0 <ℤ v → ¬ (v ≡ pos 0)
off_from_positive v h e = omega (arith, ints)

pub off_from_negative : (v : ℤ) → v <ℤ pos 0 → ¬ (v ≡ pos 0)
off_from_negative v h e = omega (arith, ints)

pub zero_between : (v : ℤ) → v ≤ℤ pos 0 → pos 0 ≤ℤ v → v ≡ pos 0
zero_between v h k = omega (arith, ints)

-- by the sign of a number
pub by_sign : {C : Type 0} (v : ℤ) → (pos 0 <ℤ v → C) → (v <ℤ pos 0 → C) → (v ≡ pos 0 → C) → C
by_sign v up down level = by_lt_z (pos 0) v up (λ h. by_lt_z v (pos 0) down (λ k. level (zero_between v h k)))

pub by_zero : {C : Type 0} (v : ℤ) → (¬ (v ≡ pos 0) → C) → (v ≡ pos 0 → C) → C
by_zero v f g = by_sign v (λ up. f (off_from_positive v up)) (λ down. f (off_from_negative v down)) g

-- a product of two numbers that aren't 0 isn't 0
pub no_zero_divisor : (a b : ℤ) → ¬ (a ≡ pos 0) → ¬ (b ≡ pos 0) → ¬ (a *ℤ b ≡ pos 0)
no_zero_divisor a b ha hb e = by_sign a
    (λ up. by_sign b
    (λ k. off_from_positive _ (times_positive a b up k) e)
    (λ k. off_from_positive _ (times_positive a (neg_ℤ b) up (turned b k)) (turned_zero _ _ (right a b) e))
    hb)
    (λ down. by_sign b
    (λ k. off_from_positive _ (times_positive (neg_ℤ a) b (turned a down) k) (turned_zero _ _ (left a b) e))
    (λ k. off_from_positive _ (times_positive (neg_ℤ a) (neg_ℤ b) (turned a down) (turned b k)) (both a b ∙ e))
    hb)
    ha
  where
    turned : (v : ℤ) → v <ℤ pos 0 → pos 0 <ℤ neg_ℤ v
    turned v h = omega (arith, ints)

    turned_zero : (m n : ℤ) → m ≡ neg_ℤ n → n ≡ pos 0 → m ≡ pos 0
    turned_zero m n e f = omega (arith, ints)

    right : (a b : ℤ) → a *ℤ neg_ℤ b ≡ neg_ℤ (a *ℤ b)
    right a b = simp monomials

    left : (a b : ℤ) → neg_ℤ a *ℤ b ≡ neg_ℤ (a *ℤ b)
    left a b = simp monomials

    both : (a b : ℤ) → neg_ℤ a *ℤ neg_ℤ b ≡ a *ℤ b
    both a b = simp monomials (omega (arith, ints))

-- the form of a line, and not a constant
pub data IsLine (l : Form) : Type 0 where
  Steep : ¬ (l.a ≡ pos 0) → IsLine l
  Level : ¬ (l.b ≡ pos 0) → IsLine l

-- Cramer's rule: a form is known by its values at the corners of a triangle
pub cramer_a : (l : Form) (p q r : Point) → turn p q r *ℤ l.a
    ≡ value l p *ℤ (q.y *ℤ pos r.w -ℤ pos q.w *ℤ r.y) -ℤ value l q *ℤ (p.y *ℤ pos r.w -ℤ pos p.w *ℤ r.y) +ℤ value l r *ℤ (p.y *ℤ pos q.w -ℤ pos p.w *ℤ q.y)
cramer_a l p q r = plain l.a l.b l.c p.x p.y (pos p.w) q.x q.y (pos q.w) r.x r.y (pos r.w)
  where
    plain : (k m n x y w u v z a b c : ℤ) → (x *ℤ (v *ℤ c -ℤ z *ℤ b) -ℤ y *ℤ (u *ℤ c -ℤ z *ℤ a) +ℤ w *ℤ (u *ℤ b -ℤ v *ℤ a)) *ℤ k
        ≡ (k *ℤ x +ℤ m *ℤ y +ℤ n *ℤ w) *ℤ (v *ℤ c -ℤ z *ℤ b) -ℤ (k *ℤ u +ℤ m *ℤ v +ℤ n *ℤ z) *ℤ (y *ℤ c -ℤ w *ℤ b) +ℤ (k *ℤ a +ℤ m *ℤ b +ℤ n *ℤ c) *ℤ (y *ℤ z -ℤ w *ℤ v)
    plain k m n x y w u v z a b c = simp monomials (omega (arith, ints))

pub cramer_b : (l : Form) (p q r : Point) → turn p q r *ℤ l.b
    ≡ neg_ℤ (value l p *ℤ (q.x *ℤ pos r.w -ℤ pos q.w *ℤ r.x)) +ℤ value l q *ℤ (p.x *ℤ pos r.w -ℤ pos p.w *ℤ r.x) -ℤ value l r *ℤ (p.x *ℤ pos q.w -ℤ pos p.w *ℤ q.x)
cramer_b l p q r = plain l.a l.b l.c p.x p.y (pos p.w) q.x q.y (pos q.w) r.x r.y (pos r.w)
  where
    plain : (k m n x y w u v z a b c : ℤ) → (x *ℤ (v *ℤ c -ℤ z *ℤ b) -ℤ y *ℤ (u *ℤ c -ℤ z *ℤ a) +ℤ w *ℤ (u *ℤ b -ℤ v *ℤ a)) *ℤ m
        ≡ neg_ℤ ((k *ℤ x +ℤ m *ℤ y +ℤ n *ℤ w) *ℤ (u *ℤ c -ℤ z *ℤ a)) +ℤ (k *ℤ u +ℤ m *ℤ v +ℤ n *ℤ z) *ℤ (x *ℤ c -ℤ w *ℤ a) -ℤ (k *ℤ a +ℤ m *ℤ b +ℤ n *ℤ c) *ℤ (x *ℤ z -ℤ w *ℤ u)
    plain k m n x y w u v z a b c = simp monomials (omega (arith, ints))

times_zero : (t a k m n u v w : ℤ) → t *ℤ a ≡ k *ℤ u -ℤ m *ℤ v +ℤ n *ℤ w → k ≡ pos 0 → m ≡ pos 0 → n ≡ pos 0 → t *ℤ a ≡ pos 0
times_zero t a k m n u v w e hk hm hn = e ∙ rw (hk, hm, hn) (omega (arith, ints))

times_zero_turned : (t a k m n u v w : ℤ) → t *ℤ a ≡ neg_ℤ (k *ℤ u) +ℤ m *ℤ v -ℤ n *ℤ w → k ≡ pos 0 → m ≡ pos 0 → n ≡ pos 0 → t *ℤ a ≡ pos 0
times_zero_turned t a k m n u v w e hk hm hn = e ∙ rw (hk, hm, hn) (omega (arith, ints))

-- the corners of a triangle that isn't flat aren't all on one line
pub line_not_zero : (l : Form) (p q r : Point) → IsLine l → ¬ (turn p q r ≡ pos 0) → value l p ≡ pos 0 → value l q ≡ pos 0 → value l r ≡ pos 0 → ⊥
line_not_zero l p q r (Steep h) apart hp hq hr = no_zero_divisor (turn p q r) l.a apart h (times_zero (turn p q r) l.a (value l p) (value l q) (value l r) _ _ _ (cramer_a l p q r) hp hq hr)
line_not_zero l p q r (Level h) apart hp hq hr = no_zero_divisor (turn p q r) l.b apart h (times_zero_turned (turn p q r) l.b (value l p) (value l q) (value l r) _ _ _ (cramer_b l p q r) hp hq hr)
