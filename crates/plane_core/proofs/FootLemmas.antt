-- The points straight above and below a point, and the edges between them.
use Rattle.std.proofs.Common.{◌≡◌, ◌<◌, ◌*◌, arith, ap, ◌∙◌, sym, true, false}
use Rattle.std.specs.Prelude.{ℤ, ℕ, pos, ◌*ℤ◌, ◌-ℤ◌, ◌+ℤ◌, neg_ℤ, ◌≤ℤ◌, ◌<ℤ◌, nat_abs, int_lt, int_le, Bool, ◌&&◌, ◌||◌}
use Rattle.std.proofs.lemmas.Int.{ints}
use Rattle.plane_core.specs.declared.edge.Edge.{Edge}
use Rattle.plane_core.specs.Points.{Point, side, is_on, is_below, is_at_or_below, is_from_to, run, rise}
use Rattle.plane_core.proofs.Ring.{monomials}
use Rattle.plane_core.proofs.Signs.{weak, wide_z, positive_product, times_positive, times_not_negative, positive_factor, not_negative_factor}
use Rattle.plane_core.proofs.ScaleLemmas.{int_le-scaled, int_lt-scaled}
use Rattle.plane_core.proofs.FormLemmas.{by_sign}
use Rattle.plane_core.proofs.LevelLemmas.{by_from_to, from_to_rightward, level_on_rightward, level_on_leftward}
use Rattle.plane_core.proofs.AvoidLemmas.{across}
use Rattle.plane_core.proofs.AroundLemmas.{IsSameColumn}
use Rattle.plane_core.proofs.AboveLemmas.{no_range}

-- two points have one x
abbrev pub IsStraight : Point → Point → Type 0
IsStraight p q = q.x *ℤ pos p.w ≡ p.x *ℤ pos q.w

-- how far the second point is above the first, at the scale of both
abbrev pub climb : Point → Point → ℤ
climb q p = p.y *ℤ pos q.w -ℤ q.y *ℤ pos p.w

pub straight_both : (p q r : Point) → 0 < p.w → IsStraight p q → IsStraight p r → IsStraight r q
straight_both p q r wide h k = across q.x r.x p.x (pos q.w) (pos r.w) (pos p.w) (off p.w wide) h k
  where
    off : (n : ℕ) → 0 < n → ¬ (pos n ≡ pos 0)
    off n h e = omega (arith, ints)

pub column_straight : (p q : Point) (a : ℤ) → 0 < p.w → 0 < q.w → IsStraight p q → IsSameColumn p a q
column_straight p q a wp wq h = record {
  le = le_plain (pos p.w) (pos q.w) q.x p.x h (omega (arith, ints)) (omega (arith, ints));
  lt = lt_plain (pos p.w) (pos q.w) q.x p.x h (omega (arith, ints)) (omega (arith, ints));
}
  where
    ring : (v w : ℤ) → v *ℤ (w *ℤ a) ≡ w *ℤ (v *ℤ a)
    ring v w = simp monomials

    turned : (a b c d : ℤ) → a *ℤ b ≡ c *ℤ d → b *ℤ a ≡ d *ℤ c
    turned a b c d e = omega (arith, ints)

    le_plain : (w v x z : ℤ) → x *ℤ w ≡ z *ℤ v → pos 0 <ℤ w → pos 0 <ℤ v → int_le (v *ℤ a) x ≡ int_le (w *ℤ a) z
    le_plain w v x z e hw hv =
        sym (int_le-scaled w (v *ℤ a) x hw)
        ∙ ap (λ (n : ℤ). int_le n (w *ℤ x)) (ring w v)
        ∙ ap (int_le (v *ℤ (w *ℤ a))) (turned x w z v e)
        ∙ int_le-scaled v (w *ℤ a) z hv

    lt_plain : (w v x z : ℤ) → x *ℤ w ≡ z *ℤ v → pos 0 <ℤ w → pos 0 <ℤ v → int_lt x (v *ℤ a) ≡ int_lt z (w *ℤ a)
    lt_plain w v x z e hw hv =
        sym (int_lt-scaled w x (v *ℤ a) hw)
        ∙ ap (λ (n : ℤ). int_lt (w *ℤ x) n) (ring w v)
        ∙ ap (λ (n : ℤ). int_lt n (v *ℤ (w *ℤ a))) (turned x w z v e)
        ∙ int_lt-scaled v z (w *ℤ a) hv

-- the range of an edge has both or neither
pub range_straight : (p q : Point) (a b : ℤ) → 0 < p.w → 0 < q.w → IsStraight p q → is_from_to a b q.w q.x ≡ is_from_to a b p.w p.x
range_straight p q a b wp wq h = both _ _ _ _ (column_straight p q a wp wq h).le (column_straight p q b wp wq h).lt
  where
    both : (s t s' t' : Bool) → s' ≡ s → t' ≡ t → (s' && t') ≡ (s && t)
    both s t s' t' hs ht = rw (hs, ht)

pub side_climb : (e : Edge) (p q : Point) → IsStraight p q → pos q.w *ℤ side e p ≡ pos p.w *ℤ side e q +ℤ run e *ℤ climb q p
side_climb e p q h = plain (run e) (rise e) e.a.x e.a.y p.x p.y (pos p.w) q.x q.y (pos q.w) h
  where
    plain : (r d a b x y w u v z : ℤ) → u *ℤ w ≡ x *ℤ z →
        z *ℤ (r *ℤ (y -ℤ w *ℤ b) -ℤ d *ℤ (x -ℤ w *ℤ a)) ≡ w *ℤ (r *ℤ (v -ℤ z *ℤ b) -ℤ d *ℤ (u -ℤ z *ℤ a)) +ℤ r *ℤ (y *ℤ z -ℤ v *ℤ w)
    plain r d a b x y w u v z e =
        let left : z *ℤ (r *ℤ (y -ℤ w *ℤ b) -ℤ d *ℤ (x -ℤ w *ℤ a)) ≡ z *ℤ (r *ℤ (y -ℤ w *ℤ b) +ℤ d *ℤ (w *ℤ a)) -ℤ d *ℤ (x *ℤ z) = simp monomials (omega (arith, ints)) in
        let right : w *ℤ (r *ℤ (v -ℤ z *ℤ b) -ℤ d *ℤ (u -ℤ z *ℤ a)) +ℤ r *ℤ (y *ℤ z -ℤ v *ℤ w) ≡ z *ℤ (r *ℤ (y -ℤ w *ℤ b) +ℤ d *ℤ (w *ℤ a)) -ℤ d *ℤ (u *ℤ w) = simp monomials (omega (arith, ints)) in
        left ∙ ap (λ (n : ℤ). z *ℤ (r *ℤ (y -ℤ w *ℤ b) +ℤ d *ℤ (w *ℤ a)) -ℤ d *ℤ n) (sym e) ∙ sym right

-- the same, with the edge turned round
turned_climb : (w s v t r o : ℤ) → w *ℤ s ≡ v *ℤ t +ℤ r *ℤ o → w *ℤ neg_ℤ s ≡ v *ℤ neg_ℤ t +ℤ neg_ℤ r *ℤ o
turned_climb w s v t r o e = plain (w *ℤ s) (v *ℤ t) (r *ℤ o) (w *ℤ neg_ℤ s) (v *ℤ neg_ℤ t) (neg_ℤ r *ℤ o) (simp monomials) (simp monomials) (simp monomials) e
  where
    plain : (m n k m' n' k' : ℤ) → m' ≡ neg_ℤ m → n' ≡ neg_ℤ n → k' ≡ neg_ℤ k → m ≡ n +ℤ k → m' ≡ n' +ℤ k'
    plain m n k m' n' k' hm hn hk e = omega (arith, ints)

sum_not_negative : (m n k : ℤ) → m ≡ n +ℤ k → pos 0 ≤ℤ n → pos 0 ≤ℤ k → pos 0 ≤ℤ m
sum_not_negative m n k e h l = omega (arith, ints)

sum_positive : (m n k : ℤ) → m ≡ n +ℤ k → pos 0 ≤ℤ n → pos 0 <ℤ k → pos 0 <ℤ m
sum_positive m n k e h l = omega (arith, ints)

rest_positive : (m n k : ℤ) → m ≡ n +ℤ k → n ≡ pos 0 → pos 0 <ℤ m → pos 0 <ℤ k
rest_positive m n k e h l = omega (arith, ints)

rest_outweighs : (m n k : ℤ) → m ≡ n +ℤ k → m ≡ pos 0 → pos 0 <ℤ neg_ℤ n → pos 0 <ℤ k
rest_outweighs m n k e h l = omega (arith, ints)

times_level : (v t : ℤ) → t ≡ pos 0 → v *ℤ t ≡ pos 0
times_level v t h = rw h (omega (arith, ints))

-- over plain numbers: w s = v t + r o with positive w, v and r
not_lower : (w s v t r o : ℤ) → pos 0 <ℤ w → pos 0 <ℤ v → pos 0 <ℤ r → w *ℤ s ≡ v *ℤ t +ℤ r *ℤ o → pos 0 ≤ℤ t → pos 0 ≤ℤ o → pos 0 ≤ℤ s
not_lower w s v t r o hw hv hr e ht ho = not_negative_factor w s hw (sum_not_negative _ _ _ e (times_not_negative v t (weak _ _ hv) ht) (times_not_negative r o (weak _ _ hr) ho))

higher : (w s v t r o : ℤ) → pos 0 <ℤ w → pos 0 <ℤ v → pos 0 <ℤ r → w *ℤ s ≡ v *ℤ t +ℤ r *ℤ o → pos 0 ≤ℤ t → pos 0 <ℤ o → pos 0 <ℤ s
higher w s v t r o hw hv hr e ht ho = positive_factor w s hw (sum_positive _ _ _ e (times_not_negative v t (weak _ _ hv) ht) (times_positive r o hr ho))

climbs : (w s v t r o : ℤ) → pos 0 <ℤ w → pos 0 <ℤ r → w *ℤ s ≡ v *ℤ t +ℤ r *ℤ o → t ≡ pos 0 → pos 0 <ℤ s → pos 0 <ℤ o
climbs w s v t r o hw hr e ht hs = positive_factor r o hr (rest_positive _ _ _ e (times_level v t ht) (times_positive w s hw hs))

climbs_from : (w s v t r o : ℤ) → pos 0 <ℤ v → pos 0 <ℤ r → w *ℤ s ≡ v *ℤ t +ℤ r *ℤ o → s ≡ pos 0 → t <ℤ pos 0 → pos 0 <ℤ o
climbs_from w s v t r o hv hr e hs ht = positive_factor r o hr (rest_outweighs _ _ _ e (times_level w s hs) (turn (v *ℤ t) (v *ℤ neg_ℤ t) (simp monomials) (times_positive v (neg_ℤ t) hv (negative t ht))))
  where
    turn : (m n : ℤ) → n ≡ neg_ℤ m → pos 0 <ℤ n → pos 0 <ℤ neg_ℤ m
    turn m n e h = omega (arith, ints)

    negative : (t : ℤ) → t <ℤ pos 0 → pos 0 <ℤ neg_ℤ t
    negative t h = omega (arith, ints)

negative_up : (s : ℤ) → s <ℤ pos 0 → pos 0 <ℤ neg_ℤ s
negative_up s h = omega (arith, ints)

not_positive_up : (s : ℤ) → s ≤ℤ pos 0 → pos 0 ≤ℤ neg_ℤ s
not_positive_up s h = omega (arith, ints)

up_negative : (s : ℤ) → pos 0 <ℤ neg_ℤ s → s <ℤ pos 0
up_negative s h = omega (arith, ints)

up_not_positive : (s : ℤ) → pos 0 ≤ℤ neg_ℤ s → s ≤ℤ pos 0
up_not_positive s h = omega (arith, ints)

level_up : (s : ℤ) → s ≡ pos 0 → neg_ℤ s ≡ pos 0
level_up s h = omega (arith, ints)

positive_down : (s : ℤ) → pos 0 <ℤ s → neg_ℤ s <ℤ pos 0
positive_down s h = omega (arith, ints)

-- tests over plain numbers
strict_first : (u t : Bool) (s : ℤ) → (u && int_lt (pos 0) s || t && int_lt s (pos 0)) ≡ true → t ≡ false → pos 0 <ℤ s
strict_first u t s h k = grind (arith, ints)

strict_second : (u t : Bool) (s : ℤ) → (u && int_lt (pos 0) s || t && int_lt s (pos 0)) ≡ true → u ≡ false → s <ℤ pos 0
strict_second u t s h k = grind (arith, ints)

weak_first : (u t : Bool) (s : ℤ) → (u && int_le (pos 0) s || t && int_le s (pos 0)) ≡ true → t ≡ false → pos 0 ≤ℤ s
weak_first u t s h k = grind (arith, ints)

weak_second : (u t : Bool) (s : ℤ) → (u && int_le (pos 0) s || t && int_le s (pos 0)) ≡ true → u ≡ false → s ≤ℤ pos 0
weak_second u t s h k = grind (arith, ints)

second_range : (u s t v : Bool) → (u && s || t && v) ≡ true → u ≡ false → t ≡ true
second_range u s t v h k = grind (arith, ints)

make_strict_first : (u t : Bool) (s : ℤ) → u ≡ true → pos 0 <ℤ s → (u && int_lt (pos 0) s || t && int_lt s (pos 0)) ≡ true
make_strict_first u t s h k = grind (arith, ints)

make_strict_second : (u t : Bool) (s : ℤ) → t ≡ true → s <ℤ pos 0 → (u && int_lt (pos 0) s || t && int_lt s (pos 0)) ≡ true
make_strict_second u t s h k = grind (arith, ints)

make_weak_first : (u t : Bool) (s : ℤ) → u ≡ true → pos 0 ≤ℤ s → (u && int_le (pos 0) s || t && int_le s (pos 0)) ≡ true
make_weak_first u t s h k = grind (arith, ints)

make_weak_second : (u t : Bool) (s : ℤ) → t ≡ true → s ≤ℤ pos 0 → (u && int_le (pos 0) s || t && int_le s (pos 0)) ≡ true
make_weak_second u t s h k = grind (arith, ints)

not_weak_first : (u t : Bool) (s : ℤ) → u ≡ true → (u && int_le (pos 0) s || t && int_le s (pos 0)) ≡ false → s <ℤ pos 0
not_weak_first u t s h k = grind (arith, ints)

not_weak_second : (u t : Bool) (s : ℤ) → t ≡ true → (u && int_le (pos 0) s || t && int_le s (pos 0)) ≡ false → pos 0 <ℤ s
not_weak_second u t s h k = grind (arith, ints)

-- the range of an edge that runs right, or left
abbrev pub in_first : Edge → Point → Bool
in_first e p = is_from_to e.a.x e.b.x p.w p.x

abbrev pub in_second : Edge → Point → Bool
in_second e p = is_from_to e.b.x e.a.x p.w p.x

run_right : (e : Edge) → e.a.x <ℤ e.b.x → pos 0 <ℤ run e
run_right e h = omega (arith, ints)

run_left : (e : Edge) → e.b.x <ℤ e.a.x → pos 0 <ℤ neg_ℤ (run e)
run_left e h = omega (arith, ints)

clash : (b : Bool) → b ≡ true → b ≡ false → ⊥
clash b h k = grind (arith, ints)

-- which way an edge runs that has the column of a point
by_range : {C : Type 0} (e : Edge) (p : Point) → 0 < p.w → (in_first e p ≡ true → in_second e p ≡ false → e.a.x <ℤ e.b.x → C) → (in_first e p ≡ false → C) → C
by_range e p wide yes_ no_ =
    by_from_to (pos p.w *ℤ e.a.x) (pos p.w *ℤ e.b.x) p.x
    (λ h k test. let right = from_to_rightward (pos p.w) e.a.x e.b.x p.x (wide_z p.w wide) h k in
    yes_ test (no_range e.b.x e.a.x p wide (weak _ _ right)) right)
    no_

second_leftward : (e : Edge) (p : Point) → 0 < p.w → in_second e p ≡ true → e.b.x <ℤ e.a.x
second_leftward e p wide h =
    by_from_to (pos p.w *ℤ e.b.x) (pos p.w *ℤ e.a.x) p.x
    (λ k l test. from_to_rightward (pos p.w) e.b.x e.a.x p.x (wide_z p.w wide) k l)
    (λ test. absurd (clash (in_second e p) h test))

pub by_below : {C : Type 0} (e : Edge) (p : Point) → 0 < p.w → is_below e p ≡ true
    → (in_first e p ≡ true → e.a.x <ℤ e.b.x → pos 0 <ℤ side e p → C) → (in_second e p ≡ true → e.b.x <ℤ e.a.x → side e p <ℤ pos 0 → C) → C
by_below e p wide test right left =
    by_range e p wide
    (λ first second run. right first run (strict_first (in_first e p) (in_second e p) (side e p) test second))
    (λ first. let second = second_range (in_first e p) (int_lt (pos 0) (side e p)) (in_second e p) (int_lt (side e p) (pos 0)) test first in
    left second (second_leftward e p wide second) (strict_second (in_first e p) (in_second e p) (side e p) test first))

pub by_at_or_below : {C : Type 0} (e : Edge) (p : Point) → 0 < p.w → is_at_or_below e p ≡ true
    → (in_first e p ≡ true → e.a.x <ℤ e.b.x → pos 0 ≤ℤ side e p → C) → (in_second e p ≡ true → e.b.x <ℤ e.a.x → side e p ≤ℤ pos 0 → C) → C
by_at_or_below e p wide test right left =
    by_range e p wide
    (λ first second run. right first run (weak_first (in_first e p) (in_second e p) (side e p) test second))
    (λ first. let second = second_range (in_first e p) (int_le (pos 0) (side e p)) (in_second e p) (int_le (side e p) (pos 0)) test first in
    left second (second_leftward e p wide second) (weak_second (in_first e p) (in_second e p) (side e p) test first))

-- an edge at or below a point is so for each point that isn't lower, and below each higher one
pub at_or_below_up : (e : Edge) (p q : Point) → 0 < p.w → 0 < q.w → IsStraight p q → is_at_or_below e q ≡ true → pos 0 ≤ℤ climb q p → is_at_or_below e p ≡ true
at_or_below_up e p q wp wq straight test up =
    by_at_or_below e q wq test
    (λ range right s. make_weak_first (in_first e p) (in_second e p) (side e p) (sym (range_straight p q e.a.x e.b.x wp wq straight) ∙ range)
    (not_lower (pos q.w) (side e p) (pos p.w) (side e q) (run e) (climb q p) (wide_z q.w wq) (wide_z p.w wp) (run_right e right) (side_climb e p q straight) s up))
    (λ range left s. make_weak_second (in_first e p) (in_second e p) (side e p) (sym (range_straight p q e.b.x e.a.x wp wq straight) ∙ range)
    (up_not_positive (side e p) (not_lower (pos q.w) (neg_ℤ (side e p)) (pos p.w) (neg_ℤ (side e q)) (neg_ℤ (run e)) (climb q p) (wide_z q.w wq) (wide_z p.w wp) (run_left e left)
    (turned_climb (pos q.w) (side e p) (pos p.w) (side e q) (run e) (climb q p) (side_climb e p q straight)) (not_positive_up (side e q) s) up)))

pub below_up : (e : Edge) (p q : Point) → 0 < p.w → 0 < q.w → IsStraight p q → is_at_or_below e q ≡ true → pos 0 <ℤ climb q p → is_below e p ≡ true
below_up e p q wp wq straight test up =
    by_at_or_below e q wq test
    (λ range right s. make_strict_first (in_first e p) (in_second e p) (side e p) (sym (range_straight p q e.a.x e.b.x wp wq straight) ∙ range)
    (higher (pos q.w) (side e p) (pos p.w) (side e q) (run e) (climb q p) (wide_z q.w wq) (wide_z p.w wp) (run_right e right) (side_climb e p q straight) s up))
    (λ range left s. make_strict_second (in_first e p) (in_second e p) (side e p) (sym (range_straight p q e.b.x e.a.x wp wq straight) ∙ range)
    (up_negative (side e p) (higher (pos q.w) (neg_ℤ (side e p)) (pos p.w) (neg_ℤ (side e q)) (neg_ℤ (run e)) (climb q p) (wide_z q.w wq) (wide_z p.w wp) (run_left e left)
    (turned_climb (pos q.w) (side e p) (pos p.w) (side e q) (run e) (climb q p) (side_climb e p q straight)) (not_positive_up (side e q) s) up)))

-- the point of an edge's line straight above or below a point
pub record IsFoot (e : Edge) (p q : Point) : Type 0 where
  pub wide : 0 < q.w
  pub straight : IsStraight p q
  pub level : side e q ≡ pos 0

-- a point is above the foot on an edge that is below it
pub foot_lower : (e : Edge) (p q : Point) → 0 < p.w → IsFoot e p q → is_below e p ≡ true → pos 0 <ℤ climb q p
foot_lower e p q wp foot test =
    by_below e p wp test
    (λ range right s. climbs (pos q.w) (side e p) (pos p.w) (side e q) (run e) (climb q p) (wide_z q.w foot.wide) (run_right e right) (side_climb e p q foot.straight) foot.level s)
    (λ range left s. climbs (pos q.w) (neg_ℤ (side e p)) (pos p.w) (neg_ℤ (side e q)) (neg_ℤ (run e)) (climb q p) (wide_z q.w foot.wide) (run_left e left)
    (turned_climb (pos q.w) (side e p) (pos p.w) (side e q) (run e) (climb q p) (side_climb e p q foot.straight)) (level_up (side e q) foot.level) (negative_up (side e p) s))

-- and the foot is above each point that the edge isn't at or below
pub foot_higher : (e : Edge) (p q r : Point) → 0 < p.w → 0 < q.w → IsStraight p q → IsFoot e p r → is_below e p ≡ true → is_at_or_below e q ≡ false → pos 0 <ℤ climb q r
foot_higher e p q r wp wq straight foot test not =
    let apart = straight_both p q r wp straight foot.straight in
    by_below e p wp test
    (λ range right s. climbs_from (pos q.w) (side e r) (pos r.w) (side e q) (run e) (climb q r) (wide_z r.w foot.wide) (run_right e right) (side_climb e r q apart) foot.level
    (not_weak_first (in_first e q) (in_second e q) (side e q) (range_straight p q e.a.x e.b.x wp wq straight ∙ range) not))
    (λ range left s. climbs_from (pos q.w) (neg_ℤ (side e r)) (pos r.w) (neg_ℤ (side e q)) (neg_ℤ (run e)) (climb q r) (wide_z r.w foot.wide) (run_left e left)
    (turned_climb (pos q.w) (side e r) (pos r.w) (side e q) (run e) (climb q r) (side_climb e r q apart)) (level_up (side e r) foot.level)
    (positive_down (side e q) (not_weak_second (in_first e q) (in_second e q) (side e q) (range_straight p q e.b.x e.a.x wp wq straight ∙ range) not)))

level_not_negative : (s : ℤ) → s ≡ pos 0 → pos 0 ≤ℤ s
level_not_negative s h = omega (arith, ints)

level_not_positive : (s : ℤ) → s ≡ pos 0 → s ≤ℤ pos 0
level_not_positive s h = omega (arith, ints)

-- an edge below a point is at its own foot, and has it
pub foot_at : (e : Edge) (p q : Point) → 0 < p.w → IsFoot e p q → is_below e p ≡ true → is_at_or_below e q ≡ true
foot_at e p q wp foot test =
    by_below e p wp test
    (λ range right s. make_weak_first (in_first e q) (in_second e q) (side e q) (range_straight p q e.a.x e.b.x wp foot.wide foot.straight ∙ range) (level_not_negative (side e q) foot.level))
    (λ range left s. make_weak_second (in_first e q) (in_second e q) (side e q) (range_straight p q e.b.x e.a.x wp foot.wide foot.straight ∙ range) (level_not_positive (side e q) foot.level))

pub foot_on : (e : Edge) (p q : Point) → 0 < p.w → IsFoot e p q → is_below e p ≡ true → is_on e q ≡ true
foot_on e p q wp foot test =
    by_below e p wp test
    (λ range right s. by_from_to (pos q.w *ℤ e.a.x) (pos q.w *ℤ e.b.x) q.x
    (λ h k yes. level_on_rightward e q h (weak _ _ k) right foot.level)
    (λ no. absurd (clash (in_first e q) (range_straight p q e.a.x e.b.x wp foot.wide foot.straight ∙ range) no)))
    (λ range left s. by_from_to (pos q.w *ℤ e.b.x) (pos q.w *ℤ e.a.x) q.x
    (λ h k yes. level_on_leftward e q h (weak _ _ k) left foot.level)
    (λ no. absurd (clash (in_second e q) (range_straight p q e.b.x e.a.x wp foot.wide foot.straight ∙ range) no)))

pub below_slanted : (e : Edge) (p : Point) → 0 < p.w → is_below e p ≡ true → ¬ (run e ≡ pos 0)
below_slanted e p wp test level =
    by_below e p wp test (λ range right s. up (run e) level (run_right e right)) (λ range left s. down (run e) level (run_left e left))
  where
    up : (r : ℤ) → r ≡ pos 0 → pos 0 <ℤ r → ⊥
    up r e h = omega (arith, ints)

    down : (r : ℤ) → r ≡ pos 0 → pos 0 <ℤ neg_ℤ r → ⊥
    down r e h = omega (arith, ints)

-- each edge that isn't vertical has a foot
foot_x : (x r w m : ℤ) → m ≡ w *ℤ r → (x *ℤ r) *ℤ w ≡ x *ℤ m
foot_x x r w m h = rw h (simp monomials (omega (arith, ints)))

foot_level : (r d a b x w m : ℤ) → m ≡ w *ℤ r → r *ℤ ((d *ℤ (x -ℤ w *ℤ a) +ℤ r *ℤ (w *ℤ b)) -ℤ m *ℤ b) -ℤ d *ℤ (x *ℤ r -ℤ m *ℤ a) ≡ pos 0
foot_level r d a b x w m h = rw h (simp monomials (omega (arith, ints)))

foot_level_turned : (r d a b x w m : ℤ) → m ≡ w *ℤ neg_ℤ r → r *ℤ (neg_ℤ (d *ℤ (x -ℤ w *ℤ a) +ℤ r *ℤ (w *ℤ b)) -ℤ m *ℤ b) -ℤ d *ℤ (x *ℤ neg_ℤ r -ℤ m *ℤ a) ≡ pos 0
foot_level_turned r d a b x w m h = rw h (simp monomials (omega (arith, ints)))

pub foot : (e : Edge) (p : Point) → 0 < p.w → ¬ (run e ≡ pos 0) → (q : Point) × IsFoot e p q
foot e p wide slanted = by_sign (run e)
    (λ right. (
      record { x = p.x *ℤ run e; y = rise e *ℤ (p.x -ℤ pos p.w *ℤ e.a.x) +ℤ run e *ℤ (pos p.w *ℤ e.a.y); w = p.w * nat_abs (run e) },
      record {
        wide = wide_over right;
        straight = foot_x p.x (run e) (pos p.w) _ (weight (run e) right);
        level = foot_level (run e) (rise e) e.a.x e.a.y p.x (pos p.w) _ (weight (run e) right);
      },
    ))
    (λ left. (
      record { x = p.x *ℤ neg_ℤ (run e); y = neg_ℤ (rise e *ℤ (p.x -ℤ pos p.w *ℤ e.a.x) +ℤ run e *ℤ (pos p.w *ℤ e.a.y)); w = p.w * nat_abs (run e) },
      record {
        wide = wide_over_left left;
        straight = foot_x p.x (neg_ℤ (run e)) (pos p.w) _ (weight_left (run e) left);
        level = foot_level_turned (run e) (rise e) e.a.x e.a.y p.x (pos p.w) _ (weight_left (run e) left);
      },
    ))
    (λ vertical. absurd (slanted vertical))
  where
    abs_positive : (r : ℤ) → pos 0 <ℤ r → 0 < nat_abs r
    abs_positive r h = omega (arith, ints)

    abs_negative : (r : ℤ) → r <ℤ pos 0 → 0 < nat_abs r
    abs_negative r h = omega (arith, ints)

    wide_over : pos 0 <ℤ run e → 0 < p.w * nat_abs (run e)
    wide_over h = positive_product p.w (nat_abs (run e)) wide (abs_positive (run e) h)

    wide_over_left : run e <ℤ pos 0 → 0 < p.w * nat_abs (run e)
    wide_over_left h = positive_product p.w (nat_abs (run e)) wide (abs_negative (run e) h)

    split : (m n : ℕ) → pos (m * n) ≡ pos m *ℤ pos n
    split m n = omega (arith, ints)

    held : (r : ℤ) → pos 0 <ℤ r → pos (nat_abs r) ≡ r
    held r h = omega (arith, ints)

    held_left : (r : ℤ) → r <ℤ pos 0 → pos (nat_abs r) ≡ neg_ℤ r
    held_left r h = omega (arith, ints)

    weight : (r : ℤ) → pos 0 <ℤ r → pos (p.w * nat_abs r) ≡ pos p.w *ℤ r
    weight r h = split p.w (nat_abs r) ∙ ap (λ (n : ℤ). pos p.w *ℤ n) (held r h)

    weight_left : (r : ℤ) → r <ℤ pos 0 → pos (p.w * nat_abs r) ≡ pos p.w *ℤ neg_ℤ r
    weight_left r h = split p.w (nat_abs r) ∙ ap (λ (n : ℤ). pos p.w *ℤ n) (held_left r h)
