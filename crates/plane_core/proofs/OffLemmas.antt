-- An edge that doesn't have a point, or a vertex that isn't it, is so by forms that are positive there.
use Rattle.std.proofs.Common.{◌≡◌, arith, true, false}
use Rattle.std.specs.Prelude.{ℤ, pos, ◌*ℤ◌, ◌-ℤ◌, neg_ℤ, ◌≤ℤ◌, ◌<ℤ◌, int_le, Bool, ◌&&◌, ◌||◌}
use Rattle.std.specs.Ordering.{int_eq}
use Rattle.std.proofs.lemmas.Int.{ints, by_lt_z}
use Rattle.plane_core.specs.declared.vertex.Vertex.{Vertex}
use Rattle.plane_core.specs.declared.edge.Edge.{Edge}
use Rattle.plane_core.specs.Points.{Point, side, is_on, is_at, is_between}
use Rattle.plane_core.proofs.Signs.{weak}
use Rattle.plane_core.proofs.FormLemmas.{off_from_positive, off_from_negative, Form, value, side_form, side_form-is, right_of, right_of-is, upward_of, upward_of-is, negated, negated-is, by_sign}

-- two forms that are positive at a point; wherever both are positive, the claim holds
pub record Near (Q : Point → Type 0) (z : Point) : Type 0 where
  pub first : Form
  pub second : Form
  pub first_up : pos 0 <ℤ value first z
  pub second_up : pos 0 <ℤ value second z
  pub so : (q : Point) → pos 0 <ℤ value first q → pos 0 <ℤ value second q → Q q

near_by_one : (Q : Point → Type 0) (z : Point) (l : Form) → pos 0 <ℤ value l z → ((q : Point) → pos 0 <ℤ value l q → Q q) → Near Q z
near_by_one Q z l up f = record { first = l; second = l; first_up = up; second_up = up; so = λ q h k. f q h }

-- tests over plain numbers
off_side : (s : ℤ) (t u : Bool) → ¬ (s ≡ pos 0) → (int_eq s (pos 0) && t && u) ≡ false
off_side s t u h = grind (arith, ints)

pub low_test : (a b z : ℤ) → z <ℤ a → z <ℤ b → (int_le a z && int_le z b || int_le b z && int_le z a) ≡ false
low_test a b z h k = grind (arith, ints)

pub high_test : (a b z : ℤ) → a <ℤ z → b <ℤ z → (int_le a z && int_le z b || int_le b z && int_le z a) ≡ false
high_test a b z h k = grind (arith, ints)

off_first : (r t u : Bool) → t ≡ false → (r && t && u) ≡ false
off_first r t u h = grind (arith, ints)

off_second : (r t u : Bool) → u ≡ false → (r && t && u) ≡ false
off_second r t u h = grind (arith, ints)

up_test : (a b z : ℤ) → a ≤ℤ z → z ≤ℤ b → (int_le a z && int_le z b || int_le b z && int_le z a) ≡ true
up_test a b z h k = grind (arith, ints)

down_test : (a b z : ℤ) → b ≤ℤ z → z ≤ℤ a → (int_le a z && int_le z b || int_le b z && int_le z a) ≡ true
down_test a b z h k = grind (arith, ints)

on_test : (s : ℤ) (t u : Bool) → s ≡ pos 0 → t ≡ true → u ≡ true → (int_eq s (pos 0) && t && u) ≡ true
on_test s t u h k l = grind (arith, ints)

both_ways : {C : Type 0} (b : Bool) → b ≡ false → b ≡ true → C
both_ways b h k = absurd (clash b h k)
  where
    clash : (b : Bool) → b ≡ false → b ≡ true → ⊥
    clash b h k = grind (arith, ints)

-- outside two numbers, or within them
by_between : {C : Type 0} (a b z : ℤ) → (z <ℤ a → z <ℤ b → C) → (a <ℤ z → b <ℤ z → C)
    → ((int_le a z && int_le z b || int_le b z && int_le z a) ≡ true → C) → C
by_between a b z low high within =
    by_lt_z z a
    (λ h. by_lt_z z b (λ k. low h k) (λ k. within (down_test a b z k (weak _ _ h))))
    (λ h. by_lt_z b z (λ k. by_lt_z a z (λ l. high l k) (λ l. within (down_test a b z (weak _ _ k) l))) (λ k. within (up_test a b z h k)))

less_from : (v m n : ℤ) → v ≡ n -ℤ m → pos 0 <ℤ v → m <ℤ n
less_from v m n e h = omega (arith, ints)

more_from : (v u m n : ℤ) → v ≡ neg_ℤ u → u ≡ m -ℤ n → pos 0 <ℤ v → m <ℤ n
more_from v u m n e f h = omega (arith, ints)

positive_from : (v m n : ℤ) → v ≡ n -ℤ m → m <ℤ n → pos 0 <ℤ v
positive_from v m n e h = omega (arith, ints)

positive_turned : (v u m n : ℤ) → v ≡ neg_ℤ u → u ≡ m -ℤ n → m <ℤ n → pos 0 <ℤ v
positive_turned v u m n e f h = omega (arith, ints)

-- right of a column, and left of it
pub right_up : (a : ℤ) (p : Point) → (pos p.w *ℤ a) <ℤ p.x → pos 0 <ℤ value (right_of a) p
right_up a p h = positive_from _ (pos p.w *ℤ a) p.x (right_of-is a p) h

pub right_so : (a : ℤ) (p : Point) → pos 0 <ℤ value (right_of a) p → (pos p.w *ℤ a) <ℤ p.x
right_so a p h = less_from _ (pos p.w *ℤ a) p.x (right_of-is a p) h

pub left_up : (a : ℤ) (p : Point) → p.x <ℤ (pos p.w *ℤ a) → pos 0 <ℤ value (negated (right_of a)) p
left_up a p h = positive_turned _ _ p.x (pos p.w *ℤ a) (negated-is (right_of a) p) (right_of-is a p) h

pub left_so : (a : ℤ) (p : Point) → pos 0 <ℤ value (negated (right_of a)) p → p.x <ℤ (pos p.w *ℤ a)
left_so a p h = more_from _ _ p.x (pos p.w *ℤ a) (negated-is (right_of a) p) (right_of-is a p) h

-- above a row, and below it
pub upper_up : (a : ℤ) (p : Point) → (pos p.w *ℤ a) <ℤ p.y → pos 0 <ℤ value (upward_of a) p
upper_up a p h = positive_from _ (pos p.w *ℤ a) p.y (upward_of-is a p) h

pub upper_so : (a : ℤ) (p : Point) → pos 0 <ℤ value (upward_of a) p → (pos p.w *ℤ a) <ℤ p.y
upper_so a p h = less_from _ (pos p.w *ℤ a) p.y (upward_of-is a p) h

pub lower_up : (a : ℤ) (p : Point) → p.y <ℤ (pos p.w *ℤ a) → pos 0 <ℤ value (negated (upward_of a)) p
lower_up a p h = positive_turned _ _ p.y (pos p.w *ℤ a) (negated-is (upward_of a) p) (upward_of-is a p) h

pub lower_so : (a : ℤ) (p : Point) → pos 0 <ℤ value (negated (upward_of a)) p → p.y <ℤ (pos p.w *ℤ a)
lower_so a p h = more_from _ _ p.y (pos p.w *ℤ a) (negated-is (upward_of a) p) (upward_of-is a p) h

-- above the line of an edge that runs right, and below it
pub side_up : (e : Edge) (p : Point) → pos 0 <ℤ side e p → pos 0 <ℤ value (side_form e) p
side_up e p h = rw (side_form-is e p) h

pub side_so : (e : Edge) (p : Point) → pos 0 <ℤ value (side_form e) p → pos 0 <ℤ side e p
side_so e p h = rw (side_form-is e p) at h

pub side_down : (e : Edge) (p : Point) → side e p <ℤ pos 0 → pos 0 <ℤ value (negated (side_form e)) p
side_down e p h = plain _ _ _ (negated-is (side_form e) p) (side_form-is e p) h
  where
    plain : (v u s : ℤ) → v ≡ neg_ℤ u → u ≡ s → s <ℤ pos 0 → pos 0 <ℤ v
    plain v u s e f h = omega (arith, ints)

pub side_down_so : (e : Edge) (p : Point) → pos 0 <ℤ value (negated (side_form e)) p → side e p <ℤ pos 0
side_down_so e p h = plain _ _ _ (negated-is (side_form e) p) (side_form-is e p) h
  where
    plain : (v u s : ℤ) → v ≡ neg_ℤ u → u ≡ s → pos 0 <ℤ v → s <ℤ pos 0
    plain v u s e f h = omega (arith, ints)

-- a point off an edge's line isn't on it
pub side_off : (e : Edge) (p : Point) → ¬ (side e p ≡ pos 0) → is_on e p ≡ false
side_off e p h = off_side (side e p) (is_between e.a.x e.b.x p.w p.x) (is_between e.a.y e.b.y p.w p.y) h

pub columns_off : (e : Edge) (p : Point) → is_between e.a.x e.b.x p.w p.x ≡ false → is_on e p ≡ false
columns_off e p h = off_first (int_eq (side e p) (pos 0)) (is_between e.a.x e.b.x p.w p.x) (is_between e.a.y e.b.y p.w p.y) h

pub rows_off : (e : Edge) (p : Point) → is_between e.a.y e.b.y p.w p.y ≡ false → is_on e p ≡ false
rows_off e p h = off_second (int_eq (side e p) (pos 0)) (is_between e.a.x e.b.x p.w p.x) (is_between e.a.y e.b.y p.w p.y) h

abbrev pub IsOff : Edge → Point → Type 0
IsOff e q = is_on e q ≡ false

pub off_near : (e : Edge) (z : Point) → is_on e z ≡ false → Near (IsOff e) z
off_near e z off = by_sign (side e z)
    (λ up. near_by_one (IsOff e) z (side_form e) (side_up e z up) (λ q h. side_off e q (off_from_positive _ (side_so e q h))))
    (λ down. near_by_one (IsOff e) z (negated (side_form e)) (side_down e z down) (λ q h. side_off e q (off_from_negative _ (side_down_so e q h))))
    (λ level. by_between (pos z.w *ℤ e.a.x) (pos z.w *ℤ e.b.x) z.x
    (λ h k. record {
      first = negated (right_of e.a.x);
      second = negated (right_of e.b.x);
      first_up = left_up e.a.x z h;
      second_up = left_up e.b.x z k;
      so = λ q l m. columns_off e q (low_test (pos q.w *ℤ e.a.x) (pos q.w *ℤ e.b.x) q.x (left_so e.a.x q l) (left_so e.b.x q m));
    })
    (λ h k. record {
      first = right_of e.a.x;
      second = right_of e.b.x;
      first_up = right_up e.a.x z h;
      second_up = right_up e.b.x z k;
      so = λ q l m. columns_off e q (high_test (pos q.w *ℤ e.a.x) (pos q.w *ℤ e.b.x) q.x (right_so e.a.x q l) (right_so e.b.x q m));
    })
    (λ in_x. by_between (pos z.w *ℤ e.a.y) (pos z.w *ℤ e.b.y) z.y
    (λ h k. record {
      first = negated (upward_of e.a.y);
      second = negated (upward_of e.b.y);
      first_up = lower_up e.a.y z h;
      second_up = lower_up e.b.y z k;
      so = λ q l m. rows_off e q (low_test (pos q.w *ℤ e.a.y) (pos q.w *ℤ e.b.y) q.y (lower_so e.a.y q l) (lower_so e.b.y q m));
    })
    (λ h k. record {
      first = upward_of e.a.y;
      second = upward_of e.b.y;
      first_up = upper_up e.a.y z h;
      second_up = upper_up e.b.y z k;
      so = λ q l m. rows_off e q (high_test (pos q.w *ℤ e.a.y) (pos q.w *ℤ e.b.y) q.y (upper_so e.a.y q l) (upper_so e.b.y q m));
    })
    (λ in_y. both_ways (is_on e z) off (on_test (side e z) (is_between e.a.x e.b.x z.w z.x) (is_between e.a.y e.b.y z.w z.y) level in_x in_y))))

-- a vertex that isn't the point
abbrev pub IsNotAt : Vertex → Point → Type 0
IsNotAt v q = is_at v q ≡ false

not_at_x : (z a : ℤ) (t : Bool) → ¬ (z ≡ a) → (int_eq z a && t) ≡ false
not_at_x z a t h = grind (arith, ints)

not_at_y : (z a : ℤ) (t : Bool) → ¬ (z ≡ a) → (t && int_eq z a) ≡ false
not_at_y z a t h = grind (arith, ints)

pub less_off : (m n : ℤ) → m <ℤ n → ¬ (m ≡ n)
less_off m n h e = omega (arith, ints)

pub more_off : (m n : ℤ) → n <ℤ m → ¬ (m ≡ n)
more_off m n h e = omega (arith, ints)

at_test : (z a y b : ℤ) → a ≤ℤ z → z ≤ℤ a → b ≤ℤ y → y ≤ℤ b → (int_eq z a && int_eq y b) ≡ true
at_test z a y b h k l m = grind (arith, ints)

pub not_at_column : (v : Vertex) (q : Point) → ¬ (q.x ≡ pos q.w *ℤ v.x) → is_at v q ≡ false
not_at_column v q h = not_at_x q.x (pos q.w *ℤ v.x) (int_eq q.y (pos q.w *ℤ v.y)) h

pub not_at_row : (v : Vertex) (q : Point) → ¬ (q.y ≡ pos q.w *ℤ v.y) → is_at v q ≡ false
not_at_row v q h = not_at_y q.y (pos q.w *ℤ v.y) (int_eq q.x (pos q.w *ℤ v.x)) h

pub not_at_near : (v : Vertex) (z : Point) → is_at v z ≡ false → Near (IsNotAt v) z
not_at_near v z off =
    by_lt_z z.x (pos z.w *ℤ v.x)
    (λ h. near_by_one (IsNotAt v) z (negated (right_of v.x)) (left_up v.x z h) (λ q l. not_at_column v q (less_off _ _ (left_so v.x q l))))
    (λ from_left. by_lt_z (pos z.w *ℤ v.x) z.x
    (λ h. near_by_one (IsNotAt v) z (right_of v.x) (right_up v.x z h) (λ q l. not_at_column v q (more_off _ _ (right_so v.x q l))))
    (λ from_right. by_lt_z z.y (pos z.w *ℤ v.y)
    (λ h. near_by_one (IsNotAt v) z (negated (upward_of v.y)) (lower_up v.y z h) (λ q l. not_at_row v q (less_off _ _ (lower_so v.y q l))))
    (λ from_below. by_lt_z (pos z.w *ℤ v.y) z.y
    (λ h. near_by_one (IsNotAt v) z (upward_of v.y) (upper_up v.y z h) (λ q l. not_at_row v q (more_off _ _ (upper_so v.y q l))))
    (λ from_above. both_ways (is_at v z) off (at_test z.x (pos z.w *ℤ v.x) z.y (pos z.w *ℤ v.y) from_left from_right from_below from_above)))))
