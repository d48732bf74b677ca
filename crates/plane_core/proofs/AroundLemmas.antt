-- Around a point off an edge, to its right, lies a triangle whose points are off the edge as well,
-- and above the edge just if the point is.
use Rattle.std.proofs.Common.{◌≡◌, ◌<◌, ◌*◌, ◌+◌, arith, ◌∙◌, false}
use Rattle.std.specs.Prelude.{ℤ, ℕ, pos, ◌*ℤ◌, ◌-ℤ◌, ◌+ℤ◌, neg_ℤ, ◌≤ℤ◌, ◌<ℤ◌, nat_abs, int_lt, int_le, Bool, ◌&&◌, ◌||◌}
use Rattle.std.proofs.lemmas.Int.{ints, by_lt_z}
use Rattle.plane_core.specs.declared.vertex.Vertex.{Vertex}
use Rattle.plane_core.specs.declared.edge.Edge.{Edge}
use Rattle.plane_core.specs.Points.{Point, mix, turn, side, is_on, is_at, is_below}
use Rattle.plane_core.specs.PlaneMatrices.{ShareTriangle}
use Rattle.plane_core.proofs.Ring.{monomials}
use Rattle.plane_core.proofs.Signs.{weak, positive_product, times_not_negative, not_negative_factor}
use Rattle.plane_core.proofs.ScaleLemmas.{lt_agree, lt_agree_not, le_agree, le_agree_not}
use Rattle.plane_core.proofs.FormLemmas.{Form, value, value-mix_3, parts_positive, parts_not_negative, by_sign, right_of, negated, side_form}
use Rattle.plane_core.proofs.LargeLemmas.{Large, one_large, outweighs}
use Rattle.plane_core.proofs.OffLemmas.{Near, off_near, not_at_near, IsOff, IsNotAt, left_up, left_so, side_up, side_so, side_down, side_down_so}
use Rattle.plane_core.proofs.LevelLemmas.{off_level_first, off_level_second}

-- the point moved by dx / n and dy / n, if w counts as 1
abbrev pub near : ℕ → Point → ℤ → ℤ → Point
near n z dx dy = record { x = pos n *ℤ z.x +ℤ dx; y = pos n *ℤ z.y +ℤ dy; w = n * z.w }

-- a point of the triangle of the point, one to the right of it and one above it
abbrev pub trio : Point → ℕ → ℕ → ℕ → ℕ → Point
trio z n s t u = mix 1 (mix s (near n z (pos 0) (pos 0)) t (near n z (pos 1) (pos 0))) u (near n z (pos 0) (pos 1))

-- all over each small triangle at the point
abbrev pub Around : Point → (Point → Type 0) → Type 0
Around z Q = Large (λ n. (s t u : ℕ) → 0 < s + t + u → Q (trio z n s t u))

pub around_weaker : (z : Point) (P Q : Point → Type 0) → ((q : Point) → P q → Q q) → Around z P → Around z Q
around_weaker z P Q f (k, h) = (k, λ n le s t u some. f _ (h n le s t u some))

pub around_both : (z : Point) (P Q : Point → Type 0) → Around z P → Around z Q → Around z (λ q. P q × Q q)
around_both z P Q (k, f) (m, g) = (k + m, λ n le s t u some. (f n (omega arith) s t u some, g n (omega arith) s t u some))

abbrev slope : Form → ℤ → ℤ → ℤ
slope l dx dy = l.a *ℤ dx +ℤ l.b *ℤ dy

pub value-near : (l : Form) (n : ℕ) (z : Point) (dx dy : ℤ) → value l (near n z dx dy) ≡ pos n *ℤ value l z +ℤ slope l dx dy
value-near l n z dx dy = plain l.a l.b l.c (pos n) z.x z.y (pos z.w) (pos (n * z.w)) dx dy (omega (arith, ints))
  where
    plain : (a b c n x y w m d e : ℤ) → m ≡ n *ℤ w → a *ℤ (n *ℤ x +ℤ d) +ℤ b *ℤ (n *ℤ y +ℤ e) +ℤ c *ℤ m ≡ n *ℤ (a *ℤ x +ℤ b *ℤ y +ℤ c *ℤ w) +ℤ (a *ℤ d +ℤ b *ℤ e)
    plain a b c n x y w m d e h = rw h (simp monomials (omega (arith, ints)))

pub near_positive : (l : Form) (n : ℕ) (z : Point) (dx dy : ℤ) → nat_abs (slope l dx dy) < n → pos 0 <ℤ value l z → pos 0 <ℤ value l (near n z dx dy)
near_positive l n z dx dy small up = rw (value-near l n z dx dy) (outweighs (value l z) (slope l dx dy) n up small)

pub around_form : (l : Form) (z : Point) → pos 0 <ℤ value l z → Around z (λ q. pos 0 <ℤ value l q)
around_form l z up = (
  nat_abs (slope l (pos 0) (pos 0)) + (nat_abs (slope l (pos 1) (pos 0)) + nat_abs (slope l (pos 0) (pos 1))) + 1,
  λ n le s t u some. parts_positive s t u (value l (near n z (pos 0) (pos 0))) (value l (near n z (pos 1) (pos 0))) (value l (near n z (pos 0) (pos 1))) _ some
      (near_positive l n z (pos 0) (pos 0) (omega arith) up)
      (near_positive l n z (pos 1) (pos 0) (omega arith) up)
      (near_positive l n z (pos 0) (pos 1) (omega arith) up)
      (value-mix_3 l (near n z (pos 0) (pos 0)) (near n z (pos 1) (pos 0)) (near n z (pos 0) (pos 1)) s t u),
)

pub around_near : (Q : Point → Type 0) (z : Point) → Near Q z → Around z Q
around_near Q z h =
    around_weaker z (λ q. (pos 0 <ℤ value h.first q) × (pos 0 <ℤ value h.second q)) Q (λ q both. h.so q both.0 both.1)
    (around_both z (λ q. pos 0 <ℤ value h.first q) (λ q. pos 0 <ℤ value h.second q) (around_form h.first z h.first_up) (around_form h.second z h.second_up))

-- no point of the triangles is further left
abbrev IsRight : Point → Point → Type 0
IsRight z q = (z.x *ℤ pos q.w) ≤ℤ (q.x *ℤ pos z.w)

abbrev pub column : Point → Form
column z = record { a = pos z.w; b = pos 0; c = neg_ℤ z.x }

pub column-is : (z q : Point) → value (column z) q ≡ q.x *ℤ pos z.w -ℤ z.x *ℤ pos q.w
column-is z q = plain q.x q.y (pos q.w) z.x (pos z.w)
  where
    plain : (x y w u v : ℤ) → v *ℤ x +ℤ pos 0 *ℤ y +ℤ neg_ℤ u *ℤ w ≡ x *ℤ v -ℤ u *ℤ w
    plain x y w u v = simp monomials (omega (arith, ints))

around_right : (z : Point) → Around z (IsRight z)
around_right z = (
  0,
  λ n le s t u some. from_form (trio z n s t u) (parts_not_negative s t u _ _ _ _
      (corner n (pos 0) (pos 0) (omega (arith, ints))) (corner n (pos 1) (pos 0) (omega (arith, ints))) (corner n (pos 0) (pos 1) (omega (arith, ints)))
      (value-mix_3 (column z) (near n z (pos 0) (pos 0)) (near n z (pos 1) (pos 0)) (near n z (pos 0) (pos 1)) s t u)),
)
  where
    level : (x w : ℤ) → x *ℤ w -ℤ x *ℤ w ≡ pos 0
    level x w = omega (arith, ints)

    plain : (v z m s t : ℤ) (n : ℕ) → v ≡ pos n *ℤ z +ℤ (m *ℤ s +ℤ pos 0 *ℤ t) → z ≡ pos 0 → pos 0 ≤ℤ (m *ℤ s) → pos 0 ≤ℤ v
    plain v z m s t n e f h = let g : v ≡ pos n *ℤ pos 0 +ℤ (m *ℤ s +ℤ pos 0 *ℤ t) = rw f at e in omega (arith, ints)

    whole : (n : ℕ) → pos 0 ≤ℤ pos n
    whole n = omega (arith, ints)

    corner : (n : ℕ) (dx dy : ℤ) → pos 0 ≤ℤ dx → pos 0 ≤ℤ value (column z) (near n z dx dy)
    corner n dx dy h = plain (value (column z) (near n z dx dy)) (value (column z) z) (pos z.w) dx dy n (value-near (column z) n z dx dy) (column-is z z ∙ level z.x (pos z.w)) (times_not_negative (pos z.w) dx (whole z.w) h)

    from_difference : (v m n : ℤ) → v ≡ n -ℤ m → pos 0 ≤ℤ v → m ≤ℤ n
    from_difference v m n e h = omega (arith, ints)

    from_form : (q : Point) → pos 0 ≤ℤ value (column z) q → IsRight z q
    from_form q h = from_difference _ (z.x *ℤ pos q.w) (q.x *ℤ pos z.w) (column-is z q) h

-- the order of a column and the point is kept
pub record IsSameColumn (z : Point) (a : ℤ) (q : Point) : Type 0 where
  pub le : int_le (pos q.w *ℤ a) q.x ≡ int_le (pos z.w *ℤ a) z.x
  pub lt : int_lt q.x (pos q.w *ℤ a) ≡ int_lt z.x (pos z.w *ℤ a)

not_left : (a x w u v : ℤ) → pos 0 <ℤ w → pos 0 ≤ℤ v → (w *ℤ a) ≤ℤ x → (x *ℤ v) ≤ℤ (u *ℤ w) → (v *ℤ a) ≤ℤ u
not_left a x w u v hw hv h k =
    from_difference _ _ (not_negative_factor w (u -ℤ v *ℤ a) hw (sum _ _ _ _ ring (times_not_negative v (x -ℤ w *ℤ a) hv (difference _ _ h)) k))
  where
    ring : w *ℤ (u -ℤ v *ℤ a) ≡ u *ℤ w -ℤ x *ℤ v +ℤ v *ℤ (x -ℤ w *ℤ a)
    ring = simp monomials (omega (arith, ints))

    difference : (m n : ℤ) → m ≤ℤ n → pos 0 ≤ℤ (n -ℤ m)
    difference m n h = omega (arith, ints)

    from_difference : (m n : ℤ) → pos 0 ≤ℤ (n -ℤ m) → m ≤ℤ n
    from_difference m n h = omega (arith, ints)

    sum : (v m n k : ℤ) → v ≡ n -ℤ m +ℤ k → pos 0 ≤ℤ k → m ≤ℤ n → pos 0 ≤ℤ v
    sum v m n k e h l = omega (arith, ints)

pub around_column : (z : Point) (a : ℤ) → 0 < z.w → Around z (IsSameColumn z a)
around_column z a wide = by_lt_z z.x (pos z.w *ℤ a)
    (λ left. around_weaker z (λ q. pos 0 <ℤ value (negated (right_of a)) q) (IsSameColumn z a)
    (λ q up. record {
      le = le_agree_not (pos z.w *ℤ a) z.x (pos q.w *ℤ a) q.x left (left_so a q up);
      lt = lt_agree z.x (pos z.w *ℤ a) q.x (pos q.w *ℤ a) left (left_so a q up);
    })
    (around_form (negated (right_of a)) z (left_up a z left)))
    (λ right. around_weaker z (IsRight z) (IsSameColumn z a)
    (λ q further. let right_q = not_left a z.x (pos z.w) q.x (pos q.w) (omega (arith, ints)) (omega (arith, ints)) right further in
    record {
      le = le_agree (pos z.w *ℤ a) z.x (pos q.w *ℤ a) q.x right right_q;
      lt = lt_agree_not z.x (pos z.w *ℤ a) q.x (pos q.w *ℤ a) right right_q;
    })
    (around_right z))

-- and of both ends of an edge
abbrev IsSameRun : Edge → Point → Point → Type 0
IsSameRun e z q = IsSameColumn z e.a.x q × IsSameColumn z e.b.x q

-- off the edge, and above it or not as the point is
pub record KeepsOff (e : Edge) (z q : Point) : Type 0 where
  pub on : is_on e q ≡ false
  pub below : is_below e q ≡ is_below e z

same_tests : (a b c d s t a' b' c' d' s' t' : Bool) → a' ≡ a → b' ≡ b → c' ≡ c → d' ≡ d → s' ≡ s → t' ≡ t
    → ((a' && b') && s' || (c' && d') && t') ≡ ((a && b) && s || (c && d) && t)
same_tests a b c d s t a' b' c' d' s' t' ha hb hc hd hs ht = rw (ha, hb, hc, hd, hs, ht)

pub below_kept : (e : Edge) (z q : Point) → IsSameColumn z e.a.x q → IsSameColumn z e.b.x q → int_lt (pos 0) (side e q) ≡ int_lt (pos 0) (side e z) → int_lt (side e q) (pos 0) ≡ int_lt (side e z) (pos 0)
    → is_below e q ≡ is_below e z
below_kept e z q first last up down = same_tests _ _ _ _ _ _ _ _ _ _ _ _ first.le last.lt last.le first.lt up down

-- if the range doesn't contain the column
none_below : (a b c d s t a' b' c' d' s' t' : Bool) → a' ≡ a → b' ≡ b → c' ≡ c → d' ≡ d → (a && b) ≡ false → (c && d) ≡ false
    → ((a' && b') && s' || (c' && d') && t') ≡ ((a && b) && s || (c && d) && t)
none_below a b c d s t a' b' c' d' s' t' ha hb hc hd h k = rw (ha, hb, hc, hd, h, k)

pub edge_around : (e : Edge) (z : Point) → 0 < z.w → is_on e z ≡ false → Around z (KeepsOff e z)
edge_around e z wide off =
    around_weaker z (λ q. IsOff e q × (is_below e q ≡ is_below e z)) (KeepsOff e z) (λ q h. record { on = h.0; below = h.1 })
    (around_both z (IsOff e) (λ q. is_below e q ≡ is_below e z) (around_near (IsOff e) z (off_near e z off))
    (by_sign (side e z)
    (λ up. around_weaker z (λ q. IsSameRun e z q × (pos 0 <ℤ value (side_form e) q)) (λ q. is_below e q ≡ is_below e z)
    (λ q h. let up_q = side_so e q h.1 in
    below_kept e z q h.0.0 h.0.1 (lt_agree (pos 0) (side e z) (pos 0) (side e q) up up_q) (lt_agree_not (side e z) (pos 0) (side e q) (pos 0) (weak _ _ up) (weak _ _ up_q)))
    (around_both z (IsSameRun e z) (λ q. pos 0 <ℤ value (side_form e) q) columns (around_form (side_form e) z (side_up e z up))))
    (λ down. around_weaker z (λ q. IsSameRun e z q × (pos 0 <ℤ value (negated (side_form e)) q)) (λ q. is_below e q ≡ is_below e z)
    (λ q h. let down_q = side_down_so e q h.1 in
    below_kept e z q h.0.0 h.0.1 (lt_agree_not (pos 0) (side e z) (pos 0) (side e q) (weak _ _ down) (weak _ _ down_q)) (lt_agree (side e z) (pos 0) (side e q) (pos 0) down down_q))
    (around_both z (IsSameRun e z) (λ q. pos 0 <ℤ value (negated (side_form e)) q) columns (around_form (negated (side_form e)) z (side_down e z down))))
    (λ level. around_weaker z (IsSameRun e z) (λ q. is_below e q ≡ is_below e z)
    (λ q h. none_below _ _ _ _ _ _ _ _ _ _ _ _ h.0.le h.1.lt h.1.le h.0.lt (off_level_first e z wide off level) (off_level_second e z wide off level))
    columns)))
  where
    columns : Around z (IsSameRun e z)
    columns = around_both z (IsSameColumn z e.a.x) (IsSameColumn z e.b.x) (around_column z e.a.x wide) (around_column z e.b.x wide)

pub vertex_around : (v : Vertex) (z : Point) → is_at v z ≡ false → Around z (IsNotAt v)
vertex_around v z off = around_near (IsNotAt v) z (not_at_near v z off)

turn_trio : (n : ℕ) (z : Point) → turn (near n z (pos 0) (pos 0)) (near n z (pos 1) (pos 0)) (near n z (pos 0) (pos 1)) ≡ pos (n * z.w)
turn_trio n z = plain (pos n *ℤ z.x) (pos n *ℤ z.y) (pos (n * z.w))
  where
    plain : (x y m : ℤ) →
        (x +ℤ pos 0) *ℤ ((y +ℤ pos 0) *ℤ m -ℤ m *ℤ (y +ℤ pos 1)) -ℤ (y +ℤ pos 0) *ℤ ((x +ℤ pos 1) *ℤ m -ℤ m *ℤ (x +ℤ pos 0)) +ℤ m *ℤ ((x +ℤ pos 1) *ℤ (y +ℤ pos 1) -ℤ (y +ℤ pos 0) *ℤ (x +ℤ pos 0))
        ≡ m
    plain x y m = simp monomials (omega (arith, ints))

-- so there is a triangle
pub around_triangle : (z : Point) (Q : Point → Type 0) → 0 < z.w → Around z Q → ShareTriangle Q
around_triangle z Q wide large = from_one (one_large (λ n. (s t u : ℕ) → 0 < s + t + u → Q (trio z n s t u)) large)
  where
    off : (m : ℕ) (z : ℤ) → z ≡ pos m → 0 < m → ¬ (z ≡ pos 0)
    off m z e h f = omega (arith, ints)

    from_one : (n : ℕ) × (0 < n) × ((s t u : ℕ) → 0 < s + t + u → Q (trio z n s t u)) → ShareTriangle Q
    from_one (n, some, all) =
        let wide_n = positive_product n z.w some wide in
        (near n z (pos 0) (pos 0), near n z (pos 1) (pos 0), near n z (pos 0) (pos 1), wide_n, wide_n, wide_n, off (n * z.w) _ (turn_trio n z) wide_n, all)
