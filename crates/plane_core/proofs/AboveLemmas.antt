-- Straight above a point an edge is below if and only if it is at or below the point.
use Rattle.std.proofs.Common.{◌≡◌, ◌<◌, ◌*◌, ◌+◌, arith, refl, true, false}
use Rattle.std.specs.Prelude.{ℤ, ℕ, pos, ◌*ℤ◌, ◌-ℤ◌, ◌+ℤ◌, neg_ℤ, ◌≤ℤ◌, ◌<ℤ◌, nat_abs, int_lt, int_le, Bool, ◌&&◌, ◌||◌}
use Rattle.std.specs.Ordering.{int_eq}
use Rattle.std.proofs.lemmas.Int.{ints}
use Rattle.plane_core.specs.declared.vertex.Vertex.{Vertex}
use Rattle.plane_core.specs.declared.edge.Edge.{Edge}
use Rattle.plane_core.specs.Points.{Point, side, is_on, is_at, is_below, is_at_or_below, run, rise}
use Rattle.plane_core.proofs.Ring.{monomials}
use Rattle.plane_core.proofs.ScaleLemmas.{times_end, int_le-scaled, int_lt-scaled}
use Rattle.plane_core.proofs.FormLemmas.{off_from_positive, off_from_negative, by_sign, by_zero}
use Rattle.plane_core.proofs.LargeLemmas.{Large, large_weaker, large_both, outweighs}
use Rattle.plane_core.proofs.OffLemmas.{Near, off_near, not_at_near, IsOff, IsNotAt, side_off, not_at_row}
use Rattle.plane_core.proofs.LevelLemmas.{by_from_to, from_to_rightward}
use Rattle.plane_core.proofs.AroundLemmas.{near, near_positive, IsSameColumn}

-- at each point a little higher
abbrev pub Above : Point → (Point → Type 0) → Type 0
Above z Q = Large (λ n. Q (near n z (pos 0) (pos 1)))

pub above_near : (Q : Point → Type 0) (z : Point) → Near Q z → Above z Q
above_near Q z h = (
  nat_abs (h.first.a *ℤ pos 0 +ℤ h.first.b *ℤ pos 1) + nat_abs (h.second.a *ℤ pos 0 +ℤ h.second.b *ℤ pos 1) + 1,
  λ n le. h.so (near n z (pos 0) (pos 1)) (near_positive h.first n z (pos 0) (pos 1) (omega arith) h.first_up) (near_positive h.second n z (pos 0) (pos 1) (omega arith) h.second_up),
)

-- the columns stay
pub column_above : (z : Point) (a : ℤ) (n : ℕ) → 0 < n → IsSameColumn z a (near n z (pos 0) (pos 1))
column_above z a n some = record {
  le = le_plain (pos n) (pos z.w *ℤ a) z.x _ _ (omega (arith, ints)) (times_end a (pos z.w) (pos n) (pos (n * z.w)) (omega (arith, ints))) (omega (arith, ints));
  lt = lt_plain (pos n) z.x (pos z.w *ℤ a) _ _ (omega (arith, ints)) (omega (arith, ints)) (times_end a (pos z.w) (pos n) (pos (n * z.w)) (omega (arith, ints)));
}
  where
    le_plain : (k a b a' b' : ℤ) → pos 0 <ℤ k → a' ≡ k *ℤ a → b' ≡ k *ℤ b → int_le a' b' ≡ int_le a b
    le_plain k a b a' b' hk ea eb = rw (ea, eb, int_le-scaled k a b hk)

    lt_plain : (k a b a' b' : ℤ) → pos 0 <ℤ k → a' ≡ k *ℤ a → b' ≡ k *ℤ b → int_lt a' b' ≡ int_lt a b
    lt_plain k a b a' b' hk ea eb = rw (ea, eb, int_lt-scaled k a b hk)

pub side-above : (e : Edge) (z : Point) (n : ℕ) → side e (near n z (pos 0) (pos 1)) ≡ pos n *ℤ side e z +ℤ run e
side-above e z n = plain (run e) (rise e) e.a.x e.a.y z.x z.y (pos z.w) (pos n) (pos (n * z.w)) (omega (arith, ints))
  where
    plain : (r d a b x y w n m : ℤ) → m ≡ n *ℤ w → r *ℤ ((n *ℤ y +ℤ pos 1) -ℤ m *ℤ b) -ℤ d *ℤ ((n *ℤ x +ℤ pos 0) -ℤ m *ℤ a) ≡ n *ℤ (r *ℤ (y -ℤ w *ℤ b) -ℤ d *ℤ (x -ℤ w *ℤ a)) +ℤ r
    plain r d a b x y w n m h = rw h (simp monomials (omega (arith, ints)))

-- a point just above another, to an edge
pub record IsJustOver (e : Edge) (z q : Point) : Type 0 where
  pub on : is_on e q ≡ false
  pub below : is_below e q ≡ is_at_or_below e z

-- tests over plain numbers
up_tests : (a b c d a' b' c' d' : Bool) (s s' : ℤ) → a' ≡ a → b' ≡ b → c' ≡ c → d' ≡ d → pos 0 <ℤ s → pos 0 <ℤ s'
    → ((a' && b') && int_lt (pos 0) s' || (c' && d') && int_lt s' (pos 0)) ≡ ((a && b) && int_le (pos 0) s || (c && d) && int_le s (pos 0))
up_tests a b c d a' b' c' d' s s' ha hb hc hd h k =
    let e : int_lt (pos 0) s' ≡ int_le (pos 0) s = grind (arith, ints) in
    let f : int_lt s' (pos 0) ≡ int_le s (pos 0) = grind (arith, ints) in
    rw (ha, hb, hc, hd, e, f)

down_tests : (a b c d a' b' c' d' : Bool) (s s' : ℤ) → a' ≡ a → b' ≡ b → c' ≡ c → d' ≡ d → s <ℤ pos 0 → s' <ℤ pos 0
    → ((a' && b') && int_lt (pos 0) s' || (c' && d') && int_lt s' (pos 0)) ≡ ((a && b) && int_le (pos 0) s || (c && d) && int_le s (pos 0))
down_tests a b c d a' b' c' d' s s' ha hb hc hd h k =
    let e : int_lt (pos 0) s' ≡ int_le (pos 0) s = grind (arith, ints) in
    let f : int_lt s' (pos 0) ≡ int_le s (pos 0) = grind (arith, ints) in
    rw (ha, hb, hc, hd, e, f)

level_up_tests : (a b c d a' b' c' d' : Bool) (s s' : ℤ) → a' ≡ a → b' ≡ b → c' ≡ c → d' ≡ d → s ≡ pos 0 → pos 0 <ℤ s' → (c && d) ≡ false
    → ((a' && b') && int_lt (pos 0) s' || (c' && d') && int_lt s' (pos 0)) ≡ ((a && b) && int_le (pos 0) s || (c && d) && int_le s (pos 0))
level_up_tests a b c d a' b' c' d' s s' ha hb hc hd h k none =
    let e : int_lt (pos 0) s' ≡ int_le (pos 0) s = grind (arith, ints) in
    rw (ha, hb, hc, hd, e, none)

level_down_tests : (a b c d a' b' c' d' : Bool) (s s' : ℤ) → a' ≡ a → b' ≡ b → c' ≡ c → d' ≡ d → s ≡ pos 0 → s' <ℤ pos 0 → (a && b) ≡ false
    → ((a' && b') && int_lt (pos 0) s' || (c' && d') && int_lt s' (pos 0)) ≡ ((a && b) && int_le (pos 0) s || (c && d) && int_le s (pos 0))
level_down_tests a b c d a' b' c' d' s s' ha hb hc hd h k none =
    let e : int_lt s' (pos 0) ≡ int_le s (pos 0) = grind (arith, ints) in
    rw (ha, hb, hc, hd, e, none)

none_tests : (a b c d a' b' c' d' s t s' t' : Bool) → a' ≡ a → b' ≡ b → c' ≡ c → d' ≡ d → (a && b) ≡ false → (c && d) ≡ false
    → ((a' && b') && s' || (c' && d') && t') ≡ ((a && b) && s || (c && d) && t)
none_tests a b c d a' b' c' d' s t s' t' ha hb hc hd h k = rw (ha, hb, hc, hd, h, k)

-- a range that runs left has no column
pub no_range : (a b : ℤ) (z : Point) → 0 < z.w → b ≤ℤ a → (int_le (pos z.w *ℤ a) z.x && int_lt z.x (pos z.w *ℤ b)) ≡ false
no_range a b z wide h =
    by_from_to (pos z.w *ℤ a) (pos z.w *ℤ b) z.x
    (λ k l test. absurd (clash a b h (from_to_rightward (pos z.w) a b z.x (omega (arith, ints)) k l)))
    (λ test. test)
  where
    clash : (a b : ℤ) → b ≤ℤ a → a <ℤ b → ⊥
    clash a b h k = omega (arith, ints)

over_positive : (n : ℕ) (s r v : ℤ) → v ≡ pos n *ℤ s +ℤ r → pos 0 <ℤ s → nat_abs r < n → pos 0 <ℤ v
over_positive n s r v e h k = rw e (outweighs s r n h k)

over_negative : (n : ℕ) (s r v : ℤ) → v ≡ pos n *ℤ s +ℤ r → s <ℤ pos 0 → nat_abs r < n → v <ℤ pos 0
over_negative n s r v e h k = plain (pos n *ℤ s) (pos n *ℤ neg_ℤ s) turned e (outweighs (neg_ℤ s) (neg_ℤ r) n (omega (arith, ints)) (omega (arith, ints)))
  where
    turned : pos n *ℤ neg_ℤ s ≡ neg_ℤ (pos n *ℤ s)
    turned = simp monomials

    plain : (m k : ℤ) → k ≡ neg_ℤ m → v ≡ m +ℤ r → pos 0 <ℤ (k +ℤ neg_ℤ r) → v <ℤ pos 0
    plain m k f g h = omega (arith, ints)

over_level : (n : ℕ) (s r v : ℤ) → v ≡ pos n *ℤ s +ℤ r → s ≡ pos 0 → v ≡ r
over_level n s r v e h = let f : v ≡ pos n *ℤ pos 0 +ℤ r = rw h at e in omega (arith, ints)

-- an edge that isn't vertical
slanted_above : (e : Edge) (z : Point) → 0 < z.w → ¬ (run e ≡ pos 0) → (n : ℕ) → nat_abs (run e) < n → IsJustOver e z (near n z (pos 0) (pos 1))
slanted_above e z wide slanted n large =
    let q = near n z (pos 0) (pos 1) in
    let some : 0 < n = omega arith in
    let first = column_above z e.a.x n some in
    let last = column_above z e.b.x n some in
    by_sign (side e z)
    (λ up. let up_q = over_positive n (side e z) (run e) (side e q) (side-above e z n) up large in
    record { on = side_off e q (off_from_positive _ up_q); below = up_tests _ _ _ _ _ _ _ _ (side e z) (side e q) first.le last.lt last.le first.lt up up_q })
    (λ down. let down_q = over_negative n (side e z) (run e) (side e q) (side-above e z n) down large in
    record { on = side_off e q (off_from_negative _ down_q); below = down_tests _ _ _ _ _ _ _ _ (side e z) (side e q) first.le last.lt last.le first.lt down down_q })
    (λ level. let is_run : side e q ≡ run e = over_level n (side e z) (run e) (side e q) (side-above e z n) level in
    by_sign (run e)
    (λ right. let up_q : pos 0 <ℤ side e q = rw is_run right in
    record { on = side_off e q (off_from_positive _ up_q); below = level_up_tests _ _ _ _ _ _ _ _ (side e z) (side e q) first.le last.lt last.le first.lt level up_q (no_range e.b.x e.a.x z wide (right_order right)) })
    (λ left. let down_q : side e q <ℤ pos 0 = rw is_run left in
    record { on = side_off e q (off_from_negative _ down_q); below = level_down_tests _ _ _ _ _ _ _ _ (side e z) (side e q) first.le last.lt last.le first.lt level down_q (no_range e.a.x e.b.x z wide (left_order left)) })
    (λ vertical. absurd (slanted vertical)))
  where
    right_order : pos 0 <ℤ run e → e.a.x ≤ℤ e.b.x
    right_order h = omega (arith, ints)

    left_order : run e <ℤ pos 0 → e.b.x ≤ℤ e.a.x
    left_order h = omega (arith, ints)

by_test : {C : Type 0} (b : Bool) → (b ≡ true → C) → (b ≡ false → C) → C
by_test true f g = f refl
by_test false f g = g refl

vertical_above : (e : Edge) (z : Point) → 0 < z.w → run e ≡ pos 0 → is_on e z ≡ false → Above z (IsJustOver e z)
vertical_above e z wide vertical off =
    large_weaker (λ n. IsOff e (near n z (pos 0) (pos 1)) × (0 < n)) (λ n. IsJustOver e z (near n z (pos 0) (pos 1)))
    (λ n h. let first = column_above z e.a.x n h.1 in let last = column_above z e.b.x n h.1 in record {
      on = h.0;
      below = none_tests _ _ _ _ _ _ _ _ _ _ _ _ first.le last.lt last.le first.lt (no_range e.a.x e.b.x z wide (left_order vertical)) (no_range e.b.x e.a.x z wide (right_order vertical));
    })
    (large_both (λ n. IsOff e (near n z (pos 0) (pos 1))) (λ n. 0 < n) (above_near (IsOff e) z (off_near e z off)) (1, λ n le. le))
  where
    right_order : run e ≡ pos 0 → e.a.x ≤ℤ e.b.x
    right_order h = omega (arith, ints)

    left_order : run e ≡ pos 0 → e.b.x ≤ℤ e.a.x
    left_order h = omega (arith, ints)

-- if no vertical edge passes through the point
pub edge_above : (e : Edge) (z : Point) → 0 < z.w → (is_on e z ≡ true → ¬ (run e ≡ pos 0)) → Above z (IsJustOver e z)
edge_above e z wide upright = by_zero (run e)
    (λ slanted. (nat_abs (run e) + 1, λ n le. slanted_above e z wide slanted n (omega arith)))
    (λ vertical. by_test (is_on e z) (λ on. absurd (upright on vertical)) (vertical_above e z wide vertical))

vertex_off : (v : Vertex) (z : Point) (n : ℕ) → z.y ≡ pos z.w *ℤ v.y → is_at v (near n z (pos 0) (pos 1)) ≡ false
vertex_off v z n level = not_at_row v (near n z (pos 0) (pos 1)) (plain (pos n) z.y (pos z.w) v.y (pos (n * z.w)) (omega (arith, ints)) level)
  where
    plain : (n y w b m : ℤ) → m ≡ n *ℤ w → y ≡ w *ℤ b → ¬ (n *ℤ y +ℤ pos 1 ≡ m *ℤ b)
    plain n y w b m h k e = off (n *ℤ y) (m *ℤ b) (rw (h, k) (simp monomials (omega (arith, ints)))) e
      where
        off : (u v : ℤ) → u ≡ v → u +ℤ pos 1 ≡ v → ⊥
        off u v h e = omega (arith, ints)

at_row : (x a y b : ℤ) → (int_eq x a && int_eq y b) ≡ true → y ≡ b
at_row x a y b h = grind (arith, ints)

pub vertex_above : (v : Vertex) (z : Point) → Above z (IsNotAt v)
vertex_above v z = by_test (is_at v z)
    (λ here. (0, λ n le. vertex_off v z n (at_row z.x (pos z.w *ℤ v.x) z.y (pos z.w *ℤ v.y) here)))
    (λ off. above_near (IsNotAt v) z (not_at_near v z off))
